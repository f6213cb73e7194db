-- Keyword locations in two parts.
use Rattle.std.specs.Prelude.{◌++◌}
use Rattle.std.specs.Arc.{arc_str_bytes}
use Rattle.jskw_value.specs.Pointer.{Pointer}
use Rattle.jskw_report.specs.declared.paths.keyword_location.Place.{Place}
use Rattle.jskw_report.specs.declared.paths.keyword_location.Place.TheVariants.{Whole, Below}

-- the location of a place
abbrev pub place_location : Place → Pointer
place_location (Whole location) = location
place_location (Below rest above) = arc_str_bytes above ++ rest
