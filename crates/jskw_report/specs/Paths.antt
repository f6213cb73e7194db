-- Locations as they are written (RFC 6901).
use Rattle.std.specs.Prelude.{ℕ, List, ◌++◌, flat_map}
use Rattle.jskw_value.specs.Pointer.{Pointer, name_token, index_token}
use Rattle.jskw_report.specs.declared.paths.LocationSegment.{LocationSegment}
use Rattle.jskw_report.specs.declared.paths.LocationSegment.TheVariants.{Name, Index}

-- a step as a reference token
abbrev pub segment_token : LocationSegment → Pointer
segment_token (Name name) = name_token name.now
segment_token (Index i) = index_token i

-- the location one step below p
abbrev pub segment_location : Pointer → LocationSegment → Pointer
segment_location p step = p ++ segment_token step

-- the location of the item that a list of indices leads to from the whole value
abbrev pub path_of : List ℕ → Pointer
path_of is = flat_map index_token is
