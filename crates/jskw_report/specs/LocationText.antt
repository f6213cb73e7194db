-- The texts of locations, and of keyword locations in two parts.
use Rattle.std.specs.Prelude.{string_bytes}
use Rattle.std.specs.Arc.{arc_str_bytes}
use Rattle.jskw_value.specs.Pointer.{Pointer}
use Rattle.jskw_report.specs.declared.paths.text.LocationText.{LocationText}
use Rattle.jskw_report.specs.declared.paths.text.LocationText.TheVariants.{Short, Shared}
use Rattle.jskw_report.specs.declared.paths.text.Writing.{Writing}
use Rattle.jskw_report.specs.declared.paths.text.Writing.TheVariants as writing

-- the bytes of the text of a location
abbrev pub text_bytes : LocationText → Pointer
text_bytes (Short text) = text
text_bytes (Shared text) = arc_str_bytes text

-- what was written of a text so far
abbrev pub written : Writing → Pointer
written (writing.Short text) = text
written (writing.Long text) = string_bytes text
