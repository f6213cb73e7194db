-- The lines for the members of a schema in bytes that are not checked, under a setting that numbers name, and for those
-- that a later one of the same name replaces.
use Rattle.std.specs.Prelude.{◌≡◌, ℕ, List, [], ◌∷◌, ◌++◌, false, flat_map, Option, None, Some, Result, Ok, Err}
use Rattle.serde_json.specs.Data.{Data}
use Rattle.jskw_report.specs.Setting.{Setting, with_object_layer}
use Rattle.jskw_service.specs.Request.{value_of}
use Rattle.jskw_unchecked.specs.Reason.{reason_name}
use Rattle.jskw_unchecked.specs.Unchecked.{unchecked}
use Rattle.jskw_unchecked.specs.declared.member.UncheckedMember.{UncheckedMember}
use Rattle.jskw_c.specs.Compiled.{Fault, bad_setting, not_json, IsTextOf}
use Rattle.jskw_c.specs.Compiled as compiled
use Rattle.jskw_c.specs.Line.{words_line}
use Rattle.jskw_c.specs.Repeated.{repeated_lines}
use Rattle.jskw_c.specs.Status.{VALID, INVALID}

-- ---- the lines

-- the line of a member: its keyword location and the reason
abbrev pub member_line : UncheckedMember → List ℕ
member_line m = words_line (m.location ∷ reason_name m.reason ∷ [])

-- the lines of the members, in order
abbrev pub member_lines : List UncheckedMember → List ℕ
member_lines = flat_map member_line

-- the lines of the schema, without an object layer, or why there are none
abbrev pub unchecked_from : Setting → List ℕ → Option Data → Result (List ℕ) Fault
unchecked_from s bytes None = Err (not_json bytes)
unchecked_from s bytes (Some d) = Ok (member_lines (unchecked d (with_object_layer false s) []) ++ repeated_lines bytes)

abbrev pub unchecked_of : Option Setting → List ℕ → Result (List ℕ) Fault
unchecked_of None bytes = Err bad_setting
unchecked_of (Some s) bytes = unchecked_from s bytes (value_of bytes)

-- ---- the status and the text

-- VALID exactly where every member is checked, or is an annotation, and none is replaced: where there is no line
abbrev pub status_of_lines : List ℕ → ℕ
status_of_lines [] = VALID
status_of_lines (b ∷ bs) = INVALID

abbrev pub status_of_list : Result (List ℕ) Fault → ℕ
status_of_list (Ok lines) = status_of_lines lines
status_of_list (Err f) = compiled.fault_status f

abbrev pub IsListText : Result (List ℕ) Fault → List ℕ → Type 0
IsListText (Ok lines) text = text ≡ lines
IsListText (Err f) text = IsTextOf f text
