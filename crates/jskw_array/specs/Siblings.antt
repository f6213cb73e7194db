-- What a compile reads of the members of a schema.
use Rattle.std.specs.Prelude.{ℕ, Option, Some, None, if◌then◌else◌}
use Rattle.serde_json.specs.Data.{Data, Members, array}
use Rattle.serde_json.specs.Events.{items_len}
use Rattle.serde_json.specs.Find.{get_member}
use Rattle.jskw_report.specs.Setting.{Setting, name_of, is_active}
use Rattle.jskw_report.specs.declared.keyword.KeywordName.{KeywordName}

-- the value of a keyword that is present and active
abbrev pub active_member : Setting → Members → KeywordName → Option Data
active_member s ms w = if is_active s w then get_member (name_of w) ms else None

-- how many schemas stand in the value of a member, if it is an array
abbrev pub array_schema_count : Option Data → Option ℕ
array_schema_count (Some (array ds)) = Some (items_len ds)
array_schema_count _ = None
