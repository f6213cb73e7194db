-- What is wanted is enough for a schema.
use Rattle.std.specs.Prelude.{◌≡◌, List, Ok}
use Rattle.serde_json.specs.Data.{Data}
use Rattle.jskw_value.specs.Pointer.{Pointer}
use Rattle.jskw_text.specs.declared.wanted.Level.{Level}
use Rattle.jskw_report.specs.Keyword.{Schema}
use Rattle.jskw_report.specs.Read.{read}
use Rattle.jskw_report.specs.Setting.{Setting}
use Rattle.jskw_wanted.specs.Seen.{Sees}

-- what is read of the schema, under any setting and at any place, looks at no more
abbrev pub IsEnough : Data → List Level → Type 0
IsEnough d ls = (s : Setting) (p : Pointer) (sch : Schema) → read d s p ≡ Ok sch → Sees sch ls
