-- What a compile owes to the reading of its schema or keyword.
use Rattle.std.specs.Prelude.{◌≡◌, [], Option, Some, None, Result, Ok, Err, ⊤}
use Rattle.serde_json.specs.Data.{Data, Members}
use Rattle.serde_json.specs.View.{view}
use Rattle.serde_json.specs.declared.value.Value.{Value}
use Rattle.jskw_report.specs.Errors.{kind_of, schema_path_of}
use Rattle.jskw_report.specs.KeywordValue.{Refusal}
use Rattle.jskw_report.specs.Read.{Asserts, asserted, readings}
use Rattle.jskw_report.specs.Setting.{CompilePoint}
use Rattle.jskw_report.specs.declared.keyword.KeywordName.{KeywordName}
use Rattle.jskw_report.specs.declared.error.ValidationError.{ValidationError}
use Rattle.jskw_report.specs.declared.error.CompileFault.{CompileFault}
use Rattle.jskw_report.specs.declared.error.CompileFault.TheVariants.{Bad, Memory}

-- a compile error, over the values of `serde_json`
abbrev pub refusal_of : {F Number Key : Type 0} → ValidationError F Value Number Key → Refusal
refusal_of e = record { kind = kind_of e.kind; location = schema_path_of e.schema_path; value = view e.instance.now }

-- what the keyword w asserts: the schema that has it stands at the point, ms are its members, and d is the keyword's
-- value
abbrev pub keyword_reading : KeywordName → CompilePoint → Members → Data → Asserts
keyword_reading w point ms d = asserted w point.setting point.location ms (readings d)

-- the fault is this refusal, with an empty instance location; or memory ran out
abbrev pub Refuses : CompileFault → Refusal → Type 0
Refuses (Bad e) r = (refusal_of e ≡ r) × (e.instance_path ≡ [])
Refuses (Memory e) r = ⊤

-- the fault is the refusal that is read, with an empty instance location; or memory ran out; or what was made means
-- what is read
abbrev pub CompilesTo : {V K : Type 0} → (V → K) → Result V CompileFault → Result K Refusal → Type 0
CompilesTo means (Ok v) read = read ≡ Ok (means v)
CompilesTo means (Err (Bad e)) read = (read ≡ Err (refusal_of e)) × (e.instance_path ≡ [])
CompilesTo means (Err (Memory e)) read = ⊤

-- nothing is made exactly where nothing is asserted
abbrev pub CompilesKeyword : {V K : Type 0} → (V → K) → Option (Result V CompileFault) → Option (Result K Refusal)
    → Type 0
CompilesKeyword means None None = ⊤
CompilesKeyword means (Some made) (Some read) = CompilesTo means made read
CompilesKeyword means None (Some read) = ⊥
CompilesKeyword means (Some made) None = ⊥
