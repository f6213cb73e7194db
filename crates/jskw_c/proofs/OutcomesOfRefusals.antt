-- The outcome of a compile that fails.
use Rattle.std.proofs.Common.{ℕ, List, Option, Result, Ok, Err, refl, inl, subst}
use Rattle.jskw_report.specs.Keyword.{Schema}
use Rattle.jskw_c.specs.Compiled.{Fault, CompilesIntoHandle}
use Rattle.jskw_c.specs.Replies.{CompilesBytes}
use Rattle.jskw_c.specs.Buffer.{WritesText}
use Rattle.jskw_c.specs.declared.ask.Outcome.{Outcome}

pub compiles_fault : {A : Type 0} (value : A → Schema) (compiled : Result Schema Fault) (outcome : Outcome) (result : ℕ)
    (handle : Option Schema) (old new : List ℕ) (count : ℕ)
    → CompilesBytes value (Err outcome) compiled → WritesText result outcome.status outcome.text.items old new count
    → CompilesIntoHandle compiled result handle handle old new count
compiles_fault value (Ok s) outcome result handle old new count made gives = absurd made
compiles_fault value (Err f) outcome result handle old new count made gives = (
  refl,
  inl (record {
    text =
        outcome.text.items;
    right =
        made.text_is;
    gives = subst (λ s. WritesText result s outcome.text.items old new count) made.status_is gives;
  }),
)
