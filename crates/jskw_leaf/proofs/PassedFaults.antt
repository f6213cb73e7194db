-- A fault that is passed on is the refusal of the whole.
use Rattle.std.proofs.Common.{◌≡◌, Option, Result, Ok, Err, IsErrAnd, sym, subst}
use Rattle.jskw_report.specs.Compile.{CompilesKeyword, CompilesTo, refusal_of}
use Rattle.jskw_report.specs.KeywordValue.{Refusal}
use Rattle.jskw_report.specs.declared.error.CompileFault.{CompileFault}
use Rattle.jskw_report.specs.declared.error.CompileFault.TheVariants.{Bad, Memory}

-- the whole is refused where a part of it is
pub refused_whole : {V W K L : Type 0} (means : V → K) (whole : W → L) (x : CompileFault) (part : Result K Refusal)
    (all : Result L Refusal)
    → CompilesTo means (Err x) part → ((r : Refusal) → part ≡ Err r → all ≡ Err r) → CompilesTo whole (Err x) all
refused_whole means whole (Bad b) part all made then = (then (refusal_of b) made.0, made.1)
refused_whole means whole (Memory m) part all made then = tt

-- the same of a result that was a refusal
pub refused_part : {V W K L : Type 0} (means : V → K) (whole : W → L) (x : CompileFault) (r : Result V CompileFault)
    (part : Result K Refusal) (all : Result L Refusal)
    → r ≡ Err x → CompilesTo means r part → ((refusal : Refusal) → part ≡ Err refusal → all ≡ Err refusal)
    → CompilesTo whole (Err x) all
refused_part means whole x r part all is made then =
    refused_whole means whole x part all (subst (λ y. CompilesTo means y part) is made) then

-- the same of what `?` passes on
pub passed_on : {W L : Type 0} (whole : W → L) (x : CompileFault) (r : Result W CompileFault) (all : Result L Refusal)
    → IsErrAnd r (λ y. y ≡ x) → CompilesTo whole (Err x) all → CompilesTo whole r all
passed_on whole x (Ok w) all is made = absurd is
passed_on whole x (Err y) all is made = subst (λ z. CompilesTo whole (Err z) all) (sym is) made

pub passed_by_try : {V W K L : Type 0} (means : V → K) (whole : W → L) (x : CompileFault) (r : Result W CompileFault)
    (part : Result K Refusal) (all : Result L Refusal)
    → IsErrAnd r (λ y. y ≡ x) → CompilesTo means (Err x) part → ((r : Refusal) → part ≡ Err r → all ≡ Err r)
    → CompilesTo whole r all
passed_by_try means whole x r part all is made then =
    passed_on whole x r all is (refused_whole means whole x part all made then)

-- what is read may be written otherwise
pub compiles_as : {V K : Type 0} (means : V → K) (r : Option (Result V CompileFault)) (a b : Option (Result K Refusal))
    → a ≡ b → CompilesKeyword means r b → CompilesKeyword means r a
compiles_as means r a b e made = subst (CompilesKeyword means r) (sym e) made
