-- What a stop says of the text; for private clauses.
use Rattle.std.specs.Prelude.{◌≡◌, ℕ, List, [], ◌∷◌, ◌++◌, map, Option, None, Result, Err, IfSome, string_bytes, ⊤}
use Rattle.json.specs.Token.{Token}
use Rattle.jskw_value.specs.Pointer.{Pointer}
use Rattle.jskw_text.specs.Reading.{reading}
use Rattle.jskw_text.specs.declared.fault.Stop.{Stop}
use Rattle.jskw_text.specs.declared.fault.Stop.TheVariants.{Broken, Inexact, Memory}

-- the location that has these steps, the innermost first
abbrev pub location_of : List (List ℕ) → Pointer
location_of [] = []
location_of (s ∷ ss) = location_of ss ++ s

-- the text is no JSON; or the location is that of the first number that is no decimal, if it is
abbrev pub IsStopOf : List ℕ → Stop → Type 0
IsStopOf text Broken = reading text ≡ None
IsStopOf text (Inexact l) = IfSome (reading text) (λ r. r ≡ Err (location_of (map string_bytes l.items)))
IsStopOf text (Memory e) = ⊤

-- what was read of tokens is nothing; or it is an error, if the tokens go on well
abbrev pub Explains : {A : Type 0} → Stop → Option (Result A Pointer × List Token) → Type 0
Explains Broken o = o ≡ None
Explains (Inexact l) o = IfSome o (λ p. p.0 ≡ Err (location_of (map string_bytes l.items)))
Explains (Memory e) o = ⊤

-- the location is p
abbrev pub IsAt : Pointer → Stop → Type 0
IsAt p Broken = ⊥
IsAt p (Inexact l) = location_of (map string_bytes l.items) ≡ p
IsAt p (Memory e) = ⊤

-- the same stop, its location seen from outside, unless memory ran out
abbrev pub IsOutside : (Pointer → Pointer) → Stop → Stop → Type 0
IsOutside outside Broken s = s ≡ Broken
IsOutside outside (Inexact l) s = IsAt (outside (location_of (map string_bytes l.items))) s
IsOutside outside (Memory e) s = s ≡ Memory e
