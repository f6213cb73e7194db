-- What a look-up may have found.
use Rattle.std.proofs.Common.{◌≡◌, Bor, Bool, true, false, Option, Some, None, option_map, refl}
use Rattle.std.specs.Option.{option_map_or}

-- to see what was found is to look through what is lent
pub seen_through : {A B : Type 0} (f : A → B) (r : Option (Bor A))
    → option_map (λ x. f x.now) r ≡ option_map f (option_map (λ x. x.now) r)
seen_through f None = refl
seen_through f (Some x) = refl

-- where a test of what was found holds, something was found
pub passed : {A : Type 0} (p : A → Bool) (o : Option A) → option_map_or p o false ≡ true
    → (x : A) × ((o ≡ Some x) × (p x ≡ true))
passed p None h = absurd (cc)
passed p (Some x) h = (x, (refl, h))
