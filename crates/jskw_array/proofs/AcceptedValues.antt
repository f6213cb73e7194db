-- The values that a schema is known to accept, by its keywords.
use Rattle.std.proofs.Common.{◌≡◌, ◌≢◌, ℕ, ◌+◌, ◌<◌, ◌≤◌, List, [], length, get_or, drop, Bool, true, false, ◌&&◌, Some}
use Rattle.std.proofs.Common.{if◌then◌else◌, refl, sym, ap, ◌∙◌, arith}
use Rattle.std.proofs.lemmas.Bool.{and_parts, true≢false}
use Rattle.jskw_array.specs.Words.{Array, CountsUpTo, Each, Pointer, Rest, Schema, Part, Tree, all_hold, each_keyword}
use Rattle.jskw_array.specs.Words.{fail, false_schema, holds, is_in, keywords_of, meaning_holds, needed, rest_keyword}
use Rattle.jskw_array.specs.Words.{schema_object, part_meaning, validator_keyword}
use Rattle.jskw_report.proofs.HoldsElsewhere.{subject}
use Rattle.jskw_report.proofs.HoldsIsNoFailure.{holds_empty, no_element}
use Rattle.jskw_number.specs.declared.quick_set.QuickSet.{QuickSet}
use Rattle.jskw_array.proofs.WalksOverParts.{hold_at, keywords_end}
use Rattle.jskw_leaf.specs.declared.leaf.LeafValidator.{LeafValidator}
use Rattle.jskw_array.specs.declared.validator.Validator.{Validator}
use Rattle.jskw_array.specs.declared.validator.Validator.TheVariants as validator

-- ---- keywords with subschemas are about arrays

pub each_about : {F Node Number Key : Type 0} (v : Each F Node Number Key) → subject (each_keyword v) ≡ Some Array
each_about v = refl

pub rest_about : {F Node Number Key : Type 0} (v : Rest F Node Number Key) → subject (rest_keyword v) ≡ Some Array
rest_about v = refl

-- any validator but a leaf
pub about_arrays : {F Node Number Key : Type 0} (v : Validator F Node Number Key)
    → ((x : LeafValidator F Node Number Key) → v ≢ validator.Leaf x) → subject (validator_keyword v) ≡ Some Array
about_arrays (validator.Leaf x) h = absurd (h x refl)
about_arrays (validator.Each v) h = each_about v
about_arrays (validator.Rest v) h = rest_about v
about_arrays (validator.Matching v) h = refl
about_arrays (validator.Bare v) h = refl

-- ---- the values that all parts accept

-- what the parts before the index i and then the others accept, all accept
module _ {F Node Number Key : Type 0} (us : List (Part F Node Number Key)) where
  abbrev pub Accepted : QuickSet → ℕ → Type 0
  Accepted q i =
      (t : Tree) → is_in q t ≡ true → all_hold (keywords_of (drop i us)) t ≡ true → all_hold (keywords_of us) t ≡ true

  pub accepted_next : (q r both : QuickSet) (i : ℕ) (u : Part F Node Number Key) → i < length us → u ≡ get_or us i u
      → Accepted q i
      → ((t : Tree) → is_in r t ≡ true → meaning_holds (part_meaning u) t ≡ true)
      → ((t : Tree) → is_in both t ≡ true → (is_in q t && is_in r t) ≡ true)
      → Accepted both (i + 1)
  accepted_next q r both i u within is before here parts t h rest =
      let p = and_parts (is_in q t) (is_in r t) (parts t h) in
      before t p.0
      (hold_at us i u within is t ∙ ap (λ b. b && all_hold (keywords_of (drop (i + 1) us)) t) (here t p.1) ∙ rest)

  pub accepted_end : (q : QuickSet) (i : ℕ) → length us ≤ i → Accepted q i → (t : Tree) → is_in q t ≡ true
      → all_hold (keywords_of us) t ≡ true
  accepted_end q i end all t h = all t h (ap (λ ks. all_hold ks t) (keywords_end us i end))

-- a schema and a tree are one pair that is needed at least
pub one_needed : (s : Schema) (t : Tree) → 1 ≤ needed s t
one_needed (false_schema q) t = omega arith
one_needed (schema_object q marks ks) t = omega arith

-- what is valid has no errors
pub no_errors : (s : Schema) (t : Tree) (p : Pointer) → holds s t ≡ true → fail s t p ≡ []
no_errors s t p h = no_element (fail s t p) (sym (holds_empty s t p) ∙ h)

-- nor has the same schema under another name
pub accepted_errors : (s r : Schema) (t : Tree) (p : Pointer) → s ≡ r → holds s t ≡ true → fail r t p ≡ []
accepted_errors s r t p is h = no_errors r t p (ap (λ x. holds x t) (sym is) ∙ h)

-- one application that is counted is no more than n
pub counted_within : (old new n : ℕ) (b : Bool) → b ≡ true → 1 ≤ n → CountsUpTo old new (if b then 1 else 0)
    → CountsUpTo old new n
counted_within old new n true is least counted = record { from = counted.from; to = omega (arith, least, counted.to) }
counted_within old new n false is least counted = absurd (true≢false (sym is))
