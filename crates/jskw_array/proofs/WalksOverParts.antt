-- What a walk over a node's parts has left at a part, and at the end.
use Rattle.std.proofs.Common.{◌≡◌, ℕ, zero, suc, ◌+◌, ◌<◌, ◌≤◌, List, [], ◌∷◌, ◌++◌, length, get_or, drop, true, false}
use Rattle.std.proofs.Common.{◌&&◌, ◌||◌, sym, subst, if◌then◌else◌, ap, ◌∙◌, append_assoc, refl, arith}
use Rattle.std.proofs.lemmas.List.{drop_all}
use Rattle.jskw_array.specs.Words.{ArrayShapeValidator, CountsUpTo, Evaluation, Keywords, Part, Pointer, Schema, Tree}
use Rattle.jskw_array.specs.Words.{all_fail, all_height, all_hold, all_needed, all_pairs, fail, false_schema, is_empty}
use Rattle.jskw_array.specs.Words.{keyword, keyword_height, keyword_holds, keyword_needed, keyword_pairs}
use Rattle.jskw_array.specs.Words.{keywords_delegate, keywords_of, meaning_fail, meaning_holds, meaning_needed}
use Rattle.jskw_array.specs.Words.{meaning_pairs, meaning_unit, no_keywords, node_at, of_errors, one_keyword}
use Rattle.jskw_array.specs.Words.{own_keyword}
use Rattle.jskw_array.specs.Words.{pairs, part_delegates, part_meaning, schema_object, tree, units, validator_keyword}
use Rattle.jskw_array.specs.declared.part.LocatedValidator.{LocatedValidator}
use Rattle.jskw_report.proofs.HoldsIsNoFailure.{keyword_empty}
use Rattle.jskw_report.proofs.GatheredNodes.{drop_here}

-- `items` of a fused shape
abbrev pub items_keywords : {F Node Number Key : Type 0} → ArrayShapeValidator F Node Number Key → Keywords
items_keywords v = keyword v.items.location (validator_keyword v.items.validator) no_keywords

-- ---- a part and those behind it

abbrev pub part_tall : {F Node Number Key : Type 0} → Part F Node Number Key → ℕ
part_tall u = keyword_height (validator_keyword (own_keyword u).validator)

module _ {F Node Number Key : Type 0} where
  -- it holds where it has no errors
  pub part_empty : (u : Part F Node Number Key) (t : Tree) (p : Pointer)
      → meaning_holds (part_meaning u) t ≡ is_empty (meaning_fail (part_meaning u) t p)
  part_empty u t p = keyword_empty (validator_keyword (own_keyword u).validator) t p

-- the part u stands at the index i
module _ {F Node Number Key : Type 0} (us : List (Part F Node Number Key)) (i : ℕ) (u : Part F Node Number Key)
    (within : i < length us) (is : u ≡ get_or us i u) where
  abbrev rest : List (Part F Node Number Key)
  rest = drop (i + 1) us

  here : keywords_of (drop i us) ≡ keywords_of (u ∷ rest)
  here = ap keywords_of (drop_here us i u within is)

  pub hold_at : (t : Tree)
      → all_hold (keywords_of (drop i us)) t ≡ (meaning_holds (part_meaning u) t && all_hold (keywords_of rest) t)
  hold_at t = ap (λ ks. all_hold ks t) here

  pub needed_at : (t : Tree) → all_needed (keywords_of (drop i us)) t ≡ meaning_needed (part_meaning u) t
      + (if meaning_holds (part_meaning u) t then all_needed (keywords_of rest) t else 0)
  needed_at t = ap (λ ks. all_needed ks t) here

  -- where it holds, those behind it decide, and where it does not, none is asked
  pub passed_at : (t : Tree) → meaning_holds (part_meaning u) t ≡ true
      → (all_hold (keywords_of (drop i us)) t ≡ all_hold (keywords_of rest) t) × (all_needed (keywords_of (drop i us)) t
      ≡ meaning_needed (part_meaning u) t + all_needed (keywords_of rest) t)
  passed_at t holds = (
    hold_at t ∙ ap (λ b. b && all_hold (keywords_of rest) t) holds,
    needed_at t
        ∙ ap (λ b. meaning_needed (part_meaning u) t + (if b then all_needed (keywords_of rest) t else 0)) holds,
  )

  pub stopped_at : (t : Tree) → meaning_holds (part_meaning u) t ≡ false
      → (all_hold (keywords_of (drop i us)) t ≡ false)
      × (all_needed (keywords_of (drop i us)) t ≡ meaning_needed (part_meaning u) t + 0)
  stopped_at t fails = (
    hold_at t ∙ ap (λ b. b && all_hold (keywords_of rest) t) fails,
    needed_at t
        ∙ ap (λ b. meaning_needed (part_meaning u) t + (if b then all_needed (keywords_of rest) t else 0)) fails,
  )

  pub pairs_at : (t : Tree)
      → all_pairs (keywords_of (drop i us)) t ≡ meaning_pairs (part_meaning u) t + all_pairs (keywords_of rest) t
  pairs_at t = ap (λ ks. all_pairs ks t) here

  pub fail_at : (t : Tree) (p : Pointer)
      → all_fail (keywords_of (drop i us)) t p ≡ meaning_fail (part_meaning u) t p ++ all_fail (keywords_of rest) t p
  fail_at t p = ap (λ ks. all_fail ks t p) here

  pub delegates_at : keywords_delegate (keywords_of (drop i us))
      ≡ (part_delegates u || keywords_delegate (keywords_of rest))
  delegates_at = ap keywords_delegate here

  -- its node was gathered behind those before it
  pub part_taken : (t : Tree) (p : Pointer) (done now all : List Evaluation)
      → now ≡ done ++ node_at (own_keyword u).location p (meaning_unit (part_meaning u) t p) ∷ []
      → done ++ units (keywords_of (drop i us)) t p ≡ all → now ++ units (keywords_of rest) t p ≡ all
  part_taken t p done now all is whole =
      let x = node_at (own_keyword u).location p (meaning_unit (part_meaning u) t p) in
      let behind = units (keywords_of rest) t p in
      ap (λ es. es ++ behind) is ∙ append_assoc done (x ∷ []) behind
      ∙ ap (λ es. done ++ es) (sym (ap (λ ks. units ks t p) here)) ∙ whole

pub keywords_end : {F Node Number Key : Type 0} (us : List (Part F Node Number Key)) (i : ℕ) → length us ≤ i
    → keywords_of (drop i us) ≡ no_keywords
keywords_end us i end = ap keywords_of (drop_all i us end)

-- none of the parts is higher than all
pub part_height : {F Node Number Key : Type 0} (us : List (Part F Node Number Key)) (i : ℕ) (u : Part F Node Number Key)
    → i < length us → u ≡ get_or us i u → part_tall u ≤ all_height (keywords_of us)
part_height [] i u within is = absurd (omega arith)
part_height (r ∷ us) zero u within is = let e = ap part_tall is in omega (arith, e)
part_height (r ∷ us) (suc i) u within is = let below = part_height us i u (omega arith) is in omega (arith, below)

-- ---- the keyword k that a part is

module _ {F Node Number Key : Type 0} (u : Part F Node Number Key) (k : LocatedValidator F Node Number Key)
    (is : k ≡ own_keyword u) where
  pub own_holds : (t : Tree) → keyword_holds (validator_keyword k.validator) t ≡ meaning_holds (part_meaning u) t
  own_holds t = ap (λ x. keyword_holds (validator_keyword x.validator) t) is

  pub own_needs : (t : Tree) → keyword_needed (validator_keyword k.validator) t ≡ meaning_needed (part_meaning u) t
  own_needs t = ap (λ x. keyword_needed (validator_keyword x.validator) t) is

  pub own_lower : keyword_height (validator_keyword k.validator) ≤ part_tall u
  own_lower =
      subst (λ x. keyword_height (validator_keyword k.validator) ≤ keyword_height (validator_keyword x.validator)) is
      (omega arith)

  pub own_counted : (t : Tree) {ctx next : ℕ} → CountsUpTo ctx next (keyword_pairs (validator_keyword k.validator) t)
      → CountsUpTo ctx next (meaning_pairs (part_meaning u) t)
  own_counted t {ctx} {next} counted =
      subst (λ x. CountsUpTo ctx next (keyword_pairs (validator_keyword x.validator) t)) is counted

  pub own_gives : (t : Tree) (p : Pointer)
      → meaning_unit (one_keyword (validator_keyword k.validator)) t p ≡ meaning_unit (part_meaning u) t p
  own_gives t p = ap (λ x. meaning_unit (one_keyword (validator_keyword x.validator)) t p) is

-- ---- `false`, and any schema

-- the node of `false` has its error
pub refused_tree : (q : Pointer) (t : Tree) (p : Pointer)
    → node_at q p (of_errors (fail (false_schema q) t p)) ≡ tree (false_schema q) t p
unfolding of_errors
refused_tree q t p = refl

-- a schema and a tree are one pair at least
pub one_pair : (s : Schema) (t : Tree) → 1 ≤ pairs s t
one_pair (false_schema q) t = omega arith
one_pair (schema_object q delegates ks) t = omega arith
