-- The members of an object as a list of pairs sorted by their names, and the code by which a proof tells such lists
-- apart.
use Rattle.std.specs.Prelude.{◌≡◌, ℕ, ◌+◌, ◌<◌, ◌≤◌, List, [], ◌∷◌, length, map, cond, String, string_bytes}
use Rattle.std.specs.Prelude.{slice_index_or, refl, Bool, Option}
use Rattle.std.specs.Coded.{Coded, code_by, coded_list, coded×}
use Rattle.std.specs.Cmp.Lexicographic.{slice_cmp}
use Rattle.std.specs.List.Sorted.{IsStrictlySortedBy, IsSortedByKey}
use Rattle.std.specs.Map.{keys_of, lookup}
use Rattle.std.specs.Ordering.{nat_cmp, is_gt, match_ordering}
use Rattle.std.specs.Set.{is_member}
use Rattle.std.specs.Str.{bytes_eq}
use Rattle.std.specs.contracts.alloc.Global as heap
use Rattle.std.specs.contracts.string.String as text
use Rattle.std.specs.contracts.impls.GlobalAllocator.TheImpl.{ghosts}
use Rattle.std.specs.declared.alloc.Global.{Global}
use Rattle.std.specs.declared.cmp.Ordering.{Ordering}
use Rattle.std.specs.declared.cmp.Ordering.TheVariants.{Less, Equal, Greater}
use Rattle.jskw_value.specs.declared.members.Member.{Member}

-- names that rise by their bytes, so that none comes twice
abbrev pub AreSorted : List (List ℕ) → Type 0
AreSorted ns = IsStrictlySortedBy (slice_cmp nat_cmp) ns

module _ {V : Type 0} where
  -- each name beside its value
  abbrev pub entries : List (Member V) → List (List ℕ × V)
  entries ms = map (λ m. (string_bytes m.name, m.value)) ms

  -- the names, in the order of the list
  abbrev pub member_names : List (Member V) → List (List ℕ)
  member_names ms = keys_of (entries ms)

  -- the value of a name
  abbrev pub value_named : List ℕ → List (Member V) → Option V
  value_named k ms = lookup (bytes_eq k) (entries ms)

  -- whether a member has the name
  abbrev pub has_named : List ℕ → List (Member V) → Bool
  has_named k ms = is_member bytes_eq (member_names ms) k

  -- how a member's name stands to k, by their bytes
  abbrev pub against : List ℕ → Member V → Ordering
  against k m = slice_cmp nat_cmp (string_bytes m.name) k

  -- with one member more, in front of the first whose name is greater
  abbrev pub inserted : Member V → List (Member V) → List (Member V)
  inserted m [] = m ∷ []
  inserted m (x ∷ xs) = cond (is_gt (against (string_bytes m.name) x)) (m ∷ x ∷ xs) (x ∷ inserted m xs)

  -- with one member more, in place of the one of its name if there is one
  abbrev pub put : Member V → List (Member V) → List (Member V)
  put m [] = m ∷ []
  put m (x ∷ xs) =
      match_ordering (slice_cmp nat_cmp (string_bytes m.name) (string_bytes x.name)) (m ∷ x ∷ xs)
      (m ∷ xs) (x ∷ put m xs)

  -- members put one after another to those that were found
  abbrev pub put_all : List (Member V) → List (Member V) → List (Member V)
  put_all found [] = found
  put_all found (m ∷ ms) = put_all (put m found) ms

  -- the members in the order of their names, of those of one name the last
  abbrev pub lasts : List (Member V) → List (Member V)
  lasts ms = put_all [] ms

  -- the member at index i has the name
  pub record IsIndexOf (k : List ℕ) (ms : List (Member V)) (i : ℕ) : Type 0 where
    pub within : i < length ms
    pub named : (d : Member V) → against k (slice_index_or ms i d) ≡ Equal

  -- the name would go to index i: the names before are less, and those from there on greater
  pub record IsGap (k : List ℕ) (ms : List (Member V)) (i : ℕ) : Type 0 where
    pub within : i ≤ length ms
    pub less : (j : ℕ) (d : Member V) → j < i → against k (slice_index_or ms j d) ≡ Less
    pub greater : (j : ℕ) (d : Member V) → i ≤ j → j < length ms → against k (slice_index_or ms j d) ≡ Greater

  -- no name is less than the one before it
  abbrev pub IsSortedByName : List (Member V) → Type 0
  IsSortedByName ms = IsSortedByKey (λ m. string_bytes m.name) (slice_cmp nat_cmp) ms

  -- the name at index i is less than the next
  abbrev pub IsStep : List (Member V) → ℕ → Type 0
  IsStep ms i =
      (d : Member V) → against (string_bytes (slice_index_or ms (i + 1) d).name) (slice_index_or ms i d) ≡ Less

  -- the members at index i and behind it have one name, and the names up to there rise
  pub record RepeatsAt (ms : List (Member V)) (i : ℕ) : Type 0 where
    pub within : i + 1 < length ms
    pub named : (d : Member V)
        → string_bytes (slice_index_or ms i d).name ≡ string_bytes (slice_index_or ms (i + 1) d).name
    pub rising : (j : ℕ) → j < i → IsStep ms j

-- the code of a name
abbrev pub text_code : Coded (String Global)
text_code = (text.the_row heap.the_row ghosts).coded

-- the code of a member, from the code of its value
abbrev pub member_code : {V : Type 0} → Coded V → Coded (Member V)
member_code {V} code =
    code_by (String Global × V) (coded× text_code code) (λ m. (m.name, m.value))
    (λ v. record { name = v.0; value = v.1 }) (λ _. refl)

-- the code of a list of members
abbrev pub members_code : {V : Type 0} → Coded V → Coded (List (Member V))
members_code code = coded_list (member_code code)
