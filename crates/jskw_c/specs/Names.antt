-- Sets of the names of members; for private clauses.
use Rattle.std.specs.Prelude.{◌≡◌, ◌||◌, ℕ, List, bytes_eq}
use Rattle.std.specs.Borrow.{Bor}
use Rattle.std.specs.BTreeSet.{BTreeSet, contains}
use Rattle.std.specs.Cmp.Lexicographic.{slice_cmp}
use Rattle.std.specs.Ordering.{nat_cmp}
use Rattle.std.specs.declared.cmp.Ordering.{Ordering}
use Rattle.json.specs.Json.{Members}
use Rattle.jskw_c.specs.Repeated.{has_member_named}

abbrev pub name_cmp : Bor (List ℕ) → Bor (List ℕ) → Ordering
name_cmp a b = slice_cmp nat_cmp a.now b.now

-- the set has the names of these members
abbrev pub HasNames : BTreeSet (Bor (List ℕ)) → Members → Type 0
HasNames s ms = (q : Bor (List ℕ)) → contains name_cmp s q ≡ has_member_named q.now ms

-- the set has the names of these members, and this one
abbrev pub HasNamesAnd : BTreeSet (Bor (List ℕ)) → List ℕ → Members → Type 0
HasNamesAnd s k ms = (q : Bor (List ℕ)) → contains name_cmp s q ≡ (bytes_eq q.now k || has_member_named q.now ms)
