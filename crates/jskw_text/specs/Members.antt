-- Members as the members of a tree; for private clauses.
use Rattle.std.specs.Prelude.{◌≡◌, ℕ, List, [], ◌∷◌, drop, string_bytes, ⊤}
use Rattle.std.specs.Cmp.Lexicographic.{slice_cmp}
use Rattle.std.specs.Ordering.{nat_cmp}
use Rattle.std.specs.declared.cmp.Ordering.TheVariants.{Less}
use Rattle.jskw_value.specs.DecimalTree.{decimal_tree}
use Rattle.jskw_value.specs.Tree.{Members, no_members, member}
use Rattle.jskw_value.specs.declared.decimal_tree.DecimalTree.{DecimalTree}
use Rattle.jskw_value.specs.declared.members.Member.{Member}

-- each name beside the tree of its value
abbrev pub members_seen : List (Member DecimalTree) → Members
members_seen [] = no_members
members_seen (m ∷ ms) = member (string_bytes m.name) (decimal_tree m.value) (members_seen ms)

-- all of these names are greater
abbrev pub AreGreater : List ℕ → List (Member DecimalTree) → Type 0
AreGreater name [] = ⊤
AreGreater name (m ∷ ms) = (slice_cmp nat_cmp name (string_bytes m.name) ≡ Less) × AreGreater name ms

-- from a place on
abbrev pub AreBehind : List ℕ → List (Member DecimalTree) → ℕ → Type 0
AreBehind name ms place = AreGreater name (drop place ms)
