-- Items and members nest less deep than their array or object.
use Rattle.std.proofs.Common.{◌≡◌, ℕ, zero, suc, ◌<◌, ◌≤◌, max, List, [], ◌∷◌, length, get_or, Option, Some, None}
use Rattle.std.proofs.Common.{Ordering, ap, arith}
use Rattle.std.specs.Ordering.{nat_cmp, match_ordering}
use Rattle.std.specs.declared.cmp.Ordering.TheVariants.{Less, Equal, Greater}
use Rattle.std.specs.Cmp.Lexicographic.{slice_cmp}
use Rattle.jskw_array.specs.Words.{Data, Items, Members, array, as_array, depth, get_member, items_depth, items_view}
use Rattle.jskw_array.specs.Words.{member, members_depth, no_members, view}
use Rattle.serde_json.specs.declared.value.Value.{Value}

same_value : (x d : Data) → Some x ≡ Some d → x ≡ d
same_value x d e = ap held e
  where
    held : Option Data → Data
    held (Some y) = y
    held None = x

pub same_items : (xs ds : Items) → Some xs ≡ Some ds → xs ≡ ds
same_items xs ds e = ap held e
  where
    held : Option Items → Items
    held (Some ys) = ys
    held None = xs

-- the member that is found, or one behind it
here_or_below : (o : Ordering) (found : Option Data) (x d : Data) (n : ℕ) → (found ≡ Some d → depth d ≤ n)
    → match_ordering o found (Some x) found ≡ Some d → depth d ≤ max (depth x) n
here_or_below Less found x d n below e = let r = below e in omega arith
here_or_below Equal found x d n below e = let same : depth x ≡ depth d = ap depth (same_value x d e) in omega arith
here_or_below Greater found x d n below e = let r = below e in omega arith

-- no member nests deeper than the deepest
pub member_depth : (name : List ℕ) (ms : Members) (d : Data) → get_member name ms ≡ Some d → depth d ≤ members_depth ms
member_depth name no_members d e = cc
member_depth name (member k x ms) d e =
    here_or_below (slice_cmp nat_cmp name k) (get_member name ms) x d (members_depth ms) (member_depth name ms d) e

-- nor does an item
pub item_depth : (vs : List Value) (i : ℕ) (v : Value) → i < length vs → v ≡ get_or vs i v
    → depth (view v) ≤ items_depth (items_view vs)
item_depth [] i v within is = absurd (omega arith)
item_depth (x ∷ vs) zero v within is = let same = ap (λ y. depth (view y)) is in omega arith
item_depth (x ∷ vs) (suc i) v within is = let below = item_depth vs i v (omega arith) is in omega arith

pub depth_array : (d : Data) (ds : Items) → as_array d ≡ Some ds → depth d ≡ suc (items_depth ds)
depth_array (array es) ds e = ap (λ x. suc (items_depth x)) (same_items es ds e)
depth_array _ ds e = cc
