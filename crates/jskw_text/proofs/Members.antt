-- Members beside those of a tree.
use Rattle.std.proofs.Common.{◌≡◌, ℕ, List, [], ◌∷◌, ◌++◌, map, take, drop, string_bytes, refl, sym, ap, ◌∙◌}
use Rattle.std.proofs.Common.{subst}
use Rattle.std.proofs.lemmas.Cmp.{nat_list_cmp_total}
use Rattle.std.proofs.lemmas.List.{take-append-drop}
use Rattle.std.specs.Cmp.Lexicographic.{slice_cmp}
use Rattle.std.specs.Ordering.{nat_cmp, ordering_reverse}
use Rattle.std.specs.declared.cmp.Ordering.{Ordering}
use Rattle.std.specs.declared.cmp.Ordering.TheVariants.{Less, Greater}
use Rattle.jskw_value.specs.DecimalTree.{decimal_tree, members_from}
use Rattle.jskw_value.specs.Members.{put as put_member, put_all, lasts}
use Rattle.jskw_value.specs.Tree.{object, member}
use Rattle.jskw_value.specs.declared.decimal_tree.DecimalTree.{DecimalTree, Object}
use Rattle.jskw_value.specs.declared.members.Member.{Member}
use Rattle.jskw_value.proofs.DecimalTrees.{on_value, tree_of_object}
use Rattle.jskw_value.proofs.LastMembers.{by_order, one_name}
use Rattle.jskw_text.specs.Members.{members_seen, AreGreater, AreBehind}
use Rattle.jskw_text.specs.Reading.{put}

members_are : (ms : List (Member DecimalTree)) → members_from (map on_value ms) ≡ members_seen ms
members_are [] = refl
members_are (m ∷ ms) = ap (member (string_bytes m.name) (decimal_tree m.value)) (members_are ms)

-- an object's tree
pub tree_of_members : (ms : List (Member DecimalTree)) → decimal_tree (Object ms) ≡ object (members_seen ms)
tree_of_members ms = tree_of_object ms ∙ ap object (members_are ms)

-- one member more is put at its name
put_seen : (m : Member DecimalTree) (ms : List (Member DecimalTree))
    → members_seen (put_member m ms) ≡ put (string_bytes m.name) (decimal_tree m.value) (members_seen ms)
put_seen m [] = refl
put_seen m (x ∷ xs) = by_order (slice_cmp nat_cmp (string_bytes m.name) (string_bytes x.name))
    (λ e. rw e refl)
    (λ e. rw e (ap (λ k. member k (decimal_tree m.value) (members_seen xs))
    (one_name (string_bytes m.name) (string_bytes x.name) e)))
    (λ e. rw e (ap (member (string_bytes x.name) (decimal_tree x.value)) (put_seen m xs)))

all_pushed : (found ms : List (Member DecimalTree)) (m : Member DecimalTree)
    → put_all found (ms ++ m ∷ []) ≡ put_member m (put_all found ms)
all_pushed found [] m = refl
all_pushed found (x ∷ xs) m = all_pushed (put_member x found) xs m

-- also behind others
pub last_seen : (ms : List (Member DecimalTree)) (m : Member DecimalTree)
    → members_seen (lasts (ms ++ m ∷ [])) ≡ put (string_bytes m.name) (decimal_tree m.value) (members_seen (lasts ms))
last_seen ms m = ap members_seen (all_pushed [] ms m) ∙ put_seen m (lasts ms)

-- ---- a member that is put in front of greater ones

abbrev by_name : Member DecimalTree → Member DecimalTree → Ordering
by_name m n = slice_cmp nat_cmp (string_bytes m.name) (string_bytes n.name)

-- the other way round
turned : (m n : Member DecimalTree) → by_name m n ≡ Less → by_name n m ≡ Greater
turned m n e = nat_list_cmp_total.antisymm (string_bytes n.name) (string_bytes m.name) ∙ ap ordering_reverse e

turned_back : (m n : Member DecimalTree) → by_name m n ≡ Greater → by_name n m ≡ Less
turned_back m n e = nat_list_cmp_total.antisymm (string_bytes n.name) (string_bytes m.name) ∙ ap ordering_reverse e

-- the order in which two members are put does not matter, if their names differ
put_before : (m b : Member DecimalTree) (xs : List (Member DecimalTree)) → by_name m b ≡ Less
    → put_member b (put_member m xs) ≡ put_member m (put_member b xs)
put_before m b [] l = rw (l, turned m b l) refl
put_before m b (x ∷ xs) l =
    by_order (by_name m x)
    (λ e. by_order (by_name b x)
    (λ f. rw (e, f, l, turned m b l) refl)
    (λ f. rw (e, f, l, turned m b l) refl)
    (λ f. rw (e, f, turned m b l) (rw e refl)))
    (λ e.
    let one : string_bytes m.name ≡ string_bytes x.name = one_name (string_bytes m.name) (string_bytes x.name) e in
    let behind : by_name b x ≡ Greater =
    subst (λ k. slice_cmp nat_cmp (string_bytes b.name) k ≡ Greater) one (turned m b l) in
    rw (e, behind, turned m b l) (rw e refl))
    (λ e.
    let before : by_name x b ≡ Less =
    nat_list_cmp_total.trans (string_bytes x.name) (string_bytes m.name) (string_bytes b.name) (turned_back m x e) l in
    rw (e, turned x b before) (rw e (ap (λ ys. x ∷ ys) (put_before m b xs l))))

all_before : (m : Member DecimalTree) (found bs : List (Member DecimalTree)) → AreGreater (string_bytes m.name) bs
    → put_all (put_member m found) bs ≡ put_member m (put_all found bs)
all_before m found [] g = refl
all_before m found (b ∷ bs) g =
    ap (λ ms. put_all ms bs) (put_before m b found g.0) ∙ all_before m (put_member b found) bs g.1

all_appended : (found ms ns : List (Member DecimalTree)) → put_all found (ms ++ ns) ≡ put_all (put_all found ms) ns
all_appended found [] ns = refl
all_appended found (m ∷ ms) ns = all_appended (put_member m found) ms ns

pub put_inside : (ms : List (Member DecimalTree)) (i : ℕ) (m : Member DecimalTree)
    → AreBehind (string_bytes m.name) ms i
    → members_seen (lasts (take i ms ++ m ∷ drop i ms))
    ≡ put (string_bytes m.name) (decimal_tree m.value) (members_seen (lasts ms))
put_inside ms i m g =
    let front = take i ms in
    let rest = drop i ms in
    ap members_seen (all_appended [] front (m ∷ rest) ∙ all_before m (put_all [] front) rest g
    ∙ ap (put_member m) (sym (all_appended [] front rest) ∙ ap (put_all []) (take-append-drop i ms)))
    ∙ put_seen m (lasts ms)
