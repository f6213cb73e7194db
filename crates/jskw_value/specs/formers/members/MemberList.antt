-- `MemberList` as a type that may hold the type that holds it, by its values.
use Rattle.std.specs.Prelude.{◌≡◌, List, [], ◌∷◌, map, String, string_bytes}
use mathlib.Core.Path.{refl, sym, ap, subst}
use mathlib.Core.Former.{Former, this, const, pair, list, via}
use base.Stored.{code_map, gcons}
use denote.RattleType.{RattleType}
use denote.HoleLaws.{Alike}
use denote.HolePlaces.{Recodes, struct_places, laid}
use denote.Hole.Fix.{over}
use denote.Param.Weighed.{Weighed, w_list, w_via, w_pair, w_const}
use denote.Model.Placed.{view_places}
use Rattle.std.specs.Cmp.Lexicographic.{slice_cmp}
use Rattle.std.specs.List.Sorted.{IsStrictlySortedBy-prop}
use Rattle.std.specs.Ordering.{nat_cmp}
use Rattle.std.specs.formers.vec.Vec as vec
use Rattle.std.specs.declared.alloc.Global.{Global}
use Rattle.std.specs.contracts.alloc.Global as heap
use Rattle.std.specs.contracts.impls.GlobalAllocator.TheImpl.{ghosts}
use Rattle.jskw_value.specs.Members.{member_names, text_code, member_code, AreSorted}
use Rattle.jskw_value.specs.declared.members.Member.{Member}
use Rattle.jskw_value.specs.declared.members.MemberList.TheInside.{Inside}
use Rattle.jskw_value.specs.declared.members.MemberList.TheView.{view, invariant}
use Rattle.jskw_value.specs.contracts.members.Member as M
use Rattle.jskw_value.specs.contracts.members.MemberList as C
use Rattle.jskw_value.specs.contracts.members.MemberList.TheInside as I

-- a member is its name beside its value
abbrev pub member_former : Former {0} → Former {0}
member_former g =
    via (pair (const (String Global)) g) (λ X. Member (g.Of X)) (λ X m. (m.name, m.value))
    (λ X v. record { name = v.0; value = v.1 }) (λ X m. refl) (λ X v. refl)

abbrev pub the_former : Former {0} → Former {0}
the_former g = list (member_former g)

abbrev pub the_weighed : {g : Former {0}} → Weighed g → Weighed (the_former g)
the_weighed {g} w =
    w_list (w_via (w_pair (w_const (String Global)) w) (λ X. Member (g.Of X)) (λ X m. (m.name, m.value))
    (λ X v. record { name = v.0; value = v.1 }) (λ X m. refl) (λ X v. refl))

abbrev pub the_empty : List (Member ⊥)
the_empty = []

abbrev on_value : {X Y : Type 0} → (X → Y) → Member X → Member Y
on_value h m = record { name = m.name; value = h m.value }

-- a map of the values keeps the names
member_names-map : {X Y : Type 0} (h : X → Y) (ms : List (Member X))
    → member_names (map (on_value h) ms) ≡ member_names ms
member_names-map h [] = refl
member_names-map h (m ∷ ms) = ap (λ ks. string_bytes m.name ∷ ks) (member_names-map h ms)

abbrev fields : Former {0}
fields =
    via (vec.the_former (member_former this) Global) Inside (λ X a. a.list) (λ X v. record { list = v })
    (λ X a. refl) (λ X v. refl)

module _ (R S : RattleType) (h : R.Denot → S.Denot) where
  pub member_places : Alike R S h → Alike (M.the_row R) (M.the_row S) (on_value h)
  member_places a =
      struct_places (M.the_type R) (M.the_type S) (λ n. n, (h, tt)) _ (λ d. refl) refl
      ((refl, (λ n. refl, λ n. refl)), (laid _ _ _ a, tt))

  pub the_places : Alike R S h → Alike (C.the_row R) (C.the_row S) ((the_former this).map R.Denot S.Denot h)
  the_places a =
      view_places fields (the_former this) view (λ X Y k u. refl) (λ X u. refl) R.Denot S.Denot h (C.the_row R).coded
      (C.the_row S).coded
      (invariant R.Denot) (invariant S.Denot) (λ u. IsStrictlySortedBy-prop (slice_cmp nat_cmp) _)
      (λ u. IsStrictlySortedBy-prop (slice_cmp nat_cmp) _)
      (λ u e. subst AreSorted (sym (member_names-map h u.list.items)) e)
      (λ u e. subst AreSorted (member_names-map h u.list.items) e)
      (over (I.the_row R)) (over (I.the_row S))
      (struct_places (I.the_type R) (I.the_type S) (vec.mapped (on_value h), tt) _ (λ d. refl) refl (
        laid _ _ _ (vec.the_places heap.the_row ghosts (M.the_row R) (M.the_row S) (on_value h) (member_places a)),
        tt,
      ))

  pub the_codes_placed : Recodes R S h → Recodes (C.the_row R) (C.the_row S) ((the_former this).map R.Denot S.Denot h)
  the_codes_placed e d =
      sym (code_map (member_code R.coded).code (member_code S.coded).code (on_value h)
      (λ m. ap (gcons (text_code.code m.name)) (sym (e m.value))) d)
