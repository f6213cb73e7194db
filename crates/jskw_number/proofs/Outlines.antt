-- The outline of a quick set, and outlines without items.
use Rattle.std.proofs.Common.{◌≡◌, ◌≤◌, ◌∙◌, ℕ, length, nat_le, sym, true, false}
use Rattle.std.proofs.lemmas.Bool.{and_parts, leb-true, true≢false}
use Rattle.jskw_value.specs.Tree.{Items, Members, Tree, array, items, object}
use Rattle.jskw_number.specs.Outline.{in_outline}
use Rattle.jskw_number.specs.QuickSet.{is_in}
use Rattle.jskw_number.specs.declared.outline.Outline.{Outline}
use Rattle.jskw_number.specs.declared.quick_set.QuickSet.{QuickSet}

pub outline_with_arrays : (o : Outline) (q : QuickSet) → ((ts : Items) → is_in q (array ts) ≡ true)
    → ((ms : Members) → is_in q (object ms) ≡ o.objects)
    → (t : Tree) → in_outline o t ≡ true → is_in q t ≡ true
outline_with_arrays o q arrays objects (array ts) h = arrays ts
outline_with_arrays o q arrays objects (object ms) h = objects ms ∙ h
outline_with_arrays o q arrays objects t h = cc

pub outline_without_arrays : (o : Outline) (q : QuickSet) → ((ts : Items) → in_outline o (array ts) ≡ false)
    → ((ms : Members) → is_in q (object ms) ≡ o.objects)
    → (t : Tree) → in_outline o t ≡ true → is_in q t ≡ true
outline_without_arrays o q none objects (array ts) h = absurd (true≢false (sym h ∙ none ts))
outline_without_arrays o q none objects (object ms) h = objects ms ∙ h
outline_without_arrays o q none objects t h = cc

-- no object is in the set, and of the arrays only the empty one may be
pub no_items : (o : Outline) → o.objects ≡ false → ((n : ℕ) → o.least ≤ n → n ≤ o.most → n ≡ 0)
    → (t : Tree) → in_outline o t ≡ true → length (items t) ≡ 0
no_items o none few (array ts) h =
    let count = length (items (array ts)) in
    let p = and_parts (nat_le o.least count) (nat_le count o.most) h in
    few count (leb-true _ _ p.0) (leb-true _ _ p.1)
no_items o none few t h = cc
