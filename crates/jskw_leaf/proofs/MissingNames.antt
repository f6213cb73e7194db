-- The errors of the names that an object lacks, one name at a time.
use Rattle.std.proofs.Common.{◌≡◌, ℕ, ◌+◌, ◌<◌, List, [], ◌∷◌, length, get_or, drop, true, false, refl, ap, sym, ◌∙◌}
use Rattle.std.proofs.lemmas.List.{at_drop_more}
use Rattle.jskw_value.specs.Pointer.{Pointer}
use Rattle.jskw_value.specs.Tree.{Tree, is_object, has_name}
use Rattle.jskw_leaf.specs.Required.{required_fail, required_fails}

-- the name at an index, if the object lacks it
pub name_fails : (q : Pointer) (t : Tree) (p : Pointer) (ns : List (List ℕ)) (i : ℕ) (name : List ℕ)
    → is_object t ≡ true → i < length ns → name ≡ get_or ns i [] → has_name t (get_or ns i []) ≡ false
    → required_fails q t p (drop i ns) ≡ required_fail q t p name ∷ required_fails q t p (drop (i + 1) ns)
name_fails q t p ns i name h l is e =
    at_drop_more (required_fails q t p) ns i [] l ∙ rw (h, e) refl
    ∙ ap (λ n. required_fail q t p n ∷ required_fails q t p (drop (i + 1) ns)) (sym is)

pub fails_there : (q : Pointer) (t : Tree) (p : Pointer) (ns : List (List ℕ)) (i : ℕ) (d : List ℕ) → i < length ns
    → has_name t (get_or ns i d) ≡ true
    → required_fails q t p (drop i ns) ≡ required_fails q t p (drop (i + 1) ns)
fails_there q t p ns i d l e = at_drop_more (required_fails q t p) ns i d l ∙ rw e refl
