-- Texts that grow at their end.
use Rattle.std.proofs.Common.{◌≡◌, ℕ, List, [], ◌∷◌, ◌++◌, Bool, true, false, cond, refl, sym, ap, subst, ◌∙◌}
use Rattle.std.proofs.Common.{append_assoc, append-nil}
use Rattle.jskw_value.specs.Text.{Extends, AppendsPart, AppendsUpTo}

-- nothing more
pub extends_itself : (a : List ℕ) → Extends a a
extends_itself a = ([], sym (append-nil a))

-- something more, or, where that failed, nothing
pub extends_tried : (a b bs : List ℕ) (pushed : Bool) → b ≡ cond pushed (a ++ bs) a → Extends a b
extends_tried a b bs true e = (bs, e)
extends_tried a b bs false e = ([], e ∙ sym (append-nil a))

-- something more
pub extends_pushed : (a b bs : List ℕ) → b ≡ a ++ bs → Extends a b
extends_pushed a b bs e = (bs, e)

-- more and more
pub extends_further : (a b c : List ℕ) → Extends a b → Extends b c → Extends a c
extends_further a b c h k = (h.0 ++ k.0, k.1 ∙ ap (λ x. x ++ k.0) h.1 ∙ append_assoc a h.0 k.0)

-- ---- a beginning of a text

-- nothing yet
pub up_to_nothing : (a all : List ℕ) → AppendsUpTo a a all all
up_to_nothing a all = record { part = []; is_new = sym (append-nil a); is_all = refl }

-- one piece more
pub up_to_more : (a b c x rest all : List ℕ) → AppendsUpTo a b (x ++ rest) all → c ≡ b ++ x → AppendsUpTo a c rest all
up_to_more a b c x rest all h e = record {
  part = h.part ++ x;
  is_new = e ∙ ap (λ z. z ++ x) h.is_new ∙ append_assoc a h.part x;
  is_all = append_assoc h.part x rest ∙ h.is_all;
}

-- a beginning of the next piece
pub part_of_next : (a b c x rest all : List ℕ) → AppendsUpTo a b (x ++ rest) all → AppendsPart b c x
    → AppendsPart a c all
part_of_next a b c x rest all h k =
    let p = k.appends.part in
    record {
      rest = k.rest ++ rest;
      appends = record {
        part = h.part ++ p;
        is_new = k.appends.is_new ∙ ap (λ z. z ++ p) h.is_new ∙ append_assoc a h.part p;
        is_all = append_assoc h.part p (k.rest ++ rest)
            ∙ ap (λ z. h.part ++ z) (sym (append_assoc p k.rest rest) ∙ ap (λ z. z ++ rest) k.appends.is_all)
            ∙ h.is_all;
      };
    }

-- what has come so far
pub part_so_far : (a b rest all : List ℕ) → AppendsUpTo a b rest all → AppendsPart a b all
part_so_far a b rest all h = record { rest = rest; appends = h }

-- nothing is left
pub up_to_end : (a b all : List ℕ) → AppendsUpTo a b [] all → b ≡ a ++ all
up_to_end a b all h = h.is_new ∙ ap (λ z. a ++ z) (sym (append-nil h.part) ∙ h.is_all)

-- nothing
pub part_nothing : (a all : List ℕ) → AppendsPart a a all
part_nothing a all = record { rest = all; appends = up_to_nothing a all }

-- all of it, or, where that failed, nothing
pub part_tried : (a b all : List ℕ) (pushed : Bool) → b ≡ cond pushed (a ++ all) a → AppendsPart a b all
part_tried a b all true e =
    record { rest = []; appends = record { part = all; is_new = e; is_all = append-nil all } }
part_tried a b all false e = subst (λ z. AppendsPart a z all) (sym e) (part_nothing a all)

-- the first byte and a beginning of what follows it
pub part_after : (a b c : List ℕ) (x : ℕ) (all : List ℕ) → b ≡ a ++ x ∷ [] → AppendsPart b c all
    → AppendsPart a c (x ∷ all)
part_after a b c x all e h = part_of_next a b c all [] (x ∷ all) (record {
  part = x ∷ [];
  is_new = e;
  is_all = ap (λ z. x ∷ z) (append-nil all);
}) h

pub ruleset lemmas = (extends_itself, extends_tried, extends_pushed, extends_further)

pub ruleset beginnings = (part_nothing, part_tried, part_after)
