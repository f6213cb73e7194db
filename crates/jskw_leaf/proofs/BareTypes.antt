-- An object of a single member is a bare type check by its `type` alone.
use Rattle.std.proofs.Common.{◌≡◌, ℕ, List, Some, None, Ordering, nat_cmp, is_eq, Bool, true, false, ◌&&◌, bytes_eq}
use Rattle.std.proofs.Common.{refl, sym, ap, ◌∙◌, arith}
use Rattle.std.proofs.lemmas.Map.Text.{is_eq-slice_cmp}
use Rattle.std.proofs.lemmas.Slice.Eq.{bytes_eq-Decides}
use Rattle.std.specs.Cmp.Lexicographic.{slice_cmp}
use Rattle.std.specs.Option.{option_map_or}
use Rattle.serde_json.specs.Data.{Data, Members, member, no_members, object, string}
use Rattle.serde_json.specs.Events.{members_len}
use Rattle.serde_json.specs.Find.{as_str, get_member}
use Rattle.jskw_report.specs.Setting.{name_of}
use Rattle.jskw_report.specs.Sibling.{is_inlined_type, is_only_type}
use Rattle.std.specs.Ordering.{match_ordering}
use Rattle.std.specs.declared.cmp.Ordering.TheVariants.{Less, Equal, Greater}
use Rattle.jskw_report.specs.declared.keyword.KeywordName.TheVariants.{TypeKeyword}

-- a text alone names a type
pub no_text : (d : Data) → as_str d ≡ None → is_inlined_type d ≡ false
no_text (string s) e = cc
no_text _ e = refl

pub of_text : (d : Data) (s : List ℕ) → as_str d ≡ Some s → is_inlined_type d ≡ is_inlined_type (string s)
of_text (string r) s e = ap (λ o. is_inlined_type (string (option_map_or (λ x. x) o r))) e
of_text _ s e = cc

-- two texts are equal either way round
turned : (xs ys : List ℕ) → bytes_eq xs ys ≡ bytes_eq ys xs
turned xs ys = go (bytes_eq xs ys) (bytes_eq ys xs) refl refl
  where
    go : (a b : Bool) → bytes_eq xs ys ≡ a → bytes_eq ys xs ≡ b → a ≡ b
    go true b e f = sym (sym f ∙ (bytes_eq-Decides ys xs).1 (sym ((bytes_eq-Decides xs ys).0 e)))
    go false true e f = sym e ∙ (bytes_eq-Decides xs ys).1 (sym ((bytes_eq-Decides ys xs).0 f))
    go false false e f = refl

one_member : (o : Ordering) (b : Bool) (d : Data) → is_eq o ≡ b
    → (b && is_inlined_type d) ≡ option_map_or is_inlined_type (match_ordering o None (Some d) None) false
one_member Less b d e = rw (sym e) refl
one_member Equal b d e = rw (sym e) refl
one_member Greater b d e = rw (sym e) refl

pub only_type_at : (ms : Members) → members_len ms ≡ 1
    → is_only_type (object ms) ≡ option_map_or is_inlined_type (get_member (name_of TypeKeyword) ms) false
only_type_at no_members e = absurd (omega (arith, e))
only_type_at (member k d no_members) e =
    one_member (slice_cmp nat_cmp (name_of TypeKeyword) k) (bytes_eq k (name_of TypeKeyword)) d
    (is_eq-slice_cmp (name_of TypeKeyword) k ∙ turned (name_of TypeKeyword) k)
only_type_at (member k d (member l f ms)) e = absurd (omega (arith, e))

pub many_members : (ms : Members) → (members_len ms ≡ 1 → ⊥) → is_only_type (object ms) ≡ false
many_members no_members other = refl
many_members (member k d no_members) other = absurd (other refl)
many_members (member k d (member l f ms)) other = refl
