-- How a schema's members are found.
use Rattle.std.specs.Prelude.{◌≡◌, List, ℕ, true, false, Some, None, option_map, if◌then◌else◌}
use Rattle.std.proofs.Common.{refl, ap, ◌∙◌}
use Rattle.std.specs.Ordering.{nat_cmp, match_ordering}
use Rattle.std.proofs.Common.{Ordering}
use Rattle.std.specs.declared.cmp.Ordering.TheVariants.{Less, Equal, Greater}
use Rattle.std.specs.Cmp.Lexicographic.{slice_cmp}
use Rattle.serde_json.specs.Data.{Data, Members, no_members, member}
use Rattle.serde_json.specs.Find.{get_member}
use Rattle.jskw_value.specs.Pointer.{Pointer}
use Rattle.jskw_report.specs.Setting.{Setting, name_of, is_active}
use Rattle.jskw_report.specs.declared.keyword.KeywordName.{KeywordName}
use Rattle.jskw_report.specs.Read.{asserted, readings, readings_named, read_keyword}

-- a keyword is handed the member of its name
pub readings_named-get : (name : List ℕ) (ms : Members)
    → readings_named name ms ≡ option_map readings (get_member name ms)
readings_named-get name no_members = refl
readings_named-get name (member k d ms) = go (slice_cmp nat_cmp name k) (readings_named-get name ms)
  where
    go : (o : Ordering) → readings_named name ms ≡ option_map readings (get_member name ms)
        → match_ordering o (readings_named name ms) (Some (readings d)) (readings_named name ms)
        ≡ option_map readings (match_ordering o (get_member name ms) (Some d) (get_member name ms))
    go Less e = e
    go Equal e = refl
    go Greater e = e

-- a keyword that is absent asserts nothing
pub read_absent : (w : KeywordName) (s : Setting) (p : Pointer) (ms : Members) → get_member (name_of w) ms ≡ None
    → read_keyword w s p ms (readings_named (name_of w) ms) ≡ None
unfolding read_keyword
read_absent w s p ms e = ap (read_keyword w s p ms) (readings_named-get (name_of w) ms ∙ ap (option_map readings) e)

-- nor does one that is not active
pub read_not_standing : (w : KeywordName) (s : Setting) (p : Pointer) (ms : Members) (d : Data)
    → get_member (name_of w) ms ≡ Some d → is_active s w ≡ false
    → read_keyword w s p ms (readings_named (name_of w) ms) ≡ None
unfolding read_keyword
read_not_standing w s p ms d e h =
    ap (read_keyword w s p ms) (readings_named-get (name_of w) ms ∙ ap (option_map readings) e)
    ∙ ap (λ b. if b then asserted w s p ms (readings d) else None) h

-- one that is active asserts what is read of its value
pub read_standing : (w : KeywordName) (s : Setting) (p : Pointer) (ms : Members) (d : Data)
    → get_member (name_of w) ms ≡ Some d → is_active s w ≡ true
    → read_keyword w s p ms (readings_named (name_of w) ms) ≡ asserted w s p ms (readings d)
unfolding read_keyword
read_standing w s p ms d e h =
    ap (read_keyword w s p ms) (readings_named-get (name_of w) ms ∙ ap (option_map readings) e)
    ∙ ap (λ b. if b then asserted w s p ms (readings d) else None) h
