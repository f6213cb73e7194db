-- `const` accepts what `enum` of that one value accepts.
use Rattle.std.specs.Prelude.{◌≡◌, [], Option, Some, None, option_map, Ok, ◌&&◌, true}
use Rattle.std.specs.Option.{option_or}
use Rattle.std.proofs.Common.{refl, sym, ◌∙◌, ap, subst}
use Rattle.std.proofs.Math.Bool.{or-false}
use Rattle.serde_json.specs.Data.{Data, Members, array, item, no_items}
use Rattle.serde_json.specs.Find.{get_member}
use Rattle.jskw_value.specs.Equality.{equal}
use Rattle.jskw_value.specs.Pointer.{Pointer}
use Rattle.jskw_value.specs.Serde.{tree_of}
use Rattle.jskw_value.specs.Tree.{Tree}
use Rattle.jskw_report.specs.Holds.{keyword_holds}
use Rattle.jskw_report.specs.KeywordValue.{map_ok, unless_float, first_float}
use Rattle.jskw_report.specs.Keyword.{Marks, Keyword, no_keywords, constant, among, assertion}
use Rattle.jskw_report.specs.Laws.{ConstIsOneOption, IsKeywordOf, reading_accepts}
use Rattle.jskw_report.specs.Read.{Asserts, asserted, read_keyword, readings, before, object_schema}
use Rattle.jskw_report.specs.Setting.{Setting, name_of}
use Rattle.jskw_report.specs.declared.keyword.KeywordName.{KeywordName}
use Rattle.jskw_report.specs.declared.keyword.KeywordName.TheVariants as keyword_name
use Rattle.jskw_report.proofs.AssertedKeywords.{asserted_if_read, same_keyword}
use Rattle.jskw_report.proofs.SchemaMembers.{readings_named-get}

-- ---- the keywords

-- what is read of a keyword is asserted of the value that stands there
read_of : (w : KeywordName) (s : Setting) (p : Pointer) (ms : Members) (d : Data) (k : Keyword)
    → get_member (name_of w) ms ≡ Some d
    → IsKeywordOf w s p ms k → asserted w s p ms (readings d) ≡ Some (Ok k)
read_of w s p ms d k e h = asserted_if_read w s p ms (readings d) k
    (subst (λ o. read_keyword w s p ms o ≡ Some (Ok k))
    (readings_named-get (name_of w) ms ∙ ap (option_map readings) e) h)

-- both keywords, once the first float of the value is known
same_answer : (d : Data) (t : Tree) (o : Option Data) (p q : Pointer) (k j : Keyword)
    → ◌≡◌ {A = Asserts} (Some (map_ok (assertion p) (map_ok constant (unless_float p o d)))) (Some (Ok k))
    → ◌≡◌ {A = Asserts}
    (Some (map_ok (assertion q) (map_ok among (unless_float q (option_or o None) (item d no_items)))))
    (Some (Ok j))
    → keyword_holds k t ≡ keyword_holds j t
same_answer d t None p q k j e f =
    ap (λ k. keyword_holds k t) (sym (same_keyword _ k e)) ∙ sym (or-false (equal (tree_of d) t))
    ∙ ap (λ k. keyword_holds k t) (same_keyword _ j f)
same_answer d t (Some x) p q k j e f = absurd (cc)

-- ---- the schemas

-- both schemas, once the first float of the value is known
alike : (d : Data) (t : Tree) (o : Option Data) (q r : Pointer) (h g : Marks)
    → reading_accepts (object_schema [] h
    (before q (Some (map_ok (assertion q) (map_ok constant (unless_float q o d)))) (Ok no_keywords))) t
    ≡ reading_accepts (object_schema [] g (before r
    (Some (map_ok (assertion r) (map_ok among (unless_float r (option_or o None) (item d no_items)))))
    (Ok no_keywords))) t
alike d t None q r h g = ap (λ b. Some (b && true)) (sym (or-false (equal (tree_of d) t)))
alike d t (Some x) q r h g = refl

-- the law
pub const_is_one_option : ConstIsOneOption
unfolding asserted read_keyword
const_is_one_option = record {
  anywhere =
      λ r s p q ms ns d k j t e f g h. same_answer d t (first_float d) _ _ k j
      (read_of keyword_name.Const r p ms d k e g) (read_of keyword_name.Enum s q ns (array (item d no_items)) j f h);
  alone = λ s d t c e. rw (c, e) (alike d t _ _ _ _ _);
}
