-- A keyword that concerns the instances of one type holds of every other.
use Rattle.std.specs.Prelude.{◌≡◌, ⊤, ℕ, [], drop, Bool, true, false, if◌then◌else◌, IsTrue, Option, Some, None, Result}
use Rattle.std.specs.Prelude.{Ok, Err, IfOk}
use Rattle.std.specs.List.{list_all}
use Rattle.std.proofs.Common.{refl, sym, subst, ap, ◌∙◌}
use Rattle.std.proofs.Math.Seq.{drop-nil}
use Rattle.serde_json.specs.Data.{Data, boolean, array, object, Members}
use Rattle.serde_json.specs.Find.{get_member}
use Rattle.jskw_value.specs.Pointer.{Pointer}
use Rattle.jskw_value.specs.Tree.{Tree}
use Rattle.jskw_value.specs.Tree as tree
use Rattle.jskw_value.specs.declared.types.JsonType.{JsonType}
use Rattle.jskw_value.specs.declared.types.JsonType.TheVariants.{Array}
use Rattle.jskw_report.specs.KeywordValue.{Refusal, map_ok, join_ok}
use Rattle.jskw_report.specs.Holds.{holds, keyword_holds, each_holds}
use Rattle.jskw_report.specs.Keyword.{Schema, Schemas, no_schemas, schema, Keyword, assertion, contains, each_of}
use Rattle.jskw_report.specs.Keyword.{rest_of, Assertion, Bounds}
use Rattle.jskw_report.specs.Laws.{HoldsElsewhere}
pub use Rattle.jskw_report.proofs.AssertionLaws.{IsOther}
use Rattle.jskw_report.proofs.AssertionLaws.{IsRuleAbout, about_rule, assertion_elsewhere}
use Rattle.jskw_report.specs.Assertions.{assertion_subject}
use Rattle.jskw_report.specs.Read.{Asserts, ValueReadings, Reading, Rule, readings_named, keyword_location, read_bounds}
use Rattle.jskw_report.specs.Read.{items_keyword, prefix_keyword, additional_keyword, asserted, asserted_by, rule_for}
use Rattle.jskw_report.specs.Read.{failing_keyword, read_keyword}
use Rattle.jskw_report.specs.Setting.{Setting, name_of, concerns, is_active}
use Rattle.jskw_report.specs.declared.keyword.KeywordName.{KeywordName}
use Rattle.jskw_report.specs.declared.keyword.KeywordName.TheVariants as keyword_name

-- the type of the instances that the keyword is about, if it isn't all of them
abbrev pub subject : Keyword → Option JsonType
subject (assertion q a) = assertion_subject a
subject _ = Some Array

-- ---- what is read of a keyword is about the type that the keyword concerns

-- the keyword that is asserted, if there is one, is about the type
abbrev IsAbout : Option JsonType → Asserts → Type 0
IsAbout o (Some (Ok k)) = subject k ≡ o
IsAbout o _ = ⊤

-- a keyword that is made of its value
about_map : {A : Type 0} (o : Option JsonType) (f : A → Keyword) (r : Result A Refusal) → ((a : A) → subject (f a) ≡ o)
    → IsAbout o (Some (map_ok f r))
about_map o f (Ok a) h = h a
about_map o f (Err e) h = tt

-- a choice of two
about_if : (o : Option JsonType) (b : Bool) (x y : Asserts) → IsAbout o x → IsAbout o y → IsAbout o (if b then x else y)
about_if o true x y h k = h
about_if o false x y h k = k

-- what `contains` asserts is about arrays
about_contains : (b : Result Bounds Refusal) (r : Reading)
    → IsAbout (Some Array) (Some (join_ok (λ b sub. contains sub b) b r))
about_contains (Err e) r = tt
about_contains (Ok b) r = about_map (Some Array) (λ sub. contains sub b) r (λ sub. refl)

-- what `items` asserts is about arrays
about_items : (s : Setting) (q : Pointer) (ms : Members) (part : ValueReadings) (d : Data)
    → IsAbout (Some Array) (items_keyword s q ms part d)
about_items s q ms part (array ds) = about_map (Some Array) _ (part.schemas s q) (λ ss. refl)
about_items s q ms part (object ns) = about_map (Some Array) _ (part.schema s q) (λ sub. refl)
about_items s q ms part (boolean false) = about_map (Some Array) _ (part.schema s q) (λ sub. refl)
about_items s q ms part (boolean true) = tt
about_items s q ms part _ = tt

-- what `prefixItems` asserts is about arrays
about_prefix : (s : Setting) (q : Pointer) (part : ValueReadings) (d : Data)
    → IsAbout (Some Array) (prefix_keyword s q part d)
about_prefix s q part (array ds) = about_map (Some Array) _ (part.schemas s q) (λ ss. refl)
about_prefix s q part _ = tt

-- what `additionalItems` asserts is about arrays
about_additional : (s : Setting) (q : Pointer) (o : Option Data) (part : ValueReadings) (d : Data)
    → IsAbout (Some Array) (additional_keyword s q o part d)
about_additional s q (Some (array ds)) part (boolean true) = tt
about_additional s q (Some (array ds)) part (boolean false) = refl
about_additional s q (Some (array ds)) part _ = about_map (Some Array) _ (part.schema s q) (λ sub. refl)
about_additional s q (Some _) part d = tt
about_additional s q None part d = tt

-- so is what it asserts
about_by : (o : Option JsonType) (rule : Option Rule) (q : Pointer) (d : Data) → IsRuleAbout o rule
    → IsAbout o (asserted_by rule q d)
about_by o None q d h = tt
about_by o (Some rule) q d h = go (rule q d) (h q d)
  where
    go : (r : Result Assertion Refusal) → IfOk r (λ a. assertion_subject a ≡ o)
        → IsAbout o (Some (map_ok (assertion q) r))
    go (Ok a) h = h
    go (Err e) h = tt

-- what a keyword asserts is about the type that the keyword concerns
about_asserted : (w : KeywordName) (s : Setting) (p : Pointer) (ms : Members) (part : ValueReadings)
    → IsAbout (concerns w) (asserted w s p ms part)
unfolding asserted
about_asserted keyword_name.Items s p ms part = about_items s (keyword_location p keyword_name.Items) ms part part.value
about_asserted keyword_name.PrefixItems s p ms part =
    about_prefix s (keyword_location p keyword_name.PrefixItems) part part.value
about_asserted keyword_name.AdditionalItems s p ms part =
    about_additional s (keyword_location p keyword_name.AdditionalItems)
    (get_member (name_of keyword_name.Items) ms) part part.value
about_asserted keyword_name.Contains s p ms part =
    about_contains (read_bounds s p ms) (part.schema s (keyword_location p keyword_name.Contains))
about_asserted w s p ms part =
    about_by (concerns w) (rule_for w s ms part.value) (keyword_location p (failing_keyword w s ms)) part.value
    (about_rule w s ms part.value)

-- what is read of a keyword is about the type that the keyword concerns
about_read : (w : KeywordName) (s : Setting) (p : Pointer) (ms : Members) (o : Option ValueReadings)
    → IsAbout (concerns w) (read_keyword w s p ms o)
unfolding read_keyword
about_read w s p ms None = tt
about_read w s p ms (Some part) =
    about_if (concerns w) (is_active s w) (asserted w s p ms part) None (about_asserted w s p ms part) tt

-- ---- a keyword holds of what it isn't about

-- schemas hold of no items
each_holds-nil : (ss : Schemas) → IsTrue (each_holds ss [])
each_holds-nil no_schemas = refl
each_holds-nil (schema s ss) = refl

-- a schema holds of no items from an index on
all_hold-nil : (s : Schema) (n : ℕ) → IsTrue (list_all (holds s) (drop n []))
all_hold-nil s n = ap (list_all (holds s)) (drop-nil n)

-- a keyword holds of a tree of another type than the one that it is about
pub holds_of_other : (k : Keyword) (t : Tree) → IsOther (subject k) t → IsTrue (keyword_holds k t)
holds_of_other (assertion q a) t h = assertion_elsewhere a t h
holds_of_other (contains s b) (tree.array ts) h = absurd (h refl)
holds_of_other (contains s b) _ h = refl
holds_of_other (each_of prefix ss) (tree.array ts) h = absurd (h refl)
holds_of_other (each_of prefix ss) _ h = each_holds-nil ss
holds_of_other (rest_of additional n s bare) (tree.array ts) h = absurd (h refl)
holds_of_other (rest_of additional n s bare) _ h = all_hold-nil s n

-- the law
pub holds_elsewhere : HoldsElsewhere
holds_elsewhere w j s p ms k t c e h = holds_of_other k t (subst (λ o. IsOther o t) (sym (about_k ∙ c)) h)
  where
    about_k : subject k ≡ concerns w
    about_k = subst (λ x. IsAbout (concerns w) x) e (about_read w s p ms (readings_named (name_of w) ms))
