-- The laws of each assertion: it says the same of trees that are the same, and holds of what it isn't about.
use Rattle.std.proofs.Common.{◌≡◌, ◌≢◌, ℕ, List, [], ◌∷◌, map, filter, nat_le, Bool, true, false, not, ◌&&◌, ◌||◌}
use Rattle.std.proofs.Common.{if◌then◌else◌, IsTrue, Option, Some, None, Result, Ok, Err, IfOk, refl, ap, ap₂, ◌∙◌}
use Rattle.std.proofs.Math.Dec.{leb-zero}
use Rattle.std.specs.List.{list_all, list_any}
use Rattle.std.specs.Prelude.{⊤}
use Rattle.serde_json.specs.Data as value
use Rattle.serde_json.specs.Data.{Data, Members}
use Rattle.jskw_value.specs.Equality.{equal, unique as all_differ}
use Rattle.jskw_value.specs.Pointer.{Pointer}
use Rattle.jskw_value.specs.Serde.{tree_of}
use Rattle.jskw_value.specs.Tree.{Tree, items, has_name}
use Rattle.jskw_value.specs.Tree as tree
use Rattle.jskw_value.specs.Types.{json_type, contains as has_type}
use Rattle.jskw_value.specs.declared.types.JsonType.{JsonType}
use Rattle.jskw_value.specs.declared.types.JsonType.TheVariants.{Array, Number, Object}
use Rattle.jskw_value.proofs.AlikeTrees.{equal_to_same, same_equal_to}
use Rattle.jskw_value.proofs.Booleans.{both}
use Rattle.jskw_report.specs.Assertions.{is_integer_by, is_of, size_holds, limit_holds, multiple_holds, is_option}
use Rattle.jskw_report.specs.Assertions.{assertion_holds, assertion_subject, kind_for, unless, error_kinds}
use Rattle.jskw_report.specs.Kind.{types_of}
use Rattle.jskw_report.specs.Kind as kind
use Rattle.jskw_report.specs.Keyword.{Integers, by_value, as_written, Assertion, never, type_is, Size, size, MinItems}
use Rattle.jskw_report.specs.Keyword.{MaxItems, MinProperties, MaxProperties, constant, among, limit, multiple_of}
use Rattle.jskw_report.specs.Keyword.{unique, required, at_most}
use Rattle.jskw_report.specs.KeywordValue.{Refusal, map_ok, size_value, limit_value, divisor_value, const_value}
use Rattle.jskw_report.specs.KeywordValue.{enum_value, type_value, required_value}
use Rattle.jskw_report.specs.Read.{Rule, rule_for}
use Rattle.jskw_report.specs.Setting.{Setting, concerns}
use Rattle.jskw_report.specs.Sibling.{is_true, is_handed_on}
use Rattle.jskw_report.specs.declared.keyword.KeywordName.{KeywordName}
use Rattle.jskw_report.specs.declared.keyword.KeywordName.TheVariants as keyword_name
use Rattle.jskw_report.proofs.Twins.{Twin, Twins, no_twins, twins, Shared, any_same, array_same, count_same, name_same}
use Rattle.jskw_report.proofs.Twins.{object_same, on_leaves, twin_items, twins_length}

-- ---- trees that are the same

-- whether `enum` holds
pub option_same : (ds : value.Items) → Shared (is_option ds)
option_same value.no_items t u w = refl
option_same (value.item d ds) t u w =
    ap₂ (λ b c. b || c) (equal_to_same (tree_of d) t u w.right w.alike) (option_same ds t u w)

-- whether `uniqueItems` holds
pub differ_same : (ts us : List Tree) → Twins ts us → all_differ ts ≡ all_differ us
differ_same _ _ no_twins = refl
differ_same _ _ (twins {t} {u} {ts} {us} w ws) =
    both (ap not (any_same (equal t) (λ x y v. equal_to_same t x y v.right v.alike) ts us ws ∙ any_equal us))
    (differ_same ts us ws)
  where
    any_equal : (vs : List Tree) → list_any (equal t) vs ≡ list_any (equal u) vs
    any_equal [] = refl
    any_equal (v ∷ vs) = ap₂ (λ b c. b || c) (same_equal_to t u v w.right w.alike) (any_equal vs)

-- whether a tree is an integer
pub integer_same : (rule : Integers) → Shared (is_integer_by rule)
integer_same by_value t u w = on_leaves (is_integer_by by_value) (λ ts us. refl) (λ ms ns. refl) t u w
integer_same as_written t u w = on_leaves (is_integer_by as_written) (λ ts us. refl) (λ ms ns. refl) t u w

-- whether `type` holds
pub type_same : (rule : Integers) (k : kind.TypeKind) → Shared (is_of rule (types_of k))
type_same rule k t u w =
    ap₂ (λ j b. has_type (types_of k) j || ((types_of k).integers && b))
    (on_leaves json_type (λ ts us. refl) (λ ms ns. refl) t u w) (integer_same rule t u w)

-- whether a bound on a size holds
pub size_same : (which : Size) (n : ℕ) → Shared (size_holds which n)
size_same MinItems n t u w = ap₂ (λ a m. not a || nat_le n m) (array_same t u w) (twins_length _ _ (twin_items t u w))
size_same MaxItems n t u w = ap₂ (λ a m. not a || nat_le m n) (array_same t u w) (twins_length _ _ (twin_items t u w))
size_same MinProperties n t u w = ap₂ (λ a m. not a || nat_le n m) (object_same t u w) (count_same t u w)
size_same MaxProperties n t u w = ap₂ (λ a m. not a || nat_le m n) (object_same t u w) (count_same t u w)

-- whether a tree has every name of `required`
pub every_name_same : (names : List (List ℕ)) (t u : Tree) → Twin t u
    → list_all (has_name t) names ≡ list_all (has_name u) names
every_name_same [] t u w = refl
every_name_same (k ∷ names) t u w = both (name_same k t u w) (every_name_same names t u w)

-- the names of `required` that a tree lacks
pub missing_names_same : (names : List (List ℕ)) (t u : Tree) → Twin t u
    → filter (λ name. not (has_name t name)) names ≡ filter (λ name. not (has_name u name)) names
missing_names_same [] t u w = refl
missing_names_same (k ∷ names) t u w =
    ap₂ (λ b rest. if not b then k ∷ rest else rest) (name_same k t u w) (missing_names_same names t u w)

-- whether an assertion holds
pub assertion_same : (a : Assertion) → Shared (assertion_holds a)
assertion_same never t u w = refl
assertion_same (type_is k rule) t u w = type_same rule k t u w
assertion_same (size which n) t u w = size_same which n t u w
assertion_same (constant d) t u w = equal_to_same (tree_of d) t u w.right w.alike
assertion_same (among ds) t u w = option_same ds t u w
assertion_same (limit r n) t u w = on_leaves (limit_holds r n) (λ ts us. refl) (λ ms ns. refl) t u w
assertion_same (multiple_of m) t u w = on_leaves (multiple_holds m) (λ ts us. refl) (λ ms ns. refl) t u w
assertion_same unique t u w = differ_same (items t) (items u) (twin_items t u w)
assertion_same (required names) t u w = ap₂ (λ a b. not a || b) (object_same t u w) (every_name_same names t u w)
assertion_same (at_most n) t u w = ap (λ m. nat_le m n) (twins_length _ _ (twin_items t u w))

-- the kinds of the errors of an assertion
pub error_kinds_same : (a : Assertion) → Shared (error_kinds a)
error_kinds_same (required names) t u w =
    ap₂ (λ b missing. if b then map kind.Required missing else []) (object_same t u w) (missing_names_same names t u w)
error_kinds_same a t u w = ap (λ b. unless b (kind_for a)) (assertion_same a t u w)

-- ---- what it is about

-- the tree is of another type than that one
abbrev pub IsOther : Option JsonType → Tree → Type 0
IsOther None t = ⊥
IsOther (Some j) t = json_type t ≢ j

-- it holds of a tree of another type than the one that it is about
pub assertion_elsewhere : (a : Assertion) (t : Tree) → IsOther (assertion_subject a) t → IsTrue (assertion_holds a t)
assertion_elsewhere (limit r n) (tree.number m) h = absurd (h refl)
assertion_elsewhere (limit r n) _ h = refl
assertion_elsewhere (multiple_of m) (tree.number n) h = absurd (h refl)
assertion_elsewhere (multiple_of m) _ h = refl
assertion_elsewhere (size MinProperties n) (tree.object ms) h = absurd (h refl)
assertion_elsewhere (size MinProperties n) _ h = refl
assertion_elsewhere (size MaxProperties n) (tree.object ms) h = absurd (h refl)
assertion_elsewhere (size MaxProperties n) _ h = refl
assertion_elsewhere (required names) (tree.object ms) h = absurd (h refl)
assertion_elsewhere (required names) _ h = refl
assertion_elsewhere (size MinItems n) (tree.array ts) h = absurd (h refl)
assertion_elsewhere (size MinItems n) _ h = refl
assertion_elsewhere (size MaxItems n) (tree.array ts) h = absurd (h refl)
assertion_elsewhere (size MaxItems n) _ h = refl
assertion_elsewhere unique (tree.array ts) h = absurd (h refl)
assertion_elsewhere unique _ h = refl
assertion_elsewhere (at_most n) (tree.array ts) h = absurd (h refl)
assertion_elsewhere (at_most n) _ h = leb-zero n
assertion_elsewhere _ t h = absurd h

-- what a rule asserts is about the type
abbrev pub IsRuleAbout : Option JsonType → Option Rule → Type 0
IsRuleAbout o None = ⊤
IsRuleAbout o (Some rule) = (q : Pointer) (d : Data) → IfOk (rule q d) (λ a. assertion_subject a ≡ o)

-- an assertion that is made of its value
pub about_value : {A : Type 0} (o : Option JsonType) (f : A → Assertion) (r : Result A Refusal)
    → ((a : A) → assertion_subject (f a) ≡ o) → IfOk (map_ok f r) (λ a. assertion_subject a ≡ o)
about_value o f (Ok a) h = h a
about_value o f (Err e) h = tt

-- one that it may be not
pub about_choice : (o : Option JsonType) (b : Bool) (x y : Option Rule) → IsRuleAbout o x → IsRuleAbout o y
    → IsRuleAbout o (if b then x else y)
about_choice o true x y h k = h
about_choice o false x y h k = k

-- the rule of a keyword is about the type that the keyword concerns
pub about_rule : (w : KeywordName) (s : Setting) (ms : Members) (d : Data)
    → IsRuleAbout (concerns w) (rule_for w s ms d)
about_rule keyword_name.TypeKeyword s ms d = λ q d. about_value None _ (type_value q d) (λ k. refl)
about_rule keyword_name.MinItems s ms d = λ q d. about_value (Some Array) _ (size_value q d) (λ n. refl)
about_rule keyword_name.MaxItems s ms d = λ q d. about_value (Some Array) _ (size_value q d) (λ n. refl)
about_rule keyword_name.UniqueItems s ms d = about_choice (Some Array) (is_true d) _ None (λ q d. refl) tt
about_rule keyword_name.Const s ms d = λ q d. about_value None _ (const_value q d) (λ d. refl)
about_rule keyword_name.Enum s ms d = λ q d. about_value None _ (enum_value q d) (λ ds. refl)
about_rule keyword_name.Minimum s ms d = λ q d. about_value (Some Number) _ (limit_value q d) (λ z. refl)
about_rule keyword_name.Maximum s ms d = λ q d. about_value (Some Number) _ (limit_value q d) (λ z. refl)
about_rule keyword_name.ExclusiveMinimum s ms d = λ q d. about_value (Some Number) _ (limit_value q d) (λ z. refl)
about_rule keyword_name.ExclusiveMaximum s ms d = λ q d. about_value (Some Number) _ (limit_value q d) (λ z. refl)
about_rule keyword_name.MultipleOf s ms d = λ q d. about_value (Some Number) _ (divisor_value q d) (λ n. refl)
about_rule keyword_name.MinProperties s ms d = λ q d. about_value (Some Object) _ (size_value q d) (λ n. refl)
about_rule keyword_name.MaxProperties s ms d = λ q d. about_value (Some Object) _ (size_value q d) (λ n. refl)
about_rule keyword_name.Required s ms d =
    about_choice (Some Object) (is_handed_on s ms) None _ tt
    (λ q d. about_value (Some Object) required (required_value q d) (λ names. refl))
about_rule _ s ms d = tt
