-- The code by which a proof tells schemas apart: each is the tree of what it has.
use Rattle.std.specs.Prelude.{ℕ, ℤ, pos, nat_abs, ◌≡◌, refl, List, [], ◌∷◌, get_or, Bool, true, false, if◌then◌else◌}
use Rattle.std.specs.Prelude.{◌⊎◌}
use Rattle.std.specs.Coded.{Coded, code_by, coded_ℕ, coded_ℤ, coded_bool, coded_list, coded_option, coded×, coded⊎}
use mathlib.Core.Path.{ap}
use mathlib.Core.Logic.{inl, inr}
use Rattle.serde_json.specs.Data.{Data, Items}
use Rattle.jskw_value.specs.Pointer.{Pointer}
use Rattle.jskw_report.specs.DataCode.{data_code, items_code}
use Rattle.jskw_report.specs.Keyword.{by_value, as_written, MinItems, MaxItems, MinProperties, MaxProperties, Minimum}
use Rattle.jskw_report.specs.Keyword.{Maximum, ExclusiveMinimum, ExclusiveMaximum, Assertion, never, type_is, size}
use Rattle.jskw_report.specs.Keyword.{constant, among, limit, multiple_of, unique, required, at_most, Bounds, Marks}
use Rattle.jskw_report.specs.Keyword.{Schema, false_schema, schema_object, Keywords, no_keywords, keyword, Keyword}
use Rattle.jskw_report.specs.Keyword.{assertion, contains, each_of, rest_of, Schemas, no_schemas, schema}
use Rattle.jskw_report.specs.declared.error.TypeKind.{TypeKind}
use Rattle.jskw_report.specs.LabelTree.{LabelTree, leaf, fork, label_tree_code}
use Rattle.jskw_report.specs.contracts.error.TypeKind as type_kind

-- ---- assertions

-- names; types, and whether integers go by their value; a value; values; or a place in the list below, and a number
abbrev Asked : Type 0
Asked = (List (List ℕ) ⊎ (TypeKind × Bool)) ⊎ ((Data ⊎ Items) ⊎ (ℕ × ℤ))

-- what the assertion asks for
abbrev asked : Assertion → Asked
asked (required names) = inl (inl names)
asked (type_is k rule) = inl (inr (k, elim rule [ by_value ↦ true | as_written ↦ false ]))
asked (constant d) = inr (inl (inl d))
asked (among ds) = inr (inl (inr ds))
asked never = inr (inr (0, pos 0))
asked unique = inr (inr (1, pos 0))
asked (multiple_of n) = inr (inr (2, pos n))
asked (at_most n) = inr (inr (3, pos n))
asked (size w n) =
    inr (inr (elim w [ MinItems ↦ 4 | MaxItems ↦ 5 | MinProperties ↦ 6 | MaxProperties ↦ 7 ], pos n))
asked (limit r z) =
    inr (inr (elim r [ Minimum ↦ 8 | Maximum ↦ 9 | ExclusiveMinimum ↦ 10 | ExclusiveMaximum ↦ 11 ], z))

-- the assertions that ask for a number at most
abbrev numeric : ℕ → ℤ → List Assertion
numeric n z =
    never ∷ unique ∷ multiple_of n ∷ at_most n
    ∷ size MinItems n ∷ size MaxItems n ∷ size MinProperties n ∷ size MaxProperties n
    ∷ limit Minimum z ∷ limit Maximum z ∷ limit ExclusiveMinimum z ∷ limit ExclusiveMaximum z ∷ []

-- the assertion that asks for it
abbrev asking : Asked → Assertion
asking (inl (inl names)) = required names
asking (inl (inr a)) = type_is a.0 (if a.1 then by_value else as_written)
asking (inr (inl (inl d))) = constant d
asking (inr (inl (inr ds))) = among ds
asking (inr (inr a)) = get_or (numeric (nat_abs a.1) a.1) a.0 never

-- the code of an assertion
abbrev assertion_code : Coded Assertion
assertion_code =
    code_by Asked
    (coded⊎ (coded⊎ (coded_list (coded_list coded_ℕ)) (coded× type_kind.the_row.coded coded_bool))
    (coded⊎ (coded⊎ data_code items_code) (coded× coded_ℕ coded_ℤ)))
    asked asking (elim [ type_is k by_value ↦ refl | size MinItems n ↦ refl | limit Minimum z ↦ refl | _ ↦ refl ])

-- ---- schemas

-- the code of bounds
abbrev bounds_code : Coded Bounds
bounds_code =
    code_by _
    (coded× (coded× coded_ℕ (coded_option coded_ℕ)) (coded× (coded_list coded_ℕ) (coded_list coded_ℕ)))
    (λ b. ((b.lower, b.upper), (b.few, b.many)))
    (λ p. record { lower = p.0.0; upper = p.0.1; few = p.1.0; many = p.1.1 }) (λ _. refl)

-- the code of marks
abbrev marks_code : Coded Marks
marks_code =
    code_by _ (coded× coded_bool coded_bool) (λ m. (m.delegates, m.fused))
    (λ p. record { delegates = p.0; fused = p.1 }) (λ _. refl)

-- what stands at a fork: a location, alone or with marks or an assertion; bounds; a boolean; or an index with two
-- booleans
abbrev SchemaLabel : Type 0
SchemaLabel = (Pointer ⊎ ((Pointer × Marks) ⊎ (Pointer × Assertion))) ⊎ ((Bounds ⊎ Bool) ⊎ (ℕ × (Bool × Bool)))

-- its code
abbrev schema_label_code : Coded SchemaLabel
schema_label_code =
    coded⊎ (coded⊎ (coded_list coded_ℕ)
    (coded⊎ (coded× (coded_list coded_ℕ) marks_code) (coded× (coded_list coded_ℕ) assertion_code)))
    (coded⊎ (coded⊎ bounds_code coded_bool) (coded× coded_ℕ (coded× coded_bool coded_bool)))

abbrev mutual
  -- the tree of the schema
  schema_tree : Schema → LabelTree SchemaLabel
  schema_tree (false_schema q) = fork (inl (inl q)) leaf leaf
  schema_tree (schema_object q marks ks) = fork (inl (inr (inl (q, marks)))) (keywords_tree ks) leaf

  -- the tree of the keywords, under their locations
  keywords_tree : Keywords → LabelTree SchemaLabel
  keywords_tree no_keywords = leaf
  keywords_tree (keyword q k ks) = fork (inl (inl q)) (keyword_tree k) (keywords_tree ks)

  -- the tree of the keyword
  keyword_tree : Keyword → LabelTree SchemaLabel
  keyword_tree (assertion q a) = fork (inl (inr (inr (q, a)))) leaf leaf
  keyword_tree (contains s b) = fork (inr (inl (inl b))) (schema_tree s) leaf
  keyword_tree (each_of prefix ss) = fork (inr (inl (inr prefix))) (schemas_tree ss) leaf
  keyword_tree (rest_of additional n s bare) = fork (inr (inr (n, (additional, bare)))) (schema_tree s) leaf

  -- the tree of the schemas, under empty locations
  schemas_tree : Schemas → LabelTree SchemaLabel
  schemas_tree no_schemas = leaf
  schemas_tree (schema s ss) = fork (inl (inl [])) (schema_tree s) (schemas_tree ss)

abbrev mutual
  -- the schema of the tree
  schema_of : LabelTree SchemaLabel → Schema
  schema_of (fork (inl (inl q)) t u) = false_schema q
  schema_of (fork (inl (inr (inl l))) t u) = schema_object l.0 l.1 (keywords_of t)
  schema_of _ = false_schema []

  -- the keywords of the tree
  keywords_of : LabelTree SchemaLabel → Keywords
  keywords_of (fork (inl (inl q)) t u) = keyword q (keyword_of t) (keywords_of u)
  keywords_of _ = no_keywords

  -- the keyword of the tree
  keyword_of : LabelTree SchemaLabel → Keyword
  keyword_of (fork (inl (inr (inr l))) t u) = assertion l.0 l.1
  keyword_of (fork (inr (inl (inl b))) t u) = contains (schema_of t) b
  keyword_of (fork (inr (inl (inr prefix))) t u) = each_of prefix (schemas_of t)
  keyword_of (fork (inr (inr l)) t u) = rest_of l.1.0 l.0 (schema_of t) l.1.1
  keyword_of _ = assertion [] never

  -- the schemas of the tree
  schemas_of : LabelTree SchemaLabel → Schemas
  schemas_of leaf = no_schemas
  schemas_of (fork l t u) = schema (schema_of t) (schemas_of u)

-- each is the one of its tree
mutual
  pub schema_back : (s : Schema) → schema_of (schema_tree s) ≡ s
  schema_back (false_schema q) = refl
  schema_back (schema_object q marks ks) = ap (schema_object q marks) (keywords_back ks)

  keywords_back : (ks : Keywords) → keywords_of (keywords_tree ks) ≡ ks
  keywords_back no_keywords = refl
  keywords_back (keyword q k ks) = λ i. keyword q (keyword_back k i) (keywords_back ks i)

  keyword_back : (k : Keyword) → keyword_of (keyword_tree k) ≡ k
  keyword_back (assertion q a) = refl
  keyword_back (contains s b) = λ i. contains (schema_back s i) b
  keyword_back (each_of prefix ss) = ap (each_of prefix) (schemas_back ss)
  keyword_back (rest_of additional n s bare) = λ i. rest_of additional n (schema_back s i) bare

  schemas_back : (ss : Schemas) → schemas_of (schemas_tree ss) ≡ ss
  schemas_back no_schemas = refl
  schemas_back (schema s ss) = λ i. schema (schema_back s i) (schemas_back ss i)

-- the code of a schema
abbrev pub schema_code : Coded Schema
schema_code = code_by (LabelTree SchemaLabel) (label_tree_code schema_label_code) schema_tree schema_of schema_back
