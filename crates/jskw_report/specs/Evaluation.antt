-- The evaluation tree of a schema over an instance: a node for each schema and each keyword (Core 12.3).
use Rattle.std.specs.Prelude.{ℕ, zero, suc, nat_lt, nat_le, List, [], ◌∷◌, map, drop, length, Bool, true, false, Option}
use Rattle.std.specs.Prelude.{Some, None, if◌then◌else◌}
use Rattle.std.specs.List.{list_all}
use Rattle.jskw_value.specs.Pointer.{Pointer, item_location}
use Rattle.jskw_value.specs.Tree.{Tree, items, is_array}
use Rattle.jskw_report.specs.Fail.{Failure, keyword_fail, is_empty}
use Rattle.jskw_report.specs.Holds.{holds, keyword_holds}
use Rattle.jskw_report.specs.Keyword.{Schema, false_schema, schema_object, Keywords, no_keywords, keyword, Keyword}
use Rattle.jskw_report.specs.Keyword.{assertion, contains, each_of, rest_of, Schemas, no_schemas, schema}
use Rattle.jskw_report.specs.Kind.{FalseSchema, keyword_of}

-- an annotation (Core 7.7): a boolean, the largest index, or indices
pub data Annotation : Type 0 where
  flag : Bool → Annotation
  index : ℕ → Annotation
  indices : List ℕ → Annotation

mutual
  -- validity, keyword location, instance location, annotation, the keywords of the errors, and the nodes below
  pub data Evaluation : Type 0 where
    node : Bool → Pointer → Pointer → Option Annotation → List (List ℕ) → Evaluations → Evaluation

  -- a list of nodes
  pub data Evaluations : Type 0 where
    no_evaluations : Evaluations
    evaluation : Evaluation → Evaluations → Evaluations

-- a node without its locations
pub record Result : Type 0 where
  pub valid : Bool
  pub annotation : Option Annotation
  pub descriptions : List (List ℕ)
  pub children : List Evaluation

-- the nodes of a list
abbrev pub evaluations : List Evaluation → Evaluations
evaluations [] = no_evaluations
evaluations (e ∷ es) = evaluation e (evaluations es)

-- the node's validity
abbrev pub is_valid : Evaluation → Bool
is_valid (node valid q p a ds es) = valid

-- its keyword location
abbrev pub keyword_location_at : Evaluation → Pointer
keyword_location_at (node valid q p a ds es) = q

-- its instance location
abbrev pub instance_location_at : Evaluation → Pointer
instance_location_at (node valid q p a ds es) = p

-- its annotation
abbrev pub annotation_at : Evaluation → Option Annotation
annotation_at (node valid q p a ds es) = a

-- the keywords of its errors
abbrev pub keywords_at : Evaluation → List (List ℕ)
keywords_at (node valid q p a ds es) = ds

-- the nodes below it
abbrev pub children_at : Evaluation → Evaluations
children_at (node valid q p a ds es) = es

-- the result as a node, with its keyword location q and its instance location p
abbrev pub node_at : Pointer → Pointer → Result → Evaluation
node_at q p r = node r.valid q p r.annotation r.descriptions (evaluations r.children)

-- ---- a keyword's result

-- valid, with nothing to tell
abbrev pub valid_unit : Result
valid_unit = record { valid = true; annotation = None; descriptions = []; children = [] }

-- invalid, with a description for each of these keywords
abbrev pub invalid_unit : List (List ℕ) → Result
invalid_unit ks = record { valid = false; annotation = None; descriptions = ks; children = [] }

-- valid where there are no errors; one description for each, and no nodes below
unfoldable pub of_errors : List Failure → Result
of_errors fs =
    record { valid = is_empty fs; annotation = None; descriptions = map (λ f. keyword_of f.kind) fs; children = [] }

-- valid where every node below is
abbrev pub of_children : Option Annotation → List Evaluation → Result
of_children a es = record { valid = list_all is_valid es; annotation = a; descriptions = []; children = es }

-- the number of schemas
abbrev pub schema_count : Schemas → ℕ
schema_count no_schemas = 0
schema_count (schema s ss) = suc (schema_count ss)

-- the annotation of `prefixItems`, of k schemas over n items: true where every item has a schema, else the largest
-- index that has one (Core 10.3.1.1)
abbrev pub prefix_annotation : ℕ → ℕ → Option Annotation
prefix_annotation zero n = None
prefix_annotation (suc k) zero = None
prefix_annotation (suc k) (suc n) = Some (if nat_le n k then flag true else index k)

-- ---- items

-- the nodes that f gives of each item in turn, the first being item i of the array at p
abbrev pub evaluate_each : (Tree → Pointer → Evaluation) → ℕ → List Tree → Pointer → List Evaluation
evaluate_each f i [] p = []
evaluate_each f i (t ∷ ts) p = f t (item_location p i) ∷ evaluate_each f (suc i) ts p

-- the nodes that f gives of each item that matches, in turn, the first being item i of the array at p
abbrev pub evaluate_matching : (Tree → Bool) → (Tree → Pointer → Evaluation) → ℕ → List Tree → Pointer → List Evaluation
evaluate_matching matches f i [] p = []
evaluate_matching matches f i (t ∷ ts) p =
    if matches t then f t (item_location p i) ∷ evaluate_matching matches f (suc i) ts p
    else evaluate_matching matches f (suc i) ts p

-- the indices of the items that match, the first item having index i (Core 10.3.1.3)
abbrev pub matching_indices : (Tree → Bool) → ℕ → List Tree → List ℕ
matching_indices matches i [] = []
matching_indices matches i (t ∷ ts) =
    if matches t then i ∷ matching_indices matches (suc i) ts else matching_indices matches (suc i) ts

-- ---- keywords and schemas

abbrev mutual
  -- the node of the schema over the tree t at p
  pub tree : Schema → Tree → Pointer → Evaluation
  tree (false_schema q) t p = node false q p None (keyword_of FalseSchema ∷ []) no_evaluations
  tree (schema_object q marks ks) t p = node_at q p (of_children None (units ks t p))

  -- the nodes of the keywords
  pub units : Keywords → Tree → Pointer → List Evaluation
  units no_keywords t p = []
  units (keyword q k ks) t p = node_at q p (unit k t p) ∷ units ks t p

  -- the keyword's result, annotated for `items` by whether it was applied to any item (Core 10.3.1.2) and for
  -- `contains` by the indices that match (Core 10.3.1.3); a `contains` that fails tells its error alone
  pub unit : Keyword → Tree → Pointer → Result
  unit (assertion q a) t p = of_errors (keyword_fail (assertion q a) t p)
  unit (contains s b) t p = if keyword_holds (contains s b) t
      then record {
        valid =
            true;
        annotation =
            Some (indices (matching_indices (holds s) 0 (items t)));
        descriptions =
            [];
        children = evaluate_matching (holds s) (tree s) 0 (items t) p;
      }
      else of_errors (keyword_fail (contains s b) t p)
  unit (each_of prefix ss) t p =
      of_children (if prefix then prefix_annotation (schema_count ss) (length (items t)) else None)
      (evaluate_pairs ss 0 (items t) p)
  unit (rest_of true n s bare) t p = of_errors (keyword_fail (rest_of true n s bare) t p)
  unit (rest_of false n s bare) t p = if is_array t
      then of_children (Some (flag (nat_lt n (length (items t))))) (evaluate_each (tree s) n (drop n (items t)) p)
      else valid_unit

  -- the nodes of each schema over the item of its index, as far as both go, the first being item i of the array at p
  pub evaluate_pairs : Schemas → ℕ → List Tree → Pointer → List Evaluation
  evaluate_pairs no_schemas i ts p = []
  evaluate_pairs (schema s ss) i [] p = []
  evaluate_pairs (schema s ss) i (t ∷ ts) p = tree s t (item_location p i) ∷ evaluate_pairs ss (suc i) ts p
