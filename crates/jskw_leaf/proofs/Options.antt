-- The options of an `enum`, as the validators look for them.
use Rattle.std.proofs.Common.{◌≡◌, ℕ, zero, ◌^◌, ℤ, pos, List, ◌∷◌, Bool, true, false, ◌&&◌, ◌||◌, if◌then◌else◌}
use Rattle.std.proofs.Common.{nat_lt, Option, Some, None, is_some, refl, sym, ap, ◌∙◌, subst, inl, inr}
use Rattle.std.proofs.lemmas.Bool.{true≢false, and_parts, or_cases, or_parts, both_ways, false_from_ne_true}
use Rattle.std.proofs.lemmas.List.Sorted.{list_any-IsPermutation}
use Rattle.std.specs.Prelude.{IsSome}
use Rattle.std.specs.List.{list_any}
use Rattle.std.specs.List.Sorted.{IsPermutation}
use Rattle.std.specs.Option.{option_map_or}
use Rattle.std.specs.Str.{bytes_eq}
use Rattle.serde_json.specs.Data as json
use Rattle.serde_json.specs.Data.{Data, array, Items, no_items, item}
use Rattle.serde_json.specs.Find.{as_array, as_null, as_str, as_i64}
use Rattle.jskw_value.specs.Equality.{equal, unique}
use Rattle.jskw_value.specs.Number.{Num, exact, num_equal}
use Rattle.jskw_value.specs.Serde.{num_of, tree_of}
use Rattle.jskw_value.specs.Tree as tree
use Rattle.jskw_value.specs.Tree.{Tree}
use Rattle.jskw_value.specs.Types.{no_types, insert, contains, json_type, has_type_of}
use Rattle.jskw_value.specs.declared.types.JsonType.{JsonType}
use Rattle.jskw_value.specs.declared.types.JsonType.TheVariants.{Array, Boolean, Integer, Null, Number, Object, String}
use Rattle.jskw_value.specs.declared.types.JsonTypeSet.{JsonTypeSet}
use Rattle.jskw_value.specs.Pointer.{Pointer}
use Rattle.jskw_report.specs.KeywordValue.{map_ok, unless_float, const_value, enum_value, first_float_item}
use Rattle.jskw_report.specs.Holds.{is_option}
use Rattle.jskw_leaf.specs.Options.{options_of, option_types, AreOptions, has_text, has_integer, is_text}
use Rattle.jskw_leaf.specs.Options.{is_integer_option, picked, only, has_null, integer_of}

-- an array lists its items
pub listed : (d : Data) → IsSome (as_array d) → array (options_of d) ≡ d
listed (array ds) h = refl
listed d h = absurd (true≢false (sym h))

-- ---- the types of options

-- a type that was put in is there
inserted : (j : JsonType) (s : JsonTypeSet) → contains (insert j s) j ≡ true
inserted Array s = refl
inserted j s = refl

-- and what was there stays
stays : (i j : JsonType) (s : JsonTypeSet) → contains s j ≡ true → contains (insert i s) j ≡ true
stays Array Array s h = refl
stays Boolean Boolean s h = refl
stays Integer Integer s h = refl
stays Null Null s h = refl
stays Number Number s h = refl
stays Object Object s h = refl
stays String String s h = refl
stays i j s h = h

all_stay : (s : JsonTypeSet) (ds : Items) (j : JsonType) → contains s j ≡ true → contains (option_types s ds) j ≡ true
all_stay s no_items j h = h
all_stay s (item d ds) j h = all_stay (insert (json_type (tree_of d)) s) ds j (stays (json_type (tree_of d)) j s h)

-- equal trees are of one type
of_equal : (a t : Tree) → equal a t ≡ true → json_type a ≡ json_type t
of_equal tree.null tree.null h = refl
of_equal (tree.boolean a) (tree.boolean b) h = refl
of_equal (tree.number m) (tree.number n) h = refl
of_equal (tree.string s) (tree.string u) h = refl
of_equal (tree.array ts) (tree.array us) h = refl
of_equal (tree.object ms) (tree.object ns) h = refl
of_equal a t h = absurd (true≢false (sym h))

-- the type of an option is one of those
type_of_option : (s : JsonTypeSet) (ds : Items) (t : Tree) → is_option ds t ≡ true
    → contains (option_types s ds) (json_type t) ≡ true
type_of_option s no_items t h = absurd (true≢false (sym h))
type_of_option s (item d ds) t h =
    let j = json_type (tree_of d) in
    elim (or_cases (equal (tree_of d) t) (is_option ds t) h) [
      | inl e ↦ subst (λ i. contains (option_types s (item d ds)) i ≡ true) (of_equal (tree_of d) t e)
          (all_stay (insert j s) ds j (inserted j s))
      | inr k ↦ type_of_option (insert j s) ds t k
    ]

-- a tree of another type is no option
pub no_option : (s : JsonTypeSet) (ds : Items) (t : Tree) → s ≡ option_types no_types ds → has_type_of s t ≡ false
    → is_option ds t ≡ false
no_option s ds t e h =
    false_from_ne_true _ (λ k. both_ways _ (or_parts _ _ h).0
    (subst (λ s. contains s (json_type t) ≡ true) (sym e) (type_of_option no_types ds t k)))

-- ---- options of one kind, and null

-- what an option or the others give, and what null gives, each by itself
apart : (s u a n z : Bool) → ((s || (a && z)) || (u || (n && z))) ≡ ((s || u) || ((a || n) && z))
apart true u a n z = refl
apart false u false n z = refl
apart false true true n true = refl
apart false true true n false = refl
apart false false true n true = refl
apart false false true true false = refl
apart false false true false false = refl

-- `each` says what one option accepts: where `kind` sees a string or a number, what is the same; and null, where it is
-- null
module _ {X Y : Type 0} (pick : Data → Option X) (kind : Tree → Option Y) (same : X → Y → Bool)
    (each : (d : Data) (t : Tree) → (is_some (pick d) || is_some (as_null d)) ≡ true
    → equal (tree_of d) t ≡ (option_map_or (λ y. option_map_or (λ x. same x y) (pick d) false) (kind t) false
    || (is_some (as_null d) && tree.is_null t))) where
  -- one option before others; z tells whether the tree is null, a and n whether null is the option and one of the
  -- others
  one_more : (v : Option Y) (p : Option X) (xs : List X) (a n z : Bool)
      → ((option_map_or (λ y. option_map_or (λ x. same x y) p false) v false || (a && z))
      || (option_map_or (λ y. list_any (λ x. same x y) xs) v false || (n && z)))
      ≡ (option_map_or (λ y. list_any (λ x. same x y) (option_map_or (λ x. x ∷ xs) p xs)) v false || ((a || n) && z))
  one_more (Some y) (Some x) xs a n z = apart (same x y) (list_any (λ x. same x y) xs) a n z
  one_more (Some y) None xs a n z = apart false (list_any (λ x. same x y) xs) a n z
  one_more None p xs a n z = apart false false a n z

  of_picked : (ds : Items) → only (λ d. is_some (pick d)) ds ≡ true
      → AreOptions (λ t. option_map_or (λ y. list_any (λ x. same x y) (picked pick ds)) (kind t) false) (has_null ds) ds
  of_picked no_items h t = go (kind t)
    where
      go : (v : Option Y) → false ≡ (option_map_or (λ y. false) v false || false)
      go None = refl
      go (Some y) = refl
  of_picked (item d ds) h t =
      let all = and_parts (is_some (pick d) || is_some (as_null d)) (only (λ d. is_some (pick d)) ds) h in
      rw (each d t all.0, of_picked ds all.1 t)
      (one_more (kind t) (pick d) (picked pick ds) (is_some (as_null d)) (has_null ds) (tree.is_null t))

  -- the options in any order
  are_options : (ds : Items) (xs : List X) → only (λ d. is_some (pick d)) ds ≡ true → IsPermutation (picked pick ds) xs
      → AreOptions (λ t. option_map_or (λ y. list_any (λ x. same x y) xs) (kind t) false) (has_null ds) ds
  are_options ds xs h p t = of_picked ds h t ∙ go (kind t)
    where
      go : (v : Option Y) → (option_map_or (λ y. list_any (λ x. same x y) (picked pick ds)) v false
          || (has_null ds && tree.is_null t))
          ≡ (option_map_or (λ y. list_any (λ x. same x y) xs) v false || (has_null ds && tree.is_null t))
      go (Some y) =
          ap (λ b. b || (has_null ds && tree.is_null t)) (list_any-IsPermutation (λ x. same x y) (picked pick ds) xs p)
      go None = refl

by_itself : (b : Bool) → b ≡ (b || false)
by_itself true = refl
by_itself false = refl

-- what a string among the options, or null, accepts
text_option : (d : Data) (t : Tree) → (is_text d || is_some (as_null d)) ≡ true
    → equal (tree_of d) t ≡ (option_map_or (λ s. option_map_or (λ n. bytes_eq n s) (as_str d) false)
    (tree.as_string t) false || (is_some (as_null d) && tree.is_null t))
text_option json.null tree.null h = refl
text_option json.null t h = refl
text_option (json.string n) (tree.string s) h = by_itself (bytes_eq n s)
text_option (json.string n) t h = refl
text_option d t h = absurd (true≢false (sym h))

pub are_texts : (ds : Items) (names : List (List ℕ)) → only is_text ds ≡ true → IsPermutation (picked as_str ds) names
    → AreOptions (has_text names) (has_null ds) ds
are_texts = are_options as_str tree.as_string bytes_eq text_option

-- an integer as a number
number_option : (n : json.Num) (m : Num) → (is_some (as_i64 n) || false) ≡ true
    → num_equal (num_of n) m ≡ option_map_or (λ z. num_equal (exact z zero) m) (as_i64 n) false
number_option (json.unsigned k) m h = go (nat_lt k (2 ^ 63)) h
  where
    go : (b : Bool) → (is_some (if b then Some (pos k) else None) || false) ≡ true → num_equal (exact (pos k) zero) m
        ≡ option_map_or (λ z. num_equal (exact z zero) m) (if b then Some (pos k) else None) false
    go true h = refl
    go false h = absurd (true≢false (sym h))
number_option (json.negative w) m h = refl
number_option (json.float x) m h = absurd (true≢false (sym h))

-- what an integer among the options, or null, accepts
integer_option : (d : Data) (t : Tree) → (is_integer_option d || is_some (as_null d)) ≡ true
    → equal (tree_of d) t ≡ (option_map_or (λ m. option_map_or (λ z. num_equal (exact z zero) m) (integer_of d) false)
    (tree.as_number t) false || (is_some (as_null d) && tree.is_null t))
integer_option json.null tree.null h = refl
integer_option json.null t h = refl
integer_option (json.number n) (tree.number m) h = number_option n m h ∙ by_itself _
integer_option (json.number n) t h = refl
integer_option d t h = absurd (true≢false (sym h))

pub are_integers : (ds : Items) (zs : List ℤ) → only is_integer_option ds ≡ true
    → IsPermutation (picked integer_of ds) zs → AreOptions (has_integer zs) (has_null ds) ds
are_integers = are_options integer_of tree.as_number (λ z. num_equal (exact z zero)) integer_option

-- ---- floats among the options

-- an array of options is at fault as a value is
pub as_value : (q : Pointer) (d : Data) (ds : Items) → d ≡ array ds
    → enum_value q d ≡ map_ok (λ e. ds) (const_value q d)
as_value q d ds h = rw h (go (first_float_item ds))
  where
    go : (o : Option Data) → unless_float q o ds ≡ map_ok (λ e. ds) (unless_float q o (array ds))
    go None = refl
    go (Some f) = refl

-- ---- unique items

-- what is no array has none
pub no_items_unique : (t : Tree) → tree.is_array t ≡ false → unique (tree.items t) ≡ true
no_items_unique (tree.array ts) h = absurd (true≢false h)
no_items_unique t h = refl
