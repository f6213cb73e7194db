-- Sets of types that are put together item by item.
use Rattle.std.proofs.Common.{◌≡◌, ◌≢◌, ℕ, ◌+◌, ◌<◌, List, [], ◌∷◌, length, drop, get_or, ◌||◌, Result, Ok, Err, refl}
use Rattle.std.proofs.Common.{ap, ◌∙◌, arith}
use Rattle.std.proofs.Math.Bool.{or-true}
use Rattle.std.proofs.lemmas.List.{at_drop_more}
use Rattle.serde_json.specs.View.{view, items_view}
use Rattle.serde_json.specs.declared.value.Value.{Value}
use Rattle.jskw_value.specs.Pointer.{Pointer}
use Rattle.jskw_report.specs.declared.error.TypeKind.TheVariants.{Multiple}
use Rattle.jskw_value.specs.Types.{no_types, insert}
use Rattle.jskw_value.specs.declared.types.JsonType.{JsonType}
use Rattle.jskw_value.specs.declared.types.JsonType.TheVariants.{Array}
use Rattle.jskw_value.specs.declared.types.JsonTypeSet.{JsonTypeSet}
use Rattle.jskw_report.specs.Kind.{Enum, TypeNames}
use Rattle.jskw_report.specs.KeywordValue.{Refusal, map_ok, with_type, one_type, type_set, array_types, named_type}

abbrev pub union : JsonTypeSet → JsonTypeSet → JsonTypeSet
union a b =
    record {
      arrays =
          a.arrays || b.arrays;
      booleans =
          a.booleans || b.booleans;
      integers =
          a.integers || b.integers;
      nulls =
          a.nulls || b.nulls;
      numbers =
          a.numbers || b.numbers;
      objects = a.objects || b.objects;
      strings = a.strings || b.strings;
    }

-- a set with the types that were read after it
abbrev pub with_types : JsonTypeSet → Result JsonTypeSet Refusal → Result JsonTypeSet Refusal
with_types s r = map_ok (union s) r

pub array_of_one : (q : Pointer) (vs : List Value) (d : Value) → length vs ≡ 1
    → array_types q (items_view vs) ≡ one_type q (view (get_or vs 0 d))
array_of_one q (v ∷ []) d h = refl
array_of_one q vs d h = absurd (omega (arith, h))

pub array_of_others : (q : Pointer) (vs : List Value) → length vs ≢ 1
    → array_types q (items_view vs) ≡ map_ok Multiple (type_set q (items_view vs))
array_of_others q (v ∷ []) h = absurd (h refl)
array_of_others q vs h = refl

pub with_no_types : (r : Result JsonTypeSet Refusal) → with_types no_types r ≡ r
with_no_types (Ok s) = refl
with_no_types (Err e) = refl

union_insert : (j : JsonType) (a b : JsonTypeSet) → union a (insert j b) ≡ union (insert j a) b
union_insert Array a b = simp or-true
union_insert j a b = simp or-true

-- the item at index i names the type j
pub next_type : (q : Pointer) (vs : List Value) (i : ℕ) (d : Value) (s : JsonTypeSet) (j : JsonType) → i < length vs
    → named_type (Enum TypeNames) q (view (get_or vs i d)) ≡ Ok j
    → with_types s (type_set q (items_view (drop i vs)))
    ≡ with_types (insert j s) (type_set q (items_view (drop (i + 1) vs)))
next_type q vs i d s j h e =
    at_drop_more (λ xs. with_types s (type_set q (items_view xs))) vs i d h
    ∙ rw e (go (type_set q (items_view (drop (i + 1) vs))))
  where
    go : (r : Result JsonTypeSet Refusal) → with_types s (with_type (Ok j) r) ≡ with_types (insert j s) r
    go (Ok t) = ap Ok (union_insert j s t)
    go (Err e) = refl
