-- The first float of a value, by the list of all that stands in it.
use Rattle.std.specs.Prelude.{◌≡◌, ℕ, suc, List, [], ◌∷◌, ◌++◌, map, find, Bool, true, false, if◌then◌else◌, Option}
use Rattle.std.specs.Prelude.{Some, None, option_map}
use Rattle.std.specs.Option.{option_or}
use Rattle.std.proofs.Common.{refl, sym, ◌∙◌, ap, ap₂}
use Rattle.std.proofs.lemmas.List.Folds.{find-append}
use Rattle.serde_json.specs.Data.{Data, number, float, array, object, Items, no_items, item, Members, no_members}
use Rattle.serde_json.specs.Data.{member}
use Rattle.jskw_value.specs.FirstFloat as location_of
use Rattle.jskw_value.specs.Pointer.{Pointer, name_token, index_token}
use Rattle.jskw_value.specs.Serde.{tree_of, items_of, members_of}
use Rattle.jskw_report.specs.KeywordValue.{first_float, first_float_item, first_float_member}
use Rattle.jskw_report.specs.Laws.{Found, under_token, found_in, found_in_items, found_in_members, is_float_value}
use Rattle.jskw_report.specs.Laws.{FirstFloatIsOne}

-- the first float of a list
abbrev float_of : List Found → Option Found
float_of fs = find (λ f. is_float_value f.value) fs

-- the value of a float that was found
abbrev value_of : Option Found → Option Data
value_of o = option_map (λ f. f.value) o

-- the location of a float that was found
abbrev place_of : Option Found → Option Pointer
place_of o = option_map (λ f. f.location) o

-- ---- one level up

-- the first float of a list, one level up
float_of-under : (token : Pointer) (fs : List Found)
    → float_of (map (under_token token) fs) ≡ option_map (under_token token) (float_of fs)
float_of-under token [] = refl
float_of-under token (f ∷ fs) = go (is_float_value f.value) (float_of-under token fs)
  where
    go : (b : Bool) → float_of (map (under_token token) fs) ≡ option_map (under_token token) (float_of fs)
        → (if b then Some (under_token token f) else float_of (map (under_token token) fs))
        ≡ option_map (under_token token) (if b then Some f else float_of fs)
    go true e = refl
    go false e = e

-- the first float of what stands in a part, or else in the rest
float_of-both : (token : Pointer) (fs gs : List Found) → float_of (map (under_token token) fs ++ gs)
    ≡ option_or (option_map (under_token token) (float_of fs)) (float_of gs)
float_of-both token fs gs =
    find-append (λ f. is_float_value f.value) (map (under_token token) fs) gs
    ∙ ap (λ o. option_or o (float_of gs)) (float_of-under token fs)

-- the value of the first float is the same one level up
value_of-or : (token : Pointer) (o q : Option Found)
    → value_of (option_or (option_map (under_token token) o) q) ≡ option_or (value_of o) (value_of q)
value_of-or token None q = refl
value_of-or token (Some f) q = refl

-- the location of the first float is one token longer one level up
place_of-or : (token : Pointer) (o q : Option Found) → place_of (option_or (option_map (under_token token) o) q)
    ≡ option_or (option_map (λ p. token ++ p) (place_of o)) (place_of q)
place_of-or token None q = refl
place_of-or token (Some f) q = refl

-- ---- values

mutual
  -- the value of the first float in a value
  value_found : (d : Data) → first_float d ≡ value_of (float_of (found_in d))
  value_found (number (float x)) = refl
  value_found (array ds) = value_found_items 0 ds
  value_found (object ms) = value_found_members ms
  value_found _ = refl

  -- the value of the first float in items
  value_found_items : (i : ℕ) (ds : Items) → first_float_item ds ≡ value_of (float_of (found_in_items i ds))
  value_found_items i no_items = refl
  value_found_items i (item d ds) = ap₂ option_or (value_found d) (value_found_items (suc i) ds)
      ∙ sym (ap value_of (float_of-both (index_token i) (found_in d) (found_in_items (suc i) ds))
      ∙ value_of-or (index_token i) (float_of (found_in d)) (float_of (found_in_items (suc i) ds)))

  -- the value of the first float in members
  value_found_members : (ms : Members) → first_float_member ms ≡ value_of (float_of (found_in_members ms))
  value_found_members no_members = refl
  value_found_members (member k d ms) = ap₂ option_or (value_found d) (value_found_members ms)
      ∙ sym (ap value_of (float_of-both (name_token k) (found_in d) (found_in_members ms))
      ∙ value_of-or (name_token k) (float_of (found_in d)) (float_of (found_in_members ms)))

-- ---- locations

mutual
  -- the location of the first float in a value
  place_found : (d : Data) → location_of.first_float (tree_of d) ≡ place_of (float_of (found_in d))
  place_found (number (float x)) = refl
  place_found (array ds) = place_found_items 0 ds
  place_found (object ms) = place_found_members ms
  place_found (number n) = refl
  place_found _ = refl

  -- the location of the first float in items
  place_found_items : (i : ℕ) (ds : Items)
      → location_of.items_float i (items_of ds) ≡ place_of (float_of (found_in_items i ds))
  place_found_items i no_items = refl
  place_found_items i (item d ds) =
      ap₂ (λ o q. option_or (option_map (location_of.below_index i) o) q) (place_found d) (place_found_items (suc i) ds)
      ∙ sym (ap place_of (float_of-both (index_token i) (found_in d) (found_in_items (suc i) ds))
      ∙ place_of-or (index_token i) (float_of (found_in d)) (float_of (found_in_items (suc i) ds)))

  -- the location of the first float in members
  place_found_members : (ms : Members)
      → location_of.members_float (members_of ms) ≡ place_of (float_of (found_in_members ms))
  place_found_members no_members = refl
  place_found_members (member k d ms) =
      ap₂ (λ o q. option_or (option_map (location_of.below_name k) o) q) (place_found d) (place_found_members ms)
      ∙ sym (ap place_of (float_of-both (name_token k) (found_in d) (found_in_members ms))
      ∙ place_of-or (name_token k) (float_of (found_in d)) (float_of (found_in_members ms)))

-- the law
pub first_float_is_one : FirstFloatIsOne
first_float_is_one = record { value = value_found; location = place_found }
