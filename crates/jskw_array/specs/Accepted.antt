-- What is known to be valid against a schema without a look at its keywords.
use Rattle.std.specs.Prelude.{◌≡◌, ◌≤◌, ◌+◌, ◌-◌, ◌&&◌, ℕ, List, [], ◌∷◌, length, min, take, drop, Bool, true, Option}
use Rattle.std.specs.Prelude.{None, Some, IfSome, ⊤}
use Rattle.std.specs.List.{list_all}
use Rattle.jskw_value.specs.Tree.{Tree, is_array, items}
use Rattle.jskw_report.specs.Applications.{all_needed, keyword_needed}
use Rattle.jskw_report.specs.Holds.{all_hold, holds, keyword_holds}
use Rattle.jskw_report.specs.Keyword.{Keyword, Schema}
use Rattle.jskw_number.specs.Outline.{in_outline}
use Rattle.jskw_number.specs.QuickSet.{is_in}
use Rattle.jskw_number.specs.declared.outline.Outline.{Outline}
use Rattle.jskw_number.specs.declared.quick_set.QuickSet.{QuickSet}
use Rattle.jskw_array.specs.Meaning.{validator_keyword}
use Rattle.jskw_array.specs.Parts.{keywords_of, own_keyword}
use Rattle.jskw_array.specs.declared.accepted.Accepted.{Accepted}
use Rattle.jskw_array.specs.declared.accepted.ItemSets.{ItemSets}
use Rattle.jskw_array.specs.declared.accepted.SettledParts.{SettledParts}
use Rattle.jskw_array.specs.declared.part.Part.{Part}

-- every tree of the set is valid against the schema
abbrev pub AllValid : QuickSet → Schema → Type 0
AllValid q s = (t : Tree) → is_in q t ≡ true → holds s t ≡ true

-- ---- arrays, by their items

-- each of the first trees is in the set at its index
abbrev pub in_sets : List QuickSet → List Tree → Bool
in_sets [] ts = true
in_sets (q ∷ qs) [] = true
in_sets (q ∷ qs) (t ∷ ts) = is_in q t && in_sets qs ts

-- all of them are in the set, if there is one
abbrev pub in_rest : Option QuickSet → List Tree → Bool
in_rest None ts = true
in_rest (Some q) ts = list_all (is_in q) ts

-- the tree is an array of one of the lengths whose items are in their sets
abbrev pub in_arrays : ItemSets → Tree → Bool
in_arrays a t =
    is_array t
    && (in_outline a.lengths t && (in_sets a.front.items (items t) && in_rest a.rest (drop a.start (items t))))

-- how many of its items have the schema for those from `start` on, if there is one
abbrev pub rest_cost : Option QuickSet → ℕ → Tree → ℕ
rest_cost None start t = 0
rest_cost (Some q) start t = length (items t) - start

-- how many times schemas are applied to its items
abbrev pub items_cost : ItemSets → Tree → ℕ
items_cost a t = min (length (items t)) (length a.front.items) + rest_cost a.rest a.start t

-- and to the array itself too
abbrev pub arrays_cost : ItemSets → Tree → ℕ
arrays_cost a t = items_cost a t + 1

-- of each tree of the new set the keyword holds too, and its applications are among those that it needs
abbrev pub AddsKeyword : ItemSets → ItemSets → Keyword → Type 0
AddsKeyword old new k = (t : Tree) → in_arrays new t ≡ true
    → (in_arrays old t ≡ true) × (keyword_holds k t ≡ true)
    × (arrays_cost new t ≤ arrays_cost old t + keyword_needed k t)

-- there is a set for each schema, and every tree of it is valid against the schema
abbrev pub SetsAccept : List QuickSet → List Schema → Type 0
SetsAccept [] [] = ⊤
SetsAccept (q ∷ qs) (s ∷ ss) = AllValid q s × SetsAccept qs ss
SetsAccept _ _ = ⊥

-- ---- schemas

module _ {F Node Number Key : Type 0} where
  -- the tree is in the outline, and the part holds of it
  abbrev pub in_typed : Outline → Part F Node Number Key → Tree → Bool
  in_typed o u t = in_outline o t && keyword_holds (validator_keyword (own_keyword u).validator) t

  -- the first of these parts hold of every tree of the outline
  abbrev pub AreSettled : SettledParts → List (Part F Node Number Key) → Type 0
  AreSettled b us =
      (b.count ≤ length us)
      × ((t : Tree) → in_outline b.outline t ≡ true → all_hold (keywords_of (take b.count us)) t ≡ true)

  -- all of these parts hold of each array of the set, and need the applications that are counted for it
  abbrev pub ArraysAreValid : List (Part F Node Number Key) → ItemSets → Type 0
  ArraysAreValid us a = (t : Tree) → in_arrays a t ≡ true
      → (all_hold (keywords_of us) t ≡ true) × (arrays_cost a t ≤ 1 + all_needed (keywords_of us) t)

  -- what is known of a schema of these parts
  pub record IsKnown (a : Accepted) (us : List (Part F Node Number Key)) : Type 0 where
    pub values : (t : Tree) → is_in a.values t ≡ true → all_hold (keywords_of us) t ≡ true
    pub settled : AreSettled a.settled us
    pub arrays : IfSome a.arrays (λ b. ArraysAreValid us b.value)
