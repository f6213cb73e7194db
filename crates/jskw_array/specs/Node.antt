-- The schema that a node stands for.
use Rattle.std.specs.Prelude.{◌≡◌, ◌≤◌, ◌+◌, List, Option, Some, None, Bool, true, false, is_some}
use Rattle.std.specs.Borrow.{Bor}
use Rattle.jskw_value.specs.Pointer.{Pointer}
use Rattle.jskw_value.specs.Tree.{Tree}
use Rattle.jskw_report.specs.Applications.{all_applications, all_height, applications, height}
use Rattle.jskw_report.specs.Fail.{all_fail, fail}
use Rattle.jskw_report.specs.Holds.{all_hold, holds}
use Rattle.jskw_report.specs.Keyword.{Schema, false_schema, schema_location, schema_object, Marks, no_marks}
use Rattle.jskw_report.specs.Keyword.{no_keywords}
use Rattle.jskw_number.specs.QuickSet.{is_in}
use Rattle.jskw_array.specs.Accepted.{IsKnown}
use Rattle.jskw_array.specs.Parts.{ShapeBegins, keywords_of, shape_in}
use Rattle.jskw_array.specs.declared.accepted.Accepted.{Accepted}
use Rattle.jskw_array.specs.declared.node.Assertions.{Assertions}
use Rattle.jskw_array.specs.declared.node.Assertions.TheVariants.{Never, Keywords}
use Rattle.jskw_array.specs.declared.part.Part.{Part}

module _ {F Node Number Key : Type 0} where
  -- what is marked of a schema of these parts that delegates its `required` or does not
  abbrev pub marked : Bool → List (Part F Node Number Key) → Marks
  marked delegates us = record { delegates = delegates; fused = is_some (shape_in us) }

  -- at this keyword location, with or without a `required` that it delegates
  abbrev pub schema_of : Pointer → Bool → Assertions F Node Number Key → Schema
  schema_of q delegates Never = false_schema q
  schema_of q delegates (Keywords us) = schema_object q (marked delegates us.items) (keywords_of us.items)

  -- the schema is that of these parts, or it is `false`
  abbrev pub HasParts : Schema → Option (Bor (List (Part F Node Number Key))) → Type 0
  HasParts s None = s ≡ false_schema (schema_location s)
  HasParts s (Some us) =
      (delegates : Bool) × (s ≡ schema_object (schema_location s) (marked delegates us.now) (keywords_of us.now))
      × ShapeBegins us.now

-- a boolean schema: `true` has no keywords
abbrev pub boolean_schema : Pointer → Bool → Schema
boolean_schema q true = schema_object q no_marks no_keywords
boolean_schema q false = false_schema q

-- ---- what is known of a schema

module _ {F Node Number Key : Type 0} where
  -- by its parts, if it has any; `false` accepts nothing
  abbrev pub Knows : Accepted → Assertions F Node Number Key → Type 0
  Knows a Never = (t : Tree) → is_in a.values t ≡ false
  Knows a (Keywords us) = IsKnown a us.items × ShapeBegins us.items

  -- for this tree these parts are as good as the schema: they say the same of it, take no more applications, and are
  -- lower
  pub record Remain (s : Schema) (t : Tree) (us : List (Part F Node Number Key)) : Type 0 where
    pub answer : holds s t ≡ all_hold (keywords_of us) t
    pub errors : (p : Pointer) → fail s t p ≡ all_fail (keywords_of us) t p
    pub applied : (wanted : Bool) → 1 + all_applications wanted (keywords_of us) t ≤ applications wanted s t
    pub lower : 1 + all_height (keywords_of us) ≤ height s

  -- these parts are left of the schema for this tree, or it is `false`
  abbrev pub RemainingParts : Schema → Tree → Option (Bor (List (Part F Node Number Key))) → Type 0
  RemainingParts s t None = s ≡ false_schema (schema_location s)
  RemainingParts s t (Some us) = Remain s t us.now
