-- What each validator stands for. A node is seen as the schema that it stands for.
use Rattle.std.specs.Prelude.{List, [], ◌∷◌, Box, false, unwrap_or}
use Rattle.std.specs.declared.alloc.Global.{Global}
use Rattle.jskw_report.specs.Keyword.{Schema, Keyword, contains, each_of, rest_of, Schemas, no_schemas, schema, Bounds}
use Rattle.jskw_leaf.specs.Items.{bare_keyword}
use Rattle.jskw_leaf.specs.Meaning.{leaf_keyword}
use Rattle.jskw_array.specs.declared.each.Each.{Each}
use Rattle.jskw_array.specs.declared.matching.ItemBounds.{ItemBounds}
use Rattle.jskw_array.specs.declared.matching.Matching.{Matching}
use Rattle.jskw_array.specs.declared.rest.Rest.{Rest}
use Rattle.jskw_array.specs.declared.validator.Validator.{Validator}
use Rattle.jskw_array.specs.declared.validator.Validator.TheVariants as validator

-- schemas in their order
abbrev pub schemas_of : List Schema → Schemas
schemas_of [] = no_schemas
schemas_of (s ∷ ss) = schema s (schemas_of ss)

-- the bounds of `contains`
abbrev pub bounds_of : ItemBounds → Bounds
bounds_of b =
    record { lower = b.lower; upper = b.upper; few = b.too_few_at; many = unwrap_or b.too_many_at b.too_few_at }

-- the same in a box
abbrev pub boxed_bounds : Box ItemBounds Global → Bounds
boxed_bounds b = bounds_of b.value

module _ {F Node Number Key : Type 0} where
  abbrev pub each_keyword : Each F Node Number Key → Keyword
  each_keyword v = each_of v.is_prefix (schemas_of v.nodes.items)

  abbrev pub rest_keyword : Rest F Node Number Key → Keyword
  rest_keyword v = rest_of v.is_additional v.start v.node false

  -- the items that match
  abbrev pub matching_keyword : Matching F Node Number Key → Keyword
  matching_keyword v = contains v.node (boxed_bounds v.bounds)

  -- any of them
  abbrev pub validator_keyword : Validator F Node Number Key → Keyword
  validator_keyword (validator.Leaf v) = leaf_keyword v
  validator_keyword (validator.Each v) = each_keyword v
  validator_keyword (validator.Rest v) = rest_keyword v
  validator_keyword (validator.Matching v) = matching_keyword v
  validator_keyword (validator.Bare v) = bare_keyword v
