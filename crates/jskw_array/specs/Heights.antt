-- A node's subschemas are lower than its schema.
use Rattle.std.specs.Prelude.{◌+◌, ◌≤◌, List, [], ◌∷◌, Bool}
use Rattle.std.proofs.Common.{arith}
use denote.Param.Weighed.{most}
use Rattle.jskw_value.specs.Pointer.{Pointer}
use Rattle.jskw_value.specs.declared.json.JsonNumber as number
use Rattle.jskw_value.specs.declared.json.Object as object
use Rattle.jskw_value.specs.declared.json.Rooted as rooted
use Rattle.jskw_report.specs.Applications.{height, all_height, keyword_height, each_height}
use Rattle.jskw_report.specs.Keyword.{Schema}
use Rattle.jskw_array.specs.Meaning.{schemas_of, validator_keyword}
use Rattle.jskw_array.specs.Node.{schema_of}
use Rattle.jskw_array.specs.Parts.{keywords_of}
use Rattle.jskw_array.specs.declared.items.array_shape.ArrayShapeValidator.{ArrayShapeValidator}
use Rattle.jskw_array.specs.declared.node.Assertions.{Assertions}
use Rattle.jskw_array.specs.declared.node.Assertions.TheVariants.{Never, Keywords}
use Rattle.jskw_array.specs.declared.part.Part.{Part}
use Rattle.jskw_array.specs.declared.part.Part.TheVariants.{Keyword as OfKeyword, Shape}
use Rattle.jskw_array.specs.declared.node.Subschema.TheDeep.{deep-ArrayShapeValidator, deep-Assertions, deep-Part}
use Rattle.jskw_array.specs.declared.node.Subschema.TheDeep.{deep-Validator}
use Rattle.jskw_array.specs.declared.validator.Validator.{Validator}
use Rattle.jskw_array.specs.declared.validator.Validator.TheVariants as validator

each_falls : (ss : List Schema) → most (λ s. height s + 1) ss ≤ each_height (schemas_of ss) + 1
each_falls [] = omega arith
each_falls (s ∷ ss) = omega (arith, each_falls ss)

-- r, o and j say what the types of a representation are
module _ {F Node Number Key : Type 0} (r : rooted.Ghosts Node) (o : object.Ghosts Node Key)
    (j : number.Ghosts Number) where
  keyword_falls : (v : Validator F Node Number Key)
      → deep-Validator F Node Number Key r o j v ≤ keyword_height (validator_keyword v) + 1
  keyword_falls (validator.Leaf v) = omega arith
  keyword_falls (validator.Each v) = omega (arith, each_falls v.nodes.items)
  keyword_falls (validator.Rest v) = omega arith
  keyword_falls (validator.Matching v) = omega arith
  keyword_falls (validator.Bare v) = omega arith

  shape_falls : (v : ArrayShapeValidator F Node Number Key)
      → deep-ArrayShapeValidator F Node Number Key r o j v ≤ keyword_height (validator_keyword v.items.validator) + 1
  shape_falls v = omega (arith, keyword_falls v.items.validator)

  all_fall : (us : List (Part F Node Number Key))
      → most (deep-Part F Node Number Key r o j) us ≤ all_height (keywords_of us) + 1
  all_fall [] = omega arith
  all_fall (OfKeyword k ∷ us) = omega (arith, keyword_falls k.validator, all_fall us)
  all_fall (Shape v ∷ us) = omega (arith, shape_falls v.value, all_fall us)

  pub height_falls : (q : Pointer) (delegates : Bool) (a : Assertions F Node Number Key)
      → deep-Assertions F Node Number Key r o j a ≤ height (schema_of q delegates a)
  height_falls q delegates Never = omega arith
  height_falls q delegates (Keywords us) = omega (arith, all_fall us.items)
