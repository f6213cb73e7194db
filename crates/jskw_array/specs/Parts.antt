-- What the parts of a node stand for.
use Rattle.std.specs.Prelude.{List, [], ◌∷◌, Bool, Result, Option, None, Some, IfSome}
use Rattle.jskw_report.specs.Keyword.{Keywords, no_keywords, keyword, append_keywords, keyword_delegates}
use Rattle.jskw_report.specs.KeywordValue.{Refusal, map_ok}
use Rattle.jskw_report.specs.Meaning.{Meaning, one_keyword}
use Rattle.jskw_report.specs.Read.{read_keywords, readings_named}
use Rattle.jskw_report.specs.Setting.{CompilePoint}
use Rattle.jskw_report.specs.declared.keyword.KeywordName.{KeywordName}
use Rattle.serde_json.specs.Data.{Members}
use Rattle.jskw_array.specs.Fused.{IsBeginning, shape_keywords}
use Rattle.jskw_array.specs.Meaning.{validator_keyword}
use Rattle.jskw_array.specs.declared.items.array_shape.ArrayShapeValidator.{ArrayShapeValidator}
use Rattle.jskw_array.specs.declared.part.LocatedValidator.{LocatedValidator}
use Rattle.jskw_array.specs.declared.part.Part.{Part}
use Rattle.jskw_array.specs.declared.part.Part.TheVariants.{Keyword as OfKeyword, Shape}

-- keywords that are read after others, or their refusal
abbrev pub after : Keywords → Result Keywords Refusal → Result Keywords Refusal
after done r = map_ok (append_keywords done) r

-- these keywords of an object, as they are read
abbrev pub keywords_read : List KeywordName → CompilePoint → Members → Result Keywords Refusal
keywords_read ws point ms = read_keywords ws point.setting point.location ms (λ name. readings_named name ms)

module _ {F Node Number Key : Type 0} where
  -- the keyword that a part is
  abbrev pub own_keyword : Part F Node Number Key → LocatedValidator F Node Number Key
  own_keyword (OfKeyword k) = k
  own_keyword (Shape v) = v.value.items

  -- the keywords of parts, one after another
  abbrev pub keywords_of : List (Part F Node Number Key) → Keywords
  keywords_of [] = no_keywords
  keywords_of (u ∷ us) = keyword (own_keyword u).location (validator_keyword (own_keyword u).validator) (keywords_of us)

  abbrev pub part_meaning : Part F Node Number Key → Meaning
  part_meaning u = one_keyword (validator_keyword (own_keyword u).validator)

  -- the `required` of a subschema is delegated
  abbrev pub part_delegates : Part F Node Number Key → Bool
  part_delegates u = keyword_delegates (validator_keyword (own_keyword u).validator)

  -- the first fused shape that a part is in, if there is one
  abbrev pub shape_in : List (Part F Node Number Key) → Option (ArrayShapeValidator F Node Number Key)
  shape_in [] = None
  shape_in (Shape v ∷ us) = Some v.value
  shape_in (OfKeyword k ∷ us) = shape_in us

  -- its keywords are the first of all
  abbrev pub ShapeBegins : List (Part F Node Number Key) → Type 0
  ShapeBegins us = IfSome (shape_in us) (λ v. IsBeginning (shape_keywords v) (keywords_of us))
