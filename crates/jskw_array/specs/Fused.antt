-- What the fused shape of an array stands for.
use Rattle.std.specs.Prelude.{◌≡◌, List, [], ◌∷◌}
use Rattle.jskw_report.specs.Keyword.{Keywords, no_keywords, keyword, append_keywords}
use Rattle.jskw_report.specs.Meaning.{Meaning, shape}
use Rattle.jskw_report.specs.declared.keyword.KeywordName.{KeywordName}
use Rattle.jskw_report.specs.declared.keyword.KeywordName.TheVariants.{TypeKeyword, MinItems, MaxItems, Items}
use Rattle.jskw_leaf.specs.Items.{absorbed_keywords}
use Rattle.jskw_array.specs.Meaning.{validator_keyword}
use Rattle.jskw_array.specs.declared.items.array_shape.ArrayShapeValidator.{ArrayShapeValidator}

-- its keywords, in the order in which they are read: the first of all
abbrev pub fused_keywords : List KeywordName
fused_keywords = TypeKeyword ∷ MinItems ∷ MaxItems ∷ Items ∷ []

-- all four keywords
abbrev pub shape_keywords : {F Node Number Key : Type 0} → ArrayShapeValidator F Node Number Key → Keywords
shape_keywords v =
    append_keywords (absorbed_keywords v.absorbed)
    (keyword v.items.location (validator_keyword v.items.validator) no_keywords)

-- the keywords begin with these
abbrev pub IsBeginning : Keywords → Keywords → Type 0
IsBeginning first all = (rest : Keywords) × (all ≡ append_keywords first rest)

-- all four, with the unit of `items`
abbrev pub shape_meaning : {F Node Number Key : Type 0} → ArrayShapeValidator F Node Number Key → Meaning
shape_meaning v = shape (shape_keywords v) (validator_keyword v.items.validator)
