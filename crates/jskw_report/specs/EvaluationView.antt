-- The unit that an evaluation of the code stands for.
use Rattle.std.specs.Prelude.{List, [], true, false, option_map}
use Rattle.jskw_report.specs.Evaluation.{Result}
use Rattle.jskw_report.specs.EvaluationParts.{Description, annotation_of, keywords_of}
use Rattle.jskw_report.specs.declared.evaluation.EvaluationResult.{EvaluationResult}
use Rattle.jskw_report.specs.declared.evaluation.EvaluationResult.TheVariants.{Valid, Invalid}

-- the descriptions of an evaluation: a valid one has none
abbrev pub descriptions_of : EvaluationResult → List Description
descriptions_of (Valid a es) = []
descriptions_of (Invalid a es ds) = ds.items

-- the unit of an evaluation, which tells keywords and no texts
abbrev pub result_of : EvaluationResult → Result
result_of (Valid a es) = record {
  valid = true;
  annotation = option_map annotation_of a;
  descriptions = [];
  children = es.items;
}
result_of (Invalid a es ds) = record {
  valid = false;
  annotation = option_map annotation_of a;
  descriptions = keywords_of ds.items;
  children = es.items;
}
