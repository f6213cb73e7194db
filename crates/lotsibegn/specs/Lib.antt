-- What the contracts of a program cite: definitions by their names, and the modules that they are from.

-- the trees that values of the two representations stand for, and trees without floats
pub use Rattle.jskw_value.specs.Serde.{value_tree}
pub use Rattle.jskw_value.specs.DecimalTree.{decimal_tree}
pub use Rattle.jskw_value.specs.Tree.{Tree, is_lawful}
-- what bytes denote as JSON text
pub use Rattle.jskw_text.specs.Reading.{reading}
-- when an instance is valid, its errors in order, and its evaluation tree
pub use Rattle.jskw_report.specs.Holds.{holds}
pub use Rattle.jskw_report.specs.Fail.{Failure, fail}
pub use Rattle.jskw_report.specs.Evaluation.{tree, annotation_at, children_at, instance_location_at, is_valid}
pub use Rattle.jskw_report.specs.Evaluation.{keyword_location_at, keywords_at}
-- what errors of the code say, and what calls owe to errors and readings
pub use Rattle.jskw_report.specs.Errors.{failure_of, failures_of, kind_of}
pub use Rattle.jskw_report.specs.Kind.{ErrorKind, keyword_of}
pub use Rattle.jskw_report.specs.Observe.{Appends, IsFirst}
pub use Rattle.jskw_report.specs.Paths.{path_of}
pub use Rattle.jskw_report.specs.Compile.{CompilesTo, refusal_of}
-- what a schema says
pub use Rattle.jskw_report.specs.Keyword.{Schema, hands_on_required, schema_location}
pub use Rattle.jskw_report.specs.Read.{read}
pub use Rattle.jskw_report.specs.Setting.{Setting, all_vocabularies, is_active, with_object_layer}
-- what a schema says that is not checked
pub use Rattle.jskw_unchecked.specs.Unchecked.{unchecked}
-- the modules
pub use Rattle.jskw_text.specs.Laws
pub use Rattle.jskw_text.specs.NotJsonReason
pub use Rattle.jskw_text.specs.NumberText
pub use Rattle.jskw_text.specs.Position
pub use Rattle.jskw_text.specs.ReadFault
pub use Rattle.jskw_text.specs.Reading
pub use Rattle.jskw_value.specs.Decimal
pub use Rattle.jskw_value.specs.DecimalTree
pub use Rattle.jskw_value.specs.Equality
pub use Rattle.jskw_value.specs.FirstFloat
pub use Rattle.jskw_value.specs.InsertFault
pub use Rattle.jskw_value.specs.Members
pub use Rattle.jskw_value.specs.Number
pub use Rattle.jskw_value.specs.Pointer
pub use Rattle.jskw_value.specs.Serde
pub use Rattle.jskw_value.specs.Tree
pub use Rattle.jskw_value.specs.Types
pub use Rattle.jskw_value.specs.Walk
pub use Rattle.jskw_report.specs.Applications
pub use Rattle.jskw_report.specs.Compile
pub use Rattle.jskw_report.specs.Errors
pub use Rattle.jskw_report.specs.Evaluation
pub use Rattle.jskw_report.specs.EvaluationParts
pub use Rattle.jskw_report.specs.EvaluationView
pub use Rattle.jskw_report.specs.Fail
pub use Rattle.jskw_report.specs.Holds
pub use Rattle.jskw_report.specs.Keyword
pub use Rattle.jskw_report.specs.KeywordValue
pub use Rattle.jskw_report.specs.Kind
pub use Rattle.jskw_report.specs.Observe
pub use Rattle.jskw_report.specs.Paths
pub use Rattle.jskw_report.specs.Read
pub use Rattle.jskw_report.specs.Setting
pub use Rattle.jskw_report.specs.Sibling
pub use Rattle.jskw_unchecked.specs.Covered
pub use Rattle.jskw_unchecked.specs.Reason
pub use Rattle.jskw_unchecked.specs.Unchecked
