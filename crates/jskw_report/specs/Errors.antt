-- What an error of the code says, what a list of errors says, and what answers owe to them.
use Rattle.std.specs.Prelude.{List, map}
use Rattle.jskw_value.specs.Pointer.{Pointer}
use Rattle.jskw_value.specs.Tree.{Tree}
use Rattle.jskw_report.specs.Fail.{Failure}
pub use Rattle.jskw_report.specs.Kind.{enum_options_of, kind_of, payload_view}
use Rattle.jskw_report.specs.declared.error.ValidationError.{ValidationError}
use Rattle.jskw_report.specs.declared.error.SchemaPath.{SchemaPath}
use Rattle.jskw_report.specs.declared.error.SchemaPath.TheVariants.{Lent, Owned}

-- the keyword location of an error
abbrev pub schema_path_of : SchemaPath → Pointer
schema_path_of (Lent p) = p.now
schema_path_of (Owned p) = p

-- ---- an error over a representation F, whose nodes stand for trees

-- what an error says
abbrev pub failure_of : {F Node Number Key : Type 0} → (Node → Tree) → ValidationError F Node Number Key → Failure
failure_of tree e =
    record {
      kind =
          kind_of e.kind;
      instance_location =
          e.instance_path;
      keyword_location = schema_path_of e.schema_path;
      tree = tree e.instance.now;
    }

-- what a list of errors says
abbrev pub failures_of : {F Node Number Key : Type 0} → (Node → Tree) → List (ValidationError F Node Number Key)
    → List Failure
failures_of tree es = map (failure_of tree) es
