-- What the program writes, case by case.
use Rattle.std.proofs.Common.{◌≡◌, ℕ, List, [], Bool, Option, Some, Result, Ok, Err, IfOk, refl, inr}
use Rattle.std.specs.Io.KnownBytes.{Appends}
use Rattle.std.proofs.KnownBytes.{Appends-nil}
use Rattle.jskw_report.specs.Keyword.{Schema}
use Rattle.jskw_service.specs.Run.{status_of_verdict}
use Rattle.jskw_service.specs.declared.service.Verdict.{Verdict}
use Rattle.jskw_documents.specs.Files.{AnswersFiles, HasBytes}
use Rattle.jskw_documents.specs.Schemas.{schema_given}
use Rattle.jskw_check.specs.Commands.{Asked, Command, check}
use Rattle.jskw_check.specs.Program.{Does, Runs, Tells}

-- what is written on standard error alone
pub runs_told : (bytes_of : List ℕ → Option (List ℕ)) (c : Command) (status : ℕ) (told : List ℕ) (v : Option (List ℕ))
    (failed : Bool) (x y : Option (List ℕ))
    → Does bytes_of c status [] told → Tells failed x y told → Runs bytes_of c status v v failed x y
runs_told bytes_of c status told v failed x y does tells =
    record { out = []; told = told; does = does; wrote = Appends-nil v; tells = tells }

-- files under a schema
pub runs_files : {E : Type 0} (made : Result ℕ E) (bytes_of : List ℕ → Option (List ℕ)) (a : Asked) (bytes : List ℕ)
    (schema : Schema) (v w : Option (List ℕ)) (failed : Bool) (x : Option (List ℕ))
    → HasBytes (bytes_of a.schema) bytes → schema_given a.how bytes ≡ Some schema
    → IfOk made
    (λ status. (said : Verdict) × (text : List ℕ)
    × AnswersFiles (record { schema = schema; options = a.options }) a.lines bytes_of a.files said text
    × Appends v w text × (status ≡ status_of_verdict said))
    → IfOk made (λ status. Runs bytes_of (check a) status v w failed x x)
runs_files (Ok status) bytes_of a bytes schema v w failed x has given made =
    record {
      out = made.1;
      told = [];
      does =
          inr (inr (record {
            bytes = bytes;
            has = has;
            schema = schema;
            given = given;
            said = made.0;
            answers = made.2;
            is = made.4;
            tells = refl;
          }));
      wrote = made.3;
      tells = λ works. Appends-nil x;
    }
runs_files (Err e) bytes_of a bytes schema v w failed x has given made = tt
