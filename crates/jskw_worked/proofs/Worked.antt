-- The words in which the worked rows are written.
use Prim.Native.String.{String}
use Rattle.std.specs.Prelude.{◌≡◌, ℕ, zero, suc, decimal, ℤ, negsuc, ◌-◌, List, [], ◌∷◌, map, codes, Bool, true, false}
use Rattle.std.specs.Prelude.{Ok, Err, Option, Some, None}
use Rattle.std.specs.Float.{nan}
use Rattle.serde_json.specs.Data.{unsigned, negative, float, Data, boolean, number, string, array, object, Items}
use Rattle.serde_json.specs.Data.{no_items, item, Members, no_members, put}
use Rattle.serde_json.specs.Find.{get_member}
use Rattle.jskw_value.specs.Number.{exact}
use Rattle.jskw_value.specs.Pointer.{Pointer}
use Rattle.jskw_value.specs.Serde.{tree_of}
use Rattle.jskw_value.specs.Tree as tree
use Rattle.jskw_value.specs.Tree.{Tree}
use Rattle.jskw_report.specs.declared.settings.Draft.{Draft}
use Rattle.jskw_report.specs.declared.settings.Draft.TheVariants.{Draft202012}
use Rattle.jskw_report.specs.declared.settings.VocabularySet.{VocabularySet}
use Rattle.jskw_report.specs.Applications.{pairs, pairs_at, needed}
use Rattle.jskw_report.specs.Evaluation.{Evaluation, Annotation, evaluations, node}
use Rattle.jskw_report.specs.Evaluation as evaluation
use Rattle.jskw_report.specs.Fail.{Failure, fail}
use Rattle.jskw_report.specs.Holds.{holds}
use Rattle.jskw_report.specs.Keyword.{Schema, hands_on_required}
use Rattle.jskw_report.specs.Kind.{ErrorKind}
use Rattle.jskw_report.specs.Read.{Reading, read, Asserts, asserted, readings}
use Rattle.jskw_report.specs.Setting.{Setting, all_vocabularies, name_of}
use Rattle.jskw_report.specs.declared.keyword.KeywordName.{KeywordName}
use Rattle.jskw_report.specs.Sibling.{is_fused}

-- a string as antt writes it
abbrev pub Text : Type 0
Text = String

-- ---- rows

-- what is asked, and what is wanted
abbrev pub Row : Type 0 → Type 0
Row A = A × A

-- the row of these two
abbrev pub row : {A : Type 0} → A → A → Row A
row asked wanted = (asked, wanted)

-- every row has what is wanted
abbrev pub Right : {A : Type 0} → List (Row A) → Type 0
Right rows = map (λ r. r.0) rows ≡ map (λ r. r.1) rows

-- ---- JSON values

-- a whole number from 0 on
abbrev pub num : ℕ → Data
num n = number (unsigned n)

-- a whole number below 0
abbrev pub minus : ℕ → Data
minus n = number (negative (negsuc (n - 1)))

-- a number with a fraction, whose value no row asks for
abbrev pub a_float : Data
a_float = number (float nan)

-- a string
abbrev pub str : Text → Data
str s = string (codes s)

-- `true`
abbrev pub yes : Data
yes = boolean true

-- `false`
abbrev pub no : Data
no = boolean false

-- the items of an array
abbrev items : List Data → Items
items [] = no_items
items (d ∷ ds) = item d (items ds)

-- an array
abbrev pub arr : List Data → Data
arr ds = array (items ds)

-- a member of an object
pub record Named : Type 0 where
  pub name : List ℕ
  pub value : Data

-- the member of that name and value
abbrev pub is : Text → Data → Named
is s d = record { name = codes s; value = d }

-- the members of an object, in the order of a `serde_json` map
abbrev members : List Named → Members
members [] = no_members
members (n ∷ ns) = put n.name n.value (members ns)

-- an object
abbrev pub obj : List Named → Data
obj ns = object (members ns)

-- n members, of different names
abbrev numbered : ℕ → List Named
numbered zero = []
numbered (suc n) = record { name = decimal n; value = object no_members } ∷ numbered n

-- an object of n members
abbrev pub obj_of : ℕ → Data
obj_of n = obj (numbered n)

-- ---- instances that are no `serde_json` values

-- the number c / 10^k
abbrev pub decimal_tree : ℤ → ℕ → Tree
decimal_tree c k = tree.number (exact c k)

-- ---- settings

-- the draft with all vocabularies and an object layer
abbrev pub under : Draft → Setting
under d = record { draft = d; vocabularies = all_vocabularies; overridden = []; object_layer = true }

-- Draft 2020-12
abbrev pub latest : Setting
latest = under Draft202012

-- the setting with these vocabularies
abbrev pub with : VocabularySet → Setting → Setting
with vs s = record s { vocabularies = vs }

-- the vocabulary of Core 10 alone
abbrev pub applicator_only : VocabularySet
applicator_only = record { core = false; applicator = true; validation = false }

-- the vocabulary of Validation 6 alone
abbrev pub validation_only : VocabularySet
validation_only = record { core = false; applicator = false; validation = true }

-- the setting with this keyword overridden
abbrev pub without : Text → Setting → Setting
without name s = record s { overridden = codes name ∷ [] }

-- ---- answers

-- an error, its tree left out
pub record Seen : Type 0 where
  pub kind : ErrorKind
  pub instance_location : Pointer
  pub keyword_location : Pointer

-- the error of this kind, instance location and keyword location
abbrev pub error : ErrorKind → Text → Text → Seen
error k p q = record { kind = k; instance_location = codes p; keyword_location = codes q }

-- what is seen of a failure
abbrev seen : Failure → Seen
seen f = record { kind = f.kind; instance_location = f.instance_location; keyword_location = f.keyword_location }

-- what a schema says of an instance: that it is valid, its errors, or the value that the schema may not have;
-- `disagrees` where `holds` and `fail` do
pub data Answer : Type 0 where
  valid : Answer
  errors : List Seen → Answer
  refused : ErrorKind → Pointer → Data → Answer
  disagrees : Answer

-- the answer by whether the schema holds, and by its errors
abbrev answer : Bool → List Seen → Answer
answer true [] = valid
answer true (e ∷ es) = disagrees
answer false [] = disagrees
answer false (e ∷ es) = errors (e ∷ es)

-- the answer by what was read
abbrev answer_of : Reading → Tree → Answer
answer_of (Err e) t = refused e.kind e.location e.value
answer_of (Ok s) t = answer (holds s t) (map seen (fail s t []))

-- what the schema d says of the tree
abbrev pub on_tree : Setting → Data → Tree → Answer
on_tree s d t = answer_of (read d s []) t

-- what the schema d says of the value
abbrev pub on : Setting → Data → Data → Answer
on s d i = on_tree s d (tree_of i)

-- what the schema d says before any instance is looked at
abbrev pub compile : Setting → Data → Answer
compile s d = on_tree s d tree.null

-- the value at the keyword location is refused with an error of the kind
abbrev pub refusal : ErrorKind → Text → Data → Answer
refusal k q d = refused k (codes q) d

-- ---- evaluation trees, counts, and what is delegated

-- f of the schema, if it is one
abbrev told : {A : Type 0} → (Schema → A) → Reading → Option A
told f (Err e) = None
told f (Ok s) = Some (f s)

-- a node: validity, keyword location, instance location, annotation, the keywords of its errors, and the nodes below
abbrev pub ev : Bool → Text → Text → Option Annotation → List Text → List Evaluation → Evaluation
ev ok q p a ds es = node ok (codes q) (codes p) a (map codes ds) (evaluations es)

-- the evaluation tree of the schema d over the value
abbrev pub evaluated : Setting → Data → Data → Option Evaluation
evaluated s d i = told (λ sub. evaluation.tree sub (tree_of i) []) (read d s [])

-- the number of pairs of the schema d over the value
abbrev pub pairs_on : Setting → Data → Data → Option ℕ
pairs_on s d i = told (λ sub. pairs sub (tree_of i)) (read d s [])

-- the numbers of pairs of the schema d over the value that lie at depths 0 to 3
abbrev pub pairs_by_depth : Setting → Data → Data → Option (List ℕ)
pairs_by_depth s d i = told (λ sub. map (pairs_at sub (tree_of i)) (0 ∷ 1 ∷ 2 ∷ 3 ∷ [])) (read d s [])

-- the number of pairs of the schema d over the value, up to the first failure
abbrev pub needed_on : Setting → Data → Data → Option ℕ
needed_on s d i = told (λ sub. needed sub (tree_of i)) (read d s [])

-- whether the schema d delegates a `required`
abbrev pub delegates : Setting → Data → Option Bool
delegates s d = told hands_on_required (read d s [])

-- ---- one keyword

-- what the keyword asserts, beside these members
abbrev asserted_beside : KeywordName → Setting → Members → Option Data → Asserts
asserted_beside w s ms None = None
asserted_beside w s ms (Some d) = asserted w s [] ms (readings d)

-- what the keyword of the object d asserts
abbrev pub asserted_in : KeywordName → Setting → Data → Asserts
asserted_in w s (object ms) = asserted_beside w s ms (get_member (name_of w) ms)
asserted_in w s d = None

-- whether the object d is of the fused shape
abbrev pub fused : Setting → Data → Bool
fused s (object ms) = is_fused s ms
fused s d = false
