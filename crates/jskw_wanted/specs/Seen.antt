-- What of a tree a schema looks at, as what is wanted of it level by level.
use Rattle.std.specs.Prelude.{◌≡◌, ⊤, List, [], ◌∷◌, ℕ, Bool, true, false}
use Rattle.std.specs.Set.{is_member}
use Rattle.std.specs.Str.{bytes_eq}
use Rattle.serde_json.specs.Data as value
use Rattle.serde_json.specs.Data.{Data, Items, no_items, item}
use Rattle.jskw_value.specs.Tree.{Tree}
use Rattle.jskw_text.specs.Wanted.{of_items, is_name_wanted, is_text_wanted, is_whole, prune}
use Rattle.jskw_text.specs.declared.wanted.Level.{Level}
use Rattle.jskw_text.specs.declared.wanted.Level.TheVariants.{Whole, Part}
use Rattle.jskw_text.specs.declared.wanted.Names.TheVariants.{All, Those}
use Rattle.jskw_report.specs.Holds.{holds}
use Rattle.jskw_report.specs.Keyword.{Schema, false_schema, schema_object, Keywords, no_keywords, keyword, Keyword}
use Rattle.jskw_report.specs.Keyword.{assertion, contains, each_of, rest_of, Schemas, no_schemas, schema}
use Rattle.jskw_report.specs.Keyword.{Assertion, size, constant, among, unique}
use Rattle.jskw_report.specs.Keyword.{required, at_most, Size, MinItems, MaxItems, MinProperties, MaxProperties}

-- ---- at the first level

-- how many items there are is wanted, and what the next levels say of each
abbrev pub has_level : List Level → Bool
has_level [] = false
has_level (l ∷ ls) = true

-- all names are wanted
abbrev pub are_names_wanted : List Level → Bool
are_names_wanted [] = false
are_names_wanted (Whole ∷ ls) = true
are_names_wanted (Part text All ∷ ls) = true
are_names_wanted (Part text (Those names) ∷ ls) = false

-- ---- keywords without subschemas

-- what a value is compared with: a string by its text, an array by all of its items, an object by all of it
abbrev pub SeesOption : Data → List Level → Type 0
SeesOption (value.string s) ls = is_text_wanted ls ≡ true
SeesOption (value.array ds) ls = is_whole (of_items ls) ≡ true
SeesOption (value.object ms) ls = is_whole ls ≡ true
SeesOption _ ls = ⊤

abbrev pub SeesOptions : Items → List Level → Type 0
SeesOptions no_items ls = ⊤
SeesOptions (item d ds) ls = SeesOption d ls × SeesOptions ds ls

-- how many items or members there are
abbrev pub SeesSize : Size → List Level → Type 0
SeesSize MinItems ls = has_level ls ≡ true
SeesSize MaxItems ls = has_level ls ≡ true
SeesSize MinProperties ls = are_names_wanted ls ≡ true
SeesSize MaxProperties ls = are_names_wanted ls ≡ true

-- what the assertion looks at is wanted
abbrev pub SeesAssertion : Assertion → List Level → Type 0
SeesAssertion (size which n) ls = SeesSize which ls
SeesAssertion (constant d) ls = SeesOption d ls
SeesAssertion (among ds) ls = SeesOptions ds ls
SeesAssertion unique ls = is_whole (of_items ls) ≡ true
SeesAssertion (required names) ls =
    (n : List ℕ) → is_member bytes_eq names n ≡ true → is_name_wanted ls n ≡ true
SeesAssertion (at_most n) ls = has_level ls ≡ true
SeesAssertion _ ls = ⊤

-- ---- any of them

abbrev mutual
  -- what the schema looks at is wanted
  pub Sees : Schema → List Level → Type 0
  Sees (false_schema q) ls = ⊤
  Sees (schema_object q marks ks) ls = SeesAll ks ls

  pub SeesAll : Keywords → List Level → Type 0
  SeesAll no_keywords ls = ⊤
  SeesAll (keyword q k ks) ls = SeesKeyword k ls × SeesAll ks ls

  -- a keyword with subschemas looks at how many items there are, and at what these look at
  pub SeesKeyword : Keyword → List Level → Type 0
  SeesKeyword (assertion q a) ls = SeesAssertion a ls
  SeesKeyword (contains s b) ls = (has_level ls ≡ true) × Sees s (of_items ls)
  SeesKeyword (each_of prefix ss) ls = (has_level ls ≡ true) × SeesEach ss (of_items ls)
  SeesKeyword (rest_of additional n s bare) ls = (has_level ls ≡ true) × Sees s (of_items ls)

  pub SeesEach : Schemas → List Level → Type 0
  SeesEach no_schemas ls = ⊤
  SeesEach (schema s ss) ls = Sees s ls × SeesEach ss ls

-- ---- the law

-- where all that the schema looks at is wanted, what is left of a tree is valid exactly where the tree is
abbrev pub PrunedAlike : Type 0
PrunedAlike = (s : Schema) (ls : List Level) (t : Tree) → Sees s ls → holds s (prune ls t) ≡ holds s t
