-- What a cursor passes over in a text, for private clauses.
use Rattle.std.specs.Prelude.{◌≡◌, ℕ, ◌+◌, ◌<◌, ◌≤◌, List, [], ◌∷◌, ◌++◌, length, drop, Bool, true, false, Option}
use Rattle.std.specs.Prelude.{Some, None, option_and_then, Result, Ok}
use Rattle.std.specs.List.{slice_range}
use Rattle.fast_float.specs.Text.{scan}
use Rattle.json.specs.Json.{value, items, members, parse_map}
use Rattle.json.specs.Lex.{Lexeme, token as token_lexeme, colon, operator_lexeme, begins_colon, between}
use Rattle.json.specs.Lex.{lex, Place, fresh}
use Rattle.json.specs.Lex.{after_value, may_begin, punctuate}
use Rattle.json.specs.Print.{IsNumber}
use Rattle.json.specs.Token as token
use Rattle.json.specs.Word.{ends_word, after_whole, after_fraction, after_exponent}
use Rattle.jskw_value.specs.Number.{Num}
use Rattle.jskw_value.specs.Pointer.{Pointer}
use Rattle.jskw_value.specs.Tree.{Tree, null, boolean, string, array, object, Items, Members, no_members}
use Rattle.jskw_text.specs.NumberText.{number_of, decimal_from}
use Rattle.jskw_text.specs.Reading.{number_tree, tree_of, items_of, members_of}
use Rattle.jskw_text.specs.Wanted.{prune, is_name_wanted}
use Rattle.jskw_text.specs.declared.wanted.Level.{Level}

-- the lexemes of `old` are these and those of `new`, which is shorter by a byte for each at least
pub record Passes (old : List ℕ) (ls : List Lexeme) (new : List ℕ) : Type 0 where
  pub lexed : lex between old ≡ ls ++ lex between new
  pub shorter : length new + length ls ≤ length old

-- the bytes from one offset to another are the text of a number, which denotes d, and there it ends
pub record IsNumberAt (bytes : List ℕ) (start end : ℕ) (d : Num) : Type 0 where
  pub within : end ≤ length bytes
  pub forward : start < end
  pub number : IsNumber (slice_range bytes start end)
  pub denotes : number_of (slice_range bytes start end) ≡ Some d
  pub ended : ends_word (drop end bytes) ≡ true

-- the same behind the sign
pub record IsUnsignedAt (negative : Bool) (bytes : List ℕ) (start end : ℕ) (d : Num) : Type 0 where
  pub within : end ≤ length bytes
  pub forward : start < end
  pub passed : option_and_then after_exponent (option_and_then after_fraction (after_whole (drop start bytes)))
      ≡ Some (drop end bytes)
  pub denotes : decimal_from negative (scan (slice_range bytes start end)) ≡ Some d
  pub ended : ends_word (drop end bytes) ≡ true

-- a bracket, brace, comma or colon comes first, which is this byte
abbrev pub PassesByte : ℕ → List ℕ → List ℕ → Type 0
PassesByte x old new = Passes old (operator_lexeme x ∷ []) new

-- a number comes first that denotes d
abbrev pub PassesNumber : List ℕ → Num → List ℕ → Type 0
PassesNumber old d new = (s : List ℕ) × Passes old (token_lexeme (token.number s) ∷ []) new × (number_of s ≡ Some d)

-- the tree of a token that is a value by itself, or the location of a number that is no decimal
abbrev pub token_tree : token.Token → Option (Result Tree Pointer)
token_tree token.begin_object = None
token_tree token.end_object = None
token_tree token.begin_array = None
token_tree token.end_array = None
token_tree (token.key s) = None
token_tree (token.string s) = Some (Ok (string s))
token_tree (token.number s) = Some (number_tree (number_of s))
token_tree (token.boolean b) = Some (Ok (boolean b))
token_tree token.null = Some (Ok null)
token_tree token.bad = None

-- a token comes first that is a value by itself, of this tree
abbrev pub PassesLeaf : List ℕ → Tree → List ℕ → Type 0
PassesLeaf old t new = (k : token.Token) × Passes old (token_lexeme k ∷ []) new × (token_tree k ≡ Some (Ok t))

-- a name comes first, and its colon
abbrev pub PassesName : List ℕ → List ℕ → List ℕ → Type 0
PassesName old name new = Passes old (token_lexeme (token.string name) ∷ colon ∷ []) new

-- wherever a value may begin, the tokens of `old` are those of a value with this tree, and then those of `new`, unless
-- that begins with a colon
abbrev pub Reads : ℕ → List ℕ → Tree → List ℕ → Type 0
Reads depth old t new =
    (p : Place) → may_begin p ≡ true → begins_colon (lex between new) ≡ false
    → parse_map tree_of (value depth (punctuate p (lex between old)))
    ≡ Some (Ok t, punctuate after_value (lex between new))

-- the same of the items of an array, behind its bracket
abbrev pub ReadsItems : ℕ → List ℕ → Items → List ℕ → Type 0
ReadsItems depth old found new =
    parse_map (items_of 0)
    (items (value depth) (length (punctuate fresh (lex between old))) (punctuate fresh (lex between old)))
    ≡ Some (Ok found, punctuate after_value (lex between new))

-- and of the members of an object, behind its brace
abbrev pub ReadsMembers : ℕ → List ℕ → Members → List ℕ → Type 0
ReadsMembers depth old found new =
    parse_map (members_of no_members)
    (members (value depth) (length (punctuate fresh (lex between old))) (punctuate fresh (lex between old)))
    ≡ Some (Ok found, punctuate after_value (lex between new))

-- ---- what is wanted of it

-- a string comes first, and t is one too, with its text where that is wanted
abbrev pub PassesText : Bool → List ℕ → Tree → List ℕ → Type 0
PassesText wanted old t new =
    (s : List ℕ) × Passes old (token_lexeme (token.string s) ∷ []) new × (r : List ℕ) × (t ≡ string r)
    × (wanted ≡ true → r ≡ s)

-- a name comes first that is not wanted, and its colon
abbrev pub PassesUnwanted : List Level → List ℕ → List ℕ → Type 0
PassesUnwanted w old new = (k : List ℕ) × PassesName old k new × (is_name_wanted w k ≡ false)

-- a value comes first, and of its tree and t the same is left
abbrev pub ReadsWanted : List Level → ℕ → List ℕ → Tree → List ℕ → Type 0
ReadsWanted w depth old t new = (u : Tree) × Reads depth old u new × (prune w t ≡ prune w u)

-- the same of an array, behind its bracket
abbrev pub ReadsItemsWanted : List Level → ℕ → List ℕ → Items → List ℕ → Type 0
ReadsItemsWanted w depth old found new =
    (us : Items) × ReadsItems depth old us new × (prune w (array found) ≡ prune w (array us))

-- and of an object, behind its brace
abbrev pub ReadsMembersWanted : List Level → ℕ → List ℕ → Members → List ℕ → Type 0
ReadsMembersWanted w depth old found new =
    (us : Members) × ReadsMembers depth old us new × (prune w (object found) ≡ prune w (object us))

-- ---- whatever it is

-- a string, a token that is a value by itself, a name and its colon
abbrev pub SkipsText : List ℕ → List ℕ → Type 0
SkipsText old new = (s : List ℕ) × Passes old (token_lexeme (token.string s) ∷ []) new

abbrev pub SkipsLeaf : List ℕ → List ℕ → Type 0
SkipsLeaf old new = (t : Tree) × PassesLeaf old t new

abbrev pub SkipsName : List ℕ → List ℕ → Type 0
SkipsName old new = (k : List ℕ) × PassesName old k new

-- what is between two offsets of a text is passed over
abbrev pub Spans : (List ℕ → List ℕ → Type 0) → List ℕ → ℕ → ℕ → Type 0
Spans Skipped text from to = (from ≤ to) × (to ≤ length text) × Skipped (drop from text) (drop to text)

-- a value, items behind the bracket of their array, members behind the brace of their object
abbrev pub Skips : ℕ → List ℕ → List ℕ → Type 0
Skips depth old new = (u : Tree) × Reads depth old u new

abbrev pub SkipsItems : ℕ → List ℕ → List ℕ → Type 0
SkipsItems depth old new = (us : Items) × ReadsItems depth old us new

abbrev pub SkipsMembers : ℕ → List ℕ → List ℕ → Type 0
SkipsMembers depth old new = (us : Members) × ReadsMembers depth old us new
