-- The tree that a JSON text denotes, each number being the decimal that its text denotes.
use Rattle.std.specs.Prelude.{ℕ, suc, List, [], Option, Some, None, Result, Ok, Err, option_map, option_and_then}
use Rattle.std.specs.Prelude.{if◌then◌else◌}
use Rattle.std.specs.Cmp.Lexicographic.{slice_cmp}
use Rattle.std.specs.Ordering.{nat_cmp, match_ordering}
use Rattle.std.specs.Str.{is_utf8}
use Rattle.json.specs.Json as json
use Rattle.json.specs.Lex.{tokens}
use Rattle.jskw_value.specs.FirstFloat.{below_index, below_name}
use Rattle.jskw_value.specs.Number.{Num}
use Rattle.jskw_value.specs.Pointer.{Pointer}
use Rattle.jskw_value.specs.Tree.{Tree, null, boolean, number, string, array, object, Items, no_items, item, Members}
use Rattle.jskw_value.specs.Tree.{no_members, member}
use Rattle.jskw_text.specs.NumberText.{number_of}

-- f of what was found, where there is no error
abbrev pub on_found : {A B : Type 0} → (A → B) → Result A Pointer → Result B Pointer
on_found f (Ok a) = Ok (f a)
on_found f (Err p) = Err p

-- goes on with what was found in an item or a member, or with its error, the location of which is seen from outside
abbrev pub and_then : {A B : Type 0} → (Pointer → Pointer) → (A → Result B Pointer) → Result A Pointer
    → Result B Pointer
and_then outside f (Ok a) = f a
and_then outside f (Err p) = Err (outside p)

-- the members, which stand in the order of their names, with t at k
abbrev pub put : List ℕ → Tree → Members → Members
put k t no_members = member k t no_members
put k t (member l u ms) =
    match_ordering (slice_cmp nat_cmp k l) (member k t (member l u ms)) (member l t ms) (member l u (put k t ms))

-- the tree of a number, or its location where it is not exact
abbrev pub number_tree : Option Num → Result Tree Pointer
number_tree (Some n) = Ok (number n)
number_tree None = Err []

-- The tree of a JSON value, or the location of the first number, as the text goes, that is not exact. Of a name
-- that comes twice the last value stays, and the numbers of each are looked at.
abbrev mutual
  pub tree_of : json.Json → Result Tree Pointer
  tree_of json.null = Ok null
  tree_of (json.boolean b) = Ok (boolean b)
  tree_of (json.number s) = number_tree (number_of s)
  tree_of (json.string s) = Ok (string s)
  tree_of (json.array js) = on_found array (items_of 0 js)
  tree_of (json.object ms) = on_found object (members_of no_members ms)

  -- the items from index i on
  pub items_of : ℕ → json.Items → Result Items Pointer
  items_of i json.no_items = Ok no_items
  items_of i (json.item j js) = and_then (below_index i) (λ t. on_found (item t) (items_of (suc i) js)) (tree_of j)

  -- the members, put one after another to those that were found
  pub members_of : Members → json.Members → Result Members Pointer
  members_of found json.no_members = Ok found
  members_of found (json.member k j ms) = and_then (below_name k) (λ t. members_of (put k t found) ms) (tree_of j)

-- how deep arrays and objects may nest
abbrev pub max_depth : ℕ
max_depth = 127

-- the JSON value that a text is
abbrev pub document : List ℕ → Option json.Json
document text = option_and_then (λ p. json.if_last p.0 p.1) (json.value max_depth (tokens text))

-- The tree of bytes, or the location of the first number that is not exact; nothing where the bytes are not UTF-8 or no
-- JSON.
abbrev pub reading : List ℕ → Option (Result Tree Pointer)
reading bytes = option_map tree_of (if is_utf8 bytes then document bytes else None)
