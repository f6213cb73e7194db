-- What is wanted of a tree, level by level, and what is left of the tree then.
use Rattle.std.specs.Prelude.{◌≡◌, List, [], ◌∷◌, ℕ, map, filter, Bool, true, false, if◌then◌else◌, string_bytes}
use Rattle.std.specs.Prelude.{Option, Some, Result, Ok}
use Rattle.std.specs.Map.{keys_of}
use Rattle.std.specs.Set.{is_member}
use Rattle.std.specs.Str.{bytes_eq}
use Rattle.jskw_value.specs.Pointer.{Pointer}
use Rattle.jskw_value.specs.Tree.{Tree, null, string, array, object, Items, no_items, item, Members}
use Rattle.jskw_value.specs.Tree.{no_members, member, member_list}
use Rattle.jskw_text.specs.declared.wanted.Level.{Level}
use Rattle.jskw_text.specs.declared.wanted.Level.TheVariants.{Whole, Part}
use Rattle.jskw_text.specs.declared.wanted.Names.{Names}
use Rattle.jskw_text.specs.declared.wanted.Names.TheVariants.{All, Those}

-- ---- what is left

-- the tree's type, and which number or boolean it is
abbrev pub outline : Tree → Tree
outline (string s) = string []
outline (array ts) = array no_items
outline (object ms) = object no_members
outline t = t

-- these names, with no values
abbrev pub named : List (List ℕ) → Members
named [] = no_members
named (k ∷ ks) = member k null (named ks)

-- the names of some members
abbrev pub names_in : Members → List (List ℕ)
names_in ms = keys_of (member_list ms)

-- of all names all that are there; of a list those of it that are
abbrev pub wanted_names : Names → List (List ℕ) → List (List ℕ)
wanted_names All ks = ks
wanted_names (Those names) ks = filter (is_member bytes_eq ks) (map string_bytes names.items)

-- f of each item
abbrev pub map_items : (Tree → Tree) → Items → Items
map_items f no_items = no_items
map_items f (item t ts) = item (f t) (map_items f ts)

-- what is left of a tree by a level, where f says what is of an item
abbrev pub prune_level : Level → (Tree → Tree) → Tree → Tree
prune_level Whole f t = t
prune_level (Part text names) f (string s) = string (if text then s else [])
prune_level (Part text names) f (array ts) = array (map_items f ts)
prune_level (Part text names) f (object ms) = object (named (wanted_names names (names_in ms)))
prune_level (Part text names) f t = t

-- what is left of a tree; behind the last level its outline
abbrev pub prune : List Level → Tree → Tree
prune [] t = outline t
prune (l ∷ ls) t = prune_level l (prune ls) t

-- what was read is a tree, of which the same is left as of t
abbrev pub IsRead : List Level → Tree → Option (Result Tree Pointer) → Type 0
IsRead ls t read = (u : Tree) × (read ≡ Some (Ok u)) × (prune ls t ≡ prune ls u)

-- ---- what the reader asks, for private clauses

-- the text of a string is wanted
abbrev pub is_text_wanted : List Level → Bool
is_text_wanted [] = false
is_text_wanted (Whole ∷ ls) = true
is_text_wanted (Part text names ∷ ls) = text

-- all is wanted
abbrev pub is_whole : List Level → Bool
is_whole [] = false
is_whole (Whole ∷ ls) = true
is_whole (Part text names ∷ ls) = false

-- what is wanted of items
abbrev pub of_items : List Level → List Level
of_items [] = []
of_items (Whole ∷ ls) = Whole ∷ ls
of_items (Part text names ∷ ls) = ls

-- what is wanted of the values of members
abbrev pub of_values : List Level → List Level
of_values [] = []
of_values (Whole ∷ ls) = Whole ∷ ls
of_values (Part text names ∷ ls) = []

-- the name is one of the names
abbrev pub wants_name : Names → List ℕ → Bool
wants_name All k = true
wants_name (Those names) k = is_member bytes_eq (map string_bytes names.items) k

-- a name of an object is wanted
abbrev pub is_name_wanted : List Level → List ℕ → Bool
is_name_wanted [] k = false
is_name_wanted (Whole ∷ ls) k = true
is_name_wanted (Part text names ∷ ls) k = wants_name names k
