-- The members of a text of JSON that a later one of the same name replaces.
use Rattle.std.specs.Prelude.{ℕ, suc, List, [], ◌∷◌, ◌++◌, Bool, false, ◌||◌, bytes_eq, codes, if◌then◌else◌}
use Rattle.std.specs.Prelude.{Option, Some, None}
use Rattle.std.specs.Str.{is_utf8}
use Rattle.json.specs.Json.{Json, null, boolean, number, string, array, object, Items, no_items, item, Members}
use Rattle.json.specs.Json.{no_members, member, document}
use Rattle.jskw_value.specs.Pointer.{Pointer, item_location, member_location}
use Rattle.jskw_c.specs.Line.{words_line}

-- the line of a member that a later one replaces
abbrev pub repeated_line : Pointer → List ℕ
repeated_line p = words_line (p ∷ codes "repeated" ∷ [])

-- one of the members has the name
abbrev pub has_member_named : List ℕ → Members → Bool
has_member_named k no_members = false
has_member_named k (member l j ms) = bytes_eq k l || has_member_named k ms

-- A line for each member that a later one of its object replaces, since it has the same name. What stands below such a
-- member is not looked at.
abbrev mutual
  pub repeated_in : Pointer → Json → List ℕ
  repeated_in p null = []
  repeated_in p (boolean b) = []
  repeated_in p (number s) = []
  repeated_in p (string s) = []
  repeated_in p (array js) = repeated_in_items p 0 js
  repeated_in p (object ms) = repeated_in_members p ms

  -- the items from index i on
  pub repeated_in_items : Pointer → ℕ → Items → List ℕ
  repeated_in_items p i no_items = []
  repeated_in_items p i (item j js) = repeated_in (item_location p i) j ++ repeated_in_items p (suc i) js

  -- the members, from the last to the first
  pub repeated_in_members : Pointer → Members → List ℕ
  repeated_in_members p no_members = []
  repeated_in_members p (member k j ms) =
      repeated_in_members p ms
      ++ (if has_member_named k ms then repeated_line (member_location p k) else repeated_in (member_location p k) j)

abbrev pub repeated_of : Option Json → List ℕ
repeated_of None = []
repeated_of (Some j) = repeated_in [] j

-- of a whole text, if it is one
abbrev pub repeated_lines : List ℕ → List ℕ
repeated_lines bytes = if is_utf8 bytes then repeated_of (document bytes) else []
