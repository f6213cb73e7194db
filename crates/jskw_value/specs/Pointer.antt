-- JSON pointers (RFC 6901): a location as text, the whole value's being the empty text.
use Rattle.std.specs.Prelude.{ℕ, List, ◌∷◌, [], ◌++◌, codes, decimal, if◌then◌else◌, ◌==◌, flat_map}

-- the bytes of the text
abbrev pub Pointer : Type 0
Pointer = List ℕ

-- in a name `~` is written `~0`, and `/` is written `~1` (RFC 6901, section 3)
abbrev pub escape_byte : ℕ → List ℕ
escape_byte b = if b == 126 then codes "~0" else (if b == 47 then codes "~1" else b ∷ [])

-- a name as a reference token
abbrev pub escape : List ℕ → List ℕ
escape name = flat_map escape_byte name

-- a slash and the reference token of a member, its name (section 4)
abbrev pub name_token : List ℕ → Pointer
name_token name = 47 ∷ escape name

-- a slash and the reference token of an item, its index (section 4)
abbrev pub index_token : ℕ → Pointer
index_token i = 47 ∷ decimal i

-- the location of a member of the value at p
abbrev pub member_location : Pointer → List ℕ → Pointer
member_location p name = p ++ name_token name

-- the location of an item of the array at p
abbrev pub item_location : Pointer → ℕ → Pointer
item_location p i = p ++ index_token i
