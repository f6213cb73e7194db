-- The numbers of the statuses, as include/jskw.h has them. No clause takes one from a constant of the code.
use Rattle.std.specs.Prelude.{ℕ}

-- the instance is valid; of `jskw_compile`: the handle has the schema
abbrev pub VALID : ℕ
VALID = 0

-- the instance has errors
abbrev pub INVALID : ℕ
INVALID = 1

-- the schema or the instance is not JSON
abbrev pub NOT_JSON : ℕ
NOT_JSON = 3

-- the instance contains a number that is not exact
abbrev pub INEXACT : ℕ
INEXACT = 4

-- the schema does not compile
abbrev pub BAD_SCHEMA : ℕ
BAD_SCHEMA = 5

-- there is no such setting
abbrev pub BAD_SETTING : ℕ
BAD_SETTING = 6

-- the handle has no schema
abbrev pub NO_SCHEMA : ℕ
NO_SCHEMA = 7

-- memory ran out
abbrev pub NO_MEMORY : ℕ
NO_MEMORY = 8

-- the buffer is too small for the text
abbrev pub TOO_SMALL : ℕ
TOO_SMALL = 9
