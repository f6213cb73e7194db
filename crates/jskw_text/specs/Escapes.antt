-- What is read of a string that has escapes; for private clauses.
use Rattle.std.specs.Prelude.{◌≡◌, ℕ, ◌+◌, ◌-◌, ◌<◌, ◌≤◌, List, length, drop, get_or, Some}
use Rattle.std.specs.Char.{encode_utf8}
use Rattle.json.specs.Lex.{Mode, between, in_string, lex}
use Rattle.json.specs.Text.{Within, plain, code_unit, content, prepend}

-- the four bytes at i are hex digits, which spell the code unit u
pub record IsUnit (d : List ℕ) (i u : ℕ) : Type 0 where
  pub within : i + 4 ≤ length d
  pub value : code_unit (get_or d i 0) (get_or d (i + 1) 0) (get_or d (i + 2) 0) (get_or d (i + 3) 0) ≡ Some u
  pub small : u < 65536
  pub lexed : lex in_string (drop i d) ≡ lex in_string (drop (i + 4) d)
  pub ascii : get_or d (i + 3) 0 < 128

-- Within an escape at i, which is lexed in a mode, are the bytes of the character p.0. It ends before p.1 with an ASCII
-- byte, and there the plain text goes on.
pub record Escape (mode : Mode) (within : Within) (d : List ℕ) (i : ℕ) (p : ℕ × ℕ) : Type 0 where
  pub content_is : content within (drop i d) ≡ prepend (encode_utf8 p.0) (content plain (drop p.1 d))
  pub lexed : lex mode (drop i d) ≡ lex in_string (drop p.1 d)
  pub forward : i < p.1
  pub bound : p.1 ≤ length d
  pub ascii : get_or d (p.1 - 1) 0 < 128

-- the bytes from `start` to the quote at `stop` are the text of a string with this content
pub record IsString (d : List ℕ) (start : ℕ) (s : List ℕ) (stop : ℕ) : Type 0 where
  pub content_is : content plain (drop start d) ≡ Some s
  pub lexed : lex in_string (drop start d) ≡ lex between (drop (stop + 1) d)
  pub bounds : (start ≤ stop) × (stop < length d)
