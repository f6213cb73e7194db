-- How places, locations, errors and refusals are written.
use Rattle.std.specs.Prelude.{◌≡◌, ℕ, ◌+◌, ◌-◌, ◌/◌, ◌%◌, ◌==◌, ◌&&◌, ◌||◌, List, [], ◌∷◌, ◌++◌, Bool, codes}
use Rattle.std.specs.Prelude.{decimal, eqb, get_or, nat_le, nat_lt, if◌then◌else◌, unwrap_or, option_map, Option}
use Rattle.std.specs.Prelude.{Some, None}
use Rattle.json.specs.Print.{quoted}
use Rattle.jskw_report.specs.Fail.{Failure}
use Rattle.jskw_sentence.specs.Place.{place_shown}
use Rattle.jskw_documents.specs.declared.options.Output.{Output}
use Rattle.jskw_documents.specs.declared.options.Output.TheVariants.{Basic}

-- ---- words of a line: a character that a terminal obeys is written as its escape of JSON, so that a line is one line

abbrev pub is_control : ℕ → Bool
is_control b = nat_lt b 32 || b == 127

abbrev pub is_from : ℕ → ℕ → ℕ → Bool
is_from least most b = nat_le least b && nat_le b most

-- how many bytes the character has that these three begin with, if a terminal obeys it: a control character (to U+001F,
-- U+007F to U+009F), a separator of lines (U+2028, U+2029), or one that turns the direction of what follows (U+202A to
-- U+202E, U+2066 to U+2069); 0 for any other
abbrev pub obeyed : ℕ → ℕ → ℕ → ℕ
obeyed b c d =
    if is_control b then 1
    else (if b == 194 && is_from 128 159 c then 2
    else (if b == 226 && c == 128 && is_from 168 174 d then 3
    else (if b == 226 && c == 129 && is_from 166 169 d then 3
    else 0)))

-- its code
abbrev pub obeyed_code : ℕ → ℕ → ℕ → ℕ
obeyed_code b c d = if nat_lt b 128 then b else (if b == 194 then c else (if c == 128 then 8064 + d else 8128 + d))

-- a byte that is a character by itself, and no such one
abbrev pub is_plain : ℕ → Bool
is_plain b = is_from 32 126 b

abbrev pub hex_digit : ℕ → ℕ
hex_digit n = if nat_lt n 10 then 48 + n else 87 + n

abbrev pub escape_of : ℕ → List ℕ
escape_of n =
    codes "\\u" ++ (hex_digit (n / 4096 % 16) ∷ hex_digit (n / 256 % 16) ∷ hex_digit (n / 16 % 16)
    ∷ hex_digit (n % 16) ∷ [])

-- what is written of the first of three bytes: the escape of a character that begins with it, or the byte
abbrev pub shown_first : ℕ → ℕ → ℕ → List ℕ
shown_first b c d = if eqb (obeyed b c d) 0 then (b ∷ []) else escape_of (obeyed_code b c d)

-- the same, if the first n bytes are those of a character that is written already
abbrev pub shown_byte : ℕ → ℕ → ℕ → ℕ → List ℕ
shown_byte n b c d = if eqb n 0 then shown_first b c d else []

-- how many bytes behind the first are those of a character that is then written
abbrev pub behind_byte : ℕ → ℕ → ℕ → ℕ → ℕ
behind_byte n b c d = if eqb n 0 then obeyed b c d - 1 else n - 1

abbrev pub shown_behind : ℕ → List ℕ → List ℕ
shown_behind n [] = []
shown_behind n (b ∷ bs) =
    shown_byte n b (get_or bs 0 0) (get_or bs 1 0)
    ++ shown_behind (behind_byte n b (get_or bs 0 0) (get_or bs 1 0)) bs

abbrev pub shown : List ℕ → List ℕ
shown words = shown_behind 0 words

-- these bytes, and then the words
abbrev pub shown_after : List ℕ → List ℕ → List ℕ
shown_after before words = before ++ shown words

-- ---- members of an object of JSON: what stands before the value, and the value

abbrev pub quoted_after : List ℕ → List ℕ → List ℕ
quoted_after before words = before ++ quoted words

abbrev pub number_after : List ℕ → ℕ → List ℕ
number_after before n = before ++ decimal n

-- nothing, where there is nothing
abbrev pub if_some : {A : Type 0} → (A → List ℕ) → Option A → List ℕ
if_some write None = []
if_some write (Some a) = write a

-- ---- a place: a file, with the line of the document or of what breaks it, and the column

-- FILE, FILE:LINE or FILE:LINE:COLUMN
abbrev pub place_words : List ℕ → Option ℕ → Option ℕ → List ℕ
place_words file line column =
    shown file ++ (if_some (number_after (codes ":")) line ++ if_some (number_after (codes ":")) column)

-- the beginning of an object, with the members `file`, `line` and `column`
abbrev pub place_members : List ℕ → Option ℕ → Option ℕ → List ℕ
place_members file line column =
    quoted_after (codes "{\"file\":") file
    ++ (if_some (number_after (codes ",\"line\":")) line ++ if_some (number_after (codes ",\"column\":")) column)

-- ---- a refusal: why a document was not checked, and the location of a number at fault

abbrev pub refusal_text : Output → List ℕ → Option ℕ → Option ℕ → Option (List ℕ) → List ℕ → List ℕ
refusal_text Basic file line column location why =
    place_members file line column
    ++ (if_some (quoted_after (codes ",\"instanceLocation\":")) location
    ++ (quoted_after (codes ",\"refused\":") why ++ codes "}\n"))
refusal_text output file line column location why =
    place_words file line column
    ++ (if_some (shown_after (codes ": ")) (option_map place_shown location)
    ++ (shown_after (codes ": ") why ++ codes "\n"))

-- ---- a document that memory ran out for: FILE: refused: memory ran out, of a line FILE:LINE: ..

abbrev pub name_words : Output → List ℕ → List ℕ
name_words Basic file = quoted_after (codes "{\"file\":") file
name_words output file = shown file

abbrev pub before_line : Output → List ℕ
before_line Basic = codes ",\"line\":"
before_line output = codes ":"

abbrev pub memory_words : Output → List ℕ
memory_words Basic = codes ",\"refused\":\"memory ran out\"}\n"
memory_words output = codes ": refused: memory ran out\n"

abbrev pub lost_text : Output → List ℕ → Option ℕ → List ℕ
lost_text output file line =
    name_words output file ++ (if_some (number_after (before_line output)) line ++ memory_words output)

-- ---- errors, each with some message

-- PLACE: INSTANCE LOCATION: MESSAGE [KEYWORD LOCATION]
abbrev pub error_words : List ℕ → List ℕ → Failure → List ℕ
error_words place message f =
    place ++ (shown_after (codes ": ") (place_shown f.instance_location) ++ (shown_after (codes ": ") message
    ++ (shown_after (codes " [") f.keyword_location ++ codes "]\n")))

-- the members `line` and `column`, and the message
abbrev pub place_and_message : ℕ → ℕ → List ℕ → List ℕ
place_and_message line column message =
    number_after (codes ",\"line\":") line
    ++ (number_after (codes ",\"column\":") column ++ (quoted_after (codes ",\"error\":") message ++ codes "}"))

abbrev pub error_object : ℕ → ℕ → List ℕ → Failure → List ℕ
error_object line column message f =
    quoted_after (codes "{\"keywordLocation\":") f.keyword_location
    ++ (quoted_after (codes ",\"instanceLocation\":") f.instance_location
    ++ place_and_message line column message)

-- the line of a value: that of its document in a stream, or some line of a file that is one document
abbrev pub line_of : Option ℕ → ℕ → ℕ
line_of line within = unwrap_or line within

-- what stands behind the lines of the errors, if there are more
abbrev pub more_words : List ℕ → Bool → List ℕ
more_words place cut = if cut then place ++ codes ": .. and more\n" else []

-- what stands behind the place of a document that has errors: the object of the first, and those of the others, and
-- whether there are more
abbrev pub objects_end : Bool → List ℕ
objects_end cut = if cut then codes "],\"more\":true}\n" else codes "]}\n"

abbrev pub objects_text : List ℕ → List ℕ → Bool → List ℕ
objects_text first rest cut = codes ",\"valid\":false,\"errors\":[" ++ (first ++ (rest ++ objects_end cut))

-- of a file, and of the document of this line in it; with some place in the document
abbrev pub IsErrorShown : List ℕ → Option ℕ → Failure → List ℕ → Type 0
IsErrorShown file line f text =
    (message : List ℕ) × (within : ℕ) × (column : ℕ)
    × (text ≡ error_words (place_words file (Some (line_of line within)) (Some column)) message f)

abbrev pub IsErrorObject : Option ℕ → Failure → List ℕ → Type 0
IsErrorObject line f text =
    (message : List ℕ) × (within : ℕ) × (column : ℕ) × (text ≡ error_object (line_of line within) column message f)

-- an object behind another
abbrev pub IsLaterObject : Option ℕ → Failure → List ℕ → Type 0
IsLaterObject line f text = (object : List ℕ) × IsErrorObject line f object × (text ≡ codes "," ++ object)
