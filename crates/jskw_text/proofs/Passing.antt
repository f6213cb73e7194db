-- From what a cursor passes over to the trees that tokens denote.
use Rattle.std.proofs.Common.{◌≡◌, ℕ, suc, ◌-◌, ◌<◌, ◌≤◌, Bool, true, false, List, [], ◌∷◌, ◌++◌, length}
use Rattle.std.proofs.Common.{Some, None, Option, Result, Ok, Err, OnOk, option_map, refl, sym, ap, ◌∙◌, subst}
use Rattle.std.proofs.Common.{arith}
use Rattle.std.proofs.lemmas.Bool.{true≢false, false≢true}
use Rattle.std.specs.Str.{is_utf8}
use Rattle.json.proofs.Found.{not_found}
use Rattle.json.proofs.Grammar.{value_is, skip_value-shorter}
use Rattle.json.specs.Json.{parse_map, after_end_array, read_key, items, members, value}
use Rattle.json.specs.Lex.{Lexeme, comma, colon, token as token_lexeme, begins_colon, between, lex, tokens, Place}
use Rattle.json.specs.Lex.{fresh}
use Rattle.json.specs.Lex.{after_value, after_comma, after_key, may_begin, may_close, place_token}
use Rattle.json.specs.Lex.{punctuate}
use Rattle.json.specs.Token as token
use Rattle.json.specs.Token.{Token}
use Rattle.jskw_value.specs.DecimalTree.{items_from}
use Rattle.jskw_value.specs.Pointer.{Pointer}
use Rattle.jskw_value.specs.Tree.{Tree, string, array, object, Items, no_items, item, Members, no_members}
use Rattle.jskw_text.specs.Passing.{Passes, PassesLeaf, PassesName, Reads, ReadsItems, ReadsMembers, token_tree}
use Rattle.jskw_text.specs.Reading.{on_found, put, tree_of, items_of, members_of, reading, max_depth}
use Rattle.jskw_text.proofs.Reading.{parsed_some, leaf_value, array_value, object_value, item_read, items_over}
use Rattle.jskw_text.proofs.Reading.{member_read, members_over}

-- ---- where a value may begin

abbrev is_closing : Token → Bool
is_closing token.begin_object = false
is_closing token.end_object = true
is_closing token.begin_array = false
is_closing token.end_array = true
is_closing (token.key s) = false
is_closing (token.string s) = false
is_closing (token.number s) = false
is_closing (token.boolean b) = false
is_closing token.null = false
is_closing token.bad = false

-- the same tokens as at the beginning
after_comma_too : (t : Token) (ls : List Lexeme) → is_closing t ≡ false
    → punctuate after_comma (token_lexeme t ∷ ls) ≡ punctuate fresh (token_lexeme t ∷ ls)
unfolding punctuate
after_comma_too token.begin_object ls h = refl
after_comma_too token.end_object ls h = absurd (true≢false h)
after_comma_too token.begin_array ls h = refl
after_comma_too token.end_array ls h = absurd (true≢false h)
after_comma_too (token.key s) ls h = refl
after_comma_too (token.string s) ls h = by_colon (begins_colon ls)
  where
    by_colon : (b : Bool) → place_token after_comma (token.string s) b (λ next. punctuate next ls)
        ≡ place_token fresh (token.string s) b (λ next. punctuate next ls)
    by_colon true = refl
    by_colon false = refl
after_comma_too (token.number s) ls h = refl
after_comma_too (token.boolean b) ls h = refl
after_comma_too token.null ls h = refl
after_comma_too token.bad ls h = refl

begun : (p : Place) (t : Token) (ls : List Lexeme) → may_begin p ≡ true → is_closing t ≡ false
    → punctuate p (token_lexeme t ∷ ls) ≡ punctuate fresh (token_lexeme t ∷ ls)
begun fresh t ls m h = refl
begun after_value t ls m h = absurd (false≢true m)
begun after_comma t ls m h = after_comma_too t ls h
begun after_key t ls m h = absurd (false≢true m)

-- ---- a value that is one token

leaf_opens : (k : Token) (t : Tree) → token_tree k ≡ Some (Ok t) → is_closing k ≡ false
leaf_opens token.begin_object t e = refl
leaf_opens token.end_object t e = not_found (Ok t) e
leaf_opens token.begin_array t e = refl
leaf_opens token.end_array t e = not_found (Ok t) e
leaf_opens (token.key s) t e = refl
leaf_opens (token.string s) t e = refl
leaf_opens (token.number s) t e = refl
leaf_opens (token.boolean b) t e = refl
leaf_opens token.null t e = refl
leaf_opens token.bad t e = refl

leaf_token : (depth : ℕ) (k : Token) (ls : List Lexeme) (t : Tree) → token_tree k ≡ Some (Ok t)
    → begins_colon ls ≡ false
    → parse_map tree_of (value depth (punctuate fresh (token_lexeme k ∷ ls))) ≡ Some (Ok t, punctuate after_value ls)
unfolding punctuate
leaf_token depth token.begin_object ls t e h = not_found (Ok t) e
leaf_token depth token.end_object ls t e h = not_found (Ok t) e
leaf_token depth token.begin_array ls t e h = not_found (Ok t) e
leaf_token depth token.end_array ls t e h = not_found (Ok t) e
leaf_token depth (token.key s) ls t e h = not_found (Ok t) e
leaf_token depth (token.string s) ls t e h =
    rw h (leaf_value depth _ (token.string s) (punctuate after_value ls) t refl e)
leaf_token depth (token.number s) ls t e h = leaf_value depth _ (token.number s) (punctuate after_value ls) t refl e
leaf_token depth (token.boolean b) ls t e h = leaf_value depth _ (token.boolean b) (punctuate after_value ls) t refl e
leaf_token depth token.null ls t e h = leaf_value depth _ token.null (punctuate after_value ls) t refl e
leaf_token depth token.bad ls t e h = not_found (Ok t) e

-- a token comes first that may begin a value, and what is behind it is as at the beginning
begins : (old new : List ℕ) (k : Token) → Passes old (token_lexeme k ∷ []) new → is_closing k ≡ false → (p : Place)
    → may_begin p ≡ true → punctuate p (lex between old) ≡ punctuate fresh (token_lexeme k ∷ lex between new)
begins old new k passes opens p may = ap (punctuate p) passes.lexed ∙ begun p k (lex between new) may opens

pub leaf_read : (depth : ℕ) (old : List ℕ) (t : Tree) (new : List ℕ) → PassesLeaf old t new → Reads depth old t new
leaf_read depth old t new leaf p may plain =
    let k = leaf.0 in
    ap (λ ts. parse_map tree_of (value depth ts)) (begins old new k leaf.1 (leaf_opens k t leaf.2) p may)
    ∙ leaf_token depth k (lex between new) t leaf.2 plain

-- ---- spaces in front

pub read_behind : (depth : ℕ) (old inner : List ℕ) (t : Tree) (new : List ℕ) → Passes old [] inner
    → Reads depth inner t new → Reads depth old t new
read_behind depth old inner t new passes reads p may plain =
    ap (λ l. parse_map tree_of (value depth (punctuate p l))) passes.lexed ∙ reads p may plain

-- a string
pub text_read : (depth : ℕ) (old s new : List ℕ) → Passes old (token_lexeme (token.string s) ∷ []) new
    → Reads depth old (string s) new
text_read depth old s new passes = leaf_read depth old (string s) new (token.string s, passes, refl)

-- what follows where there is a result
pub if_ok : {A E : Type 0} {P Q : Type 0} (r : Result A E) → (P → Q) → OnOk r P → OnOk r Q
if_ok (Ok a) f p = f p
if_ok (Err e) f p = tt

-- ---- arrays and objects

pub array_read : (depth : ℕ) (old inner : List ℕ) (found : Items) (new : List ℕ) → 0 < depth
    → Passes old (token_lexeme token.begin_array ∷ []) inner → ReadsItems (depth - 1) inner found new
    → Reads depth old (array found) new
unfolding punctuate
array_read depth old inner found new some passes reads p may plain =
    array_value depth _ (punctuate fresh (lex between inner))
    (begins old inner token.begin_array passes refl p may) some ∙ ap (parse_map (on_found array)) reads

pub object_read : (depth : ℕ) (old inner : List ℕ) (found : Members) (new : List ℕ) → 0 < depth
    → Passes old (token_lexeme token.begin_object ∷ []) inner → ReadsMembers (depth - 1) inner found new
    → Reads depth old (object found) new
unfolding punctuate
object_read depth old inner found new some passes reads p may plain =
    object_value depth _ (punctuate fresh (lex between inner))
    (begins old inner token.begin_object passes refl p may) some ∙ ap (parse_map (on_found object)) reads

-- ---- one item or member

-- a value is no end of an array
goes_on : (depth : ℕ) (ts : List Token) (x : Result Tree Pointer × List Token)
    → parse_map tree_of (value depth ts) ≡ Some x → after_end_array ts ≡ None
goes_on depth [] x e = refl
goes_on depth (token.begin_object ∷ ts) x e = refl
goes_on depth (token.end_object ∷ ts) x e = refl
goes_on depth (token.begin_array ∷ ts) x e = refl
goes_on depth (token.end_array ∷ ts) x e =
    not_found x (sym (ap (parse_map tree_of) (value_is depth (token.end_array ∷ ts))) ∙ e)
goes_on depth (token.key s ∷ ts) x e = refl
goes_on depth (token.string s ∷ ts) x e = refl
goes_on depth (token.number s ∷ ts) x e = refl
goes_on depth (token.boolean b ∷ ts) x e = refl
goes_on depth (token.null ∷ ts) x e = refl
goes_on depth (token.bad ∷ ts) x e = refl

-- a value takes a token at least
takes_one : (depth : ℕ) (ts r : List Token) (t : Tree) → parse_map tree_of (value depth ts) ≡ Some (Ok t, r)
    → length r < length ts
takes_one depth ts r t e =
    let j = parsed_some tree_of (value depth ts) (Ok t) r e in
    skip_value-shorter depth ts r (ap (option_map (λ p. p.1)) j.1)

pub record ItemTurn (depth i n : ℕ) (p : Place) (old : List ℕ) (t : Tree) (ls : List Lexeme) : Type 0 where
  pub one : parse_map (items_of i) (items (value depth) n (punctuate p (lex between old)))
      ≡ parse_map (on_found (item t))
      (parse_map (items_of (suc i)) (items (value depth) (n - 1) (punctuate after_value ls)))
  pub fewer : length (punctuate after_value ls) ≤ n - 1

pub item_turn : (depth i n : ℕ) (p : Place) (old : List ℕ) (t : Tree) (new : List ℕ) (ls : List Lexeme)
    → may_begin p ≡ true → length (punctuate p (lex between old)) ≤ n → Reads depth old t new → lex between new ≡ ls
    → begins_colon ls ≡ false → ItemTurn depth i n p old t ls
item_turn depth i n p old t new ls may enough reads e plain =
    let ts = punctuate p (lex between old) in
    let r = punctuate after_value ls in
    let read : parse_map tree_of (value depth ts) ≡ Some (Ok t, r) =
    reads p may (ap begins_colon e ∙ plain) ∙ ap (λ l. Some (Ok t, punctuate after_value l)) e in
    let less = takes_one depth ts r t read in
    record {
      one = item_read (value depth) i n ts r t (omega (arith, less, enough)) (goes_on depth ts (Ok t, r) read) read;
      fewer = omega (arith, less, enough);
    }

-- a name, its colon and a value
named : (p : Place) (k : List ℕ) (ls : List Lexeme) → may_begin p ≡ true
    → punctuate p (token_lexeme (token.string k) ∷ colon ∷ ls) ≡ token.key k ∷ punctuate fresh ls
unfolding punctuate
named p k ls may = begun p (token.string k) (colon ∷ ls) may refl

pub record MemberTurn (depth n : ℕ) (p : Place) (found : Members) (old k : List ℕ) (t : Tree) (ls : List Lexeme)
    : Type 0 where
  pub one : parse_map (members_of found) (members (value depth) n (punctuate p (lex between old)))
      ≡ parse_map (members_of (put k t found)) (members (value depth) (n - 1) (punctuate after_value ls))
  pub fewer : length (punctuate after_value ls) ≤ n - 1

pub member_turn : (depth n : ℕ) (p : Place) (found : Members) (old k inner : List ℕ) (t : Tree) (new : List ℕ)
    (ls : List Lexeme) → may_begin p ≡ true → length (punctuate p (lex between old)) ≤ n → PassesName old k inner
    → Reads depth inner t new → lex between new ≡ ls → begins_colon ls ≡ false → MemberTurn depth n p found old k t ls
member_turn depth n p found old k inner t new ls may enough name reads e plain =
    let ts = punctuate p (lex between old) in
    let us = punctuate fresh (lex between inner) in
    let r = punctuate after_value ls in
    let begins : ts ≡ token.key k ∷ us = ap (punctuate p) name.lexed ∙ named p k (lex between inner) may in
    let key : read_key ts ≡ Some (Some k, us) = ap read_key begins in
    let read : parse_map tree_of (value depth us) ≡ Some (Ok t, r) =
    reads fresh refl (ap begins_colon e ∙ plain) ∙ ap (λ l. Some (Ok t, punctuate after_value l)) e in
    let less = takes_one depth us r t read in
    let longer : length ts ≡ suc (length us) = ap length begins in
    record {
      one = member_read (value depth) found n k ts us r t (omega (arith, longer, enough)) key read;
      fewer = omega (arith, less, longer, enough);
    }

-- ---- a loop over items or members

-- what is left to read begins where a value may, and is no longer than so many tokens
abbrev pub IsLeft : (ℕ → List Token → Type 0) → List ℕ → List ℕ → Type 0
IsLeft Left old cursor =
    (n : ℕ) × (p : Place) × (may_begin p ≡ true) × (length (punctuate p (lex between cursor)) ≤ n)
    × Left n (punctuate p (lex between cursor)) × (length cursor ≤ length old)

-- items, and others behind them
abbrev ahead : List Tree → Items → Items
ahead [] rest = rest
ahead (t ∷ ts) rest = item t (ahead ts rest)

ahead-no_items : (ts : List Tree) → ahead ts no_items ≡ items_from ts
ahead-no_items [] = refl
ahead-no_items (t ∷ ts) = ap (item t) (ahead-no_items ts)

length-one_more : (ts : List Tree) (t : Tree) → length (ts ++ t ∷ []) ≡ suc (length ts)
length-one_more [] t = refl
length-one_more (u ∷ ts) t = ap suc (length-one_more ts t)

ahead-one_more : (ts : List Tree) (t : Tree) (rest : Items) → ahead ts (item t rest) ≡ ahead (ts ++ t ∷ []) rest
ahead-one_more [] t rest = refl
ahead-one_more (u ∷ ts) t rest = ap (item u) (ahead-one_more ts t rest)

one_more : (ts : List Tree) (t : Tree) (x : Result Items Pointer)
    → on_found (ahead ts) (on_found (item t) x) ≡ on_found (ahead (ts ++ t ∷ [])) x
one_more ts t (Ok rest) = ap Ok (ahead-one_more ts t rest)
one_more ts t (Err p) = refl

one_item_more : (ts : List Tree) (t : Tree) (r : Option (Result Items Pointer × List Token))
    → parse_map (on_found (ahead ts)) (parse_map (on_found (item t)) r)
    ≡ parse_map (on_found (ahead (ts ++ t ∷ []))) r
one_item_more ts t None = refl
one_item_more ts t (Some p) = ap (λ x. Some (x, p.1)) (one_more ts t p.0)

none_found : (x : Result Items Pointer) → x ≡ on_found (λ a. a) x
none_found (Ok a) = refl
none_found (Err p) = refl

none_ahead : (r : Option (Result Items Pointer × List Token)) → r ≡ parse_map (on_found (ahead [])) r
none_ahead None = refl
none_ahead (Some p) = ap (λ x. Some (x, p.1)) (none_found p.0)

-- what was found of an array, and the items that are left, are the whole array
abbrev pub ItemsLeft : ℕ → List ℕ → List Tree → ℕ → List Token → Type 0
ItemsLeft depth old found n ts =
    parse_map (items_of 0)
    (items (value depth) (length (punctuate fresh (lex between old))) (punctuate fresh (lex between old)))
    ≡ parse_map (on_found (ahead found)) (parse_map (items_of (length found)) (items (value depth) n ts))

-- the same of an object
abbrev pub MembersLeft : ℕ → List ℕ → Members → ℕ → List Token → Type 0
MembersLeft depth old found n ts =
    parse_map (members_of no_members)
    (members (value depth) (length (punctuate fresh (lex between old))) (punctuate fresh (lex between old)))
    ≡ parse_map (members_of found) (members (value depth) n ts)

-- behind spaces all is left
all_left : (Left : ℕ → List Token → Type 0) (old cursor : List ℕ) → Passes old [] cursor
    → Left (length (punctuate fresh (lex between old))) (punctuate fresh (lex between old)) → IsLeft Left old cursor
all_left Left old cursor spaces left =
    let n = length (punctuate fresh (lex between old)) in (
      n,
      fresh,
      refl,
      omega (arith, ap (λ l. length (punctuate fresh l)) spaces.lexed),
      subst (λ l. Left n (punctuate fresh l)) spaces.lexed left,
      omega (arith, spaces.shorter),
    )

pub all_items_left : (depth : ℕ) (old cursor : List ℕ) → Passes old [] cursor
    → IsLeft (ItemsLeft depth old []) old cursor
all_items_left depth old cursor spaces = all_left (ItemsLeft depth old []) old cursor spaces (none_ahead _)

pub all_members_left : (depth : ℕ) (old cursor : List ℕ) → Passes old [] cursor
    → IsLeft (MembersLeft depth old no_members) old cursor
all_members_left depth old cursor spaces = all_left (MembersLeft depth old no_members) old cursor spaces refl

-- one item more, and fewer left
items_go_on : (depth : ℕ) (old : List ℕ) (found : List Tree) (t : Tree) (cursor inner : List ℕ)
    (ls : List Lexeme) (left : IsLeft (ItemsLeft depth old found) old cursor)
    → Reads depth cursor t inner → lex between inner ≡ ls → begins_colon ls ≡ false
    → ItemsLeft depth old (found ++ t ∷ []) (left.0 - 1) (punctuate after_value ls)
    × (length (punctuate after_value ls) ≤ left.0 - 1)
items_go_on depth old found t cursor inner ls left reads e plain =
    let turn = item_turn depth (length found) left.0 left.1 cursor t inner ls left.2 left.3 reads e plain in
    let rest = items (value depth) (left.0 - 1) (punctuate after_value ls) in (
      left.4 ∙ ap (parse_map (on_found (ahead found))) turn.one ∙ one_item_more found t _
          ∙ ap (λ i. parse_map (on_found (ahead (found ++ t ∷ []))) (parse_map (items_of i) rest))
          (sym (length-one_more found t)),
      turn.fewer,
    )

members_go_on : (depth : ℕ) (old : List ℕ) (found : Members) (cursor k named : List ℕ) (t : Tree)
    (inner : List ℕ) (ls : List Lexeme) (left : IsLeft (MembersLeft depth old found) old cursor)
    → PassesName cursor k named → Reads depth named t inner → lex between inner ≡ ls → begins_colon ls ≡ false
    → MembersLeft depth old (put k t found) (left.0 - 1) (punctuate after_value ls)
    × (length (punctuate after_value ls) ≤ left.0 - 1)
members_go_on depth old found cursor k named t inner ls left name reads e plain =
    let turn =
    member_turn depth left.0 left.1 found cursor k named t inner ls left.2 left.3 name reads e plain in
    (left.4 ∙ turn.one, turn.fewer)

-- a comma is passed over
comma_passed : (ls : List Lexeme) → punctuate after_value (comma ∷ ls) ≡ punctuate after_comma ls
unfolding punctuate
comma_passed ls = refl

left_behind : (Left : ℕ → List Token → Type 0) (n : ℕ) (old inner new : List ℕ) → Passes inner (comma ∷ []) new
    → length inner ≤ length old → length (punctuate after_value (comma ∷ lex between new)) ≤ n
    → Left n (punctuate after_value (comma ∷ lex between new)) → IsLeft Left old new
left_behind Left n old inner new taken further fewer left =
    let passed = comma_passed (lex between new) in (
      n,
      after_comma,
      refl,
      subst (λ ts. length ts ≤ n) passed fewer,
      subst (Left n) passed left,
      omega (arith, taken.shorter, further),
    )

pub items_left : (depth : ℕ) (old : List ℕ) (found : List Tree) (t : Tree) (cursor inner new : List ℕ)
    → IsLeft (ItemsLeft depth old found) old cursor → Reads depth cursor t inner
    → length inner ≤ length cursor → Passes inner (comma ∷ []) new
    → IsLeft (ItemsLeft depth old (found ++ t ∷ [])) old new
items_left depth old found t cursor inner new left reads shorter taken =
    let turn = items_go_on depth old found t cursor inner _ left reads taken.lexed refl in
    left_behind (ItemsLeft depth old (found ++ t ∷ [])) (left.0 - 1) old inner new taken
    (omega (arith, shorter, left.5)) turn.1 turn.0

pub members_left : (depth : ℕ) (old : List ℕ) (found : Members) (cursor k named : List ℕ) (t : Tree)
    (inner new : List ℕ) → IsLeft (MembersLeft depth old found) old cursor → PassesName cursor k named
    → Reads depth named t inner → length inner ≤ length named → Passes inner (comma ∷ []) new
    → IsLeft (MembersLeft depth old (put k t found)) old new
members_left depth old found cursor k named t inner new left name reads shorter taken =
    let turn = members_go_on depth old found cursor k named t inner _ left name reads taken.lexed refl in
    left_behind (MembersLeft depth old (put k t found)) (left.0 - 1) old inner new taken
    (omega (arith, shorter, name.shorter, left.5)) turn.1 turn.0

-- ---- the ends

pub items_done : (depth i n : ℕ) (p : Place) (ls : List Lexeme) → may_close p ≡ true
    → length (punctuate p (token_lexeme token.end_array ∷ ls)) ≤ n
    → parse_map (items_of i) (items (value depth) n (punctuate p (token_lexeme token.end_array ∷ ls)))
    ≡ Some (Ok no_items, punctuate after_value ls)
unfolding punctuate
items_done depth i n fresh ls may enough =
    items_over (value depth) i n (token.end_array ∷ punctuate after_value ls) (punctuate after_value ls) enough refl
items_done depth i n after_value ls may enough =
    items_over (value depth) i n (token.end_array ∷ punctuate after_value ls) (punctuate after_value ls) enough refl
items_done depth i n after_comma ls may enough = absurd (false≢true may)
items_done depth i n after_key ls may enough = absurd (false≢true may)

pub members_done : (depth n : ℕ) (p : Place) (found : Members) (ls : List Lexeme) → may_close p ≡ true
    → length (punctuate p (token_lexeme token.end_object ∷ ls)) ≤ n
    → parse_map (members_of found) (members (value depth) n (punctuate p (token_lexeme token.end_object ∷ ls)))
    ≡ Some (Ok found, punctuate after_value ls)
unfolding punctuate
members_done depth n fresh found ls may enough =
    members_over (value depth) found n (token.end_object ∷ punctuate after_value ls) (punctuate after_value ls) enough
    refl
members_done depth n after_value found ls may enough =
    members_over (value depth) found n (token.end_object ∷ punctuate after_value ls) (punctuate after_value ls) enough
    refl
members_done depth n after_comma found ls may enough = absurd (false≢true may)
members_done depth n after_key found ls may enough = absurd (false≢true may)

-- an array and an object of nothing
pub no_items_read : (depth : ℕ) (old new : List ℕ) → Passes old (token_lexeme token.end_array ∷ []) new
    → ReadsItems depth old no_items new
no_items_read depth old new passes =
    ap (λ l. parse_map (items_of 0) (items (value depth) (length (punctuate fresh l)) (punctuate fresh l))) passes.lexed
    ∙ items_done depth 0 (length (punctuate fresh (token_lexeme token.end_array ∷ lex between new))) fresh
    (lex between new) refl (omega arith)

pub no_members_read : (depth : ℕ) (old new : List ℕ) → Passes old (token_lexeme token.end_object ∷ []) new
    → ReadsMembers depth old no_members new
no_members_read depth old new passes =
    ap (λ l. parse_map (members_of no_members)
    (members (value depth) (length (punctuate fresh l)) (punctuate fresh l))) passes.lexed
    ∙ members_done depth (length (punctuate fresh (token_lexeme token.end_object ∷ lex between new))) fresh no_members
    (lex between new) refl (omega arith)

pub items_read : (depth : ℕ) (old : List ℕ) (found : List Tree) (t : Tree) (cursor inner new : List ℕ)
    → IsLeft (ItemsLeft depth old found) old cursor → Reads depth cursor t inner
    → lex between inner ≡ token_lexeme token.end_array ∷ lex between new
    → ReadsItems depth old (items_from (found ++ t ∷ [])) new
items_read depth old found t cursor inner new left reads closes =
    let turn = items_go_on depth old found t cursor inner _ left reads closes refl in
    let rest = lex between new in
    let ts = found ++ t ∷ [] in
    turn.0
    ∙ ap (parse_map (on_found (ahead ts)))
    (items_done depth (length ts) (left.0 - 1) after_value rest refl turn.1)
    ∙ ap (λ ds. Some (Ok ds, punctuate after_value rest)) (ahead-no_items ts)

pub members_read : (depth : ℕ) (old : List ℕ) (found : Members) (cursor k named : List ℕ) (t : Tree)
    (inner new : List ℕ) → IsLeft (MembersLeft depth old found) old cursor → PassesName cursor k named
    → Reads depth named t inner → lex between inner ≡ token_lexeme token.end_object ∷ lex between new
    → ReadsMembers depth old (put k t found) new
members_read depth old found cursor k named t inner new left name reads closes =
    let turn = members_go_on depth old found cursor k named t inner _ left name reads closes refl in
    turn.0 ∙ members_done depth (left.0 - 1) after_value (put k t found) (lex between new) refl turn.1

-- ---- the whole text

pub nothing_left : (t : List ℕ) → t ≡ [] → lex between t ≡ []
unfolding lex
nothing_left t e = ap (lex between) e

pub whole_read : (text new : List ℕ) (t : Tree) → is_utf8 text ≡ true → Reads max_depth text t new
    → lex between new ≡ [] → reading text ≡ Some (Ok t)
unfolding punctuate
whole_read text new t utf8 reads ended =
    let read : parse_map tree_of (value max_depth (tokens text)) ≡ Some (Ok t, []) =
    reads fresh refl (ap begins_colon ended) ∙ ap (λ l. Some (Ok t, punctuate after_value l)) ended in
    let j = parsed_some tree_of (value max_depth (tokens text)) (Ok t) [] read in
    rw (utf8, j.1) (ap Some j.2)
