-- The grammar's loops, a turn at a time, under the conversion to trees.
use Rattle.std.proofs.Common.{◌≡◌, ℕ, zero, suc, ◌-◌, ◌<◌, ◌≤◌, List, [], ◌∷◌, ◌++◌, length, map, Option, Some, None}
use Rattle.std.proofs.Common.{Result, Ok, Err, IfSome, IfErr, option_map, string_bytes, refl, sym, ap, ap₂, ◌∙◌, arith}
use Rattle.json.specs.Token.{Token}
use Rattle.json.specs.Json as json
use Rattle.json.specs.Json.{Parse, parse_map, after_end_array, read_key, items, members, if_last, value}
use Rattle.json.proofs.Grammar.{items_end, items_fail, items_more, members_end, members_fail, members_no_key}
use Rattle.json.proofs.Grammar.{members_more, value_is, value-begin_array, value-begin_object}
use Rattle.json.proofs.Found.{not_found}
use Rattle.jskw_value.specs.DecimalTree.{decimal_tree, items_from}
use Rattle.jskw_value.specs.FirstFloat.{below_index, below_name}
use Rattle.jskw_value.specs.Pointer.{Pointer}
use Rattle.jskw_value.specs.Tree.{Tree, array, object, Items, no_items, item, Members, no_members}
use Rattle.jskw_value.specs.declared.decimal_tree.DecimalTree.{DecimalTree}
use Rattle.jskw_text.specs.Passing.{token_tree}
use Rattle.jskw_text.specs.Stop.{Explains, IsOutside, location_of}
use Rattle.jskw_text.specs.Reading.{on_found, put, tree_of, items_of, members_of}
use Rattle.jskw_text.specs.declared.fault.Stop.{Stop}
use Rattle.jskw_text.specs.declared.fault.Stop.TheVariants.{Broken, Inexact, Memory}

-- ---- what was read, under a function

abbrev pick : {A : Type 0} → A → Option A → A
pick d None = d
pick d (Some a) = a

pub parsed_some : {A B : Type 0} (f : A → B) (o : Option (A × List Token)) (b : B) (r : List Token)
    → parse_map f o ≡ Some (b, r) → (a : A) × (o ≡ Some (a, r)) × (f a ≡ b)
parsed_some f None b r e = absurd (cc)
parsed_some f (Some p) b r e = let same = ap (pick (f p.0, p.1)) e in
    (p.0, ap (λ s. Some (p.0, s)) (ap (λ q. q.1) same), ap (λ q. q.0) same)

pub parsed_none : {A B : Type 0} (f : A → B) (o : Option (A × List Token)) → parse_map f o ≡ None → o ≡ None
parsed_none f None e = refl
parsed_none f (Some p) e = absurd (cc)

-- a fault is explained by what was read below
pub explained : {A B : Type 0} (f : A → B) (e : Stop) (o : Option (Result A Pointer × List Token)) → Explains e o
    → Explains e (parse_map (on_found f) o)
explained f Broken o h = ap (parse_map (on_found f)) h
explained f (Inexact l) None h = tt
explained f (Inexact l) (Some p) h = ap (on_found f) h
explained f (Memory e) o h = tt

-- the fault that a function returns
pub returned : {A T : Type 0} (r : Result T Stop) (e : Stop) (o p : Option (Result A Pointer × List Token)) → r ≡ Err e
    → o ≡ p → Explains e p → IfErr r (λ g. Explains g o)
returned r e o p is same h = rw (is, same) h

-- arrays and objects
pub parsed_array : (o : Option (json.Items × List Token))
    → parse_map tree_of (parse_map json.array o) ≡ parse_map (on_found array) (parse_map (items_of 0) o)
parsed_array None = refl
parsed_array (Some p) = refl

pub parsed_object : (o : Option (json.Members × List Token))
    → parse_map tree_of (parse_map json.object o) ≡ parse_map (on_found object) (parse_map (members_of no_members) o)
parsed_object None = refl
parsed_object (Some p) = refl

-- ---- a value, by its first token

leaf_first : (depth : ℕ) (k : Token) (rest : List Token) (t : Tree)
    → option_map {U = Result Tree Pointer × List Token} (λ r. (r, rest)) (token_tree k) ≡ Some (Ok t, rest)
    → parse_map tree_of (value depth (k ∷ rest)) ≡ Some (Ok t, rest)
leaf_first depth Token.begin_object rest t e = not_found (Ok t, rest) e
leaf_first depth Token.end_object rest t e = not_found (Ok t, rest) e
leaf_first depth Token.begin_array rest t e = not_found (Ok t, rest) e
leaf_first depth Token.end_array rest t e = not_found (Ok t, rest) e
leaf_first depth (Token.key s) rest t e = not_found (Ok t, rest) e
leaf_first depth (Token.string s) rest t e = ap (parse_map tree_of) (value_is depth (Token.string s ∷ rest)) ∙ e
leaf_first depth (Token.number s) rest t e = ap (parse_map tree_of) (value_is depth (Token.number s ∷ rest)) ∙ e
leaf_first depth (Token.boolean b) rest t e = ap (parse_map tree_of) (value_is depth (Token.boolean b ∷ rest)) ∙ e
leaf_first depth Token.null rest t e = ap (parse_map tree_of) (value_is depth (Token.null ∷ rest)) ∙ e
leaf_first depth Token.bad rest t e = not_found (Ok t, rest) e

-- a token that is a value by itself
pub leaf_value : (depth : ℕ) (ts : List Token) (k : Token) (rest : List Token) (t : Tree) → ts ≡ k ∷ rest
    → token_tree k ≡ Some (Ok t) → parse_map tree_of (value depth ts) ≡ Some (Ok t, rest)
leaf_value depth ts k rest t first e =
    ap (λ us. parse_map tree_of (value depth us)) first
    ∙ leaf_first depth k rest t (ap (option_map {U = Result Tree Pointer × List Token} (λ r. (r, rest))) e)

-- no array and no object is read below the last level
pub array_too_deep : (depth : ℕ) (ts rest : List Token) → ts ≡ Token.begin_array ∷ rest → depth ≡ 0
    → parse_map tree_of (value depth ts) ≡ None
unfolding value
array_too_deep depth ts rest first none = ap (parse_map tree_of) (ap₂ value none first)

pub object_too_deep : (depth : ℕ) (ts rest : List Token) → ts ≡ Token.begin_object ∷ rest → depth ≡ 0
    → parse_map tree_of (value depth ts) ≡ None
unfolding value
object_too_deep depth ts rest first none = ap (parse_map tree_of) (ap₂ value none first)

-- what is read behind a bracket
pub array_value : (depth : ℕ) (ts rest : List Token) → ts ≡ Token.begin_array ∷ rest → 0 < depth
    → parse_map tree_of (value depth ts)
    ≡ parse_map (on_found array) (parse_map (items_of 0) (items (value (depth - 1)) (length rest) rest))
array_value depth ts rest first some =
    ap (parse_map tree_of) (ap (value depth) first ∙ value-begin_array depth rest some) ∙ parsed_array _

-- and behind a brace
pub object_value : (depth : ℕ) (ts rest : List Token) → ts ≡ Token.begin_object ∷ rest → 0 < depth
    → parse_map tree_of (value depth ts)
    ≡ parse_map (on_found object) (parse_map (members_of no_members) (members (value (depth - 1)) (length rest) rest))
object_value depth ts rest first some =
    ap (parse_map tree_of) (ap (value depth) first ∙ value-begin_object depth rest some) ∙ parsed_object _

-- what is found behind a bracket or a brace makes the tree
pub found_behind : {A : Type 0} (make : A → Tree) (a : A) (d : DecimalTree) (new : List Token)
    (whole : Option (Result Tree Pointer × List Token)) (rest : Option (Result A Pointer × List Token))
    → whole ≡ parse_map (on_found make) rest → rest ≡ Some (Ok a, new) → decimal_tree d ≡ make a
    → whole ≡ Some (Ok (decimal_tree d), new)
found_behind make a d new whole rest is found makes =
    is ∙ ap (parse_map (on_found make)) found ∙ ap (λ t. Some (Ok t, new)) (sym makes)

-- and a fault there is one of the whole
pub stopped_behind : {A T : Type 0} (make : A → Tree) (r : Result T Stop) (e : Stop)
    (whole : Option (Result Tree Pointer × List Token)) (rest : Option (Result A Pointer × List Token))
    → whole ≡ parse_map (on_found make) rest → r ≡ Err e → Explains e rest → IfErr r (λ g. Explains g whole)
stopped_behind make r e whole rest is result stopped = returned r e _ _ result is (explained make e rest stopped)

-- ---- one item or member in front

with_item : (i : ℕ) (j : json.Json) (t : Tree) → tree_of j ≡ Ok t → (o : Option (json.Items × List Token))
    → parse_map (items_of i) (parse_map (json.item j) o)
    ≡ parse_map (on_found (item t)) (parse_map (items_of (suc i)) o)
with_item i j t e None = refl
with_item i j t e (Some p) = rw e

with_member : (k : List ℕ) (j : json.Json) (t : Tree) (old : Members) → tree_of j ≡ Ok t
    → (o : Option (json.Members × List Token))
    → parse_map (members_of old) (parse_map (json.member k j) o) ≡ parse_map (members_of (put k t old)) o
with_member k j t old e None = refl
with_member k j t old e (Some p) = rw e

-- a location in an item or a member, from outside
moved_item : (i : ℕ) (j : json.Json) (p q : Pointer) → tree_of j ≡ Err p → q ≡ below_index i p
    → (o : Option (json.Items × List Token))
    → IfSome (parse_map (items_of i) (parse_map (json.item j) o)) (λ x. x.0 ≡ Err q)
moved_item i j p q e place None = tt
moved_item i j p q e place (Some x) = rw (e, place) refl

moved_member : (k : List ℕ) (j : json.Json) (old : Members) (p q : Pointer) → tree_of j ≡ Err p → q ≡ below_name k p
    → (o : Option (json.Members × List Token))
    → IfSome (parse_map (members_of old) (parse_map (json.member k j) o)) (λ x. x.0 ≡ Err q)
moved_member k j old p q e place None = tt
moved_member k j old p q e place (Some x) = rw (e, place) refl

-- nothing was read, so nothing is said
no_parse : {A B : Type 0} (P : B × List Token → Type 0) (f : A → B) (o : Option (A × List Token)) → o ≡ None
    → IfSome (parse_map f o) P
no_parse P f o e = rw e tt

module _ (p : Parse json.Json) where
  pub item_read : (i n : ℕ) (ts r : List Token) (t : Tree) → 0 < n → after_end_array ts ≡ None
      → parse_map tree_of (p ts) ≡ Some (Ok t, r)
      → parse_map (items_of i) (items p n ts)
      ≡ parse_map (on_found (item t)) (parse_map (items_of (suc i)) (items p (n - 1) r))
  item_read i n ts r t some going e =
      let j = parsed_some tree_of (p ts) (Ok t) r e in
      ap (parse_map (items_of i)) (items_more p n ts r j.0 some going j.1) ∙ with_item i j.0 t j.2 _

  item_inexact : (i n : ℕ) (ts : List Token) (l q : Pointer) → after_end_array ts ≡ None
      → (o : Option (json.Json × List Token)) → p ts ≡ o
      → IfSome (parse_map tree_of o) (λ x. x.0 ≡ Err l) → q ≡ below_index i l
      → IfSome (parse_map (items_of i) (items p n ts)) (λ x. x.0 ≡ Err q)
  unfolding items
  item_inexact i n ts l q going None e h place =
      no_parse (λ x. x.0 ≡ Err q) (items_of i) (items p n ts) (items_fail p n ts going e)
  item_inexact i zero ts l q going (Some x) e h place = no_parse (λ x. x.0 ≡ Err q) (items_of i) (items p zero ts) refl
  item_inexact i (suc n) ts l q going (Some x) e h place =
      let some : 0 < suc n = omega arith in
      rw (items_more p (suc n) ts x.1 x.0 some going e) (moved_item i x.0 l q h place _)

  pub item_faulty : (i n : ℕ) (ts : List Token) (e g : Stop) → after_end_array ts ≡ None
      → Explains e (parse_map tree_of (p ts))
      → IsOutside (below_index i) e g → Explains g (parse_map (items_of i) (items p n ts))
  item_faulty i n ts Broken g going h o =
      rw o (ap (parse_map (items_of i)) (items_fail p n ts going (parsed_none tree_of (p ts) h)))
  item_faulty i n ts (Inexact l) Broken going h o = absurd o
  item_faulty i n ts (Inexact l) (Inexact q) going h o =
      item_inexact i n ts (location_of (map string_bytes l.items)) (location_of (map string_bytes q.items)) going
      (p ts) refl h o
  item_faulty i n ts (Inexact l) (Memory e) going h o = tt
  item_faulty i n ts (Memory e) g going h o = rw o tt

  pub items_over : (i n : ℕ) (ts r : List Token) → length ts ≤ n → after_end_array ts ≡ Some r
      → parse_map (items_of i) (items p n ts) ≡ Some (Ok no_items, r)
  items_over i n ts r enough e = ap (parse_map (items_of i)) (items_end p n ts r enough e)

  module _ (old : Members) where
    pub member_read : (n : ℕ) (k : List ℕ) (ts s r : List Token) (t : Tree) → 0 < n → read_key ts ≡ Some (Some k, s)
        → parse_map tree_of (p s) ≡ Some (Ok t, r)
        → parse_map (members_of old) (members p n ts) ≡ parse_map (members_of (put k t old)) (members p (n - 1) r)
    member_read n k ts s r t some key e =
        let j = parsed_some tree_of (p s) (Ok t) r e in
        ap (parse_map (members_of old)) (members_more p n k ts s r j.0 some key j.1) ∙ with_member k j.0 t old j.2 _

    member_inexact : (n : ℕ) (k : List ℕ) (ts s : List Token) (l q : Pointer) → read_key ts ≡ Some (Some k, s)
        → (o : Option (json.Json × List Token)) → p s ≡ o
        → IfSome (parse_map tree_of o) (λ x. x.0 ≡ Err l) → q ≡ below_name k l
        → IfSome (parse_map (members_of old) (members p n ts)) (λ x. x.0 ≡ Err q)
    unfolding members
    member_inexact n k ts s l q key None e h place =
        no_parse (λ x. x.0 ≡ Err q) (members_of old) (members p n ts) (members_fail p n k ts s key e)
    member_inexact zero k ts s l q key (Some x) e h place =
        no_parse (λ x. x.0 ≡ Err q) (members_of old) (members p zero ts) refl
    member_inexact (suc n) k ts s l q key (Some x) e h place =
        let some : 0 < suc n = omega arith in
        rw (members_more p (suc n) k ts s x.1 x.0 some key e) (moved_member k x.0 old l q h place _)

    pub member_faulty : (n : ℕ) (k : List ℕ) (ts s : List Token) (e g : Stop) → read_key ts ≡ Some (Some k, s)
        → Explains e (parse_map tree_of (p s))
        → IsOutside (below_name k) e g → Explains g (parse_map (members_of old) (members p n ts))
    member_faulty n k ts s Broken g key h o =
        rw o (ap (parse_map (members_of old)) (members_fail p n k ts s key (parsed_none tree_of (p s) h)))
    member_faulty n k ts s (Inexact l) Broken key h o = absurd o
    member_faulty n k ts s (Inexact l) (Inexact q) key h o =
        member_inexact n k ts s (location_of (map string_bytes l.items))
        (location_of (map string_bytes q.items)) key (p s) refl h o
    member_faulty n k ts s (Inexact l) (Memory e) key h o = tt
    member_faulty n k ts s (Memory e) g key h o = rw o tt

    pub key_refused : (n : ℕ) (ts : List Token) → read_key ts ≡ None
        → parse_map (members_of old) (members p n ts) ≡ None
    key_refused n ts e = ap (parse_map (members_of old)) (members_no_key p n ts e)

    pub members_over : (n : ℕ) (ts r : List Token) → length ts ≤ n → read_key ts ≡ Some (None, r)
        → parse_map (members_of old) (members p n ts) ≡ Some (Ok old, r)
    members_over n ts r enough e = ap (parse_map (members_of old)) (members_end p n ts r enough e)

-- ---- a list that grows at its end

abbrev pub items_before : List DecimalTree → Items → Items
items_before [] rest = rest
items_before (v ∷ vs) rest = item (decimal_tree v) (items_before vs rest)

pub items_before-no_items : (vs : List DecimalTree) → items_before vs no_items ≡ items_from (map decimal_tree vs)
items_before-no_items [] = refl
items_before-no_items (v ∷ vs) = ap (item (decimal_tree v)) (items_before-no_items vs)

-- one more is one longer
pub length-append_one : (vs : List DecimalTree) (v : DecimalTree) → length (vs ++ v ∷ []) ≡ suc (length vs)
length-append_one [] v = refl
length-append_one (w ∷ vs) v = ap suc (length-append_one vs v)

items_push : (vs : List DecimalTree) (v : DecimalTree) (rest : Items)
    → items_before vs (item (decimal_tree v) rest) ≡ items_before (vs ++ v ∷ []) rest
items_push [] v rest = refl
items_push (w ∷ vs) v rest = ap (item (decimal_tree w)) (items_push vs v rest)

one_more : (vs : List DecimalTree) (v : DecimalTree) (x : Result Items Pointer)
    → on_found (items_before vs) (on_found (item (decimal_tree v)) x) ≡ on_found (items_before (vs ++ v ∷ [])) x
one_more vs v (Ok rest) = ap Ok (items_push vs v rest)
one_more vs v (Err p) = refl

pub one_more_item : (vs : List DecimalTree) (v : DecimalTree) (r : Option (Result Items Pointer × List Token))
    → parse_map (on_found (items_before vs)) (parse_map (on_found (item (decimal_tree v))) r)
    ≡ parse_map (on_found (items_before (vs ++ v ∷ []))) r
one_more_item vs v None = refl
one_more_item vs v (Some p) = ap (λ x. Some (x, p.1)) (one_more vs v p.0)

none_found : (x : Result Items Pointer) → x ≡ on_found (λ a. a) x
none_found (Ok a) = refl
none_found (Err p) = refl

pub none_before : (r : Option (Result Items Pointer × List Token)) → r ≡ parse_map (on_found (items_before [])) r
none_before None = refl
none_before (Some p) = ap (λ x. Some (x, p.1)) (none_found p.0)
