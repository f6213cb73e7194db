-- How many keywords that are read assert the member of a name.
use Rattle.std.proofs.Common.{◌≡◌, ℕ, suc, List, [], ◌∷◌, ◌++◌, Bool, true, false, not, ◌&&◌, ◌||◌, Option, Some, None}
use Rattle.std.proofs.Common.{Result, Ok, Err, if◌then◌else◌, is_some, bytes_eq, refl, sym, ap, ap₂, ◌∙◌}
use Rattle.std.proofs.lemmas.Bool.Decides.{Decides-eqb}
use Rattle.std.specs.Prelude.{⊤}
use Rattle.serde_json.specs.Data.{Data, boolean, array, object, Members}
use Rattle.serde_json.specs.Find.{get_member}
use Rattle.jskw_value.specs.Pointer.{Pointer, member_location, name_token}
use Rattle.jskw_report.specs.Keyword.{Keywords, no_keywords, keyword, Keyword, Assertion, assertion, contains, Relation}
use Rattle.jskw_report.specs.Keyword.{Minimum, Maximum, ExclusiveMinimum, ExclusiveMaximum}
use Rattle.jskw_report.specs.KeywordValue.{Refusal, map_ok, join_ok, size_value}
use Rattle.jskw_report.specs.Read.{Asserts, ValueReadings, Reading, Rule, asserted, asserted_by, before, bound_beside}
use Rattle.jskw_report.specs.Read.{bound_value, bounds_between, items_keyword, additional_keyword, prefix_keyword}
use Rattle.jskw_report.specs.Read.{keyword_location, limit_keyword_name, max_contains, min_contains, read_keyword}
use Rattle.jskw_report.specs.Read.{read_keywords, rule_for}
use Rattle.jskw_report.specs.Setting.{Setting, keywords, name_of, is_active, is_after_draft_4}
use Rattle.jskw_report.specs.Sibling.{is_true, member_passes}
use Rattle.jskw_report.specs.declared.keyword.KeywordName.{KeywordName}
use Rattle.jskw_report.specs.declared.keyword.KeywordName.TheVariants as keyword_name
use Rattle.jskw_unchecked.specs.Covered.{asserts_member, count_at}

-- ---- tests

or_same : (a : Bool) → (a || a) ≡ a
or_same true = refl
or_same false = refl

or_none : (a : Bool) → (a || false) ≡ a
or_none true = refl
or_none false = refl

-- two functions of truth values are one that agree on all of them
abbrev AreOne : (f g : Bool → Bool → Bool → Bool) → Type 0
AreOne f g =
    (f true true true ≡ g true true true) × (f true true false ≡ g true true false)
    × (f true false true ≡ g true false true) × (f true false false ≡ g true false false)
    × (f false true true ≡ g false true true) × (f false true false ≡ g false true false)
    × (f false false true ≡ g false false true) × (f false false false ≡ g false false false)

by_table : (f g : Bool → Bool → Bool → Bool) → AreOne f g → (a b c : Bool) → f a b c ≡ g a b c
by_table f g h true true true = h.0
by_table f g h true true false = h.1
by_table f g h true false true = h.2
by_table f g h true false false = h.3
by_table f g h false true true = h.4
by_table f g h false true false = h.5
by_table f g h false false true = h.6
by_table f g h false false false = h.7

-- of a limit that is exclusive, or not
limit_spoken : (a b c : Bool) → (a || (if c then b else a)) ≡ (a || (b && c))
limit_spoken =
    by_table (λ a b c. a || (if c then b else a)) (λ a b c. a || (b && c))
    (refl, refl, refl, refl, refl, refl, refl, refl)

-- of `contains` without bounds, with each bound, and with both
abbrev spoken_beside : (l u a b c : Bool) → Bool
spoken_beside l u a b c = a || ((if l then b else (if u then c else a)) || (if u then c else (if l then b else a)))

abbrev named_beside : (l u a b c : Bool) → Bool
named_beside l u a b c = a || (b && l) || (c && u)

bounds_spoken : (l u a b c : Bool) → spoken_beside l u a b c ≡ named_beside l u a b c
bounds_spoken true true =
    by_table (spoken_beside true true) (named_beside true true) (refl, refl, refl, refl, refl, refl, refl, refl)
bounds_spoken true false =
    by_table (spoken_beside true false) (named_beside true false) (refl, refl, refl, refl, refl, refl, refl, refl)
bounds_spoken false true =
    by_table (spoken_beside false true) (named_beside false true) (refl, refl, refl, refl, refl, refl, refl, refl)
bounds_spoken false false =
    by_table (spoken_beside false false) (named_beside false false) (refl, refl, refl, refl, refl, refl, refl, refl)

-- ---- the members that a keyword asserts

-- the relation of a limit is the exclusive one
abbrev pub is_exclusive : Setting → Members → List ℕ → Bool
is_exclusive s ms name = not (is_after_draft_4 s.draft) && member_passes is_true name ms

-- whether the keyword w, where it is read, asserts the member whose name passes the test
abbrev pub asserts_name : KeywordName → Setting → Members → (List ℕ → Bool) → Bool
asserts_name keyword_name.Minimum s ms is =
    is (name_of keyword_name.Minimum)
    || (is (name_of keyword_name.ExclusiveMinimum) && is_exclusive s ms (name_of keyword_name.ExclusiveMinimum))
asserts_name keyword_name.Maximum s ms is =
    is (name_of keyword_name.Maximum)
    || (is (name_of keyword_name.ExclusiveMaximum) && is_exclusive s ms (name_of keyword_name.ExclusiveMaximum))
asserts_name keyword_name.Contains s ms is =
    is (name_of keyword_name.Contains) || (is min_contains && is_some (bound_beside s ms min_contains))
    || (is max_contains && is_some (bound_beside s ms max_contains))
asserts_name w s ms is = is (name_of w)

-- what is asserted, if it is no refusal, is such a keyword
abbrev pub IfAsserts : (Keyword → Type 0) → Asserts → Type 0
IfAsserts P (Some (Ok k)) = P k
IfAsserts P _ = ⊤

pub if_map : {A : Type 0} (P : Keyword → Type 0) (f : A → Keyword) (r : Result A Refusal)
    → ((a : A) → r ≡ Ok a → P (f a)) → IfAsserts P (Some (map_ok f r))
if_map P f (Ok a) h = h a refl
if_map P f (Err e) h = tt

pub if_by : (P : Keyword → Type 0) (rule : Option Rule) (q : Pointer) (d : Data) → ((a : Assertion) → P (assertion q a))
    → IfAsserts P (asserted_by rule q d)
if_by P None q d h = tt
if_by P (Some rule) q d h = go (rule q d)
  where
    go : (r : Result Assertion Refusal) → IfAsserts P (Some (map_ok (assertion q) r))
    go (Ok a) = h a
    go (Err e) = tt

pub if_either : (P : Keyword → Type 0) (b : Bool) (x y : Asserts) → IfAsserts P x → IfAsserts P y
    → IfAsserts P (if b then x else y)
if_either P true x y h k = h
if_either P false x y h k = k

-- the member at m
module _ (p : Pointer) (m : Pointer) where
  abbrev is_at : List ℕ → Bool
  is_at name = bytes_eq m (member_location p name)

  -- the keyword, read of w, asserts it where w is to
  abbrev pub AssertsAlike : KeywordName → Setting → Members → Keyword → Type 0
  AssertsAlike w s ms k = asserts_member m (keyword_location p w) k ≡ asserts_name w s ms is_at

  limit_alike : (a b : List ℕ) (c : Bool) (r r' : Relation)
      → keyword_location p (limit_keyword_name r) ≡ member_location p a
      → keyword_location p (limit_keyword_name r') ≡ member_location p b
      → (bytes_eq m (member_location p a) || bytes_eq m (keyword_location p (limit_keyword_name (if c then r' else r))))
      ≡ (is_at a || (is_at b && c))
  limit_alike a b true r r' e f = ap (λ q. is_at a || bytes_eq m q) f ∙ limit_spoken (is_at a) (is_at b) true
  limit_alike a b false r r' e f = ap (λ q. is_at a || bytes_eq m q) e ∙ limit_spoken (is_at a) (is_at b) false

  contains_alike : (s : Setting) (ms : Members) (o u : Option Data) (r : Reading)
      → IfAsserts (λ k. asserts_member m (keyword_location p keyword_name.Contains) k ≡ (is_at
      (name_of keyword_name.Contains) || (is_at min_contains && is_some o) || (is_at max_contains && is_some u)))
      (Some (join_ok (λ b sub. contains sub b) (join_ok (bounds_between p)
      (bound_value (member_location p min_contains) o) (bound_value (member_location p max_contains) u)) r))
  contains_alike s ms None None r = if_map _ _ r (λ sub e. bounds_spoken false false _ _ _)
  contains_alike s ms (Some d) None r = go (size_value (member_location p min_contains) d)
    where
      go : (v : Result ℕ Refusal) → IfAsserts (λ k. asserts_member m (keyword_location p keyword_name.Contains) k
          ≡ (is_at (name_of keyword_name.Contains) || (is_at min_contains && true) || (is_at max_contains && false)))
          (Some (join_ok (λ b sub. contains sub b) (join_ok (bounds_between p) (map_ok Some v) (Ok None)) r))
      go (Ok n) = if_map _ _ r (λ sub e. bounds_spoken true false _ _ _)
      go (Err e) = tt
  contains_alike s ms None (Some d) r = go (size_value (member_location p max_contains) d)
    where
      go : (v : Result ℕ Refusal) → IfAsserts (λ k. asserts_member m (keyword_location p keyword_name.Contains) k
          ≡ (is_at (name_of keyword_name.Contains) || (is_at min_contains && false) || (is_at max_contains && true)))
          (Some (join_ok (λ b sub. contains sub b) (join_ok (bounds_between p) (Ok None) (map_ok Some v)) r))
      go (Ok n) = if_map _ _ r (λ sub e. bounds_spoken false true _ _ _)
      go (Err e) = tt
  contains_alike s ms (Some c) (Some d) r =
      go (size_value (member_location p min_contains) c) (size_value (member_location p max_contains) d)
    where
      go : (v w : Result ℕ Refusal) → IfAsserts (λ k. asserts_member m (keyword_location p keyword_name.Contains) k
          ≡ (is_at (name_of keyword_name.Contains) || (is_at min_contains && true) || (is_at max_contains && true)))
          (Some (join_ok (λ b sub. contains sub b) (join_ok (bounds_between p) (map_ok Some v) (map_ok Some w)) r))
      go (Ok n) (Ok l) = if_map _ _ r (λ sub e. bounds_spoken true true _ _ _)
      go (Ok n) (Err e) = tt
      go (Err e) w = tt

  items_alike : (s : Setting) (ms : Members) (part : ValueReadings) (d : Data) → IfAsserts
      (AssertsAlike keyword_name.Items s ms) (items_keyword s (keyword_location p keyword_name.Items) ms part d)
  items_alike s ms part (array ds) =
      if_map _ _ (part.schemas s (keyword_location p keyword_name.Items)) (λ a e. or_none _)
  items_alike s ms part (object ns) =
      if_map _ _ (part.schema s (keyword_location p keyword_name.Items)) (λ a e. or_none _)
  items_alike s ms part (boolean false) =
      if_map _ _ (part.schema s (keyword_location p keyword_name.Items)) (λ a e. or_none _)
  items_alike s ms part (boolean true) = tt
  items_alike s ms part _ = tt

  prefix_alike : (s : Setting) (ms : Members) (part : ValueReadings) (d : Data) → IfAsserts
      (AssertsAlike keyword_name.PrefixItems s ms)
      (prefix_keyword s (keyword_location p keyword_name.PrefixItems) part d)
  prefix_alike s ms part (array ds) =
      if_map _ _ (part.schemas s (keyword_location p keyword_name.PrefixItems)) (λ a e. or_none _)
  prefix_alike s ms part _ = tt

  additional_alike : (s : Setting) (ms : Members) (o : Option Data) (part : ValueReadings) (d : Data)
      → IfAsserts (AssertsAlike keyword_name.AdditionalItems s ms)
      (additional_keyword s (keyword_location p keyword_name.AdditionalItems) o part d)
  additional_alike s ms (Some (array ds)) part (boolean true) = tt
  additional_alike s ms (Some (array ds)) part (boolean false) = or_same _
  additional_alike s ms (Some (array ds)) part _ =
      if_map _ _ (part.schema s (keyword_location p keyword_name.AdditionalItems)) (λ a e. or_none _)
  additional_alike s ms (Some _) part d = tt
  additional_alike s ms None part d = tt

  asserted_alike : (w : KeywordName) (s : Setting) (ms : Members) (part : ValueReadings)
      → IfAsserts (AssertsAlike w s ms) (asserted w s p ms part)
  unfolding asserted
  asserted_alike keyword_name.Items s ms part = items_alike s ms part part.value
  asserted_alike keyword_name.PrefixItems s ms part = prefix_alike s ms part part.value
  asserted_alike keyword_name.AdditionalItems s ms part =
      additional_alike s ms (get_member (name_of keyword_name.Items) ms) part part.value
  asserted_alike keyword_name.Contains s ms part =
      contains_alike s ms (bound_beside s ms min_contains) (bound_beside s ms max_contains)
      (part.schema s (keyword_location p keyword_name.Contains))
  asserted_alike keyword_name.Minimum s ms part =
      let c = is_exclusive s ms (name_of keyword_name.ExclusiveMinimum) in
      if_by _ (rule_for keyword_name.Minimum s ms part.value) _ part.value
      (λ a. limit_alike (name_of keyword_name.Minimum) (name_of keyword_name.ExclusiveMinimum) c Minimum
      ExclusiveMinimum refl refl)
  asserted_alike keyword_name.Maximum s ms part =
      let c = is_exclusive s ms (name_of keyword_name.ExclusiveMaximum) in
      if_by _ (rule_for keyword_name.Maximum s ms part.value) _ part.value
      (λ a. limit_alike (name_of keyword_name.Maximum) (name_of keyword_name.ExclusiveMaximum) c Maximum
      ExclusiveMaximum refl refl)
  asserted_alike w s ms part = if_by _ (rule_for w s ms part.value) (keyword_location p w) part.value (λ a. or_same _)

  -- what is read of w asserts the member where w is to
  pub read_alike : (w : KeywordName) (s : Setting) (ms : Members) (o : Option ValueReadings)
      → IfAsserts (AssertsAlike w s ms) (read_keyword w s p ms o)
  unfolding read_keyword
  read_alike w s ms None = tt
  read_alike w s ms (Some part) =
      if_either _ (is_active s w) (asserted w s p ms part) None (asserted_alike w s ms part) tt

  -- ---- all keywords that are read

  module _ (s : Setting) (ms : Members) (parts : List ℕ → Option ValueReadings) where
    -- the keywords of the list that are read and assert the member
    abbrev pub tally : List KeywordName → ℕ
    tally [] = 0
    tally (w ∷ ws) =
        if asserts_name w s ms is_at && is_some (read_keyword w s p ms (parts (name_of w))) then suc (tally ws)
        else tally ws

    one_more : (a b : Bool) (n : ℕ) → a ≡ b → (if a then suc n else n) ≡ (if b && true then suc n else n)
    one_more true true n e = refl
    one_more true false n e = cc
    one_more false true n e = cc
    one_more false false n e = refl

    none_more : (b : Bool) (n : ℕ) → n ≡ (if b && false then suc n else n)
    none_more true n = refl
    none_more false n = refl

    -- they are as many as assert it of those that were read
    pub counted : (ws : List KeywordName) (ks : Keywords) → read_keywords ws s p ms parts ≡ Ok ks
        → count_at m ks ≡ tally ws
    counted [] no_keywords e = refl
    counted [] (keyword q k ks) e = cc
    counted (w ∷ ws) ks e =
        go (read_keyword w s p ms (parts (name_of w))) (read_keywords ws s p ms parts)
        (read_alike w s ms (parts (name_of w))) (counted ws) e
      where
        go : (a : Asserts) (r : Result Keywords Refusal) → IfAsserts (AssertsAlike w s ms) a
            → ((js : Keywords) → r ≡ Ok js → count_at m js ≡ tally ws)
            → before (keyword_location p w) a r ≡ Ok ks
            → count_at m ks ≡ (if asserts_name w s ms is_at && is_some a then suc (tally ws) else tally ws)
        go None r alike rest e = rest ks e ∙ none_more (asserts_name w s ms is_at) (tally ws)
        go (Some (Err x)) r alike rest e = cc
        go (Some (Ok k)) (Err x) alike rest e = cc
        go (Some (Ok k)) (Ok js) alike rest e =
            ap (λ r. count_in r) (sym e)
            ∙ ap (λ n. if asserts_member m (keyword_location p w) k then suc n else n) (rest js refl)
            ∙ one_more (asserts_member m (keyword_location p w) k) (asserts_name w s ms is_at) (tally ws) alike
          where
            count_in : Result Keywords Refusal → ℕ
            count_in (Ok hs) = count_at m hs
            count_in (Err x) = 0

-- ---- all keywords of this library, by the name of the member

-- the name is the member's: their tokens are equal
abbrev pub is_named : List ℕ → List ℕ → Bool
is_named t u = bytes_eq (name_token t) (name_token u)

heads : (x : ℕ) (xs ys : List ℕ) → bytes_eq (x ∷ xs) (x ∷ ys) ≡ bytes_eq xs ys
heads x xs ys = ap (λ b. b && bytes_eq xs ys) ((Decides-eqb x x).1 refl)

-- tokens behind one location are equal where the locations are
same_ends : (p x y : List ℕ) → bytes_eq (p ++ x) (p ++ y) ≡ bytes_eq x y
same_ends [] x y = refl
same_ends (z ∷ p) x y = heads z (p ++ x) (p ++ y) ∙ same_ends p x y

-- the same tests of names, the same keywords
asserts_same : (w : KeywordName) (s : Setting) (ms : Members) (f g : List ℕ → Bool) → ((u : List ℕ) → f u ≡ g u)
    → asserts_name w s ms f ≡ asserts_name w s ms g
asserts_same keyword_name.Minimum s ms f g h =
    let c = is_exclusive s ms (name_of keyword_name.ExclusiveMinimum) in
    ap₂ (λ a b. a || (b && c)) (h (name_of keyword_name.Minimum)) (h (name_of keyword_name.ExclusiveMinimum))
asserts_same keyword_name.Maximum s ms f g h =
    let c = is_exclusive s ms (name_of keyword_name.ExclusiveMaximum) in
    ap₂ (λ a b. a || (b && c)) (h (name_of keyword_name.Maximum)) (h (name_of keyword_name.ExclusiveMaximum))
asserts_same keyword_name.Contains s ms f g h =
    let l = is_some (bound_beside s ms min_contains) in
    let u = is_some (bound_beside s ms max_contains) in
    ap (λ a. a || (f min_contains && l) || (f max_contains && u)) (h (name_of keyword_name.Contains))
    ∙ ap₂ (λ b c. g (name_of keyword_name.Contains) || (b && l) || (c && u)) (h min_contains) (h max_contains)
asserts_same w s ms f g h = h (name_of w)

module _ (s : Setting) (p : Pointer) (ms : Members) (parts : List ℕ → Option ValueReadings) where
  -- the keyword is read
  abbrev pub is_read : KeywordName → Bool
  is_read w = is_some (read_keyword w s p ms (parts (name_of w)))

  -- the keywords of the list that are read and assert the member of the name
  abbrev pub named : List ℕ → List KeywordName → ℕ
  named t [] = 0
  named t (w ∷ ws) = if asserts_name w s ms (is_named t) && is_read w then suc (named t ws) else named t ws

  tally_named : (t : List ℕ) (ws : List KeywordName) → tally p (member_location p t) s ms parts ws ≡ named t ws
  tally_named t [] = refl
  tally_named t (w ∷ ws) =
      ap₂ (λ b n. if b && is_read w then suc n else n)
      (asserts_same w s ms _ (is_named t) (λ u. same_ends p (name_token t) (name_token u))) (tally_named t ws)

  -- as many as that were read assert it
  pub counted_named : (t : List ℕ) (ks : Keywords) → read_keywords keywords s p ms parts ≡ Ok ks
      → count_at (member_location p t) ks ≡ named t keywords
  counted_named t ks e = counted p (member_location p t) s ms parts keywords ks e ∙ tally_named t keywords

  -- where the keyword may be a part of a limit, the limit is not exclusive
  abbrev pub NotExclusive : KeywordName → Type 0
  NotExclusive keyword_name.ExclusiveMinimum = is_exclusive s ms (name_of keyword_name.ExclusiveMinimum) ≡ false
  NotExclusive keyword_name.ExclusiveMaximum = is_exclusive s ms (name_of keyword_name.ExclusiveMaximum) ≡ false
  NotExclusive w = ⊤

  -- a keyword that is read is the only one at its name
  pub only_itself : (w : KeywordName) → NotExclusive w → is_read w ≡ true → named (name_of w) keywords ≡ 1
  only_itself keyword_name.ExclusiveMinimum h r =
      ap₂ (λ c b. if c && is_read keyword_name.Minimum then suc (if b then 1 else 0) else (if b then 1 else 0)) h r
  only_itself keyword_name.ExclusiveMaximum h r =
      ap₂ (λ c b. if c && is_read keyword_name.Maximum then suc (if b then 1 else 0) else (if b then 1 else 0)) h r
  only_itself w h r = ap (λ b. if b then 1 else 0) r

  -- an exclusive limit is the only one at the name of its part
  only_limit : (c l part : Bool) → c ≡ true → l ≡ true → part ≡ false
      → (if c && l then suc (if part then 1 else 0) else (if part then 1 else 0)) ≡ 1
  only_limit c l part h e r =
      ap (λ c. if c && l then suc (if part then 1 else 0) else (if part then 1 else 0)) h
      ∙ ap₂ (λ a b. if a then suc (if b then 1 else 0) else (if b then 1 else 0)) e r

  pub only_minimum : is_exclusive s ms (name_of keyword_name.ExclusiveMinimum) ≡ true
      → is_read keyword_name.Minimum ≡ true → is_read keyword_name.ExclusiveMinimum ≡ false
      → named (name_of keyword_name.ExclusiveMinimum) keywords ≡ 1
  only_minimum h l r = only_limit _ (is_read keyword_name.Minimum) (is_read keyword_name.ExclusiveMinimum) h l r

  pub only_maximum : is_exclusive s ms (name_of keyword_name.ExclusiveMaximum) ≡ true
      → is_read keyword_name.Maximum ≡ true → is_read keyword_name.ExclusiveMaximum ≡ false
      → named (name_of keyword_name.ExclusiveMaximum) keywords ≡ 1
  only_maximum h l r = only_limit _ (is_read keyword_name.Maximum) (is_read keyword_name.ExclusiveMaximum) h l r

  -- `contains` is the only one at the names of its bounds
  pub only_lower : is_some (bound_beside s ms min_contains) ≡ true → is_read keyword_name.Contains ≡ true
      → named min_contains keywords ≡ 1
  only_lower h r = ap₂ (λ a b. if (a || false) && b then 1 else 0) h r

  pub only_upper : is_some (bound_beside s ms max_contains) ≡ true → is_read keyword_name.Contains ≡ true
      → named max_contains keywords ≡ 1
  only_upper h r = ap₂ (λ a b. if a && b then 1 else 0) h r
