-- Where no member is unchecked, the plain schema covers the schema.
use Rattle.std.proofs.Common.{◌≡◌, ◌⊎◌, inl, inr, ℕ, suc, List, [], ◌∷◌, ◌++◌, Bool, true, false, not, ◌&&◌, cond}
use Rattle.std.proofs.Common.{Option, Some, None, Result, Ok, Err, Ordering, if◌then◌else◌, is_some, bytes_eq, refl}
use Rattle.std.proofs.Common.{sym, ap, ap₂, subst, ◌∙◌}
use Rattle.std.proofs.lemmas.Bool.{and_parts, or_cases}
use Rattle.std.proofs.lemmas.Map.Lookups.{exact_bytes}
use Rattle.std.proofs.lemmas.Slice.Eq.{bytes_eq-Decides}
use Rattle.std.specs.Cmp.Lexicographic.{slice_cmp}
use Rattle.std.specs.List.{find}
use Rattle.std.specs.Option.{option_map, option_map_or}
use Rattle.std.specs.Ordering.{nat_cmp, match_ordering}
use Rattle.std.specs.Prelude.{⊤}
use Rattle.std.specs.declared.cmp.Ordering.TheVariants.{Less, Equal, Greater}
use Rattle.serde_json.specs.Data.{Data, boolean, array, object, Items, no_items, item, Members, no_members, member}
use Rattle.serde_json.specs.Events.{items_len}
use Rattle.serde_json.specs.Find.{get_member}
use Rattle.jskw_value.specs.Pointer.{Pointer, member_location, item_location}
use Rattle.jskw_report.proofs.SchemaMembers.{readings_named-get, read_not_standing, read_standing}
use Rattle.jskw_report.specs.Found.{keyword_named}
use Rattle.jskw_report.specs.Keyword.{Schema, false_schema, schema_object, Keywords, no_keywords, keyword, Keyword}
use Rattle.jskw_report.specs.Keyword.{Schemas, no_schemas, schema, Bounds, contains}
use Rattle.jskw_report.specs.KeywordValue.{Refusal, map_ok, join_ok}
use Rattle.jskw_report.specs.Read.{Asserts, ValueReadings, Reading, asserted, before, bound_beside, additional_keyword}
use Rattle.jskw_report.specs.Read.{failing_keyword, items_keyword, items_start, prefix_keyword, keyword_location}
use Rattle.jskw_report.specs.Read.{max_contains, min_contains, readings, readings_named, read, read_bounds, read_each}
use Rattle.jskw_report.specs.Read.{read_keyword, read_keywords, marks_of, rule_for}
use Rattle.jskw_report.specs.Setting.{Setting, keywords, name_of, is_active, has_vocabulary, is_after_draft_4}
use Rattle.jskw_report.specs.Setting.{is_after_draft_7, is_overridden}
use Rattle.jskw_report.specs.Sibling.{is_bare, is_true, member_passes}
use Rattle.jskw_report.specs.Keyword as plain
use Rattle.jskw_report.specs.declared.keyword.KeywordName.{KeywordName}
use Rattle.jskw_report.specs.declared.keyword.KeywordName.TheVariants as keyword_name
use Rattle.jskw_report.specs.declared.settings.Vocabulary.TheVariants.{Validation}
use Rattle.jskw_unchecked.proofs.Counts.{IfAsserts, NotExclusive, counted_named, if_by, if_either, if_map, is_exclusive}
use Rattle.jskw_unchecked.proofs.Counts.{is_read, only_itself, only_lower, only_maximum, only_minimum, only_upper}
use Rattle.jskw_unchecked.specs.Covered.{AllCover, AreCovered, CoverEach, Covers, EmptyListCovers, IsCovered}
use Rattle.jskw_unchecked.specs.Covered.{KeywordCovers, accepts_everything, count_at}
use Rattle.jskw_unchecked.specs.Names.{is_annotation, is_not_implemented}
use Rattle.jskw_unchecked.specs.Reason.{are_bounds_read, asks_for_nothing, has_active, is_asserted, is_bound}
use Rattle.jskw_unchecked.specs.Reason.{is_part_of_limit, keyword_reason, member_reason, name_reason}
use Rattle.jskw_unchecked.specs.Unchecked.{has_subschemas, listed, unchecked, unchecked_among, unchecked_each}
use Rattle.jskw_unchecked.specs.Unchecked.{unchecked_in, unchecked_member}
use Rattle.jskw_unchecked.specs.declared.member.UncheckedMember.{UncheckedMember}
use Rattle.jskw_unchecked.specs.declared.reason.Reason.{Reason}
use Rattle.jskw_unchecked.specs.declared.reason.Reason.TheVariants.{NotImplemented, Unknown, Inactive}

-- ---- values in one

abbrev held : {A : Type 0} → A → Option A → A
held a (Some b) = b
held a None = a

same_some : {A : Type 0} (a b : A) → ◌≡◌ {A = Option A} (Some a) (Some b) → a ≡ b
same_some a b e = ap (held a) e

abbrev kept : {A : Type 0} → A → Result A Refusal → A
kept a (Ok b) = b
kept a (Err x) = a

same_ok : {A : Type 0} (a b : A) → ◌≡◌ {A = Result A Refusal} (Ok a) (Ok b) → a ≡ b
same_ok a b e = ap (kept a) e

-- ---- lists without members

nothing : {A : Type 0} (xs ys : List A) → xs ++ ys ≡ [] → (xs ≡ []) × (ys ≡ [])
nothing [] ys e = (refl, e)
nothing (x ∷ xs) ys e = cc

-- nothing is listed of a member that has no reason, and none stand below it
listed_nothing : (q : Pointer) (r : Option Reason) (below : List UncheckedMember) → listed q r below ≡ []
    → (r ≡ None) × (below ≡ [])
listed_nothing q None below e = (refl, e)
listed_nothing q (Some r) below e = cc

-- every member of an object
of_member : (ms all : Members) (s : Setting) (p : Pointer) (name : List ℕ) (d : Data) → unchecked_among ms all s p ≡ []
    → get_member name ms ≡ Some d
    → unchecked_member name d all s p (unchecked_in d s (member_location p name)) ≡ []
of_member no_members all s p name d none at = cc
of_member (member k x ms) all s p name d none at =
    go (slice_cmp nat_cmp name k) refl (λ e. of_member ms all s p name d both.1 e) at
  where
    both : (unchecked_member k x all s p (unchecked_in x s (member_location p k)) ≡ [])
        × (unchecked_among ms all s p ≡ [])
    both =
        nothing (unchecked_member k x all s p (unchecked_in x s (member_location p k)))
        (unchecked_among ms all s p) none

    go : (o : Ordering) → slice_cmp nat_cmp name k ≡ o
        → (get_member name ms ≡ Some d
        → unchecked_member name d all s p (unchecked_in d s (member_location p name)) ≡ [])
        → match_ordering o (get_member name ms) (Some x) (get_member name ms) ≡ Some d
        → unchecked_member name d all s p (unchecked_in d s (member_location p name)) ≡ []
    go Less e behind at = behind at
    go Greater e behind at = behind at
    go Equal e behind at =
        ap₂ (λ n v. unchecked_member n v all s p (unchecked_in v s (member_location p n))) (exact_bytes name k e)
        (sym (same_some x d at)) ∙ both.0

-- ---- a keyword by its name

found : {X : Type 0} (f : X → Bool) (xs : List X) (x : X) → find f xs ≡ Some x → f x ≡ true
found f [] x e = cc
found f (y ∷ ys) x e = go (f y) refl (λ g. found f ys x g) e
  where
    go : (b : Bool) → f y ≡ b → (find f ys ≡ Some x → f x ≡ true) → cond b (Some y) (find f ys) ≡ Some x → f x ≡ true
    go true h behind g = ap f (sym (same_some y x g)) ∙ h
    go false h behind g = behind g

has_name : (name : List ℕ) (w : KeywordName) → keyword_named name ≡ Some w → name ≡ name_of w
has_name name w e =
    sym ((bytes_eq-Decides (name_of w) name).0 (found (λ v. bytes_eq (name_of v) name) keywords w e))

-- ---- one object

if_none : {A : Type 0} (b : Bool) (a : A) → ◌≡◌ {A = Option A} (if b then None else Some a) None → b ≡ true
if_none true a e = refl
if_none false a e = cc

not_true : (b : Bool) → not b ≡ true → b ≡ false
not_true false e = refl
not_true true e = cc

module _ (s : Setting) (p : Pointer) (ms : Members) where
  abbrev parts : List ℕ → Option ValueReadings
  parts name = readings_named name ms

  part_there : (name : List ℕ) (d : Data) → get_member name ms ≡ Some d → parts name ≡ Some (readings d)
  part_there name d at = readings_named-get name ms ∙ ap (option_map readings) at

  -- what is read is active
  read_stands : (w : KeywordName) (d : Data) → is_some (read_keyword w s p ms (Some (readings d))) ≡ true
      → is_active s w ≡ true
  unfolding read_keyword
  read_stands w d = go (is_active s w)
    where
      go : (b : Bool) → is_some (if b then asserted w s p ms (readings d) else None) ≡ true → b ≡ true
      go true e = refl
      go false e = cc

  -- an active keyword has a value
  active_value : (w : KeywordName) → has_active s ms w ≡ true
      → (d : Data) × (get_member (name_of w) ms ≡ Some d) × (is_active s w ≡ true)
  active_value w e =
      let both = and_parts (member_passes (λ d. true) (name_of w) ms) (is_active s w) e in
      go (get_member (name_of w) ms) refl both.0 both.1
    where
      go : (o : Option Data) → get_member (name_of w) ms ≡ o → option_map_or (λ d. true) o false ≡ true
          → is_active s w ≡ true → (d : Data) × (get_member (name_of w) ms ≡ Some d) × (is_active s w ≡ true)
      go (Some d) at there stand = (d, at, stand)
      go None at there stand = cc

  -- an active limit, and an active `contains`, is read
  minimum_read : has_active s ms keyword_name.Minimum ≡ true → is_read s p ms parts keyword_name.Minimum ≡ true
  unfolding asserted
  minimum_read e = let v = active_value keyword_name.Minimum e in
      ap is_some (read_standing keyword_name.Minimum s p ms v.0 v.1 v.2)

  maximum_read : has_active s ms keyword_name.Maximum ≡ true → is_read s p ms parts keyword_name.Maximum ≡ true
  unfolding asserted
  maximum_read e = let v = active_value keyword_name.Maximum e in
      ap is_some (read_standing keyword_name.Maximum s p ms v.0 v.1 v.2)

  contains_read : has_active s ms keyword_name.Contains ≡ true → is_read s p ms parts keyword_name.Contains ≡ true
  unfolding asserted
  contains_read e = let v = active_value keyword_name.Contains e in
      ap is_some (read_standing keyword_name.Contains s p ms v.0 v.1 v.2)

  later : (b c : Bool) → b ≡ true → (not b && c) ≡ false
  later true c e = refl
  later false c e = cc

  -- from Draft 6 on no limit has a part
  not_exclusive : (w : KeywordName) → is_active s w ≡ true → NotExclusive s p ms parts w
  not_exclusive keyword_name.ExclusiveMinimum e =
      let in_use = (and_parts (is_after_draft_4 s.draft && has_vocabulary s Validation) _ e).0 in
      later (is_after_draft_4 s.draft) _ (and_parts (is_after_draft_4 s.draft) (has_vocabulary s Validation) in_use).0
  not_exclusive keyword_name.ExclusiveMaximum e =
      let in_use = (and_parts (is_after_draft_4 s.draft && has_vocabulary s Validation) _ e).0 in
      later (is_after_draft_4 s.draft) _ (and_parts (is_after_draft_4 s.draft) (has_vocabulary s Validation) in_use).0
  not_exclusive w e = tt

  -- in Draft 4 a part that is `true` makes the limit exclusive
  exclusive_by : (w : KeywordName) (d : Data) → get_member (name_of w) ms ≡ Some d
      → not (is_after_draft_4 s.draft) ≡ true → is_true d ≡ true → is_exclusive s ms (name_of w) ≡ true
  exclusive_by w d at e t =
      ap (λ b. b && member_passes is_true (name_of w) ms) e ∙ ap (λ o. option_map_or is_true o false) at ∙ t

  -- and is not active itself
  minimum_earlier : not (is_after_draft_4 s.draft) ≡ true → is_active s keyword_name.ExclusiveMinimum ≡ false
  minimum_earlier e =
      ap (λ b. b && has_vocabulary s Validation && not (is_overridden s (name_of keyword_name.ExclusiveMinimum)))
      (not_true (is_after_draft_4 s.draft) e)

  maximum_earlier : not (is_after_draft_4 s.draft) ≡ true → is_active s keyword_name.ExclusiveMaximum ≡ false
  maximum_earlier e =
      ap (λ b. b && has_vocabulary s Validation && not (is_overridden s (name_of keyword_name.ExclusiveMaximum)))
      (not_true (is_after_draft_4 s.draft) e)

  module _ (ks : Keywords) (made : read_keywords keywords s p ms parts ≡ Ok ks) where
    -- a keyword that is read
    when_read : (w : KeywordName) (d : Data) → get_member (name_of w) ms ≡ Some d
        → is_some (read_keyword w s p ms (Some (readings d))) ≡ true → count_at (member_location p (name_of w)) ks ≡ 1
    when_read w d at e = counted_named s p ms parts (name_of w) ks made
        ∙ only_itself s p ms parts w (not_exclusive w (read_stands w d e))
        (ap (λ o. is_some (read_keyword w s p ms o)) (part_there (name_of w) d at) ∙ e)

    -- a part of an exclusive limit
    when_part : (w : KeywordName) (d : Data) → get_member (name_of w) ms ≡ Some d → is_part_of_limit w s ms ≡ true
        → is_true d ≡ true → count_at (member_location p (name_of w)) ks ≡ 1
    when_part keyword_name.ExclusiveMinimum d at e t =
        let both = and_parts (not (is_after_draft_4 s.draft)) (has_active s ms keyword_name.Minimum) e in
        counted_named s p ms parts (name_of keyword_name.ExclusiveMinimum) ks made
        ∙ only_minimum s p ms parts (exclusive_by keyword_name.ExclusiveMinimum d at both.0 t) (minimum_read both.1)
        (ap is_some (read_not_standing keyword_name.ExclusiveMinimum s p ms d at (minimum_earlier both.0)))
    when_part keyword_name.ExclusiveMaximum d at e t =
        let both = and_parts (not (is_after_draft_4 s.draft)) (has_active s ms keyword_name.Maximum) e in
        counted_named s p ms parts (name_of keyword_name.ExclusiveMaximum) ks made
        ∙ only_maximum s p ms parts (exclusive_by keyword_name.ExclusiveMaximum d at both.0 t) (maximum_read both.1)
        (ap is_some (read_not_standing keyword_name.ExclusiveMaximum s p ms d at (maximum_earlier both.0)))
    when_part w d at e t = cc

    -- a keyword without a reason
    of_keyword : (name : List ℕ) (w : KeywordName) (d : Data) → keyword_named name ≡ Some w
        → get_member name ms ≡ Some d → keyword_reason w s p ms d ≡ None → IsCovered s p ms ks name d
    of_keyword name w d e at none =
        go (or_cases (is_asserted w s p ms d) (asks_for_nothing w s ms d) (if_none _ _ none))
      where
        same : name ≡ name_of w
        same = has_name name w e

        here : get_member (name_of w) ms ≡ Some d
        here = ap (λ n. get_member n ms) (sym same) ∙ at

        once : count_at (member_location p (name_of w)) ks ≡ 1 → IsCovered s p ms ks name d
        once h = inr (inr (ap (λ n. count_at (member_location p n) ks) same ∙ h))

        asserts : (is_some (read_keyword w s p ms (Some (readings d))) ≡ true)
            ⊎ ((is_part_of_limit w s ms && is_true d) ≡ true) → IsCovered s p ms ks name d
        asserts (inl h) = once (when_read w d here h)
        asserts (inr h) = let both = and_parts (is_part_of_limit w s ms) (is_true d) h in
            once (when_part w d here both.0 both.1)

        go : (is_asserted w s p ms d ≡ true) ⊎ (asks_for_nothing w s ms d ≡ true) → IsCovered s p ms ks name d
        go (inl h) =
            asserts
            (or_cases (is_some (read_keyword w s p ms (Some (readings d)))) (is_part_of_limit w s ms && is_true d) h)
        go (inr h) = inr (inl (ap (λ o. accepts_everything o s ms d) e ∙ h))

    -- a bound of `contains`
    when_bound : (name : List ℕ) (d : Data) → get_member name ms ≡ Some d → is_bound name ≡ true
        → are_bounds_read s ms ≡ true → count_at (member_location p name) ks ≡ 1
    when_bound name d at e r = go (or_cases (bytes_eq name min_contains) (bytes_eq name max_contains) e)
      where
        both : ((is_after_draft_7 s.draft && has_vocabulary s Validation) ≡ true)
            × (has_active s ms keyword_name.Contains ≡ true)
        both =
            and_parts (is_after_draft_7 s.draft && has_vocabulary s Validation)
            (has_active s ms keyword_name.Contains) r

        there : (bound : List ℕ) → name ≡ bound → is_some (bound_beside s ms bound) ≡ true
        there bound same =
            ap (λ b. is_some (if b then get_member bound ms else None)) both.0
            ∙ ap (λ n. is_some (get_member n ms)) (sym same) ∙ ap is_some at

        go : (bytes_eq name min_contains ≡ true) ⊎ (bytes_eq name max_contains ≡ true)
            → count_at (member_location p name) ks ≡ 1
        go (inl h) =
            let same = (bytes_eq-Decides name min_contains).0 h in
            ap (λ n. count_at (member_location p n) ks) same ∙ counted_named s p ms parts min_contains ks made
            ∙ only_lower s p ms parts (there min_contains same) (contains_read both.1)
        go (inr h) =
            let same = (bytes_eq-Decides name max_contains).0 h in
            ap (λ n. count_at (member_location p n) ks) same ∙ counted_named s p ms parts max_contains ks made
            ∙ only_upper s p ms parts (there max_contains same) (contains_read both.1)

    -- another name without a reason
    of_name : (name : List ℕ) (d : Data) → get_member name ms ≡ Some d → name_reason s ms name ≡ None
        → IsCovered s p ms ks name d
    of_name name d at =
        go (is_bound name) (are_bounds_read s ms) (is_annotation s.draft name)
        (is_not_implemented s.draft name) refl refl refl
      where
        go : (a b c n : Bool) → is_bound name ≡ a → are_bounds_read s ms ≡ b → is_annotation s.draft name ≡ c
            → ◌≡◌ {A = Option Reason} (if a then (if b then None else Some Inactive)
            else (if c then None else (if n then Some NotImplemented else Some Unknown))) None
            → IsCovered s p ms ks name d
        go true true c n e f g none = inr (inr (when_bound name d at e f))
        go true false c n e f g none = cc
        go false b true n e f g none = inl g
        go false b false true e f g none = cc
        go false b false false e f g none = cc

    -- every member without a reason
    of_reason : (o : Option KeywordName) (name : List ℕ) (d : Data) → keyword_named name ≡ o
        → get_member name ms ≡ Some d → member_reason o s p ms name d ≡ None → IsCovered s p ms ks name d
    of_reason (Some w) name d e at none = of_keyword name w d e at none
    of_reason None name d e at none = of_name name d at none

    -- all members, where nothing is unchecked
    pub all_covered : unchecked_among ms ms s p ≡ [] → AreCovered s p ms ks
    all_covered none name d at =
        of_reason (keyword_named name) name d refl at (listed_nothing _ _ _ (of_member ms ms s p name d none at)).0

-- ---- subschemas

-- the plain schema of a value covers it
abbrev OneCovers : Data → Type 0
OneCovers d =
    (s : Setting) (q : Pointer) (sch : Schema) → unchecked_in d s q ≡ [] → read d s q ≡ Ok sch → Covers sch s d

-- those of items cover them
abbrev ItemsCover : Items → Type 0
ItemsCover ds =
    (s : Setting) (q : Pointer) (i : ℕ) (subs : Schemas) → unchecked_each ds s q i ≡ [] → read_each ds s q i ≡ Ok subs
    → CoverEach subs s ds

-- those of an array's items do
abbrev EachCovers : Data → Type 0
EachCovers (array ds) = ItemsCover ds
EachCovers _ = ⊤

-- so it is for every member
abbrev MembersCover : Members → Type 0
MembersCover ms = (name : List ℕ) (d : Data) → get_member name ms ≡ Some d → OneCovers d × EachCovers d

module _ (s : Setting) (p : Pointer) (ms : Members) (good : MembersCover ms)
    (none : unchecked_among ms ms s p ≡ []) where
  abbrev Fits : Keyword → Type 0
  Fits k = KeywordCovers k s ms

  -- nothing is unchecked below a keyword with subschemas
  none_below : (w : KeywordName) (d : Data) → get_member (name_of w) ms ≡ Some d
      → has_subschemas (keyword_named (name_of w)) ≡ true → unchecked_in d s (keyword_location p w) ≡ []
  none_below w d at h =
      sym (ap (λ b. if b then unchecked_in d s (keyword_location p w) else []) h)
      ∙ (listed_nothing _ _ _ (of_member ms ms s p (name_of w) d none at)).1

  -- a subschema covers the value of its keyword
  one_below : (w : KeywordName) (d : Data) (sub : Schema) → get_member (name_of w) ms ≡ Some d
      → has_subschemas (keyword_named (name_of w)) ≡ true → read d s (keyword_location p w) ≡ Ok sub → Covers sub s d
  one_below w d sub at h e = (good (name_of w) d at).0 s (keyword_location p w) sub (none_below w d at h) e

  -- those of an array cover its items
  each_below : (w : KeywordName) (ds : Items) (subs : Schemas) → get_member (name_of w) ms ≡ Some (array ds)
      → has_subschemas (keyword_named (name_of w)) ≡ true
      → read_each ds s (keyword_location p w) 0 ≡ Ok subs → CoverEach subs s ds
  each_below w ds subs at h e =
      (good (name_of w) (array ds) at).1 s (keyword_location p w) 0 subs (none_below w (array ds) at h) e

  -- `items` of one schema
  abbrev from_start : Data → Schema → Keyword
  from_start d sub = plain.items_from (items_start s ms) sub (is_bare s ms d)

  items_fit : (d : Data) → get_member (name_of keyword_name.Items) ms ≡ Some d
      → IfAsserts Fits (items_keyword s (keyword_location p keyword_name.Items) ms (readings d) d)
  items_fit (array ds) at =
      if_map Fits _ (read_each ds s (keyword_location p keyword_name.Items) 0)
      (λ subs e. (ds, at, each_below keyword_name.Items ds subs at refl e))
  items_fit (object ns) at =
      if_map Fits (from_start (object ns)) (read (object ns) s (keyword_location p keyword_name.Items))
      (λ sub e. (object ns, at, one_below keyword_name.Items (object ns) sub at refl e))
  items_fit (boolean false) at =
      if_map Fits (from_start (boolean false)) (read (boolean false) s (keyword_location p keyword_name.Items))
      (λ sub e. (boolean false, at, one_below keyword_name.Items (boolean false) sub at refl e))
  items_fit (boolean true) at = tt
  items_fit _ at = tt

  prefix_fit : (d : Data) → get_member (name_of keyword_name.PrefixItems) ms ≡ Some d
      → IfAsserts Fits (prefix_keyword s (keyword_location p keyword_name.PrefixItems) (readings d) d)
  prefix_fit (array ds) at =
      if_map Fits _ (read_each ds s (keyword_location p keyword_name.PrefixItems) 0)
      (λ subs e. (ds, at, each_below keyword_name.PrefixItems ds subs at refl e))
  prefix_fit _ at = tt

  additional_fit : (o : Option Data) (d : Data) → get_member (name_of keyword_name.AdditionalItems) ms ≡ Some d
      → IfAsserts Fits (additional_keyword s (keyword_location p keyword_name.AdditionalItems) o (readings d) d)
  additional_fit (Some (array ds)) (boolean true) at = tt
  additional_fit (Some (array ds)) (boolean false) at = tt
  additional_fit (Some (array ds)) d at =
      if_map Fits (plain.additional_items (items_len ds)) (read d s (keyword_location p keyword_name.AdditionalItems))
      (λ sub e. (d, at, one_below keyword_name.AdditionalItems d sub at refl e))
  additional_fit (Some _) d at = tt
  additional_fit None d at = tt

  contains_fit : (b : Result Bounds Refusal) (d : Data) → get_member (name_of keyword_name.Contains) ms ≡ Some d
      → IfAsserts Fits
      (Some (join_ok (λ b sub. contains sub b) b (read d s (keyword_location p keyword_name.Contains))))
  contains_fit (Err e) d at = tt
  contains_fit (Ok b) d at =
      if_map Fits _ (read d s (keyword_location p keyword_name.Contains))
      (λ sub e. (d, at, one_below keyword_name.Contains d sub at refl e))

  asserted_fit : (w : KeywordName) (d : Data) → get_member (name_of w) ms ≡ Some d
      → IfAsserts Fits (asserted w s p ms (readings d))
  unfolding asserted
  asserted_fit keyword_name.Items d at = items_fit d at
  asserted_fit keyword_name.PrefixItems d at = prefix_fit d at
  asserted_fit keyword_name.AdditionalItems d at = additional_fit (get_member (name_of keyword_name.Items) ms) d at
  asserted_fit keyword_name.Contains d at = contains_fit (read_bounds s p ms) d at
  asserted_fit w d at = if_by Fits (rule_for w s ms d) (keyword_location p (failing_keyword w s ms)) d (λ a. tt)

  value_fit : (w : KeywordName) (o : Option Data) → get_member (name_of w) ms ≡ o
      → IfAsserts Fits (read_keyword w s p ms (option_map readings o))
  unfolding read_keyword
  value_fit w None at = tt
  value_fit w (Some d) at =
      if_either Fits (is_active s w) (asserted w s p ms (readings d)) None (asserted_fit w d at) tt

  read_fit : (w : KeywordName) → IfAsserts Fits (read_keyword w s p ms (parts s p ms (name_of w)))
  read_fit w =
      subst (λ o. IfAsserts Fits (read_keyword w s p ms o)) (sym (readings_named-get (name_of w) ms))
      (value_fit w (get_member (name_of w) ms) refl)

  all_fit : (ws : List KeywordName) (ks : Keywords) → read_keywords ws s p ms (parts s p ms) ≡ Ok ks → AllCover ks s ms
  all_fit [] no_keywords e = tt
  all_fit [] (keyword q k ks) e = cc
  all_fit (w ∷ ws) ks e =
      go (read_keyword w s p ms (parts s p ms (name_of w))) (read_keywords ws s p ms (parts s p ms)) (read_fit w)
      (λ js f. all_fit ws js f) e
    where
      go : (a : Asserts) (r : Result Keywords Refusal) → IfAsserts Fits a
          → ((js : Keywords) → r ≡ Ok js → AllCover js s ms) → before (keyword_location p w) a r ≡ Ok ks
          → AllCover ks s ms
      go None r fit rest e = rest ks e
      go (Some (Err x)) r fit rest e = cc
      go (Some (Ok k)) (Err x) fit rest e = cc
      go (Some (Ok k)) (Ok js) fit rest e =
          subst (λ hs. AllCover hs s ms) (same_ok (keyword (keyword_location p w) k js) ks e) (fit, rest js refl)

  -- the plain schema covers the object
  object_covers : (sch : Schema) → read (object ms) s p ≡ Ok sch → Covers sch s (object ms)
  object_covers sch = go (read_keywords keywords s p ms (parts s p ms)) refl
    where
      go : (r : Result Keywords Refusal) → read_keywords keywords s p ms (parts s p ms) ≡ r
          → map_ok (schema_object p (marks_of s ms)) r ≡ Ok sch → Covers sch s (object ms)
      go (Err x) made e = cc
      go (Ok ks) made e =
          subst (λ x. Covers x s (object ms)) (same_ok (schema_object p (marks_of s ms) ks) sch e)
          (all_covered s p ms ks made none, all_fit keywords ks made)

-- what is no object has no members
no_object : (sch : Schema) (s : Setting) (d : Data) → ((ms : Members) → d ≡ object ms → ⊥) → Covers sch s d
no_object (false_schema q) s (object ms) other = absurd (other ms refl)
no_object (false_schema q) s _ other = tt
no_object (schema_object q marks ks) s (object ms) other = absurd (other ms refl)
no_object (schema_object q marks ks) s _ other = tt

-- of the value of a keyword as of a schema
as_schema : (d : Data) → OneCovers d → (s : Setting) (q : Pointer) (sch : Schema) → unchecked d s q ≡ []
    → read d s q ≡ Ok sch → Covers sch s d
as_schema (object ms) covers s q sch none made = covers s q sch none made
as_schema d covers s q sch none made = no_object sch s d (λ ms e. cc)

-- one more item
more_items : (d : Data) (ds : Items) → OneCovers d → ItemsCover ds → ItemsCover (item d ds)
more_items d ds first rest s q i subs none = go (read d s (item_location q i)) (read_each ds s q (suc i)) refl refl
  where
    both : (unchecked d s (item_location q i) ≡ []) × (unchecked_each ds s q (suc i) ≡ [])
    both = nothing (unchecked d s (item_location q i)) (unchecked_each ds s q (suc i)) none

    go : (r : Reading) (rs : Result Schemas Refusal) → read d s (item_location q i) ≡ r → read_each ds s q (suc i) ≡ rs
        → join_ok schema r rs ≡ Ok subs → CoverEach subs s (item d ds)
    go (Err x) rs made others e = cc
    go (Ok sub) (Err x) made others e = cc
    go (Ok sub) (Ok rest_of) made others e =
        subst (λ x. CoverEach x s (item d ds)) (same_ok (schema sub rest_of) subs e)
        (as_schema d first s (item_location q i) sub both.0 made, rest s q (suc i) rest_of both.1 others)

-- no items
no_more : ItemsCover no_items
no_more s q i no_schemas none made = tt
no_more s q i (schema sub subs) none made = cc

-- the member that is found, or one behind it
found_covers : (name : List ℕ) (x d : Data) (o : Ordering) (behind : Option Data) → OneCovers x × EachCovers x
    → (behind ≡ Some d → OneCovers d × EachCovers d)
    → match_ordering o behind (Some x) behind ≡ Some d → OneCovers d × EachCovers d
found_covers name x d Less behind here there at = there at
found_covers name x d Greater behind here there at = there at
found_covers name x d Equal behind here there at = subst (λ v. OneCovers v × EachCovers v) (same_some x d at) here

mutual
  value_covers : (d : Data) → OneCovers d × EachCovers d
  value_covers (object ms) = (λ s q sch none made. object_covers s q ms (members_cover ms) none sch made, tt)
  value_covers (array ds) = (λ s q sch none made. no_object sch s (array ds) (λ ms e. cc), items_cover ds)
  value_covers d = (λ s q sch none made. no_object sch s d (λ ms e. cc), tt)

  items_cover : (ds : Items) → ItemsCover ds
  items_cover no_items = no_more
  items_cover (item d ds) = more_items d ds (value_covers d).0 (items_cover ds)

  members_cover : (ms : Members) → MembersCover ms
  members_cover no_members name d at = cc
  members_cover (member k x ms) name d at =
      found_covers name x d (slice_cmp nat_cmp name k) (get_member name ms) (value_covers x)
      (λ e. members_cover ms name d e) at

-- the law
pub empty_list_covers : EmptyListCovers
empty_list_covers s d p sch none made = as_schema d (value_covers d).0 s p sch none made
