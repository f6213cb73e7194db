-- The values of a schema's keywords, one member after another.
use Rattle.std.proofs.Common.{◌≡◌, ◌≢◌, ℕ, ◌<◌, ◌==◌, List, length, get_or, set, Bool, true, false, Option, Some, None}
use Rattle.std.proofs.Common.{Bor, [], ◌∷◌, Ordering, find, if◌then◌else◌, is_none, is_some, option_map, refl, sym, ap}
use Rattle.std.proofs.Common.{ap₂, subst, ◌∙◌, arith}
use Rattle.std.proofs.lemmas.Bool.{eqb-false, eqb-true}
use Rattle.std.proofs.lemmas.Cmp.{nat_list_cmp_total, tied_itself}
use Rattle.std.proofs.lemmas.List.{get_or-map, get_or-set_other, get_or-set_same, length-map, length-set, map-set}
use Rattle.std.proofs.lemmas.Map.Lookups.{exact_bytes}
use Rattle.std.proofs.lemmas.Slice.Eq.{bytes_eq-Decides}
use Rattle.std.specs.Cmp.Lexicographic.{slice_cmp}
use Rattle.std.specs.Option.{option_map_or, option_or}
use Rattle.std.specs.Ordering.{nat_cmp, match_ordering}
use Rattle.std.specs.Str.{bytes_eq}
use Rattle.std.specs.declared.cmp.Ordering.TheVariants.{Less, Equal, Greater}
use Rattle.serde_json.specs.Data.{Data, Members, no_members, member}
use Rattle.serde_json.specs.Find.{get_member}
use Rattle.serde_json.specs.View.{view}
use Rattle.serde_json.specs.declared.value.Value.{Value}
use Rattle.jskw_report.specs.Found.{AreValues, keyword_named, values_in}
use Rattle.jskw_report.specs.Overridden.{keyword_index}
use Rattle.jskw_report.specs.Setting.{keywords, name_of}
use Rattle.jskw_report.specs.declared.keyword.KeywordName.{KeywordName}
use Rattle.jskw_report.specs.declared.keyword.KeywordName.TheVariants.{TypeKeyword}
use Rattle.jskw_report.proofs.OverriddenKeywords.{within}

-- ---- keywords, their places and their names

at_index : (w : KeywordName) → get_or keywords (keyword_index w) TypeKeyword ≡ w
at_index TypeKeyword = refl
at_index w = refl

-- each keyword is found by its name
found_by_name : (w : KeywordName) → keyword_named (name_of w) ≡ Some w
found_by_name TypeKeyword = refl
found_by_name w = refl

some_same : (v w : KeywordName) → Some v ≡ Some w → v ≡ w
some_same v w e = ap (λ o. option_map_or (λ k. k) o v) e

-- keywords at one place are one
same_index : (v w : KeywordName) → keyword_index v ≡ keyword_index w → v ≡ w
same_index v w e = sym (at_index v) ∙ ap (λ k. get_or keywords k TypeKeyword) e ∙ at_index w

-- and a keyword has the name that it is found by
by_name : (f : KeywordName → Bool) (ws : List KeywordName) (w : KeywordName) → find f ws ≡ Some w → f w ≡ true
by_name f [] w e = cc
by_name f (v ∷ ws) w e = go (f v) refl (λ g. by_name f ws w g) e
  where
    go : (b : Bool) → f v ≡ b → (find f ws ≡ Some w → f w ≡ true)
        → ◌≡◌ {A = Option KeywordName} (if b then Some v else find f ws) (Some w) → f w ≡ true
    go true h behind g = ap f (sym (some_same v w g)) ∙ h
    go false h behind g = behind g

has_name : (key : List ℕ) (w : KeywordName) → keyword_named key ≡ Some w → name_of w ≡ key
has_name key w e =
    (bytes_eq-Decides (name_of w) key).0 (by_name (λ v. bytes_eq (name_of v) key) keywords w e)

-- a name that is no keyword's is not that of any
no_keyword : (w : KeywordName) (key : List ℕ) → keyword_named key ≡ None → name_of w ≢ key
no_keyword w key none e = clash (sym (found_by_name w) ∙ ap keyword_named e ∙ none)
  where
    clash : Some w ≡ None → ⊥
    clash f = cc

-- a keyword at another place has another name
apart : (v w : KeywordName) (key : List ℕ) → keyword_named key ≡ Some v
    → (keyword_index w ≡ keyword_index v → ⊥) → name_of w ≢ key
apart v w key is other e =
    other (ap keyword_index (some_same w v (sym (found_by_name w) ∙ ap keyword_named e ∙ is)))

-- ---- one member after another

-- each keyword's value is the one that was found, or else that of the members which are left
abbrev pub AreFound : List (Option Data) → Members → Members → Type 0
AreFound found ms rest =
    (length found ≡ length keywords)
    × ((w : KeywordName) → option_or (get_or found (keyword_index w) None) (get_member (name_of w) rest)
    ≡ get_member (name_of w) ms)

-- a member of another name is passed over
passed : (name key : List ℕ) (d : Data) (rest : Members) → name ≢ key
    → get_member name (member key d rest) ≡ get_member name rest
passed name key d rest other = go (slice_cmp nat_cmp name key) refl
  where
    go : (o : Ordering) → slice_cmp nat_cmp name key ≡ o
        → match_ordering (slice_cmp nat_cmp name key) (get_member name rest) (Some d) (get_member name rest)
        ≡ get_member name rest
    go Less e = rw e refl
    go Greater e = rw e refl
    go Equal e = absurd (other (exact_bytes name key e))

-- and one of this name is found
met : (name key : List ℕ) (d : Data) (rest : Members) → name ≡ key → get_member name (member key d rest) ≡ Some d
met name key d rest is =
    ap (λ o. match_ordering o (get_member name rest) (Some d) (get_member name rest))
    (ap (λ n. slice_cmp nat_cmp n key) is ∙ tied_itself nat_list_cmp_total key)

kept : (o a b : Option Data) → is_some o ≡ true → option_or o a ≡ option_or o b
kept None a b e = cc
kept (Some d) a b e = refl

or_none : (o : Option Data) → option_or o None ≡ o
or_none None = refl
or_none (Some d) = refl

module _ (found : List (Option Data)) (ms : Members) (key : List ℕ) (d : Data) (rest : Members)
    (known : AreFound found ms (member key d rest)) where
  -- the member is no keyword
  pub next_other : keyword_named key ≡ None → AreFound found ms rest
  next_other none = (
    known.0,
    λ w. ap (option_or (get_or found (keyword_index w) None))
        (sym (passed (name_of w) key d rest (no_keyword w key none))) ∙ known.1 w,
  )

  module _ (v : KeywordName) (is : keyword_named key ≡ Some v) where
    abbrev at : KeywordName → Option Data
    at w = get_or found (keyword_index w) None

    behind : (w : KeywordName) → (keyword_index w == keyword_index v) ≡ false
        → get_member (name_of w) rest ≡ get_member (name_of w) (member key d rest)
    behind w e = sym (passed (name_of w) key d rest (apart v w key is (eqb-false _ _ e)))

    -- the keyword was found before
    pub next_kept : is_some (at v) ≡ true → AreFound found ms rest
    next_kept there = (known.0, λ w. go w (keyword_index w == keyword_index v) refl ∙ known.1 w)
      where
        go : (w : KeywordName) (b : Bool) → (keyword_index w == keyword_index v) ≡ b
            → option_or (at w) (get_member (name_of w) rest)
            ≡ option_or (at w) (get_member (name_of w) (member key d rest))
        go w true e =
            kept (at w) _ _ (ap (λ i. is_some (get_or found i None)) (eqb-true _ _ e) ∙ there)
        go w false e = ap (option_or (at w)) (behind w e)

    -- the keyword is found here
    pub next_found : at v ≡ None → AreFound (set found (keyword_index v) (Some d)) ms rest
    next_found free = (
      length-set found (keyword_index v) (Some d) ∙ known.0,
      λ w. go w (keyword_index w == keyword_index v) refl ∙ known.1 w,
    )
      where
        new : List (Option Data)
        new = set found (keyword_index v) (Some d)

        here : option_or (get_or new (keyword_index v) None) (get_member (name_of v) rest)
            ≡ option_or (at v) (get_member (name_of v) (member key d rest))
        here =
            ap (λ o. option_or o (get_member (name_of v) rest)) (get_or-set_same found (keyword_index v) (Some d) None
            (omega (arith, within v, known.0)))
            ∙ sym (ap₂ option_or free (met (name_of v) key d rest (has_name key v is)))

        go : (w : KeywordName) (b : Bool) → (keyword_index w == keyword_index v) ≡ b
            → option_or (get_or new (keyword_index w) None) (get_member (name_of w) rest)
            ≡ option_or (at w) (get_member (name_of w) (member key d rest))
        go w true e =
            subst (λ x. option_or (get_or new (keyword_index x) None) (get_member (name_of x) rest)
            ≡ option_or (at x) (get_member (name_of x) (member key d rest)))
            (sym (same_index w v (eqb-true _ _ e))) here
        go w false e =
            ap₂ option_or (get_or-set_other found (keyword_index v) (keyword_index w) (Some d) None
            (eqb-false _ _ e)) (behind w e)

-- ---- the same of references

view_at : (vs : List (Option (Bor Value))) (i : ℕ) (o : Option (Bor Value)) → i < length vs → o ≡ get_or vs i o
    → get_or (values_in vs) i None ≡ option_map (λ x. view x.now) o
view_at vs i o h is =
    get_or-map (option_map (λ x. view x.now)) vs i o None h ∙ ap (option_map (λ x. view x.now)) (sym is)

free : (o : Option (Bor Value)) → is_none o ≡ true → option_map (λ x. view x.now) o ≡ None
free None e = refl
free (Some x) e = cc

taken : (o : Option (Bor Value)) → is_none o ≡ false → is_some (option_map (λ x. view x.now) o) ≡ true
taken None e = cc
taken (Some x) e = refl

module _ (vs : List (Option (Bor Value))) (ms : Members) (key : List ℕ) (x : Bor Value) (rest : Members)
    (known : AreFound (values_in vs) ms (member key (view x.now) rest)) (v : KeywordName)
    (is : keyword_named key ≡ Some v) (o : Option (Bor Value)) (at_place : o ≡ get_or vs (keyword_index v) o) where
  in_place : keyword_index v < length vs
  in_place = omega (arith, within v, known.0, length-map vs (option_map (λ y. view y.now)))

  here : get_or (values_in vs) (keyword_index v) None ≡ option_map (λ y. view y.now) o
  here = view_at vs (keyword_index v) o in_place at_place

  pub next_again : is_none o ≡ false → AreFound (values_in vs) ms rest
  next_again there =
      next_kept (values_in vs) ms key (view x.now) rest known v is (ap is_some here ∙ taken o there)

  pub next_value : is_none o ≡ true → AreFound (values_in (set vs (keyword_index v) (Some x))) ms rest
  next_value none =
      subst (λ found. AreFound found ms rest)
      (sym (map-set (option_map (λ y. view y.now)) vs (keyword_index v) (Some x)))
      (next_found (values_in vs) ms key (view x.now) rest known v is (here ∙ free o none))

-- no member is left
pub all_found : (found : List (Option Data)) (ms : Members) → AreFound found ms no_members → AreValues found ms
all_found found ms known w = sym (or_none (get_or found (keyword_index w) None)) ∙ known.1 w
