-- The keywords of parts that are put together.
use Rattle.std.proofs.Common.{◌≡◌, ℕ, ◌+◌, ◌<◌, ◌≤◌, List, [], ◌∷◌, ◌++◌, length, get_or, drop}
use Rattle.std.proofs.Common.{Vec, Global, false, Box, ◌||◌, Option, None, Some, refl, ap, subst, sym, ◌∙◌}
use Rattle.jskw_array.specs.Words.{ArrayShapeValidator, IfSome, IsBeginning, Keywords, OfKeyword, Part, Schema, Shape}
use Rattle.jskw_array.specs.Words.{is_some, option_map, absorbed_keywords}
use Rattle.jskw_array.specs.Words.{ShapeBegins, append_keywords, hands_on_required, keyword, keywords_delegate}
use Rattle.jskw_array.specs.Words.{keywords_of, no_keywords, own_keyword, schemas_delegate, schemas_of, shape_in}
use Rattle.jskw_array.specs.Words.{shape_keywords, validator_keyword}
use Rattle.std.specs.Borrow.{Bor}
use Rattle.std.proofs.lemmas.List.{drop_all}
use Rattle.jskw_report.proofs.AppendedKeywords.{append_append, append_none}
use Rattle.jskw_report.proofs.GatheredNodes.{drop_here}
use Rattle.jskw_array.specs.declared.part.LocatedValidator.{LocatedValidator}

-- one part more
pub keywords_of_more : {F Node Number Key : Type 0} (us : List (Part F Node Number Key)) (u : Part F Node Number Key)
    → keywords_of (us ++ u ∷ []) ≡ append_keywords (keywords_of us)
    (keyword (own_keyword u).location (validator_keyword (own_keyword u).validator) no_keywords)
keywords_of_more [] u = refl
keywords_of_more (v ∷ us) u =
    ap (keyword (own_keyword v).location (validator_keyword (own_keyword v).validator)) (keywords_of_more us u)

-- without a shape it changes none
pub shape_in_more : {F Node Number Key : Type 0} (us : List (Part F Node Number Key))
    (k : LocatedValidator F Node Number Key) → shape_in (us ++ OfKeyword k ∷ []) ≡ shape_in us
shape_in_more [] k = refl
shape_in_more (OfKeyword v ∷ us) k = shape_in_more us k
shape_in_more (Shape v ∷ us) k = refl

-- with the first one it has that
pub shape_in_first : {F Node Number Key : Type 0} (us : List (Part F Node Number Key))
    (v : Box (ArrayShapeValidator F Node Number Key) Global) → shape_in us ≡ None
    → shape_in (us ++ Shape v ∷ []) ≡ Some v.value
shape_in_first [] v none = refl
shape_in_first (OfKeyword k ∷ us) v none = shape_in_first us v none
shape_in_first (Shape w ∷ us) v none = cc

-- ---- the shape that begins them

begins_on : {F Node Number Key : Type 0} (o : Option (ArrayShapeValidator F Node Number Key)) (all more : Keywords)
    → IfSome o (λ v. IsBeginning (shape_keywords v) all)
    → IfSome o (λ v. IsBeginning (shape_keywords v) (append_keywords all more))
begins_on None all more begins = begins
begins_on (Some v) all more begins = (
  append_keywords begins.0 more,
  ap (λ ks. append_keywords ks more) begins.1 ∙ sym (append_append (shape_keywords v) begins.0 more),
)

pub shape_begins_more : {F Node Number Key : Type 0} (us : List (Part F Node Number Key))
    (k : LocatedValidator F Node Number Key) → ShapeBegins us → ShapeBegins (us ++ OfKeyword k ∷ [])
shape_begins_more us k begins =
    let more = keyword k.location (validator_keyword k.validator) no_keywords in
    subst (λ o. IfSome o (λ v. IsBeginning (shape_keywords v) (keywords_of (us ++ OfKeyword k ∷ []))))
    (sym (shape_in_more us k))
    (subst (λ ks. IfSome (shape_in us) (λ v. IsBeginning (shape_keywords v) ks))
    (sym (keywords_of_more us (OfKeyword k)))
    (begins_on (shape_in us) (keywords_of us) more begins))

-- ---- a shape behind the keywords that it checks before `items`

-- the shape's keywords are all
module _ {F Node Number Key : Type 0} (us : List (Part F Node Number Key))
    (v : Box (ArrayShapeValidator F Node Number Key) Global) where
  pub shape_before : keywords_of us ≡ absorbed_keywords v.value.absorbed
      → shape_keywords v.value ≡ keywords_of (us ++ Shape v ∷ [])
  shape_before before =
      let items = keyword v.value.items.location (validator_keyword v.value.items.validator) no_keywords in
      ap (λ ks. append_keywords ks items) (sym before) ∙ sym (keywords_of_more us (Shape v))

  pub shape_begins_all : shape_in us ≡ None → shape_keywords v.value ≡ keywords_of (us ++ Shape v ∷ [])
      → ShapeBegins (us ++ Shape v ∷ [])
  shape_begins_all none all =
      subst (λ o. IfSome o (λ w. IsBeginning (shape_keywords w) (keywords_of (us ++ Shape v ∷ []))))
      (sym (shape_in_first us v none))
      (no_keywords, sym all ∙ sym (append_none (shape_keywords v.value)))

-- the shape that is lent
pub lent_is_some : {F Node Number Key : Type 0} (r : Option (Bor (ArrayShapeValidator F Node Number Key)))
    (o : Option (ArrayShapeValidator F Node Number Key)) → option_map (λ v. v.now) r ≡ o → is_some r ≡ is_some o
lent_is_some None o e = ap is_some e
lent_is_some (Some v) o e = ap is_some e

pub lent_begins : {F Node Number Key : Type 0} (r : Option (Bor (ArrayShapeValidator F Node Number Key)))
    (o : Option (ArrayShapeValidator F Node Number Key)) → option_map (λ v. v.now) r ≡ o → (ks all : Keywords)
    → ks ≡ all → IfSome o (λ v. IsBeginning (shape_keywords v) all)
    → IfSome r (λ v. IsBeginning (shape_keywords v.now) ks)
lent_begins None o e ks all is begins = tt
lent_begins (Some v) o e ks all is begins =
    subst (λ js. IsBeginning (shape_keywords v.now) js) (sym is)
    (subst (λ x. IfSome x (λ w. IsBeginning (shape_keywords w) all)) (sym e) begins)

-- of a whole vector
abbrev pub keywords_in : {F Node Number Key : Type 0} → Vec (Part F Node Number Key) Global → Keywords
keywords_in parts = keywords_of parts.items

-- ---- which of them delegate a `required`

module _ {F Node Number Key : Type 0} (us : List (Part F Node Number Key)) (i : ℕ) where
  pub delegates_end : length us ≤ i → keywords_delegate (keywords_of (drop i us)) ≡ false
  delegates_end end = ap (λ xs. keywords_delegate (keywords_of xs)) (drop_all i us end)

module _ (ss : List Schema) (i : ℕ) where
  pub schemas_delegate_at : (s : Schema) → i < length ss → s ≡ get_or ss i s
      → schemas_delegate (schemas_of (drop i ss))
      ≡ (hands_on_required s || schemas_delegate (schemas_of (drop (i + 1) ss)))
  schemas_delegate_at s within is = ap (λ xs. schemas_delegate (schemas_of xs)) (drop_here ss i s within is)

  pub schemas_delegate_end : length ss ≤ i → schemas_delegate (schemas_of (drop i ss)) ≡ false
  schemas_delegate_end end = ap (λ xs. schemas_delegate (schemas_of xs)) (drop_all i ss end)
