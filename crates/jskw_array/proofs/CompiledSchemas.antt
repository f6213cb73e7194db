-- The schemas of an array that are compiled one after another are those that are read.
use Rattle.std.proofs.Common.{◌≡◌, ℕ, ◌+◌, ◌<◌, ◌≤◌, List, [], ◌∷◌, ◌++◌, length, get_or, drop, Vec, Global, Result, Ok}
use Rattle.std.proofs.Common.{Err, refl, sym, ap, ◌∙◌, arith}
use Rattle.std.proofs.lemmas.List.{drop_all}
use Rattle.jskw_array.specs.Words.{Pointer, Reading, Refusal, Schema, Schemas, Setting, item_location, items_view}
use Rattle.jskw_array.specs.Words.{join_ok, map_ok, no_schemas, read, read_each, schema, schemas_of, view}
use Rattle.serde_json.specs.declared.value.Value.{Value}
use Rattle.jskw_report.proofs.GatheredNodes.{drop_here}

-- ---- schemas that are put together

abbrev pub append_schemas : Schemas → Schemas → Schemas
append_schemas no_schemas ss = ss
append_schemas (schema s rs) ss = schema s (append_schemas rs ss)

-- one schema more
schemas_of_more : (ns : List Schema) (n : Schema)
    → schemas_of (ns ++ n ∷ []) ≡ append_schemas (schemas_of ns) (schema n no_schemas)
schemas_of_more [] n = refl
schemas_of_more (m ∷ ns) n = ap (schema m) (schemas_of_more ns n)

-- those that were read after others
abbrev pub after : Schemas → Result Schemas Refusal → Result Schemas Refusal
after done r = map_ok (append_schemas done) r

append_one : (rs : Schemas) (s : Schema) (ss : Schemas)
    → append_schemas rs (schema s ss) ≡ append_schemas (append_schemas rs (schema s no_schemas)) ss
append_one no_schemas s ss = refl
append_one (schema r rs) s ss = ap (schema r) (append_one rs s ss)

append_none : (ss : Schemas) → append_schemas ss no_schemas ≡ ss
append_none no_schemas = refl
append_none (schema s ss) = ap (schema s) (append_none ss)

pub after_none : (r : Result Schemas Refusal) → after no_schemas r ≡ r
after_none (Ok ss) = refl
after_none (Err e) = refl

after_made : (done : Schemas) (s : Schema) (r : Result Schemas Refusal)
    → after done (join_ok schema (Ok s) r) ≡ after (append_schemas done (schema s no_schemas)) r
after_made done s (Ok ss) = ap Ok (append_one done s ss)
after_made done s (Err e) = refl

-- ---- the turn at the index i

module _ (ns : List Schema) (all : Result Schemas Refusal) (s : Setting) (p : Pointer) (vs : List Value) (i : ℕ) where
  abbrev done : Schemas
  done = schemas_of ns

  -- nothing is left
  pub each_end : length vs ≤ i → after done (read_each (items_view (drop i vs)) s p i) ≡ all → all ≡ Ok done
  each_end end e =
      sym e ∙ ap (λ xs. after done (read_each (items_view xs) s p i)) (drop_all i vs end) ∙ ap Ok (append_none done)

  module _ (v : Value) (within : i < length vs) (is : v ≡ get_or vs i v)
      (e : after done (read_each (items_view (drop i vs)) s p i) ≡ all) where
    abbrev here : Reading
    here = read (view v) s (item_location p i)

    abbrev rest : Result Schemas Refusal
    rest = read_each (items_view (drop (i + 1) vs)) s p (i + 1)

    step : after done (join_ok schema here rest) ≡ all
    step = ap (λ j. after done (join_ok schema here (read_each (items_view (drop (i + 1) vs)) s p j))) (omega arith)
        ∙ ap (λ xs. after done (read_each (items_view xs) s p i)) (sym (drop_here vs i v within is)) ∙ e

    held : (a b : List Schema) → ◌≡◌ {A = Result (List Schema) Refusal} (Ok a) (Ok b) → a ≡ b
    held a b f = ap kept f
      where
        kept : Result (List Schema) Refusal → List Schema
        kept (Ok ms) = ms
        kept (Err x) = a

    more : (new : List Schema) (r : Reading) → map_ok (λ n. ns ++ n ∷ []) r ≡ Ok new
        → after done (join_ok schema r rest) ≡ after (schemas_of new) rest
    more new (Ok n) f =
        after_made done n rest
        ∙ ap (λ ss. after ss rest) (sym (schemas_of_more ns n) ∙ ap schemas_of (held (ns ++ n ∷ []) new f))
    more new (Err x) f = cc

    -- with it the schemas are these
    pub each_made : (new : List Schema) → map_ok (λ n. ns ++ n ∷ []) here ≡ Ok new → after (schemas_of new) rest ≡ all
    each_made new f = sym (more new here f) ∙ step

    refused : (x : Refusal) (r : Reading) → map_ok (λ n. ns ++ n ∷ []) r ≡ Err x
        → after done (join_ok schema r rest) ≡ Err x
    refused x (Ok n) f = cc
    refused x (Err y) f = ap (λ z. Err z) (ap kept f)
      where
        kept : Result (List Schema) Refusal → Refusal
        kept (Ok ms) = y
        kept (Err z) = z

    -- it is refused
    pub each_refused : (x : Refusal) → map_ok (λ n. ns ++ n ∷ []) here ≡ Err x → all ≡ Err x
    each_refused x f = sym step ∙ refused x here f

-- of a whole vector
abbrev pub schemas_in : Vec Schema Global → Schemas
schemas_in nodes = schemas_of nodes.items
