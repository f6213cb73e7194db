-- A schema's keywords that are compiled one after another are those that are read.
use Rattle.std.proofs.Common.{◌≡◌, ℕ, ◌+◌, ◌<◌, ◌≤◌, List, [], IfOk, length, drop, get_or, Bool, true, false, Option}
use Rattle.std.proofs.Common.{Some, None, Result, Ok, Err, if◌then◌else◌, refl, ap, sym, ◌∙◌}
use Rattle.std.proofs.lemmas.List.{at_drop_more, drop_all}
use Rattle.jskw_array.specs.Words.{Asserts, CompilePoint, CompilesKeyword, Data, Keyword, KeywordName, Keywords}
use Rattle.jskw_array.specs.Words.{CompilesTo, Members, ValueReadings, Pointer, Refusal, Setting, Part, active_member}
use Rattle.jskw_array.specs.Words.{after, append_keywords, before, depth, get_member, keyword, keyword_location}
use Rattle.jskw_array.specs.Words.{keywords_of, members_depth, name_of, no_keywords, readings_named, read_keyword}
use Rattle.jskw_array.specs.Words.{read_keywords, keyword_reading, is_active, validator_keyword}
use Rattle.jskw_report.proofs.AppendedKeywords.{append_append, append_none}
use Rattle.jskw_report.proofs.SchemaMembers.{read_absent, read_not_standing, read_standing}
use Rattle.jskw_report.specs.declared.error.CompileFault.{CompileFault}
use Rattle.jskw_array.proofs.Depths.{member_depth}
use Rattle.jskw_leaf.proofs.PassedFaults.{compiles_as, refused_whole}
use Rattle.jskw_array.specs.declared.validator.Validator.{Validator}

-- ---- keywords that are put together

pub after_none : (r : Result Keywords Refusal) → after no_keywords r ≡ r
after_none (Ok ks) = refl
after_none (Err e) = refl

-- nothing is left
pub turn_end : (done : Keywords) (all : Result Keywords Refusal) (s : Setting) (p : Pointer) (ms : Members)
    (named : List ℕ → Option ValueReadings) (ws : List KeywordName) (i : ℕ) → length ws ≤ i
    → after done (read_keywords (drop i ws) s p ms named) ≡ all → all ≡ Ok done
turn_end done all s p ms named ws i past e =
    sym e ∙ ap (λ xs. after done (read_keywords xs s p ms named)) (drop_all i ws past) ∙ ap Ok (append_none done)

after_made : (done : Keywords) (q : Pointer) (k : Keyword) (r : Result Keywords Refusal)
    → after done (before q (Some (Ok k)) r) ≡ after (append_keywords done (keyword q k no_keywords)) r
after_made done q k (Ok ks) = ap Ok (append_append done (keyword q k no_keywords) ks)
after_made done q k (Err e) = refl

-- what is read of a keyword by its name is read of it by an equal one
pub keyword_same : {F Node Number Key : Type 0} (r : Option (Result (Validator F Node Number Key) CompileFault))
    {w v : KeywordName} (point : CompilePoint) (ms : Members) (d : Data) → w ≡ v
    → CompilesKeyword validator_keyword r (keyword_reading v point ms d)
    → CompilesKeyword validator_keyword r (keyword_reading w point ms d)
keyword_same r point ms d is made =
    compiles_as validator_keyword r _ _ (ap (λ x. keyword_reading x point ms d) is) made

-- ---- one keyword behind others, by what was made of it

module _ {V : Type 0} (means : V → Keyword) (done : Keywords) (q : Pointer) where
  pub appends_nothing : (read : Asserts) → CompilesKeyword means None read
      → after done (before q read (Ok no_keywords)) ≡ Ok done
  appends_nothing None c = ap Ok (append_none done)
  appends_nothing (Some r) c = absurd c

  pub appends_one : (v : V) (read : Asserts) → CompilesKeyword means (Some (Ok v)) read
      → after done (before q read (Ok no_keywords)) ≡ Ok (append_keywords done (keyword q (means v) no_keywords))
  appends_one v None c = absurd c
  appends_one v (Some r) c = ap (λ x. after done (before q (Some x) (Ok no_keywords))) c

  pub appends_refused : {W : Type 0} (whole : W → Keywords) (x : CompileFault) (read : Asserts)
      → CompilesKeyword means (Some (Err x)) read
      → CompilesTo whole (Err x) (after done (before q read (Ok no_keywords)))
  appends_refused whole x None c = absurd c
  appends_refused whole x (Some r) c =
      refused_whole means whole x r _ c (λ e f. ap (λ y. after done (before q (Some y) (Ok no_keywords))) f)

-- ---- the turn at the keyword of index i

module _ (done : Keywords) (all : Result Keywords Refusal) (s : Setting) (p : Pointer) (ms : Members)
    (named : List ℕ → Option ValueReadings) (ws : List KeywordName) (i : ℕ) (w : KeywordName)
    (within : i < length ws) (e : after done (read_keywords (drop i ws) s p ms named) ≡ all) where
  abbrev read_here : Asserts
  read_here = read_keyword (get_or ws i w) s p ms (named (name_of (get_or ws i w)))

  abbrev here : Pointer
  here = keyword_location p (get_or ws i w)

  abbrev rest : Result Keywords Refusal
  rest = read_keywords (drop (i + 1) ws) s p ms named

  step : after done (before here read_here rest) ≡ all
  step = ap (after done) (sym (at_drop_more (λ xs. read_keywords xs s p ms named) ws i w within)) ∙ e

  -- it asserts nothing
  pub turn_silent : read_here ≡ None → after done rest ≡ all
  turn_silent none = ap (λ read. after done (before here read rest)) (sym none) ∙ step

  held : (a : Keywords) (b : Keywords) → ◌≡◌ {A = Result Keywords Refusal} (Ok a) (Ok b) → a ≡ b
  held a b f = ap (λ r. kept r) f
    where
      kept : Result Keywords Refusal → Keywords
      kept (Ok ks) = ks
      kept (Err x) = a

  more : (new : Keywords) (read : Asserts) → after done (before here read (Ok no_keywords)) ≡ Ok new
      → after done (before here read rest) ≡ after new rest
  more new None f = ap (λ ks. after ks rest) (sym (append_none done) ∙ held (append_keywords done no_keywords) new f)
  more new (Some (Ok k)) f =
      after_made done here k rest
      ∙ ap (λ ks. after ks rest) (held (append_keywords done (keyword here k no_keywords)) new f)
  more new (Some (Err x)) f = cc

  -- with it the keywords are these
  pub turn_made : (new : Keywords) → after done (before here read_here (Ok no_keywords)) ≡ Ok new → after new rest ≡ all
  turn_made new f = sym (more new read_here f) ∙ step

  refused : (x : Refusal) (read : Asserts) → after done (before here read (Ok no_keywords)) ≡ Err x
      → after done (before here read rest) ≡ Err x
  refused x None f = cc
  refused x (Some (Ok k)) f = cc
  refused x (Some (Err y)) f = f

  -- it is refused
  pub turn_refused : (x : Refusal) → after done (before here read_here (Ok no_keywords)) ≡ Err x → all ≡ Err x
  turn_refused x f = sym step ∙ refused x read_here f

-- ---- a keyword that is present and active

module _ (w : KeywordName) (point : CompilePoint) (ms : Members) where
  pub active_reads : (d : Data) → active_member point.setting ms w ≡ Some d
      → read_keyword w point.setting point.location ms (readings_named (name_of w) ms) ≡ keyword_reading w point ms d
  active_reads d = go (is_active point.setting w) refl
    where
      go : (b : Bool) → is_active point.setting w ≡ b → (if b then get_member (name_of w) ms else None) ≡ Some d
          → read_keyword w point.setting point.location ms (readings_named (name_of w) ms)
          ≡ keyword_reading w point ms d
      go true active at = read_standing w point.setting point.location ms d at active
      go false active at = cc

  pub inactive_reads : active_member point.setting ms w ≡ None
      → read_keyword w point.setting point.location ms (readings_named (name_of w) ms) ≡ None
  inactive_reads = go (is_active point.setting w) (get_member (name_of w) ms) refl refl
    where
      go : (b : Bool) (o : Option Data) → is_active point.setting w ≡ b → get_member (name_of w) ms ≡ o
          → (if b then o else None) ≡ None
          → read_keyword w point.setting point.location ms (readings_named (name_of w) ms) ≡ None
      go b None active at e = read_absent w point.setting point.location ms at
      go true (Some d) active at e = cc
      go false (Some d) active at e = read_not_standing w point.setting point.location ms d at active

  pub active_depth : (d : Data) → active_member point.setting ms w ≡ Some d → depth d ≤ members_depth ms
  active_depth d = go (is_active point.setting w)
    where
      go : (b : Bool) → (if b then get_member (name_of w) ms else None) ≡ Some d → depth d ≤ members_depth ms
      go true at = member_depth (name_of w) ms d at
      go false at = cc

-- ---- parts

-- what is said of an Ok, said otherwise
pub ok_then : {A E : Type 0} {P Q : A → Type 0} (r : Result A E) → ((a : A) → P a → Q a) → IfOk r P → IfOk r Q
ok_then (Ok a) also is = also a is
ok_then (Err e) also is = tt

-- the first keywords of all
pub after_empty : {F Node Number Key : Type 0} (us : List (Part F Node Number Key)) → us ≡ []
    → (r : Result Keywords Refusal) → after (keywords_of us) r ≡ r
after_empty us empty r = ap (λ xs. after (keywords_of xs) r) empty ∙ after_none r
