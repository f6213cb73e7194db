-- What keywords say with others behind them: what each part says.
use Rattle.std.proofs.Common.{◌≡◌, ℕ, ◌+◌, max, List, [], ◌∷◌, ◌++◌, Bool, true, false, ◌&&◌, ◌||◌, if◌then◌else◌}
use Rattle.std.proofs.Common.{Option, Some, None, Result, Ok, Err, refl, ap, sym, ◌∙◌, append_assoc, arith}
use Rattle.serde_json.specs.Data.{Members}
use Rattle.jskw_value.specs.Pointer.{Pointer}
use Rattle.jskw_value.specs.Tree.{Tree}
use Rattle.jskw_report.specs.Applications.{all_height, all_needed, all_pairs, keyword_needed}
use Rattle.jskw_report.specs.Evaluation.{node_at, unit, units}
use Rattle.jskw_report.specs.Fail.{all_fail, keyword_fail}
use Rattle.jskw_report.specs.Holds.{all_hold, keyword_holds}
use Rattle.jskw_report.specs.Keyword.{Keywords, no_keywords, keyword, keywords_delegate, append_keywords}
use Rattle.jskw_report.specs.Keyword.{keyword_delegates}
use Rattle.jskw_report.specs.KeywordValue.{Refusal, join_ok}
use Rattle.jskw_report.specs.Read.{Asserts, ValueReadings, before, keyword_location, read_keyword, read_keywords}
use Rattle.jskw_report.specs.Setting.{Setting, name_of}
use Rattle.jskw_report.specs.declared.keyword.KeywordName.{KeywordName}

and_assoc : (a b c : Bool) → (a && (b && c)) ≡ ((a && b) && c)
and_assoc true b c = refl
and_assoc false b c = refl

or_assoc : (a b c : Bool) → (a || (b || c)) ≡ ((a || b) || c)
or_assoc true b c = refl
or_assoc false b c = refl

pub append_none : (ks : Keywords) → append_keywords ks no_keywords ≡ ks
append_none no_keywords = refl
append_none (keyword q k ks) = ap (keyword q k) (append_none ks)

pub append_append : (is js ks : Keywords)
    → append_keywords is (append_keywords js ks) ≡ append_keywords (append_keywords is js) ks
append_append no_keywords js ks = refl
append_append (keyword q k is) js ks = ap (keyword q k) (append_append is js ks)

module _ (t : Tree) where
  pub hold_appended : (js ks : Keywords) → all_hold (append_keywords js ks) t ≡ (all_hold js t && all_hold ks t)
  hold_appended no_keywords ks = refl
  hold_appended (keyword q k js) ks =
      ap (λ b. keyword_holds k t && b) (hold_appended js ks)
      ∙ and_assoc (keyword_holds k t) (all_hold js t) (all_hold ks t)

  pub fail_appended : (p : Pointer) (js ks : Keywords)
      → all_fail (append_keywords js ks) t p ≡ all_fail js t p ++ all_fail ks t p
  fail_appended p no_keywords ks = refl
  fail_appended p (keyword q k js) ks =
      ap (λ fs. keyword_fail k t p ++ fs) (fail_appended p js ks)
      ∙ sym (append_assoc (keyword_fail k t p) (all_fail js t p) (all_fail ks t p))

  pub units_appended : (p : Pointer) (js ks : Keywords)
      → units (append_keywords js ks) t p ≡ units js t p ++ units ks t p
  units_appended p no_keywords ks = refl
  units_appended p (keyword q k js) ks = ap (λ es. node_at q p (unit k t p) ∷ es) (units_appended p js ks)

  pub pairs_appended : (js ks : Keywords) → all_pairs (append_keywords js ks) t ≡ all_pairs js t + all_pairs ks t
  pairs_appended no_keywords ks = omega arith
  pairs_appended (keyword q k js) ks = let rest = pairs_appended js ks in omega (arith, rest)

  -- those behind the first failure are not needed
  pub needed_appended : (js ks : Keywords)
      → all_needed (append_keywords js ks) t ≡ all_needed js t + (if all_hold js t then all_needed ks t else 0)
  needed_appended no_keywords ks = omega arith
  needed_appended (keyword q k js) ks = go (keyword_holds k t) (needed_appended js ks)
    where
      go : (b : Bool)
          → all_needed (append_keywords js ks) t ≡ all_needed js t + (if all_hold js t then all_needed ks t else 0)
          → keyword_needed k t + (if b then all_needed (append_keywords js ks) t else 0)
          ≡ (keyword_needed k t + (if b then all_needed js t else 0))
          + (if b && all_hold js t then all_needed ks t else 0)
      go true rest = omega (arith, rest)
      go false rest = omega arith

pub height_appended : (js ks : Keywords) → all_height (append_keywords js ks) ≡ max (all_height js) (all_height ks)
height_appended no_keywords ks = omega arith
height_appended (keyword q k js) ks = let rest = height_appended js ks in omega (arith, rest)

pub delegates_appended : (js ks : Keywords)
    → keywords_delegate (append_keywords js ks) ≡ (keywords_delegate js || keywords_delegate ks)
delegates_appended no_keywords ks = refl
delegates_appended (keyword q k js) ks =
    ap (λ b. keyword_delegates k || b) (delegates_appended js ks)
    ∙ or_assoc (keyword_delegates k) (keywords_delegate js) (keywords_delegate ks)

-- ---- how they are read

-- the keyword that is first is first of all
before_join : (q : Pointer) (a : Asserts) (r t : Result Keywords Refusal)
    → before q a (join_ok append_keywords r t) ≡ join_ok append_keywords (before q a r) t
before_join q None r t = refl
before_join q (Some (Ok k)) (Ok js) (Ok ks) = refl
before_join q (Some (Ok k)) (Ok js) (Err e) = refl
before_join q (Some (Ok k)) (Err e) t = refl
before_join q (Some (Err e)) r t = refl

-- of a list of keywords with others behind them
pub read_appended : (ws vs : List KeywordName) (s : Setting) (p : Pointer) (ms : Members)
    (parts : List ℕ → Option ValueReadings)
    → read_keywords (ws ++ vs) s p ms parts
    ≡ join_ok append_keywords (read_keywords ws s p ms parts) (read_keywords vs s p ms parts)
read_appended [] vs s p ms parts = sym (none (read_keywords vs s p ms parts))
  where
    none : (r : Result Keywords Refusal) → join_ok append_keywords (Ok no_keywords) r ≡ r
    none (Ok ks) = refl
    none (Err e) = refl
read_appended (w ∷ ws) vs s p ms parts =
    let a = read_keyword w s p ms (parts (name_of w)) in
    ap (before (keyword_location p w) a) (read_appended ws vs s p ms parts)
    ∙ before_join (keyword_location p w) a (read_keywords ws s p ms parts) (read_keywords vs s p ms parts)
