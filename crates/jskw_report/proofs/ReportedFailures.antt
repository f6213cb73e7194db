-- Failures that are reported, one part after another.
use Rattle.std.proofs.Common.{◌≡◌, ◌≤◌, ◌+◌, ◌-◌, ℕ, zero, suc, List, [], ◌∷◌, ◌++◌, length, take, false, Option, None}
use Rattle.std.proofs.Common.{Some, Result, Ok, Err, OnOk, IsErrAnd, refl, subst, sym, ap, ◌∙◌, append_assoc}
use Rattle.std.proofs.Common.{append-nil, length-append, arith}
use Rattle.std.proofs.Math.Seq.{take-append-add}
use Rattle.std.proofs.lemmas.List.{nil_from_length, take-append-le, take_all}
use Rattle.std.specs.declared.alloc.AllocError.{AllocError}
use Rattle.jskw_value.specs.Tree.{Tree}
use Rattle.jskw_report.specs.Errors.{failures_of}
use Rattle.jskw_report.specs.Fail.{Failure}
use Rattle.jskw_report.specs.Observe.{AppendsFailures, Collects, Fills, Fits, Leaves, Reports, found, keeps_list}
use Rattle.jskw_report.specs.Observe.{limited, room, room_behind}
use Rattle.jskw_report.specs.declared.error.Stop.{Stop}
use Rattle.jskw_report.specs.declared.error.Stop.TheVariants.{Invalid, Memory}
use Rattle.jskw_report.specs.declared.report.ErrorList.{ErrorList}
use Rattle.jskw_report.specs.declared.report.Report.{Report}
use Rattle.jskw_report.specs.declared.report.Report.TheVariants.{First, Listed}

-- ---- limits

-- what the first n of a longer list have beyond the first n of its beginning
take_more : (n : ℕ) (xs ys : List Failure) → (zs : List Failure) × (take n (xs ++ ys) ≡ take n xs ++ zs)
take_more zero xs ys = ([], refl)
take_more (suc n) [] ys = (take (suc n) ys, refl)
take_more (suc n) (x ∷ xs) ys = let more = take_more n xs ys in (more.0, ap (λ zs. x ∷ zs) more.1)

take_behind : (n : ℕ) (xs ys : List Failure) → length xs ≤ n → take n (xs ++ ys) ≡ xs ++ take (n - length xs) ys
take_behind n xs ys fits = let e : n ≡ length xs + (n - length xs) = omega arith in
    ap (λ m. take m (xs ++ ys)) e ∙ take-append-add xs ys (n - length xs)

-- failures that fit are taken whole, and those behind them as far as there is room
limited_behind : (n : Option ℕ) (first rest : List Failure) → Fits n first
    → limited n (first ++ rest) ≡ first ++ limited (room_behind first n) rest
limited_behind None first rest fits = refl
limited_behind (Some n) first rest fits = take_behind n first rest (omega (arith, fits))

limited_full : (n : Option ℕ) (first rest : List Failure) → Fills n first → limited n (first ++ rest) ≡ limited n first
limited_full None first rest full = absurd full
limited_full (Some n) first rest full = take-append-le n first rest (omega (arith, full))

limited_more : (n : Option ℕ) (first rest : List Failure)
    → (more : List Failure) × (limited n (first ++ rest) ≡ limited n first ++ more)
limited_more None first rest = (rest, refl)
limited_more (Some n) first rest = take_more n first rest

limited_all : (n : Option ℕ) (fs : List Failure) → Fits n fs → limited n fs ≡ fs
limited_all None fs fits = refl
limited_all (Some n) fs fits = take_all n fs (omega (arith, fits))

fits_none : (n : Option ℕ) → Fits n []
fits_none None = tt
fits_none (Some n) = omega arith

behind_none : (n : Option ℕ) → n ≡ room_behind [] n
behind_none None = refl
behind_none (Some n) = ap Some (omega arith)

fits_behind : (n : Option ℕ) (first rest : List Failure) → Fits n first → Fits (room_behind first n) rest
    → Fits n (first ++ rest)
fits_behind None first rest fits more = tt
fits_behind (Some n) first rest fits more = omega (arith, fits, more, length-append first rest)

fills_behind : (n : Option ℕ) (first rest : List Failure) → Fits n first → Fills (room_behind first n) rest
    → Fills n (first ++ rest)
fills_behind None first rest fits full = absurd full
fills_behind (Some n) first rest fits full = omega (arith, fits, full, length-append first rest)

fills_more : (n : Option ℕ) (first rest : List Failure) → Fills n first → Fills n (first ++ rest)
fills_more None first rest full = absurd full
fills_more (Some n) first rest full = omega (arith, full, length-append first rest)

less_behind : (n : Option ℕ) (first rest : List Failure)
    → room_behind rest (room_behind first n) ≡ room_behind (first ++ rest) n
less_behind None first rest = refl
less_behind (Some n) first rest = ap Some (omega (arith, length-append first rest))

-- ---- lists

abbrev collects_nothing : (old all : List Failure) → Collects old old all all
collects_nothing old all = record { so_far = []; is_now = sym (append-nil old); is_all = refl }

-- `rest` of `all` is still to come: what came before it is behind `old`, and left the room `now_room` of `room`
pub record Left (n now_n : Option ℕ) (old now rest all : List Failure) : Type 0 where
  pub collects : Collects old now rest all
  pub fits : Fits n collects.so_far
  pub less : now_n ≡ room_behind collects.so_far n

left_all : (n : Option ℕ) (old all : List Failure) → Left n n old old all all
left_all n old all = record { collects = collects_nothing old all; fits = fits_none n; less = behind_none n }

-- the first part of what was left came
left_less : (n now_n new_n : Option ℕ) (old now new first rest all : List Failure)
    → Left n now_n old now (first ++ rest) all → Leaves now_n now new first (Ok tt) → new_n ≡ room_behind first now_n
    → Left n new_n old new rest all
left_less n now_n new_n old now new first rest all left leaves is =
    let c = left.collects in
    record {
      collects = record {
        so_far = c.so_far ++ first;
        is_now = leaves.0 ∙ ap (λ xs. xs ++ first) c.is_now ∙ append_assoc old c.so_far first;
        is_all = append_assoc c.so_far first rest ∙ c.is_all;
      };
      fits = fits_behind n c.so_far first left.fits (subst (λ m. Fits m first) left.less leaves.1);
      less = is ∙ ap (room_behind first) left.less ∙ less_behind n c.so_far first;
    }

-- what was left came
left_leaves : (n now_n : Option ℕ) (old now new last all : List Failure) (r : Result Unit Stop)
    → Left n now_n old now last all → Leaves now_n now new last r → Leaves n old new all r
left_leaves n now_n old now new last all (Ok u) left leaves =
    let c = left.collects in (
      leaves.0 ∙ ap (λ xs. xs ++ last) c.is_now ∙ append_assoc old c.so_far last ∙ ap (λ xs. old ++ xs) c.is_all,
      subst (λ xs. Fits n xs) c.is_all
          (fits_behind n c.so_far last left.fits (subst (λ m. Fits m last) left.less leaves.1)),
    )
left_leaves n now_n old now new last all (Err Invalid) left leaves =
    let c = left.collects in
    let taken : c.so_far ++ limited now_n last ≡ limited n all =
    ap (λ m. c.so_far ++ limited m last) left.less ∙ sym (limited_behind n c.so_far last left.fits)
    ∙ ap (limited n) c.is_all in (
      leaves.0 ∙ ap (λ xs. xs ++ limited now_n last) c.is_now ∙ append_assoc old c.so_far (limited now_n last)
          ∙ ap (λ xs. old ++ xs) taken,
      subst (λ xs. Fills n xs) c.is_all
          (fills_behind n c.so_far last left.fits (subst (λ m. Fills m last) left.less leaves.1)),
    )
left_leaves n now_n old now new last all (Err (Memory m)) left b =
    let c = left.collects in
    let taken : c.so_far ++ limited now_n last ≡ limited n all =
    ap (λ k. c.so_far ++ limited k last) left.less ∙ sym (limited_behind n c.so_far last left.fits)
    ∙ ap (limited n) c.is_all in
    record {
      rest = b.rest;
      collects = record {
        so_far = c.so_far ++ b.collects.so_far;
        is_now =
            b.collects.is_now ∙ ap (λ xs. xs ++ b.collects.so_far) c.is_now
            ∙ append_assoc old c.so_far b.collects.so_far;
        is_all = append_assoc c.so_far b.collects.so_far b.rest ∙ ap (λ xs. c.so_far ++ xs) b.collects.is_all ∙ taken;
      };
    }

-- and so is the room for what is behind it
left_room : (n now_n new_n : Option ℕ) (old now last all : List Failure) (r : Result Unit Stop)
    → Left n now_n old now last all → OnOk r (new_n ≡ room_behind last now_n) → OnOk r (new_n ≡ room_behind all n)
left_room n now_n new_n old now last all (Ok u) left is =
    let c = left.collects in
    is ∙ ap (room_behind last) left.less ∙ less_behind n c.so_far last ∙ ap (λ xs. room_behind xs n) c.is_all
left_room n now_n new_n old now last all (Err x) left is = tt

-- what stops in a first part stops in the whole
leaves_more : (n : Option ℕ) (now new first rest : List Failure) (x : Stop) → Leaves n now new first (Err x)
    → Leaves n now new (first ++ rest) (Err x)
leaves_more n now new first rest Invalid b =
    (b.0 ∙ ap (λ xs. now ++ xs) (sym (limited_full n first rest b.1)), fills_more n first rest b.1)
leaves_more n now new first rest (Memory m) b =
    let more = limited_more n first rest in
    record {
      rest = b.rest ++ more.0;
      collects = record {
        so_far = b.collects.so_far;
        is_now = b.collects.is_now;
        is_all =
            sym (append_assoc b.collects.so_far b.rest more.0) ∙ ap (λ xs. xs ++ more.0) b.collects.is_all ∙ sym more.1;
      };
    }

leaves_memory : (n : Option ℕ) (old all : List Failure) (e : AllocError) → Leaves n old old all (Err (Memory e))
leaves_memory n old all e = record { rest = limited n all; collects = collects_nothing old (limited n all) }

-- ---- reports

-- `rest` of `all` is still to be reported
pub record Reported {F Node Number Key : Type 0} (tree : Node → Tree) (old now : Report F Node Number Key)
    (rest all : List Failure) : Type 0 where
  pub same : keeps_list now ≡ keeps_list old
  pub left : Left (room old) (room now) (found tree old) (found tree now) rest all

module _ {F Node Number Key : Type 0} (tree : Node → Tree) where
  pub reported_nothing : (old : Report F Node Number Key) (all : List Failure) → Reported tree old old all all
  reported_nothing old all = record { same = refl; left = left_all (room old) (found tree old) all }

  -- there was nothing to report
  pub reports_none : (old : Report F Node Number Key) (all : List Failure) → all ≡ [] → Reports tree old old all (Ok tt)
  reports_none old all none = subst (λ fs. Reports tree old old fs (Ok tt)) (sym none)
      (record {
        same =
            refl;
        leaves = (sym (append-nil (found tree old)), fits_none (room old));
        less = behind_none (room old);
      })

  -- memory ran out, and nothing changed
  pub reports_memory : (old : Report F Node Number Key) (all : List Failure) (r : Result Unit Stop) (e : AllocError)
      → IsErrAnd r (λ y. y ≡ Memory e) → Reports tree old old all r
  reports_memory old all (Ok u) e is = absurd is
  reports_memory old all (Err y) e is = record {
    same = refl;
    leaves =
        subst (λ z. Leaves (room old) (found tree old) (found tree old) all (Err z)) (sym is)
        (leaves_memory (room old) (found tree old) all e);
    less = tt;
  }

  -- memory ran out as a list of errors was to grow
  pub reports_full : (old now : ErrorList F Node Number Key) (all : List Failure)
      (r : Result Unit Stop) (e : AllocError)
      → now.errors.items ≡ old.errors.items → IsErrAnd r (λ y. y ≡ Memory e)
      → Reports tree (Listed old) (Listed now) all r
  reports_full old now all (Ok u) e same is = absurd is
  reports_full old now all (Err y) e same is =
      let b = reports_memory (Listed old) all (Err y) e is in
      record {
        same =
            refl;
        leaves =
            subst (λ fs. Leaves old.room (failures_of tree old.errors.items) fs all (Err y))
            (ap (failures_of tree) (sym same)) b.leaves;
        less = tt;
      }

  fits_first : (now : Report F Node Number Key) (fs : List Failure) → keeps_list now ≡ false → Fits (room now) fs
      → fs ≡ []
  fits_first (First None) fs first fits = nil_from_length fs (omega (arith, fits))
  fits_first (First (Some e)) fs first fits = nil_from_length fs (omega (arith, fits))
  fits_first (Listed es) fs first fits = cc

  -- where the first failure alone is wanted and was not found, there is none
  pub none_found : {now new : Report F Node Number Key} (fs : List Failure) → Reports tree now new fs (Ok tt)
      → keeps_list now ≡ false → fs ≡ []
  none_found {now} {new} fs b first = fits_first now fs first b.leaves.1

  -- what stops in a first part stops in the whole, and so does what passes it on
  pub reports_begun : {now new : Report F Node Number Key} (first rest : List Failure) (r : Result Unit Stop) (x : Stop)
      → IsErrAnd r (λ y. y ≡ x) → Reports tree now new first (Err x) → Reports tree now new (first ++ rest) r
  reports_begun first rest (Ok u) x is begun = absurd is
  reports_begun {now} {new} first rest (Err y) x is begun = record {
    same = begun.same;
    leaves =
        subst (λ z. Leaves (room now) (found tree now) (found tree new) (first ++ rest) (Err z)) (sym is)
        (leaves_more (room now) (found tree now) (found tree new) first rest x begun.leaves);
    less = tt;
  }

  module _ {old now new : Report F Node Number Key} {all : List Failure} where
    -- the first part of what was left was reported, and more is wanted
    pub reported_more : (first rest : List Failure) → Reported tree old now (first ++ rest) all
        → Reports tree now new first (Ok tt) → Reported tree old new rest all
    reported_more first rest a b = record {
      same = b.same ∙ a.same;
      left =
          left_less (room old) (room now) (room new) (found tree old) (found tree now) (found tree new) first rest all
          a.left b.leaves b.less;
    }

    -- what was left is reported
    pub reported_last : (last : List Failure) (r : Result Unit Stop) → Reported tree old now last all
        → Reports tree now new last r → Reports tree old new all r
    reported_last last r a b = record {
      same = b.same ∙ a.same;
      leaves =
          left_leaves (room old) (room now) (found tree old) (found tree now)
          (found tree new) last all r a.left b.leaves;
      less = left_room (room old) (room now) (room new) (found tree old) (found tree now) last all r a.left b.less;
    }

    -- the first part of what was left stopped
    pub reported_stopped : (first rest : List Failure) (r : Result Unit Stop) (x : Stop)
        → Reported tree old now (first ++ rest) all → IsErrAnd r (λ y. y ≡ x) → Reports tree now new first (Err x)
        → Reports tree old new all r
    reported_stopped first rest r x a is b = reported_last (first ++ rest) r a (reports_begun first rest r x is b)

  -- nothing is left to report
  pub reported_all : {old now : Report F Node Number Key} {rest all : List Failure} → Reported tree old now rest all
      → rest ≡ [] → Reports tree old now all (Ok tt)
  reported_all {old} {now} {rest} {all} r e = reported_last rest (Ok tt) r (reports_none now rest e)

  -- one part behind another
  pub reports_behind : {old now new : Report F Node Number Key} (first second : List Failure) (r : Result Unit Stop)
      → Reports tree old now first (Ok tt) → Reports tree now new second r → Reports tree old new (first ++ second) r
  reports_behind {old} first second r before behind =
      reported_last second r (reported_more first second (reported_nothing old (first ++ second)) before) behind

-- the list into which the errors of a report went
pub appends_reported : {F Node Number Key : Type 0} (tree : Node → Tree) (old now : Report F Node Number Key)
    {n : Option ℕ} {before after fs : List Failure} {r : Result Unit Stop} (answer : Result Unit AllocError)
    → room old ≡ n → found tree old ≡ before → after ≡ found tree now → Reports tree old now fs r
    → ((m : Option ℕ) (o w gs : List Failure) → Leaves m o w gs r → AppendsFailures o w (limited m gs) answer)
    → AppendsFailures before after (limited n fs) answer
appends_reported tree old now {n} {before} {after} {fs} {r} answer wants is list reported appended =
    appended n before after fs
    (subst (λ w. Leaves n before w fs r) (sym list)
    (subst (λ o. Leaves n o (found tree now) fs r) is
    (subst (λ m. Leaves m (found tree old) (found tree now) fs r) wants reported.leaves)))
