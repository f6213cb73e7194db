-- What is taken of a stream, and the answers, step by step.
use Rattle.std.proofs.Common.{◌≡◌, ◌<◌, ℕ, suc, ◌+◌, List, [], ◌∷◌, ◌++◌, true, length, Option, refl, sym, ap, ◌∙◌}
use Rattle.std.proofs.Common.{Some, add-zero, arith, length-append, subst, Result, Ok, Err, IfOk, OnOk}
use Rattle.std.proofs.lemmas.List.{append-nil, append_assoc}
use Rattle.std.specs.Io.KnownBytes.{Appends, IsAtEnd}
use Rattle.std.proofs.KnownBytes.{Appends-nil, Appends-trans, Consumes-nil, Consumes-trans}
use Rattle.jskw_service.specs.declared.service.Verdict.{Verdict}
use Rattle.jskw_service.specs.declared.service.Verdict.TheVariants.{Valid}
use Rattle.jskw_documents.specs.Documents.{IsAnswered}
use Rattle.jskw_documents.specs.Streams.{AnswersBegun, AnswersLines, AnswersNext, AreAnswers, IsKept}
use Rattle.jskw_documents.specs.Streams.{Moves, Takes, Told, begun_of, is_in_line, last_line_of, lines_of, worse_of}
use Rattle.jskw_documents.specs.declared.checker.Checker.{Checker}
use Rattle.jskw_documents.specs.declared.lines.Lines.{Lines}
use Rattle.jskw_documents.proofs.Feeds.{begun_append, line_ended, lines_append, more_begun, no_line, none_begun}

-- ---- answers behind others

pub answers_append : (c : Checker) (file : List ℕ) (n : ℕ) (ds es : List (List ℕ)) (t u : List ℕ) (v w x : Verdict)
    → AreAnswers c file n ds t v w → AreAnswers c file (n + length ds) es u w x
    → AreAnswers c file n (ds ++ es) (t ++ u) v x
answers_append c file n [] es t u v w x none more =
    let here = subst (λ m. AreAnswers c file m es u w x) (add-zero n) more in
    let same = subst (λ z. AreAnswers c file n es u z x) none.1 here in
    subst (λ z. AreAnswers c file n es z v x) (ap (λ z. z ++ u) (sym none.0)) same
answers_append c file n (d ∷ ds) es t u v w x some more =
    let same : n + suc (length ds) ≡ suc n + length ds = omega arith in (
      some.0,
      some.1 ++ u,
      some.2,
      ap (λ z. z ++ u) some.3 ∙ append_assoc some.0 some.1 u,
      some.4,
      answers_append c file (suc n) ds es some.1 u (worse_of v some.2) w x some.5
          (subst (λ m. AreAnswers c file m es u w x) same more),
    )

-- ---- what is ready, and what is written

pub told_none : (v : Option (List ℕ)) (x : List ℕ) → Told v x v x []
told_none v x = ([], Appends-nil v, sym (append-nil x))

pub told_then : (v w u : Option (List ℕ)) (x y z t s : List ℕ) → Told v x w y t → Told w y u z s
    → Told v x u z (t ++ s)
told_then v w u x y z t s one two = (
  one.0 ++ two.0,
  Appends-trans v w u one.0 two.0 one.1 two.1,
  append_assoc one.0 two.0 z ∙ ap (λ l. one.0 ++ l) two.2 ∙ sym (append_assoc one.0 y s) ∙ ap (λ l. l ++ s) one.2
      ∙ append_assoc x t s,
)

-- what is ready is written, and the text behind it
pub told_behind : (v w u : Option (List ℕ)) (x y ready t : List ℕ) → ready ≡ x → y ≡ [] → Appends v w ready
    → Appends w u t → Told v x u y t
told_behind v w u x y ready t is none first second = (
  ready ++ t,
  Appends-trans v w u ready t first second,
  ap (λ z. (ready ++ t) ++ z) none ∙ append-nil (ready ++ t) ∙ ap (λ z. z ++ t) is,
)

-- ---- bytes that are taken

pub takes_none : (c : Checker) (file line : List ℕ) (a : Lines) → IsKept a.begun line → Takes c file line a [] [] a
takes_none c file line a kept = record { answers = (refl, refl); next = sym (add-zero a.next); begun = kept }

pub takes_then : (c : Checker) (file line : List ℕ) (a b d : Lines) (xs ys t u : List ℕ)
    → Takes c file line a xs t b → Takes c file (begun_of line xs) b ys u d
    → Takes c file line a (xs ++ ys) (t ++ u) d
takes_then c file line a b d xs ys t u one two =
    let first = lines_of line xs in
    let second = lines_of (begun_of line xs) ys in
    let both : lines_of line (xs ++ ys) ≡ first ++ second = lines_append line xs ys in
    let count : length (first ++ second) ≡ length first + length second = length-append first second in
    let more : AreAnswers c file (a.next + length first) second u b.verdict d.verdict =
    subst (λ n. AreAnswers c file n second u b.verdict d.verdict) one.next two.answers in
    let shorter : a.next + length first + length second ≡ a.next + length (first ++ second) = omega arith in
    record {
      answers =
          subst (λ ds. AreAnswers c file a.next ds (t ++ u) a.verdict d.verdict) (sym both)
          (answers_append c file a.next first second t u a.verdict b.verdict d.verdict one.answers more);
      next =
          two.next ∙ ap (λ n. n + length second) one.next ∙ shorter ∙ ap (λ ds. a.next + length ds) (sym both);
      begun = subst (IsKept d.begun) (sym (begun_append line xs ys)) two.begun;
    }

-- a line that ends
pub takes_line : (c : Checker) (file line : List ℕ) (a e b : Lines) (xs : List ℕ) (v w : Option (List ℕ))
    (x y : List ℕ) → is_in_line xs ≡ true → e.next ≡ a.next → e.verdict ≡ a.verdict → IsKept b.begun []
    → AnswersNext c file (line ++ xs) e b v x w y
    → (t : List ℕ) × Takes c file line a (xs ++ (10 ∷ [])) t b × Told v x w y t
takes_line c file line a e b xs v w x y inside number worst kept made =
    let ends : lines_of line (xs ++ (10 ∷ [])) ≡ (line ++ xs) ∷ [] = line_ended line xs inside in
    let answers : IsAnswered c file (Some a.next) (line ++ xs) made.answer made.said =
    subst (λ n. IsAnswered c file (Some n) (line ++ xs) made.answer made.said) number made.answers in (
      made.answer,
      record {
        answers =
            subst (λ ds. AreAnswers c file a.next ds made.answer a.verdict b.verdict) (sym ends) (
              made.answer,
              [],
              made.said,
              sym (append-nil made.answer),
              answers,
              (refl, made.verdict ∙ ap (λ o. worse_of o made.said) worst),
            );
        next = made.next ∙ ap (λ n. n + 1) number ∙ ap (λ ds. a.next + length ds) (sym ends);
        begun = subst (IsKept b.begun) (sym (none_begun line xs inside)) kept;
      },
      made.told,
    )

-- the same of a call that may fail, of a document that is such
pub ends_line : {E : Type 0} (r : Result Unit E) (Is : List ℕ → Type 0) (c : Checker) (file : List ℕ) (a e b : Lines)
    (xs : List ℕ) (v w : Option (List ℕ)) (x y : List ℕ) → is_in_line xs ≡ true → e.next ≡ a.next
    → e.verdict ≡ a.verdict → ((line : List ℕ) → IsKept a.begun line → IsKept b.begun [] × Is (line ++ xs))
    → OnOk r ((document : List ℕ) → Is document → AnswersNext c file document e b v x w y)
    → OnOk r ((line : List ℕ) → IsKept a.begun line
    → (t : List ℕ) × Takes c file line a (xs ++ (10 ∷ [])) t b × Told v x w y t)
ends_line (Ok u) Is c file a e b xs v w x y inside number worst is made = λ line kept.
    takes_line c file line a e b xs v w x y inside number worst (is line kept).0
    (made (line ++ xs) (is line kept).1)
ends_line (Err f) Is c file a e b xs v w x y inside number worst is made = tt

-- bytes in which no line ends
pub takes_more : (c : Checker) (file line : List ℕ) (a b : Lines) (xs : List ℕ) → is_in_line xs ≡ true
    → b.next ≡ a.next → b.verdict ≡ a.verdict → IsKept b.begun (line ++ xs) → Takes c file line a xs [] b
takes_more c file line a b xs inside next verdict kept =
    let none : lines_of line xs ≡ [] = no_line line xs inside in
    record {
      answers = subst (λ ds. AreAnswers c file a.next ds [] a.verdict b.verdict) (sym none) (refl, verdict);
      next = next ∙ sym (add-zero a.next) ∙ ap (λ ds. a.next + length ds) (sym none);
      begun = subst (IsKept b.begun) (sym (more_begun line xs inside)) kept;
    }

-- ---- the lines of a block, one by one: those that are done, with their answers, and the rest

pub record TakesSome (c : Checker) (file line : List ℕ) (a b : Lines) (block rest : List ℕ) (v w : Option (List ℕ))
    (text : List ℕ) : Type 0 where
  pub done : List ℕ
  pub answers : List ℕ
  pub all : done ++ rest ≡ block
  pub takes : Takes c file line a done answers b
  pub told : Told v [] w text answers

pub none_taken : (c : Checker) (file line : List ℕ) (a : Lines) (block : List ℕ) (v : Option (List ℕ)) (text : List ℕ)
    → text ≡ [] → IsKept a.begun line → TakesSome c file line a a block block v v text
none_taken c file line a block v text none kept = record {
  done = [];
  answers = [];
  all = refl;
  takes = takes_none c file line a kept;
  told = subst (λ z. Told v [] v z []) (sym none) (told_none v []);
}

pub next_end : (c : Checker) (file line : List ℕ) (a b d : Lines) (block rest xs behind : List ℕ)
    (v w u : Option (List ℕ)) (text new : List ℕ) → TakesSome c file line a b block rest v w text
    → rest ≡ xs ++ (10 ∷ behind)
    → ((m : List ℕ) → IsKept b.begun m
    → (t : List ℕ) × Takes c file m b (xs ++ (10 ∷ [])) t d × Told w text u new t)
    → TakesSome c file line a d block behind v u new
next_end c file line a b d block rest xs behind v w u text new some splits ends =
    let ended = xs ++ (10 ∷ []) in
    let more = ends (begun_of line some.done) some.takes.begun in
    record {
      done = some.done ++ ended;
      answers = some.answers ++ more.0;
      all =
          append_assoc some.done ended behind
          ∙ ap (λ z. some.done ++ z) (append_assoc xs (10 ∷ []) behind ∙ sym splits) ∙ some.all;
      takes = takes_then c file line a b d some.done ended some.answers more.0 some.takes more.1;
      told = told_then v w u [] text new some.answers more.0 some.told more.2;
    }

pub block_end : (c : Checker) (file line : List ℕ) (a b d : Lines) (block rest : List ℕ) (v w u : Option (List ℕ))
    (text : List ℕ) → TakesSome c file line a b block rest v w text → is_in_line rest ≡ true → d.next ≡ b.next
    → d.verdict ≡ b.verdict → ((m : List ℕ) → IsKept b.begun m → IsKept d.begun (m ++ rest)) → Appends w u text
    → (t : List ℕ) × Takes c file line a block t d × Appends v u t
block_end c file line a b d block rest v w u text some inside next verdict kept wrote =
    let m = begun_of line some.done in
    let more = takes_more c file m b d rest inside next verdict (kept m some.takes.begun) in
    let all =
    takes_then c file line a b d some.done rest some.answers [] some.takes more in (
      some.answers,
      subst (λ z. Takes c file line a z some.answers d) some.all
          (subst (λ z. Takes c file line a (some.done ++ rest) z d) (append-nil some.answers) all),
      subst (Appends v u) some.told.2 (Appends-trans v w u some.told.0 text some.told.1 wrote),
    )

-- ---- devices

pub moves_none : (c : Checker) (file line : List ℕ) (a : Lines) (r v : Option (List ℕ)) → IsKept a.begun line
    → Moves c file line a a r r v v
moves_none c file line a r v kept = record {
  bytes = [];
  text = [];
  read = Consumes-nil r;
  takes = takes_none c file line a kept;
  wrote = Appends-nil v;
}

pub moves_then : (c : Checker) (file line : List ℕ) (a b d : Lines) (r s p v w x : Option (List ℕ))
    → Moves c file line a b r s v w → ((m : List ℕ) → IsKept b.begun m → Moves c file m b d s p w x)
    → Moves c file line a d r p v x
moves_then c file line a b d r s p v w x one next =
    let two = next (begun_of line one.bytes) one.takes.begun in
    record {
      bytes = one.bytes ++ two.bytes;
      text = one.text ++ two.text;
      read = Consumes-trans r s p one.bytes two.bytes one.read two.read;
      takes = takes_then c file line a b d one.bytes two.bytes one.text two.text one.takes two.takes;
      wrote = Appends-trans v w x one.text two.text one.wrote two.wrote;
    }

-- ---- a whole stream

-- a last line, as if a line feed ended it
pub last_taken : (c : Checker) (file line : List ℕ) (a b : Lines) (t : List ℕ) → 0 < length line
    → Takes c file line a (10 ∷ []) t b → AreAnswers c file a.next (last_line_of line) t a.verdict b.verdict
last_taken c file [] a b t some taken = absurd (omega arith)
last_taken c file (x ∷ xs) a b t some taken = taken.answers

-- no last line
pub none_last : (c : Checker) (file line : List ℕ) (a : Lines) (v : Option (List ℕ)) → line ≡ []
    → (t : List ℕ) × AreAnswers c file a.next (last_line_of line) t a.verdict a.verdict × Appends v v t
none_last c file line a v none = (
  [],
  subst (λ z. AreAnswers c file a.next (last_line_of z) [] a.verdict a.verdict) (sym none) (refl, refl),
  Appends-nil v,
)

pub all_answered : (c : Checker) (file : List ℕ) (said : Verdict) (a b : Lines) (r s v w x : Option (List ℕ))
    → a.next ≡ 1 → a.verdict ≡ Valid → Moves c file [] a b r s v w → IsAtEnd s
    → ((m : List ℕ) → IsKept b.begun m
    → (t : List ℕ) × AreAnswers c file b.next (last_line_of m) t b.verdict said × Appends w x t)
    → AnswersLines c file said r s v x
all_answered c file said a b r s v w x first valid moved end last =
    let whole = lines_of [] moved.bytes in
    let rest = begun_of [] moved.bytes in
    let more = last rest moved.takes.begun in
    let before : AreAnswers c file 1 whole moved.text Valid b.verdict =
    subst (λ n. AreAnswers c file n whole moved.text Valid b.verdict) first
    (subst (λ o. AreAnswers c file a.next whole moved.text o b.verdict) valid moved.takes.answers) in
    let number : b.next ≡ 1 + length whole = moved.takes.next ∙ ap (λ n. n + length whole) first in
    record {
      bytes = moved.bytes;
      text = moved.text ++ more.0;
      read = moved.read;
      whole = end;
      answers =
          answers_append c file 1 whole (last_line_of rest) moved.text more.0 Valid b.verdict said before
          (subst (λ n. AreAnswers c file n (last_line_of rest) more.0 b.verdict said) number more.1);
      wrote = Appends-trans v w x moved.text more.0 moved.wrote more.2;
    }

-- the same of a call that may fail
pub all_answered_if : {E : Type 0} (made : Result Verdict E) (c : Checker) (file : List ℕ) (a b : Lines)
    (r s v w x : Option (List ℕ)) → a.next ≡ 1 → a.verdict ≡ Valid → Moves c file [] a b r s v w → IsAtEnd s
    → IfOk made (λ said. (m : List ℕ) → IsKept b.begun m
    → (t : List ℕ) × AreAnswers c file b.next (last_line_of m) t b.verdict said × Appends w x t)
    → IfOk made (λ said. AnswersLines c file said r s v x)
all_answered_if (Ok said) c file a b r s v w x first valid moved end last =
    all_answered c file said a b r s v w x first valid moved end last
all_answered_if (Err e) c file a b r s v w x first valid moved end last = tt

-- the answers to the lines that were read
pub begun_answered : (c : Checker) (file : List ℕ) (a b : Lines) (r s v w : Option (List ℕ))
    → a.next ≡ 1 → a.verdict ≡ Valid → Moves c file [] a b r s v w → AnswersBegun c file r s v w
begun_answered c file a b r s v w first valid moved =
    let whole = lines_of [] moved.bytes in
    record {
      bytes = moved.bytes;
      text = moved.text;
      worst = b.verdict;
      read = moved.read;
      answers =
          subst (λ n. AreAnswers c file n whole moved.text Valid b.verdict) first
          (subst (λ o. AreAnswers c file a.next whole moved.text o b.verdict) valid moved.takes.answers);
      wrote = moved.wrote;
    }
