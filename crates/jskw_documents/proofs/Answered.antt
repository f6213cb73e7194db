-- The answers to files, one by one.
use Rattle.std.proofs.Common.{◌≡◌, ℕ, List, [], ◌∷◌, ◌++◌, Bool, true, false, Option, Some, None, Result, Ok, Err, IfOk}
use Rattle.std.proofs.Common.{◌⊎◌, ◌∙◌, ap, refl, sym, subst, inl, inr}
use Rattle.std.specs.Prelude.{codes}
use Rattle.std.proofs.lemmas.List.{append-nil, append_assoc}
use Rattle.std.specs.Io.KnownBytes.{Appends, Consumes, IsAtEnd}
use Rattle.std.proofs.KnownBytes.{Appends-nil, Appends-trans}
use Rattle.jskw_service.specs.declared.service.Verdict.{Verdict}
use Rattle.jskw_service.specs.declared.service.Verdict.TheVariants.{Valid, Invalid, Refused}
use Rattle.json.specs.Print.{escape_byte}
use Rattle.jskw_documents.specs.Devices.{AnswersDocument, LosesDocument}
use Rattle.jskw_documents.specs.Files.{AnswersFile, AnswersFiles, AnswersPart, AnswersWhole, BeginsWithBytes}
use Rattle.jskw_documents.specs.Files.{HasBytes, IsUnread}
use Rattle.jskw_documents.specs.Shown.{lost_text, memory_words, name_words}
use Rattle.jskw_documents.specs.Streams.{worse_of}
use Rattle.jskw_documents.specs.declared.checker.Checker.{Checker}
use Rattle.jskw_documents.specs.declared.options.Output.{Output}
use Rattle.jskw_documents.specs.declared.options.Output.TheVariants.{Text, Basic, Quiet}

-- what was written goes from v to w, by a text of this kind
abbrev pub Writes : (List ℕ → Type 0) → Option (List ℕ) → Option (List ℕ) → Type 0
Writes Is v w = (text : List ℕ) × Is text × Appends v w text

-- ---- a file that is one document

consumed : (r s : Option (List ℕ)) (bytes : List ℕ) → Consumes r s bytes → IsAtEnd s → HasBytes r bytes
consumed None s bytes read end = tt
consumed (Some xs) None bytes read end = absurd read
consumed (Some xs) (Some ys) bytes read end = read ∙ ap (λ z. bytes ++ z) end ∙ append-nil bytes

some_bytes : (r : Option (List ℕ)) → (bytes : List ℕ) × HasBytes r bytes
some_bytes None = ([], tt)
some_bytes (Some xs) = (xs, refl)

whole_file : (said : Verdict) (c : Checker) (file : List ℕ) (r s v w : Option (List ℕ))
    → AnswersDocument c file said r s v w ⊎ LosesDocument c file said v w
    → Writes (AnswersWhole c false file r said) v w
whole_file said c file r s v w (inl a) = (
  a.text,
  record { bytes = a.bytes; has = consumed r s a.bytes a.read a.whole; answer = inl (a.answer, a.says) },
  a.wrote,
)
whole_file said c file r s v w (inr a) =
    let all = some_bytes r in (
      lost_text c.options.output file None,
      record { bytes = all.0; has = all.1; answer = inr (refl, a.says) },
      a.wrote,
    )

-- it was answered, or memory ran out for it
pub whole_document : {E : Type 0} (made : Result Verdict E) (c : Checker) (lines : Bool) (file : List ℕ)
    (r s v w : Option (List ℕ)) → lines ≡ false
    → IfOk made (λ said. AnswersDocument c file said r s v w ⊎ LosesDocument c file said v w)
    → IfOk made (λ said. Writes (AnswersWhole c lines file r said) v w)
whole_document (Ok said) c lines file r s v w one a =
    subst (λ z. Writes (AnswersWhole c z file r said) v w) (sym one) (whole_file said c file r s v w a)
whole_document (Err e) c lines file r s v w one a = tt

-- ---- a file

nothing_begins : (r : Option (List ℕ)) → BeginsWithBytes r []
nothing_begins None = tt
nothing_begins (Some xs) = (xs, refl)

nothing_read : (c : Checker) (lines : Bool) (file : List ℕ) (r : Option (List ℕ)) → AnswersPart c lines file r []
nothing_read c true file r = record { bytes = []; begins = nothing_begins r; answer = (Valid, (refl, refl)) }
nothing_read c false file r = record { bytes = []; begins = nothing_begins r; answer = refl }

-- nothing was written
pub nothing_written : (c : Checker) (lines : Bool) (file : List ℕ) (r v w : Option (List ℕ)) → w ≡ v
    → Writes (AnswersPart c lines file r) v w
nothing_written c lines file r v w same =
    ([], nothing_read c lines file r, subst (λ z. Appends v z []) (sym same) (Appends-nil v))

-- a refusal was written
abbrev pub Refuses : Checker → List ℕ → Option (List ℕ) → Option (List ℕ) → Verdict → Type 0
Refuses c file v w said =
    (text : List ℕ) × (said ≡ Refused) × IsUnread c.options.output file text × Appends v w text

-- behind a part that was read
pub refuses_behind : {E : Type 0} (made : Result Verdict E) (c : Checker) (lines : Bool) (file : List ℕ)
    (r v w x : Option (List ℕ)) → Writes (AnswersPart c lines file r) v w → IfOk made (Refuses c file w x)
    → IfOk made (λ said. Writes (AnswersFile c lines file r said) v x)
refuses_behind (Ok said) c lines file r v w x part a = (
  part.0 ++ a.0,
  inr (record {
    begun = part.0;
    refusal = a.0;
    part = part.1;
    unread = a.2;
    writes = refl;
    says = a.1;
  }),
  Appends-trans v w x part.0 a.0 part.2 a.3,
)
refuses_behind (Err e) c lines file r v w x part a = tt

-- a file that was not opened
pub refuses_unopened : {E : Type 0} (made : Result Verdict E) (c : Checker) (lines : Bool) (file : List ℕ)
    (r v w : Option (List ℕ)) → IfOk made (Refuses c file v w)
    → IfOk made (λ said. Writes (AnswersFile c lines file r said) v w)
refuses_unopened made c lines file r v w a =
    refuses_behind made c lines file r v v w (nothing_written c lines file r v v refl) a

-- that memory ran out is a reason
pub lost_unread : (output : Output) (file : List ℕ) → IsUnread output file (lost_text output file None)
unfolding escape_byte
lost_unread Basic file =
    (codes "memory ran out", ap (λ z. z ++ memory_words Basic) (sym (append-nil (name_words Basic file))))
lost_unread Text file =
    (codes "refused: memory ran out", ap (λ z. z ++ memory_words Text) (sym (append-nil (name_words Text file))))
lost_unread Quiet file =
    (codes "refused: memory ran out", ap (λ z. z ++ memory_words Quiet) (sym (append-nil (name_words Quiet file))))

-- ---- files

worse_none : (v : Verdict) → v ≡ worse_of Valid v
worse_none Valid = refl
worse_none Invalid = refl
worse_none Refused = refl

none_worse : (v : Verdict) → worse_of v Valid ≡ v
none_worse Valid = refl
none_worse Invalid = refl
none_worse Refused = refl

worse_assoc : (u v w : Verdict) → worse_of u (worse_of v w) ≡ worse_of (worse_of u v) w
worse_assoc Refused v w = refl
worse_assoc Invalid Refused w = refl
worse_assoc Invalid Invalid Refused = refl
worse_assoc Invalid Invalid Invalid = refl
worse_assoc Invalid Invalid Valid = refl
worse_assoc Invalid Valid Refused = refl
worse_assoc Invalid Valid Invalid = refl
worse_assoc Invalid Valid Valid = refl
worse_assoc Valid Refused w = refl
worse_assoc Valid Invalid Refused = refl
worse_assoc Valid Invalid Invalid = refl
worse_assoc Valid Invalid Valid = refl
worse_assoc Valid Valid Refused = refl
worse_assoc Valid Valid Invalid = refl
worse_assoc Valid Valid Valid = refl

-- what was written went from v to w, and answers all files with whatever answers those that are left; this is the
-- worst verdict so far
abbrev pub AnswersSoFar : Checker → Bool → (List ℕ → Option (List ℕ)) → List (List ℕ) → List (List ℕ) → Verdict
    → Option (List ℕ) → Option (List ℕ) → Type 0
AnswersSoFar c lines bytes_of all left verdict v w =
    Writes
    (λ text. (said : Verdict) (rest : List ℕ) → AnswersFiles c lines bytes_of left said rest
    → AnswersFiles c lines bytes_of all (worse_of verdict said) (text ++ rest)) v w

pub none_answered : (c : Checker) (lines : Bool) (bytes_of : List ℕ → Option (List ℕ)) (all : List (List ℕ))
    (v : Option (List ℕ)) → AnswersSoFar c lines bytes_of all all Valid v v
none_answered c lines bytes_of all v =
    ([], λ said rest a. subst (λ z. AnswersFiles c lines bytes_of all z rest) (worse_none said) a, Appends-nil v)

pub next_answered : (c : Checker) (lines : Bool) (bytes_of : List ℕ → Option (List ℕ)) (all left fs : List (List ℕ))
    (f : List ℕ) (verdict one : Verdict) (v w x : Option (List ℕ)) → left ≡ f ∷ fs
    → AnswersSoFar c lines bytes_of all left verdict v w → Writes (AnswersFile c lines f (bytes_of f) one) w x
    → AnswersSoFar c lines bytes_of all fs (worse_of verdict one) v x
next_answered c lines bytes_of all left fs f verdict one v w x here so_far a = (
  so_far.0 ++ a.0,
  λ said rest more.
      let both : AnswersFiles c lines bytes_of left (worse_of one said) (a.0 ++ rest) =
      subst (λ z. AnswersFiles c lines bytes_of z (worse_of one said) (a.0 ++ rest)) (sym here)
      (one, said, a.0, rest, a.1, more, refl, refl) in
      subst (λ z. AnswersFiles c lines bytes_of all z ((so_far.0 ++ a.0) ++ rest)) (worse_assoc verdict one said)
      (subst (AnswersFiles c lines bytes_of all (worse_of verdict (worse_of one said)))
      (sym (append_assoc so_far.0 a.0 rest)) (so_far.1 (worse_of one said) (a.0 ++ rest) both)),
  Appends-trans v w x so_far.0 a.0 so_far.2 a.2,
)

pub all_files_answered : (c : Checker) (lines : Bool) (bytes_of : List ℕ → Option (List ℕ)) (all left : List (List ℕ))
    (verdict : Verdict) (v w : Option (List ℕ)) → left ≡ [] → AnswersSoFar c lines bytes_of all left verdict v w
    → Writes (AnswersFiles c lines bytes_of all verdict) v w
all_files_answered c lines bytes_of all left verdict v w none so_far = (
  so_far.0,
  subst (λ z. AnswersFiles c lines bytes_of all z so_far.0) (none_worse verdict)
      (subst (AnswersFiles c lines bytes_of all (worse_of verdict Valid)) (append-nil so_far.0)
      (so_far.1 Valid []
      (subst (λ z. AnswersFiles c lines bytes_of z Valid []) (sym none) (refl, refl)))),
  so_far.2,
)
