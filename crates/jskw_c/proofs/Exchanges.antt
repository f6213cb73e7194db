-- One step of the machine on the pointer of a handle that is owned: it finds the pointer and leaves another one.
-- Assumes `Logic`.
use Rattle.std.proofs.Common.{ℕ, List, [], ◌∷◌, refl, ap}
use seplogic.Ra.Ura.{Ura}
use mir.Val.{Val}
use base.Fraction.{full_share}
use base.Logic.{SProp, ent, sep, ex, ex_i, upd_i}
use base.Fml.{Fml, fsep, feq, ftrue}
use types.Logic.{Logic, sem}
use types.Kit.{‵, raw, ◌$◌, ◌∵◌, !, qed, by, move, drop, use1, use2, fsplit, fjoin, fpick, feq_i, feq_l}
use types.Kit.{rewrite, suffices, show, frame, assume, done}
use denote.Builtin.{RawPtr}
use denote.Memory.{cell_at, part_at, lone}
use denote.RawPtr.{Ptr, block_ptr, ptr_val}
use denote.Steps.{nothing}
use denote.Struct.Members.{Member}
use denote.Struct.Struct.{Struct-Lawful}
use denote.Written.Laws.{laid_out, Laid-in}
use Rattle.core.specs.Sync.RawAtomic.{Shift, rests, along, if_none}
use Rattle.core.specs.Sync.RawAtomic.Pointer.{cell, asks_ptr, found_ptr}
use Rattle.core.specs.contracts.atomic.ptr.PtrCell as place
use Rattle.core.proofs.atomic.Pointed.{Back, Whole, cell_out, cell_in}
use Rattle.core.proofs.atomic.Pointer.{νP, pointer, One}
use Rattle.core.proofs.cell.Inside.{round, wraps, spread, gather}
use denote.RawPtr.{rawptr_Lawful}
use Rattle.jskw_c.proofs.Handles.{Hd, word, vstruct, of_list, ◌++◌, ◌∙◌}

-- a struct of one pointer, in memory
abbrev whole : Member
whole = record { row = One; ty = lone One.mir }

module _ {M : Type 1} {𝓤 : Ura M} (𝓛 : Logic 𝓤) (b o : ℕ) where
  abbrev pub handle_at : Ptr → Fml
  handle_at p = cell_at full_share Hd.mir (word p ∷ []) b o

  pub cell_of : (p : Ptr) → ent 𝓤 (sem 𝓛 (handle_at p)) (sep 𝓤 (sem 𝓛 (cell b o p)) (Back 𝓛 b o))
  cell_of p =
      qed 𝓛 (‵ (handle_at p) ∷ []) ∵ feq_i ! (List Val) (ptr_val p ∷ []) (ptr_val p ∷ []) refl $
      use1 𝓛 (‵ (One.own_val (p, tt) (round (ptr_val p) ∷ []))) (wraps pointer 𝓛 νP [] p (ptr_val p)) $
      move ! (1 ∷ 0 ∷ []) $
      gather whole ! (p, tt) (round (ptr_val p)) b o $
      use1 𝓛 (raw (Whole 𝓛 b o p))
      (Laid-in One Ptr place.the_row.coded (λ x. (x, tt)) place.the_row.shr_at 𝓛 p b o refl) $
      by ! (cell_out 𝓛 b o p)

  pub cell_back : (p : Ptr) → ent 𝓤 (sep 𝓤 (sem 𝓛 (cell b o p)) (Back 𝓛 b o)) (sem 𝓛 (handle_at p))
  cell_back p =
      qed 𝓛 (‵ (cell b o p) ∷ raw (Back 𝓛 b o) ∷ []) ∵
      use2 𝓛 (‵ (part_at place.the_row full_share p b o)) (cell_in 𝓛 b o p) $
      use1 𝓛 (‵ (part_at One full_share (p, tt) b o))
      (laid_out One Ptr place.the_row.coded (λ x. (x, tt)) place.the_row.shr_at 𝓛 p b o refl) $
      spread whole !
      (Struct-Lawful 𝓛 (record { name = νP; args = []; types = []; fields = RawPtr ∷ [] }) (rawptr_Lawful 𝓛, tt))
      (p, tt) b o (λ v good.
      move ! (1 ∷ []) $ fpick ! (λ vss. fsplit ! $ feq_l ! (λ eu. fsplit ! $ feq_l ! (λ ep. drop !
      $ rewrite ! 0 (λ (vs : List Val). ‵ (cell_at full_share Hd.mir vs b o))
      (eu ∙ ap (λ (us : List Val). vstruct (of_list (us ++ [])) ∷ []) ep) refl $ done !))))

  -- the pointer p is there, and the step leaves another
  pub asks_owned : (p new : Ptr) → ent 𝓤 (sem 𝓛 (cell b o p))
      (asks_ptr 𝓛 (block_ptr b o) (λ _. new) (λ w. fsep (feq Ptr w p) (cell b o new)))
  asks_owned p new =
      let after : Ptr → Fml = λ w. fsep (feq Ptr w p) (cell b o new) in
      let Found : List (ℕ × Fml) → Ptr → SProp 𝓤 = λ L. found_ptr 𝓛 Ptr (λ w. w) (λ _. new) (λ _. ftrue) after L b o in
      let T : SProp 𝓤 = sem 𝓛 (after p) in
      qed 𝓛 (‵ (cell b o p) ∷ []) ∵
      suffices ! _ (ex_i 𝓤 (λ (s : Shift). along 𝓛 s (λ L. ex 𝓤 (Found L)) []) rests) $
      suffices ! _ (upd_i 𝓤 (ex 𝓤 (Found []))) $ show ! (Found []) p $ frame ! $ nothing ! $ frame ! $
      assume ! (‵ (cell b o new)) $ suffices ! _ (ex_i 𝓤 (λ (s : Shift). along 𝓛 s (if_none 𝓛 T) []) rests) $
      suffices ! _ (upd_i 𝓤 T) $ feq_i ! Ptr p p refl $ fjoin ! $ done !
