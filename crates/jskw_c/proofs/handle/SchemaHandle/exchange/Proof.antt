-- `exchange` opens the place of the handle for one step of the machine, which leaves the new pointer there and finds
-- the old one: what each owns goes with it.
use Rattle.jskw_c.proofs.Handles.{◌≡◌, ℕ, List, [], ◌∷◌, ◌++◌, refl, sym, lit<, Val, vptr, full_share, SProp, emp}
use Rattle.jskw_c.proofs.Handles.{bare, WpFn, ‵, raw, ◌⊛◌, prop, at_ret, ◌$◌, ◌∵◌, !, qed, by, move, keep, drop, split}
use Rattle.jskw_c.proofs.Handles.{fsplit, fjoin, regoal, use0, use1, feq_i, feq_l, stop, fld, lit, of_opd, no_more}
use Rattle.jskw_c.proofs.Handles.{and_then, first, blocks, exec, returns, enter, alloc_all, pass_all, free_all, look_at}
use Rattle.jskw_c.proofs.Handles.{get, get_in, sets, env, agg, sub, whole, fact, fact_i, tables, yes, owns, layout}
use Rattle.jskw_c.proofs.Handles.{types_at, plain, nothing, Stays, stay_dropped, walk_of, Goes-blank, after, fm}
use Rattle.jskw_c.proofs.Handles.{Ptr-Good, proved_at, leaves, Good, Hd, R, word, handle_in, Ptr, block_ptr, null_ptr}
use Rattle.jskw_c.proofs.Handles.{ptr_val, slot_owns, no, RattleType}
use base.Fml.{flft, ftrue, fsep, feq}
use types.Kit.{mean, fsplit3, fjoin3, use2, join, rewrite}
use types.Run.{addr, Calls-last}
use types.ByLocal.{through, lands_last}
use denote.Builtin.{u8}
use denote.Laws.{shows}
use denote.Memory.{cell_at}
use denote.Param.{arg}
use denote.Param.Laws.{Laws, arg_laws, of_field}
use denote.Param.Shared.{copy_shared}
use denote.Steps.{opens, closes, peeks}
use denote.Struct.Field.{u8-field}
use denote.Struct.Laws.{u8-laws, u8-copy}
use denote.Triple.Walked.{stay_ref, Goes-ref}
use Rattle.core.specs.Sync.RawAtomic.Pointer.{cell, asks_ptr}
use Rattle.core.proofs.atomic.Pointed.{Back}
use Rattle.std.proofs.raw_atomic.Calls.{seq_cst}
use Rattle.std.proofs.raw_atomic.PtrCalls.{found, finds, seq_cst_good, swaps}
use Rattle.std.proofs.Common.{◌+◌, add-zero}
use Rattle.jskw_c.proofs.Exchanges.{cell_of, cell_back, asks_owned}
use Rattle.jskw_c.specs.contracts.handle.SchemaHandle.exchange.{ended, clauses}
use Rattle.jskw_c.specs.contracts.handle.SchemaHandle.exchange.Key.{name as #self}
use Rattle.jskw_c.proofs.handle.SchemaHandle.TheLaws.{lowers}
use Rattle.jskw_c.proofs.handle.SchemaHandle.exchange.Statement.{statement}
use Rattle.jskw_c.proofs.handle.SchemaHandle.exchange.Code as code

-- the type behind the pointer
abbrev Y : RattleType
Y = arg (bare (layout u8)) no u8

abbrev Y-laws : Laws Y
Y-laws = arg_laws (bare (layout u8)) no u8 (of_field u8-field u8-laws refl (copy_shared u8-field u8-copy)) refl

word_good : (p : Ptr) → Good (layout Hd) (word p)
word_good (block_ptr b o) = (tt, (tt, tt))
word_good null_ptr = (tt, (record { fits = lit< tt }, tt))

pub exchange_spec : {M : Type 1} → statement M
exchange_spec 𝓤 𝓛 𝓜 𝓡 wired =
    let H = 𝓛.H in let 𝓣 = tables 𝓤 H 𝓜 𝓡 𝓡.env in let c = clauses 𝓛 𝓜.mem 𝓡.returns in let fn = code.function in
    let hs : Stays ended.signature.params ended.kept =
    (stay_ref (0 ∷ []) tt (plain (λ _. Hd)), (stay_dropped (plain (λ _. Hd)) yes, tt)) in
    proved_at 𝓛 ended hs c 𝓜 𝓡 (
      Goes-ref 𝓛 1 0 tt (plain (λ _. Hd)),
      (Goes-blank 𝓛 1 (plain (λ _. Hd)) yes (λ κs x f. tt), tt),
    ) #self fn (code.unfolded 𝓤 H 𝓜 𝓡 wired) (λ z are.
    let κ = z.0.0.0 in let q = z.0.1.0 in let r = z.0.3.0 in let b = r.ref_ptr.0 in let o = r.ref_ptr.1 in
    let h = r.now in let d = z.0.3.1.0 in let Post : Val → SProp 𝓤 = (walk_of 𝓛 ended hs c).post z in
    let left = λ (p : Ptr). fsep (feq Ptr p h.at) (cell b o d.at) in
    qed 𝓛 (((‵ (flft κ q) ⊛ ‵ ftrue) ⊛ ‵ (owns (types_at ended.signature.params z.0.0) z.0.3 z.0.4))
    ∷ raw ((c z.0.0 z.0.3).requires z.1) ∷ []) ∵
    split ! $ split ! $ move ! (2 ∷ []) $ fsplit ! $ fsplit3 ! $ drop ! $ move ! (2 ∷ []) $ fsplit ! $
    keep ! (0 ∷ 2 ∷ 3 ∷ 4 ∷ []) $ fsplit ! $ drop ! $
    -- [what the new handle owns; two parts of self; the token]
    regoal ! (λ vs. prop (WpFn 𝓤 H 𝓣.C 𝓣.Λ fn vs Post))
    (λ i. are.0.0 i ++ (lowers.val_is d z.0.4.1.0 are.1.0 i ++ [])) refl $
    enter ! 𝓣.C 𝓣.Λ fn _ Post $ alloc_all ! (λ l. pass_all ! refl ((tt, tt), (word_good d.at, tt)) $
    let Ev = env fn.locals l in
    move ! (1 ∷ 2 ∷ 3 ∷ []) $ opens ! tt Hd b o (λ us.
    move ! (1 ∷ []) $ peeks ! Hd _ (shows 𝓛 Hd) h us (λ is. fsplit ! $
    drop ! $ move ! (1 ∷ []) $
    rewrite ! 0 (λ (ws : List Val). ‵ (cell_at full_share Hd.mir ws b o)) (lowers.val_is h us is) refl $
    use1 𝓛 (‵ (cell b o h.at) ⊛ raw (Back 𝓛 b o)) (cell_of 𝓛 b o h.at) $ split ! $
    -- [the pointer in memory; the struct's way back; what the old handle owns; the open borrow; what the new one owns]
    use1 𝓛 (raw (asks_ptr 𝓛 (block_ptr b o) (λ _. d.at) left)) (asks_owned 𝓛 b o h.at d.at) $
    rewrite ! 0 (λ (n : ℕ). raw (asks_ptr 𝓛 (block_ptr b n) (λ _. d.at) left)) (sym (add-zero o)) refl $
    use1 𝓛 (raw (𝓣.C _ (vptr b (o + 0) ∷ ptr_val d.at ∷ seq_cst ∷ []) (λ u. mean 𝓛 (found 𝓛 left u))))
    (swaps 𝓛 𝓜 𝓡 (code.calls-core::raw_atomic::ptr::swap 𝓡.env wired) Y Y-laws (block_ptr b (o + 0)) d.at left) $
    sets ! (of_opd ! (get_in ! (fld ! refl (stop !)) (sub ! 0 refl (whole !)))) refl (Ptr-Good d.at) $
    sets ! (addr ! (through ! refl (fld ! refl (stop !)))) refl (tt, tt) $ first ! $ blocks ! $
    sets ! (agg ! (and_then ! (lit ! tt) (no_more !))) refl seq_cst_good $
    Calls-last ! (fm 𝓛 𝓜 𝓡) (found 𝓛 left)
    (and_then ! (get ! refl) (and_then ! (get ! refl) (and_then ! (get ! refl) (no_more !)))) (λ u. finds ! left (λ p.
    lands_last ! refl (Ptr-Good p) $ exec ! 𝓣.C 𝓣.Λ Ev (after 3 fn.body) (at_ret Ev Post) $
    sets ! (of_opd ! (get ! refl)) refl (Ptr-Good p) $
    sets ! (agg ! (and_then ! (get ! refl) (no_more !))) refl (word_good p) $ fsplit ! $ feq_l ! (λ same.
    use2 𝓛 (‵ (cell_at full_share Hd.mir (word d.at ∷ []) b o)) (cell_back 𝓛 b o d.at) $
    -- [the handle's place; what the old handle owns; the open borrow, in three; what the new handle owns]
    move ! (5 ∷ []) $ handle_in ! d.at d.schema $ move ! (1 ∷ 0 ∷ 3 ∷ 4 ∷ 5 ∷ 2 ∷ []) $
    closes ! tt Hd (record { at = d.at; schema = d.schema }) (word d.at ∷ []) b o $
    -- [two parts of self; the token; what the old handle owns]
    move ! (3 ∷ []) $ rewrite ! 0 (λ (w : Ptr). ‵ (slot_owns R w h.schema)) (sym same) refl $ handle_in ! p h.schema $
    returns ! (look_at ! 0 refl) $ free_all ! refl $ move ! (3 ∷ []) $
    -- [the token; the result; two parts of self]
    nothing ! $ move ! (1 ∷ 0 ∷ []) $ join ! $ move ! (2 ∷ 3 ∷ []) $
    feq_i ! (List Val) z.0.4.0 (vptr b o ∷ []) are.0.0 $
    fjoin3 ! $ nothing ! $ nothing ! $ fjoin ! $ move ! (1 ∷ 0 ∷ []) $ fjoin ! $
    use0 𝓛 (raw (fact 𝓤 (d.schema ≡ d.schema))) (fact_i 𝓤 (d.schema ≡ d.schema) (emp 𝓤) refl) $
    use0 𝓛 (raw (fact 𝓤 (h.schema ≡ h.schema))) (fact_i 𝓤 (h.schema ≡ h.schema) (emp 𝓤) refl) $ join ! $
    keep ! (2 ∷ 1 ∷ 3 ∷ 0 ∷ []) $ by ! (leaves 𝓛 ended hs c z (word p) (record { at = p; schema = h.schema })
    (record { at = d.at; schema = d.schema }, (tt, tt)) (tt, (tt, tt))))))))))
