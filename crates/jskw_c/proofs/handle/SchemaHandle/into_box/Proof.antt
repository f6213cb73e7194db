-- `into_box` tests the pointer, which is null exactly where nothing is owned, and makes the box again.
use Rattle.jskw_c.proofs.Handles.{◌≡◌, List, [], ◌∷◌, ◌++◌, refl, sym, ap, ◌∙◌, lit<, None, Some, Val, vptr, vcons}
use Rattle.jskw_c.proofs.Handles.{vnil, full_share, SProp, emp, id⊢, WpFn, ‵, raw, ◌⊛◌, some, later, prop, at_ret, ◌$◌}
use Rattle.jskw_c.proofs.Handles.{◌∵◌, !, qed, by, move, keep, drop, split, split3, fsplit, fjoin, fjoin3, pick, regoal}
use Rattle.jskw_c.proofs.Handles.{use0, use1, await, feq_i}
use Rattle.jskw_c.proofs.Handles.{stop, fld, lit, of_opd, bin, no_more, and_then, first, blocks, branches, skips, exec}
use Rattle.jskw_c.proofs.Handles.{returns, returns_within, enter, alloc_all, pass_all, free_all, look_at, get, get_in}
use Rattle.jskw_c.proofs.Handles.{sets, sets_last, lands_as, env, agg, sub, whole, live, fact, fact_i, tables, yes}
use Rattle.jskw_c.proofs.Handles.{owns, glues, Ptr, block_ptr, null_ptr}
use Rattle.jskw_c.proofs.Handles.{types_at, plain, nothing, heard, only, Lasts, lasts, alive, triple_of, calls_at}
use Rattle.jskw_c.proofs.Handles.{Stays, stay_dropped, walk_of, Goes-blank, handle_tells, after, fm, Ptr-Good, passed}
use Rattle.jskw_c.proofs.Handles.{proved_at, leaves, Good, layout, and_tt, Z, B, O, Hd, X, X-laws, A, Boxed, tokens}
use Rattle.jskw_c.proofs.Handles.{word, at_static, either}
use denote.RawPtr.{tests_null}
use denote.Triple.Walked.{Goes-dropped}
use Rattle.core.proofs.option.Made.{Some-of, none_of}
use Rattle.std_alloc.specs.contracts.boxed.Box.from_raw as callee
use Rattle.std_alloc.proofs.boxed.Box.from_raw.Met.{met}
use Rattle.jskw_c.specs.contracts.handle.SchemaHandle.into_box.{ended, clauses}
use Rattle.jskw_c.specs.contracts.handle.SchemaHandle.into_box.Key.{name as #self}
use Rattle.jskw_c.proofs.handle.SchemaHandle.TheLaws.{lowers}
use Rattle.jskw_c.proofs.handle.SchemaHandle.into_box.Statement.{statement}
use Rattle.jskw_c.proofs.handle.SchemaHandle.into_box.Code as code
use Rattle.jskw_c.proofs.Destruct++none.drop.Code as none

pub into_box_spec : {M : Type 1} → statement M
unfolding none.code
into_box_spec 𝓤 𝓛 𝓜 𝓡 wired =
    let H = 𝓛.H in let 𝓣 = tables 𝓤 H 𝓜 𝓡 𝓡.env in let c = clauses 𝓛 𝓜.mem 𝓡.returns in let fn = code.function in
    let k =
    triple_of 𝓛 (callee.signature X A.row A.g A.d A.drops)
    (callee.spec X A.row A.g A.d A.drops 𝓛 𝓜.mem 𝓡.returns) in let Ce = callee.ended X A.row A.g A.d A.drops in
    let known =
    met 𝓤 𝓛 𝓜 𝓡 (code.calls-std_alloc::boxed::Box::from_raw 𝓡.env wired) X A.row X-laws A.laws A.g A.d A.drops
    (passed 𝓡.env (code.calls-std_heap::GlobalAllocator::allocate 𝓡.env wired)
    (code.calls-std_heap::GlobalAllocator::deallocate 𝓡.env wired)
    (code.calls-std_heap::GlobalAllocator::grow 𝓡.env wired)
    (code.calls-std_heap::GlobalAllocator::shrink 𝓡.env wired) _ 𝓤 𝓛 𝓜 𝓡)
    (glues "jskw_c::Destruct++none::drop" 𝓡.env
    (code.calls-jskw_c::Destruct++none::drop 𝓡.env wired) A.row A.laws _ 𝓤 𝓛 𝓜 𝓡) in
    let hs : Stays ended.signature.params ended.kept =
    (stay_dropped (plain (λ _. Hd)) yes, (stay_dropped (plain (λ _. Z)) yes, tt)) in
    proved_at 𝓛 ended hs c 𝓜 𝓡 (
      Goes-blank 𝓛 0 (plain (λ _. Hd)) yes (λ κs x f. tt),
      (Goes-dropped 𝓛 0 (plain (λ _. Z)) yes (λ κs x f. refl), tt),
    ) #self fn (code.unfolded 𝓤 H 𝓜 𝓡 wired) (λ z are.
    let d = z.0.3.0 in let a = z.0.3.1.0 in let Post : Val → SProp 𝓤 = (walk_of 𝓛 ended hs c).post z in
    qed 𝓛 ((raw (alive 𝓛 ended.signature z.0.0 z.0.1) ⊛ ‵ (owns (types_at ended.signature.params z.0.0) z.0.3 z.0.4))
    ∷ raw ((c z.0.0 z.0.3).requires z.1) ∷ []) ∵
    split ! $ move ! (1 ∷ []) $ fsplit ! $ fsplit ! $ drop ! $ move ! (1 ∷ []) $ fsplit ! $ handle_tells A ! a z.0.4.1.0
    (λ h eh fits. move ! (2 ∷ []) $
    either ! d.at d.schema
    (λ is empty. regoal ! (λ vs. prop (WpFn 𝓤 H 𝓣.C 𝓣.Λ fn vs Post))
    (λ i. (lowers.val_is d z.0.4.0 are.0 ∙ ap (λ (p : Ptr). word p ∷ []) is) i ++ (eh i ++ [])) refl $
    enter ! 𝓣.C 𝓣.Λ fn _ Post $ alloc_all ! (λ l. pass_all ! refl ((tt, (record { fits = lit< tt }, tt)), (fits, tt)) $
    sets ! (of_opd ! (get_in ! (fld ! refl (stop !)) (sub ! 0 refl (whole !)))) refl (Ptr-Good null_ptr) $ sets !
    (bin ! (get ! refl) (lit ! tt) tt) refl (tt, tt) $ first ! $ branches ! (get ! refl)
    (λ _. sets ! (agg ! (and_then ! (lit ! tt) (no_more !))) refl (tt, (record { fits = lit< tt }, tt)) $
    use0 𝓛 (raw (fact 𝓤 (None ≡ d.schema))) (fact_i 𝓤 (None ≡ d.schema) (emp 𝓤) (sym empty)) $ use0 𝓛
    (‵ (O.own_val None (live 0 vnil ∷ []))) (none_of 𝓛 B) $ nothing ! $ nothing ! $ fjoin ! $ nothing ! $ fjoin ! $
    returns_within ! Post refl (look_at ! 0 refl) $ free_all ! refl $ keep ! (5 ∷ 0 ∷ 1 ∷ 2 ∷ []) $ by !
    (leaves 𝓛 ended hs c z (live 0 vnil) None (tt, (tt, tt)) (tt, (tt, tt))))
    (λ wrong. absurd wrong)))
    (λ a' b o x is full t. regoal ! (λ vs. prop (WpFn 𝓤 H 𝓣.C 𝓣.Λ fn vs Post))
    (λ i. (lowers.val_is d z.0.4.0 are.0 ∙ ap (λ (p : Ptr). word p ∷ []) is) i ++ (eh i ++ [])) refl $
    enter ! 𝓣.C 𝓣.Λ fn _ Post $ alloc_all ! (λ l. pass_all ! refl ((tt, (tt, tt)), (fits, tt)) $
    let Ev = env fn.locals l in
    let y : k.Ghost = (
      (([], ([], tt)), (full_share, (full_share, tt)), tt, (a, (block_ptr b o, tt)), (h ∷ [], (vptr b o ∷ [], tt))),
      x,
    ) in
    sets ! (of_opd ! (get_in ! (fld ! refl (stop !)) (sub ! 0 refl (whole !)))) refl (tt, tt) $ sets !
    (bin ! (get ! refl) (lit ! tt) (tests_null (block_ptr b o) t)) refl (tt, tt) $
    first ! $ branches ! (get ! refl) (λ wrong. absurd wrong) (λ _. skips ! $ exec ! 𝓣.C 𝓣.Λ Ev (after 3 fn.body)
    (at_ret Ev Post) $ first ! $ blocks ! $ sets ! (of_opd ! (get ! refl)) refl (tt, tt) $
    feq_i ! (List Val) (vptr b o ∷ []) (vptr b o ∷ []) refl $ move ! (2 ∷ 0 ∷ 3 ∷ []) $ fjoin3 ! $ at_static ! $ use1 𝓛
    (raw (k.pre y)) (id⊢ 𝓤 _) $
    calls_at ! (fm 𝓛 𝓜 𝓡) k known y (and_then ! (get ! refl) (and_then ! (get ! refl) (no_more !))) (λ u.
    use1 𝓛 (later (some (λ (r : B.Denot). (tokens ⊛ ‵ (B.own_val r (u ∷ []))) ⊛ some (λ (ls : Lasts Ce y.0.0 y.0.3). ‵
    (lasts Ce y.0.0 y.0.3 ls) ⊛ (raw (fact 𝓤 (r.value ≡ x)) ⊛ raw (fact 𝓤 (r.alloc ≡ a))))))) (id⊢ 𝓤 (k.post y u)) $
    await ! tt $ pick ! (λ r. split ! $ move ! (1 ∷ []) $ pick ! (λ _. split3 ! $ drop ! $ heard ! (r.value ≡ x)
    (λ same. drop ! $ split ! $ drop ! $ handle_tells Boxed ! r (u ∷ []) (λ v eu good.
    let w : Val = live 1 (vcons v vnil) in
    let some_good : Good (layout O) w = (and_tt _ good.0, (record { fits = lit< tt }, (good.1, tt))) in
    lands_as ! (ap only eu) refl good $ sets_last !
    (agg ! (and_then ! (lit ! tt) (and_then ! (get ! refl) (no_more !)))) refl some_good $ exec ! 𝓣.C 𝓣.Λ Ev
    (after 4 fn.body) (at_ret Ev Post) $ sets ! (of_opd ! (get ! refl)) refl some_good $
    use1 𝓛 (‵ (O.own_val (Some r) (w ∷ []))) (Some-of 𝓛 B r v) $ use0 𝓛 (raw (fact 𝓤 (Some r.value ≡ d.schema)))
    (fact_i 𝓤 (Some r.value ≡ d.schema) (emp 𝓤) (ap Some same ∙ sym full)) $ nothing ! $ nothing ! $ fjoin ! $
    nothing ! $ fjoin ! $
    returns ! (look_at ! 0 refl) $ free_all ! refl $ keep ! (3 ∷ 0 ∷ 2 ∷ 1 ∷ []) $ by !
    (leaves 𝓛 ended hs c z w (Some r) (tt, (tt, tt)) (tt, (tt, tt)))))))))))))
