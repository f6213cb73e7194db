-- `of` makes the null pointer, which owns nothing, or takes the box apart.
use Rattle.jskw_c.proofs.Handles.{T, ◌≡◌, List, [], ◌∷◌, ◌++◌, refl, sym, ap, ◌∙◌, lit<, Option, None, Some, option_map}
use Rattle.jskw_c.proofs.Handles.{bare, Val, vstruct, of_list, full_share, SProp, emp, never, id⊢, fst∗, WpFn, sem, ‵}
use Rattle.jskw_c.proofs.Handles.{raw, ◌⊛◌, some, later, prop, at_ret, ◌$◌, ◌∵◌, !, qed, by, move, keep, drop, split}
use Rattle.jskw_c.proofs.Handles.{split3, fsplit, fjoin, fpick, fpack, pick, regoal, use0, use1, await, feq_i, feq_l}
use Rattle.jskw_c.proofs.Handles.{stop, fld, lit, of_opd, no_more, and_then, first, switches_on, exec, returns}
use Rattle.jskw_c.proofs.Handles.{returns_within, enter, alloc_all, pass_all, free_all, look_at, get, get_in, get_tag}
use Rattle.jskw_c.proofs.Handles.{sets, sets_last, lands_as, env, agg, sub, whole, live, vrt, in_variant, fact, fact_i}
use Rattle.jskw_c.proofs.Handles.{tables, yes, Last, left, rest, owns, layout, glues, Ptr, block_ptr, null_ptr, ptr_val}
use Rattle.jskw_c.proofs.Handles.{in_a_block}
use Rattle.jskw_c.proofs.Handles.{types_at, plain, nothing, only, Lasts, lasts, alive, triple_of, calls_at, Stays}
use Rattle.jskw_c.proofs.Handles.{stay_dropped, walk_of, Goes-blank, handle_tells, after, head, arm_body, fm, Global}
use Rattle.jskw_c.proofs.Handles.{passed, proved_at, leaves, and_tt, boxed, R, B, O, X, X-laws, X-drop, X-dropped, A}
use Rattle.jskw_c.proofs.Handles.{Boxed, tokens, word, at_static, chosen, handle_in}
use prog.Wp.{Wp, after_seq, at_return}
use types.Kit.{any_q}
use denote.Builtin.{RawPtr}
use denote.Param.Mute.{blank}
use denote.Struct.Tuple.{Tuple}
use Rattle.std_alloc.specs.contracts.boxed.Box.into_raw_with_allocator as callee
use Rattle.std_alloc.proofs.boxed.Box.into_raw_with_allocator.Met.{met}
use Rattle.jskw_c.specs.contracts.handle.SchemaHandle.of.{ended, clauses}
use Rattle.jskw_c.specs.contracts.handle.SchemaHandle.of.Key.{name as #self}
use Rattle.jskw_c.proofs.handle.SchemaHandle.of.Statement.{statement}
use Rattle.jskw_c.proofs.handle.SchemaHandle.of.Code as code
use Rattle.jskw_c.proofs.Destruct++none.drop.Code as none

gone : (s : O.Denot) (f : Last (O.exit yes) s) → T (blank (left (O.exit yes) s f))
gone None f = tt
gone (Some v) f = tt

pub of_spec : {M : Type 1} → statement M
unfolding none.code
of_spec 𝓤 𝓛 𝓜 𝓡 wired =
    let H = 𝓛.H in let 𝓣 = tables 𝓤 H 𝓜 𝓡 𝓡.env in let c = clauses 𝓛 𝓜.mem 𝓡.returns in let fn = code.function in
    let k =
    triple_of 𝓛 (callee.signature X A.row A.g A.d A.drops X-drop)
    (callee.spec X A.row A.g A.d A.drops X-drop 𝓛 𝓜.mem 𝓡.returns) in
    let Ce = callee.ended X A.row A.g A.d A.drops X-drop in
    let known =
    met 𝓤 𝓛 𝓜 𝓡 (code.calls-std_alloc::boxed::Box::into_raw_with_allocator 𝓡.env wired) X A.row X-laws A.laws A.g
    A.d A.drops X-drop
    (passed 𝓡.env (code.calls-std_heap::GlobalAllocator::allocate 𝓡.env wired)
    (code.calls-std_heap::GlobalAllocator::deallocate 𝓡.env wired)
    (code.calls-std_heap::GlobalAllocator::grow 𝓡.env wired)
    (code.calls-std_heap::GlobalAllocator::shrink 𝓡.env wired) _ 𝓤 𝓛 𝓜 𝓡)
    (glues "jskw_c::Destruct++none::drop" 𝓡.env
    (code.calls-jskw_c::Destruct++none::drop 𝓡.env wired) A.row A.laws _ 𝓤 𝓛 𝓜 𝓡)
    (X-dropped 𝓛 𝓜 𝓡 (code.calls-jskw_c::jskw_c++compiled++CompiledSchema+Destruct::drop 𝓡.env wired)) in
    let hs : Stays ended.signature.params ended.kept = (stay_dropped (plain (λ _. O)) yes, tt) in
    proved_at 𝓛 ended hs c 𝓜 𝓡 (Goes-blank 𝓛 0 (plain (λ _. O)) yes (λ κs. gone), tt) #self fn
    (code.unfolded 𝓤 H 𝓜 𝓡 wired) (λ z are.
    let s = z.0.3.0 in let f = rest (O.exit yes) s in let Post : Val → SProp 𝓤 = (walk_of 𝓛 ended hs c).post z in
    let Value : Option B.Denot → Option R.Denot = option_map (λ v. v.value) in
    qed 𝓛 ((raw (alive 𝓛 ended.signature z.0.0 z.0.1) ⊛ ‵ (owns (types_at ended.signature.params z.0.0) z.0.3 z.0.4))
    ∷ raw ((c z.0.0 z.0.3).requires z.1) ∷ []) ∵ split ! $ move ! (1 ∷ []) $ fsplit ! $ chosen ! s z.0.4.0
    (λ empty ws. regoal ! (λ vs. prop (WpFn 𝓤 H 𝓣.C 𝓣.Λ fn vs Post)) (λ i. ws i ++ []) refl $
    enter ! 𝓣.C 𝓣.Λ fn _ Post $ alloc_all !
    (λ l. pass_all ! refl ((tt, (record { fits = lit< tt }, tt)), tt) $ let Ev = env fn.locals l in
    first ! $ switches_on ! (get_tag ! (vrt ! refl (fld ! refl (stop !))) (whole !)) $ exec ! 𝓣.C 𝓣.Λ Ev
    (arm_body 1 (head fn.body))
    (any_q (after_seq 𝓤 H (Wp 𝓤 H 𝓣.C 𝓣.Λ Ev (after 1 fn.body) (at_return 𝓤 H Ev Post)) (at_return 𝓤 H Ev Post))) $
    sets ! (agg ! (and_then ! (lit ! tt) (no_more !))) refl (tt, (record { fits = lit< tt }, tt)) $
    feq_i ! Ptr null_ptr null_ptr refl $ handle_in ! null_ptr None $ use0 𝓛 (raw (fact 𝓤 (None ≡ Value s)))
    (fact_i 𝓤 (None ≡ Value s) (emp 𝓤) (ap Value (sym empty))) $ nothing ! $ nothing ! $ fjoin ! $
    returns_within ! Post refl (look_at ! 0 refl) $ free_all ! refl $ keep ! (4 ∷ 0 ∷ 2 ∷ 1 ∷ []) $ by !
    (leaves 𝓛 ended hs c z (word null_ptr) (record { at = null_ptr; schema = None }) (f, tt) (tt, tt))))
    (λ v xs full ws. handle_tells Boxed ! v xs (λ w ew good. regoal ! (λ vs. prop (WpFn 𝓤 H 𝓣.C 𝓣.Λ fn vs Post))
    (λ i. (ws ∙ ap (λ (ys : List Val). live 1 (of_list (ys ++ [])) ∷ []) ew) i ++ []) refl $
    enter ! 𝓣.C 𝓣.Λ fn _ Post $ alloc_all !
    (λ l. pass_all ! refl ((and_tt _ good.0, (record { fits = lit< tt }, (good.1, tt))), tt) $
    let Ev = env fn.locals l in
    let y : k.Ghost = ((([], ([], tt)), (full_share, (full_share, tt)), tt, (v, tt), (w ∷ [], tt)), tt) in
    first ! $ switches_on ! (get_tag ! (vrt ! refl (fld ! refl (stop !))) (whole !)) $ exec ! 𝓣.C 𝓣.Λ Ev
    (arm_body 0 (head fn.body))
    (any_q (after_seq 𝓤 H (Wp 𝓤 H 𝓣.C 𝓣.Λ Ev (after 1 fn.body) (at_return 𝓤 H Ev Post)) (at_return 𝓤 H Ev Post))) $
    sets_last ! (of_opd ! (get_in ! (vrt ! refl (fld ! refl (stop !))) (in_variant ! 1 0 refl refl (whole !)))) refl
    good $ exec ! 𝓣.C 𝓣.Λ Ev (after 1 fn.body) (at_ret Ev Post) $ sets ! (of_opd ! (get ! refl)) refl good $
    fjoin ! $ nothing ! $ move ! (1 ∷ 0 ∷ []) $ at_static ! $ use1 𝓛 (raw (k.pre y)) (id⊢ 𝓤 _) $
    calls_at ! (fm 𝓛 𝓜 𝓡) k known y (and_then ! (get ! refl) (no_more !)) (λ u.
    use1 𝓛 (later (some (λ (r : Ptr × A.row.Denot). (tokens ⊛ ‵ ((Tuple (RawPtr ∷ A.row ∷ [])).own_val r (u ∷ []))) ⊛
    some (λ (ls : Lasts Ce y.0.0 y.0.3). ‵ (lasts Ce y.0.0 y.0.3 ls) ⊛
    (raw (fact 𝓤 (r.1 ≡ v.alloc)) ⊛ ‵ (boxed R r.0 v.value v.alloc)))))) (id⊢ 𝓤 (k.post y u)) $
    await ! tt $ pick ! (λ r. split ! $ move ! (1 ∷ []) $ pick ! (λ _. split3 ! $ drop ! $ drop ! $
    in_a_block ! r.0 (λ p. boxed R p v.value v.alloc)
    (fst∗ 𝓤 (never 𝓤) (sem 𝓛 (A.g.dealloc_token v.alloc (bare (layout R)) null_ptr)))
    (λ b o e. let p : Ptr = block_ptr b o in
    move ! (1 ∷ []) $ split ! $ drop ! $ fpick ! (λ vss. fsplit ! $ feq_l !
    (λ eu. fsplit ! $ feq_l ! (λ ep. fsplit ! $ handle_tells A ! r.1 vss.1.0 (λ h eh fits.
    lands_as !
    (ap only (eu ∙ (λ j. vstruct (of_list ((ep ∙ ap (λ (π : Ptr). ptr_val π ∷ []) e) j ++ (eh j ++ []))) ∷ [])))
    refl (and_tt _ fits.0, (tt, (fits.1, tt))) $
    sets ! (of_opd ! (get_in ! (fld ! refl (stop !)) (sub ! 0 refl (whole !)))) refl (tt, tt) $ sets !
    (of_opd ! (get ! refl)) refl (tt, tt) $ sets ! (agg ! (and_then ! (get ! refl) (no_more !))) refl (tt, (tt, tt))
    $
    move ! (2 ∷ []) $ fpack ! Global (boxed R p v.value) v.alloc $ handle_in ! p (Some v.value) $ use0 𝓛
    (raw (fact 𝓤 (Some v.value ≡ Value s))) (fact_i 𝓤 (Some v.value ≡ Value s) (emp 𝓤) (ap Value (sym full))) $
    nothing ! $ nothing ! $ fjoin ! $
    returns ! (look_at ! 0 refl) $ free_all ! refl $ keep ! (5 ∷ 0 ∷ 2 ∷ 1 ∷ []) $ by !
    (leaves 𝓛 ended hs c z (word p) (record { at = p; schema = Some v.value }) (f, tt) (tt, tt))))))))))))))
