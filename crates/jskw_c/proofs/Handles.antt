-- What the two proofs by hand of `SchemaHandle` share: the rows of their types, what a call with boxes asks, and the
-- machine values of a handle and of an option. Assumes `Logic`.
pub use Rattle.std.proofs.Common.{T, ◌≡◌, ℕ, List, [], ◌∷◌, ◌++◌, refl, sym, ap, ◌∙◌, lit<}
pub use Rattle.std.specs.Prelude.{Option, None, Some, option_map}
pub use mir.Raw.{raw as bare}
pub use mir.Val.{Val, vptr, vstruct, vcons, vnil, of_list}
pub use base.Fraction.{full_share}
pub use base.Logic.{SProp, emp, never, id⊢, fst∗}
pub use prog.Wp.{WpFn}
pub use types.Logic.{sem}
pub use types.Kit.{‵, raw, ◌⊛◌, some, later, prop, at_ret, ◌$◌, ◌∵◌, !, qed, by, move, keep, drop, split, split3}
pub use types.Kit.{fsplit, fjoin, fjoin3, fpick, fpack, pick, regoal, use0, use1, await, feq_i, feq_l}
pub use types.Run.{stop, fld, lit, of_opd, bin, no_more, and_then, first, blocks, branches, skips, switches_on, exec}
pub use types.Run.{returns, returns_within, enter}
pub use types.ByLocal.{alloc_all, pass_all, free_all, look_at, get, get_in, get_tag, sets, sets_last, lands_as, env}
pub use types.Part.{agg, sub, whole}
pub use types.Match.{live, vrt, in_variant}
pub use contract.Monad.{fact, fact_i}
pub use contract.Running.{tables}
pub use denote.Exit.{yes, no, Last, left, rest}
pub use denote.RattleType.{RattleType, owns}
pub use denote.Param.{layout, arg}
pub use denote.Param.NoDrop.{glues}
pub use denote.RawPtr.{Ptr, block_ptr, null_ptr, ptr_val, in_a_block, Testable}
pub use denote.Signature.{types_at, plain}
pub use denote.Steps.{nothing, heard, only}
pub use denote.Triple.Clauses.{Lasts, lasts}
pub use denote.Triple.Entry.{alive}
pub use denote.Triple.Spec.{triple_of}
pub use denote.Triple.Call.{calls_at}
pub use denote.Triple.Walked.{Stays, stay_dropped, walk_of}
pub use Rattle.core.proofs.alloc.Calls.{Al, Goes-blank, handle_tells}
pub use Rattle.core.proofs.alloc.Shapes.{after, head, arm_body}
pub use Rattle.core.proofs.atomic.Steps.{fm, Ptr-Good}
pub use Rattle.core.proofs.cell.Inside.{Good}
pub use Rattle.std.specs.declared.alloc.Global.{Global}
pub use Rattle.std.specs.contracts.impls.GlobalAllocator.TheImpl.{ghosts, dict}
pub use Rattle.std.proofs.impls.GlobalAllocator.TheImpl.Met.{passed}
pub use Rattle.std.proofs.raw_atomic.Walks.{proved_at, leaves}
pub use Rattle.std_alloc.proofs.ResultValues.{and_tt}
pub use Rattle.jskw_c.specs.Slot.{boxed, slot_owns}
use seplogic.Ra.Ura.{Ura}
use mir.Syntax.{Callee, Dict, impl, method, no_args, tnil, tcons, dnil}
use base.Logic.{sep, emp∗, guard_i, via, snd∗}
use base.Fml.{fsep, ftrue, flft}
use prog.Model.{Model}
use prog.Wired.{Wired}
use types.Logic.{Logic}
use types.Kit.{Item, Goal, Seq, Step, step, given, show, join, learn, done}
use contract.BorrowLft.{◌⊑◌, ⊑_static}
use contract.Monad.{fact_use}
use contract.Running.{Running}
use denote.RattleType.{Valss}
use denote.Builtin.{RawPtr}
use denote.Memory.{lone}
use denote.Param.Glue.{Met, signature}
use denote.Param.Laws.{Laws, arg_laws}
use denote.RawPtr.{lies_at}
use denote.Struct.Struct.{within}
use denote.Struct.Owning.{shape}
use denote.Triple.Carry.{grown, spared, beside}
use denote.Triple.Spec.{Spec, exits}
use denote.Triple.Table.{widened, run_framed}
use Rattle.core.specs.contracts.option.Option as option
use Rattle.std.specs.contracts.alloc.Global as heap
use Rattle.std.proofs.alloc.Global.TheLaws as heap_laws
use Rattle.std.proofs.GlobalToken.{dealloc_token-Testable}
use Rattle.std_alloc.specs.contracts.boxed.Box as box
use Rattle.std_alloc.proofs.boxed.Box.TheLaws as box_laws
use Rattle.jskw_c.specs.contracts.compiled.CompiledSchema as compiled
use Rattle.jskw_c.specs.contracts.handle.SchemaHandle as handle
use Rattle.jskw_c.specs.contracts.jskw_c++compiled++CompiledSchema+Destruct.drop as drops
use Rattle.jskw_c.proofs.compiled.CompiledSchema.TheLaws as compiled_laws
use Rattle.jskw_c.proofs.jskw_c++compiled++CompiledSchema+Destruct.drop.Symbol as dropped
use Rattle.jskw_c.proofs.jskw_c++compiled++CompiledSchema+Destruct.drop.Met.{met}

-- ---- the types: the allocator, the schema, its box, an option of that, and the handle

abbrev pub Z : RattleType
Z = heap.the_row

abbrev pub R : RattleType
R = compiled.the_row

abbrev pub B : RattleType
B = box.the_row R Z ghosts

abbrev pub O : RattleType
O = option.the_row B

abbrev pub Hd : RattleType
Hd = handle.the_row

-- ---- as a generic function takes them, with what it is passed for them

abbrev pub X : RattleType
X = arg (bare (layout R)) no R

abbrev pub X-laws : Laws X
X-laws = arg_laws (bare (layout R)) no R compiled_laws.the_row_laws refl

abbrev pub X-drop : Dict
X-drop = impl ("jskw_c::jskw_c++compiled++CompiledSchema+Destruct::drop" ∷ []) tnil dnil

abbrev pub A : Al
A =
    record {
      row =
          arg (bare (layout Z)) no Z;
      laws =
          arg_laws (bare (layout Z)) no Z heap_laws.the_row_laws refl;
      g =
          ghosts;
      d = dict;
      drops = impl ("jskw_c::Destruct++none::drop" ∷ []) (tcons (bare (layout Z)) tnil) dnil;
    }

abbrev pub Boxed : Al
Boxed =
    record A {
      row =
          B;
      g =
          record { dealloc_token = λ a τ p. ftrue };
      laws =
          box_laws.the_row_laws R Z ghosts compiled_laws.the_row_laws heap_laws.the_row_laws;
    }

-- the `drop` that is derived drops any schema
pub X-dropped : {M : Type 1} {𝓤 : Ura M} (𝓛 : Logic 𝓤) (𝓜 : Model 𝓤 𝓛.H) (𝓡 : Running 𝓤 𝓛.H 𝓜)
    → Wired 𝓡.env dropped.code → Met 𝓛 𝓜 𝓡 𝓡.env X X-drop
X-dropped {𝓤 = 𝓤} 𝓛 𝓜 𝓡 wired =
    let H = 𝓛.H in let S = drops.signature in let r = 𝓡.env dropped.name in let m : Callee = method X-drop 0 no_args in
    let own = drops.spec 𝓛 𝓜.mem 𝓡.returns in
    let said : Spec 𝓤 S =
    λ κs a. record {
      ghost =
          Unit {0};
      requires = λ _. emp 𝓤;
      ensures = λ _ u. exits 𝓛 (signature X) (no, tt) ([], tt) a (λ e. emp 𝓤);
    } in
    widened 𝓤 H (grown 𝓛 S 1 (X.lives, tt) said) 𝓜 𝓡 𝓡.env r (𝓡.env m) (dropped.as_method 𝓡.env wired m refl)
    (spared 𝓛 S (𝓡.run r) (run_framed 𝓤 H 𝓜 𝓡 r) 1 (X.lives, tt) said
    (beside 𝓛 S (𝓡.run r) (run_framed 𝓤 H 𝓜 𝓡 r) own said (λ κs a x. x) (λ κs a x. emp 𝓤) (λ κs a x. emp∗ 𝓤 (emp 𝓤))
    (λ κs a x u. qed 𝓛 (raw ((own κs a).ensures x u) ∷ raw (emp 𝓤) ∷ []) ∵ keep ! [] $ show !
    (λ (ws : Unit {0} × Unit {0}). sep 𝓤 (sem 𝓛 (fsep ftrue ftrue)) (emp 𝓤)) (tt, tt) $ nothing ! $ nothing ! $
    nothing ! $ join ! $ done !)
    (met 𝓤 𝓛 𝓜 𝓡 wired)))

-- the tokens of the two type parameters' lifetimes
abbrev pub tokens : {M : Type 1} {𝓤 : Ura M} → Item 𝓤
tokens = ‵ (flft [] full_share) ⊛ ‵ (flft [] full_share) ⊛ ‵ ftrue

-- ---- a handle's machine value, and the steps

abbrev pub word : Ptr → Val
word p = vstruct (vcons (ptr_val p) vnil)

module _ {M : Type 1} {𝓤 : Ura M} {𝓛 : Logic 𝓤} {K : Type 0} {Γ : List (Item 𝓤)} {G : Goal 𝓤 𝓛.H} where
  -- what a call owns, and what it requires, with all that its type parameters ask
  pub at_static : K → {P Q : Item 𝓤} → Step K 𝓛
      (((tokens ⊛ P) ⊛ raw (fact 𝓤 ([] ⊑ X.lives)) ⊛ raw (fact 𝓤 ([] ⊑ A.row.lives)) ⊛ Q) ∷ Γ) G (P ∷ Q ∷ Γ) G
  at_static t = step (λ s.
      move t (1 ∷ []) $ use0 𝓛 (raw (fact 𝓤 ([] ⊑ A.row.lives))) (fact_i 𝓤 ([] ⊑ A.row.lives) (emp 𝓤) (⊑_static [])) $
      join t $ use0 𝓛 (raw (fact 𝓤 ([] ⊑ X.lives))) (fact_i 𝓤 ([] ⊑ X.lives) (emp 𝓤) (⊑_static [])) $ join t $ move
      t (1 ∷ []) $
      nothing t $ use0 𝓛 (‵ (flft [] full_share)) (𝓛.lfts.lft-nil full_share) $ join t $ use0 𝓛 (‵ (flft [] full_share))
      (𝓛.lfts.lft-nil full_share) $ join t $ join t $ join t $ s)

  -- the two cases of a pointer, which a test for null tells apart
  pub either : K → (p : Ptr) (n : Option R.Denot) → (p ≡ null_ptr → n ≡ None → Seq K 𝓛 Γ G)
      → ((a : Global) (b o : ℕ) (x : R.Denot) → p ≡ block_ptr b o → n ≡ Some x → Testable (block_ptr b o)
      → Seq K 𝓛 (‵ (boxed R (block_ptr b o) x a) ∷ Γ) G)
      → Seq K 𝓛 (‵ (slot_owns R p n) ∷ Γ) G
  either t p None none one = feq_l t (λ e. none e refl)
  either t p (Some x) none one =
      fpick t (λ a. let free : Ptr → SProp 𝓤 = λ q. sem 𝓛 (ghosts.dealloc_token a (bare (lone R.mir)) q) in
      in_a_block t p (λ q. boxed R q x a) (fst∗ 𝓤 (never 𝓤) (free null_ptr)) (λ b o e.
      let q : Ptr = block_ptr b o in let own : SProp 𝓤 = sem 𝓛 (boxed R q x a) in
      use1 𝓛 (given (Testable q) (‵ (boxed R q x a))) (fact_use 𝓤 (Testable q) (via 𝓤 (free q)
      (snd∗ 𝓤 (sem 𝓛 (lies_at R full_share q x)) (free q)) (dealloc_token-Testable 𝓛 a (bare (lone R.mir)) q))
      (guard_i 𝓤 (Testable q) own)) $
      learn t (λ u. one a b o x e refl u)))

  -- the two cases of an option
  pub chosen : K → (s : O.Denot) (vs : List Val) → (s ≡ None → vs ≡ live 0 vnil ∷ [] → Seq K 𝓛 Γ G)
      → ((x : B.Denot) (xs : List Val) → s ≡ Some x → vs ≡ live 1 (of_list (xs ++ [])) ∷ []
      → Seq K 𝓛 (‵ (B.own_val x xs) ∷ Γ) G)
      → Seq K 𝓛 (‵ (O.own_val s vs) ∷ Γ) G
  chosen t None vs none one =
      fpick t (λ us. fsplit t $ feq_l t (λ e. fpick t
      (λ vss. fsplit t $ feq_l t (λ f. drop t $ none refl (e ∙ ap (λ (ws : List Val). live 0 (of_list ws) ∷ []) f)))))
  chosen t (Some x) vs none one =
      fpick t (λ us. fsplit t $ feq_l t (λ e. fpick t (λ vss. fsplit t $ feq_l t (λ f. fsplit t $ move t (1 ∷ []) $ drop
      t $ one x vss.0 refl (e ∙ ap (λ (ws : List Val). live 1 (of_list ws) ∷ []) f)))))

  -- a handle is made
  pub handle_in : K → (p : Ptr) (n : Option R.Denot)
      → Step K 𝓛 (‵ (Hd.own_val (record { at = p; schema = n }) (word p ∷ [])) ∷ Γ) G (‵ (slot_owns R p n) ∷ Γ) G
  handle_in t p n = step (λ s.
      nothing t $ feq_i t (List Val) (ptr_val p ∷ []) (ptr_val p ∷ []) refl $ fjoin t $ feq_i t (List Val) (word p ∷ [])
      (word p ∷ []) refl $ fjoin t $
      fpack t (Valss (RawPtr ∷ [])) (within (shape handle.the_type) (p, tt) (word p ∷ []))
      (ptr_val p ∷ [], tt) $ fjoin t $ s)
