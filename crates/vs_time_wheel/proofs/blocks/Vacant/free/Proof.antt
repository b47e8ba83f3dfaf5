-- `free` lends the handle for the call, and returns it. Assumes `Logic`.
use mathlib.Core.Path.{◌≡◌, refl, sym, subst, ap}
use Prim.Native.Nat.{ℕ, ◌+◌}
use mathlib.Core.List.{List, [], ◌∷◌, ◌++◌}
use lib.Dec.{T}
use seplogic.Ra.Ura.{Ura}
use mir.Val.{Val, has_ty, WT}
use mir.MapTy.{inst_fn}
use mir.Raw.{raw as bare}
use base.Logic.{SProp, ent, sep, emp, via, fst∗}
use base.Fml.{Lft, Share, ftrue, flft, Incl-trans}
use prog.Memory.{Memory, size, align, capped}
use prog.Capped.{capped_fits}
use prog.RawLaws.{size-raw, align-raw}
use prog.Routine.{Routine}
use prog.Wp.{Env, Calls, Loops, WpFn, Tables}
use types.Logic.{Logic, sem}
use contract.Monad.{Fun}
use contract.BorrowLft.{◌⊑◌, meet_⊑_right}
use contract.Running.{tables, tables_of}
use sound.WpLaws.{FmC, fm_of, WpFn-mono}
use denote.Exit.{no}
use denote.RattleType.{owns}
use denote.Signature.{plain}
use denote.Steps.{nothing}
use denote.Triple.Clauses.{Clauses, Ended, closing}
use denote.Triple.Entry.{on_entry}
use denote.Triple.Spec.{Meets, triple_of}
use denote.Triple.Statement.{Triple}
use denote.Triple.Table.{entered}
use base.Fml.{froom}
use mir.Syntax.{Fn, Tys, ty_ptr, ty_unit, tcons, tnil}
use mir.Val.{Vals, vunit, vptr, vcons, vnil}
use prog.Memory.{up}
use types.Kit.{‵, raw, ◌⊛◌, later, given, at_ret, ◌$◌, ◌∵◌, !, qed, by, move, keep, use1, use3, learn, split3, join, fsplit, fjoin, suffices, await, done}
use types.Part.{whole, sub}
use types.Run.{stop, fld, from, addr, size_word, align_word, no_more, and_then, of_opd, first, blocks, exec, returns, enter}
use types.ByLocal.{alloc_all, pass_all, free_all, look_at, take_at, give_at, get, get_in, sets, lands_last, env}
use denote.RawPtr.{block_ptr}
use denote.Triple.Call.{calls_at_last}
use denote.Triple.Walked.{says, Stays, stay_dropped, walk_of, ends_at, walk_Meets}
use Rattle.std.proofs.alloc.Calls.{second, α, token, Fits, gives_key, Gives, at_gives, Gives-goes, Gives-Gives, lends_field, takes_back, Goes-blank}
use Rattle.std.proofs.VecSteps.Shapes.{after}
use Rattle.std.proofs.BoxSteps.Form.{Bx, args, τ, R}
use Rattle.vs_time_wheel.proofs.NodeMemory.OfVacant.{owning, Vacant, vacant_val, vacant_typed, Vacant-had}
use Rattle.vs_time_wheel.specs.contracts.blocks.Vacant.free as F
use Rattle.vs_time_wheel.specs.contracts.blocks.Vacant.free.Key.{name as #self}
use Rattle.vs_time_wheel.proofs.blocks.Vacant.free.Statement as stated
use Rattle.vs_time_wheel.proofs.blocks.Vacant.free.Code as code

module _ (E : Bx) where
  abbrev fn' : Fn
  fn' = inst_fn (args E) code.function

  abbrev ended : Ended
  ended = F.ended E.row E.al.row E.al.g E.al.d E.al.drops

  abbrev clauses : {M : Type 1} {𝓤 : Ura M} (𝓛 : Logic 𝓤) → (Memory → SProp 𝓤) → (Routine → Fun 𝓤) → Clauses 𝓤 ended
  clauses 𝓛 = F.clauses E.row E.al.row E.al.g E.al.d E.al.drops 𝓛

  abbrev stayed : Stays ended.signature.params ended.kept
  stayed = (stay_dropped (plain (λ _. Vacant E.al (R E))) no, tt)

module _ (E : Bx) {M : Type 1} {𝓤 : Ura M} (𝓛 : Logic 𝓤) (at_mem : Memory → SProp 𝓤) (run : Routine → Fun 𝓤) (C : Calls 𝓤 𝓛.H) (Λ : Loops 𝓤 𝓛.H) (fm : FmC 𝓤 𝓛.H 𝓛.laws C)
    (callee : Triple 𝓤 (C (gives_key E.al)) (Gives E.al 𝓛 at_mem run)) (κT ρ : Lft) (qT qρ : Share) (within : ρ ⊑ E.al.row.lives) (d : (Vacant E.al (R E)).Denot) (vs : List Val) where
  open 𝓛 use {H, A}

  abbrev bound : (walk_of 𝓛 (ended E) (stayed E) (clauses E 𝓛 at_mem run)).Ghost
  bound = (((κT, (ρ, tt)), (qT, (qρ, tt)), tt, (d, tt), (vs, tt)), tt)

  abbrev Post : Val → SProp 𝓤
  Post = (walk_of 𝓛 (ended E) (stayed E) (clauses E 𝓛 at_mem run)).post bound

  abbrev a : E.al.row.Denot
  a = d.alloc

  abbrev Had : Val → ℕ → ℕ → SProp 𝓤
  Had hv b o = sep 𝓤 (H.room (bare (τ E)) b o) (sep 𝓤 (sem 𝓛 (token E.al a (bare (τ E)) (block_ptr b o))) (sep 𝓤 (sem 𝓛 (E.al.row.own_val a (hv ∷ []))) (sep 𝓤 (A.lft ρ qρ) (A.lft κT qT))))

  exits : (v : Val) → ent 𝓤 (sep 𝓤 (sem 𝓛 (E.al.row.own_val a (v ∷ []))) (sep 𝓤 (A.lft κT qT) (A.lft ρ qρ))) (Post v)
  exits v =
      qed 𝓛 (‵ (E.al.row.own_val a (v ∷ [])) ∷ ‵ (flft κT qT) ∷ ‵ (flft ρ qρ) ∷ []) ∵ suffices ! _ (ends_at 𝓛 (ended E) (stayed E) (clauses E 𝓛 at_mem run) bound v a ((tt, (tt, tt)), tt) (tt, tt)) $ says ! refl $
      nothing ! $ nothing ! $ fjoin ! $ join ! $ nothing ! $ move ! (3 ∷ 0 ∷ []) $ join ! $ move ! (2 ∷ 0 ∷ []) $ join ! $ join ! $ done !

  walk : (hv : Val) (b o : ℕ) → Fits E.al hv → ent 𝓤 (Had hv b o) (WpFn 𝓤 H C Λ (fn' E) (vacant_val hv b o ∷ []) Post)
  walk hv b o fa =
      let typed = vacant_typed E.al (R E) hv b o fa in
      qed 𝓛 (‵ (froom (bare (τ E)) b o) ∷ ‵ (token E.al a (bare (τ E)) (block_ptr b o)) ∷ ‵ (E.al.row.own_val a (hv ∷ [])) ∷ ‵ (flft ρ qρ) ∷ ‵ (flft κT qT) ∷ []) ∵
      enter ! C Λ (fn' E) (vacant_val hv b o ∷ []) _ $ alloc_all ! (λ l. pass_all ! refl (typed, tt) $
      let En : Env 𝓤 H = env (fn' E).locals l in
      let s : ℕ = capped (size (τ E)) in
      let al : ℕ = capped (align (τ E)) in
      let at : ℕ = up (align (α E.al)) 8 in
      let words : Vals = vcons (vptr b o) (vcons hv vnil) in
      let fields : Tys = tcons ty_ptr (tcons (α E.al) tnil) in
      sets ! (of_opd ! (get ! refl)) refl typed $ first ! $ blocks ! $ sets ! (addr ! (from ! (fld ! refl (stop !)))) refl (tt, tt) $
      sets ! (of_opd ! (get_in ! (fld ! refl (stop !)) (sub ! 0 refl (whole !)))) refl (tt, tt) $ sets ! (of_opd ! (get ! refl)) refl (tt, tt) $
      take_at ! 2 $ move ! (0 ∷ 3 ∷ 4 ∷ []) $
      lends_field E.al (owning E.al (R E)).name fields 1 at (l 2) 0 words a ρ qρ ! tt refl within (λ m.
      let κ : Lft = m.0 ∷ ρ in
      let hp : ℕ × ℕ = (l 2, 0 + at) in
      let y : (Gives E.al 𝓛 at_mem run).Ghost = at_gives E.al 𝓛 at_mem run κ m.1 hp a b o s al (bare (τ E)) in
      join ! $ move ! (2 ∷ 3 ∷ 0 ∷ []) $ use3 𝓛 (raw ((Gives E.al 𝓛 at_mem run).pre y))
      (Gives-goes E.al 𝓛 at_mem run κ m.1 hp a (Incl-trans (meet_⊑_right (m.0 ∷ []) ρ) within) b o s al (bare (τ E)) (ap capped (size-raw (τ E))) (ap capped (align-raw (τ E))) (capped_fits (size (τ E))) (capped_fits (align (τ E)))) $
      calls_at_last ! fm (Gives E.al 𝓛 at_mem run) callee y (and_then ! (get ! refl) (and_then ! (get ! refl) (and_then ! (size_word !) (and_then ! (align_word !) (no_more !))))) (λ v.
      use1 𝓛 (later (given (v ≡ vunit) (‵ (flft κ m.1)))) (Gives-Gives E.al 𝓛 at_mem run κ m.1 hp a b o s al (bare (τ E)) v) $ await ! tt $ learn ! (λ e.
      takes_back E.al (owning E.al (R E)).name fields 1 at (l 2) 0 words a ρ qρ ! tt m (λ hv' fa'. give_at ! 2 $
      lands_last ! refl (subst (λ (z : Val). T (has_ty ty_unit z) × WT z) (sym e) (tt, tt)) $ exec ! C Λ En (after 2 (fn' E).body) (at_ret En Post) $
      sets ! (of_opd ! (get_in ! (fld ! refl (stop !)) (sub ! 1 refl (whole !)))) refl fa' $ sets ! (of_opd ! (get ! refl)) refl fa' $
      returns ! (look_at ! 0 refl) $ free_all ! refl $ keep ! (0 ∷ 2 ∷ 1 ∷ []) $ by ! (exits hv'))))))

  entry : ent 𝓤 (on_entry 𝓛 (ended E).signature (κT, (ρ, tt)) (qT, (qρ, tt)) (d, tt) (vs, tt)) (WpFn 𝓤 H C Λ (fn' E) (vs ++ []) Post)
  entry =
      qed 𝓛 ((‵ (flft κT qT) ⊛ ‵ (flft ρ qρ) ⊛ ‵ ftrue) ∷ ‵ (owns (Vacant E.al (R E) ∷ []) (d, tt) (vs, tt)) ∷ []) ∵ split3 ! $ move ! (3 ∷ []) $ fsplit ! $ Vacant-had E.al (R E) ! d vs (λ b o hv e is fa.
      keep ! (0 ∷ 1 ∷ 2 ∷ 5 ∷ 4 ∷ []) $ by ! (subst (λ (ws : List Val). ent 𝓤 (Had hv b o) (WpFn 𝓤 H C Λ (fn' E) (ws ++ []) Post)) (sym is) (walk hv b o fa)))

meets : (E : Bx) {M : Type 1} {𝓤 : Ura M} (𝓛 : Logic 𝓤) (at_mem : Memory → SProp 𝓤) (run : Routine → Fun 𝓤) (𝓣 : Tables 𝓤 𝓛.H) → Triple 𝓤 (𝓣.C (gives_key E.al)) (Gives E.al 𝓛 at_mem run)
    → Meets 𝓛 (ended E).signature (WpFn 𝓤 𝓛.H 𝓣.C 𝓣.Λ (fn' E)) (closing 𝓛 (ended E) (clauses E 𝓛 at_mem run))
meets E {𝓤 = 𝓤} 𝓛 at_mem run 𝓣 callee =
    walk_Meets 𝓛 (ended E) (stayed E) (Goes-blank 𝓛 2 (plain (λ _. Vacant E.al (R E))) no (λ κs x f. tt), tt) (clauses E 𝓛 at_mem run) (WpFn 𝓤 𝓛.H 𝓣.C 𝓣.Λ (fn' E)) (WpFn-mono 𝓤 𝓛.H 𝓛.laws 𝓣 (fn' E))
    (λ z. let κs = z.0.0 in let qs = z.0.1 in let On : SProp 𝓤 = on_entry 𝓛 (ended E).signature κs qs z.0.3 z.0.4 in
    second 𝓤 (κs.0 ⊑ E.row.lives) (κs.1.0 ⊑ E.al.row.lives) On (emp 𝓤) (λ within. via 𝓤 On (fst∗ 𝓤 On (emp 𝓤))
    (entry E 𝓛 at_mem run 𝓣.C 𝓣.Λ (fm_of 𝓤 𝓛.H 𝓛.laws 𝓣) callee κs.0 κs.1.0 qs.0 qs.1.0 within z.0.3.0 z.0.4.0)))

pub free_spec : {M : Type 1} → stated.statement M
unfolding tables_of
free_spec 𝓤 𝓛 𝓜 𝓡 wired Y Z L LZ g d dd met md =
    let E : Bx = record { row = Y; laws = L; al = record { row = Z; laws = LZ; g = g; d = d; drops = dd } } in
    let A = 𝓛.A in
    let 𝓣 : Tables 𝓤 𝓛.H = tables_of 𝓤 𝓛.H 𝓜 (tables 𝓤 𝓛.H 𝓜 𝓡 𝓡.env) in
    entered 𝓤 𝓛.H (triple_of 𝓛 (ended E).signature (F.spec Y Z g d dd 𝓛 𝓜.mem 𝓡.returns)) 𝓣.C 𝓣.Λ (#self (args E)) (fn' E) (code.unfolded 𝓤 𝓛.H 𝓜 𝓡 wired (Y, (Z, tt)) d dd)
    (meets E 𝓛 𝓜.mem 𝓡.returns 𝓣 (met.deallocate dd))
