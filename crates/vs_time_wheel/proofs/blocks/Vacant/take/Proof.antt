-- `take` lends the handle for the call, and keeps what comes back with it. Assumes `Logic`.
use mathlib.Core.Path.{◌≡◌, refl, sym, subst, ap}
use mathlib.Core.Bool.{true, false}
use Prim.Native.Nat.{ℕ}
use mathlib.Core.List.{List, [], ◌∷◌, ◌++◌}
use seplogic.Ra.Ura.{Ura}
use mir.Val.{Val}
use mir.MapTy.{inst_fn}
use mir.Raw.{raw as bare}
use base.Logic.{SProp, ent, sep, emp, via, fst∗}
use base.Fml.{Lft, Share, ftrue, flft, Incl-trans}
use prog.Memory.{Memory, size, align, capped}
use prog.Capped.{capped_fits}
use prog.RawLaws.{size-raw, align-raw}
use prog.Routine.{Routine}
use prog.Wp.{Env, Calls, Loops, WpFn, Tables}
use types.Logic.{Logic, sem}
use contract.Monad.{Fun}
use contract.BorrowLft.{◌⊑◌, meet_⊑_right}
use contract.Running.{tables, tables_of}
use sound.WpLaws.{FmC, fm_of, WpFn-mono}
use denote.Exit.{no}
use denote.RattleType.{RattleType, owns}
use denote.Signature.{plain}
use denote.Steps.{nothing}
use denote.Triple.Clauses.{Clauses, Ended, closing}
use denote.Triple.Entry.{on_entry}
use denote.Triple.Spec.{Meets, triple_of}
use denote.Triple.Statement.{Triple}
use denote.Triple.Table.{entered}
use base.Fraction.{full_share}
use base.Logic.{wand, id⊢, apply∗}
use base.Fml.{Fml, fat}
use mir.Syntax.{Fn, Body}
use mir.Val.{vcons, vnil}
use prog.Wp.{Wp, after_seq, at_return}
use types.Kit.{Post as After, any_q, ‵, raw, ◌⊛◌, some, later, given, at_ret, ◌$◌, ◌∵◌, !, qed, by, move, keep, use1, use2, pick, learn, split, split3, join, fsplit, fjoin, suffices, await, done}
use types.Part.{whole, agg}
use types.Match.{live, vrt, in_variant}
use types.Run.{stop, fld, from, addr, lit, size_word, align_word, no_more, and_then, of_opd, first, switches_on, exec, returns, enter}
use types.ByLocal.{alloc_all, pass_all, free_all, look_at, take_at, give_at, get, get_in, get_tag, sets, sets_last, lands_as, env}
use denote.Memory.{part_at}
use denote.Param.{param}
use denote.RawPtr.{block_ptr}
use denote.Triple.Call.{calls_at}
use denote.Triple.Walked.{says, Stays, stay_dropped, walk_of, ends_at, Goes-dropped, walk_Meets}
use borrow.Table.OneValue.{part_in, part_out}
use Rattle.std.specs.Result.{MatchResult}
use Rattle.std.specs.contracts.result.Result as RS
use Rattle.std.specs.declared.result.Result.TheVariants.{Ok, Err}
use Rattle.std.proofs.alloc.Calls.{second, Answer-typed, α, Fits, seen, Lent, lends, handle_tells, takes_key, Takes, at_takes, Answered, Takes-goes, Takes-gives, answers}
use Rattle.std.proofs.VecSteps.Shapes.{after, head, arm_body}
use Rattle.std.proofs.ResultValues.{ok_of, err_of}
use Rattle.std.proofs.BoxSteps.Form.{Bx, args, τ, R, P}
use Rattle.std.proofs.RcSteps.{first_Good, some_Good}
use Rattle.vs_time_wheel.proofs.NodeMemory.OfVacant.{Vacant, vacant_ty, vacant_val, vacant_typed, Vacant-made}
use Rattle.vs_time_wheel.specs.contracts.blocks.Vacant.take as F
use Rattle.vs_time_wheel.specs.contracts.blocks.Vacant.take.Key.{name as #self}
use Rattle.vs_time_wheel.proofs.blocks.Vacant.take.Statement as stated
use Rattle.vs_time_wheel.proofs.blocks.Vacant.take.Code as code

module _ (E : Bx) where
  abbrev fn' : Fn
  fn' = inst_fn (args E) code.function

  abbrev ended : Ended
  ended = F.ended E.row E.al.row E.al.g E.al.d E.al.drops

  abbrev clauses : {M : Type 1} {𝓤 : Ura M} (𝓛 : Logic 𝓤) → (Memory → SProp 𝓤) → (Routine → Fun 𝓤) → Clauses 𝓤 ended
  clauses 𝓛 = F.clauses E.row E.al.row E.al.g E.al.d E.al.drops 𝓛

  abbrev stayed : Stays ended.signature.params ended.kept
  stayed = (stay_dropped (plain (λ _. P E)) no, tt)

  abbrev Out : RattleType
  Out = RS.the_row (Vacant E.al (R E)) (P E)

module _ (E : Bx) {M : Type 1} {𝓤 : Ura M} (𝓛 : Logic 𝓤) (at_mem : Memory → SProp 𝓤) (run : Routine → Fun 𝓤) (C : Calls 𝓤 𝓛.H) (Λ : Loops 𝓤 𝓛.H) (fm : FmC 𝓤 𝓛.H 𝓛.laws C)
    (callee : Triple 𝓤 (C (takes_key E.al)) (Takes E.al 𝓛 at_mem run)) (κT ρ : Lft) (qT qρ : Share) (within : ρ ⊑ E.al.row.lives) (a : E.al.row.Denot) (vs : List Val) where
  open 𝓛 use {H, A}

  abbrev bound : (walk_of 𝓛 (ended E) (stayed E) (clauses E 𝓛 at_mem run)).Ghost
  bound = (((κT, (ρ, tt)), (qT, (qρ, tt)), tt, (a, tt), (vs, tt)), tt)

  abbrev Post : Val → SProp 𝓤
  Post = (walk_of 𝓛 (ended E) (stayed E) (clauses E 𝓛 at_mem run)).post bound

  abbrev Had : Val → SProp 𝓤
  Had hv = sep 𝓤 (sem 𝓛 (E.al.row.own_val a (hv ∷ []))) (sep 𝓤 (A.lft ρ qρ) (A.lft κT qT))

  exits : (r : (Out E).Denot) (v : Val) → MatchResult r (λ d. d.alloc ≡ a) (λ h. h ≡ a) → ent 𝓤 (sep 𝓤 (sem 𝓛 ((Out E).own_val r (v ∷ []))) (sep 𝓤 (A.lft κT qT) (A.lft ρ qρ))) (Post v)
  exits r v k =
      qed 𝓛 (‵ ((Out E).own_val r (v ∷ [])) ∷ ‵ (flft κT qT) ∷ ‵ (flft ρ qρ) ∷ []) ∵ suffices ! _ (ends_at 𝓛 (ended E) (stayed E) (clauses E 𝓛 at_mem run) bound v r (tt, tt) (tt, tt)) $ says ! k $
      nothing ! $ nothing ! $ fjoin ! $ join ! $ nothing ! $ move ! (3 ∷ 0 ∷ []) $ join ! $ move ! (2 ∷ 0 ∷ []) $ join ! $ join ! $ done !

  walk : (hv : Val) → Fits E.al hv → ent 𝓤 (Had hv) (WpFn 𝓤 H C Λ (fn' E) (hv ∷ []) Post)
  walk hv fa =
      qed 𝓛 (‵ (E.al.row.own_val a (hv ∷ [])) ∷ ‵ (flft ρ qρ) ∷ ‵ (flft κT qT) ∷ []) ∵ enter ! C Λ (fn' E) (hv ∷ []) _ $ alloc_all ! (λ l. pass_all ! refl (fa, tt) $
      let En : Env 𝓤 H = env (fn' E).locals l in
      let both : Body = head (after 3 (fn' E).body) in
      let Then : After 𝓤 H = any_q (after_seq 𝓤 H (Wp 𝓤 H C Λ En (after 4 (fn' E).body) (at_return 𝓤 H En Post)) (at_return 𝓤 H En Post)) in
      let s : ℕ = capped (size (τ E)) in
      let al : ℕ = capped (align (τ E)) in
      let hp : ℕ × ℕ = (l 2, 0) in
      let Lies : Fml = part_at (param 0 E.al.row) full_share a (l 2) 0 in
      sets ! (of_opd ! (get ! refl)) refl fa $ sets ! (addr ! (from ! (stop !))) refl (tt, tt) $ take_at ! 2 $
      use2 𝓛 (‵ Lies) (part_in 𝓛 (param 0 E.al.row) refl full_share a (l 2) 0 hv) $
      use2 𝓛 (later (some (λ (n : ℕ × Share). raw (Lent E.al 𝓛 ρ qρ hp a n)))) (lends E.al 𝓛 ρ qρ within hp a) $ await ! tt $ pick ! (λ n.
      let κ : Lft = n.0 ∷ ρ in
      let Again : SProp 𝓤 = H.⇛ (sep 𝓤 (sem 𝓛 Lies) (A.lft ρ qρ)) in
      let y : (Takes E.al 𝓛 at_mem run).Ghost = at_takes E.al 𝓛 at_mem run κ n.1 hp a s al (bare (τ E)) in
      use1 𝓛 (‵ (seen E.al κ hp a) ⊛ ‵ (flft κ n.1) ⊛ raw (wand 𝓤 (A.lft κ n.1) Again)) (id⊢ 𝓤 _) $ split3 ! $
      use2 𝓛 (raw ((Takes E.al 𝓛 at_mem run).pre y))
      (Takes-goes E.al 𝓛 at_mem run κ n.1 hp a (Incl-trans (meet_⊑_right (n.0 ∷ []) ρ) within) s al (bare (τ E)) (ap capped (size-raw (τ E))) (ap capped (align-raw (τ E))) (capped_fits (size (τ E))) (capped_fits (align (τ E)))) $
      calls_at ! fm (Takes E.al 𝓛 at_mem run) callee y (and_then ! (get ! refl) (and_then ! (size_word !) (and_then ! (align_word !) (no_more !)))) (λ v.
      use1 𝓛 (later (raw (Answered E.al 𝓛 at_mem run a (bare (τ E)) v) ⊛ ‵ (flft κ n.1))) (Takes-gives E.al 𝓛 at_mem run κ n.1 hp a s al (bare (τ E)) v) $ await ! tt $ split ! $ move ! (1 ∷ 2 ∷ []) $
      use2 𝓛 (later (‵ Lies ⊛ ‵ (flft ρ qρ))) (apply∗ 𝓤 (A.lft κ n.1) Again) $ await ! tt $ split ! $
      use1 𝓛 (some (λ (u : Val). ‵ (fat full_share (α E.al) (l 2) 0 u) ⊛ ‵ (E.al.row.own_val a (u ∷ [])))) (part_out 𝓛 (param 0 E.al.row) refl full_share a (l 2) 0) $ pick ! (λ hv'. split ! $
      use1 𝓛 (given (Fits E.al hv') (‵ (fat full_share (α E.al) (l 2) 0 hv'))) (𝓛.laws.at_wt full_share (α E.al) (l 2) 0 hv') $ learn ! (λ fa'. give_at ! 2 $ move ! (2 ∷ []) $
      answers E.al ! at_mem run a (bare (τ E)) v
      (λ b o e.
      let made = vacant_typed E.al (R E) hv' b o fa' in
      let ok = first_Good (vacant_ty E.al (R E)) (vacant_val hv' b o) made in
      let d : (Vacant E.al (R E)).Denot = record { ptr = block_ptr b o; alloc = a } in
      lands_as ! e refl (Answer-typed true b o) $ first ! $ switches_on ! (get_tag ! (vrt ! refl (fld ! refl (stop !))) (whole !)) $ exec ! C Λ En (arm_body 0 both) Then $
      sets ! (of_opd ! (get_in ! (vrt ! refl (fld ! refl (stop !))) (in_variant ! 0 0 refl refl (whole !)))) refl (tt, tt) $ sets ! (of_opd ! (get ! refl)) refl (tt, tt) $ sets ! (of_opd ! (get ! refl)) refl fa' $
      sets ! (agg ! (and_then ! (get ! refl) (and_then ! (get ! refl) (no_more !)))) refl made $ sets_last ! (agg ! (and_then ! (lit ! tt) (and_then ! (get ! refl) (no_more !)))) refl ok $
      exec ! C Λ En (after 4 (fn' E).body) (at_ret En Post) $ sets ! (of_opd ! (get ! refl)) refl ok $ Vacant-made E.al (R E) ! a b o $
      use1 𝓛 (‵ ((Out E).own_val (Ok d) (live 0 (vcons (vacant_val hv' b o) vnil) ∷ []))) (ok_of 𝓛 (Vacant E.al (R E)) (P E) d (vacant_val hv' b o)) $
      returns ! (look_at ! 0 refl) $ free_all ! refl $ keep ! (0 ∷ 2 ∷ 1 ∷ []) $ by ! (exits (Ok d) (live 0 (vcons (vacant_val hv' b o) vnil)) refl))
      (λ e.
      let none = some_Good (α E.al) hv' fa' in
      lands_as ! e refl (Answer-typed false 0 0) $ first ! $ switches_on ! (get_tag ! (vrt ! refl (fld ! refl (stop !))) (whole !)) $ exec ! C Λ En (arm_body 1 both) Then $
      sets ! (of_opd ! (get ! refl)) refl fa' $ sets_last ! (agg ! (and_then ! (lit ! tt) (and_then ! (get ! refl) (no_more !)))) refl none $
      exec ! C Λ En (after 4 (fn' E).body) (at_ret En Post) $ sets ! (of_opd ! (get ! refl)) refl none $
      use1 𝓛 (‵ ((Out E).own_val (Err a) (live 1 (vcons hv' vnil) ∷ []))) (err_of 𝓛 (Vacant E.al (R E)) (P E) a hv') $
      returns ! (look_at ! 0 refl) $ free_all ! refl $ keep ! (0 ∷ 2 ∷ 1 ∷ []) $ by ! (exits (Err a) (live 1 (vcons hv' vnil)) refl)))))))

  entry : ent 𝓤 (on_entry 𝓛 (ended E).signature (κT, (ρ, tt)) (qT, (qρ, tt)) (a, tt) (vs, tt)) (WpFn 𝓤 H C Λ (fn' E) (vs ++ []) Post)
  entry =
      qed 𝓛 ((‵ (flft κT qT) ⊛ ‵ (flft ρ qρ) ⊛ ‵ ftrue) ∷ ‵ (owns (P E ∷ []) (a, tt) (vs, tt)) ∷ []) ∵ split3 ! $ move ! (3 ∷ []) $ fsplit ! $ handle_tells E.al ! a vs (λ hv is fa.
      keep ! (0 ∷ 3 ∷ 2 ∷ []) $ by ! (subst (λ (ws : List Val). ent 𝓤 (Had hv) (WpFn 𝓤 H C Λ (fn' E) (ws ++ []) Post)) (sym is) (walk hv fa)))

meets : (E : Bx) {M : Type 1} {𝓤 : Ura M} (𝓛 : Logic 𝓤) (at_mem : Memory → SProp 𝓤) (run : Routine → Fun 𝓤) (𝓣 : Tables 𝓤 𝓛.H) → Triple 𝓤 (𝓣.C (takes_key E.al)) (Takes E.al 𝓛 at_mem run)
    → Meets 𝓛 (ended E).signature (WpFn 𝓤 𝓛.H 𝓣.C 𝓣.Λ (fn' E)) (closing 𝓛 (ended E) (clauses E 𝓛 at_mem run))
meets E {𝓤 = 𝓤} 𝓛 at_mem run 𝓣 callee =
    walk_Meets 𝓛 (ended E) (stayed E) (Goes-dropped 𝓛 2 (plain (λ _. P E)) no (λ κs x f. refl), tt) (clauses E 𝓛 at_mem run) (WpFn 𝓤 𝓛.H 𝓣.C 𝓣.Λ (fn' E)) (WpFn-mono 𝓤 𝓛.H 𝓛.laws 𝓣 (fn' E))
    (λ z. let κs = z.0.0 in let qs = z.0.1 in let On : SProp 𝓤 = on_entry 𝓛 (ended E).signature κs qs z.0.3 z.0.4 in
    second 𝓤 (κs.0 ⊑ E.row.lives) (κs.1.0 ⊑ E.al.row.lives) On (emp 𝓤) (λ within. via 𝓤 On (fst∗ 𝓤 On (emp 𝓤))
    (entry E 𝓛 at_mem run 𝓣.C 𝓣.Λ (fm_of 𝓤 𝓛.H 𝓛.laws 𝓣) callee κs.0 κs.1.0 qs.0 qs.1.0 within z.0.3.0 z.0.4.0)))

pub take_spec : {M : Type 1} → stated.statement M
unfolding tables_of
take_spec 𝓤 𝓛 𝓜 𝓡 wired Y Z L LZ g d dd met md =
    let E : Bx = record { row = Y; laws = L; al = record { row = Z; laws = LZ; g = g; d = d; drops = dd } } in
    let A = 𝓛.A in
    let 𝓣 : Tables 𝓤 𝓛.H = tables_of 𝓤 𝓛.H 𝓜 (tables 𝓤 𝓛.H 𝓜 𝓡 𝓡.env) in
    entered 𝓤 𝓛.H (triple_of 𝓛 (ended E).signature (F.spec Y Z g d dd 𝓛 𝓜.mem 𝓡.returns)) 𝓣.C 𝓣.Λ (#self (args E)) (fn' E) (code.unfolded 𝓤 𝓛.H 𝓜 𝓡 wired (Y, (Z, tt)) d dd)
    (meets E 𝓛 𝓜.mem 𝓡.returns 𝓣 (met.allocate dd))
