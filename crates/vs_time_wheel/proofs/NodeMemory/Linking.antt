-- What the two that link a node have in common, over the walk through their code: both are handed a block and an event.
-- Assumes `Logic`.
use mathlib.Core.Path.{◌≡◌, refl, sym, subst}
use Prim.Native.Nat.{ℕ}
use mathlib.Core.List.{List, [], ◌∷◌, ◌++◌}
use seplogic.Ra.Ura.{Ura}
use mir.Syntax.{Fn, named}
use mir.Val.{Val, vptr, vunit}
use base.Logic.{SProp, ent, sep}
use base.Fml.{Lft, GName, Share, ftrue, froom, flft, fobs, fbor}
use prog.Wp.{Calls, Loops, WpFn, Tables}
use types.Logic.{Logic}
use contract.Monad.{fact}
use sound.WpLaws.{WpFn-mono}
use types.Kit.{Item, ⋆, ‵, ◌⊛◌, ◌$◌, ◌∵◌, !, qed, by, move, keep, split, join, fsplit, fsplit3, fjoin, fjoin3, feq_i, feq_l, suffices, frame, done}
use types.SemTy.{Body as Borrowed}
use denote.Exit.{yes, no}
use denote.RattleType.{RattleType, owns}
use denote.Memory.{mem}
use denote.RawPtr.{block_ptr}
use denote.Ref.{MutBor, MutRef}
use denote.Builtin.{RefMutOf, unit}
use denote.Signature.{plain}
use denote.Steps.{nothing}
use denote.Triple.Clauses.{Clauses, Ended, closing}
use denote.Triple.Entry.{on_entry}
use denote.Triple.Spec.{Meets}
use denote.Triple.Walked.{says, needs, Stays, stay_dropped, stay_ref, walk_of, ends_at, Goes-dropped, Goes-ref, walk_Meets}
use Rattle.std.proofs.RcSteps.{Good}
use Rattle.std.proofs.alloc.Calls.{token, Fits, Goes-blank}
use Rattle.std.proofs.BoxSteps.Form.{Bx, X, τ, own, R, P}
use Rattle.std.proofs.BoxSteps.Steps.{el_tells}
use Rattle.vs_time_wheel.proofs.NodeMemory.OfVacant.{Vacant, vacant_val, Vacant-had}
use Rattle.vs_time_wheel.specs.contracts.nodes.Node as Block
use Rattle.vs_time_wheel.proofs.NodeMemory.Steps.{D, Nr, block_ty}

module _ (E : Bx) where
  -- what a block is written with
  abbrev pub Node : RattleType
  Node = Block.the_row (R E) (P E)

  abbrev pub FreeNode : RattleType
  FreeNode = Vacant E.al Node

  abbrev pub ended : Ended
  ended = record { signature = record { lifetimes = 1; outlives = []; params = RefMutOf (0 ∷ []) tt (plain (λ _. Nr E)) (λ _. tt) ∷ plain (λ _. FreeNode) ∷ plain (λ _. R E) ∷ []; result = plain (λ _. unit) }; kept = (yes, (no, (no, tt))) }

  abbrev pub stayed : Stays ended.signature.params ended.kept
  stayed = (stay_ref (0 ∷ []) tt (plain (λ _. Nr E)), (stay_dropped (plain (λ _. FreeNode)) no, (stay_dropped (plain (λ _. R E)) no, tt)))

  -- the clauses by what is asked of the nodes, and what is given of the nodes, the event and the nodes then
  abbrev pub spec : (D E → Type 0) → (D E → X E → D E → Type 0) → {M : Type 1} {𝓤 : Ura M} (𝓛 : Logic 𝓤) → Clauses 𝓤 ended
  spec Asks Gives {𝓤 = 𝓤} 𝓛 κs a = record { ghost = Unit {0}; requires = λ _. fact 𝓤 (Asks a.0.now); ensures = λ _ r w. fact 𝓤 (Gives a.0.now a.1.1.0 w.0.now) }

module _ (E : Bx) (Asks : D E → Type 0) (Gives : D E → X E → D E → Type 0) {M : Type 1} {𝓤 : Ura M} (𝓛 : Logic 𝓤) (κ : Lft) (q : Share) (rb ro : ℕ) (γ : GName) (d : D E) (room : (FreeNode E).Denot) (x : X E) (ps us vs : List Val) where
  open 𝓛 use {H, A}

  abbrev self : MutBor (D E)
  self = record { ref_ptr = (rb, ro); ghost_name = γ; now = d }

  abbrev bound : (walk_of 𝓛 (ended E) (stayed E) (spec E Asks Gives 𝓛)).Ghost
  bound = (((κ, tt), (q, tt), tt, (self, (room, (x, tt))), (ps, (us, (vs, tt)))), tt)

  abbrev pub Post : Val → SProp 𝓤
  Post = (walk_of 𝓛 (ended E) (stayed E) (spec E Asks Gives 𝓛)).post bound

  -- the end, where the nodes then are these
  pub exits : ps ≡ vptr rb ro ∷ [] → (new : D E) → Gives d x new → ent 𝓤 (sep 𝓤 (A.obs γ ((Nr E).coded.code new)) (sep 𝓤 (A.bor κ (Borrowed (mem (Nr E)) rb ro γ)) (A.lft κ q))) (Post vunit)
  exits passed new e =
      qed 𝓛 (‵ (fobs γ ((Nr E).coded.code new)) ∷ ‵ (fbor κ (Borrowed (mem (Nr E)) rb ro γ)) ∷ ‵ (flft κ q) ∷ []) ∵
      suffices ! _ (ends_at 𝓛 (ended E) (stayed E) (spec E Asks Gives 𝓛) bound vunit tt (new, ((tt, (tt, tt)), (tt, tt))) (tt, (tt, (tt, tt)))) $ says ! e $
      nothing ! $ move ! (3 ∷ 0 ∷ []) $ join ! $ frame ! $ feq_i ! (List Val) ps (vptr rb ro ∷ []) passed $ fjoin3 ! $ nothing ! $ nothing ! $ fjoin ! $ nothing ! $ fjoin ! $ move ! (1 ∷ 0 ∷ []) $ fjoin ! $
      feq_i ! (List Val) (vunit ∷ []) (vunit ∷ []) refl $ move ! (1 ∷ 0 ∷ []) $ done !

  -- what there is at the beginning
  abbrev pub Had : ℕ → ℕ → Val → Val → List (Item 𝓤)
  Had b o hv v = ‵ (fobs γ ((Nr E).coded.code d)) ∷ ‵ (fbor κ (Borrowed (mem (Nr E)) rb ro γ)) ∷ ‵ (flft κ q)
      ∷ ‵ (froom (block_ty E) b o) ∷ ‵ (token E.al room.alloc (block_ty E) (block_ptr b o)) ∷ ‵ (E.al.row.own_val room.alloc (hv ∷ [])) ∷ ‵ (own E x (v ∷ [])) ∷ []

  -- the walk from there answers each call
  pub entry : (C : Calls 𝓤 H) (Λ : Loops 𝓤 H) (function : Fn)
      → (ps ≡ vptr rb ro ∷ [] → Asks d → (b o : ℕ) (hv v : Val) → Fits E.al hv → Good (τ E) v → ent 𝓤 (⋆ 𝓛 (Had b o hv v)) (WpFn 𝓤 H C Λ function (vptr rb ro ∷ vacant_val hv b o ∷ v ∷ []) Post))
      → Asks d → ent 𝓤 (on_entry 𝓛 (ended E).signature (κ, tt) (q, tt) (self, (room, (x, tt))) (ps, (us, (vs, tt)))) (WpFn 𝓤 H C Λ function (ps ++ (us ++ (vs ++ []))) Post)
  entry C Λ function walk asked =
      qed 𝓛 ((‵ (flft κ q) ⊛ ‵ ftrue) ∷ ‵ (owns (MutRef (named 0) κ (Nr E) ∷ FreeNode E ∷ R E ∷ []) (self, (room, (x, tt))) (ps, (us, (vs, tt)))) ∷ []) ∵ split ! $ move ! (2 ∷ []) $ fsplit3 ! $ fsplit3 ! $ feq_l ! (λ e.
      move ! (3 ∷ []) $ fsplit ! $ el_tells E ! x vs (λ v g good. move ! (4 ∷ []) $ Vacant-had E.al (Node E) ! room us (λ b o hv at f fa. keep ! (5 ∷ 6 ∷ 7 ∷ 0 ∷ 1 ∷ 2 ∷ 3 ∷ []) $
      by ! (subst (λ (ws : List Val × List Val × List Val). ent 𝓤 (⋆ 𝓛 (Had b o hv v)) (WpFn 𝓤 H C Λ function (ws.0 ++ (ws.1 ++ (ws.2 ++ []))) Post)) (λ j. (sym e j, sym f j, sym g j)) (walk e asked b o hv v fa good)))))

pub linking_meets : (E : Bx) (Asks : D E → Type 0) (Gives : D E → X E → D E → Type 0) {M : Type 1} {𝓤 : Ura M} (𝓛 : Logic 𝓤) (𝓣 : Tables 𝓤 𝓛.H) (function : Fn)
    → ((κ : Lft) (q : Share) (rb ro : ℕ) (γ : GName) (d : D E) (room : (FreeNode E).Denot) (x : X E) (ps us vs : List Val) → ps ≡ vptr rb ro ∷ [] → Asks d → (b o : ℕ) (hv v : Val) → Fits E.al hv → Good (τ E) v
    → ent 𝓤 (⋆ 𝓛 (Had E Asks Gives 𝓛 κ q rb ro γ d room x ps us vs b o hv v)) (WpFn 𝓤 𝓛.H 𝓣.C 𝓣.Λ function (vptr rb ro ∷ vacant_val hv b o ∷ v ∷ []) (Post E Asks Gives 𝓛 κ q rb ro γ d room x ps us vs)))
    → Meets 𝓛 (ended E).signature (WpFn 𝓤 𝓛.H 𝓣.C 𝓣.Λ function) (closing 𝓛 (ended E) (spec E Asks Gives 𝓛))
linking_meets E Asks Gives {𝓤 = 𝓤} 𝓛 𝓣 function walk =
    walk_Meets 𝓛 (ended E) (stayed E) (Goes-ref 𝓛 1 0 tt (plain (λ _. Nr E)), (Goes-blank 𝓛 1 (plain (λ _. FreeNode E)) no (λ κs x f. tt), (Goes-dropped 𝓛 1 (plain (λ _. R E)) no (λ κs x f. refl), tt))) (spec E Asks Gives 𝓛) (WpFn 𝓤 𝓛.H 𝓣.C 𝓣.Λ function) (WpFn-mono 𝓤 𝓛.H 𝓛.laws 𝓣 function)
    (λ z. let a = z.0.3 in let vss = z.0.4 in
    needs 𝓤 (Asks a.0.now) _ (entry E Asks Gives 𝓛 z.0.0.0 z.0.1.0 a.0.ref_ptr.0 a.0.ref_ptr.1 a.0.ghost_name a.0.now a.1.0 a.1.1.0 vss.0 vss.1.0 vss.1.1.0 𝓣.C 𝓣.Λ function
    (walk z.0.0.0 z.0.1.0 a.0.ref_ptr.0 a.0.ref_ptr.1 a.0.ghost_name a.0.now a.1.0 a.1.1.0 vss.0 vss.1.0 vss.1.1.0)))
