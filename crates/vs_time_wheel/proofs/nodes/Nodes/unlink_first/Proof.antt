-- `unlink_first` moves the element and the handle out of the first node. Assumes `Logic`.
use mathlib.Core.Path.{◌≡◌, refl, sym, ap, subst, ◌∙◌}
use Prim.Native.Nat.{ℕ, ◌<◌}
use native.Mathlib.Omega.{arith}
use mathlib.Core.List.{List, [], ◌∷◌, ◌++◌}
use lib.ListN.{length}
use seplogic.Ra.Ura.{Ura}
use mir.Syntax.{Fn, named}
use mir.MapTy.{inst_fn}
use mir.Val.{Val, vptr}
use base.Logic.{SProp, ent, sep}
use base.Fml.{Lft, GName, Share, ftrue, flft, fobs, fbor}
use prog.Wp.{Env, Calls, Loops, WpFn, Tables}
use types.Logic.{Logic, sem}
use contract.Monad.{fact}
use contract.Running.{tables, tables_of}
use sound.WpLaws.{WpFn-mono}
use types.Kit.{Item, ⋆, ‵, ◌⊛◌, at_ret, ◌$◌, ◌∵◌, !, qed, by, move, keep, use1, use2, split, join, rewrite, fsplit, fsplit3, fjoin, fjoin3, feq_i, feq_l, suffices, frame, done}
use types.Part.{whole, sub, agg, look_in, store_in}
use types.Run.{look, stop, fld, load, of_opd, addr, and_then, no_more, assigns, first, blocks, exec, returns, enter}
use types.ByLocal.{alloc_all, pass_all, free_all, look_at, get, through, sets, sets_last, is, env}
use types.SemTy.{Body as Borrowed}
use denote.Exit.{yes}
use denote.RattleType.{RattleType, owns}
use denote.Memory.{mem}
use denote.RawPtr.{block_ptr, ptr_val}
use denote.Ref.{MutBor, MutRef}
use denote.Builtin.{RefMutOf}
use denote.Signature.{plain}
use denote.Steps.{nothing}
use denote.Triple.Carry.{spared}
use denote.Triple.Clauses.{Clauses, Ended, closing}
use denote.Triple.Entry.{on_entry}
use denote.Triple.Spec.{Meets, triple_of}
use denote.Triple.Table.{entered, run_framed}
use denote.Triple.Walked.{says, needs, Stays, stay_ref, walk_of, ends_at, Goes-ref, walk_Meets}
use Rattle.std.proofs.VecSteps.Shapes.{after}
use Rattle.std.proofs.RcSteps.{Ptr-Good}
use Rattle.std.proofs.BoxSteps.Form.{Bx, args, X, τ, R, P}
use Rattle.vs_time_wheel.proofs.NodeMemory.OfVacant.{Vacant, vacant_val, vacant_ty, vacant_typed, Vacant-made}
use Rattle.vs_time_wheel.proofs.NodeMemory.Pairs.{pair_val, pair_Typed, pair_of}
use denote.Struct.Tuple.{Tuple}
use Rattle.vs_time_wheel.specs.contracts.nodes.Node as Block
use Rattle.vs_time_wheel.specs.Links.{Link, links_of, IsChained}
use Rattle.vs_time_wheel.proofs.NodeMemory.Chained.{IsChained-had, IsChained-tail}
use Rattle.vs_time_wheel.proofs.NodeMemory.Steps.{uncons, Hd, D, Nr, Held, One, cons_out, nodes_opens, nodes_closes, one_opens, node_unmade, block_back}
use Rattle.vs_time_wheel.specs.contracts.nodes.Nodes.unlink_first.Key.{name as #self}
use Rattle.vs_time_wheel.proofs.nodes.Nodes.unlink_first.Statement as stated
use Rattle.vs_time_wheel.proofs.nodes.Nodes.unlink_first.Code as code

module _ (E : Bx) where
  abbrev function : Fn
  function = inst_fn (args E) code.function

  abbrev Node : RattleType
  Node = Block.the_row (R E) (P E)

  abbrev FreeNode : RattleType
  FreeNode = Vacant E.al Node

  abbrev Out : RattleType
  Out = Tuple (R E ∷ FreeNode ∷ [])

  abbrev ended : Ended
  ended = record { signature = record { lifetimes = 1; outlives = []; params = RefMutOf (0 ∷ []) tt (plain (λ _. Nr E)) (λ _. tt) ∷ []; result = plain (λ _. Out) }; kept = (yes, tt) }

  abbrev stayed : Stays ended.signature.params ended.kept
  stayed = (stay_ref (0 ∷ []) tt (plain (λ _. Nr E)), tt)

  abbrev Gives : D E → X E → D E → Type 0
  Gives d x e = d.events ≡ x ∷ e.events

  abbrev spec : {M : Type 1} {𝓤 : Ura M} (𝓛 : Logic 𝓤) → Clauses 𝓤 ended
  spec {𝓤 = 𝓤} 𝓛 κs a = record { ghost = Unit {0}; requires = λ _. fact 𝓤 (0 < length a.0.now.events); ensures = λ _ r w. fact 𝓤 (Gives a.0.now r.0 w.0.now) }

module _ (E : Bx) {M : Type 1} {𝓤 : Ura M} (𝓛 : Logic 𝓤) (C : Calls 𝓤 𝓛.H) (Λ : Loops 𝓤 𝓛.H) (κ : Lft) (q : Share) (rb ro : ℕ) (γ : GName) (d : D E) (ps : List Val) where
  open 𝓛 use {H, A}

  abbrev self : MutBor (D E)
  self = record { ref_ptr = (rb, ro); ghost_name = γ; now = d }

  abbrev bound : (walk_of 𝓛 (ended E) (stayed E) (spec E 𝓛)).Ghost
  bound = (((κ, tt), (q, tt), tt, (self, tt), (ps, tt)), tt)

  abbrev Post : Val → SProp 𝓤
  Post = (walk_of 𝓛 (ended E) (stayed E) (spec E 𝓛)).post bound

  exits : ps ≡ vptr rb ro ∷ [] → (r : (Out E).Denot) (v : Val) (new : D E) → Gives E d r.0 new
      → ent 𝓤 (sep 𝓤 (A.obs γ ((Nr E).coded.code new)) (sep 𝓤 (A.bor κ (Borrowed (mem (Nr E)) rb ro γ)) (sep 𝓤 (A.lft κ q) (sem 𝓛 ((Out E).own_val r (v ∷ [])))))) (Post v)
  exits passed r v new e =
      qed 𝓛 (‵ (fobs γ ((Nr E).coded.code new)) ∷ ‵ (fbor κ (Borrowed (mem (Nr E)) rb ro γ)) ∷ ‵ (flft κ q) ∷ ‵ ((Out E).own_val r (v ∷ [])) ∷ []) ∵
      suffices ! _ (ends_at 𝓛 (ended E) (stayed E) (spec E 𝓛) bound v r (new, tt) (tt, tt)) $ says ! e $
      nothing ! $ move ! (3 ∷ 0 ∷ []) $ join ! $ frame ! $ feq_i ! (List Val) ps (vptr rb ro ∷ []) passed $ fjoin3 ! $ nothing ! $ move ! (1 ∷ 0 ∷ []) $ fjoin ! $ done !

  abbrev Had : List (Item 𝓤)
  Had = ‵ (fobs γ ((Nr E).coded.code d)) ∷ ‵ (fbor κ (Borrowed (mem (Nr E)) rb ro γ)) ∷ ‵ (flft κ q) ∷ []

  walk : ps ≡ vptr rb ro ∷ [] → 0 < length d.events → ent 𝓤 (⋆ 𝓛 Had) (WpFn 𝓤 H C Λ (function E) (vptr rb ro ∷ []) Post)
  walk passed asked =
      let count = d.count in
      let ns = uncons d.blocks (omega arith) in
      let xs = uncons d.events (omega arith) in
      let m = ns.0 in
      let x = xs.0 in
      let long = ap length ns.2 in
      let many = ap length xs.2 in
      let linked : IsChained d.first d.last (m.0 ∷ links_of ns.1) = subst (λ ks. IsChained d.first d.last (links_of ks)) ns.2 (IsChained-had _ _ _ d.chained) in
      let new : D E = record { first = m.0.1; last = d.last; events = xs.1; blocks = ns.1; count = omega arith; chained = ∣ IsChained-tail d.first d.last m.0 (links_of ns.1) linked ∣₁ } in
      qed 𝓛 Had ∵ enter ! C Λ (function E) (vptr rb ro ∷ []) _ $ alloc_all ! (λ l. pass_all ! refl ((tt, tt), tt) $
      let En : Env 𝓤 H = env (function E).locals l in
      nodes_opens E ! tt d rb ro $
      rewrite ! 0 (λ (ks : List (Link × Hd E)). ‵ (Held E ks d.events)) ns.2 refl $ rewrite ! 0 (λ (ys : List (X E)). ‵ (Held E (m ∷ ns.1) ys)) xs.2 refl $
      use1 𝓛 (‵ (One E m x) ⊛ ‵ (Held E ns.1 xs.1)) (cons_out E 𝓛 m ns.1 x xs.1) $ split ! $
      one_opens E ! m.0 m.1 x (λ b o e. node_unmade E ! b o m.0.1 m.1 x (λ v hv good fa.
      let room = vacant_typed E.al (Node E) hv b o fa in
      let both = pair_Typed (τ E) (vacant_ty E.al (Node E)) v (vacant_val hv b o) good room in
      let made : (FreeNode E).Denot = record { ptr = block_ptr b o; alloc = m.1 } in
      -- [the node, in seven; the others; the words; the open borrow; obs; auth]
      sets ! (is ! (of_opd ! (load ! (through ! refl (fld ! refl (stop !))) (look_in ! 8 (sub ! 0 refl (whole !))))) (ap ptr_val (linked.0 ∙ e))) refl (tt, tt) $ sets ! (of_opd ! (get ! refl)) refl (tt, tt) $
      first ! $ blocks ! $
      sets ! (of_opd ! (load ! (through ! refl (fld ! refl (stop !))) (look ! 0 refl))) refl (Ptr-Good m.0.1) $
      assigns ! (of_opd ! (get ! refl)) (through ! refl (fld ! refl (stop !))) (store_in ! 8 (sub ! 0 refl (whole !)) (Ptr-Good m.0.1)) $
      sets ! (addr ! (through ! refl (fld ! refl (stop !)))) refl (tt, tt) $ sets ! (of_opd ! (load ! (through ! refl (stop !)) (look ! 1 refl))) refl good $
      sets ! (addr ! (through ! refl (fld ! refl (stop !)))) refl (tt, tt) $ sets ! (of_opd ! (load ! (through ! refl (stop !)) (look ! 2 refl))) refl fa $
      sets ! (of_opd ! (get ! refl)) refl good $ sets ! (of_opd ! (get ! refl)) refl fa $ sets ! (agg ! (and_then ! (get ! refl) (and_then ! (get ! refl) (no_more !)))) refl room $
      sets_last ! (agg ! (and_then ! (get ! refl) (and_then ! (get ! refl) (no_more !)))) refl both $ exec ! C Λ En (after 3 (function E).body) (at_ret En Post) $ sets ! (of_opd ! (get ! refl)) refl both $
      block_back E ! b o m.0.1 v hv $ Vacant-made E.al (Node E) ! m.1 b o $ move ! (1 ∷ 0 ∷ []) $
      use2 𝓛 (‵ ((Out E).own_val (x, made) (pair_val v (vacant_val hv b o) ∷ []))) (pair_of 𝓛 (R E) (FreeNode E) x made v (vacant_val hv b o)) $
      move ! (1 ∷ 2 ∷ 3 ∷ 4 ∷ 5 ∷ []) $ nodes_closes E ! tt new rb ro $
      returns ! (look_at ! 0 refl) $ free_all ! refl $ keep ! (0 ∷ 1 ∷ 2 ∷ 3 ∷ []) $ by ! (exits passed (x, made) (pair_val v (vacant_val hv b o)) new xs.2))))

  entry : 0 < length d.events → ent 𝓤 (on_entry 𝓛 (ended E).signature (κ, tt) (q, tt) (self, tt) (ps, tt)) (WpFn 𝓤 H C Λ (function E) (ps ++ []) Post)
  entry asked =
      qed 𝓛 ((‵ (flft κ q) ⊛ ‵ ftrue) ∷ ‵ (owns (MutRef (named 0) κ (Nr E) ∷ []) (self, tt) (ps, tt)) ∷ []) ∵ split ! $ move ! (2 ∷ []) $ fsplit ! $ fsplit3 ! $ feq_l ! (λ e. keep ! (0 ∷ 1 ∷ 3 ∷ []) $
      by ! (subst (λ (ws : List Val). ent 𝓤 (⋆ 𝓛 Had) (WpFn 𝓤 H C Λ (function E) (ws ++ []) Post)) (sym e) (walk e asked)))

meets : (E : Bx) {M : Type 1} {𝓤 : Ura M} (𝓛 : Logic 𝓤) (𝓣 : Tables 𝓤 𝓛.H)
    → Meets 𝓛 (ended E).signature (WpFn 𝓤 𝓛.H 𝓣.C 𝓣.Λ (function E)) (closing 𝓛 (ended E) (spec E 𝓛))
meets E {𝓤 = 𝓤} 𝓛 𝓣 =
    walk_Meets 𝓛 (ended E) (stayed E) (Goes-ref 𝓛 1 0 tt (plain (λ _. Nr E)), tt) (spec E 𝓛) (WpFn 𝓤 𝓛.H 𝓣.C 𝓣.Λ (function E)) (WpFn-mono 𝓤 𝓛.H 𝓛.laws 𝓣 (function E))
    (λ z. let a = z.0.3.0 in needs 𝓤 (0 < length a.now.events) _ (entry E 𝓛 𝓣.C 𝓣.Λ z.0.0.0 z.0.1.0 a.ref_ptr.0 a.ref_ptr.1 a.ghost_name a.now z.0.4.0))

pub unlink_first_spec : {M : Type 1} → stated.statement M
unfolding tables_of
unlink_first_spec 𝓤 𝓛 𝓜 𝓡 wired Y Z L LZ g d dd met md y =
    let E : Bx = record { row = Y; laws = L; al = record { row = Z; laws = LZ; g = g; d = d; drops = dd } } in
    let A = 𝓛.A in
    let 𝓣 : Tables 𝓤 𝓛.H = tables_of 𝓤 𝓛.H 𝓜 (tables 𝓤 𝓛.H 𝓜 𝓡 𝓡.env) in
    spared 𝓛 (ended E).signature (𝓡.run (𝓡.env (#self (args E)))) (run_framed 𝓤 𝓛.H 𝓜 𝓡 (𝓡.env (#self (args E)))) 2 (Y.lives, (Z.lives, tt)) (closing 𝓛 (ended E) (spec E 𝓛))
    (entered 𝓤 𝓛.H (triple_of 𝓛 (ended E).signature (closing 𝓛 (ended E) (spec E 𝓛))) 𝓣.C 𝓣.Λ (#self (args E)) (function E) (code.unfolded 𝓤 𝓛.H 𝓜 𝓡 wired (Y, (Z, tt)) d dd) (meets E 𝓛 𝓣))
    ((y.0.0, y.0.1, tt, y.0.3, y.0.4), y.1)
