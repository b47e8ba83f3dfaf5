-- `link_first` fills the block, which is then the only node. Assumes `Logic`.
use mathlib.Core.Path.{◌≡◌, refl}
use Prim.Native.Nat.{ℕ}
use mathlib.Core.List.{List, [], ◌∷◌}
use seplogic.Ra.Ura.{Ura}
use mir.Syntax.{Fn, ty_ptr}
use mir.MapTy.{inst_fn}
use mir.Val.{Val, vptr}
use base.Logic.{SProp, ent}
use base.Fml.{Lft, GName, Share}
use prog.Wp.{Env, Calls, Loops, WpFn, Tables}
use types.Logic.{Logic}
use contract.Running.{tables, tables_of}
use types.Kit.{⋆, ‵, at_ret, ◌$◌, ◌∵◌, !, qed, by, move, keep, use1, use2, drop, group, fjoin}
use types.Part.{whole, sub, agg, store_in}
use types.Run.{init, stop, fld, unit_lit, of_opd, and_then, no_more, assigns, assigns_last, first, blocks, exec, returns, enter}
use types.ByLocal.{alloc_all, pass_all, free_all, look_at, get, get_in, through, sets, env}
use denote.Memory.{lone}
use denote.RawPtr.{Ptr, block_ptr, ptr_val}
use denote.Steps.{nothing}
use denote.Triple.Carry.{spared}
use denote.Triple.Clauses.{closing}
use denote.Triple.Spec.{triple_of}
use denote.Triple.Table.{entered, run_framed}
use Rattle.std.proofs.VecSteps.Shapes.{after}
use Rattle.std.proofs.RcSteps.{Good, Ptr-Good}
use denote.Struct.Struct.{as_fields}
use Rattle.std.proofs.alloc.Calls.{α, Fits}
use Rattle.std.proofs.RawLayout.{as_written}
use Rattle.std.proofs.BoxSteps.Form.{Bx, args, X, τ, R, P}
use Rattle.vs_time_wheel.proofs.NodeMemory.Linking.{Node, FreeNode, ended, spec, Post, Had, exits, linking_meets}
use Rattle.vs_time_wheel.proofs.NodeMemory.OfVacant.{vacant_val, vacant_typed}
use Rattle.vs_time_wheel.specs.contracts.nodes.Node as Block
use Rattle.vs_time_wheel.proofs.NodeMemory.Steps.{node_val, Hd, D, Held, One, cons_in, nodes_opens, nodes_closes, node_made}
use Rattle.vs_time_wheel.specs.contracts.nodes.Nodes.link_first.Key.{name as #self}
use Rattle.vs_time_wheel.proofs.nodes.Nodes.link_first.Statement as stated
use Rattle.vs_time_wheel.proofs.nodes.Nodes.link_first.Code as code

module _ (E : Bx) where
  abbrev function : Fn
  function = inst_fn (args E) code.function

  abbrev Asks : D E → Type 0
  Asks d = d.events ≡ []

  abbrev Gives : D E → X E → D E → Type 0
  Gives d x e = e.events ≡ x ∷ []

module _ (E : Bx) {M : Type 1} {𝓤 : Ura M} (𝓛 : Logic 𝓤) (C : Calls 𝓤 𝓛.H) (Λ : Loops 𝓤 𝓛.H) (κ : Lft) (q : Share) (rb ro : ℕ) (γ : GName) (d : D E) (room : (FreeNode E).Denot) (x : X E) (ps us vs : List Val) where
  open 𝓛 use {H, A}

  abbrev h : Hd E
  h = room.alloc

  abbrev Goal : Val → SProp 𝓤
  Goal = Post E (Asks E) (Gives E) 𝓛 κ q rb ro γ d room x ps us vs

  walk : ps ≡ vptr rb ro ∷ [] → Asks E d → (b o : ℕ) (hv v : Val) → Fits E.al hv → Good (τ E) v → ent 𝓤 (⋆ 𝓛 (Had E (Asks E) (Gives E) 𝓛 κ q rb ro γ d room x ps us vs b o hv v)) (WpFn 𝓤 H C Λ (function E) (vptr rb ro ∷ vacant_val hv b o ∷ v ∷ []) Goal)
  walk passed asked b o hv v fa good =
      let p : Ptr = block_ptr b o in
      let typed : (n : Ptr) → Good (lone (Node E).mir) (node_val n v hv) = λ n. as_fields (ty_ptr ∷ τ E ∷ α E.al ∷ []) (ptr_val n ∷ v ∷ hv ∷ []) (Ptr-Good n, (good, (fa, tt))) in
      let new : D E = record { first = p; last = p; events = x ∷ []; blocks = ((p, p), h) ∷ []; count = refl; chained = ∣ (refl, refl) ∣₁ } in
      qed 𝓛 (Had E (Asks E) (Gives E) 𝓛 κ q rb ro γ d room x ps us vs b o hv v) ∵ enter ! C Λ (function E) (vptr rb ro ∷ vacant_val hv b o ∷ v ∷ []) _ $ alloc_all ! (λ l. pass_all ! refl ((tt, tt), (vacant_typed E.al (Node E) hv b o fa, (good, tt))) $
      let En : Env 𝓤 H = env (function E).locals l in
      nodes_opens E ! tt d rb ro $ drop ! $ move ! (4 ∷ []) $ as_written ! (lone (Node E).mir) b o $
      -- [the room; the words; the open borrow; obs; auth; the token; the handle; the element]
      sets ! (of_opd ! (get_in ! (fld ! refl (stop !)) (sub ! 0 refl (whole !)))) refl (tt, tt) $ sets ! (of_opd ! (get_in ! (fld ! refl (stop !)) (sub ! 1 refl (whole !)))) refl fa $
      first ! $ blocks ! $ sets ! (of_opd ! (get ! refl)) refl good $ sets ! (of_opd ! (get ! refl)) refl fa $
      sets ! (agg ! (and_then ! (get ! refl) (and_then ! (get ! refl) (and_then ! (get ! refl) (no_more !))))) refl (typed p) $
      assigns_last ! (of_opd ! (get ! refl)) (through ! refl (stop !)) (init ! 0 refl (typed p)) $ exec ! C Λ En (after 3 (function E).body) (at_ret En Goal) $
      assigns ! (of_opd ! (get ! refl)) (through ! refl (fld ! refl (stop !))) (store_in ! 1 (sub ! 0 refl (whole !)) (tt, tt)) $
      assigns ! (of_opd ! (get ! refl)) (through ! refl (fld ! refl (stop !))) (store_in ! 1 (sub ! 1 refl (whole !)) (tt, tt)) $
      sets ! (of_opd ! (unit_lit !)) refl (tt, tt) $ move ! (0 ∷ 5 ∷ 6 ∷ 7 ∷ []) $ group ! 4 $
      use1 𝓛 (‵ (One E ((p, p), h) x)) (node_made E 𝓛 (Block.the_type (R E) (P E)).name b o p h x v hv) $ nothing ! $ nothing ! $ fjoin ! $ move ! (1 ∷ 0 ∷ []) $
      use2 𝓛 (‵ (Held E new.blocks new.events)) (cons_in E 𝓛 ((p, p), h) [] x []) $ nodes_closes E ! tt new rb ro $
      returns ! (look_at ! 0 refl) $ free_all ! refl $ keep ! (0 ∷ 1 ∷ 2 ∷ []) $ by ! (exits E (Asks E) (Gives E) 𝓛 κ q rb ro γ d room x ps us vs passed new refl))

pub link_first_spec : {M : Type 1} → stated.statement M
unfolding tables_of
link_first_spec 𝓤 𝓛 𝓜 𝓡 wired Y Z L LZ g d dd met md y =
    let E : Bx = record { row = Y; laws = L; al = record { row = Z; laws = LZ; g = g; d = d; drops = dd } } in
    let A = 𝓛.A in
    let 𝓣 : Tables 𝓤 𝓛.H = tables_of 𝓤 𝓛.H 𝓜 (tables 𝓤 𝓛.H 𝓜 𝓡 𝓡.env) in
    spared 𝓛 (ended E).signature (𝓡.run (𝓡.env (#self (args E)))) (run_framed 𝓤 𝓛.H 𝓜 𝓡 (𝓡.env (#self (args E)))) 2 (Y.lives, (Z.lives, tt)) (closing 𝓛 (ended E) (spec E (Asks E) (Gives E) 𝓛))
    (entered 𝓤 𝓛.H (triple_of 𝓛 (ended E).signature (closing 𝓛 (ended E) (spec E (Asks E) (Gives E) 𝓛))) 𝓣.C 𝓣.Λ (#self (args E)) (function E) (code.unfolded 𝓤 𝓛.H 𝓜 𝓡 wired (Y, (Z, tt)) d dd) (linking_meets E (Asks E) (Gives E) 𝓛 𝓣 (function E) (walk E 𝓛 𝓣.C 𝓣.Λ)))
    ((y.0.0, y.0.1, tt, y.0.3, y.0.4), y.1)
