-- `link_back` fills the block, and the last node points on to it. Assumes `Logic`.
use mathlib.Core.Path.{◌≡◌, refl, sym, ap, subst, ◌∙◌}
use Prim.Native.Nat.{ℕ, ◌<◌}
use native.Mathlib.Omega.{arith}
use mathlib.Core.List.{List, [], ◌∷◌, ◌++◌, map-append}
use lib.ListN.{length, length-append}
use seplogic.Ra.Ura.{Ura}
use mir.Syntax.{Fn, ty_ptr}
use mir.MapTy.{inst_fn}
use mir.Val.{Val, vptr}
use base.Logic.{SProp, ent}
use base.Fml.{Lft, GName, Share}
use prog.Wp.{Env, Calls, Loops, WpFn, Tables}
use types.Logic.{Logic}
use contract.Running.{tables, tables_of}
use types.Kit.{⋆, ‵, ◌⊛◌, at_ret, ◌$◌, ◌∵◌, !, qed, by, move, keep, use1, use2, split, group, rewrite}
use types.Part.{whole, sub, agg, look_in, store_in}
use types.Run.{store, init, stop, fld, load, unit_lit, of_opd, and_then, no_more, assigns, assigns_last, first, blocks, exec, returns, enter}
use types.ByLocal.{alloc_all, pass_all, free_all, look_at, get, get_in, through, sets, is, env}
use denote.Memory.{lone}
use denote.RawPtr.{Ptr, block_ptr, ptr_val}
use denote.Triple.Carry.{spared}
use denote.Triple.Clauses.{closing}
use denote.Triple.Spec.{triple_of}
use denote.Triple.Table.{entered, run_framed}
use Rattle.std.proofs.VecSteps.Shapes.{after}
use Rattle.std.proofs.RcSteps.{Good, Ptr-Good}
use denote.Struct.Struct.{as_fields}
use Rattle.std.proofs.alloc.Calls.{α, Fits}
use Rattle.std.proofs.RawLayout.{as_written}
use Rattle.std.proofs.BoxSteps.Form.{Bx, args, X, τ, R, P}
use Rattle.vs_time_wheel.proofs.NodeMemory.Linking.{Node, FreeNode, ended, spec, Post, Had, exits, linking_meets}
use Rattle.vs_time_wheel.proofs.NodeMemory.OfVacant.{vacant_val, vacant_typed}
use Rattle.vs_time_wheel.specs.contracts.nodes.Node as Block
use Rattle.vs_time_wheel.specs.Links.{Link, links_of, IsChained}
use Rattle.vs_time_wheel.proofs.NodeMemory.Chained.{IsChained-had, IsChained-init, IsChained-join}
use Rattle.vs_time_wheel.proofs.NodeMemory.Steps.{unsnoc, node_val, Hd, D, Held, One, snoc_out, snoc_in, nodes_opens, nodes_closes, one_opens, one_closes, node_made}
use Rattle.vs_time_wheel.specs.contracts.nodes.Nodes.link_back.Key.{name as #self}
use Rattle.vs_time_wheel.proofs.nodes.Nodes.link_back.Statement as stated
use Rattle.vs_time_wheel.proofs.nodes.Nodes.link_back.Code as code

module _ (E : Bx) where
  abbrev function : Fn
  function = inst_fn (args E) code.function

  abbrev Asks : D E → Type 0
  Asks d = 0 < length d.events

  abbrev Gives : D E → X E → D E → Type 0
  Gives d x e = e.events ≡ d.events ++ x ∷ []

module _ (E : Bx) {M : Type 1} {𝓤 : Ura M} (𝓛 : Logic 𝓤) (C : Calls 𝓤 𝓛.H) (Λ : Loops 𝓤 𝓛.H) (κ : Lft) (q : Share) (rb ro : ℕ) (γ : GName) (d : D E) (room : (FreeNode E).Denot) (x : X E) (ps us vs : List Val) where
  open 𝓛 use {H, A}

  abbrev h : Hd E
  h = room.alloc

  abbrev Goal : Val → SProp 𝓤
  Goal = Post E (Asks E) (Gives E) 𝓛 κ q rb ro γ d room x ps us vs

  walk : ps ≡ vptr rb ro ∷ [] → Asks E d → (b o : ℕ) (hv v : Val) → Fits E.al hv → Good (τ E) v → ent 𝓤 (⋆ 𝓛 (Had E (Asks E) (Gives E) 𝓛 κ q rb ro γ d room x ps us vs b o hv v)) (WpFn 𝓤 H C Λ (function E) (vptr rb ro ∷ vacant_val hv b o ∷ v ∷ []) Goal)
  walk passed asked b o hv v fa good =
      let count = d.count in
      let p : Ptr = block_ptr b o in
      let typed : (n : Ptr) → Good (lone (Node E).mir) (node_val n v hv) = λ n. as_fields (ty_ptr ∷ τ E ∷ α E.al ∷ []) (ptr_val n ∷ v ∷ hv ∷ []) (Ptr-Good n, (good, (fa, tt))) in
      let ns = unsnoc d.blocks (omega arith) in
      let xs = unsnoc d.events (omega arith) in
      let m = ns.1 in
      let long = ap length ns.2 ∙ length-append ns.0 (m ∷ []) in
      let many = ap length xs.2 ∙ length-append xs.0 (xs.1 ∷ []) in
      let alike : length ns.0 ≡ length xs.0 = omega arith in
      let linked : IsChained d.first d.last (links_of ns.0 ++ m.0 ∷ []) = subst (IsChained d.first d.last) (ap links_of ns.2 ∙ map-append (λ n. n.0) ns.0 (m ∷ [])) (IsChained-had _ _ _ d.chained) in
      let last = IsChained-init d.first d.last (links_of ns.0) m.0 linked in
      qed 𝓛 (Had E (Asks E) (Gives E) 𝓛 κ q rb ro γ d room x ps us vs b o hv v) ∵ enter ! C Λ (function E) (vptr rb ro ∷ vacant_val hv b o ∷ v ∷ []) _ $ alloc_all ! (λ l. pass_all ! refl ((tt, tt), (vacant_typed E.al (Node E) hv b o fa, (good, tt))) $
      let En : Env 𝓤 H = env (function E).locals l in
      nodes_opens E ! tt d rb ro $
      rewrite ! 0 (λ (ks : List (Link × Hd E)). ‵ (Held E ks d.events)) ns.2 refl $ rewrite ! 0 (λ (ys : List (X E)). ‵ (Held E (ns.0 ++ m ∷ []) ys)) xs.2 refl $
      use1 𝓛 (‵ (One E m xs.1) ⊛ ‵ (Held E ns.0 xs.0)) (snoc_out E 𝓛 ns.0 m xs.0 xs.1 alike) $ split ! $ one_opens E ! m.0 m.1 xs.1 (λ hb ho e.
      let a : Ptr = block_ptr hb ho in
      let at : IsChained d.first d.last (links_of ns.0 ++ (a, m.0.1) ∷ []) = subst (λ z. IsChained d.first d.last (links_of ns.0 ++ (z, m.0.1) ∷ [])) e linked in
      let was : Link × Hd E = ((a, p), m.1) in
      let now : Link × Hd E = ((p, p), h) in
      let front = ns.0 ++ was ∷ [] in
      let ys = xs.0 ++ xs.1 ∷ [] in
      let still = length-append ns.0 (was ∷ []) in
      let same = length-append xs.0 (xs.1 ∷ []) in
      let links : (links_of ns.0 ++ was.0 ∷ []) ++ now.0 ∷ [] ≡ links_of (front ++ now ∷ []) = ap (λ ls. ls ++ now.0 ∷ []) (sym (map-append (λ n. n.0) ns.0 (was ∷ []))) ∙ sym (map-append (λ n. n.0) front (now ∷ [])) in
      let new : D E = record {
        first = d.first;
        last = p;
        events = ys ++ x ∷ [];
        blocks = front ++ now ∷ [];
        count = omega (arith, length-append ys (x ∷ []), length-append front (now ∷ []));
        chained = ∣ subst (IsChained d.first p) links (IsChained-join d.first d.last p p (links_of ns.0) (a, m.0.1) at) ∣₁;
      } in
      move ! (8 ∷ []) $ as_written ! (lone (Node E).mir) b o $
      -- [the room; the last node, in three; the others; the words; the open borrow; obs; auth; the token; the handle; the element]
      sets ! (of_opd ! (get_in ! (fld ! refl (stop !)) (sub ! 0 refl (whole !)))) refl (tt, tt) $ sets ! (of_opd ! (get_in ! (fld ! refl (stop !)) (sub ! 1 refl (whole !)))) refl fa $
      sets ! (is ! (of_opd ! (load ! (through ! refl (fld ! refl (stop !))) (look_in ! 5 (sub ! 1 refl (whole !))))) (ap ptr_val (last ∙ e))) refl (tt, tt) $ sets ! (of_opd ! (get ! refl)) refl (tt, tt) $
      first ! $ blocks ! $ sets ! (of_opd ! (get ! refl)) refl good $ sets ! (of_opd ! (get ! refl)) refl fa $
      sets ! (agg ! (and_then ! (get ! refl) (and_then ! (get ! refl) (and_then ! (get ! refl) (no_more !))))) refl (typed p) $
      assigns ! (of_opd ! (get ! refl)) (through ! refl (stop !)) (init ! 0 refl (typed p)) $
      assigns_last ! (of_opd ! (get ! refl)) (through ! refl (fld ! refl (stop !))) (store ! 2 refl (tt, tt)) $ exec ! C Λ En (after 5 (function E).body) (at_ret En Goal) $
      assigns ! (of_opd ! (get ! refl)) (through ! refl (fld ! refl (stop !))) (store_in ! 5 (sub ! 1 refl (whole !)) (tt, tt)) $
      sets ! (of_opd ! (unit_lit !)) refl (tt, tt) $ move ! (0 ∷ 9 ∷ 10 ∷ 11 ∷ []) $ group ! 4 $
      use1 𝓛 (‵ (One E now x)) (node_made E 𝓛 (Block.the_type (R E) (P E)).name b o p h x v hv) $ move ! (1 ∷ 2 ∷ 3 ∷ []) $ one_closes E ! hb ho p m.1 xs.1 $ move ! (0 ∷ 2 ∷ []) $
      use2 𝓛 (‵ (Held E front ys)) (snoc_in E 𝓛 ns.0 was xs.0 xs.1 alike) $ move ! (1 ∷ 0 ∷ []) $
      use2 𝓛 (‵ (Held E new.blocks new.events)) (snoc_in E 𝓛 front now ys x (omega arith)) $ nodes_closes E ! tt new rb ro $
      returns ! (look_at ! 0 refl) $ free_all ! refl $ keep ! (0 ∷ 1 ∷ 2 ∷ []) $ by ! (exits E (Asks E) (Gives E) 𝓛 κ q rb ro γ d room x ps us vs passed new (ap (λ zs. zs ++ x ∷ []) (sym xs.2)))))

pub link_back_spec : {M : Type 1} → stated.statement M
unfolding tables_of
link_back_spec 𝓤 𝓛 𝓜 𝓡 wired Y Z L LZ g d dd met md y =
    let E : Bx = record { row = Y; laws = L; al = record { row = Z; laws = LZ; g = g; d = d; drops = dd } } in
    let A = 𝓛.A in
    let 𝓣 : Tables 𝓤 𝓛.H = tables_of 𝓤 𝓛.H 𝓜 (tables 𝓤 𝓛.H 𝓜 𝓡 𝓡.env) in
    spared 𝓛 (ended E).signature (𝓡.run (𝓡.env (#self (args E)))) (run_framed 𝓤 𝓛.H 𝓜 𝓡 (𝓡.env (#self (args E)))) 2 (Y.lives, (Z.lives, tt)) (closing 𝓛 (ended E) (spec E (Asks E) (Gives E) 𝓛))
    (entered 𝓤 𝓛.H (triple_of 𝓛 (ended E).signature (closing 𝓛 (ended E) (spec E (Asks E) (Gives E) 𝓛))) 𝓣.C 𝓣.Λ (#self (args E)) (function E) (code.unfolded 𝓤 𝓛.H 𝓜 𝓡 wired (Y, (Z, tt)) d dd) (linking_meets E (Asks E) (Gives E) 𝓛 𝓣 (function E) (walk E 𝓛 𝓣.C 𝓣.Λ)))
    ((y.0.0, y.0.1, tt, y.0.3, y.0.4), y.1)
