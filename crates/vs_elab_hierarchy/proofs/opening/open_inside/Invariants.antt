use Rattle.std.proofs.Common.{◌+◌, ◌-◌, ◌*◌, ◌^◌, List, length}
use Rattle.vs_syntax.specs.declared.tree.Module.{Module}
use Rattle.vs_scopes.specs.Scopes.{Scope}
use Rattle.vs_elab_hierarchy.specs.hierarchy_passes.Opens.{IsReady}
use Rattle.vs_elab_hierarchy.specs.hierarchy_passes.InHand.{InHand}
use Rattle.vs_elab_hierarchy.proofs.InHandLemmas.{asked}
use Rattle.vs_elab_hierarchy.proofs.opening.open_inside.Given as goal

abbrev pub invariant-loop-scope : goal.invariant-loop-scope
invariant-loop-scope l =
    (ms : List Module) (ss : List Scope) (s : Scope) → IsReady ms ss s l.modules l.fn.list.items l.fn.plan l.place l.depth_left →
    InHand (asked ms ss s l.place l.depth_left l.fn.list.items l.fn.plan) l.modules l.stack.items l.list.items l.plan

abbrev pub decreases-loop-scope : goal.decreases-loop-scope
decreases-loop-scope l = 2 * (2 ^ 64 - length l.list.items) + length l.stack.items
