use Rattle.std.proofs.Common.{◌≡◌, List, Some, map, drop, slice_get}
use Rattle.std.specs.List.{list_any}
use Rattle.vs_elab_signals.specs.vs_elab_constants.specs.Reads.{read_inner}
use Rattle.vs_scopes.specs.Scopes.{Scope, is_named_as_net}
use Rattle.vs_elab_signals.specs.Opened.{AreOpened}
use Rattle.vs_elab_signals.proofs.blocks.check_blocks.Given as goal

abbrev pub invariant-loop-one : goal.invariant-loop-one
invariant-loop-one l = (ss : List Scope) (s : Scope) → AreOpened l.list ss → slice_get ss l.place ≡ Some s →
    list_any (is_named_as_net s) (map read_inner (drop l.one-index l.inner)) ≡ list_any (is_named_as_net s) (map read_inner l.inner)
