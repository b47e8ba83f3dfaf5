use Rattle.std.proofs.Common.{◌≡◌, drop}
use Rattle.vs_design.specs.Stores.{put}
use Rattle.vs_design.proofs.store.Store.put.Given as goal

abbrev pub invariant-loop-part : goal.invariant-loop-part
invariant-loop-part l = put l.self (drop l.part-index l.part-items) ≡ put l.fn.self l.part-items
