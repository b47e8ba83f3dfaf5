use Rattle.std.proofs.Common.{◌≡◌, drop}
use Rattle.std.specs.List.{list_all}
use Rattle.vs_design.specs.WordWrites.{keeps}
use Rattle.vs_design.proofs.store.Store.has.Given as goal

abbrev pub invariant-loop-part : goal.invariant-loop-part
invariant-loop-part l = list_all (keeps l.self l.write) (drop l.part-index l.part-items) ≡ list_all (keeps l.self l.write) l.part-items
