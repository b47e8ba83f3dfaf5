use Rattle.std.proofs.Common.{◌≡◌, take}
use Rattle.vs_design.specs.Drivers.{in_copies}
use Rattle.vs_design.specs.passes.Planes.{store_of, ArePlanesOf, counts_of}
use Rattle.vs_design.proofs.store.Store.copies.Given as goal

abbrev pub invariant-loop-i : goal.invariant-loop-i
invariant-loop-i l = record {
  planes : ArePlanesOf (take l.i l.extents) l.values.items l.unknowns.items;
  store : store_of (take l.i l.extents) l.values.items l.unknowns.items ≡ take l.i (in_copies (counts_of l.extents) l.words);
}
