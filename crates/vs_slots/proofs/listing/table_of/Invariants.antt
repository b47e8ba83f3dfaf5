use Rattle.std.proofs.Common.{◌≡◌, length}
use Rattle.vs_slots.proofs.TableLemmas.{AreRows}
use Rattle.vs_slots.proofs.listing.table_of.Given as goal

abbrev pub invariant-loop-i : goal.invariant-loop-i
invariant-loop-i g l = (length l.table ≡ l.i) × AreRows (g.L.Listing.has l.listing) l.table
