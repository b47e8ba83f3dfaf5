use Rattle.std.proofs.Common.{◌≡◌, ℕ, ◌+◌, ◌≤◌, List, ◌++◌, map, drop}
use Rattle.vs_widths.specs.Names.{meaning_of}
use Rattle.vs_scopes.specs.Reads.{read_piece}
use Rattle.vs_scopes.specs.declared.faults.Reason.{Reason}
use Rattle.vs_scopes.specs.Generate.{constructs_fault, inner_from}
use Rattle.vs_elab_constants.specs.Reads.{read_inners}
use Rattle.vs_elab_constants.specs.generate_passes.Numbering.{AreNames}
use Rattle.vs_elab_constants.proofs.opening.inners.Given as goal

abbrev pub invariant-loop-place : goal.invariant-loop-place
invariant-loop-place l = record {
  few : l.number ≤ l.place + 1;
  faults : (ns : List (List ℕ)) → AreNames ns l.own → (r : Reason) →
      constructs_fault r (meaning_of l.names) ns l.number (map read_piece (drop l.place l.pieces)) ≡ constructs_fault r (meaning_of l.names) ns 1 (map read_piece l.pieces);
  made : (ns : List (List ℕ)) → AreNames ns l.own →
      read_inners l.all.items ++ inner_from l.place (meaning_of l.names) ns l.number (map read_piece (drop l.place l.pieces)) ≡ inner_from 0 (meaning_of l.names) ns 1 (map read_piece l.pieces);
}
