use Rattle.std.proofs.Common.{◌≡◌, ℕ, List, drop, length}
use Rattle.vs_design.specs.vs_logic4.specs.declared.case.CaseKind.TheVariants as kinds
use Rattle.vs_design.specs.vs_logic4.specs.declared.digit.Digit.{Digit}
use Rattle.vs_design.specs.Stores.{Store}
use Rattle.vs_process.specs.Switches.{table_index, walked}
use Rattle.vs_process.proofs.switch.indices_of.Given as goal

abbrev pub invariant-loop-i : goal.invariant-loop-i
invariant-loop-i l = record {
  long : length l.indices.items ≡ l.fn.count;
  leads : (digits : List Digit) (store : Store) (time : ℕ) →
      table_index digits l.fn.width l.indices.items l.fn.otherwise ≡ walked kinds.Case digits store time (drop l.i l.labels) l.fn.otherwise;
}
