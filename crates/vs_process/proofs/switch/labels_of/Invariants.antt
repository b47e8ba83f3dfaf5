use Rattle.std.proofs.Common.{◌≡◌, ℕ, List, drop}
use Rattle.vs_design.specs.vs_logic4.specs.declared.digit.Digit.{Digit}
use Rattle.vs_design.specs.Stores.{Store}
use Rattle.vs_process.specs.Landings.{start_where}
use Rattle.vs_process.specs.Steps.{item_matches}
use Rattle.vs_process.specs.Switches.{index_or, walked}
use Rattle.vs_process.proofs.switch.labels_of.Given as goal

abbrev pub invariant-loop-i : goal.invariant-loop-i
invariant-loop-i l = (digits : List Digit) (store : Store) (time : ℕ) →
    walked l.fn.case.kind digits store time l.all.items
    (index_or l.fn.case.count l.fn.otherwise (start_where (item_matches l.fn.case.kind digits store time) (drop l.i l.fn.case.items.now) (drop l.i l.starts)))
    ≡ index_or l.fn.case.count l.fn.otherwise (start_where (item_matches l.fn.case.kind digits store time) l.fn.case.items.now l.starts)
