use Rattle.std.proofs.Common.{◌≡◌, ℕ, List, take, if◌then◌else◌}
use Rattle.std.specs.List.{list_any}
use Rattle.vs_design.specs.vs_logic4.specs.declared.case.CaseKind.{CaseKind}
use Rattle.vs_design.specs.vs_logic4.specs.declared.digit.Digit.{Digit}
use Rattle.vs_design.specs.vs_logic4.specs.Cases.{matches}
use Rattle.vs_design.specs.Stores.{Store}
use Rattle.vs_strobe.specs.vs_eval.specs.Values.{value_of}
use Rattle.vs_process.specs.Switches.{walked}
use Rattle.vs_process.proofs.switch.push_labels.Given as goal

abbrev pub invariant-loop-e : goal.invariant-loop-e
invariant-loop-e l = (kind : CaseKind) (digits : List Digit) (store : Store) (time otherwise : ℕ) →
    walked kind digits store time l.all.items otherwise
    ≡ walked kind digits store time l.fn.all.items (if list_any (λ e. matches kind digits (value_of e store time)) (take l.e-index l.labels) then l.fn.index else otherwise)
