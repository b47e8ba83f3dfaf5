use Rattle.std.proofs.Common.{◌≡◌, Some, false, take}
use Rattle.std.specs.List.{list_any}
use Rattle.vs_eval.specs.Waking.{term_wakes}
use Rattle.vs_eval.proofs.waking.woken.Given as goal

abbrev pub invariant-loop-term : goal.invariant-loop-term
invariant-loop-term l = list_any (term_wakes l.signal l.word (Some l.before) (Some l.behind)) (take l.term-index l.terms) ≡ false
