use Rattle.std.proofs.Common.{◌↔◌, IsTrue, List, ◌∙◌, subst}
use Rattle.vs_design.specs.declared.range.BitRange.{BitRange}
use Rattle.vs_rules_of_processes.specs.FirstSlot.{NoneHangs}
use Rattle.vs_rules_of_processes.proofs.first_slot.FirstSlot.is_untouched.Goals as goal

pub returns : goal.returns
returns c =
    subst (λ (l : List BitRange). (IsTrue c.none_hangs.result ↔ NoneHangs c.args.self.now.design c.args.self.now.claims l)) (c.deref.ensures.value ∙ c.in_ok-ranges.ensures)
    c.none_hangs.ensures
