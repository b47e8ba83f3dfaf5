use Rattle.std.proofs.Common.{◌++◌, List, map, sym, ap, ◌∙◌, append-nil}
use Rattle.std.proofs.lemmas.List.{drop_all}
use Rattle.vs_design.specs.Uses.{joined}
use Rattle.vs_process.specs.declared.script.Instruction.{Instruction}
use Rattle.vs_process.specs.Scripts.{instruction_control}
use Rattle.vs_run_active.specs.Terms.{control_terms}
use Rattle.vs_run_active.proofs.TermsLemmas.{control_next}
use Rattle.vs_run_active.proofs.terms.add_controls.Goals as goal

pub loop-instruction-preserved : goal.loop-instruction-preserved
loop-instruction-preserved c =
    control_next c.args.process c.args.instructions.now c.loop-instruction.instruction-index c.instruction-item.result c.loop-instruction.all.items c.add_control.new.all.items _
    c.loop-instruction-test.true c.loop-instruction.invariant
    (c.in_ok-add_control.ensures ∙ ap (λ (x : Instruction). c.loop-instruction.all.items ++ control_terms c.args.process (instruction_control x)) c.instruction-item.is)

pub returns : goal.returns
returns c =
    sym (ap (λ (l : List Instruction). c.loop-instruction.all.items ++ joined (map (control_terms c.args.process) (map instruction_control l)))
    (drop_all c.loop-instruction.instruction-index c.args.instructions.now c.loop-instruction-test.false)
    ∙ append-nil c.loop-instruction.all.items)
    ∙ c.loop-instruction.invariant
