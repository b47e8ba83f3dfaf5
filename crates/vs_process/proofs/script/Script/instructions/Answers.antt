use Rattle.std.proofs.Common.{List, subst, sym}
use Rattle.vs_process.specs.declared.script.Instruction.{Instruction}
use Rattle.vs_process.specs.Scripts.{IsScriptOf}
use Rattle.vs_process.specs.Texts.{Text}
use Rattle.vs_process.proofs.ScriptLists.{script_is}
use Rattle.vs_process.proofs.script.Script.instructions.Goals as goal

pub returns : goal.returns
returns c =
    subst (λ (l : List Instruction). IsScriptOf c.args.self.now l) (sym c.deref.ensures.value)
    (subst (λ (t : Text). IsScriptOf t c.self.inside.instructions.items) c.self.view_is
    (script_is c.self.inside.design.now.signals c.self.inside.ops.now c.self.inside.counters c.self.inside.start c.self.inside.instructions.items c.self.invariant))
