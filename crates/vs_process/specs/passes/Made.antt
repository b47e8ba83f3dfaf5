-- What a script keeps: nothing that is promised rests on this.
use Rattle.std.specs.Prelude.{ℕ, List, length}
use Rattle.vs_design.specs.declared.signal.Signal.{Signal}
use Rattle.vs_process.specs.declared.draft.Op.{Op}
use Rattle.vs_process.specs.declared.script.Instruction.{Instruction}
use Rattle.vs_process.specs.Codes.{IsCode, links_of}
use Rattle.vs_process.specs.Instructions.{AreInstructionsOf}
use Rattle.vs_process.specs.Texts.{AreApart}

-- the instructions are those of a code, whose statements have numbers of their own
pub record IsScriptMade (signals : List Signal) (ops : List Op) (counters : ℕ) (script : List Instruction) : Type 0 where
  pub code : IsCode ops counters
  pub made : AreInstructionsOf signals (length ops) ops script
  pub apart : AreApart (links_of ops)
