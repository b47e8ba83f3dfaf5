use Rattle.std.proofs.Common.{length, refl}
use Rattle.vs_run_active.proofs.ProcessPlacesLemmas.{more_told}
use Rattle.vs_run_active.proofs.process.Process.has_more.Goals as goal

pub returns : goal.returns
returns c = λ counters.
    more_told c.args.self.now.script.now c.instructions-instructions.result.now c.args.self.now.index (length c.instructions-instructions.result.now) counters
    c.instructions-instructions.ensures refl
