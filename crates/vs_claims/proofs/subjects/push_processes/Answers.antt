use Rattle.std.proofs.Common.{refl}
use Rattle.vs_claims.specs.vs_rules.specs.Verdict.{process}
use Rattle.vs_claims.proofs.NameLemmas.{pushed}
use Rattle.vs_claims.proofs.subjects.push_processes.Goals as goal

pub loop-i-preserved : goal.loop-i-preserved
loop-i-preserved c =
    pushed process c.args.out.now.items c.loop-i.out.items c.push.new.self.items _ c.loop-i.i c.loop-i.invariant c.in_ok-push.ensures.items refl
