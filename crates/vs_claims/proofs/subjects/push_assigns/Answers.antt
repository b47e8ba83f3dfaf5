use Rattle.std.proofs.Common.{refl}
use Rattle.vs_claims.specs.vs_rules.specs.Verdict.{assign}
use Rattle.vs_claims.proofs.NameLemmas.{pushed}
use Rattle.vs_claims.proofs.subjects.push_assigns.Goals as goal

pub loop-j-preserved : goal.loop-j-preserved
loop-j-preserved c =
    pushed assign c.args.out.now.items c.loop-j.out.items c.push.new.self.items _ c.loop-j.j c.loop-j.invariant c.in_ok-push.ensures.items refl
