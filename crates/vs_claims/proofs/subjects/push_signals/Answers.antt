use Rattle.std.proofs.Common.{refl}
use Rattle.vs_claims.specs.vs_rules.specs.Verdict.{signal}
use Rattle.vs_claims.proofs.NameLemmas.{pushed}
use Rattle.vs_claims.proofs.subjects.push_signals.Goals as goal

pub loop-v-preserved : goal.loop-v-preserved
loop-v-preserved c =
    pushed signal c.args.out.now.items c.loop-v.out.items c.push.new.self.items _ c.loop-v.v c.loop-v.invariant c.in_ok-push.ensures.items refl
