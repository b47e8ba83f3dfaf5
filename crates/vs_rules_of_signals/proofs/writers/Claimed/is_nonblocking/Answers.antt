use Rattle.std.proofs.Common.{Some, refl}
use Rattle.vs_maps.specs.vs_rules.specs.Claims.{IsSequential, IsWriter, claim_of, writer_in}
use Rattle.vs_maps.specs.vs_rules.specs.Rules.{NeverNow}
use Rattle.vs_rules_of_signals.proofs.Here.{named_here}
use Rattle.vs_rules_of_signals.proofs.Parts.{never_now, one_is, with_part}
use Rattle.vs_rules_of_signals.proofs.writers.Claimed.is_nonblocking.Goals as goal

pub returns : goal.returns
returns c =
    let x = c.args.self.now.facts.now in
    let h = named_here x.design x.charts c.maps.ensures (writer_in (claim_of x.design x.claims c.args.v)) c.in-Some.process ((c.in-Some.ensures c.in-Some.process).1 refl) in
    one_is (IsWriter x.design x.claims c.args.v) (λ i. IsSequential x.design x.claims i × NeverNow x.design c.args.v i) (Some c.in-Some.process) c.in-Some.process refl c.in-Some.ensures
    c.all_now.result
    (with_part (IsSequential x.design x.claims c.in-Some.process) (NeverNow x.design c.args.v c.in-Some.process) _ (c.if-not-is_sequential.ensures.0 refl) c.all_now.result c.all_now.ensures
    (never_now x.design x.charts c.in-Some.process c.args.v c.args.self.now.uses.now c.args.self.now.same h))
