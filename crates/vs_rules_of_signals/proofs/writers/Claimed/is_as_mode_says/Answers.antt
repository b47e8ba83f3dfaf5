use Rattle.std.proofs.Common.{◌↔◌, IsTrue, false, sym, subst}
use Rattle.vs_claims.specs.vs_certificate.specs.declared.members.SignalMode.{SignalMode}
use Rattle.vs_design.specs.Parts.{Parts}
use Rattle.vs_maps.specs.vs_rules.specs.Certificates.{mode_from}
use Rattle.vs_maps.specs.vs_rules.specs.Claims.{HasKind}
use Rattle.vs_maps.specs.vs_rules.specs.Rules.{IsAsModeSays}
use Rattle.vs_rules_of_signals.proofs.writers.Claimed.is_as_mode_says.Goals as goal

pub returns-in-Net : goal.returns-in-Net
returns-in-Net c =
    let x = c.args.self.now.facts.now in
    subst (λ (m : SignalMode). (IsTrue c.is_net.result ↔ IsAsModeSays x.design x.claims c.args.v (mode_from m))) (sym c.in-Net.is)
    (subst (λ (d : Parts). (IsTrue c.is_net.result ↔ HasKind false d c.args.v)) c.design.ensures c.is_net.ensures)
