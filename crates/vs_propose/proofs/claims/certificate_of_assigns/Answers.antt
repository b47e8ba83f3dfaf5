use Rattle.std.proofs.Common.{◌∙◌, ap, map, refl}
use Rattle.vs_certificate.specs.declared.members.Version.TheVariants.{One}
use Rattle.vs_drivers.specs.vs_rules.specs.Certificates.{claims_of, edge_claim, process_claim}
use Rattle.vs_propose.specs.Claimed.{name_at}
use Rattle.vs_propose.specs.Settling.{CanSettle}
use Rattle.vs_propose.proofs.Rules.{accepted}
use Rattle.vs_propose.proofs.Settled.{has_texts}
use Rattle.vs_propose.proofs.claims.certificate_of_assigns.Goals as goal

pub returns : goal.returns
returns c = record {
  grain = refl;
  accepted = λ (can : CanSettle c.args.design.now).
      let texts = has_texts c.args.design.now can.certificate can.settles in
      accepted c.args.design.now
      (claims_of (record {
        version = One;
        grain = c.args.grain;
        modulus = 1;
        edges = c.new.result;
        order = c.in_ok-names.names;
        processes = c.new-2.result;
        signals = c.in_ok-signals.signals;
      }))
      (claims_of can.certificate) c.in_ok-order.order.items c.is_well_formed.ensures can.still
      (record {
        version = refl;
        displays = refl;
        modulus = refl;
        edges = ap (map edge_claim) c.new.ensures.items;
        processes = ap (map process_claim) c.new-2.ensures.items;
        signals = c.in_ok-signals.ensures texts;
        order = c.in_ok-names.ensures texts ∙ ap (map (name_at c.args.design.now)) c.deref.ensures.value;
      })
      c.in_ok-order.ensures can.settles ((c.tested_are_certificates.ensures can.certificate).0 can.sound);
}
