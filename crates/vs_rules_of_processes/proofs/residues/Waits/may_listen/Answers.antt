use Rattle.std.proofs.Common.{refl, sym, subst}
use Rattle.std.proofs.lemmas.Bool.{false≢true}
use Rattle.vs_claims.specs.Facts.{Case}
use Rattle.vs_claims.specs.vs_maps.specs.Reaches.{IsPlace}
use Rattle.vs_rules.specs.Claims.{IsDelay}
use Rattle.vs_rules_of_processes.proofs.Here.{listens}
use Rattle.vs_rules_of_processes.proofs.residues.Waits.may_listen.Goals as goal

pub returns-then-not-is_delay : goal.returns-then-not-is_delay
returns-then-not-is_delay c =
    let i = c.args.self.now.process in
    (λ t kind place. absurd (false≢true (c.if-not-is_delay.ensures.1 (subst (λ (f : Case). IsDelay f.design f.claims i) (sym c.facts.ensures) kind))), λ h. refl)

pub returns : goal.returns
returns c =
    let s = c.args.self.now in
    let f = s.slots.now in
    let kind = subst (λ (f : Case). IsDelay f.design f.claims s.process) c.facts.ensures (c.if-not-is_delay.ensures.0 refl) in
    listens c.is_point.result (IsDelay f.design f.claims s.process) (IsPlace s.tables.now c.args.place) kind c.is_point.ensures
