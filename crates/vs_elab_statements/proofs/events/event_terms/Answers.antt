use Rattle.vs_widths.specs.Names.{meaning_of}
use Rattle.vs_elab_statements.proofs.EventLemmas.{events_star, events_grouped, events_name, events_terms}
use Rattle.vs_elab_statements.proofs.events.event_terms.Goals as goal

pub returns-in_ok-level_terms-in-Star : goal.returns-in_ok-level_terms-in-Star
returns-in_ok-level_terms-in-Star c = rw c.in-Star.is (events_star (meaning_of c.args.names.now) c.args.body.now c.in_ok-level_terms-in-Star.field-0.items c.in_ok-level_terms-in-Star.ensures)

pub returns-in_ok-level_terms-in-GroupedStar : goal.returns-in_ok-level_terms-in-GroupedStar
returns-in_ok-level_terms-in-GroupedStar c =
    rw c.in-GroupedStar.is (events_grouped (meaning_of c.args.names.now) c.args.body.now c.in_ok-level_terms-in-GroupedStar.field-0.items c.in_ok-level_terms-in-GroupedStar.ensures)

pub returns-in_ok-push-in-Name : goal.returns-in_ok-push-in-Name
returns-in_ok-push-in-Name c =
    rw c.in-Name.is (events_name (meaning_of c.args.names.now) c.args.body.now c.in-Name.name c.deref.result.now c.in_ok-one-in-Name.one c.in_ok-done-in-Name.done.items c.push.new.self.items c.deref.ensures.value c.in_ok-done-in-Name.ensures.items c.in_ok-push-in-Name.ensures.items c.in_ok-one-in-Name.ensures)

pub returns-in-Terms : goal.returns-in-Terms
returns-in-Terms c =
    rw c.in-Terms.is (events_terms (meaning_of c.args.names.now) c.args.body.now c.in-Terms.first c.in-Terms.others c.deref-in-Terms-2.result.now c.terms.result c.deref-in-Terms-2.ensures.value (rw c.deref-in-Terms.ensures at c.terms.ensures))
