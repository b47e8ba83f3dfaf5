use Rattle.std.proofs.Common.{sym, ◌∙◌, subst}
use Rattle.vs_rules_of_signals.specs.vs_claims.specs.Facts.{Case}
use Rattle.vs_rules_of_starts.specs.vs_rules.specs.Verdict as verdict
use Rattle.vs_rules_of_processes.specs.vs_drivers.specs.Wires.{IsWiringOf}
use Rattle.vs_cert_check.proofs.Asked.{asked, told}
use Rattle.vs_cert_check.proofs.sheet.keeps_of_process.Goals as goal

pub keeps_process_order-requires : goal.keeps_process_order-requires
keeps_process_order-requires c = c.sheet.invariant.cones_are

pub keeps_readings-requires-clause-wiring : goal.keeps_readings-requires-clause-wiring
keeps_readings-requires-clause-wiring c =
    subst (λ (k : Case). IsWiringOf k.design k.claims c.sheet.inside.cones.now) (sym c.sheet.invariant.slots_are) c.sheet.invariant.cones_are

pub keeps_readings-requires-clause-classes : goal.keeps_readings-requires-clause-classes
keeps_readings-requires-clause-classes c = c.sheet.invariant.classes_are

pub returns-in-0 : goal.returns-in-0
returns-in-0 c = told 0 (verdict.process c.args.i) c.keeps_process_name.result c.sheet.view_is c.in-0.is c.keeps_process_name.ensures

pub returns-in-3 : goal.returns-in-3
returns-in-3 c = asked 3 (verdict.process c.args.i) c.keeps_process_order.result c.sheet.view_is c.in-3.is c.keeps_process_order.ensures.exact

pub returns-in-4 : goal.returns-in-4
returns-in-4 c = asked 4 (verdict.process c.args.i) c.keeps_block.result c.sheet.view_is c.in-4.is c.keeps_block.ensures.exact

pub returns-in-6 : goal.returns-in-6
returns-in-6 c =
    asked 6 (verdict.process c.args.i) c.keeps_edges.result (c.sheet.invariant.slots_are ∙ c.sheet.view_is) c.in-6.is c.keeps_edges.ensures.exact

pub returns-in-7 : goal.returns-in-7
returns-in-7 c = asked 7 (verdict.process c.args.i) c.keeps_delays.result (c.sheet.invariant.slots_are ∙ c.sheet.view_is) c.in-7.is c.keeps_delays.ensures

pub returns-in-8 : goal.returns-in-8
returns-in-8 c =
    asked 8 (verdict.process c.args.i) c.keeps_readings.result (c.sheet.invariant.slots_are ∙ c.sheet.view_is) c.in-8.is c.keeps_readings.ensures.exact

pub returns-in-9 : goal.returns-in-9
returns-in-9 c =
    asked 9 (verdict.process c.args.i) c.keeps_first_slot.result (c.sheet.invariant.first_slot_is ∙ c.sheet.view_is) c.in-9.is
    c.keeps_first_slot.ensures.exact
