use Rattle.vs_rules_of_starts.specs.vs_rules.specs.Verdict as verdict
use Rattle.vs_cert_check.proofs.Asked.{asked, told}
use Rattle.vs_cert_check.proofs.sheet.keeps_of_assign.Goals as goal

pub keeps_assign_order-requires : goal.keeps_assign_order-requires
keeps_assign_order-requires c = c.sheet.invariant.cones_are

pub returns-in-0 : goal.returns-in-0
returns-in-0 c = told 0 (verdict.assign c.args.j) c.keeps_assign_name.result c.sheet.view_is c.in-0.is c.keeps_assign_name.ensures

pub returns-in-3 : goal.returns-in-3
returns-in-3 c = asked 3 (verdict.assign c.args.j) c.keeps_assign_order.result c.sheet.view_is c.in-3.is c.keeps_assign_order.ensures.exact
