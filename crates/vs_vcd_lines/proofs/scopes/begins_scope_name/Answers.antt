use Rattle.vs_vcd_lines.specs.BeginningsParts.{IsScopeEnd}
use Rattle.vs_vcd_lines.proofs.PartLemmas.{named_after, named_within}
use Rattle.vs_vcd_lines.proofs.ScopeLemmas.{scope_end_some, scope_tails}
use Rattle.vs_vcd_lines.proofs.scopes.begins_scope_name.Goals as goal

pub returns-in-Some : goal.returns-in-Some
returns-in-Some c =
    named_after (IsScopeEnd c.args.kind) c.args.text.now c.in-Some.rest.now c.begins_scope_end.result (scope_tails c.args.kind) c.in-Some.ensures
    c.begins_scope_end.ensures

pub returns-in-None : goal.returns-in-None
returns-in-None c =
    named_within (IsScopeEnd c.args.kind) c.args.text.now c.begins_name.result (scope_tails c.args.kind) (scope_end_some c.args.kind) c.in-None.ensures
    c.begins_name.ensures
