use Rattle.vs_vcd_lines.proofs.ScopeLemmas.{scope_after, scope_before}
use Rattle.vs_vcd_lines.proofs.scopes.begins_scope.Goals as goal

pub returns-in-Some : goal.returns-in-Some
returns-in-Some c =
    scope_after c.args.kind c.args.part.now c.in-Some.rest.now c.scope_beginning-beginning.result.now c.begins_scope_name.result c.scope_beginning-beginning.ensures
    c.in-Some.ensures c.begins_scope_name.ensures

pub returns-in-None : goal.returns-in-None
returns-in-None c =
    scope_before c.args.kind c.args.part.now c.scope_beginning-beginning.result.now c.begins.result c.scope_beginning-beginning.ensures c.in-None.ensures
    c.begins.ensures
