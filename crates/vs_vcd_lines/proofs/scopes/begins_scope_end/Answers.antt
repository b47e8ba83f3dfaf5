use Rattle.vs_vcd_lines.proofs.ScopeLemmas.{block_first, block_second, module_end}
use Rattle.vs_vcd_lines.proofs.scopes.begins_scope_end.Goals as goal

pub returns-in-Module : goal.returns-in-Module
returns-in-Module c = module_end c.args.kind c.args.text.now c.begins.result c.in-Module.is c.begins.ensures

pub returns-then-begins : goal.returns-then-begins
returns-then-begins c =
    block_first c.args.kind c.args.text.now c.begins-in-Begin.result c.in-Begin.is c.if-begins.true c.begins-in-Begin.ensures

pub returns-else-begins : goal.returns-else-begins
returns-else-begins c =
    block_second c.args.kind c.args.text.now c.begins-in-Begin.result c.begins_turn.result c.in-Begin.is c.if-begins.false c.begins-in-Begin.ensures
    c.begins_turn.ensures
