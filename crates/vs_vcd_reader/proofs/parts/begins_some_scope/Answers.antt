use Rattle.vs_vcd_reader.proofs.BeginningLemmas.{block_tells, module_tells}
use Rattle.vs_vcd_reader.proofs.parts.begins_some_scope.Goals as goal

pub returns-then-begins_scope : goal.returns-then-begins_scope
returns-then-begins_scope c = module_tells c.args.part.now c.begins_scope.result c.if-begins_scope.true c.begins_scope.ensures

pub returns-else-begins_scope : goal.returns-else-begins_scope
returns-else-begins_scope c =
    block_tells c.args.part.now c.begins_scope.result c.begins_scope-else-begins_scope.result c.if-begins_scope.false c.begins_scope.ensures
    c.begins_scope-else-begins_scope.ensures
