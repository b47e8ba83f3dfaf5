use Rattle.std.proofs.Common.{◌∙◌, sym, arith}
use Rattle.vs_widths.proofs.NameLemmas.{found_own, found_outward, next_scope}
use Rattle.vs_widths.proofs.levels.found_in.Goals as goal

pub returns-in-Some : goal.returns-in-Some
returns-in-Some c =
    found_own c.names-item.result.now _ c.args.name.now _ c.in-Some.binding c.find.ensures c.in-Some.is
    ∙ sym (next_scope c.args.scopes.now c.loop-names.names-index c.names-item.result c.args.name.now (omega arith) c.names-item.is) ∙ c.loop-names.invariant

pub loop-names-preserved : goal.loop-names-preserved
loop-names-preserved c =
    sym (found_outward c.names-item.result.now _ c.args.name.now c.find.result c.find.ensures c.in_default.is)
    ∙ sym (next_scope c.args.scopes.now c.loop-names.names-index c.names-item.result c.args.name.now (omega arith) c.names-item.is) ∙ c.loop-names.invariant
