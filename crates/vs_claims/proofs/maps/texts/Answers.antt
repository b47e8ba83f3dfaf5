use Rattle.std.proofs.Common.{arith}
use Rattle.vs_claims.proofs.MapLemmas.{counts_at, more_first, all_first}
use Rattle.vs_claims.proofs.maps.texts.Goals as goal

pub of-requires : goal.of-requires
of-requires c =
    counts_at c.args.design.now c.is_well_formed.ensures c.args.codes.now c.requires c.loop-code.code-index c.code-item.result c.loop-code-test.true c.code-item.is

pub loop-code-preserved : goal.loop-code-preserved
loop-code-preserved c =
    more_first c.args.codes.now c.loop-code.texts.items c.push.new.self.items c.loop-code.code-index c.code-item.result c.in_ok-of.field-0
    c.loop-code.invariant c.loop-code-test.true c.code-item.is c.in_ok-of.ensures c.in_ok-push.ensures.items

pub returns : goal.returns
returns c =
    all_first c.args.design.now c.args.codes.now c.loop-code.texts.items c.loop-code.code-index c.requires c.loop-code.invariant c.loop-code-test.false
    (omega arith)
