use Rattle.std.proofs.Common.{arith}
use Rattle.vs_syntax.specs.vs_logic4.proofs.Basics.{get_or_same}
use Rattle.vs_program_words.proofs.Indexed.{all_indexed, one_indexed}
use Rattle.vs_program_words.proofs.tops.index_of.Goals as goal

pub loop-name-preserved : goal.loop-name-preserved
loop-name-preserved c =
    let i = c.loop-name.name-index in
    one_indexed c.args.names.now i _ _ _ c.loop-name-test.true (get_or_same c.args.names.now i _ (omega arith)) c.loop-name.invariant c.in_ok-bind.ensures

pub returns : goal.returns
returns c = all_indexed c.args.names.now c.loop-name.name-index _ c.loop-name-test.false c.loop-name.invariant
