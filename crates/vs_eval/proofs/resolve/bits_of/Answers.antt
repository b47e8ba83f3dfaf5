use Rattle.vs_eval.proofs.resolve.bits_of.Goals as goal

pub returns-then-is_lowest : goal.returns-then-is_lowest
returns-then-is_lowest c = record {
  words = c.in_ok-array.ensures;
  lowest = c.is_lowest.ensures c.if-is_lowest.true;
}
