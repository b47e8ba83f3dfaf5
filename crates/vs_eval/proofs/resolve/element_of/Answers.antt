use Rattle.vs_eval.proofs.resolve.element_of.Goals as goal

pub returns-then-is_lowest : goal.returns-then-is_lowest
returns-then-is_lowest c = record {
  words = c.in_ok-array.ensures;
  wide = c.if-s-array.false;
  lowest = c.is_lowest.ensures c.if-is_lowest.true;
}
