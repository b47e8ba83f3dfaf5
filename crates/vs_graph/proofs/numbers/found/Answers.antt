use Rattle.std.proofs.lemmas.List.Sorted.{searched}
use Rattle.vs_graph.proofs.NumberLemmas.{no_fall, not_there}
use Rattle.vs_graph.proofs.numbers.found.Goals as goal

pub returns-in-Err : goal.returns-in-Err
returns-in-Err c =
    not_there c.args.numbers.now c.args.number c.in-Err.field-0 c.binary_search.result c.in-Err.is
    (searched c.args.numbers.now c.args.number c.binary_search.result c.binary_search.ensures.position (no_fall c.args.numbers.now c.requires))
