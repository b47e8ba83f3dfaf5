use Rattle.vs_parse_expressions.proofs.ListsLists.{pushed_one}
use Rattle.vs_parser.proofs.header.with_others.Goals as goal

pub returns : goal.returns
returns g c =
    let one = pushed_one _ _ _ c.in_ok-push.ensures.items c.new-tree.ensures.items in
    rw (← one) c.others.ensures
