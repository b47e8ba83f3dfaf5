use Rattle.std.proofs.lemmas.Result.{err_from_is_err_and}
use Rattle.vs_parse_expressions.specs.Answers.{seen}
use Rattle.vs_parse_expressions.proofs.Exits.{fails_by}
use Rattle.vs_parse_expressions.specs.Lists.{comma_tail}
use Rattle.vs_parse_expressions.proofs.ListsLists.{adding_start, adding_push, adding_stuck, all_added, comma_shorter}
use Rattle.vs_parse_expressions.proofs.list.others.Goals as goal

pub loop-after-init : goal.loop-after-init
loop-after-init g c = record {
  adding = adding_start g.T.Element.grammar c.args.depth g.T.Element.tree_of _ _ _ c.split_at.ensures.back;
}

pub returns-in_err-other : goal.returns-in_err-other
returns-in_err-other g c =
    let p = err_from_is_err_and c.from_residual.result c.from_residual.ensures.1 in
    rw (p.1, p.2) (fails_by g.T.Element.grammar (comma_tail g.T.Element.grammar) c.args.depth c.args.depth (seen c.in-Some.after.now) (seen c.args.tokens.now)
    (λ deep at s. adding_stuck g.T.Element.grammar c.args.depth deep g.T.Element.tree_of _ _ _ at _ _ c.requires c.loop-after.invariant.adding c.in-Some.ensures s)
    c.in_err-other.field-0.0 c.in_err-other.ensures)

pub loop-after-smaller : goal.loop-after-smaller
loop-after-smaller g c = comma_shorter g.T.Element.grammar c.args.depth _ _ _ _ c.in-Some.ensures c.in_ok-other.ensures

pub loop-after-preserved : goal.loop-after-preserved
loop-after-preserved g c = record {
  adding = adding_push g.T.Element.grammar c.args.depth g.T.Element.tree_of _ _ _ _ _ _ _ _ c.in_ok-push.ensures.items c.loop-after.invariant.adding c.in-Some.ensures c.in_ok-other.ensures;
}

pub returns : goal.returns
returns g c = all_added g.T.Element.grammar c.args.depth g.T.Element.tree_of _ _ _ _ c.loop-after.invariant.adding c.in_default.ensures
