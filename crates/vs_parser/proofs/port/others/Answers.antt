use Rattle.std.proofs.lemmas.Result.{err_from_is_err_and}
use Rattle.vs_parse_expressions.specs.Answers.{seen}
use Rattle.vs_parse_expressions.proofs.Exits.{fails_by}
use Rattle.vs_parse_expressions.proofs.ListsLists.{pushed_one}
use Rattle.vs_parser.specs.Ports.{other_by, others_by}
use Rattle.vs_parser.proofs.PortLemmas.{joined_start, joined_one, joined_stuck, joined_all, comma_shorter}
use Rattle.vs_parser.proofs.port.others.Goals as goal

pub loop-after-init : goal.loop-after-init
loop-after-init c = record { joined = joined_start c.args.said c.args.depth _ _ _ _ c.split_at.ensures.back (pushed_one _ _ _ c.in_ok-push.ensures.items c.new-tree.ensures.items) }

pub returns-in_err-other : goal.returns-in_err-other
returns-in_err-other c =
    let p = err_from_is_err_and c.from_residual-in_err-other.result c.from_residual-in_err-other.ensures.1 in
    rw (p.1, p.2) (fails_by (other_by c.loop-after.said) (others_by c.args.said) c.args.depth c.args.depth (seen c.in-Some.after.now) (seen c.args.first.rest.now)
    (λ deep at s. joined_stuck c.args.said c.loop-after.said c.args.depth deep _ _ _ at _ _ c.loop-after.invariant.joined c.in-Some.ensures s)
    c.in_err-other.field-0.0 c.in_err-other.ensures.reads)

pub loop-after-smaller : goal.loop-after-smaller
loop-after-smaller c = comma_shorter _ _ _ c.in-Some.ensures c.in_ok-other.ensures.shorter

pub loop-after-preserved : goal.loop-after-preserved
loop-after-preserved c = record {
  joined = rw c.after-said.ensures (joined_one c.args.said c.loop-after.said c.args.depth _ _ _ _ _ c.in_ok-other.other.tree _ _ c.in_ok-push-2.ensures.items c.loop-after.invariant.joined c.in-Some.ensures c.in_ok-other.ensures.reads);
}

pub returns : goal.returns
returns c = joined_all c.args.said c.loop-after.said c.args.depth _ _ _ _ c.loop-after.invariant.joined c.in_default.ensures
