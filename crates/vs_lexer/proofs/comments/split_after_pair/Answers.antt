use Rattle.std.proofs.Common.{◌+◌, arith, sym, take-append-drop}
use Rattle.vs_lexer.proofs.Pairs.{pair_found, pair_missing}
use Rattle.vs_lexer.proofs.comments.split_after_pair.Goals as goal
use Rattle.vs_lexer.proofs.comments.split_after_pair.Goals.{else-bytes-index-via-then-bytes-index+else-bytes-index-2, else-bytes-index-via-else-bytes-index}

pub returns-then-bytes-index-2 : goal.returns-then-bytes-index-2
returns-then-bytes-index-2 c =
    let cut = c.split_at.ensures in (
      rw (cut.front, cut.back) (sym (take-append-drop (c.loop-index.index + 2) c.args.bytes.now)),
      rw cut.front (pair_found c.args.first c.args.second c.args.bytes.now c.loop-index.index c.loop-index-test.true c.loop-index.invariant.none (c.loop-index.index + 2) (omega arith) c.if-bytes-index.true c.if-bytes-index-2.true),
    )

pub loop-index-preserved : goal.loop-index-preserved
loop-index-preserved c =
    record {
      within = omega arith;
      none = pair_missing c.args.first c.args.second c.args.bytes.now c.loop-index.index c.loop-index-test.true c.loop-index.invariant.none (λ p q.
          elim c.else-bytes-index.branch [
            | else-bytes-index-via-then-bytes-index+else-bytes-index-2 w ↦ w.if-bytes-index-2.false q
            | else-bytes-index-via-else-bytes-index w ↦ w.if-bytes-index.false p
          ]);
    }
