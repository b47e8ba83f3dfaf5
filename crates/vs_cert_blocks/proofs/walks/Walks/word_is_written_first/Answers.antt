use Rattle.vs_cert_blocks.proofs.Open.{have_of, places_go_on}
use Rattle.vs_cert_blocks.proofs.walks.Walks.word_is_written_first.Goals as goal

pub loop-place-preserved : goal.loop-place-preserved
loop-place-preserved c =
    let t = c.args.self.now.tables.now in
    let some = c.of_signal.result.now in record {
      first = places_go_on t some c.args.signal (have_of t c.args.self.now.sure.now some c.args.signal c.requires.sure c.of_signal.ensures) c.args.word c.args.width
          c.loop-place.place c.alike_until-place.result c.alike_until-place.ensures c.loop-place.invariant.first
          (c.in_ok-is_written_first.ensures.exact.0 c.if-not-branch.false);
      clear = c.in_ok-is_written_first.ensures.clear;
    }
