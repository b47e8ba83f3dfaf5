use Rattle.vs_cert_blocks.proofs.Open.{have_of, words_go_on}
use Rattle.vs_cert_blocks.proofs.walks.Walks.signal_is_written_first.Goals as goal

pub loop-word-preserved : goal.loop-word-preserved
loop-word-preserved c =
    let t = c.args.self.now.tables.now in
    let some = c.of_signal.result.now in record {
      first = words_go_on t some c.args.signal (have_of t c.args.self.now.sure.now some c.args.signal c.requires.sure c.of_signal.ensures) c.args.count c.args.width
          c.loop-word.word c.alike_words_until-word.result c.alike_words_until-word.ensures c.loop-word.invariant.first
          (c.in_ok-word_is_written_first.ensures.exact.0 c.if-not-branch.false);
      clear = c.in_ok-word_is_written_first.ensures.clear;
    }
