use Rattle.vs_widths.specs.select_passes.Places.{selects_meaning}
use Rattle.vs_widths.proofs.PlaceLemmas.{words_placed}
use Rattle.vs_widths.proofs.places.of_words.Goals as goal

pub returns-in_ok-extent-in-None : goal.returns-in_ok-extent-in-None
returns-in_ok-extent-in-None c =
    words_placed c.args.meaning.words c.args.meaning c.args.signal (selects_meaning c.args.selects.items) c.in_signal.result c.in-None.is (c.in_signal.ensures _ c.in_ok-extent-in-None.ensures)
