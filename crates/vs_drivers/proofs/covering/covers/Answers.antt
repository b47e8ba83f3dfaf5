use Rattle.std.proofs.Common.{◌≡◌, Some, slice_get, leb-true}
use Rattle.std.proofs.lemmas.Bool.{le-leb}
use Rattle.vs_drivers.proofs.Words.{there}
use Rattle.vs_drivers.proofs.Bits.{all_words, one_word, no_word}
use Rattle.vs_drivers.proofs.covering.covers.Goals as goal

pub returns-in-None-word : goal.returns-in-None-word
returns-in-None-word c =
    let s = c.in-Some.signal.now in
    let x = c.in-Some.ensures.lookup in
    let is : slice_get c.args.design.now.signals c.args.range.signal ≡ Some s =
    there c.args.design.now c.signals.result.now c.args.range.signal s c.signals.ensures x.0 x.1 in
    all_words c.args.design.now c.args.ranges.now c.args.range s is c.low_of-low.result c.end_of-end.result c.low_of-low.ensures c.end_of-end.ensures
    c.in-None-word.is c.cover_words.result c.cover_words.ensures

pub returns-then-word-count : goal.returns-then-word-count
returns-then-word-count c =
    let s = c.in-Some.signal.now in
    let x = c.in-Some.ensures.lookup in
    let is : slice_get c.args.design.now.signals c.args.range.signal ≡ Some s =
    there c.args.design.now c.signals.result.now c.args.range.signal s c.signals.ensures x.0 x.1 in
    (λ h. no_word c.args.design.now c.args.ranges.now c.args.range s is c.in-Some-word.word c.in-Some-word.is (leb-true _ _ h), λ h. le-leb _ _ c.if-word-count.true)

pub returns-else-word-count : goal.returns-else-word-count
returns-else-word-count c =
    let s = c.in-Some.signal.now in
    let x = c.in-Some.ensures.lookup in
    let is : slice_get c.args.design.now.signals c.args.range.signal ≡ Some s =
    there c.args.design.now c.signals.result.now c.args.range.signal s c.signals.ensures x.0 x.1 in
    one_word c.args.design.now c.args.ranges.now c.args.range s is c.low_of-low.result c.end_of-end.result c.low_of-low.ensures c.end_of-end.ensures
    c.in-Some-word.word c.in-Some-word.is c.if-word-count.false c.cover_places.result c.cover_places.ensures
