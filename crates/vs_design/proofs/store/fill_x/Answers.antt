use Rattle.std.proofs.Common.{◌≡◌, ◌≤◌, ◌∙◌, ap, rules, length, vec_len, arith}
use Rattle.std.specs.Prelude.{slice_set}
use Rattle.std.proofs.lemmas.Option.{slice_get_read, slice_get_past}
use Rattle.vs_design.specs.declared.range.BitRange.{BitRange}
use Rattle.vs_design.specs.Drivers.{driven_word}
use Rattle.vs_design.specs.Stores.{changed_at}
use Rattle.vs_design.proofs.Stores.{changed_at-set, changed_at-past}
use Rattle.vs_design.proofs.store.fill_x.Goals as goal

pub returns-then-signal-len : goal.returns-then-signal-len
returns-then-signal-len c =
    let words = c.args.words.now.items in
    let i = c.aim_range-signal.result.signal in
    let w = c.index-word.result.now in
    let f = driven_word c.args.aim.now in
    let len : vec_len c.args.words.now ≡ length words = search rules in
    let here = slice_get_read words c.len.result i w (c.len.ensures ∙ len) c.if-signal-len.true c.index-word.ensures in
    ap (slice_set words i) c.driven_word.ensures ∙ changed_at-set f i words w here ∙ ap (λ (r : BitRange). changed_at f r.signal words) c.aim_range-signal.ensures

pub returns-else-signal-len : goal.returns-else-signal-len
returns-else-signal-len c =
    let words = c.args.words.now.items in
    let i = c.aim_range-signal.result.signal in
    let f = driven_word c.args.aim.now in
    let len : vec_len c.args.words.now ≡ length words = search rules in
    let past : length words ≤ i = omega (arith, len, c.len.ensures, c.if-signal-len.false) in
    changed_at-past f i words (slice_get_past words i past) ∙ ap (λ (r : BitRange). changed_at f r.signal words) c.aim_range-signal.ensures
