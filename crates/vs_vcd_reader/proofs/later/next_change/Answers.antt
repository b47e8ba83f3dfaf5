use Rattle.std.proofs.Common.{◌<◌, length, refl, sym, ◌∙◌, arith}
use Rattle.std.proofs.lemmas.Bool.{false≢true}
use Rattle.std.proofs.lemmas.Option.{slice_get_read, slice_get_within}
use Rattle.vs_vcd_reader.proofs.NoneLemmas.{early_change, same_change}
use Rattle.vs_vcd_reader.proofs.later.next_change.Goals as goal

pub returns-then-change-from : goal.returns-then-change-from
returns-then-change-from c =
    early_change c.args.widths.now c.args.line.now c.args.values.now c.args.from (length c.args.widths.now) _ c.in-Some.change c.in-Some.ensures
    c.if-change-from.true refl c.body_fault-then-change-from.ensures

pub offset_bounds-values-change : goal.offset_bounds-values-change
offset_bounds-values-change c =
    let below = slice_get_within c.args.widths.now c.in-Some.change.number (length c.in-Some.change.value) c.in-Some.ensures.0 in
    let sizes = c.requires.values in
    let within : c.in-Some.change.number < length c.args.values.now = omega (arith, below, sizes) in
    omega (arith, within)

pub bounds-values-change : goal.bounds-values-change
bounds-values-change c =
    let below = slice_get_within c.args.widths.now c.in-Some.change.number (length c.in-Some.change.value) c.in-Some.ensures.0 in
    let sizes = c.requires.values in
    omega (arith, below, sizes)

pub returns-then-same : goal.returns-then-same
returns-then-same c =
    let below = slice_get_within c.args.widths.now c.in-Some.change.number (length c.in-Some.change.value) c.in-Some.ensures.0 in
    let sizes = c.requires.values in
    let within : c.in-Some.change.number < length c.args.values.now = omega (arith, below, sizes) in
    let old = c.index-values-change.result in
    same_change c.args.widths.now c.args.line.now c.args.values.now c.args.from (length c.args.widths.now) _ c.in-Some.change old c.in-Some.ensures
    (slice_get_read c.args.values.now (length c.args.values.now) c.in-Some.change.number old refl within c.index-values-change.is) (c.same.ensures.0 c.if-same.true)
    refl c.body_fault-then-same.ensures

pub returns : goal.returns
returns c =
    let below = slice_get_within c.args.widths.now c.in-Some.change.number (length c.in-Some.change.value) c.in-Some.ensures.0 in
    let sizes = c.requires.values in
    let within : c.in-Some.change.number < length c.args.values.now = omega (arith, below, sizes) in
    let old = c.index-values-change.result in (
      c.if-change-from.false,
      record {
        old = old;
        sized = c.in-Some.ensures.0;
        before = slice_get_read c.args.values.now (length c.args.values.now) c.in-Some.change.number old refl within c.index-values-change.is;
        differs = λ e. false≢true (sym c.if-same.false ∙ c.same.ensures.1 e);
      },
      c.in-Some.ensures.1,
    )
