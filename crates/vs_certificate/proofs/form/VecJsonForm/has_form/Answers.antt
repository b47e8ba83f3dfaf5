use Rattle.std.proofs.Common.{false, ap, sym, ◌∙◌}
use Rattle.std.specs.Option.{option_map_or}
use Rattle.std.proofs.lemmas.List.{at_drop_all}
use Rattle.serde_json.specs.View.{items_view}
use Rattle.vs_certificate.specs.Shape.{is_number_of, all_items}
use Rattle.vs_certificate.proofs.Lists.{entry_passes, entry_fails}
use Rattle.vs_certificate.proofs.form.VecJsonForm.has_form.Goals as goal

pub loop-entry-init : goal.loop-entry-init
loop-entry-init g c =
    let test = g.T.JsonForm.json_shape (is_number_of c.args.numbers) in
    ap (λ entries. all_items test (items_view entries)) c.deref-entry-items.ensures.value ∙ ap (λ items. option_map_or (all_items test) items false) c.in-Some.ensures

pub returns-then-not-has_form : goal.returns-then-not-has_form
returns-then-not-has_form g c =
    entry_fails (g.T.JsonForm.json_shape (is_number_of c.args.numbers)) c.deref-entry-items.result.now c.loop-entry.entry-index c.entry-item.result c.loop-entry-test.true c.entry-item.is (sym c.has_form.ensures ∙ c.if-not-has_form.true)
    ∙ c.loop-entry.invariant

pub loop-entry-preserved : goal.loop-entry-preserved
loop-entry-preserved g c =
    entry_passes (g.T.JsonForm.json_shape (is_number_of c.args.numbers)) c.deref-entry-items.result.now c.loop-entry.entry-index c.entry-item.result c.loop-entry-test.true c.entry-item.is (sym c.has_form.ensures ∙ c.if-not-has_form.false)
    ∙ c.loop-entry.invariant

pub returns : goal.returns
returns g c =
    let test = g.T.JsonForm.json_shape (is_number_of c.args.numbers) in
    sym (at_drop_all (λ entries. all_items test (items_view entries)) c.deref-entry-items.result.now c.loop-entry.entry-index c.loop-entry-test.false) ∙ c.loop-entry.invariant
