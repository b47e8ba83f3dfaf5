use Rattle.std.proofs.Common.{◌≡◌, true, Some, option_map, sym, ap, ◌∙◌}
use Rattle.serde_json.specs.Find.{as_array}
use Rattle.serde_json.specs.View.{view, items_view}
use Rattle.vs_certificate.specs.Shape.{is_natural, all_items}
use Rattle.vs_certificate.proofs.Lists.{all_items-at, array_from_items, images_more, images_all}
use Rattle.vs_certificate.proofs.form.VecJsonForm.from_value.Goals as goal

pub from_value-requires : goal.from_value-requires
from_value-requires g c =
    let items : as_array (view c.args.json.now) ≡ Some (items_view c.unwrap-list.result.now.items) = sym c.as_array.ensures ∙ ap (option_map (λ v. items_view v.now.items)) c.unwrap-list.ensures in
    let all : all_items (g.T.JsonForm.json_shape is_natural) (items_view c.deref-entry-items.result.now) ≡ true = rw (c.deref-entry-items.ensures.value) (rw items at c.requires) in
    rw c.entry-item.is (all_items-at (g.T.JsonForm.json_shape is_natural) c.deref-entry-items.result.now c.loop-entry.entry-index c.entry-item.result c.loop-entry-test.true all)

pub loop-entry-preserved : goal.loop-entry-preserved
loop-entry-preserved g c =
    rw c.in_ok-push.ensures.items (images_more g.T.JsonForm.json_value view c.loop-entry.entries.items c.in_ok-from_value.field-0 c.deref-entry-items.result.now c.loop-entry.entry-index c.entry-item.result
    c.loop-entry-test.true c.entry-item.is c.in_ok-from_value.ensures c.loop-entry.invariant)

pub returns : goal.returns
returns g c =
    let items : as_array (view c.args.json.now) ≡ Some (items_view c.unwrap-list.result.now.items) = sym c.as_array.ensures ∙ ap (option_map (λ v. items_view v.now.items)) c.unwrap-list.ensures in
    images_all g.T.JsonForm.json_value view c.loop-entry.entries.items c.deref-entry-items.result.now c.loop-entry.entry-index c.loop-entry-test.false c.loop-entry.invariant
    ∙ sym (array_from_items _ _ items ∙ rw c.deref-entry-items.ensures.value)
