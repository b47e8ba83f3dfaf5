use Rattle.std.proofs.Common.{◌∙◌}
use Rattle.serde_json.specs.View.{view}
use Rattle.serde_json.proofs.Views.{view-Array}
use Rattle.vs_certificate.proofs.Lists.{images_more, images_all}
use Rattle.vs_certificate.proofs.form.VecJsonForm.to_value.Goals as goal

pub loop-entry-preserved : goal.loop-entry-preserved
loop-entry-preserved g c =
    rw c.in_ok-push.ensures.items (images_more view g.T.JsonForm.json_value c.loop-entry.list.items c.in_ok-to_value.field-0 c.deref-entry-items.result.now c.loop-entry.entry-index c.entry-item.result
    c.loop-entry-test.true c.entry-item.is c.in_ok-to_value.ensures c.loop-entry.invariant)

pub returns : goal.returns
returns g c =
    view-Array c.loop-entry.list
    ∙ images_all view g.T.JsonForm.json_value c.loop-entry.list.items c.deref-entry-items.result.now c.loop-entry.entry-index c.loop-entry-test.false c.loop-entry.invariant ∙ rw c.deref-entry-items.ensures.value
