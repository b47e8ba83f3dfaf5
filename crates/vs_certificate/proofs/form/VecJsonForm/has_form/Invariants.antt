use Rattle.std.proofs.Common.{◌≡◌, drop}
use Rattle.serde_json.specs.View.{view, items_view}
use Rattle.vs_certificate.specs.Shape.{is_number_of, all_items, is_list}
use Rattle.vs_certificate.proofs.form.VecJsonForm.has_form.Given as goal

-- the entries that are left pass where all do
abbrev pub invariant-loop-entry : goal.invariant-loop-entry
invariant-loop-entry g l =
    let test = g.T.JsonForm.json_shape (is_number_of l.fn.numbers) in
    all_items test (items_view (drop l.entry-index l.entry-items)) ≡ is_list test (view l.fn.json)
