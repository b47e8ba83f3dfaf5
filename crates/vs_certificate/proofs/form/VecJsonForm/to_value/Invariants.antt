use Rattle.std.proofs.Common.{◌≡◌, map, take}
use Rattle.serde_json.specs.View.{view}
use Rattle.vs_certificate.proofs.form.VecJsonForm.to_value.Given as goal

abbrev pub invariant-loop-entry : goal.invariant-loop-entry
invariant-loop-entry g l = map view l.list.items ≡ map g.T.JsonForm.json_value (take l.entry-index l.entry-items)
