use Rattle.std.proofs.Common.{◌≡◌, drop}
use Rattle.serde_json.specs.View.{view, items_view}
use Rattle.vs_certificate.specs.Shape.{all_items, lacks}
use Rattle.vs_certificate.specs.Shape as Shape
use Rattle.vs_certificate.proofs.whole.has_none.Given as goal

-- the entries that are left pass where all do
abbrev pub invariant-loop-entry : goal.invariant-loop-entry
invariant-loop-entry l = all_items (lacks l.name l.word) (items_view (drop l.entry-index l.entry-items)) ≡ Shape.has_none l.list l.name l.word (view l.json)
