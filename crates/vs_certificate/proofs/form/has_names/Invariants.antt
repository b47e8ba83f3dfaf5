use Rattle.std.proofs.Common.{◌≡◌, ◌≤◌, map, drop, length}
use Rattle.serde_json.specs.View.{view, members_view}
use Rattle.vs_certificate.specs.Shape.{are_names, has_names}
use Rattle.vs_certificate.proofs.form.has_names.Given as goal

-- the names that are left and the members that are left agree where all do
abbrev pub invariant-loop-key : goal.invariant-loop-key
invariant-loop-key l = record {
  within : l.next ≤ length l.names;
  rest : are_names (map (λ n. n.now) (drop l.next l.names)) (members_view l.key-iterator) ≡ has_names (map (λ n. n.now) l.names) (view l.json);
}
