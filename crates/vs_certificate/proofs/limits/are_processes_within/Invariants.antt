use Rattle.std.proofs.Common.{◌≡◌, drop, map, codes}
use Rattle.serde_json.specs.View.{items_of}
use Rattle.vs_certificate.specs.JsonValue.{process_value}
use Rattle.vs_certificate.specs.Shape.{all_items, passes_at}
use Rattle.vs_certificate.specs.Limits.{are_slots}
use Rattle.vs_certificate.proofs.limits.are_processes_within.Given as goal

-- the processes that are left pass where all do
abbrev pub invariant-loop-process : goal.invariant-loop-process
invariant-loop-process l =
    let test = passes_at (are_slots l.most l.modulus) (codes "slots") in
    all_items test (items_of (map process_value (drop l.process-index l.processes))) ≡ all_items test (items_of (map process_value l.processes))
