use Rattle.std.proofs.Common.{map, codes, sym, ◌∙◌, arith}
use Rattle.serde_json.specs.View.{items_of}
use Rattle.vs_certificate.specs.JsonValue.{process_value}
use Rattle.vs_certificate.specs.Shape.{all_items, passes_at}
use Rattle.vs_certificate.specs.Limits.{are_slots}
use Rattle.vs_certificate.proofs.Images.{over_most, within_most, all_items-images_past}
use Rattle.vs_certificate.proofs.limits.are_processes_within.Goals as goal

pub returns-then-processes-gt-MAX_ENTRIES : goal.returns-then-processes-gt-MAX_ENTRIES
returns-then-processes-gt-MAX_ENTRIES c =
    let processes = c.args.processes.now in
    let test = passes_at (are_slots c.args.most c.args.modulus) (codes "slots") in
    over_most process_value processes 65536 (all_items test (items_of (map process_value processes))) (omega arith)

pub returns : goal.returns
returns c =
    let processes = c.args.processes.now in
    let test = passes_at (are_slots c.args.most c.args.modulus) (codes "slots") in
    let past = all_items-images_past process_value test processes c.loop-process.process-index (omega arith) in
    within_most process_value processes 65536 (all_items test (items_of (map process_value processes))) (omega arith) (sym past ∙ c.loop-process.invariant)
