use Rattle.std.proofs.Common.{◌≡◌, ◌<◌, ◌+◌, ◌-◌, arith, length, map, subst}
use Rattle.std.specs.List.{sum_by}
use Rattle.std.specs.Vec.{vec_len}
use Rattle.vs_preprocess.specs.declared.places.Form.{Form}
use Rattle.vs_preprocess.specs.Files.{bytes_of}
use Rattle.vs_preprocess.specs.Places.{AreFrom, size_of, sources_in}
use Rattle.vs_preprocess.specs.passes.Segments.{IsReached}
use Rattle.vs_preprocess.proofs.Segments.{all_inside_set, begins_set, line_set, longer_covered, longer_mapped}
use Rattle.vs_preprocess.proofs.output.Output.put_from.Goals as goal

pub invariant_of-self-in-Some : goal.invariant_of-self-in-Some
invariant_of-self-in-Some c =
    let made = c.args.self.now in
    let files = map bytes_of made.files.items in
    let segments = made.segments.items in
    let bytes = c.args.bytes.now in
    let spot = c.args.spot in
    let place = c.len-count.result - 1 in
    let last = c.index.result.now in
    let longer = c.in-Some.longer in
    let end : place + 1 ≡ length segments = omega (arith, made.segments.ok.0) in
    let less : place < length segments = omega arith in
    let reached = subst (λ (f : Form). IsReached files (length bytes) spot f) c.in-Copied.is c.requires.reached in
    let from = subst (λ (f : Form). AreFrom files (sources_in f spot (length bytes)) bytes) c.in-Copied.is c.requires.from in
    let old : sum_by size_of segments ≡ vec_len made.text = made.covered in
    let sizes = longer_covered segments place last longer (length bytes) spot c.index.ensures less c.in-Some.ensures in
    record {
      small = omega (arith, c.in_ok-extend_from_slice.ensures.len);
      worked = made.worked;
      inside = all_inside_set files segments place last longer (length bytes) spot c.in-Some.ensures reached made.inside;
      begins = begins_set segments place last longer c.index.ensures less (c.in-Some.ensures).offset made.begins;
      follow = line_set 0 segments place last longer (length bytes) spot c.index.ensures end c.in-Some.ensures made.follow;
      covered = omega (arith, c.in_ok-extend_from_slice.ensures.len);
      mapped = longer_mapped files segments place last longer spot made.text.items bytes _ c.index.ensures end c.in-Some.ensures c.in_ok-extend_from_slice.ensures.items made.mapped from;
    }
