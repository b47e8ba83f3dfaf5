use Rattle.std.proofs.Common.{arith, map}
use Rattle.vs_preprocess.specs.Files.{bytes_of}
use Rattle.vs_preprocess.proofs.Segments.{pushed_begins, pushed_covered, pushed_inside, pushed_line, pushed_mapped}
use Rattle.vs_preprocess.proofs.output.Output.put_segment.Goals as goal

pub invariant_of-self-in-Ok : goal.invariant_of-self-in-Ok
invariant_of-self-in-Ok c =
    let made = c.args.self.now in
    let files = map bytes_of made.files.items in
    let texts = c.in_ok-extend_from_slice.ensures.items in
    let segments = c.in-Ok.ensures.items in
    record {
      small = omega (arith, c.in_ok-extend_from_slice.ensures.len);
      worked = made.worked;
      inside = pushed_inside files made.segments.items _ _ segments c.requires.reached made.inside;
      begins = pushed_begins made.segments.items _ _ segments (omega arith) made.begins;
      follow = pushed_line made.segments.items _ _ segments (omega arith) made.follow;
      covered = pushed_covered made.segments.items _ _ _ _ segments c.in_ok-extend_from_slice.ensures.len made.covered;
      mapped = pushed_mapped files made.segments.items _ _ made.text.items c.args.bytes.now _ segments texts made.mapped c.requires.from;
    }
