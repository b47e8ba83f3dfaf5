use Rattle.std.proofs.Common.{arith}
use Rattle.vs_preprocess.specs.Limits.{work_limit}
use Rattle.vs_preprocess.specs.Places.{sources_of}
use Rattle.vs_preprocess.proofs.Segments.{kept_inside, kept_mapped, kept_worked, opened_inside, opened_mapped, opened_worked}
use Rattle.vs_preprocess.proofs.output.Output.open.Goals as goal

pub invariant_of-self-in-Err : goal.invariant_of-self-in-Err
invariant_of-self-in-Err c =
    let made = c.args.self.now in
    let files = c.in-Err.ensures.items in
    record {
      small = made.small;
      worked = kept_worked made.files.items _ made.work work_limit files made.worked;
      inside = kept_inside made.files.items _ made.segments.items files made.inside;
      begins = made.begins;
      follow = made.follow;
      covered = made.covered;
      mapped = kept_mapped made.files.items _ (sources_of made.segments.items) made.text.items files made.mapped;
    }

pub invariant_of-self-in-Ok : goal.invariant_of-self-in-Ok
invariant_of-self-in-Ok c =
    let made = c.args.self.now in
    let files = c.in-Ok.ensures.items in
    record {
      small = made.small;
      worked = opened_worked made.files.items _ _ made.work c.len-size.result work_limit files (omega arith) (omega arith) made.worked;
      inside = opened_inside made.files.items _ _ made.segments.items files made.inside;
      begins = made.begins;
      follow = made.follow;
      covered = made.covered;
      mapped = opened_mapped made.files.items _ _ (sources_of made.segments.items) made.text.items files made.mapped;
    }
