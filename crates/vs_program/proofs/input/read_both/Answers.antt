use Rattle.vs_program.proofs.Reading.{all_read, read_more}
use Rattle.vs_program.proofs.input.read_both.Goals as goal

pub loop-byte-preserved : goal.loop-byte-preserved
loop-byte-preserved g c =
    read_more _ _ _ c.in_ok-byte.field-0 c.loop-byte.kept c.take_byte.new.self c.loop-byte.invariant (rw c.in_ok-byte.was at c.in-Some.ensures.steps)
    (λ seen h. c.in_ok-take_byte.ensures seen h)

pub returns : goal.returns
returns g c = record { kept = all_read _ _ c.loop-byte.kept c.loop-byte.invariant c.in-None.ensures.steps }
