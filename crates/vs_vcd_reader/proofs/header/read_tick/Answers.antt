use Rattle.std.proofs.Common.{[], refl}
use Rattle.vs_vcd_reader.specs.declared.fault.VcdFault.TheVariants as f
use Rattle.vs_vcd_reader.specs.Steps.{Item as i, Place as p}
use Rattle.vs_vcd_reader.proofs.FaultLemmas.{told_bad, told_end}
use Rattle.vs_vcd_reader.proofs.FollowLemmas.{text_more}
use Rattle.vs_vcd_reader.proofs.HeaderLemmas.{start_refuses, unended_header}
use Rattle.vs_vcd_reader.proofs.header.read_tick.Goals as goal

pub returns-in_default : goal.returns-in_default
returns-in_default c =
    told_end p.Start c.args.text.now c.header_end.result c.in_default.ensures (λ _ h. h)
    (unended_header p.Start c.args.text.now c.tick_goes_on-goes_on.result c.header_end.result refl c.tick_goes_on-goes_on.ensures c.header_end.ensures.cut c.header_end.ensures.bad)

pub returns-in-Some-span_of : goal.returns-in-Some-span_of
returns-in-Some-span_of c =
    text_more c.args.text.now [] (i.Tick c.in-Some-span_of.tick) c.args.text.now c.in-Some.line.now c.in-Some.rest.now refl c.in-Some.ensures.is
    c.in-Some-span_of.ensures

pub returns-in-None : goal.returns-in-None
returns-in-None c =
    told_bad p.Start c.args.text.now c.in-Some.line.now c.in-Some.rest.now f.Header c.in-Some.ensures (start_refuses c.in-Some.line.now c.in-None.ensures) refl
