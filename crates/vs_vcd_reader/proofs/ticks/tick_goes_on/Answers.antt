use Rattle.vs_vcd_reader.proofs.TickLemmas.{tick_after, tick_before}
use Rattle.vs_vcd_reader.proofs.ticks.tick_goes_on.Goals as goal

pub returns-in-Some : goal.returns-in-Some
returns-in-Some c = tick_after c.args.part.now c.in-Some.rest.now c.begins_span.result c.in-Some.ensures c.begins_span.ensures

pub returns-in-None : goal.returns-in-None
returns-in-None c = tick_before c.args.part.now c.begins.result c.in-None.ensures c.begins.ensures
