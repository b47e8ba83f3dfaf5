use Rattle.std.proofs.Common.{length, refl}
use Rattle.vs_process.proofs.Numbers.{numbers_apart}
use Rattle.vs_process.proofs.ScriptLists.{starts_at}
use Rattle.vs_process.proofs.script.Script.new.Goals as goal

pub invariant_of-result : goal.invariant_of-result
invariant_of-result c = record {
  code = c.parts-counters.ensures.code;
  made = c.in_ok-instructions.ensures;
  apart = numbers_apart c.args.code.now c.parts-counters.result.0.now c.parts-counters.result.1 c.parts-counters.result.2 c.parts-counters.ensures c.requires.numbered;
}

pub returns-clause-starts : goal.returns-clause-starts
returns-clause-starts c =
    starts_at c.args.design.now.signals c.args.code.now c.parts-counters.result.0.now c.parts-counters.result.1 c.parts-counters.result.2 c.index_of-start.result
    (length c.parts-counters.result.0.now) c.parts-counters.ensures refl c.index_of-start.ensures
