use Rattle.std.proofs.Common.{length, length-set, refl, ap, ◌∙◌, arith}
use Rattle.vs_vcd_writing.proofs.RoomLemmas.{gather_more}
use Rattle.vs_vcd_writing.proofs.room.gather.Goals as goal

pub loop-signal-init : goal.loop-signal-init
loop-signal-init c = record {
  long = refl;
  words = λ k ge lt. absurd (omega (arith, ge, lt));
}

pub set-requires : goal.set-requires
set-requires c = omega (arith, c.loop-signal.invariant.long, c.requires.within, c.loop-signal-test.true)

pub loop-signal-preserved : goal.loop-signal-preserved
loop-signal-preserved c = record {
  long = ap length c.set.ensures ∙ length-set c.loop-signal.now c.loop-signal.signal c.shown.result ∙ c.loop-signal.invariant.long;
  words = gather_more c.loop-signal.now c.set.new.self c.args.store.now c.args.from c.loop-signal.signal c.shown.result
      (omega (arith, c.loop-signal.invariant.long, c.requires.within, c.loop-signal-test.true)) c.set.ensures c.shown.ensures c.loop-signal.invariant.words;
}

pub returns-clause-long : goal.returns-clause-long
returns-clause-long c = c.loop-signal.invariant.long

pub returns-clause-words : goal.returns-clause-words
returns-clause-words c k ge lt = c.loop-signal.invariant.words k ge (omega (arith, c.loop-signal-test.false, lt))
