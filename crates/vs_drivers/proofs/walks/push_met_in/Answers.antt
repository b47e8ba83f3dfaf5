use Rattle.std.proofs.Common.{[], ◌∷◌, ◌++◌, if◌then◌else◌, refl, sym, append_assoc}
use Rattle.vs_design.proofs.LoopLemmas.{went_on, all_pushed}
use Rattle.vs_drivers.specs.declared.writers.Written.{Written}
use Rattle.vs_drivers.specs.Meets.{meet_among}
use Rattle.vs_drivers.specs.Walks.{met_in}
use Rattle.vs_drivers.proofs.walks.push_met_in.Goals as goal

pub loop-written-preserved : goal.loop-written-preserved
loop-written-preserved c =
    let one = λ (w : Written). if meet_among c.args.signals.now w.range c.args.range then w.driver ∷ [] else [] in
    went_on (λ ys rs. rs ++ met_in c.args.signals.now ys c.args.range) (λ w rs. rs ++ one w)
    (λ w ys rs. sym (append_assoc rs (one w) (met_in c.args.signals.now ys c.args.range))) c.args.row.now c.loop-written.written-index _ _
    c.loop-written.out.items c.push_one.new.out.items _ c.loop-written-test.true refl c.in_ok-push_one.ensures c.loop-written.invariant

pub returns : goal.returns
returns c =
    all_pushed (λ (w : Written). if meet_among c.args.signals.now w.range c.args.range then w.driver ∷ [] else []) c.args.row.now c.loop-written.written-index
    c.loop-written.out.items _ c.loop-written-test.false c.loop-written.invariant
