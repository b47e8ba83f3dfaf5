use Rattle.std.proofs.Common.{◌<◌, ◌≤◌, ℕ, List, length, sym, subst}
use Rattle.std.specs.List.{Contains}
use Rattle.vs_design.specs.declared.signal.Signal.{Signal}
use Rattle.vs_drivers.proofs.CopyLemmas.{all_sources, one_more}
use Rattle.vs_drivers.proofs.copies.sources_of.Goals as goal

pub source_of-requires : goal.source_of-requires
source_of-requires c j =
    let within = subst (λ (ss : List Signal). c.loop-v.v < length ss) c.signals-v-end.ensures c.loop-v-test.true in
    let x = c.requires c.loop-v.v j within in
    (λ h. x.0 (subst (λ (l : List ℕ). Contains l j) c.row.ensures h), λ y. subst (λ (l : List ℕ). Contains l j) (sym c.row.ensures) (x.1 y))

pub loop-v-preserved : goal.loop-v-preserved
loop-v-preserved c = one_more c.args.design.now c.args.inverse c.loop-v.v c.loop-v.sources.items c.push.new.self.items c.source_of.result c.loop-v.invariant c.in_ok-push.ensures.items c.source_of.ensures

pub returns : goal.returns
returns c =
    all_sources c.args.design.now c.args.inverse c.loop-v.v c.loop-v.sources.items (subst (λ (ss : List Signal). length ss ≤ c.loop-v.v) c.signals-v-end.ensures c.loop-v-test.false) c.loop-v.invariant
