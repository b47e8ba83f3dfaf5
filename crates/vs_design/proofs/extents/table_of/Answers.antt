use Rattle.std.proofs.Common.{◌≡◌, ◌∙◌, ◌++◌, ◌∷◌, [], ◌+◌, take, ap, subst, arith, sym, refl}
use Rattle.std.specs.Prelude.{sum_by}
use Rattle.std.proofs.lemmas.List.{take_more, take_all}
use Rattle.std.proofs.lemmas.List.Sums.{sum_by_push}
use Rattle.vs_design.specs.declared.extent.Layout.{Layout}
use Rattle.vs_design.specs.declared.signal.Signal.{Signal}
use Rattle.vs_design.specs.Tables.{AreExtents}
use Rattle.vs_design.proofs.ExtentLemmas.{extents_added}
use Rattle.vs_design.proofs.extents.table_of.Goals as goal

pub loop-signal-preserved : goal.loop-signal-preserved
loop-signal-preserved c =
    let signals = c.args.signals.now in
    let i = c.loop-signal.signal-index in
    let s = c.signal-item.result in
    let es = c.loop-signal.extents.items in
    let next : take (i + 1) signals ≡ take i signals ++ s ∷ [] =
    take_more signals i s c.loop-signal-test.true ∙ ap (λ (x : Signal). take i signals ++ x ∷ []) (sym c.signal-item.is) in
    let count = λ (x : Layout). x.count in
    let more : sum_by count c.push.new.self.items ≡ sum_by count es + s.count = ap (sum_by count) c.in_ok-push.ensures.items ∙ sum_by_push count es _ in
    record {
      extents = rw (next, c.in_ok-push.ensures.items) (extents_added (take i signals) es s _ c.loop-signal.invariant.extents c.loop-signal.invariant.end refl refl);
      end = omega (arith, more, c.loop-signal.invariant.end);
    }

pub returns : goal.returns
returns c = subst (λ ss. AreExtents ss c.loop-signal.extents.items) (take_all c.loop-signal.signal-index c.args.signals.now c.loop-signal-test.false) c.loop-signal.invariant.extents
