use Rattle.std.proofs.Common.{◌≡◌, ◌∙◌, ◌∷◌, ◌++◌, [], List, drop, map, ap, ap₂, sym, subst}
use Rattle.vs_design.specs.Writes.{Write}
use Rattle.vs_run_regions.specs.declared.update.Update.{Update}
use Rattle.vs_run_regions.specs.declared.update.Update.TheVariants as u
use Rattle.vs_run_regions.specs.Updates.{AreSlotUpdates, SlotView, left_of, what_of}
use Rattle.vs_run_regions.proofs.UpdatesLemmas.{listed_any, listed_grown, on_err, whats_any, whats_grown}
use Rattle.vs_run_regions.proofs.listing.SlotUpdates.push_any.Goals as goal

pub invariant_of-self-in_err-push-2 : goal.invariant_of-self-in_err-push-2
invariant_of-self-in_err-push-2 c =
    let s = c.self.inside in
    let grown : c.push.new.self.items ≡ s.due_writes.items ++ c.args.write ∷ [] = c.in_ok-push.ensures.items in
    let same : c.push-2.new.self.items ≡ s.due.items = c.in_err-push-2.ensures.items in (
      subst (λ d. AreSlotUpdates s.design.now.signals s.active.items s.made s.left s.writes.items d c.push.new.self.items) (sym same)
          (subst (λ w. AreSlotUpdates s.design.now.signals s.active.items s.made s.left s.writes.items s.due.items w) (sym grown)
          (listed_grown s.design.now.signals s.active.items s.made s.left s.writes.items s.due.items s.due_writes.items c.args.write c.self.invariant.0)),
      c.self.invariant.1,
    )

pub returns-in_err-push-2-clause-unpushed : goal.returns-in_err-push-2-clause-unpushed
returns-in_err-push-2-clause-unpushed c =
    let s = c.self.inside in
    let grown : c.push.new.self.items ≡ s.due_writes.items ++ c.args.write ∷ [] = c.in_ok-push.ensures.items in
    let same : c.push-2.new.self.items ≡ s.due.items = c.in_err-push-2.ensures.items in
    let whole : record { signals = s.design.now.signals; active = map (left_of s.writes.items) (drop s.made s.active.items); due = map (what_of c.push.new.self.items) c.push-2.new.self.items; writes = s.writes.items } ≡ c.args.self.now =
    ap (λ l. record { signals = s.design.now.signals; active = map (left_of s.writes.items) (drop s.made s.active.items); due = l; writes = s.writes.items })
    (ap₂ (λ (w : List Write) (d : List Update). map (what_of w) d) grown same ∙ whats_grown s.design.now.signals s.due_writes.items c.args.write s.due.items c.self.invariant.0.due_in)
    ∙ c.self.view_is
    in
    on_err c.from_residual-in_err-push-2.result whole

pub invariant_of-self-2 : goal.invariant_of-self-2
invariant_of-self-2 c =
    let s = c.self.inside in
    let grown : c.push.new.self.items ≡ s.due_writes.items ++ c.args.write ∷ [] = c.in_ok-push.ensures.items in
    let more : c.push-2.new.self.items ≡ s.due.items ++ u.Any c.len-number.result ∷ [] = c.in_ok-push-2.ensures.items in (
      subst (λ d. AreSlotUpdates s.design.now.signals s.active.items s.made s.left s.writes.items d c.push.new.self.items) (sym more)
          (subst (λ w. AreSlotUpdates s.design.now.signals s.active.items s.made s.left s.writes.items (s.due.items ++ u.Any c.len-number.result ∷ []) w) (sym grown)
          (listed_any s.design.now.signals s.active.items s.made s.left s.writes.items s.due.items s.due_writes.items c.args.write c.len-number.result (c.len-number.ensures ∙ s.due_writes.ok.0) c.self.invariant.0)),
      c.self.invariant.1,
    )

pub returns-clause-pushed : goal.returns-clause-pushed
returns-clause-pushed c =
    let s = c.self.inside in
    let grown : c.push.new.self.items ≡ s.due_writes.items ++ c.args.write ∷ [] = c.in_ok-push.ensures.items in
    let more : c.push-2.new.self.items ≡ s.due.items ++ u.Any c.len-number.result ∷ [] = c.in_ok-push-2.ensures.items in
    ap (λ l. record { signals = s.design.now.signals; active = map (left_of s.writes.items) (drop s.made s.active.items); due = l; writes = s.writes.items })
    (ap₂ (λ (w : List Write) (d : List Update). map (what_of w) d) grown more
    ∙ whats_any s.design.now.signals s.due.items s.due_writes.items c.args.write c.len-number.result (c.len-number.ensures ∙ s.due_writes.ok.0) c.self.invariant.0.due_in)
    ∙ ap (λ (l : SlotView). record l { due = l.due ++ c.args.write ∷ [] }) c.self.view_is
