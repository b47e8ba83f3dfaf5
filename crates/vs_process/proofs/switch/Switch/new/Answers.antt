use Rattle.std.proofs.Common.{ℕ, List, ap, subst, ◌∙◌}
use Rattle.vs_process.specs.declared.switch.Label.{Label}
use Rattle.vs_process.specs.Choices.{index_of}
use Rattle.vs_process.specs.Landings.{start_where}
use Rattle.vs_process.specs.Steps.{is_default}
use Rattle.vs_process.specs.Switches.{AreLabels, walked}
use Rattle.vs_process.proofs.SwitchLemmas.{switch_made}
use Rattle.vs_process.proofs.switch.Switch.new.Goals as goal

pub invariant_of-result : goal.invariant_of-result
invariant_of-result c =
    let otherwise = c.index_of-otherwise.result in
    let starts = c.starts_of-starts.result.now in
    record {
      made =
          switch_made c.args.case c.args.design.now.signals c.in_ok-subject.subject c.in_ok-labels.labels c.in_ok-all.all.items otherwise (start_where is_default c.args.case.items.now starts)
          c.in_ok-subject.ensures c.in_ok-labels.ensures.known
          (subst (λ (s : List ℕ). AreLabels c.args.case s otherwise c.in_ok-all.all.items) c.starts_of-starts.ensures c.in_ok-all.ensures)
          (λ digits store time.
          c.in_ok-labels.ensures.leads digits store time ∙ ap (λ (l : List Label). walked c.args.case.kind digits store time l otherwise) c.deref.ensures.value)
          (c.index_of-otherwise.ensures ∙ ap (λ (n : ℕ). index_of c.args.case.count n) c.default_place-place.ensures)
          (ap (λ (s : List ℕ). start_where is_default c.args.case.items.now s) c.starts_of-starts.ensures);
    }
