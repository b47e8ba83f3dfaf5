use Rattle.std.proofs.Common.{ℕ, Option, List, length, slice_get, sym, ◌∙◌, ap, subst}
use Rattle.vs_rules_of_signals.specs.vs_graph.specs.Verdicts.{IsFirst}
use Rattle.vs_rules_of_starts.specs.vs_rules.specs.Verdict.{subjects}
use Rattle.vs_cert_check.specs.Verdicts.{KeepsAt}
use Rattle.vs_cert_check.proofs.BrokenLemmas.{is_first}
use Rattle.vs_cert_check.proofs.judging.first_start.Goals as goal

pub returns : goal.returns
returns c =
    let k = c.args.sheet.now in
    let keeps = KeepsAt k.design k.claims 10 in
    let n = length (subjects k.design k.claims) in
    subst (λ (x : Option ℕ). IsFirst keeps n x)
    (sym (c.copied.ensures ∙ c.first.ensures.value ∙ ap (λ (xs : List ℕ). slice_get xs 0) c.deref.ensures.value))
    (is_first keeps n c.in_ok-found.found.items c.in_ok-found.ensures.first)
