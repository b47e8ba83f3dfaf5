use Rattle.std.proofs.Common.{◌≡◌, ℕ, ◌+◌, ◌-◌, Some, length, slice_get, subst, sym, ap, ◌∙◌, arith}
use Rattle.vs_rules_of_signals.specs.vs_graph.specs.Verdicts.{IsLeast}
use Rattle.vs_rules_of_starts.specs.vs_rules.specs.Verdict.{Breaks, subjects}
use Rattle.vs_cert_check.specs.Verdicts.{rule_of, KeepsAt}
use Rattle.vs_cert_check.proofs.Judged.{named}
use Rattle.vs_cert_check.proofs.judging.verdict_of.Goals as goal

pub name-requires : goal.name-requires
name-requires c =
    let k = c.args.sheet.now in
    (subst (IsLeast (KeepsAt k.design k.claims) 11 (length (subjects k.design k.claims))) c.in-Some.is c.requires).2.0

pub returns-in_ok-place-in-Some : goal.returns-in_ok-place-in-Some
returns-in_ok-place-in-Some c =
    let d = c.args.sheet.now.design in
    let n = c.args.sheet.now.claims in
    let place = c.in_ok-place-in-Some.place.items in
    let least = subst (IsLeast (KeepsAt d n) 11 (length (subjects d n))) c.in-Some.is c.requires in
    let told = named d (slice_get (subjects d n) c.in-Some.i) place (ap Some c.in_ok-place-in-Some.ensures.items ∙ c.name.ensures) in
    let same : c.in-Some.rule + 1 - 1 ≡ c.in-Some.rule = omega arith in
    record {
      exact = subst (λ (m : ℕ). Breaks d n (rule_of m) place) (sym same)
          (c.least_is_verdict.ensures.no d n c.in-Some.rule c.in-Some.i told.0 place least told.1 told.2);
      numbered = (omega arith, omega (arith, least.0));
    }
