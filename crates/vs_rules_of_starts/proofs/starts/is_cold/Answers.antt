use Rattle.std.proofs.Common.{◌≡◌, ◌<◌, ◌↔◌, Some, true, Bool, IsTrue, List, length, slice_get, sym, subst, ◌∙◌}
use Rattle.vs_design.specs.declared.design.Process.{Process}
use Rattle.vs_design.specs.Parts.{Parts}
use Rattle.vs_claims.specs.vs_process.specs.Executions.{is_combinational}
use Rattle.vs_rules.specs.Claims.{cold}
use Rattle.vs_drivers.proofs.ConeLemmas.{claimed_within as is_block_of}
use Rattle.vs_rules_of_starts.specs.Cold.{StaysAtEach}
use Rattle.vs_rules_of_starts.specs.Starts.{NoStarterIn}
use Rattle.vs_rules_of_starts.proofs.StartLemmas.{cold_apart, cold_is, cold_not, false_not}
use Rattle.vs_rules_of_starts.proofs.starts.is_cold.Goals as goal

pub stays_cold-requires-clause-within : goal.stays_cold-requires-clause-within
stays_cold-requires-clause-within c =
    subst (λ (d : Parts). c.args.i < length d.processes) (sym c.requires.beginning) (is_block_of c.args.facts.now.design c.args.facts.now.claims c.args.i (cold, c.requires.start))

pub stays_cold-requires-clause-shape : goal.stays_cold-requires-clause-shape
stays_cold-requires-clause-shape c =
    subst (λ (d : Parts). (q : Process) → slice_get d.processes c.args.i ≡ Some q → is_combinational q ≡ true) (sym c.requires.beginning) (λ q is. c.requires.shape.shape q (cold, c.requires.start) is)

pub returns-then-not-stays : goal.returns-then-not-stays
returns-then-not-stays c =
    cold_not c.args.facts.now.design c.args.facts.now.claims c.args.i
    (λ s. false_not (sym c.if-not-stays.true ∙ c.in_ok-stays.ensures.1 (subst (λ (d : Parts). StaysAtEach d c.args.i) (sym c.requires.beginning) s)))

pub returns-then-apart : goal.returns-then-apart
returns-then-apart c =
    cold_apart c.args.facts.now.design c.args.facts.now.claims c.args.i c.requires.start
    (subst (λ (p : Parts). StaysAtEach p c.args.i) c.requires.beginning (c.in_ok-stays.ensures.0 c.if-not-stays.false)) (c.requires.apart c.if-apart.true)

pub returns : goal.returns
returns c =
    let d = c.args.facts.now.design in
    let claims = c.args.facts.now.claims in
    cold_is d claims c.args.i c.args.cones.now c.requires.wiring (cold, c.requires.start)
    (subst (λ (p : Parts). StaysAtEach p c.args.i) c.requires.beginning (c.in_ok-stays.ensures.0 c.if-not-stays.false))
    c.block_needs.result.now c.in_ok-passed.passed.items c.block_needs.ensures c.in_ok-passed.ensures
    c.no_starter_in.result (subst (λ (l : List Bool). (IsTrue c.no_starter_in.result ↔ NoStarterIn d claims l)) c.deref.ensures.value c.no_starter_in.ensures)
