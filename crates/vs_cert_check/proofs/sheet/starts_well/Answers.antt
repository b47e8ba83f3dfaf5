use Rattle.std.proofs.Common.{◌↔◌, IfOk, IsTrue, sym, ◌∙◌, ap, subst}
use Rattle.vs_claims.specs.declared.subjects.Subject.{Subject}
use Rattle.vs_claims.specs.Subjects.{subject_view}
use Rattle.vs_rules_of_signals.specs.vs_claims.specs.Facts.{Case}
use Rattle.vs_rules_of_starts.specs.vs_rules.specs.Blocks.{K5, K11}
use Rattle.vs_rules_of_starts.specs.vs_rules.specs.Verdict.{OfProcess}
use Rattle.vs_rules_of_processes.specs.vs_drivers.specs.Wires.{IsWiringOf}
use Rattle.vs_cert_check.proofs.sheet.starts_well.Goals as goal

pub keeps_start_by-requires-clause-wiring : goal.keeps_start_by-requires-clause-wiring
keeps_start_by-requires-clause-wiring c =
    subst (λ (k : Case). IsWiringOf k.design k.claims c.sheet.inside.cones.now) (c.sheet.view_is ∙ sym c.requires.starts) c.sheet.invariant.cones_are

pub keeps_start_by-requires-clause-copies : goal.keeps_start_by-requires-clause-copies
keeps_start_by-requires-clause-copies c =
    c.sheet.invariant.copies_are ∙ ap (λ (k : Case). k.design) (c.sheet.view_is ∙ sym c.requires.starts)

pub keeps_start_by-requires-clause-beginning : goal.keeps_start_by-requires-clause-beginning
keeps_start_by-requires-clause-beginning c = c.requires.beginning ∙ sym (ap (λ (k : Case). k.design) c.requires.starts)

pub keeps_start_by-requires-clause-shape : goal.keeps_start_by-requires-clause-shape
keeps_start_by-requires-clause-shape c =
    subst (λ (k : Case). K5 k.design k.claims c.in-Process.i) (c.sheet.view_is ∙ sym c.requires.starts)
    (c.in_ok-keeps_block-in-Process.ensures.exact.0 c.if-not-branch.false)

pub returns-else-not-branch : goal.returns-else-not-branch
returns-else-not-branch c =
    let d = c.args.sheet.now.design in
    let n = c.args.sheet.now.claims in
    subst (λ (s : Subject). IfOk c.keeps_start_by.result (λ b. (IsTrue b ↔ OfProcess (K11 d n) (subject_view s)))) (sym c.in-Process.is)
    (subst (λ (k : Case). IfOk c.keeps_start_by.result (λ b. (IsTrue b ↔ K11 k.design k.claims c.in-Process.i))) c.requires.starts c.keeps_start_by.ensures.exact)
