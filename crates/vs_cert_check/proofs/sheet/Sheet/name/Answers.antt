use Rattle.std.proofs.Common.{ℕ, ◌<◌, slice_index_or, sym, ◌∙◌, ap, subst}
use Rattle.vs_claims.specs.declared.subjects.Subject.TheVariants.{Signal}
use Rattle.vs_claims.specs.Subjects.{subject_view}
use Rattle.vs_rules_of_signals.specs.vs_claims.specs.Facts.{Case, seen}
use Rattle.vs_rules_of_starts.specs.vs_rules.specs.Verdict.{place_of}
use Rattle.vs_cert_check.specs.Broken.{name_of}
use Rattle.vs_cert_check.proofs.Judged.{as_many, subject_here}
use Rattle.vs_cert_check.proofs.SubjectLemmas.{subject_named, subject_of}
use Rattle.vs_cert_check.proofs.sheet.Sheet.name.Goals as goal

pub bounds-self-inside-i : goal.bounds-self-inside-i
bounds-self-inside-i c =
    subst (λ (n : ℕ). c.args.i < n)
    (sym (as_many c.self.inside.facts.now c.args.self.now c.self.inside.subjects.now c.self.invariant.subjects_are c.self.view_is)) c.requires

pub unreachable-requires : goal.unreachable-requires
unreachable-requires c =
    let k = c.args.self.now in
    let all = c.self.inside.subjects.now in
    let s = subject_view (slice_index_or all c.args.i (Signal 0)) in
    let here = subject_here c.self.inside.facts.now k all c.args.i (Signal 0) c.self.invariant.subjects_are c.self.view_is c.requires in
    subject_named k.design s (subject_of k.design k.claims c.args.i s (sym here))
    (ap (λ (x : Case). place_of x.design s) (sym c.self.view_is) ∙ sym c.name_of.ensures ∙ ap seen c.in-None.is)

pub returns : goal.returns
returns c =
    let k = c.args.self.now in
    let all = c.self.inside.subjects.now in
    let s = subject_view (slice_index_or all c.args.i (Signal 0)) in
    sym (ap seen c.in-Some.is) ∙ c.name_of.ensures ∙ ap (λ (x : Case). place_of x.design s) c.self.view_is
    ∙ ap (name_of k.design) (subject_here c.self.inside.facts.now k all c.args.i (Signal 0) c.self.invariant.subjects_are c.self.view_is c.requires)
