use Rattle.std.proofs.Common.{option_map, sym, ◌∙◌, ap, arith}
use Rattle.std.proofs.lemmas.Option.{slice_get-get_or, slice_get_past}
use Rattle.vs_claims.specs.declared.subjects.Subject.TheVariants.{Signal}
use Rattle.vs_claims.specs.Subjects.{subject_view}
use Rattle.vs_cert_check.proofs.Judged.{subject_at}
use Rattle.vs_cert_check.proofs.sheet.Sheet.subject.Goals as goal

pub returns-then-i-self : goal.returns-then-i-self
returns-then-i-self c =
    let all = c.self.inside.subjects.now in
    ap (option_map subject_view) (sym (slice_get_past all c.args.i (omega (arith, c.if-i-self.true))))
    ∙ subject_at c.self.inside.facts.now c.args.self.now all c.args.i c.self.invariant.subjects_are c.self.view_is

pub returns : goal.returns
returns c =
    let all = c.self.inside.subjects.now in
    ap (option_map subject_view) (sym (slice_get-get_or all c.args.i (Signal 0) (omega (arith, c.if-i-self.false))))
    ∙ subject_at c.self.inside.facts.now c.args.self.now all c.args.i c.self.invariant.subjects_are c.self.view_is
