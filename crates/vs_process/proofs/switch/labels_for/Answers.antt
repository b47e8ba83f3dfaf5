use Rattle.std.proofs.Common.{◌≡◌, ℕ, sym, ap, ◌∙◌}
use Rattle.std.proofs.lemmas.List.Elements.{All-same}
use Rattle.vs_design.specs.vs_logic4.specs.declared.case.CaseKind.{CaseKind}
use Rattle.vs_eval.specs.Meant.{Meaning}
use Rattle.vs_process.specs.Switches.{any_index, walked}
use Rattle.vs_process.proofs.SwitchLemmas.{any_walked, known_all}
use Rattle.vs_process.proofs.switch.labels_for.Goals as goal

pub returns-in-Some-clause-leads : goal.returns-in-Some-clause-leads
returns-in-Some-clause-leads c = λ digits store time.
    let made = rw c.in-Some.is at c.in_ok-t.ensures in
    made.1 digits store time ∙ ap (λ (k : CaseKind). walked k digits store time c.args.all.now c.args.otherwise) (sym made.0)

pub returns-clause-known : goal.returns-clause-known
returns-clause-known c =
    All-same (λ (x : Meaning × ℕ). x.0.signals ≡ c.args.design.now.signals) _ _ c.in_ok-any.ensures (known_all c.args.design.now.signals c.args.all.now)

pub returns-clause-leads : goal.returns-clause-leads
returns-clause-leads c = λ digits store time.
    ap (λ l. any_index c.args.kind digits store time l c.args.otherwise) c.in_ok-any.ensures
    ∙ any_walked c.args.kind digits store time c.args.design.now.signals c.args.all.now c.args.otherwise
