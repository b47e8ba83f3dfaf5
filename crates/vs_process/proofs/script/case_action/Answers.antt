use Rattle.std.proofs.Common.{List, [], ◌∷◌, ◌++◌, refl, sym, ◌∙◌, ap, subst}
use Rattle.vs_process.specs.declared.choice.Case.{Case}
use Rattle.vs_process.specs.declared.switch.Switch.{Switch}
use Rattle.vs_process.specs.Instructions.{IsCaseIn, IsCaseOf}
use Rattle.vs_process.proofs.script.case_action.Goals as goal

pub returns : goal.returns
returns c =
    subst (λ (l : List Switch). IsCaseIn c.args.design.now.signals c.args.count c.args.op.now c.args.kind c.args.e.now c.args.items.now l)
    (sym (c.in_ok-push.ensures.items ∙ ap (λ (l : List Switch). l ++ c.in_ok-switch.switch ∷ []) c.new-all.ensures.items)) (
      c.in_ok-switch.ensures.signals,
      subst (λ (k : Case). IsCaseOf c.args.count c.args.op.now c.args.kind c.args.e.now c.args.items.now k) (sym c.in_ok-switch.ensures.case)
          (record { same_op = refl; same_kind = refl; same_value = refl; same_items = refl; same_count = refl }),
    )
