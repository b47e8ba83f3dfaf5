use Rattle.std.proofs.Common.{◌↔◌, IsTrue, sym, subst}
use Rattle.std.proofs.lemmas.Result.{IfOk-weaker}
use Rattle.vs_design.specs.declared.statement.Aim.{Aim}
use Rattle.vs_rules_of_starts.specs.Beginnings.{GivesAim, GivesInWord}
use Rattle.vs_rules_of_starts.proofs.begins.gives_aim.Goals as goal

pub returns-else-s-g : goal.returns-else-s-g
returns-else-s-g c =
    IfOk-weaker c.gives_in_word.result
    (λ b. (IsTrue b ↔ GivesInWord c.args.design.now c.args.named.now c.args.target.now c.args.value.now c.args.g c.in-Fixed.s.word c.args.width))
    (λ b. (IsTrue b ↔ GivesAim c.args.design.now c.args.named.now c.args.target.now c.args.value.now c.args.g c.args.width c.args.aim.now))
    (λ b h. subst (λ (a : Aim). (IsTrue b ↔ GivesAim c.args.design.now c.args.named.now c.args.target.now c.args.value.now c.args.g c.args.width a)) (sym c.in-Fixed.is)
    (λ t. (c.if-s-g.false, h.0 t), λ x. h.1 x.1))
    c.gives_in_word.ensures
