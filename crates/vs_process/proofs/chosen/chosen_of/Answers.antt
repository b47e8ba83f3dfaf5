use Rattle.std.proofs.Common.{◌≡◌, ◌∙◌, ◌++◌, ◌∷◌, List, [], ap, arith, length, refl}
use Rattle.vs_design.specs.declared.statement.Aim.{Aim}
use Rattle.vs_design.specs.declared.statement.Aim.TheVariants.{Chosen}
use Rattle.vs_design.specs.vs_logic4.proofs.Basics.{only_one}
use Rattle.vs_process.specs.declared.chosen_place.Index.{Index}
use Rattle.vs_process.proofs.ChosenLemmas.{chosen_is}
use Rattle.vs_process.proofs.chosen.chosen_of.Goals as goal

pub returns : goal.returns
returns c =
    let one : length c.args.target.now.parts.items ≡ 1 = omega (arith, c.if-len-ne1.false, c.len.ensures) in
    let parts : c.args.target.now.parts.items ≡ Chosen c.in-Chosen.s c.in-Chosen.index c.in-Chosen.base ∷ [] =
    only_one c.args.target.now.parts.items c.index.result.now one c.index.ensures ∙ ap (λ (x : Aim). x ∷ []) c.in-Chosen.is in
    chosen_is c.args.design.now.signals c.args.target.now c.in-Chosen.s c.in-Chosen.index c.in-Chosen.base _ parts c.if-selection-target.false refl refl
    c.in_ok-word.word c.in_ok-low.low
    (c.in_ok-push-2.ensures.items ∙ ap (λ (xs : List Index). xs ++ c.in_ok-low.low ∷ []) (c.in_ok-push.ensures.items ∙ ap (λ (xs : List Index). xs ++ c.in_ok-word.word ∷ []) c.in_ok-indices.ensures.items))
    c.in_ok-word.ensures.known c.in_ok-low.ensures.known c.in_ok-word.ensures.place c.in_ok-low.ensures.place
