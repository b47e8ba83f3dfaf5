use Rattle.std.proofs.Common.{sym, subst, ◌∙◌}
use Rattle.vs_widths.specs.select_passes.Places.{selects_meaning}
use Rattle.vs_widths.specs.Names.{meaning_of}
use Rattle.vs_widths.specs.Lefts.{name_aimed}
use Rattle.vs_widths.specs.Aiming.{IsTarget}
use Rattle.vs_widths.proofs.AimLemmas.{name_alone}
use Rattle.vs_widths.proofs.aiming.named_target.Goals as goal

pub returns-in_ok-alone-in-Some : goal.returns-in_ok-alone-in-Some
returns-in_ok-alone-in-Some c =
    let env = meaning_of c.args.names.now in
    let ss = selects_meaning c.args.selects.items in
    let bound = sym c.find.ensures ∙ c.in-Some.is in
    let t = c.in_ok-alone-in-Some.field-0 in
    subst (λ z. IsTarget c.args.how env (name_aimed c.args.how z ss) t) (sym bound)
    (name_alone c.args.how env c.args.name.now c.in-Some.binding ss c.in_ok-aim-in-Some.aim t bound c.requires.within c.in_ok-aim-in-Some.ensures c.in_ok-alone-in-Some.ensures.parts c.in_ok-alone-in-Some.ensures.width)
