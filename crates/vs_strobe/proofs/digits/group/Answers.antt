use Rattle.std.proofs.Common.{◌≡◌, ◌*◌, ◌-◌, pos, ap, w64, ◌∙◌, arith, refl}
use Rattle.std.proofs.lemmas.Int.{to_z_pos}
use Rattle.vs_design.specs.vs_logic4.specs.Parts.{selected}
use Rattle.vs_strobe.proofs.ValueLemmas.{group_selected, length-group}
use Rattle.vs_strobe.proofs.digits.group.Goals as goal

pub returns-clause-is : goal.returns-clause-is
returns-clause-is c =
    let low = c.args.size * c.args.place in
    let left = c.width.result - low in
    let e : c.select.result ≡ selected (pos low) c.min.result c.args.value =
    c.select.ensures ∙ ap (λ z. selected z c.min.result c.args.value) (to_z_pos w64 low (omega (arith, c.requires.within, c.width.ensures.most))) in
    e ∙ ap (λ n. selected (pos low) n c.args.value) c.min.ensures
    ∙ group_selected c.args.size c.args.place low left c.args.value refl c.requires.within (ap (λ n. n - low) c.width.ensures.digits)

pub returns-clause-most : goal.returns-clause-most
returns-clause-most c = rw (returns-clause-is c) (length-group c.args.size c.args.place c.args.value)
