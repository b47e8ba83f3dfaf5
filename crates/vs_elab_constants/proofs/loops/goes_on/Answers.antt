use Rattle.std.proofs.Common.{◌≡◌, ap, subst, ◌∙◌}
use Rattle.vs_scopes.specs.vs_widths.specs.Environment.{Environment}
use Rattle.vs_widths.specs.Names.{meaning_of}
use Rattle.vs_scopes.specs.Generate.{holds, condition_fault}
use Rattle.vs_scopes.specs.scopes_passes.Answers.{Elaborates}
use Rattle.vs_scopes.specs.scopes_passes.Sizes.{width_faults}
use Rattle.vs_elab_constants.proofs.TurnsLemmas.{level_is}
use Rattle.vs_elab_constants.proofs.loops.goes_on.Goals as goal

pub returns : goal.returns
returns c =
    let h = c.args.header.now in
    let P : Environment → Type 0 = λ env. Elaborates (width_faults (condition_fault env h.condition)) (λ b. b ≡ holds env h.condition) c.holds.result in
    subst P (ap meaning_of c.new-inner.ensures ∙ level_is _ _ h.name.items c.args.value.now c.in_ok-own.ensures) c.holds.ensures
