use Rattle.std.proofs.Common.{◌≡◌, ℕ, List, Vec, Global, ap, subst, ◌∙◌}
use Rattle.std.proofs.lemmas.Result.{err_from_is_err_and}
use Rattle.vs_scopes.specs.vs_widths.specs.declared.bindings.Binding.{Binding}
use Rattle.vs_scopes.specs.vs_widths.specs.declared.constants.Const.{Const}
use Rattle.vs_widths.specs.Names.{meaning_of, nested_names}
use Rattle.vs_scopes.specs.Generate.{Turns, turns, turns_from, turn_limit}
use Rattle.vs_scopes.specs.scopes_passes.Answers.{Elaborates}
use Rattle.vs_elab_constants.specs.generate_passes.Turns.{turn_fault}
use Rattle.vs_elab_constants.proofs.TurnsLemmas.{first_refused, turns_of_first}
use Rattle.vs_elab_constants.proofs.loops.turns.Goals as goal

pub returns-in_err-first : goal.returns-in_err-first
returns-in_err-first c =
    let p = err_from_is_err_and c.from_residual-in_err-first.result c.from_residual-in_err-first.ensures.1 in
    rw (p.1, p.2) (first_refused (meaning_of c.args.names.now) c.args.header.now _ c.in_ok-check_header.ensures.0 c.in_err-first.ensures)

pub returns : goal.returns
returns c =
    let h = c.args.header.now in
    let S : Turns → Type 0 = λ t. Elaborates (turn_fault t) (λ (v : Vec Const Global). t ≡ turns v.items) c.turns_within.result in
    let names = ap nested_names c.deref.ensures.value ∙ c.in_ok-around.ensures in
    subst S (ap (λ (ns : List (List ℕ × Binding)). turns_from turn_limit (meaning_of ns) h c.in_ok-first.first) names ∙ turns_of_first (meaning_of c.args.names.now) h c.in_ok-first.first c.in_ok-check_header.ensures.0 c.in_ok-first.ensures) c.turns_within.ensures
