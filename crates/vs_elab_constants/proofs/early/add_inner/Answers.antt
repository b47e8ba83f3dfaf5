use Rattle.std.proofs.Common.{◌≡◌, ℕ, List, ◌++◌, ap, sym, subst, ◌∙◌}
use Rattle.vs_scopes.specs.Pieces.{branch_names, other_names, unboxed}
use Rattle.vs_scopes.specs.Reads.{read_piece}
use Rattle.vs_scopes.specs.declared.scope.ScopePiece.{ScopePiece as FoundPiece}
use Rattle.vs_scopes.specs.vs_widths.specs.declared.bindings.Binding.TheVariants.{Other}
use Rattle.vs_scopes.specs.Declarations.{inner_names_in, bound_to}
use Rattle.vs_scopes.specs.scopes_passes.Answers.{borrowed}
use Rattle.vs_scopes.specs.scopes_passes.Declared.{AddsNames}
use Rattle.vs_elab_constants.proofs.EarlyLemmas.{adds_once}
use Rattle.vs_elab_constants.proofs.early.add_inner.Goals as goal

pub returns-in_ok-add_names-in-Choice : goal.returns-in_ok-add_names-in-Choice
returns-in_ok-add_names-in-Choice c =
    let old = c.args.names.now in
    let new = c.add_names.new.names in
    let other = other_names (unboxed c.in-Choice.other.now) in
    let ms : List (List ℕ) = branch_names c.in-Choice.first.now.value ++ other in
    let e : borrowed c.deref-in-Choice-2.result.now ≡ ms = ap borrowed c.deref-in-Choice-2.ensures.value ∙ c.in_ok-list-in-Choice.ensures ∙ ap (λ z. branch_names z ++ other) c.deref-in-Choice.ensures in
    subst (λ (p : FoundPiece). AddsNames old new (bound_to Other (inner_names_in (read_piece p)))) (sym c.in-Choice.is) (adds_once old new Other ms (subst (λ z. AddsNames old new (bound_to Other z)) e c.in_ok-add_names-in-Choice.ensures))
