-- The top of a source that has a design is opened.
use Rattle.std.proofs.Common.{◌≡◌, ◌||◌, inl, ℕ, Bool, false, List, [], ◌∷◌, Option, Some, None, refl, sym, ◌∙◌}
use Rattle.std.proofs.lemmas.Bool.{false_from_ne_true}
use Rattle.std.proofs.lemmas.Option.{none-some}
use Rattle.vs_syntax.specs.declared.tree.Module.{Module}
use Rattle.vs_syntax.specs.declared.tree.Source.{Source}
use Rattle.vs_design.specs.Parts.{Parts}
use Rattle.vs_elaborate.specs.vs_widths.specs.declared.faults.WidthReason.{WidthReason}
use Rattle.vs_elaborate.specs.vs_scopes.specs.declared.faults.Reason.TheVariants.{NoModule, Width}
use Rattle.vs_elaborate.specs.vs_scopes.specs.Nets.{permits_nets}
use Rattle.vs_elaborate.specs.vs_scopes.specs.Printed.{plainly}
use Rattle.vs_elaborate.specs.vs_scopes.specs.Scopes.{module_named, opened_top, top_scope}
use Rattle.vs_elab_signals.specs.ScopeFaults.{of_module, top_fault}
use Rattle.vs_elaborate.specs.DesignOf.{DesignOf}
use Rattle.vs_elaborate.specs.vs_elab_hierarchy.proofs.SourceLemmas.{top_opens}

opens : (nets : Bool) (o : Option Module) → (o ≡ None → ⊥) → ((w : WidthReason) → of_module (top_fault w) o ≡ false) → opened_top nets o ≡ None → ⊥
opens nets None some fine e = some refl
opens nets (Some m) some fine e = none-some (top_scope nets m) (sym e ∙ top_opens nets m fine)

pub top_opened : (source : Source) (top : List ℕ) (d : Parts) → DesignOf source top d
    → opened_top (permits_nets source.modules.items top) (module_named source.modules.items top) ≡ None → ⊥
top_opened source top d is =
    let o = module_named source.modules.items top in
    let path = plainly top ∷ [] in
    opens (permits_nets source.modules.items top) o (λ e. is.none NoModule path (inl (e, refl)))
    (λ w. false_from_ne_true (of_module (top_fault w) o) (λ e. is.none (Width w) path (inl (e, refl))))
