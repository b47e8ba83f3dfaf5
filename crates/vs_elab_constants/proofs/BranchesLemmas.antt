-- Branches of generate constructs, by their form.
use Rattle.std.proofs.Common.{◌≡◌, Bool, true, false, Option, None, Some, Result, refl, ap, sym, subst, ◌∙◌}
use Rattle.std.specs.declared.boxed.Box.{Box}
use Rattle.std.specs.declared.alloc.Global.{Global}
use Rattle.vs_syntax.specs.declared.tree.Expr.{Expr}
use Rattle.vs_syntax.specs.declared.tree.ModuleItem.{ModuleItem}
use Rattle.vs_syntax.specs.declared.tree.ModuleItem.TheVariants as i
use Rattle.vs_syntax.specs.declared.tree.ModuleItem.TheOpen.{ModuleItem-F}
use Rattle.vs_syntax.specs.declared.tree.ModuleItem.TheOpen as m
use Rattle.vs_syntax.specs.declared.tree.ModuleItem.TheVariants.{rolls-If}
use Rattle.vs_syntax.specs.declared.tree.ModuleItem.TheViews.{roll-ModuleItem, out-ModuleItem, out-roll-ModuleItem}
use Rattle.vs_syntax.specs.declared.tree.ModuleItem.TheFolds.{fold-ModuleItem, fold-roll-ModuleItem, map-ModuleItem}
use Rattle.vs_scopes.specs.vs_widths.specs.declared.faults.WidthReason.{WidthReason}
use Rattle.vs_scopes.specs.vs_widths.specs.Environment.{Environment}
use Rattle.vs_scopes.specs.Pieces.{unboxed}
use Rattle.vs_scopes.specs.Reads.{read_content}
use Rattle.vs_scopes.specs.declared.contents.Content.{Content as Found}
use Rattle.vs_scopes.specs.declared.faults.BodyFault.{BodyFault}
use Rattle.vs_scopes.specs.declared.faults.Reason.{Reason}
use Rattle.vs_scopes.specs.declared.faults.Reason.TheVariants.{Width}
use Rattle.vs_scopes.specs.Generate.{holds, condition_fault, Taken, takes, decided, taken_step, branch_taken, other_taken}
use Rattle.vs_scopes.specs.scopes_passes.Answers.{Elaborates}
use Rattle.vs_scopes.specs.scopes_passes.Sizes.{width_faults}
use Rattle.vs_elab_constants.specs.generate_passes.Branches.{choice_fault}
use Rattle.vs_elab_constants.proofs.FaultLemmas.{none_any}

abbrev taken_by : Environment → ModuleItem → ModuleItem → Taken
taken_by env = fold-ModuleItem (ModuleItem → Taken) (λ l y. taken_step env l (out-ModuleItem y) y)

taken_layer : (env : Environment) (l : ModuleItem-F ModuleItem) (x : ModuleItem) → roll-ModuleItem l ≡ x →
    branch_taken env x ≡ taken_step env (map-ModuleItem ModuleItem (ModuleItem → Taken) (taken_by env) l) l (roll-ModuleItem l)
taken_layer env l x h =
    ap (branch_taken env) (sym h)
    ∙ ap (λ (g : ModuleItem → Taken). g (roll-ModuleItem l)) (fold-roll-ModuleItem (ModuleItem → Taken) (λ l y. taken_step env l (out-ModuleItem y) y) l)
    ∙ ap (λ (k : ModuleItem-F ModuleItem). taken_step env (map-ModuleItem ModuleItem (ModuleItem → Taken) (taken_by env) l) k (roll-ModuleItem l)) (out-roll-ModuleItem l)

taken_If : (env : Environment) (e : Expr) (x : Box ModuleItem Global) (o : Option (Box ModuleItem Global)) → branch_taken env (i.If e x o) ≡ decided env e (branch_taken env x.value) (other_taken env (unboxed o))
taken_If env e x None = taken_layer env (m.If e x None) _ (rolls-If e x None)
taken_If env e x (Some y) = taken_layer env (m.If e x (Some y)) _ (rolls-If e x (Some y))

decided_first : (env : Environment) (e : Expr) (x y : Taken) → ((w : WidthReason) → condition_fault env e w ≡ false) → true ≡ holds env e → decided env e x y ≡ x
decided_first env e x y k t = rw (none_any (condition_fault env e) k, sym t) refl

decided_other : (env : Environment) (e : Expr) (x y : Taken) → ((w : WidthReason) → condition_fault env e w ≡ false) → false ≡ holds env e → decided env e x y ≡ y
decided_other env e x y k t = rw (none_any (condition_fault env e) k, sym t) refl

-- what a branch answers
abbrev pub Takes : Taken → Result Found BodyFault → Type 0
Takes t r = Elaborates (choice_fault t) (λ x. t ≡ takes (read_content x)) r

module _ (env : Environment) (e : Expr) (t : Bool) (known : ((q : Reason) → width_faults (condition_fault env e) q ≡ false) × (t ≡ holds env e)) where
  -- what is taken of two, where the condition holds and where it doesn't
  pub first_taken : (whole x y : Taken) (r : Result Found BodyFault) → whole ≡ decided env e x y → t ≡ true → Takes x r → Takes whole r
  first_taken whole x y r is on h = subst (λ z. Takes z r) (sym (is ∙ decided_first env e x y (λ w. known.0 (Width w)) (sym on ∙ known.1))) h

  pub other_chosen : (whole x y : Taken) (r : Result Found BodyFault) → whole ≡ decided env e x y → t ≡ false → Takes y r → Takes whole r
  other_chosen whole x y r is off h = subst (λ z. Takes z r) (sym (is ∙ decided_other env e x y (λ w. known.0 (Width w)) (sym off ∙ known.1))) h

-- an `if` in a branch
pub if_taken : (env : Environment) (item first : ModuleItem) (e : Expr) (x : Box ModuleItem Global) (o : Option (Box ModuleItem Global)) → item ≡ i.If e x o → first ≡ x.value →
    branch_taken env item ≡ decided env e (branch_taken env first) (other_taken env (unboxed o))
if_taken env item first e x o is at = ap (branch_taken env) is ∙ taken_If env e x o ∙ ap (λ z. decided env e (branch_taken env z) (other_taken env (unboxed o))) (sym at)
