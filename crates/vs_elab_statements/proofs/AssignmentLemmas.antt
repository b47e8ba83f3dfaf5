-- Assignments, from their two sides.
use Rattle.std.proofs.Common.{◌≡◌, ℕ, true, false, max, refl, ap, subst}
use Rattle.vs_syntax.specs.declared.tree.Expr.{Expr}
use Rattle.vs_design.specs.declared.expression.Typed.{Typed}
use Rattle.vs_design.specs.declared.statement.Target.{Target}
use Rattle.vs_scopes.specs.vs_widths.specs.declared.shape.Shape.{Shape}
use Rattle.vs_scopes.specs.vs_widths.specs.Environment.{Environment}
use Rattle.vs_scopes.specs.vs_widths.specs.Findings.{Has, has_width_fault}
use Rattle.vs_widths.specs.Expressions.{meant}
use Rattle.vs_scopes.specs.vs_widths.specs.Meants.{Meant}
use Rattle.vs_widths.specs.Typing.{IsTypedAs}
use Rattle.vs_widths.specs.declared.kinds.AssignmentKind.{AssignmentKind}
use Rattle.vs_widths.specs.Aiming.{IsTarget}
use Rattle.vs_scopes.specs.declared.faults.Reason.{Reason}
use Rattle.vs_scopes.specs.declared.faults.Reason.TheVariants.{NoModule, Inside, PortMismatch, ParameterMismatch, DeclaredTwice, DrivenTwice, Limit, Width, Endless, Unnamed, Timescales, Format}
use Rattle.vs_scopes.specs.declared.faults.BodyFault.{BodyFault}
use Rattle.vs_elab_statements.specs.Members.{Assignee}
use Rattle.vs_elab_statements.specs.Statements.{IsSource, IsAssignment, assigned_to, assign_fault}
use Rattle.vs_scopes.specs.scopes_passes.Answers.{Refuses}
use Rattle.vs_scopes.specs.scopes_passes.Sizes.{width_faults}
use Rattle.std.proofs.lemmas.Bool.{or_from as both_false, or_right as right_true}
use Rattle.vs_scopes.proofs.AnswerLemmas.{refused_by}
use Rattle.vs_scopes.proofs.SizeLemmas.{no_faults}

-- what means this, where it has no fault
pub source_is : (m : Meant) (right : Shape) (width w : ℕ) (x : Typed) → m.finding ≡ Has right.width right.signed → w ≡ max width right.width → IsTypedAs m w right.signed x →
    ((r : Reason) → width_faults (λ w. has_width_fault w m.finding) r ≡ false) × IsSource m width x
source_is m right width w x k e y = (
  no_faults (λ v. has_width_fault v m.finding) y.sound,
  record { width = right.width; signed = right.signed; has = k; typed = subst (λ z. IsTypedAs m z right.signed x) e y },
)

module _ (env : Environment) (e : Expr) where
  module _ (how : AssignmentKind) (a : Assignee) where
    -- an assignment whose sides have no fault
    pub assigns : (t : Target) (x : Typed) → IsTarget how env (assigned_to how env a) t → ((r : Reason) → width_faults (λ w. has_width_fault w (meant env e).finding) r ≡ false) × IsSource (meant env e) t.width x →
        ((r : Reason) → assign_fault r how env a e ≡ false) × IsAssignment how env a e t x
    assigns t x h k = (by, record { target = h; source = k.1 })
      where
        by : (r : Reason) → assign_fault r how env a e ≡ false
        by (Width v) = both_false (has_width_fault v (assigned_to how env a).finding) (has_width_fault v (meant env e).finding) (ap (has_width_fault v) h.found) (k.0 (Width v))
        by NoModule = refl
        by Inside = refl
        by PortMismatch = refl
        by ParameterMismatch = refl
        by DeclaredTwice = refl
        by DrivenTwice = refl
        by Limit = refl
        by Endless = refl
        by Unnamed = refl
        by Timescales = refl
        by (Format wrong) = refl

    -- a fault of the right side is one of the assignment
    pub source_refused : (f : BodyFault) → Refuses (width_faults (λ w. has_width_fault w (meant env e).finding)) f → Refuses (λ r. assign_fault r how env a e) f
    source_refused f h = refused_by (width_faults (λ w. has_width_fault w (meant env e).finding)) (λ r. assign_fault r how env a e) f by h
      where
        by : (r : Reason) → width_faults (λ w. has_width_fault w (meant env e).finding) r ≡ true → assign_fault r how env a e ≡ true
        by (Width w) k = right_true (has_width_fault w (assigned_to how env a).finding) _ k
        by NoModule k = k
        by Inside k = k
        by PortMismatch k = k
        by ParameterMismatch k = k
        by DeclaredTwice k = k
        by DrivenTwice k = k
        by Limit k = k
        by Endless k = k
        by Unnamed k = k
        by Timescales k = k
        by (Format wrong) k = k
