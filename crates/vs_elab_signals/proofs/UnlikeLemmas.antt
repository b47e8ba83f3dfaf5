-- Bounds that a range doesn't have.
use Rattle.std.proofs.Common.{◌≡◌, Bool, true, false, true≢false, ◌||◌, ◌&&◌, is_none, List, [], Option, Some, None, refl, ap, sym}
use Rattle.std.specs.Prelude.{ℤ}
use Rattle.vs_design.specs.vs_logic4.specs.declared.digit.Digit.{Digit}
use Rattle.vs_syntax.specs.declared.tree.Expr.{Expr}
use Rattle.vs_syntax.specs.declared.tree.Range.{Range}
use Rattle.vs_scopes.specs.vs_widths.specs.declared.faults.WidthReason.{WidthReason}
use Rattle.vs_scopes.specs.vs_widths.specs.Environment.{Environment}
use Rattle.vs_scopes.specs.vs_widths.specs.Findings.{Finding, Has, Lacks, not_constant}
use Rattle.vs_scopes.specs.vs_widths.specs.Meants.{own}
use Rattle.vs_scopes.specs.vs_widths.specs.Constants.{constant_finding, whole_at}
use Rattle.vs_widths.specs.Expressions.{meant}
use Rattle.vs_scopes.specs.declared.faults.Reason.{Reason}
use Rattle.vs_scopes.specs.declared.faults.Reason.TheVariants.{NoModule, Inside, PortMismatch, ParameterMismatch, DeclaredTwice, DrivenTwice, Limit, Endless, Unnamed, Timescales, Format, Width}
use Rattle.vs_scopes.specs.Ranges.{number_fault, bound_of, bound_fault, both_bounds, bounds_fault, range_bounds}
use Rattle.vs_scopes.specs.scopes_passes.Sizes.{width_faults}
use Rattle.vs_design.specs.vs_logic4.proofs.Basics.{and_right}

none_is : {A : Type 0} (o : Option A) → is_none o ≡ true → o ≡ None
none_is None h = refl
none_is (Some x) h = absurd (true≢false (sym h))

none_found : (w : WidthReason) (found : Finding) (digits : List Digit) → number_fault w found (whole_at found digits) ≡ true → whole_at found digits ≡ None
none_found w (Has width signed) digits h = none_is (whole_at (Has width signed) digits) (and_right (not_constant w) _ h)
none_found w (Lacks faults) digits h = refl

none_bound : (w : WidthReason) (env : Environment) (e : Expr) → bound_fault w env e ≡ true → bound_of env e ≡ None
none_bound w env e h = none_found w (constant_finding (meant env e)) (own (meant env e) [] 0) h

none_left : (o p : Option ℤ) → o ≡ None → both_bounds o p ≡ None
none_left o p h = ap (λ z. both_bounds z p) h

none_right : (o p : Option ℤ) → p ≡ None → both_bounds o p ≡ None
none_right None p h = refl
none_right (Some n) p h = ap (both_bounds (Some n)) h

none_both : (w : WidthReason) (env : Environment) (r : Range) → bounds_fault w env r ≡ true → range_bounds env (Some r) ≡ None
none_both w env r h = by (bound_fault w env r.left) refl h
  where
    by : (t : Bool) → bound_fault w env r.left ≡ t → (t || bound_fault w env r.right) ≡ true → range_bounds env (Some r) ≡ None
    by true e k = none_left (bound_of env r.left) (bound_of env r.right) (none_bound w env r.left e)
    by false e k = none_right (bound_of env r.left) (bound_of env r.right) (none_bound w env r.right k)

-- a range with a fault has no bounds
pub none_refused : (env : Environment) (r : Range) (q : Reason) → width_faults (λ w. bounds_fault w env r) q ≡ true → range_bounds env (Some r) ≡ None
none_refused env r (Width w) h = none_both w env r h
none_refused env r NoModule h = absurd (true≢false (sym h))
none_refused env r Inside h = absurd (true≢false (sym h))
none_refused env r PortMismatch h = absurd (true≢false (sym h))
none_refused env r ParameterMismatch h = absurd (true≢false (sym h))
none_refused env r DeclaredTwice h = absurd (true≢false (sym h))
none_refused env r DrivenTwice h = absurd (true≢false (sym h))
none_refused env r Limit h = absurd (true≢false (sym h))
none_refused env r Endless h = absurd (true≢false (sym h))
none_refused env r Unnamed h = absurd (true≢false (sym h))
none_refused env r Timescales h = absurd (true≢false (sym h))
none_refused env r (Format wrong) h = absurd (true≢false (sym h))
