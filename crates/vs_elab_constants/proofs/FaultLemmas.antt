-- Faults of expressions among all.
use Rattle.std.proofs.Common.{◌≡◌, Bool, true, false, true≢false, sym}
use Rattle.vs_scopes.specs.vs_widths.specs.declared.faults.WidthReason.{WidthReason}
use Rattle.vs_scopes.specs.vs_widths.specs.declared.faults.WidthReason.TheVariants.{TooWide, Unknown, NotConstant, WrongKind}
use Rattle.vs_scopes.specs.declared.faults.BodyFault.{BodyFault}
use Rattle.vs_scopes.specs.declared.faults.Reason.{Reason}
use Rattle.vs_scopes.specs.declared.faults.Reason.TheVariants.{Width}
use Rattle.vs_scopes.specs.Parameters.{any_fault}
use Rattle.vs_scopes.specs.scopes_passes.Answers.{Refuses}
use Rattle.vs_scopes.specs.scopes_passes.Sizes.{width_faults}
use Rattle.vs_scopes.proofs.AnswerLemmas.{refused_by}
use Rattle.std.proofs.lemmas.Bool.{or_from as both_false, or_left as left_true, or_right as right_true}

pub none_any : (f : WidthReason → Bool) → ((w : WidthReason) → f w ≡ false) → any_fault f ≡ false
none_any f h = both_false _ _ (both_false _ _ (both_false _ _ (h TooWide) (h Unknown)) (h NotConstant)) (h WrongKind)

pub some_any : (f : WidthReason → Bool) (w : WidthReason) → f w ≡ true → any_fault f ≡ true
some_any f TooWide h = left_true _ _ (left_true _ _ (left_true _ _ h))
some_any f Unknown h = left_true _ _ (left_true _ _ (right_true _ _ h))
some_any f NotConstant h = left_true _ _ (right_true _ _ h)
some_any f WrongKind h = right_true _ _ h

-- a fault of an expression alone is one of these
width_only : (f : WidthReason → Bool) (g : Reason → Bool) → ((w : WidthReason) → f w ≡ true → g (Width w) ≡ true) → (r : Reason) → width_faults f r ≡ true → g r ≡ true
width_only f g k (Width w) h = k w h
width_only f g k _ h = absurd (true≢false (sym h))

pub width_refused : (f : WidthReason → Bool) (g : Reason → Bool) (e : BodyFault) → ((w : WidthReason) → f w ≡ true → g (Width w) ≡ true) → Refuses (width_faults f) e → Refuses g e
width_refused f g e k h = refused_by (width_faults f) g e (width_only f g k) h
