use Rattle.std.proofs.Common.{inl, inr, refl, sym, ◌∙◌}
use Rattle.std.proofs.lemmas.Bool.{false≢true}
use Rattle.vs_rules_of_processes.proofs.readings.Reader.may_read.Goals as goal

pub returns-then-apart : goal.returns-then-apart
returns-then-apart c = (λ t. inr (inr (c.in_ok-apart.ensures.0 c.if-apart.true)), λ m. refl)

pub returns-then-own : goal.returns-then-own
returns-then-own c = (λ t. inl (c.in_ok-own.ensures.0 c.if-own.true), λ m. refl)

pub returns : goal.returns
returns c = (
  λ t. inr (inl (c.in_ok-edge.ensures.0 t)),
  λ m. elim m [
    | inl a ↦ absurd (false≢true (sym c.if-own.false ∙ c.in_ok-own.ensures.1 a))
    | inr n ↦ elim n [ inl e ↦ c.in_ok-edge.ensures.1 e | inr p ↦ absurd (false≢true (sym c.if-apart.false ∙ c.in_ok-apart.ensures.1 p)) ]
  ],
)
