use Rattle.std.proofs.Common.{inl, inr, refl}
use Rattle.std.proofs.lemmas.Bool.{false≢true}
use Rattle.vs_rules_of_processes.proofs.readings.Reader.is_own_read.Goals as goal

pub returns-then-not-is_writer : goal.returns-then-not-is_writer
returns-then-not-is_writer c = (λ t. absurd (false≢true t), λ y. c.if-not-is_writer.ensures.1 y.0)

pub returns-then-u-v : goal.returns-then-u-v
returns-then-u-v c = (λ t. (c.if-not-is_writer.ensures.0 refl, inl c.if-u-v.true), λ y. refl)

pub returns : goal.returns
returns c = (
  λ t. (c.if-not-is_writer.ensures.0 refl, inr (c.in_ok-cold.ensures.0 t)),
  λ y. elim y.1 [ inl e ↦ absurd (c.if-u-v.false e) | inr cold ↦ c.in_ok-cold.ensures.1 cold ],
)
