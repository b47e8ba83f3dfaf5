-- Going over pieces one by one, and over bytes step by step.
use Rattle.std.specs.Prelude.{ℕ, List, [], ◌∷◌}
use Rattle.vs_prep_macros.specs.Parts.{Part}

-- what is known behind a piece or a step, or what is found there
pub data Turn (S A : Type 0) : Type 0 where
  Goes : S → Turn S A
  Ends : A → Turn S A

-- what is found in pieces, with what is known before the first one; `last` says what is found at their end
abbrev pub over : {S A : Type 0} → (S → Part → Turn S A) → (S → A) → S → List Part → A
over step last s [] = last s
over step last s (p ∷ ps) = elim (step s p) [ Goes t ↦ over step last t ps | Ends a ↦ a ]

-- What is found from bytes on, step by step; a step says what is known behind it, with the bytes there.
pub data Through {S A : Type 0} (Steps : S → List ℕ → Turn (S × List ℕ) A → Type 0) : S → List ℕ → A → Type 0 where
  ends : {s : S} {bytes : List ℕ} {a : A} → Steps s bytes (Ends a) → Through Steps s bytes a
  goes : {s t : S} {bytes rest : List ℕ} {a : A} → Steps s bytes (Goes (t, rest)) → Through Steps t rest a → Through Steps s bytes a
