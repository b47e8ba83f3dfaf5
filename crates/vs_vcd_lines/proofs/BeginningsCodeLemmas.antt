-- Beginnings of identifier codes.
use Rattle.std.proofs.Common.{◌≡◌, ℕ, ◌+◌, ◌-◌, ◌/◌, ◌%◌, ◌<◌, ◌≤◌, Bool, true, false, List, [], ◌∷◌, ◌++◌, refl, sym, ap, ◌∙◌, arith, inl, inr}
use Rattle.std.proofs.lemmas.Bool.{false≢true}
use Rattle.std.proofs.lemmas.List.{append-nil}
use Rattle.vs_vcd_lines.specs.vs_vcd_writing.specs.Codes.{code}
use Rattle.vs_vcd_lines.specs.vs_vcd_writing.proofs.CodeLemmas.{code-long, code-short}
use Rattle.vs_vcd_lines.proofs.CodeLemmas.{code_cases}
use Rattle.vs_vcd_lines.specs.Beginnings.{Begins}
use Rattle.vs_vcd_lines.proofs.TextLemmas.{begins_nil, nil_before, Tells}

-- the line that a text begins, by the text's first byte
code_parts : (part rest : List ℕ) (first n : ℕ) → part ≡ first ∷ rest → (h : Begins part (code n)) → first ∷ (rest ++ h.0) ≡ code n
code_parts part rest first n is h = ap (λ l. l ++ h.0) (sym is) ∙ sym h.1

pub code_empty : (part : List ℕ) (n : ℕ) → part ≡ [] → Tells true (Begins part (code n))
code_empty part n none = (λ e. begins_nil part (code n) none, λ g. refl)

pub code_last : (part rest : List ℕ) (first n : ℕ) (b : Bool) → n < 94 → part ≡ first ∷ rest → first ≡ 33 + n → Tells b (rest ≡ []) → Tells b (Begins part (code n))
code_last part rest first n b below is same tells = (
  λ e.
      let none = tells.0 e in
      ([], code-short n below ∙ ap (λ x. x ∷ []) (sym same) ∙ ap (λ l. first ∷ l) (sym none) ∙ sym is ∙ sym (append-nil part)),
  λ g. tells.1
      (elim (code_cases first (rest ++ g.0) n (code_parts part rest first n is g)) [
        | inl one ↦ nil_before rest g.0 one.rest
        | inr long ↦ absurd (let least = long.least in omega (arith, least, below))
      ]),
)

pub code_last_other : (part rest : List ℕ) (first n : ℕ) → n < 94 → part ≡ first ∷ rest → (first ≡ 33 + n → ⊥) → Tells false (Begins part (code n))
code_last_other part rest first n below is other = (
  λ e. absurd (false≢true e),
  λ g. absurd
      (elim (code_cases first (rest ++ g.0) n (code_parts part rest first n is g)) [
        | inl one ↦ other one.first
        | inr long ↦ let least = long.least in omega (arith, least, below)
      ]),
)

pub code_more : (part rest : List ℕ) (first n : ℕ) (b : Bool) → 94 ≤ n → part ≡ first ∷ rest → first ≡ 33 + n % 94 → Tells b (Begins rest (code (n / 94 - 1)))
    → Tells b (Begins part (code n))
code_more part rest first n b least is same tells = (
  λ e.
      let h = tells.0 e in
      (h.0, code-long n least ∙ ap (λ x. x ∷ code (n / 94 - 1)) (sym same) ∙ ap (λ l. first ∷ l) h.1 ∙ ap (λ l. l ++ h.0) (sym is)),
  λ g. tells.1
      (elim (code_cases first (rest ++ g.0) n (code_parts part rest first n is g)) [
        | inl one ↦ absurd (let below = one.below in omega (arith, least, below))
        | inr long ↦ (g.0, sym long.rest)
      ]),
)

pub code_more_other : (part rest : List ℕ) (first n : ℕ) → 94 ≤ n → part ≡ first ∷ rest → (first ≡ 33 + n % 94 → ⊥) → Tells false (Begins part (code n))
code_more_other part rest first n least is other = (
  λ e. absurd (false≢true e),
  λ g. absurd
      (elim (code_cases first (rest ++ g.0) n (code_parts part rest first n is g)) [
        | inl one ↦ let below = one.below in omega (arith, least, below)
        | inr long ↦ other long.first
      ]),
)
