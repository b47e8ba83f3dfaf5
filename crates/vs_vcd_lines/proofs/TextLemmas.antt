-- Beginnings of texts.
use Rattle.std.proofs.Common.{◌≡◌, ◌⊎◌, inl, inr, ℕ, Bool, true, List, [], ◌∷◌, ◌++◌, length, refl, sym, ap, subst, ◌∙◌, append_assoc, arith}
use Rattle.vs_vcd_lines.specs.Cuts.{lacks}
use Rattle.vs_vcd_lines.proofs.CutLemmas.{lacks_head}
use Rattle.vs_vcd_lines.specs.Beginnings.{Begins}

-- what a test tells
abbrev pub Tells : Bool → Type 0 → Type 0
Tells b P = (b ≡ true → P) × (P → b ≡ true)

-- the same, of an equal one
pub as_tells : (P : Type 0) (a b : Bool) → a ≡ b → Tells b P → Tells a P
as_tells P a b same h = subst (λ x. Tells x P) (sym same) h

pub nil_of : (l : List ℕ) → length l ≡ 0 → l ≡ []
nil_of [] h = refl
nil_of (b ∷ bs) h = absurd (omega (arith, h))

pub nil_before : (a b : List ℕ) → a ++ b ≡ [] → a ≡ []
nil_before [] b e = refl
nil_before (x ∷ xs) b e = absurd cc

-- of two beginnings of a text one begins the other
pub either_begins : (a b c d : List ℕ) → a ++ b ≡ c ++ d → Begins a c ⊎ Begins c a
either_begins [] b c d e = inl (c, refl)
either_begins (x ∷ xs) b [] d e = inr (x ∷ xs, refl)
either_begins (x ∷ xs) b (y ∷ ys) d e =
    let same : x ≡ y = cc in
    let tails : xs ++ b ≡ ys ++ d = cc in
    elim (either_begins xs b ys d tails) [
      | inl h ↦ inl (h.0, ap (λ l. y ∷ l) h.1 ∙ ap (λ z. z ∷ (xs ++ h.0)) (sym same))
      | inr h ↦ inr (h.0, ap (λ l. x ∷ l) h.1 ∙ ap (λ z. z ∷ (ys ++ h.0)) same)
    ]

pub begins_nil : (part whole : List ℕ) → part ≡ [] → Begins part whole
begins_nil part whole none = (whole, ap (λ l. l ++ whole) (sym none))

pub begins_more : (part whole more : List ℕ) → Begins part whole → Begins part (whole ++ more)
begins_more part whole more h = (h.0 ++ more, ap (λ l. l ++ more) h.1 ∙ append_assoc part h.0 more)

-- what lacks a byte and begins so begins what stands before that byte
pub begins_before : (byte : ℕ) (a r l s : List ℕ) → lacks byte a ≡ true → a ++ r ≡ l ++ byte ∷ s → (more : List ℕ) × (l ≡ a ++ more)
begins_before byte [] r l s one e = (l, refl)
begins_before byte (b ∷ bs) r [] s one e = let same : b ≡ byte = cc in absurd ((lacks_head byte b bs one).0 same)
begins_before byte (b ∷ bs) r (c ∷ cs) s one e =
    let same : c ≡ b = cc in
    let tails : bs ++ r ≡ cs ++ byte ∷ s = cc in
    let rest = begins_before byte bs r cs s (lacks_head byte b bs one).1 tails in
    (rest.0, ap (λ x. x ∷ cs) same ∙ ap (λ l. b ∷ l) rest.1)
