-- Identifier codes, taken apart.
use Rattle.std.proofs.Common.{Bool, true, Option, Some, None, MatchOption, ◌≡◌, ℕ, ◌+◌, ◌-◌, ◌*◌, ◌/◌, ◌%◌, ◌^◌, ◌<◌, ◌≤◌, ◌⊎◌, List, [], ◌∷◌, length, get_or, take, drop, take_all, sym, ap, ◌∙◌, arith, inl, inr}
use Rattle.std.proofs.lemmas.Bool.{cases_lt}
use Rattle.vs_vcd_writing.specs.Codes.{code}
use Rattle.vs_vcd_writing.proofs.CodeLemmas.{code-short, code-long, length-code-least, code-injective}

-- what stands after the first byte
abbrev pub rest_of : List ℕ → List ℕ
rest_of text = take (length text - 1) (drop 1 text)

-- a text of at least one byte is its first byte and the rest
pub parts_of : (text : List ℕ) → 1 ≤ length text → text ≡ get_or text 0 0 ∷ rest_of text
parts_of [] h = absurd (omega (arith, h))
parts_of (b ∷ bs) h = ap (λ l. b ∷ l) (sym (take_all (length (b ∷ bs) - 1) bs (omega arith)))

pub code_none : (text : List ℕ) (n : ℕ) → length text ≡ 0 → text ≡ code n → ⊥
code_none text n h e = let some = length-code-least n in let size = ap length e in omega (arith, some, size, h)

-- a code of one character
pub record IsOneCharacter (b : ℕ) (bs : List ℕ) (n : ℕ) : Type 0 where
  pub below : n < 94
  pub first : b ≡ 33 + n
  pub rest : bs ≡ []

-- a code of more
pub record IsLonger (b : ℕ) (bs : List ℕ) (n : ℕ) : Type 0 where
  pub least : 94 ≤ n
  pub first : b ≡ 33 + n % 94
  pub rest : bs ≡ code (n / 94 - 1)

pub code_cases : (b : ℕ) (bs : List ℕ) (n : ℕ) → b ∷ bs ≡ code n → IsOneCharacter b bs n ⊎ IsLonger b bs n
code_cases b bs n e =
    elim (cases_lt n 94) [
      | inl below ↦
          let is : b ∷ bs ≡ (33 + n) ∷ [] = e ∙ code-short n below in
          inl (record { below = below; first = cc; rest = cc })
      | inr least ↦
          let is : b ∷ bs ≡ (33 + n % 94) ∷ code (n / 94 - 1) = e ∙ code-long n least in
          inr (record { least = least; first = cc; rest = cc })
    ]

pub code_above : (b above n : ℕ) (bs : List ℕ) → 33 ≤ b → b ≤ 126 → n ≡ 94 * (above + 1) + (b - 33) → bs ≡ code above → b ∷ bs ≡ code n
code_above b above n bs least most is e =
    let long : 94 ≤ n = omega (arith, is) in
    let low : 33 + n % 94 ≡ b = omega (arith, is, least, most) in
    let high : n / 94 - 1 ≡ above = omega (arith, is, least, most) in
    sym (code-long n long ∙ rw (low, high) (ap (λ l. b ∷ l) (sym e)))

pub longer_is_code : (text : List ℕ) (n : ℕ) (r : Bool) → 1 ≤ length text → 94 ≤ n → get_or text 0 0 ≡ 33 + n % 94
    → (r ≡ true → rest_of text ≡ code (n / 94 - 1)) × (rest_of text ≡ code (n / 94 - 1) → r ≡ true) → (r ≡ true → text ≡ code n) × (text ≡ code n → r ≡ true)
longer_is_code text n r some least first h = (
  λ yes. parts_of text some ∙ ap (λ l. get_or text 0 0 ∷ l) (h.0 yes) ∙ ap (λ b. b ∷ code (n / 94 - 1)) first ∙ sym (code-long n least),
  λ e. h.1 (let is : get_or text 0 0 ∷ rest_of text ≡ (33 + n % 94) ∷ code (n / 94 - 1) = sym (parts_of text some) ∙ e ∙ code-long n least in cc),
)

pub number_some : (text : List ℕ) (above : ℕ) (r : Option ℕ) → 1 ≤ length text → 33 ≤ get_or text 0 0 → get_or text 0 0 ≤ 126 → rest_of text ≡ code above
    → MatchOption r (2 ^ 64 ≤ 94 * (above + 1) + (get_or text 0 0 - 33)) (λ n. n ≡ 94 * (above + 1) + (get_or text 0 0 - 33))
    → MatchOption r ((n : ℕ) → n < 2 ^ 64 → text ≡ code n → ⊥) (λ n. text ≡ code n)
number_some text above (Some n) some least most e h = parts_of text some ∙ code_above (get_or text 0 0) above n (rest_of text) least most h e
number_some text above None some least most e h = λ n small is.
    elim (code_cases (get_or text 0 0) (rest_of text) n (sym (parts_of text some) ∙ is)) [
      | inl one ↦ let size = length-code-least above in let empty = ap length (sym e ∙ one.rest) in absurd (omega (arith, size, empty))
      | inr long ↦
          let same : above ≡ n / 94 - 1 = code-injective above (n / 94 - 1) (sym e ∙ long.rest) in
          absurd (omega (arith, same, long.first, long.least, small, h, least, most))
    ]

pub number_none : (text : List ℕ) → 1 ≤ length text → (length text ≡ 1 → ⊥) → ((n : ℕ) → n < 2 ^ 64 → rest_of text ≡ code n → ⊥)
    → (n : ℕ) → n < 2 ^ 64 → text ≡ code n → ⊥
number_none text some more none n small is =
    elim (code_cases (get_or text 0 0) (rest_of text) n (sym (parts_of text some) ∙ is)) [
      | inl one ↦ let size = ap length (parts_of text some ∙ ap (λ l. get_or text 0 0 ∷ l) one.rest) in more size
      | inr long ↦ none (n / 94 - 1) (omega (arith, small)) long.rest
    ]
