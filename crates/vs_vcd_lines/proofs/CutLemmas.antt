-- Texts cut at a byte.
use Rattle.std.proofs.Common.{◌≡◌, ℕ, suc, ◌+◌, ◌-◌, ◌<◌, ◌≤◌, Bool, true, false, eqb, List, [], ◌∷◌, ◌++◌, length, get_or, take, drop, refl, sym, ap, ◌∙◌, arith, inl, inr}
use Rattle.std.proofs.lemmas.Bool.{false≢true, cond-true, cond-false, cases_Bool, and_parts}
use Rattle.std.proofs.lemmas.Bool.Decides.{Decides-eqb}
use Rattle.std.proofs.lemmas.List.{take-append-drop, get_or-take, get_or-drop}
use Rattle.std.proofs.Math.Seq.{drop-cons, get_or-append_seam}
use Rattle.std.proofs.Common.{take_all, length-drop, length-take, length-append}
use Rattle.std.specs.List.{list_all}
use Rattle.vs_vcd_lines.specs.Cuts.{lacks, IsCut, IsCutLast}

pub eqb_is : (a b : ℕ) → a ≡ b → eqb a b ≡ true
eqb_is a b e = (Decides-eqb a b).1 e

pub eqb_not : (a b : ℕ) → (a ≡ b → ⊥) → eqb a b ≡ false
eqb_not a b h =
    elim (cases_Bool (eqb a b)) [
      | inl same ↦ absurd (h ((Decides-eqb a b).0 same))
      | inr other ↦ other
    ]

pub lacks_head : (byte b : ℕ) (bs : List ℕ) → lacks byte (b ∷ bs) ≡ true → (b ≡ byte → ⊥) × (lacks byte bs ≡ true)
lacks_head byte b bs h =
    elim (cases_Bool (eqb b byte)) [
      | inl same ↦ absurd (false≢true (sym (cond-true (eqb b byte) false (lacks byte bs) same) ∙ h))
      | inr other ↦ (λ e. false≢true (sym other ∙ eqb_is b byte e), sym (cond-false (eqb b byte) false (lacks byte bs) other) ∙ h)
    ]

pub lacks_more : (byte b : ℕ) (bs : List ℕ) → (b ≡ byte → ⊥) → lacks byte bs ≡ true → lacks byte (b ∷ bs) ≡ true
lacks_more byte b bs other h = cond-false (eqb b byte) false (lacks byte bs) (eqb_not b byte other) ∙ h

-- a text is cut at the first of a byte in one way
pub cut_once : (byte : ℕ) (a b r s : List ℕ) → lacks byte a ≡ true → lacks byte b ≡ true → a ++ byte ∷ r ≡ b ++ byte ∷ s → (a ≡ b) × (r ≡ s)
cut_once byte [] [] r s p q e = (refl, cc)
cut_once byte [] (d ∷ ds) r s p q e = absurd ((lacks_head byte d ds q).0 cc)
cut_once byte (c ∷ cs) [] r s p q e = absurd ((lacks_head byte c cs p).0 cc)
cut_once byte (c ∷ cs) (d ∷ ds) r s p q e =
    let first : c ≡ d = cc in
    let tails : cs ++ byte ∷ r ≡ ds ++ byte ∷ s = cc in
    let rest = cut_once byte cs ds r s (lacks_head byte c cs p).1 (lacks_head byte d ds q).1 tails in
    (let same : cs ≡ ds = rest.0 in cc, rest.1)

-- a byte stands in what goes on with it
lacks_not : (byte : ℕ) (a r : List ℕ) → lacks byte (a ++ byte ∷ r) ≡ true → ⊥
lacks_not byte [] r h = (lacks_head byte byte r h).0 refl
lacks_not byte (c ∷ cs) r h = lacks_not byte cs r (lacks_head byte c (cs ++ byte ∷ r) h).1

-- a byte that a text lacks divides it nowhere
pub lacks_cut : (byte : ℕ) (text before after : List ℕ) → lacks byte text ≡ true → text ≡ before ++ byte ∷ after → ⊥
lacks_cut byte text before after none is = lacks_not byte before after (ap (lacks byte) (sym is) ∙ none)

-- a text is cut at the last of a byte in one way
pub cut_last_once : (byte : ℕ) (a b r s : List ℕ) → lacks byte r ≡ true → lacks byte s ≡ true → a ++ byte ∷ r ≡ b ++ byte ∷ s → (a ≡ b) × (r ≡ s)
cut_last_once byte [] [] r s p q e = (refl, cc)
cut_last_once byte [] (d ∷ ds) r s p q e =
    let is : r ≡ ds ++ byte ∷ s = cc in
    absurd (lacks_not byte ds s (ap (lacks byte) (sym is) ∙ p))
cut_last_once byte (c ∷ cs) [] r s p q e =
    let is : cs ++ byte ∷ r ≡ s = cc in
    absurd (lacks_not byte cs r (ap (lacks byte) is ∙ q))
cut_last_once byte (c ∷ cs) (d ∷ ds) r s p q e =
    let first : c ≡ d = cc in
    let tails : cs ++ byte ∷ r ≡ ds ++ byte ∷ s = cc in
    let rest = cut_last_once byte cs ds r s p q tails in
    (let same : cs ≡ ds = rest.0 in cc, rest.1)

pub lacks_by_index : (byte : ℕ) (bs : List ℕ) → ((j : ℕ) → j < length bs → get_or bs j 0 ≡ byte → ⊥) → lacks byte bs ≡ true
lacks_by_index byte [] h = refl
lacks_by_index byte (b ∷ bs) h = lacks_more byte b bs (λ e. h 0 (omega arith) e) (lacks_by_index byte bs (λ j within e. h (suc j) (omega (arith, within)) e))

parts_at : (byte : ℕ) (text : List ℕ) (k : ℕ) → k < length text → get_or text k 0 ≡ byte → text ≡ take k text ++ byte ∷ take (length text - (k + 1)) (drop (k + 1) text)
parts_at byte text k within at =
    let next : k + 1 ≡ suc k = omega arith in
    let size : length (drop (k + 1) text) ≡ length text - (k + 1) = length-drop (k + 1) text in
    let rest : take (length text - (k + 1)) (drop (k + 1) text) ≡ drop (k + 1) text = take_all _ _ (omega (arith, size)) in
    let front : drop k text ≡ byte ∷ drop (k + 1) text = drop-cons text k 0 within ∙ rw (at, next) refl in
    sym (take-append-drop k text) ∙ ap (λ l. take k text ++ l) (front ∙ ap (λ l. byte ∷ l) (sym rest))

pub cut_at : (byte : ℕ) (text : List ℕ) (k : ℕ) → k < length text → get_or text k 0 ≡ byte → ((j : ℕ) → j < k → get_or text j 0 ≡ byte → ⊥)
    → IsCut byte text (take k text) (take (length text - (k + 1)) (drop (k + 1) text))
cut_at byte text k within at none = record {
  is = parts_at byte text k within at;
  first = lacks_by_index byte (take k text) (λ j below e.
      let size = length-take k text in
      let less : j < k = omega (arith, below, size, within) in
      none j less (sym (get_or-take k text j 0 less) ∙ e));
}

pub cut_last_at : (byte : ℕ) (text : List ℕ) (k : ℕ) → k < length text → get_or text k 0 ≡ byte → ((j : ℕ) → k + 1 ≤ j → j < length text → get_or text j 0 ≡ byte → ⊥)
    → IsCutLast byte text (take k text) (take (length text - (k + 1)) (drop (k + 1) text))
cut_last_at byte text k within at none =
    let size : length (drop (k + 1) text) ≡ length text - (k + 1) = length-drop (k + 1) text in
    let rest : take (length text - (k + 1)) (drop (k + 1) text) ≡ drop (k + 1) text = take_all _ _ (omega (arith, size)) in
    record {
      is = parts_at byte text k within at;
      last = ap (lacks byte) rest ∙ lacks_by_index byte (drop (k + 1) text) (λ j below e.
          none (k + 1 + j) (omega arith) (omega (arith, below, size)) (sym (get_or-drop (k + 1) text j 0) ∙ e));
    }

-- what all bytes of a text pass and a byte doesn't, the text lacks it
pub lacks_of_all : (p : ℕ → Bool) (byte : ℕ) (bs : List ℕ) → p byte ≡ false → list_all p bs ≡ true → lacks byte bs ≡ true
lacks_of_all p byte [] fails h = refl
lacks_of_all p byte (b ∷ bs) fails h =
    let parts = and_parts (p b) (list_all p bs) h in
    lacks_more byte b bs (λ e. false≢true (sym fails ∙ ap p (sym e) ∙ parts.0)) (lacks_of_all p byte bs fails parts.1)

pub lacks-append : (byte : ℕ) (cs bs : List ℕ) → lacks byte cs ≡ true → lacks byte bs ≡ true → lacks byte (cs ++ bs) ≡ true
lacks-append byte [] bs p q = q
lacks-append byte (c ∷ cs) bs p q = let head = lacks_head byte c cs p in lacks_more byte c (cs ++ bs) head.0 (lacks-append byte cs bs head.1 q)

pub eqb_gives : (a b : ℕ) → eqb a b ≡ true → a ≡ b
eqb_gives a b h = (Decides-eqb a b).0 h
