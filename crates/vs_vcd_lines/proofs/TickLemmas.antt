-- Beginnings of what a tick stands for.
use Rattle.std.proofs.Common.{◌≡◌, ◌⊎◌, inl, inr, ℕ, Bool, true, false, ◌||◌, eqb, List, [], ◌∷◌, ◌++◌, codes, drop, get_or, refl, sym, ap, subst, ◌∙◌, append_assoc, arith}
use Rattle.std.proofs.lemmas.Bool.{false≢true}
use Rattle.vs_design.specs.declared.timescale.Magnitude.{Magnitude}
use Rattle.vs_design.specs.declared.timescale.Magnitude.TheVariants.{One, Ten, Hundred}
use Rattle.vs_design.specs.declared.timescale.TimeUnit.{TimeUnit}
use Rattle.vs_design.specs.declared.timescale.TimeUnit.TheVariants.{Second, Millisecond, Microsecond, Nanosecond, Picosecond, Femtosecond}
use Rattle.vs_vcd_lines.specs.vs_vcd_writing.specs.Text.{magnitude_word, unit_word}
use Rattle.vs_vcd_lines.specs.Cuts.{lacks, IsCut}
use Rattle.vs_vcd_lines.proofs.CutLemmas.{cut_once, eqb_gives}
use Rattle.vs_vcd_lines.specs.Beginnings.{is_multiple, Begins, BeginsSpan, BeginsUnit, IsCount}
use Rattle.vs_vcd_lines.proofs.TextLemmas.{begins_before, begins_more, begins_nil, Tells}
use Rattle.vs_vcd_lines.proofs.WordLemmas.{magnitude_lacks}

-- ---- units

pub unit_nil : (part : List ℕ) → part ≡ [] → Tells true (BeginsUnit part)
unit_nil part none = (λ e. (Second, begins_nil part (codes "s $end") none), λ h. refl)

letter : (a b : ℕ) (xs ys : List ℕ) → a ∷ xs ≡ b ∷ ys → a ≡ b
letter a b xs ys e = ap (λ l. get_or l 0 0) e

second_rest : (u : TimeUnit) (xs : List ℕ) → unit_word u ++ codes " $end" ≡ 115 ∷ xs → codes " $end" ≡ xs
second_rest Second xs e = ap (drop 1) e
second_rest Millisecond xs e = let h = letter 109 115 _ xs e in absurd (omega (arith, h))
second_rest Microsecond xs e = let h = letter 117 115 _ xs e in absurd (omega (arith, h))
second_rest Nanosecond xs e = let h = letter 110 115 _ xs e in absurd (omega (arith, h))
second_rest Picosecond xs e = let h = letter 112 115 _ xs e in absurd (omega (arith, h))
second_rest Femtosecond xs e = let h = letter 102 115 _ xs e in absurd (omega (arith, h))

pub unit_second : (part rest : List ℕ) (first : ℕ) (b : Bool) → part ≡ first ∷ rest → first ≡ 115 → Tells b (Begins rest (codes " $end")) → Tells b (BeginsUnit part)
unit_second part rest first b is same tells =
    let whole : part ≡ 115 ∷ rest = is ∙ ap (λ x. x ∷ rest) same in (
      λ e. let h = tells.0 e in (Second, (h.0, ap (λ l. 115 ∷ l) h.1 ∙ ap (λ l. l ++ h.0) (sym whole))),
      λ h. tells.1 (h.1.0, second_rest h.0 (rest ++ h.1.0) (h.1.1 ∙ ap (λ l. l ++ h.1.0) whole)),
    )

or_told : (a b : Bool) → (a || b) ≡ true → (a ≡ true) ⊎ (b ≡ true)
or_told true b h = inl refl
or_told false b h = inr h

-- the unit of a character before the `s`
multiple_unit : (first : ℕ) → is_multiple first ≡ true → (u : TimeUnit) × (unit_word u ≡ first ∷ 115 ∷ [])
multiple_unit first h =
    elim (or_told (eqb first 109 || eqb first 117 || eqb first 110 || eqb first 112) (eqb first 102) h) [
      | inr f ↦ (Femtosecond, ap (λ x. x ∷ 115 ∷ []) (sym (eqb_gives first 102 f)))
      | inl h4 ↦ elim (or_told (eqb first 109 || eqb first 117 || eqb first 110) (eqb first 112) h4) [
        | inr f ↦ (Picosecond, ap (λ x. x ∷ 115 ∷ []) (sym (eqb_gives first 112 f)))
        | inl h3 ↦ elim (or_told (eqb first 109 || eqb first 117) (eqb first 110) h3) [
          | inr f ↦ (Nanosecond, ap (λ x. x ∷ 115 ∷ []) (sym (eqb_gives first 110 f)))
          | inl h2 ↦ elim (or_told (eqb first 109) (eqb first 117) h2) [
            | inr f ↦ (Microsecond, ap (λ x. x ∷ 115 ∷ []) (sym (eqb_gives first 117 f)))
            | inl f ↦ (Millisecond, ap (λ x. x ∷ 115 ∷ []) (sym (eqb_gives first 109 f)))
          ]
        ]
      ]
    ]

-- a unit with another first character than `s`
multiple_rest : (u : TimeUnit) (first : ℕ) (xs : List ℕ) → (first ≡ 115 → ⊥) → unit_word u ++ codes " $end" ≡ first ∷ xs → (is_multiple first ≡ true) × (codes "s $end" ≡ xs)
multiple_rest Second first xs other e = absurd (other (sym (letter 115 first _ xs e)))
multiple_rest Millisecond first xs other e = (subst (λ x. is_multiple x ≡ true) (letter 109 first _ xs e) refl, ap (drop 1) e)
multiple_rest Microsecond first xs other e = (subst (λ x. is_multiple x ≡ true) (letter 117 first _ xs e) refl, ap (drop 1) e)
multiple_rest Nanosecond first xs other e = (subst (λ x. is_multiple x ≡ true) (letter 110 first _ xs e) refl, ap (drop 1) e)
multiple_rest Picosecond first xs other e = (subst (λ x. is_multiple x ≡ true) (letter 112 first _ xs e) refl, ap (drop 1) e)
multiple_rest Femtosecond first xs other e = (subst (λ x. is_multiple x ≡ true) (letter 102 first _ xs e) refl, ap (drop 1) e)

pub unit_multiple : (part rest : List ℕ) (first : ℕ) (b : Bool) → part ≡ first ∷ rest → (first ≡ 115 → ⊥) → is_multiple first ≡ true → Tells b (Begins rest (codes "s $end"))
    → Tells b (BeginsUnit part)
unit_multiple part rest first b is other letter_is tells = (
  λ e.
      let h = tells.0 e in
      let u = multiple_unit first letter_is in
      (u.0, (h.0, ap (λ l. l ++ codes " $end") u.1 ∙ ap (λ l. first ∷ l) h.1 ∙ ap (λ l. l ++ h.0) (sym is))),
  λ h. tells.1 (h.1.0, (multiple_rest h.0 first (rest ++ h.1.0) other (h.1.1 ∙ ap (λ l. l ++ h.1.0) is)).1),
)

pub unit_other : (part rest : List ℕ) (first : ℕ) → part ≡ first ∷ rest → (first ≡ 115 → ⊥) → is_multiple first ≡ false → Tells false (BeginsUnit part)
unit_other part rest first is other none = (
  λ e. absurd (false≢true e),
  λ h. absurd (false≢true (sym none ∙ (multiple_rest h.0 first (rest ++ h.1.0) other (h.1.1 ∙ ap (λ l. l ++ h.1.0) is)).0)),
)

-- ---- so many of a unit

span_is : (m : Magnitude) (u : TimeUnit) → magnitude_word m ++ codes " " ++ unit_word u ++ codes " $end" ≡ magnitude_word m ++ 32 ∷ (unit_word u ++ codes " $end")
span_is One u = refl
span_is Ten u = refl
span_is Hundred u = refl

word_begins : (m : Magnitude) → Begins (magnitude_word m) (codes "100")
word_begins One = (codes "00", refl)
word_begins Ten = (codes "0", refl)
word_begins Hundred = ([], refl)

pub span_uncut : (part : List ℕ) (b : Bool) → lacks 32 part ≡ true → Tells b (Begins part (codes "100")) → Tells b (BeginsSpan part)
span_uncut part b one tells = (
  λ e. (record { magnitude = Hundred; unit = Second }, begins_more part (codes "100") (codes " s $end") (tells.0 e)),
  λ h.
      let m = h.0.magnitude in
      let u = h.0.unit in
      let more = begins_before 32 part h.1.0 (magnitude_word m) (unit_word u ++ codes " $end") one (sym h.1.1 ∙ span_is m u) in
      let pad = word_begins m in
      tells.1 (more.0 ++ pad.0, pad.1 ∙ ap (λ l. l ++ pad.0) more.1 ∙ append_assoc part more.0 pad.0),
)

pub span_cut : (part count unit : List ℕ) (b : Bool) → IsCut 32 part count unit → IsCount count → Tells b (BeginsUnit unit) → Tells b (BeginsSpan part)
span_cut part count unit b cut counts tells = (
  λ e.
      let h = tells.0 e in
      let m = counts.0 in (
        record { magnitude = m; unit = h.0 },
        (
          h.1.0,
          span_is m h.0 ∙ ap (λ l. l ++ 32 ∷ (unit_word h.0 ++ codes " $end")) (sym counts.1) ∙ ap (λ l. count ++ 32 ∷ l) h.1.1
              ∙ sym (append_assoc count (32 ∷ unit) h.1.0) ∙ ap (λ l. l ++ h.1.0) (sym cut.is),
        ),
      ),
  λ h.
      let m = h.0.magnitude in
      let u = h.0.unit in
      let once = cut_once 32 (magnitude_word m) count (unit_word u ++ codes " $end") (unit ++ h.1.0) (magnitude_lacks m) cut.first
      (sym (span_is m u) ∙ h.1.1 ∙ ap (λ l. l ++ h.1.0) cut.is ∙ append_assoc count (32 ∷ unit) h.1.0) in
      tells.1 (u, (h.1.0, once.1)),
)

pub span_uncounted : (part count unit : List ℕ) → IsCut 32 part count unit → (IsCount count → ⊥) → Tells false (BeginsSpan part)
span_uncounted part count unit cut none = (
  λ e. absurd (false≢true e),
  λ h.
      let m = h.0.magnitude in
      let u = h.0.unit in
      let once = cut_once 32 (magnitude_word m) count (unit_word u ++ codes " $end") (unit ++ h.1.0) (magnitude_lacks m) cut.first
      (sym (span_is m u) ∙ h.1.1 ∙ ap (λ l. l ++ h.1.0) cut.is ∙ append_assoc count (32 ∷ unit) h.1.0) in
      absurd (none (m, sym once.0)),
)
