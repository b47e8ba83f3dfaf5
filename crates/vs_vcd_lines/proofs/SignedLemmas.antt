-- Beginnings of the numbers in the lines of declarations.
use Rattle.std.proofs.Common.{◌≡◌, ◌⊎◌, inl, inr, ℕ, zero, suc, ◌<◌, ◌≤◌, ◌^◌, ℤ, pos, negsuc, Bool, true, List, [], ◌∷◌, ◌++◌, decimal, refl, sym, ap, subst, ◌∙◌, arith}
use Rattle.std.specs.Fmt.{signed_decimal}
use Rattle.std.proofs.lemmas.List.{append-nil}
use Rattle.vs_vcd_lines.specs.Names.{IsNumber, IsShort}
use Rattle.vs_vcd_lines.specs.Names.IsShort.{short, negative}
use Rattle.vs_vcd_lines.specs.Beginnings.{Begins}
use Rattle.vs_vcd_lines.specs.BeginningsParts.{BeginsSome, IsSomeSize}
use Rattle.vs_vcd_lines.proofs.TextLemmas.{begins_nil, Tells}
use Rattle.vs_vcd_lines.proofs.BeginningsNumberLemmas.{begun_number, zero_begins}

-- a minus and the digits of a number that begin those of one that isn't 0
minus_of : (x : ℕ) (ds : List ℕ) (m below : ℕ) → x ≡ 45 → ds ≡ decimal m → m ≤ suc below → below < 2 ^ 63 → Begins ds (decimal (suc below)) → IsNumber (x ∷ ds)
minus_of x ds zero below minus is most fits b = absurd (zero_begins below (omega (arith, fits)) (b.0, b.1 ∙ ap (λ l. l ++ b.0) is))
minus_of x ds (suc m) below minus is most fits b =
    record { value = negsuc m; short = negative m (omega (arith, most, fits)); is = ap (λ y. y ∷ ds) minus ∙ ap (λ l. 45 ∷ l) is }

-- what begins a number from -2^63 to 2^63 - 1 is empty, a minus alone, or such a number
pub begun_signed : (text : List ℕ) (n : ℤ) → IsShort n → Begins text (signed_decimal n) → (text ≡ []) ⊎ ((text ≡ 45 ∷ []) ⊎ IsNumber text)
begun_signed [] n h b = inl refl
begun_signed (x ∷ xs) _ (short low fits) b =
    let m = begun_number low (x ∷ xs) (omega (arith, fits)) (λ e. absurd cc) b in
    let most = m.1 in
    inr (inr (record { value = pos m.0; short = short m.0 (omega (arith, most, fits)); is = m.2 }))
begun_signed (x ∷ []) _ (negative below fits) b =
    let e = b.1 in
    let first : 45 ≡ x = cc in inr (inl (ap (λ y. y ∷ []) (sym first)))
begun_signed (x ∷ y ∷ ys) _ (negative below fits) b =
    let e = b.1 in
    let first : 45 ≡ x = cc in
    let tails : decimal (suc below) ≡ (y ∷ ys) ++ b.0 = cc in
    let m = begun_number (suc below) (y ∷ ys) (omega (arith, fits)) (λ e. absurd cc) (b.0, tails) in
    inr (inr (minus_of x (y ∷ ys) m.0 below (sym first) m.2 m.1 fits (b.0, tails)))

-- ---- whether a text begins a number

pub number_empty : (text : List ℕ) → text ≡ [] → Tells true (BeginsSome IsNumber text)
number_empty text none = (
  λ e.
      record {
        whole = signed_decimal (pos 0);
        is = record { value = pos 0; short = short 0 (omega arith); is = refl };
        begins = begins_nil text (signed_decimal (pos 0)) none;
      },
  λ g. refl,
)

pub number_sign : (text : List ℕ) → text ≡ 45 ∷ [] → Tells true (BeginsSome IsNumber text)
number_sign text sign = (
  λ e.
      record {
        whole = signed_decimal (negsuc 0);
        is = record { value = negsuc 0; short = negative 0 (omega arith); is = refl };
        begins = (decimal 1, ap (λ l. l ++ decimal 1) (sym sign));
      },
  λ g. refl,
)

pub number_told : (text : List ℕ) (b : Bool) → (text ≡ [] → ⊥) → (text ≡ 45 ∷ [] → ⊥) → Tells b (IsNumber text) → Tells b (BeginsSome IsNumber text)
number_told text b some unsigned tells = (
  λ e. record { whole = text; is = tells.0 e; begins = ([], sym (append-nil text)) },
  λ g. elim (begun_signed text g.is.value g.is.short (g.begins.0, sym g.is.is ∙ g.begins.1)) [
    | inl none ↦ absurd (some none)
    | inr other ↦ elim other [ inl sign ↦ absurd (unsigned sign) | inr number ↦ tells.1 number ]
  ],
)

-- ---- whether a text begins a size

pub size_empty : (text : List ℕ) → text ≡ [] → Tells true (BeginsSome IsSomeSize text)
size_empty text none = (
  λ e.
      record {
        whole = decimal 1;
        is = (1, record { some = omega arith; most = omega arith; is = refl });
        begins = begins_nil text (decimal 1) none;
      },
  λ g. refl,
)

size_of : (m n : ℕ) (text : List ℕ) → 0 < n → n ≤ 64 → m ≤ n → text ≡ decimal m → Begins text (decimal n) → IsSomeSize text
size_of zero zero text some most less is begins = absurd (omega (arith, some))
size_of zero (suc n) text some most less is begins =
    absurd (zero_begins n (omega (arith, most)) (subst (λ l. Begins l (decimal (suc n))) is begins))
size_of (suc m) n text some most less is begins = (suc m, record { some = omega arith; most = omega (arith, most, less); is = is })

pub size_told : (text : List ℕ) (b : Bool) → (text ≡ [] → ⊥) → Tells b (IsSomeSize text) → Tells b (BeginsSome IsSomeSize text)
size_told text b some tells = (
  λ e. record { whole = text; is = tells.0 e; begins = ([], sym (append-nil text)) },
  λ g.
      let n = g.is.0 in
      let s = g.is.1 in
      let most = s.most in
      let begins : Begins text (decimal n) = (g.begins.0, sym s.is ∙ g.begins.1) in
      let m = begun_number n text (omega (arith, most)) some begins in
      tells.1 (size_of m.0 n text s.some most m.1 m.2 begins),
)
