-- Names as a value change dump has them.
use Rattle.std.proofs.Common.{◌≡◌, ℕ, ◌<◌, ◌^◌, ℤ, Bool, true, List, [], ◌∷◌, ◌++◌, codes, decimal, suc, subst, refl, sym, ap, ◌∙◌, append_assoc, arith}
use Rattle.std.specs.Fmt.{signed_decimal}
use Rattle.std.specs.Int.{IsInRange}
use Rattle.std.specs.Str.Parse.{AllDigits}
use Rattle.std.proofs.lemmas.Str.Parse.{numerals_by_value, tells_digits, not_in_digits}
use Rattle.std.proofs.lemmas.Fmt.{decimal_is_IsNumeral}
use Rattle.vs_vcd_lines.specs.Cuts.{lacks, IsCutLast}
use Rattle.vs_vcd_lines.specs.Names.{is_body, IsEscaped, IsName, IsNumber, IsShort, IsTurn}
use Rattle.vs_vcd_lines.specs.Names.IsShort.{short, negative}
use Rattle.vs_vcd_lines.proofs.CutLemmas.{cut_last_once, lacks_by_index, lacks_cut, lacks_more}

-- what stands before an end, once
pub end_once : (byte : ℕ) (a b : List ℕ) → a ++ byte ∷ [] ≡ b ++ byte ∷ [] → a ≡ b
end_once byte a b e = (cut_last_once byte a b [] [] refl refl e).0

pub escaped_is : (text rest body : List ℕ) (r : Bool) → text ≡ codes "\\" ++ rest → rest ≡ body ++ codes " " → r ≡ is_body body
    → (r ≡ true → IsEscaped text) × (IsEscaped text → r ≡ true)
escaped_is text rest body r first last is = (
  λ h. record { body = body; printable = sym is ∙ h; is = first ∙ ap (λ l. codes "\\" ++ l) last },
  λ h.
      let whole : codes "\\" ++ rest ≡ codes "\\" ++ h.body ++ codes " " = sym first ∙ h.is in
      let tails : rest ≡ h.body ++ codes " " = cc in
      let same : body ≡ h.body = end_once 32 body h.body (sym last ∙ tails) in
      is ∙ ap is_body same ∙ h.printable,
)

pub no_backslash : (text : List ℕ) → ((rest : List ℕ) → text ≡ codes "\\" ++ rest → ⊥) → IsEscaped text → ⊥
no_backslash text none h = none (h.body ++ codes " ") h.is

pub no_space : (text rest : List ℕ) → text ≡ codes "\\" ++ rest → ((front : List ℕ) → rest ≡ front ++ codes " " → ⊥) → IsEscaped text → ⊥
no_space text rest first none h =
    let whole : codes "\\" ++ rest ≡ codes "\\" ++ h.body ++ codes " " = sym first ∙ h.is in
    let tails : rest ≡ h.body ++ codes " " = cc in
    none h.body tails

pub lacks-decimal : (byte n : ℕ) → (IsInRange 48 57 byte → ⊥) → n < 2 ^ 64 → lacks byte (decimal n) ≡ true
lacks-decimal byte n out small =
    lacks_by_index byte (decimal n) (not_in_digits (numerals_by_value (AllDigits 10) tells_digits) (decimal n) byte (decimal_is_IsNumeral n small).0.1 out)

pub lacks-signed_decimal : (byte : ℕ) (n : ℤ) → (IsInRange 48 57 byte → ⊥) → (byte ≡ 45 → ⊥) → IsShort n → lacks byte (signed_decimal n) ≡ true
lacks-signed_decimal byte n out other (short low h) = lacks-decimal byte low out (omega (arith, h))
lacks-signed_decimal byte n out other (negative below h) =
    lacks_more byte 45 (decimal (suc below)) (λ e. other (sym e)) (lacks-decimal byte (suc below) out (omega (arith, h)))

pub no_bracket : IsInRange 48 57 91 → ⊥
no_bracket h = omega (arith, h)

brackets : (name number : List ℕ) → (name ++ 91 ∷ number) ++ codes "]" ≡ name ++ codes "[" ++ number ++ codes "]"
brackets name number = ap (λ l. l ++ codes "]") (sym (append_assoc name (codes "[") number))

-- a turn's name is cut in one way
pub turn_parts : (text front : List ℕ) → text ≡ front ++ codes "]" → (t : IsTurn text) → front ≡ t.name ++ 91 ∷ signed_decimal t.value
turn_parts text front last t =
    end_once 93 front (t.name ++ 91 ∷ signed_decimal t.value) (sym last ∙ t.is ∙ sym (brackets t.name (signed_decimal t.value)))

pub turn_is : (text front name number : List ℕ) (r : Bool) → text ≡ front ++ codes "]" → IsCutLast 91 front name number
    → (r ≡ true → IsName name × IsNumber number) × (IsName name × IsNumber number → r ≡ true) → (r ≡ true → IsTurn text) × (IsTurn text → r ≡ true)
turn_is text front name number r last parts h = (
  λ e.
      let both = h.0 e in
      record {
        name = name;
        value = both.1.value;
        named = both.0;
        short = both.1.short;
        is = last ∙ ap (λ l. l ++ codes "]") (parts.is ∙ ap (λ l. name ++ 91 ∷ l) both.1.is) ∙ brackets name (signed_decimal both.1.value);
      },
  λ t.
      let same = cut_last_once 91 name t.name number (signed_decimal t.value) parts.last
      (lacks-signed_decimal 91 t.value no_bracket (λ e. absurd (omega (arith, e))) t.short) (sym parts.is ∙ turn_parts text front last t) in
      h.1 (subst IsName (sym same.0) t.named, record { value = t.value; short = t.short; is = same.1 }),
)

pub no_end : (text : List ℕ) → ((front : List ℕ) → text ≡ front ++ codes "]" → ⊥) → IsTurn text → ⊥
no_end text none t = none (t.name ++ 91 ∷ signed_decimal t.value) (t.is ∙ sym (brackets t.name (signed_decimal t.value)))

pub no_start : (text front : List ℕ) → text ≡ front ++ codes "]" → lacks 91 front ≡ true → IsTurn text → ⊥
no_start text front last none t = lacks_cut 91 front t.name (signed_decimal t.value) none (turn_parts text front last t)
