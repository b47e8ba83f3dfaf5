-- Beginnings of the lines of changes.
use Rattle.std.specs.Prelude.{not}
use Rattle.std.proofs.Common.{◌≡◌, ℕ, zero, suc, ◌<◌, ◌≤◌, ◌^◌, Bool, true, false, Option, Some, None, List, [], ◌∷◌, ◌++◌, get_or, length, map, reverse, replicate, refl, sym, ap, subst, ◌∙◌, append_assoc, length-append, arith}
use Rattle.std.proofs.lemmas.Bool.{false≢true}
use Rattle.std.proofs.lemmas.List.{length-replicate}
use Rattle.vs_design.specs.vs_logic4.specs.declared.digit.Digit.{Digit}
use Rattle.vs_design.specs.vs_logic4.specs.declared.digit.Digit.TheVariants.{Zero, One, X, Z}
use Rattle.vs_vcd_lines.specs.vs_vcd_writing.specs.Codes.{code}
use Rattle.vs_vcd_lines.specs.vs_vcd_writing.proofs.CodeLemmas.{length-code}
use Rattle.vs_vcd_lines.specs.vs_vcd_writing.specs.Values.{digit_character, shortened, value_change}
use Rattle.vs_vcd_lines.specs.Cuts.{lacks, IsCut}
use Rattle.vs_vcd_lines.specs.Lines.{IsValue}
use Rattle.vs_vcd_lines.proofs.ChangeLemmas.{wide_text}
use Rattle.vs_vcd_lines.proofs.CutLemmas.{cut_once}
use Rattle.vs_vcd_lines.proofs.ValueLemmas.{spelled_once, value_short, character_once}
use Rattle.vs_vcd_lines.specs.Beginnings.{Begins, BeginsChange, BeginsDigits, IsOther}
use Rattle.vs_vcd_lines.proofs.BeginningsValueLemmas.{characters_lack, values_once}
use Rattle.vs_vcd_lines.proofs.TextLemmas.{begins_before, begins_more, begins_nil, Tells}

-- ---- some other value

pub other_some : (old : Option (List Digit)) (value v : List Digit) (r : Bool) → old ≡ Some v → Tells r (value ≡ v) → Tells (not r) (IsOther old value)
other_some old value v true is tells = (λ e. absurd (false≢true e), λ h. absurd (h v is (tells.0 refl)))
other_some old value v false is tells = (
  λ e o at same. absurd (let olds : Some v ≡ Some o = sym is ∙ at in let one : v ≡ o = cc in false≢true (tells.1 (same ∙ sym one))),
  λ h. refl,
)

none_some : (v : List Digit) → None ≡ Some v → ⊥
none_some v e = absurd cc

pub other_none : (old : Option (List Digit)) (value : List Digit) → old ≡ None → Tells true (IsOther old value)
other_none old value is = (λ e o at same. none_some o (sym is ∙ at), λ h. refl)

abbrev other_digit : Digit → Digit
other_digit Zero = One
other_digit One = Zero
other_digit X = Zero
other_digit Z = Zero

digit_differs : (d : Digit) → other_digit d ≡ d → ⊥
digit_differs Zero e = let h = ap digit_character e in omega (arith, h)
digit_differs One e = let h = ap digit_character e in omega (arith, h)
digit_differs X e = let h = ap digit_character e in omega (arith, h)
digit_differs Z e = let h = ap digit_character e in omega (arith, h)

-- a value of a size other than the old one
pub some_other : (width : ℕ) (old : Option (List Digit)) → 0 < width → (v : List Digit) × (length v ≡ width) × IsOther old v
some_other width None some = (replicate width X, length-replicate width X, λ o e. absurd cc)
some_other width (Some []) some = (
  replicate width X,
  length-replicate width X,
  λ o e same. let olds : [] ≡ o = cc in let size = ap length (same ∙ sym olds) in omega (arith, size, length-replicate width X, some),
)
some_other (suc n) (Some (d ∷ ds)) some = (
  replicate (suc n) (other_digit d),
  length-replicate (suc n) (other_digit d),
  λ o e same. let olds : d ∷ ds ≡ o = cc in let whole : other_digit d ∷ replicate n (other_digit d) ≡ d ∷ ds = same ∙ sym olds in digit_differs d cc,
)
some_other zero (Some (d ∷ ds)) some = absurd (omega (arith, some))

pub empty_change : (number width : ℕ) (old : Option (List Digit)) (part : List ℕ) → 0 < width → part ≡ [] → Tells true (BeginsChange number width old part)
empty_change number width old part some none = (
  λ e.
      let v = some_other width old some in
      record { change = record { number = number; value = v.0 }; numbered = refl; wide = v.1; other = v.2; begins = begins_nil part _ none },
  λ g. refl,
)

pub empty_digits : (text : List ℕ) (width : ℕ) (old : Option (List Digit)) → 0 < width → text ≡ [] → Tells true (BeginsDigits width old text)
empty_digits text width old some none = (
  λ e. let v = some_other width old some in record { value = v.0; wide = v.1; other = v.2; begins = begins_nil text _ none },
  λ g. refl,
)

-- ---- one bit

one_of : (v : List Digit) → length v ≡ 1 → (d : Digit) × (v ≡ d ∷ [])
one_of [] h = absurd (omega (arith, h))
one_of (d ∷ []) h = (d, refl)
one_of (d ∷ e ∷ ds) h = absurd (omega (arith, h))

-- the character of a digit, and the rest of a line that a text begins
record IsBit (number : ℕ) (old : Option (List Digit)) (first : ℕ) (rest : List ℕ) : Type 0 where
  pub digit : Digit
  pub is : first ≡ digit_character digit
  pub other : IsOther old (digit ∷ [])
  pub begins : Begins rest (code number)

bit_of : (number : ℕ) (old : Option (List Digit)) (part rest : List ℕ) (first : ℕ) → part ≡ first ∷ rest → BeginsChange number 1 old part → IsBit number old first rest
bit_of number old part rest first is h =
    let one = one_of h.change.value h.wide in
    let line : digit_character one.0 ∷ code number ≡ first ∷ (rest ++ h.begins.0) =
    ap (λ n. digit_character one.0 ∷ code n) (sym h.numbered) ∙ ap (λ v. value_change v (code h.change.number)) (sym one.1) ∙ h.begins.1
    ∙ ap (λ l. l ++ h.begins.0) is in
    let heads : digit_character one.0 ≡ first = ap (λ l. get_or l 0 0) line in
    let tails : code number ≡ rest ++ h.begins.0 = cc in
    record { digit = one.0; is = sym heads; other = subst (IsOther old) one.1 h.other; begins = (h.begins.0, tails) }

pub bit_tells : (number : ℕ) (old : Option (List Digit)) (part rest : List ℕ) (first : ℕ) (d : Digit) (b : Bool) → part ≡ first ∷ rest → first ≡ digit_character d
    → IsOther old (d ∷ []) → Tells b (Begins rest (code number)) → Tells b (BeginsChange number 1 old part)
bit_tells number old part rest first d b is digit other tells = (
  λ e.
      let h = tells.0 e in
      record {
        change = record { number = number; value = d ∷ [] };
        numbered = refl;
        wide = refl;
        other = other;
        begins = (h.0, ap (λ l. digit_character d ∷ l) h.1 ∙ ap (λ x. x ∷ (rest ++ h.0)) (sym digit) ∙ ap (λ l. l ++ h.0) (sym is));
      },
  λ g. tells.1 (bit_of number old part rest first is g).begins,
)

pub bit_old : (number : ℕ) (old : Option (List Digit)) (part rest : List ℕ) (first : ℕ) (d : Digit) → part ≡ first ∷ rest → first ≡ digit_character d
    → (IsOther old (d ∷ []) → ⊥) → Tells false (BeginsChange number 1 old part)
bit_old number old part rest first d is digit same = (
  λ e. absurd (false≢true e),
  λ g.
      let h = bit_of number old part rest first is g in
      absurd (same (subst (λ x. IsOther old (x ∷ [])) (character_once h.digit d (sym h.is ∙ digit)) h.other)),
)

pub no_bit : (number : ℕ) (old : Option (List Digit)) (part rest : List ℕ) (first : ℕ) → part ≡ first ∷ rest → ((d : Digit) → first ≡ digit_character d → ⊥)
    → Tells false (BeginsChange number 1 old part)
no_bit number old part rest first is none =
    (λ e. absurd (false≢true e), λ g. absurd (let h = bit_of number old part rest first is g in none h.digit h.is))

-- ---- more bits

-- the digits and the code of a line that a text begins, which has a `b`
record IsWord (number width : ℕ) (old : Option (List Digit)) (first : ℕ) (text : List ℕ) : Type 0 where
  pub value : List Digit
  pub letter : first ≡ 98
  pub wide : length value ≡ width
  pub other : IsOther old value
  pub begins : Begins text (map digit_character (shortened (reverse value)) ++ 32 ∷ code number)

word_of : (number width : ℕ) (old : Option (List Digit)) (part text : List ℕ) (first : ℕ) → 2 ≤ width → part ≡ first ∷ text → BeginsChange number width old part
    → IsWord number width old first text
word_of number width old part text first more is h =
    let v = h.change.value in
    let wide = h.wide in
    let line : 98 ∷ (map digit_character (shortened (reverse v)) ++ 32 ∷ code number) ≡ first ∷ (text ++ h.begins.0) =
    ap (λ n. 98 ∷ (map digit_character (shortened (reverse v)) ++ 32 ∷ code n)) (sym h.numbered)
    ∙ sym (wide_text v (code h.change.number) (omega (arith, wide, more))) ∙ h.begins.1 ∙ ap (λ l. l ++ h.begins.0) is in
    let heads : 98 ≡ first = ap (λ l. get_or l 0 0) line in
    let tails : map digit_character (shortened (reverse v)) ++ 32 ∷ code number ≡ text ++ h.begins.0 = cc in
    record { value = v; letter = sym heads; wide = wide; other = h.other; begins = (h.begins.0, tails) }

word_made : (number width : ℕ) (old : Option (List Digit)) (part text : List ℕ) (first : ℕ) (v : List Digit) → 2 ≤ width → part ≡ first ∷ text → first ≡ 98
    → length v ≡ width → IsOther old v → Begins text (map digit_character (shortened (reverse v)) ++ 32 ∷ code number) → BeginsChange number width old part
word_made number width old part text first v more is letter wide other h = record {
  change = record { number = number; value = v };
  numbered = refl;
  wide = wide;
  other = other;
  begins = (
    h.0,
    wide_text v (code number) (omega (arith, wide, more)) ∙ ap (λ l. 98 ∷ l) h.1 ∙ ap (λ x. x ∷ (text ++ h.0)) (sym letter) ∙ ap (λ l. l ++ h.0) (sym is),
  );
}

-- digits, a space and a code have so many characters at most
pub word_long : (number width : ℕ) (old : Option (List Digit)) (part text : List ℕ) (first : ℕ) → 2 ≤ width → width ≤ 64 → number < 2 ^ 64 → part ≡ first ∷ text
    → 75 < length text → Tells false (BeginsChange number width old part)
word_long number width old part text first more most small is long = (
  λ e. absurd (false≢true e),
  λ g.
      let h = word_of number width old part text first more is g in
      let digits = map digit_character (shortened (reverse h.value)) in
      let short = value_short digits width h.value (omega (arith, more)) (record { wide = h.wide; is = refl }) in
      let ten = length-code number small in
      let size = length-append digits (32 ∷ code number) in
      let whole = ap length h.begins.1 ∙ length-append text h.begins.0 in
      absurd (omega (arith, short, ten, size, whole, long, most)),
)

pub no_letter : (number width : ℕ) (old : Option (List Digit)) (part text : List ℕ) (first : ℕ) → 2 ≤ width → part ≡ first ∷ text → (first ≡ 98 → ⊥)
    → Tells false (BeginsChange number width old part)
no_letter number width old part text first more is none =
    (λ e. absurd (false≢true e), λ g. absurd (let h = word_of number width old part text first more is g in none h.letter))

pub word_uncut : (number width : ℕ) (old : Option (List Digit)) (part text : List ℕ) (first : ℕ) (b : Bool) → 2 ≤ width → part ≡ first ∷ text → first ≡ 98
    → lacks 32 text ≡ true → Tells b (BeginsDigits width old text) → Tells b (BeginsChange number width old part)
word_uncut number width old part text first b more is letter one tells = (
  λ e.
      let h = tells.0 e in
      word_made number width old part text first h.value more is letter h.wide h.other (begins_more text _ (32 ∷ code number) h.begins),
  λ g.
      let h = word_of number width old part text first more is g in
      let within = begins_before 32 text h.begins.0 (map digit_character (shortened (reverse h.value))) (code number) one (sym h.begins.1) in
      tells.1 (record { value = h.value; wide = h.wide; other = h.other; begins = within }),
)

-- the digits and the code of a text that a space divides
word_parts : (number : ℕ) (text digits rest r : List ℕ) (v : List Digit) → IsCut 32 text digits rest
    → map digit_character (shortened (reverse v)) ++ 32 ∷ code number ≡ text ++ r → (map digit_character (shortened (reverse v)) ≡ digits) × (code number ≡ rest ++ r)
word_parts number text digits rest r v cut e =
    cut_once 32 (map digit_character (shortened (reverse v))) digits (code number) (rest ++ r) (characters_lack (shortened (reverse v))) cut.first
    (e ∙ ap (λ l. l ++ r) cut.is ∙ append_assoc digits (32 ∷ rest) r)

pub word_cut : (number width : ℕ) (old : Option (List Digit)) (part text digits rest : List ℕ) (first : ℕ) (v : List Digit) (b : Bool) → 2 ≤ width → part ≡ first ∷ text
    → first ≡ 98 → IsCut 32 text digits rest → IsValue digits width v → IsOther old v → Tells b (Begins rest (code number)) → Tells b (BeginsChange number width old part)
word_cut number width old part text digits rest first v b more is letter cut valued other tells = (
  λ e.
      let h = tells.0 e in
      word_made number width old part text first v more is letter valued.wide other
      (h.0, ap (λ l. l ++ 32 ∷ code number) (sym valued.is) ∙ ap (λ l. digits ++ 32 ∷ l) h.1 ∙ sym (append_assoc digits (32 ∷ rest) h.0) ∙ ap (λ l. l ++ h.0) (sym cut.is)),
  λ g.
      let h = word_of number width old part text first more is g in
      let parts = word_parts number text digits rest h.begins.0 h.value cut h.begins.1 in
      tells.1 (h.begins.0, parts.1),
)

pub word_old : (number width : ℕ) (old : Option (List Digit)) (part text digits rest : List ℕ) (first : ℕ) (v : List Digit) → 2 ≤ width → part ≡ first ∷ text
    → IsCut 32 text digits rest → IsValue digits width v → (IsOther old v → ⊥) → Tells false (BeginsChange number width old part)
word_old number width old part text digits rest first v more is cut valued same = (
  λ e. absurd (false≢true e),
  λ g.
      let h = word_of number width old part text first more is g in
      let parts = word_parts number text digits rest h.begins.0 h.value cut h.begins.1 in
      let one = values_once h.value v (spelled_once (shortened (reverse h.value)) (shortened (reverse v)) (parts.0 ∙ valued.is)) (h.wide ∙ sym valued.wide) in
      absurd (same (subst (IsOther old) one h.other)),
)

pub no_word : (number width : ℕ) (old : Option (List Digit)) (part text digits rest : List ℕ) (first : ℕ) → 2 ≤ width → part ≡ first ∷ text
    → IsCut 32 text digits rest → ((v : List Digit) → IsValue digits width v → ⊥) → Tells false (BeginsChange number width old part)
no_word number width old part text digits rest first more is cut none = (
  λ e. absurd (false≢true e),
  λ g.
      let h = word_of number width old part text first more is g in
      let parts = word_parts number text digits rest h.begins.0 h.value cut h.begins.1 in
      absurd (none h.value (record { wide = h.wide; is = sym parts.0 })),
)

-- ---- the whole line

pub bit_line : (number width : ℕ) (old : Option (List Digit)) (part rest : List ℕ) (first : ℕ) (b : Bool) → part ≡ first ∷ rest → width ≡ 1
    → Tells b (BeginsChange number 1 old (first ∷ rest)) → Tells b (BeginsChange number width old part)
bit_line number width old part rest first b is one tells =
    subst (λ l. Tells b (BeginsChange number width old l)) (sym is) (subst (λ w. Tells b (BeginsChange number w old (first ∷ rest))) (sym one) tells)

pub word_line : (number width : ℕ) (old : Option (List Digit)) (part text : List ℕ) (first : ℕ) (b : Bool) → part ≡ first ∷ text → first ≡ 98
    → Tells b (BeginsChange number width old (98 ∷ text)) → Tells b (BeginsChange number width old part)
word_line number width old part text first b is letter tells =
    subst (λ l. Tells b (BeginsChange number width old l)) (ap (λ x. x ∷ text) (sym letter) ∙ sym is) tells
