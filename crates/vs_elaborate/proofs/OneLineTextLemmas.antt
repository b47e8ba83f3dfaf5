-- Printed names hold no line feed where the names of the text don't.
use Rattle.std.proofs.Common.{◌≡◌, ℕ, zero, suc, ◌+◌, ◌<◌, ℤ, pos, negsuc, Bool, true, false, cond, not, List, [], ◌∷◌, ◌++◌, Option, Some, None, refl, arith}
use Rattle.std.specs.Prelude.{◌==◌, ◌/◌, ◌%◌, nat_lt, codes, decimal, replicate}
use Rattle.std.specs.Fmt.{digits, digits_onto, digit_glyph, signed_decimal}
use Rattle.std.specs.List.{flat_map}
use Rattle.std.proofs.lemmas.Bool.{and_parts, and_from, cond_both, eqb-true}
use Rattle.vs_syntax.specs.vs_lexer.specs.NameLines.{is_one_line}
use Rattle.vs_elaborate.specs.vs_scopes.specs.Printed.{is_simple, escaped_byte, printed_name, PathName, printed_turn, printed_part}
use Rattle.vs_elaborate.specs.vs_scopes.specs.Generate.{numbered_name}
use Rattle.vs_elaborate.proofs.GoodTextLemmas.{both}

-- ---- names as they are printed

-- the bytes of an escaped name as they are printed
escaped_one_line : (c : ℕ) → not (c == 10) ≡ true → is_one_line (escaped_byte c) ≡ true
escaped_one_line c h =
    cond_both (c == 32) (127 ∷ 49 ∷ []) (cond (c == 127) (127 ∷ 48 ∷ []) (c ∷ [])) (λ z. is_one_line z ≡ true) (λ e. refl)
    (λ e. cond_both (c == 127) (127 ∷ 48 ∷ []) (c ∷ []) (λ z. is_one_line z ≡ true) (λ e. refl) (λ e. and_from (not (c == 10)) true h refl))

bytes_one_line : (n : List ℕ) → is_one_line n ≡ true → is_one_line (flat_map escaped_byte n) ≡ true
bytes_one_line [] h = refl
bytes_one_line (c ∷ cs) h =
    let parts = and_parts (not (c == 10)) (is_one_line cs) h in
    both (λ b. not (b == 10)) (escaped_byte c) (flat_map escaped_byte cs) (escaped_one_line c parts.0) (bytes_one_line cs parts.1)

pub printed_one_line : (n : List ℕ) → is_one_line n ≡ true → is_one_line (printed_name n) ≡ true
printed_one_line n h =
    cond_both (is_simple n) n (92 ∷ flat_map escaped_byte n ++ 32 ∷ []) (λ z. is_one_line z ≡ true) (λ e. h) (λ e. both (λ b. not (b == 10)) (flat_map escaped_byte n) (32 ∷ []) (bytes_one_line n h) refl)

-- ---- numbers

above : (a : ℕ) → 10 < a → not (a == 10) ≡ true
above a h = by (a == 10) refl
  where
    by : (b : Bool) → (a == 10) ≡ b → not b ≡ true
    by true e = (let same : a ≡ 10 = eqb-true a 10 e in absurd (omega (arith, same)))
    by false e = refl

glyph_one_line : (d : ℕ) → not (digit_glyph false d == 10) ≡ true
glyph_one_line d = cond_both (nat_lt d 10) (48 + d) (87 + d) (λ z. not (z == 10) ≡ true) (λ e. above (48 + d) (omega arith)) (λ e. above (87 + d) (omega arith))

onto_one_line : (k n : ℕ) (bytes : List ℕ) → is_one_line bytes ≡ true → is_one_line (digits_onto k 10 false n bytes) ≡ true
onto_one_line zero n bytes h = h
onto_one_line (suc k) n bytes h =
    let more : is_one_line (digit_glyph false (n % 10) ∷ bytes) ≡ true = and_from (not (digit_glyph false (n % 10) == 10)) (is_one_line bytes) (glyph_one_line (n % 10)) h in
    cond_both (n / 10 == 0) (digit_glyph false (n % 10) ∷ bytes) (digits_onto k 10 false (n / 10) (digit_glyph false (n % 10) ∷ bytes)) (λ z. is_one_line z ≡ true) (λ e. more)
    (λ e. onto_one_line k (n / 10) (digit_glyph false (n % 10) ∷ bytes) more)

decimal_one_line : (n : ℕ) → is_one_line (decimal n) ≡ true
unfolding digits
decimal_one_line n = onto_one_line 64 n [] refl

signed_one_line : (v : ℤ) → is_one_line (signed_decimal v) ≡ true
signed_one_line (pos n) = decimal_one_line n
signed_one_line (negsuc n) = decimal_one_line (suc n)

turn_one_line : (turn : Option ℤ) → is_one_line (printed_turn turn) ≡ true
turn_one_line None = refl
turn_one_line (Some v) = both (λ b. not (b == 10)) (signed_decimal v) (93 ∷ []) (signed_one_line v) refl

-- a name of a path, with its turn
pub part_one_line : (p : PathName) → is_one_line p.name ≡ true → is_one_line (printed_part p) ≡ true
part_one_line p h = both (λ b. not (b == 10)) (printed_name p.name) (printed_turn p.turn) (printed_one_line p.name h) (turn_one_line p.turn)

-- ---- names of unnamed blocks

zeros_one_line : (n : ℕ) → is_one_line (replicate n 48) ≡ true
zeros_one_line zero = refl
zeros_one_line (suc n) = zeros_one_line n

pub numbered_one_line : (padding k : ℕ) → is_one_line (numbered_name padding k) ≡ true
numbered_one_line padding k =
    both (λ b. not (b == 10)) (codes "genblk" ++ replicate padding 48) (decimal k) (both (λ b. not (b == 10)) (codes "genblk") (replicate padding 48) refl (zeros_one_line padding)) (decimal_one_line k)
