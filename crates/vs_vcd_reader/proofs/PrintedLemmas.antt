-- Names that can be printed are names of dumps, as they are printed.
use Rattle.std.proofs.Common.{◌≡◌, ◌⊎◌, inl, inr, ℕ, zero, suc, ◌+◌, ◌<◌, ◌==◌, ℤ, true, false, List, [], ◌∷◌, ◌++◌, Option, Some, None, refl, sym, ap, ap₂, subst, ◌∙◌, append-nil, append_assoc, arith}
use Rattle.std.specs.Prelude.{◌/◌, ◌%◌, nat_lt, nat_eq, codes, decimal, replicate}
use Rattle.std.specs.Fmt.{digits, digits_onto, digit_glyph, signed_decimal}
use Rattle.std.specs.List.{list_all, flat_map}
use Rattle.std.proofs.Math.Nat.{mod-lt}
use Rattle.std.proofs.lemmas.Bool.{and_parts, and_from, cond_both, ne_eqb}
use Rattle.std.proofs.lemmas.List.Folds.{list_all-append}
use Rattle.vs_syntax.specs.vs_lexer.specs.Bytes.{in_escaped}
use Rattle.vs_elaborate.specs.PrintableNames.{is_printable_name}
use Rattle.vs_design.specs.declared.design.Entry.{Entry}
use Rattle.vs_design.specs.declared.design.Entry.TheVariants.{Enter, Declare, Leave}
use Rattle.vs_design.specs.declared.design.ScopeKind.{ScopeKind}
use Rattle.vs_design.specs.declared.design.ScopeKind.TheVariants.{Module, Begin}
use Rattle.vs_design.specs.declared.signal.Signal.{Signal}
use Rattle.vs_design.specs.Parts.{Parts}
use Rattle.vs_elaborate.specs.vs_scopes.specs.Generate.{numbered_name}
use Rattle.vs_elaborate.specs.vs_scopes.specs.Printed.{PathName, is_simple, escaped_byte, printed_name, printed_part, printed_turn}
use Rattle.vs_elaborate.specs.vs_elab_hierarchy.specs.Laws.{FitsTurn}
use Rattle.vs_elaborate.specs.Named.{HasName, HasNames, IsNamedEntry, IsTurnOf}
use Rattle.vs_vcd_lines.specs.Lines.{IsRange}
use Rattle.vs_vcd_lines.specs.Names.{is_printable, IsEscaped, IsName, IsScopeName, IsTurn}
use Rattle.vs_vcd_lines.specs.Names as dump
use Rattle.vs_vcd_lines.specs.Names.IsShort.{short}
use Rattle.vs_vcd_reader.specs.Outlined.{HasPrintedNames, HasShortRanges, IsPrintedEntry, IsPrintedSignal}
use Rattle.vs_vcd_reader.proofs.RangeLemmas.{short_number}

-- ---- bytes

-- a byte that can be printed is neither a space nor the byte 127
no_byte : (c x : ℕ) → in_escaped x ≡ false → in_escaped c ≡ true → nat_eq c x ≡ false
no_byte c x none h = ne_eqb c x (λ e. absurd (cc (subst (λ (y : ℕ). in_escaped y ≡ true) e h, none)))

plain_byte : (c : ℕ) → in_escaped c ≡ true → escaped_byte c ≡ c ∷ []
plain_byte c h = rw (no_byte c 32 refl h, no_byte c 127 refl h) refl

plain_bytes : (n : List ℕ) → list_all in_escaped n ≡ true → flat_map escaped_byte n ≡ n
plain_bytes [] h = refl
plain_bytes (c ∷ cs) h =
    let parts = and_parts (in_escaped c) (list_all in_escaped cs) h in
    ap₂ (λ x y. x ++ y) (plain_byte c parts.0) (plain_bytes cs parts.1)

printable_byte : (c : ℕ) → in_escaped c ≡ true → is_printable c ≡ true
printable_byte c h = grind (arith, h)

printable_bytes : (n : List ℕ) → list_all in_escaped n ≡ true → list_all is_printable n ≡ true
printable_bytes [] h = refl
printable_bytes (c ∷ cs) h =
    let parts = and_parts (in_escaped c) (list_all in_escaped cs) h in
    and_from (is_printable c) (list_all is_printable cs) (printable_byte c parts.0) (printable_bytes cs parts.1)

-- ---- names

simple_name : (n : List ℕ) → is_simple n ≡ true → dump.is_simple n ≡ true
simple_name [] h = h
simple_name (c ∷ cs) h = h

escaped_name : (n : List ℕ) → is_printable_name n ≡ true → IsEscaped (92 ∷ flat_map escaped_byte n ++ 32 ∷ [])
escaped_name [] h = absurd cc
escaped_name (c ∷ cs) h = record {
  body = c ∷ cs;
  printable = printable_bytes (c ∷ cs) h;
  is = ap (λ (l : List ℕ). 92 ∷ l ++ 32 ∷ []) (plain_bytes (c ∷ cs) h);
}

name_printed : (n : List ℕ) → is_printable_name n ≡ true → IsName (printed_name n)
name_printed n h =
    cond_both (is_simple n) n (92 ∷ flat_map escaped_byte n ++ 32 ∷ []) IsName (λ e. inl (simple_name n e)) (λ e. inr (escaped_name n h))

-- ---- names of scopes

-- a number in brackets after a name
brackets : (name number : List ℕ) → name ++ (91 ∷ number ++ 93 ∷ []) ≡ name ++ codes "[" ++ number ++ codes "]"
brackets name number = sym (append_assoc name (91 ∷ number) (93 ∷ [])) ∙ ap (λ l. l ++ codes "]") (sym (append_assoc name (codes "[") number))

scope_printed : (kind : ScopeKind) (p : PathName) → is_printable_name p.name ≡ true → IsTurnOf kind p.turn → IsScopeName kind (printed_part p)
scope_printed Module p h turn =
    subst IsName (sym (ap (λ o. printed_name p.name ++ printed_turn o) turn ∙ append-nil (printed_name p.name))) (name_printed p.name h)
scope_printed Begin p h turn = by p.turn turn
  where
    by : (o : Option ℤ) → FitsTurn o → IsName (printed_name p.name ++ printed_turn o) ⊎ IsTurn (printed_name p.name ++ printed_turn o)
    by None f = inl (subst IsName (sym (append-nil (printed_name p.name))) (name_printed p.name h))
    by (Some v) f = inr (record { name = printed_name p.name; value = v; named = name_printed p.name h; short = short_number v f; is = brackets (printed_name p.name) (signed_decimal v) })

-- ---- names of unnamed blocks

small_glyph : (d : ℕ) → d < 10 → in_escaped (48 + d) ≡ true
small_glyph d h = grind (arith, h)

glyph_printable : (d : ℕ) → d < 10 → in_escaped (digit_glyph false d) ≡ true
glyph_printable d h =
    cond_both (nat_lt d 10) (48 + d) (87 + d) (λ z. in_escaped z ≡ true) (λ e. small_glyph d h) (λ e. grind (arith, h, e))

onto_printable : (k n : ℕ) (bytes : List ℕ) → list_all in_escaped bytes ≡ true → list_all in_escaped (digits_onto k 10 false n bytes) ≡ true
onto_printable zero n bytes h = h
onto_printable (suc k) n bytes h =
    let glyph = digit_glyph false (n % 10) in
    let more : list_all in_escaped (glyph ∷ bytes) ≡ true =
    and_from (in_escaped glyph) (list_all in_escaped bytes) (glyph_printable (n % 10) (mod-lt n (omega arith))) h in
    cond_both (n / 10 == 0) (glyph ∷ bytes) (digits_onto k 10 false (n / 10) (glyph ∷ bytes)) (λ z. list_all in_escaped z ≡ true) (λ e. more)
    (λ e. onto_printable k (n / 10) (glyph ∷ bytes) more)

decimal_printable : (n : ℕ) → list_all in_escaped (decimal n) ≡ true
unfolding digits
decimal_printable n = onto_printable 64 n [] refl

zeros_printable : (n : ℕ) → list_all in_escaped (replicate n 48) ≡ true
zeros_printable zero = refl
zeros_printable (suc n) = zeros_printable n

both : (xs ys : List ℕ) → list_all in_escaped xs ≡ true → list_all in_escaped ys ≡ true → list_all in_escaped (xs ++ ys) ≡ true
both xs ys h k = list_all-append in_escaped xs ys ∙ and_from (list_all in_escaped xs) (list_all in_escaped ys) h k

pub numbered_printable : (padding k : ℕ) → is_printable_name (numbered_name padding k) ≡ true
numbered_printable padding k =
    both (codes "genblk" ++ replicate padding 48) (decimal k) (both (codes "genblk") (replicate padding 48) refl (zeros_printable padding))
    (decimal_printable k)

-- ---- a design

entry_printed : (e : Entry) → IsNamedEntry is_printable_name e → IsPrintedEntry e
entry_printed (Enter kind name) h = subst (IsScopeName kind) (sym h.printed) (scope_printed kind h.part h.passes h.turn)
entry_printed (Declare signal) h = tt
entry_printed Leave h = tt

signal_printed : (s : Signal) → HasName is_printable_name s.name.items → IsRange s.range → IsPrintedSignal s
signal_printed s h range = record { named = subst IsName (sym h.printed) (name_printed h.name h.passes); ranged = range }

pub names_printed : (d : Parts) → HasNames is_printable_name d → HasShortRanges d → HasPrintedNames d
names_printed d h ranges = record {
  signals = λ k x within. signal_printed _ (h.signals k x within) (ranges k x within);
  scopes = λ k x within. entry_printed _ (h.scopes k x within);
}
