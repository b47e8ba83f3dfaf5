-- What a line says, it says alone.
use Rattle.std.proofs.Common.{◌≡◌, ℕ, ℤ, ◌<◌, ◌≤◌, ◌^◌, Bool, true, false, cond, eqb, Option, Some, None, List, [], ◌∷◌, ◌++◌, codes, decimal, reverse, subst, refl, sym, ap, ◌∙◌, append_assoc, arith, inl, inr}
use Rattle.std.specs.List.{list_all}
use Rattle.std.specs.Fmt.{signed_decimal}
use Rattle.std.proofs.lemmas.Bool.{false≢true, and_parts as and_true}
use Rattle.std.proofs.lemmas.Fmt.{decimal_injective, signed_decimal_injective}
use Rattle.std.proofs.lemmas.List.{append_cancel_right, append-nil, reverse-append}
use Rattle.vs_design.specs.declared.signal.Bounds.{Bounds}
use Rattle.vs_design.specs.declared.signal.SignalKind.{SignalKind}
use Rattle.vs_design.specs.declared.signal.SignalKind.TheVariants.{Wire, Reg, Integer}
use Rattle.vs_vcd_writing.specs.Codes.{code}
use Rattle.vs_vcd_writing.specs.Text.{kind_word, range_text}
use Rattle.vs_vcd_writing.proofs.CodeLemmas.{code-injective}
use Rattle.vs_vcd_lines.specs.declared.dump.Variable.{Variable}
use Rattle.vs_vcd_lines.specs.Cuts.{lacks}
use Rattle.vs_vcd_lines.specs.Names.{is_first, is_further, is_simple, IsEscaped, IsName, IsShort}
use Rattle.vs_vcd_lines.specs.Lines.{variable_line, IsRange, IsVariable}
use Rattle.vs_vcd_lines.specs.Laws.{AreAlike, VariableLinesAreOne}
use Rattle.vs_vcd_lines.specs.Parts.{IsRanged}
use Rattle.vs_vcd_lines.proofs.CutLemmas.{cut_once, cut_last_once, lacks_head, lacks_more, lacks_of_all}
use Rattle.vs_vcd_lines.proofs.NameLemmas.{end_once, lacks-signed_decimal}
use Rattle.vs_vcd_lines.proofs.NumberLemmas.{mag_short}
use Rattle.vs_vcd_lines.proofs.VariableLemmas.{declared_rest, no_colon, opened, range_lacks, ranged_whole, shape_parts, shape_three, variable_shape}

-- ---- kinds

abbrev kind_by : List ℕ → SignalKind
kind_by [] = Wire
kind_by (b ∷ bs) = cond (eqb b 119) Wire (cond (eqb b 114) Reg Integer)

kind_back : (k : SignalKind) → kind_by (kind_word k) ≡ k
kind_back Wire = refl
kind_back Reg = refl
kind_back Integer = refl

pub kind_once : (j k : SignalKind) → kind_word j ≡ kind_word k → j ≡ k
kind_once j k e = sym (kind_back j) ∙ ap kind_by e ∙ kind_back k

-- ---- names and ranges

-- a text ends in one byte
ends_in_one : (a b : ℕ) (cs bs : List ℕ) → cs ++ (a ∷ []) ≡ bs ++ (b ∷ []) → a ≡ b
ends_in_one a b cs bs e =
    let turned : a ∷ reverse cs ≡ b ∷ reverse bs = sym (reverse-append cs (a ∷ [])) ∙ ap reverse e ∙ reverse-append bs (b ∷ []) in
    cc

stands_in : (byte : ℕ) (front : List ℕ) → lacks byte (front ++ byte ∷ []) ≡ true → ⊥
stands_in byte [] h = (lacks_head byte byte [] h).0 refl
stands_in byte (c ∷ cs) h = stands_in byte cs (lacks_head byte c (cs ++ byte ∷ []) h).1

first_is_no_bracket : (b : ℕ) → is_first b ≡ true → b ≡ 93 → ⊥
first_is_no_bracket b h e = false≢true (ap is_first (sym e) ∙ h)

simple_lacks : (name : List ℕ) → is_simple name ≡ true → lacks 93 name ≡ true
simple_lacks [] h = refl
simple_lacks (b ∷ bs) h =
    let parts = and_true (is_first b) (list_all is_further bs) h in
    lacks_more 93 b bs (first_is_no_bracket b parts.0) (lacks_of_all is_further 93 bs refl parts.1)

-- no name ends in a bracket
name_ends : (name front : List ℕ) → IsName name → name ≡ front ++ codes "]" → ⊥
name_ends name front (inl simple) e = stands_in 93 front (ap (lacks 93) (sym e) ∙ simple_lacks name simple)
name_ends name front (inr escaped) e =
    let same = ends_in_one 32 93 (codes "\\" ++ escaped.body) front (sym escaped.is ∙ e) in
    omega (arith, same)

bounds_once : (a b : Bounds) → IsShort a.left → IsShort a.right → IsShort b.left → IsShort b.right
    → signed_decimal a.left ++ (58 ∷ signed_decimal a.right) ≡ signed_decimal b.left ++ (58 ∷ signed_decimal b.right) → a ≡ b
bounds_once a b al ar bl br e =
    let parts = cut_once 58 (signed_decimal a.left) (signed_decimal b.left) (signed_decimal a.right) (signed_decimal b.right)
    (lacks-signed_decimal 58 a.left no_colon (λ x. absurd (omega (arith, x))) al)
    (lacks-signed_decimal 58 b.left no_colon (λ x. absurd (omega (arith, x))) bl) e in
    let left = signed_decimal_injective a.left b.left (mag_short a.left al) (mag_short b.left bl) parts.0 in
    let right = signed_decimal_injective a.right b.right (mag_short a.right ar) (mag_short b.right br) parts.1 in
    let made : ℤ → ℤ → Bounds = λ x y. record { left = x; right = y } in
    ap (λ x. made x a.right) left ∙ ap (made b.left) right

ranged_once : (text m n : List ℕ) (a b : Bounds) → IsRanged text m a → IsRanged text n b → (m ≡ n) × (a ≡ b)
ranged_once text m n a b h k =
    let same : opened m a ≡ opened n b = end_once 93 (opened m a) (opened n b) (sym (ranged_whole text m a h) ∙ ranged_whole text n b k) in
    let parts = cut_last_once 91 (m ++ codes " ") (n ++ codes " ") (signed_decimal a.left ++ (58 ∷ signed_decimal a.right))
    (signed_decimal b.left ++ (58 ∷ signed_decimal b.right)) (range_lacks a h.left h.right) (range_lacks b k.left k.right) same in
    (end_once 32 m n parts.0, bounds_once a b h.left h.right k.left k.right parts.1)

pub named_once : (m n : List ℕ) (a b : Option Bounds) → IsName m → IsName n → IsRange a → IsRange b → m ++ range_text a ≡ n ++ range_text b → (m ≡ n) × (a ≡ b)
named_once m n None None h k x y e = (sym (append-nil m) ∙ e ∙ append-nil n, refl)
named_once m n (Some a) None h k x y e =
    let r : IsRanged (m ++ range_text (Some a)) m a = record { named = h; left = x.0; right = x.1; is = refl } in
    absurd (name_ends n (opened m a) k (sym (append-nil n) ∙ sym e ∙ ranged_whole (m ++ range_text (Some a)) m a r))
named_once m n None (Some b) h k x y e =
    let r : IsRanged (n ++ range_text (Some b)) n b = record { named = k; left = y.0; right = y.1; is = refl } in
    absurd (name_ends m (opened n b) h (sym (append-nil m) ∙ e ∙ ranged_whole (n ++ range_text (Some b)) n b r))
named_once m n (Some a) (Some b) h k x y e =
    let r : IsRanged (m ++ range_text (Some a)) m a = record { named = h; left = x.0; right = x.1; is = refl } in
    let s : IsRanged (m ++ range_text (Some a)) n b = record { named = k; left = y.0; right = y.1; is = e } in
    let same = ranged_once (m ++ range_text (Some a)) m n a b r s in
    (same.0, ap Some same.1)

-- ---- lines

pub variable_lines_once : VariableLinesAreOne
variable_lines_once v w m n h k e =
    let s = variable_shape (variable_line v m) m v h refl in
    let t = variable_shape (variable_line v m) n w k e in
    let words = kind_word v.kind ++ (32 ∷ (decimal v.width ++ (32 ∷ (code m ++ (32 ∷ declared_rest v))))) in
    let parts = shape_parts (variable_line v m) words (kind_word v.kind) (decimal v.width) (code m) (declared_rest v) n w.kind w.width (declared_rest w) s.is
    (shape_three (variable_line v m) words m v.kind v.width (declared_rest v) s.is s) t in
    let vm = h.most in
    let wm = k.most in
    let rest = named_once v.name.items w.name.items v.range w.range h.named k.named h.ranged k.ranged
    (append_cancel_right (v.name.items ++ range_text v.range) (w.name.items ++ range_text w.range) (codes " $end") parts.3) in (
      code-injective m n parts.2,
      record {
        kind = kind_once v.kind w.kind parts.0;
        width = decimal_injective v.width w.width (omega (arith, vm)) (omega (arith, wm)) parts.1;
        name = rest.0;
        range = rest.1;
      },
    )
