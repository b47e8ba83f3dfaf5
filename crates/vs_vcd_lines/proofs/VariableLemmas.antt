-- The lines of variables.
use Rattle.std.proofs.Common.{◌≡◌, ℕ, true, Option, Some, None, List, ◌∷◌, ◌++◌, codes, decimal, subst, sym, ap, ◌∙◌, append_assoc, arith}
use Rattle.std.specs.Fmt.{signed_decimal}
use Rattle.std.specs.Int.{IsInRange}
use Rattle.std.proofs.lemmas.List.{append_cancel_left, append_cancel_right, append-nil}
use Rattle.vs_design.specs.declared.signal.Bounds.{Bounds}
use Rattle.vs_design.specs.declared.signal.SignalKind.{SignalKind}
use Rattle.vs_vcd_writing.specs.Codes.{code}
use Rattle.vs_vcd_writing.specs.Text.{kind_word, range_text}
use Rattle.vs_vcd_lines.specs.declared.dump.Variable.{Variable}
use Rattle.vs_vcd_lines.specs.Cuts.{lacks, IsCut, IsCutLast}
use Rattle.vs_vcd_lines.specs.Names.{IsName, IsShort}
use Rattle.vs_vcd_lines.specs.Lines.{variable_line, IsVariable}
use Rattle.vs_vcd_lines.specs.Parts.{AreBounds, AreThree, IsNamed, IsRanged, IsShape, IsSize}
use Rattle.vs_vcd_lines.proofs.CutLemmas.{cut_once, cut_last_once, lacks-append, lacks_more}
use Rattle.vs_vcd_lines.proofs.NameLemmas.{end_once, lacks-decimal, lacks-signed_decimal, no_bracket}
use Rattle.vs_vcd_lines.proofs.WordLemmas.{kind_lacks, lacks-code, no_space, three_once}

-- ---- what stands before the name

pub shape_three : (line words : List ℕ) (number : ℕ) (kind : SignalKind) (width : ℕ) (rest : List ℕ) → line ≡ codes "$var " ++ words
    → IsShape line number kind width rest → AreThree words (kind_word kind) (decimal width) (code number) rest
shape_three line words number kind width rest first s = record {
  is = append_cancel_left (codes "$var ") words (kind_word kind ++ (32 ∷ (decimal width ++ (32 ∷ (code number ++ (32 ∷ rest)))))) (sym first ∙ s.is);
  first = kind_lacks kind;
  second = let most = s.most in lacks-decimal 32 width no_space (omega (arith, most));
  third = lacks-code number;
}

pub shape_parts : (line words a b c left : List ℕ) (number : ℕ) (kind : SignalKind) (width : ℕ) (rest : List ℕ) → line ≡ codes "$var " ++ words
    → AreThree words a b c left → IsShape line number kind width rest → (a ≡ kind_word kind) × (b ≡ decimal width) × (c ≡ code number) × (left ≡ rest)
shape_parts line words a b c left number kind width rest first t s =
    three_once words a b c left (kind_word kind) (decimal width) (code number) rest t (shape_three line words number kind width rest first s)

pub shape_made : (line words a b c rest : List ℕ) (number : ℕ) (kind : SignalKind) (width : ℕ) → line ≡ codes "$var " ++ words
    → AreThree words a b c rest → a ≡ kind_word kind → IsSize b width → c ≡ code number → IsShape line number kind width rest
shape_made line words a b c rest number kind width first t e s f = record {
  some = s.some;
  most = s.most;
  is =
      first
      ∙ ap (λ l. codes "$var " ++ l)
      (t.is ∙ ap (λ x. x ++ (32 ∷ (b ++ (32 ∷ (c ++ (32 ∷ rest)))))) e
      ∙ ap (λ x. kind_word kind ++ (32 ∷ (x ++ (32 ∷ (c ++ (32 ∷ rest)))))) s.is
      ∙ ap (λ x. kind_word kind ++ (32 ∷ (decimal width ++ (32 ∷ (x ++ (32 ∷ rest)))))) f);
}

-- ---- ranges

pub no_colon : IsInRange 48 57 58 → ⊥
no_colon h = omega (arith, h)

pub bounds_parts : (text l r : List ℕ) (b : Bounds) → IsCut 58 text l r → AreBounds text b → (l ≡ signed_decimal b.left) × (r ≡ signed_decimal b.right)
bounds_parts text l r b cut h =
    cut_once 58 l (signed_decimal b.left) r (signed_decimal b.right) cut.first
    (lacks-signed_decimal 58 b.left no_colon (λ e. absurd (omega (arith, e))) h.left) (sym cut.is ∙ h.is)

pub bounds_made : (text l r : List ℕ) (b : Bounds) → IsCut 58 text l r → IsShort b.left × (l ≡ signed_decimal b.left) → IsShort b.right × (r ≡ signed_decimal b.right)
    → AreBounds text b
bounds_made text l r b cut h k = record {
  left = h.0;
  right = k.0;
  is = cut.is ∙ ap (λ x. x ++ (58 ∷ r)) h.1 ∙ ap (λ x. signed_decimal b.left ++ (58 ∷ x)) k.1;
}

range_assoc : (name l r : List ℕ) → name ++ (codes " [" ++ l ++ codes ":" ++ r ++ codes "]") ≡ ((name ++ codes " ") ++ (91 ∷ (l ++ (58 ∷ r)))) ++ codes "]"
range_assoc name l r =
    let range = codes " [" ++ l ++ codes ":" ++ r in
    let inner : range ≡ codes " [" ++ (l ++ (58 ∷ r)) = append_assoc (codes " [" ++ l) (codes ":") r ∙ append_assoc (codes " [") l (58 ∷ r) in
    sym (append_assoc name range (codes "]"))
    ∙ ap (λ x. (name ++ x) ++ codes "]") inner
    ∙ ap (λ x. x ++ codes "]") (sym (append_assoc name (codes " ") (91 ∷ (l ++ (58 ∷ r)))))

pub range_lacks : (b : Bounds) → IsShort b.left → IsShort b.right → lacks 91 (signed_decimal b.left ++ (58 ∷ signed_decimal b.right)) ≡ true
range_lacks b h k =
    lacks-append 91 (signed_decimal b.left) (58 ∷ signed_decimal b.right)
    (lacks-signed_decimal 91 b.left no_bracket (λ e. absurd (omega (arith, e))) h)
    (lacks_more 91 58 (signed_decimal b.right) (λ e. absurd (omega (arith, e))) (lacks-signed_decimal 91 b.right no_bracket (λ e. absurd (omega (arith, e))) k))

-- what stands before the last bracket
abbrev pub opened : List ℕ → Bounds → List ℕ
opened name b = (name ++ codes " ") ++ (91 ∷ (signed_decimal b.left ++ (58 ∷ signed_decimal b.right)))

pub ranged_whole : (text name : List ℕ) (b : Bounds) → IsRanged text name b → text ≡ opened name b ++ codes "]"
ranged_whole text name b h = h.is ∙ range_assoc name (signed_decimal b.left) (signed_decimal b.right)

pub ranged_open : (text front name : List ℕ) (b : Bounds) → text ≡ front ++ codes "]" → IsRanged text name b → front ≡ opened name b
ranged_open text front name b last h = end_once 93 front (opened name b) (sym last ∙ ranged_whole text name b h)

pub ranged_parts : (text front start range name : List ℕ) (b : Bounds) → text ≡ front ++ codes "]" → IsCutLast 91 front start range → IsRanged text name b
    → (start ≡ name ++ codes " ") × (range ≡ signed_decimal b.left ++ (58 ∷ signed_decimal b.right))
ranged_parts text front start range name b last cut h =
    cut_last_once 91 start (name ++ codes " ") range (signed_decimal b.left ++ (58 ∷ signed_decimal b.right)) cut.last (range_lacks b h.left h.right)
    (sym cut.is ∙ ranged_open text front name b last h)

pub ranged_name : (text front start range found name : List ℕ) (b : Bounds) → text ≡ front ++ codes "]" → IsCutLast 91 front start range
    → start ≡ found ++ codes " " → IsRanged text name b → IsName found
ranged_name text front start range found name b last cut space h =
    subst IsName (sym (end_once 32 found name (sym space ∙ (ranged_parts text front start range name b last cut h).0))) h.named

pub ranged_bounds : (text front start range name : List ℕ) (b : Bounds) → text ≡ front ++ codes "]" → IsCutLast 91 front start range → IsRanged text name b
    → AreBounds range b
ranged_bounds text front start range name b last cut h =
    record { left = h.left; right = h.right; is = (ranged_parts text front start range name b last cut h).1 }

pub ranged_made : (text front start range name : List ℕ) (b : Bounds) → text ≡ front ++ codes "]" → IsCutLast 91 front start range
    → start ≡ name ++ codes " " → IsName name → AreBounds range b → IsRanged text name b
ranged_made text front start range name b last cut space named h = record {
  named = named;
  left = h.left;
  right = h.right;
  is =
      last
      ∙ ap (λ x. x ++ codes "]") (cut.is ∙ ap (λ x. x ++ (91 ∷ range)) space ∙ ap (λ x. (name ++ codes " ") ++ (91 ∷ x)) h.is)
      ∙ sym (range_assoc name (signed_decimal b.left) (signed_decimal b.right));
}

-- ---- names and ranges

pub named_front : (text front name : List ℕ) (range : Option Bounds) → text ≡ front ++ codes " $end" → IsNamed text name range → front ≡ name ++ range_text range
named_front text front name range last h = append_cancel_right front (name ++ range_text range) (codes " $end") (sym last ∙ h.is)

-- without a range what stands before the end is the name
pub plain_or_ranged : (text front name : List ℕ) (range : Option Bounds) → text ≡ front ++ codes " $end" → (IsName front → ⊥)
    → ((n : List ℕ) (b : Bounds) → IsRanged front n b → ⊥) → IsNamed text name range → ⊥
plain_or_ranged text front name None last plain none h =
    plain (subst IsName (sym (named_front text front name None last h ∙ append-nil name)) h.named)
plain_or_ranged text front name (Some b) last plain none h =
    none name b (record { named = h.named; left = h.ranged.0; right = h.ranged.1; is = named_front text front name (Some b) last h })

pub plain_made : (text front : List ℕ) → text ≡ front ++ codes " $end" → IsName front → IsNamed text front None
plain_made text front last named =
    record { named = named; ranged = tt; is = last ∙ ap (λ x. x ++ codes " $end") (sym (append-nil front)) }

pub ranged_named : (text front name : List ℕ) (b : Bounds) → text ≡ front ++ codes " $end" → IsRanged front name b → IsNamed text name (Some b)
ranged_named text front name b last h =
    record { named = h.named; ranged = (h.left, h.right); is = last ∙ ap (λ x. x ++ codes " $end") h.is }

-- ---- lines

pub line_assoc : (p k w c n r e : List ℕ) → p ++ k ++ codes " " ++ w ++ codes " " ++ c ++ codes " " ++ n ++ r ++ e
    ≡ p ++ (k ++ (32 ∷ (w ++ (32 ∷ (c ++ (32 ∷ ((n ++ r) ++ e)))))))
line_assoc p k w c n r e =
    let s = codes " " in
    let a2 = p ++ k in
    let a3 = a2 ++ s in
    let a4 = a3 ++ w in
    let a5 = a4 ++ s in
    let a6 = a5 ++ c in
    let a7 = a6 ++ s in
    let r8 = (n ++ r) ++ e in
    let r6 = c ++ (32 ∷ r8) in
    let r4 = w ++ (32 ∷ r6) in
    ap (λ x. x ++ e) (append_assoc a7 n r) ∙ append_assoc a7 (n ++ r) e ∙ append_assoc a6 s r8 ∙ append_assoc a5 c (32 ∷ r8) ∙ append_assoc a4 s r6
    ∙ append_assoc a3 w (32 ∷ r6) ∙ append_assoc a2 s r4 ∙ append_assoc p k (32 ∷ r4)

-- what stands after the code of a variable
abbrev pub declared_rest : Variable → List ℕ
declared_rest v = v.name.items ++ range_text v.range ++ codes " $end"

pub variable_shape : (line : List ℕ) (number : ℕ) (v : Variable) → IsVariable v → line ≡ variable_line v number
    → IsShape line number v.kind v.width (declared_rest v)
variable_shape line number v h is = record {
  some = h.some;
  most = h.most;
  is = is ∙ line_assoc (codes "$var ") (kind_word v.kind) (decimal v.width) (code number) v.name.items (range_text v.range) (codes " $end");
}

pub shape_rest : (line : List ℕ) (number : ℕ) (j k : SignalKind) (w x : ℕ) (rest left : List ℕ) → IsShape line number j w rest → IsShape line number k x left → rest ≡ left
shape_rest line number j k w x rest left s t =
    let words = kind_word j ++ (32 ∷ (decimal w ++ (32 ∷ (code number ++ (32 ∷ rest))))) in
    (shape_parts line words (kind_word j) (decimal w) (code number) rest number k x left s.is (shape_three line words number j w rest s.is s) t).3

pub variable_named : (text : List ℕ) (v : Variable) → IsVariable v → text ≡ declared_rest v → IsNamed text v.name.items v.range
variable_named text v h is = record { named = h.named; ranged = h.ranged; is = is }

pub variable_made : (line rest name : List ℕ) (number : ℕ) (v : Variable) → v.name.items ≡ name → IsShape line number v.kind v.width rest → IsNamed rest name v.range
    → IsVariable v × (line ≡ variable_line v number)
variable_made line rest name number v called s n = (
  record { named = subst IsName (sym called) n.named; some = s.some; most = s.most; ranged = n.ranged },
  s.is
      ∙ ap (λ x. codes "$var " ++ (kind_word v.kind ++ (32 ∷ (decimal v.width ++ (32 ∷ (code number ++ (32 ∷ x)))))))
      (n.is ∙ ap (λ x. x ++ range_text v.range ++ codes " $end") (sym called))
      ∙ sym (line_assoc (codes "$var ") (kind_word v.kind) (decimal v.width) (code number) v.name.items (range_text v.range) (codes " $end")),
)
