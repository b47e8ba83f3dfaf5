-- Beginnings of the lines of variables.
use Rattle.std.proofs.Common.{◌≡◌, inl, inr, ℕ, Bool, Option, Some, None, List, ◌∷◌, ◌++◌, codes, decimal, refl, sym, ap, ◌∙◌, append_assoc, arith}
use Rattle.std.specs.Fmt.{signed_decimal}
use Rattle.vs_design.specs.declared.signal.Bounds.{Bounds}
use Rattle.vs_design.specs.declared.signal.SignalKind.{SignalKind}
use Rattle.vs_design.specs.declared.signal.SignalKind.TheVariants.{Reg}
use Rattle.vs_vcd_lines.specs.vs_vcd_writing.specs.Codes.{code}
use Rattle.vs_vcd_lines.specs.vs_vcd_writing.specs.Text.{kind_word, range_text}
use Rattle.vs_vcd_lines.specs.Cuts.{lacks}
use Rattle.vs_vcd_lines.specs.Lines.{IsRange}
use Rattle.vs_vcd_lines.proofs.NameLemmas.{lacks-decimal}
use Rattle.vs_vcd_lines.proofs.VariableLemmas.{line_assoc}
use Rattle.vs_vcd_lines.proofs.WordLemmas.{kind_lacks, lacks-code, no_space}
use Rattle.vs_vcd_lines.specs.Beginnings.{variable_form, BeginsVariable}
use Rattle.vs_vcd_lines.specs.BeginningsParts.{BeginsSome, IsCode, IsCodedRest, IsKind, IsKindRest, IsNamedRest, IsPrefixed, IsSizedRest, IsSomeSize, IsTail, IsVariableEnd}
use Rattle.vs_vcd_lines.proofs.PartLemmas.{joined_some, named_some, AllLack, HasText}
use Rattle.vs_vcd_lines.proofs.ScopeLemmas.{end_tail}
use Rattle.vs_vcd_lines.proofs.TextLemmas.{Tells}

-- ---- words

pub kinds_lack : AllLack 32 IsKind
kinds_lack word h = ap (lacks 32) h.1 ∙ kind_lacks h.0

pub sizes_lack : AllLack 32 IsSomeSize
sizes_lack word h =
    let s = h.1 in
    let most = s.most in
    ap (lacks 32) s.is ∙ lacks-decimal 32 h.0 no_space (omega (arith, most))

pub codes_lack : (number : ℕ) → AllLack 32 (IsCode number)
codes_lack number word h = ap (lacks 32) h ∙ lacks-code number

-- ---- what stands after the words

pub variable_tails : (text : List ℕ) → IsVariableEnd text → IsTail text
variable_tails text (inl e) = end_tail text e
variable_tails text (inr h) = record { first = 32; rest = 91 ∷ h.rest; are = h.are; other = refl }

pub variable_end_some : HasText IsVariableEnd
variable_end_some = (codes " $end", inl refl)

pub named_rest_some : HasText IsNamedRest
named_rest_some = named_some IsVariableEnd variable_end_some

pub coded_some : (number : ℕ) → HasText (IsCodedRest number)
coded_some number = joined_some 32 (IsCode number) IsNamedRest (code number, refl) named_rest_some

pub sized_some : (number : ℕ) → HasText (IsSizedRest number)
sized_some number =
    joined_some 32 IsSomeSize (IsCodedRest number) (decimal 1, (1, record { some = omega arith; most = omega arith; is = refl })) (coded_some number)

pub shape_some : (number : ℕ) → HasText (IsKindRest number)
shape_some number = joined_some 32 IsKind (IsSizedRest number) (codes "reg", (Reg, refl)) (sized_some number)

-- ---- ranges

range_form : (l r e : List ℕ) → (codes " [" ++ l ++ codes ":" ++ r ++ codes "]") ++ e ≡ codes " [" ++ (l ++ (58 ∷ (r ++ (93 ∷ e))))
range_form l r e =
    let left = codes " [" ++ l in
    let colon = left ++ codes ":" in
    append_assoc (colon ++ r) (codes "]") e ∙ append_assoc colon r (93 ∷ e) ∙ append_assoc left (codes ":") (r ++ (93 ∷ e))
    ∙ append_assoc (codes " [") l (58 ∷ (r ++ (93 ∷ e)))

-- what stands after a name is a range, where there is one, and the end
record IsOfRange (text : List ℕ) : Type 0 where
  pub range : Option Bounds
  pub ranged : IsRange range
  pub is : text ≡ range_text range ++ codes " $end"

of_range : (text : List ℕ) → IsVariableEnd text → IsOfRange text
of_range text (inl e) = record { range = None; ranged = tt; is = e }
of_range text (inr h) =
    let left = h.is.is_word in
    let last = h.is.is_rest in
    let right = last.is_word in
    let l = signed_decimal left.value in
    let r = signed_decimal right.value in
    let b : Bounds = record { left = left.value; right = right.value } in
    let tail : last.word ++ 93 ∷ last.rest ≡ r ++ 93 ∷ codes " $end" =
    ap (λ w. w ++ 93 ∷ last.rest) right.is ∙ ap (λ x. r ++ 93 ∷ x) last.is_rest in
    let inner : h.rest ≡ l ++ 58 ∷ (r ++ 93 ∷ codes " $end") =
    h.is.are ∙ ap (λ w. w ++ 58 ∷ h.is.rest) left.is ∙ ap (λ x. l ++ 58 ∷ x) (last.are ∙ tail) in
    record {
      range = Some b;
      ranged = (left.short, right.short);
      is = h.are ∙ ap (λ x. codes " [" ++ x) inner ∙ sym (range_form l r (codes " $end"));
    }

range_end : (range : Option Bounds) → IsRange range → IsVariableEnd (range_text range ++ codes " $end")
range_end None ranged = inl refl
range_end (Some b) ranged =
    let l = signed_decimal b.left in
    let r = signed_decimal b.right in
    inr
    (record {
      rest = l ++ 58 ∷ (r ++ 93 ∷ codes " $end");
      is = record {
        word = l;
        rest = r ++ 93 ∷ codes " $end";
        is_word = record { value = b.left; short = ranged.0; is = refl };
        is_rest = record {
          word = r;
          rest = codes " $end";
          is_word = record { value = b.right; short = ranged.1; is = refl };
          is_rest = refl;
          are = refl;
        };
        are = refl;
      };
      are = range_form l r (codes " $end");
    })

-- ---- the line

abbrev from_name : List ℕ → Option Bounds → List ℕ
from_name name range = name ++ (range_text range ++ codes " $end")

abbrev from_code : ℕ → List ℕ → Option Bounds → List ℕ
from_code number name range = code number ++ 32 ∷ from_name name range

abbrev from_size : ℕ → ℕ → List ℕ → Option Bounds → List ℕ
from_size width number name range = decimal width ++ 32 ∷ from_code number name range

abbrev from_kind : SignalKind → ℕ → ℕ → List ℕ → Option Bounds → List ℕ
from_kind kind width number name range = kind_word kind ++ 32 ∷ from_size width number name range

form_nested : (kind : SignalKind) (width number : ℕ) (name : List ℕ) (range : Option Bounds)
    → variable_form kind width number name range ≡ codes "$var " ++ from_kind kind width number name range
form_nested kind width number name range =
    line_assoc (codes "$var ") (kind_word kind) (decimal width) (code number) name (range_text range) (codes " $end")
    ∙ ap (λ x. codes "$var " ++ (kind_word kind ++ (32 ∷ (decimal width ++ (32 ∷ (code number ++ (32 ∷ x)))))))
    (append_assoc name (range_text range) (codes " $end"))

variable_begun : (number : ℕ) (part : List ℕ) → BeginsSome (IsPrefixed (codes "$var ") (IsKindRest number)) part → BeginsVariable number part
variable_begun number part h =
    let k = h.is.is in
    let s = k.is_rest in
    let c = s.is_rest in
    let n = c.is_rest in
    let t = of_range n.rest n.is in
    let kind = k.is_word.0 in
    let width = s.is_word.0 in
    let size = s.is_word.1 in
    let four : c.rest ≡ from_name n.name t.range = n.are ∙ ap (λ l. n.name ++ l) t.is in
    let three : s.rest ≡ from_code number n.name t.range =
    c.are ∙ ap (λ w. w ++ 32 ∷ c.rest) c.is_word ∙ ap (λ l. code number ++ 32 ∷ l) four in
    let two : k.rest ≡ from_size width number n.name t.range =
    s.are ∙ ap (λ w. w ++ 32 ∷ s.rest) size.is ∙ ap (λ l. decimal width ++ 32 ∷ l) three in
    let one : h.is.rest ≡ from_kind kind width number n.name t.range =
    k.are ∙ ap (λ w. w ++ 32 ∷ k.rest) k.is_word.1 ∙ ap (λ l. kind_word kind ++ 32 ∷ l) two in
    record {
      kind = kind;
      width = width;
      name = n.name;
      range = t.range;
      some = size.some;
      most = size.most;
      named = n.named;
      ranged = t.ranged;
      begins = (
        h.begins.0,
        form_nested kind width number n.name t.range ∙ ap (λ l. codes "$var " ++ l) (sym one) ∙ sym h.is.are ∙ h.begins.1,
      );
    }

named_rest : (number : ℕ) (part : List ℕ) (g : BeginsVariable number part) → IsNamedRest (from_name g.name g.range)
named_rest number part g =
    record { name = g.name; rest = range_text g.range ++ codes " $end"; named = g.named; is = range_end g.range g.ranged; are = refl }

variable_some : (number : ℕ) (part : List ℕ) → BeginsVariable number part → BeginsSome (IsPrefixed (codes "$var ") (IsKindRest number)) part
variable_some number part g =
    let coded : IsCodedRest number (from_code number g.name g.range) = record {
      word = code number;
      rest = from_name g.name g.range;
      is_word = refl;
      is_rest = named_rest number part g;
      are = refl;
    } in
    let sized : IsSizedRest number (from_size g.width number g.name g.range) = record {
      word = decimal g.width;
      rest = from_code number g.name g.range;
      is_word = (g.width, record { some = g.some; most = g.most; is = refl });
      is_rest = coded;
      are = refl;
    } in
    let shaped : IsKindRest number (from_kind g.kind g.width number g.name g.range) = record {
      word = kind_word g.kind;
      rest = from_size g.width number g.name g.range;
      is_word = (g.kind, refl);
      is_rest = sized;
      are = refl;
    } in
    record {
      whole = codes "$var " ++ from_kind g.kind g.width number g.name g.range;
      is = record { rest = from_kind g.kind g.width number g.name g.range; is = shaped; are = refl };
      begins = (g.begins.0, sym (form_nested g.kind g.width number g.name g.range) ∙ g.begins.1);
    }

pub variable_told : (number : ℕ) (part : List ℕ) (b : Bool) → Tells b (BeginsSome (IsPrefixed (codes "$var ") (IsKindRest number)) part)
    → Tells b (BeginsVariable number part)
variable_told number part b tells = (λ e. variable_begun number part (tells.0 e), λ g. tells.1 (variable_some number part g))
