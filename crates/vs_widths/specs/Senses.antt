-- Expressions whose parts have the sizes and signs that their context doesn't set.
use Rattle.std.specs.Prelude.{◌≡◌, ℕ, ◌*◌, Bool, false, if◌then◌else◌, List, [], ◌∷◌, ◌++◌, Option, Some, None, option_map, map, take}
use Rattle.vs_design.specs.vs_logic4.specs.declared.digit.Digit.{Digit}
use Rattle.vs_design.specs.vs_logic4.specs.declared.operators.Binary.{Binary}
use Rattle.vs_design.specs.vs_logic4.specs.Operators.{unary, gives_bit, sizing_of}
use Rattle.vs_design.specs.vs_logic4.specs.Vectors.{resized}
use Rattle.vs_design.specs.vs_logic4.specs.Parts.{replication}
use Rattle.vs_design.specs.declared.expression.Link.{Link}
use Rattle.vs_design.specs.declared.expression.Typed.{Typed}
use Rattle.vs_design.specs.declared.range.BitRange.{BitRange}
use Rattle.vs_design.specs.Stores.{Store, word_of}
use Rattle.vs_design.specs.Uses.{whole, all_words, slice_range, joined, reads}
use Rattle.vs_design.specs.WellFormed.{sized_by, chain_size, choice_size, indexed_size, sum_size, at_most_64, size_of}
use Rattle.vs_eval.specs.Values.{operand_value, bits_value, selection_value, excerpt_value, chained, chosen, concatenated, value_of}
use Rattle.vs_widths.specs.declared.forms.Sizable.{Sizable}
use Rattle.vs_widths.specs.declared.forms.Sizable.TheOpen.{Sizable-F}
use Rattle.vs_widths.specs.declared.forms.Sizable.TheOpen as f
use Rattle.vs_widths.specs.declared.forms.Sizable.TheFolds.{fold-Sizable}
use Rattle.vs_widths.specs.Layers.{slice_bits, Layer, name, bits, other, brought, operator_layer, layer_of}
use Rattle.vs_widths.specs.Operations.{operated}

-- what a form is at the size and with the sign of its context: its size, what it reads, its value, and what is outermost in it at that size
pub record Sense : Type 0 where
  pub size : ℕ → Option ℕ
  pub reads : List BitRange
  pub at : Store → ℕ → ℕ → Bool → List Digit
  pub layer : ℕ → Layer

-- the size of what an operator gives of two operands, in a context of this size
abbrev pub open_link : ℕ → Option ℕ → Binary × Option ℕ → Option ℕ
open_link width (Some left) (op, Some right) = sized_by (sizing_of op) width left right
open_link width _ _ = None

-- the size of operands with operators between them, in a context of this size
abbrev pub open_size : ℕ → Option ℕ → List (Binary × Option ℕ) → Option ℕ
open_size width first [] = first
open_size width first (l ∷ ls) = open_size width (open_link width first l) ls

-- the value of operands with operators between them, in a context of this size and sign
abbrev pub open_value : ℕ → Bool → List Digit → List (Binary × List Digit) → List Digit
open_value width signed first [] = first
open_value width signed first (l ∷ ls) = open_value width signed (operated l.0 width signed first l.1) ls

-- the value of operands with comparisons or `&&` and `||` between them
abbrev pub tests_value : Sense → List (Link × Sense) → Store → ℕ → List Digit
tests_value x links store time =
    chained (x.at store time 1 false) (map (λ (l : Link × Sense). (l.0, l.1.at store time l.0.width l.0.signed)) links)

-- one layer of a form, with the sense of each inner form in its place
abbrev pub form_step : Sizable-F Sense → Sense
form_step (f.Number v) = record {
  size = λ width. Some width;
  reads = [];
  at = λ store time width signed. resized signed width v;
  layer = λ width. other;
}
form_step (f.Signal n) = record {
  size = λ width. Some width;
  reads = whole n ∷ [];
  at = λ store time width signed. operand_value signed width (word_of store n 0);
  layer = λ width. name n width;
}
form_step (f.Slice s) = record {
  size = λ width. Some s.width;
  reads = slice_range s ∷ [];
  at = λ store time width signed. bits_value s.low s.width (word_of store s.signal s.word);
  layer = λ width. bits (slice_bits s);
}
form_step (f.Select s word low) = record {
  size = λ width. indexed_size s.value.width (word.value.size width) (low.value.size width);
  reads = all_words s.value.signal ∷ word.value.reads ++ low.value.reads;
  at = λ store time width signed. selection_value s.value store (word.value.at store time width signed) (low.value.at store time width signed);
  layer = λ width. other;
}
form_step (f.Excerpt s low) = record {
  size = λ width. option_map (λ n. s.value.width) (low.value.size width);
  reads = low.value.reads;
  at = λ store time width signed. excerpt_value s.value (low.value.at store time width signed);
  layer = λ width. other;
}
form_step (f.Unary op x) = record {
  size = λ width. option_map (λ n. if gives_bit op then 1 else n) (x.value.size width);
  reads = x.value.reads;
  at = λ store time width signed. unary op (x.value.at store time width signed);
  layer = λ width. operator_layer op (x.value.layer width);
}
form_step (f.Chain x links) = record {
  size = λ width. open_size width (x.value.size width) (map (λ (l : Binary × Sense). (l.0, l.1.size width)) links.items);
  reads = x.value.reads ++ joined (map (λ (l : Binary × Sense). l.1.reads) links.items);
  at = λ store time width signed.
      open_value width signed (x.value.at store time width signed)
      (map (λ (l : Binary × Sense). (l.0, l.1.at store time width signed)) links.items);
  layer = λ width. other;
}
form_step (f.Tests x links) = record {
  size = λ width.
      option_map (λ n. width) (chain_size (x.value.size 1) (map (λ (l : Link × Sense). (l.0, l.1.size l.0.width)) links.items));
  reads = x.value.reads ++ joined (map (λ (l : Link × Sense). l.1.reads) links.items);
  at = λ store time width signed. resized signed width (tests_value x.value links.items store time);
  layer = λ width. other;
}
form_step (f.Choice pairs last) = record {
  size = λ width. choice_size (map (λ (p : Sense × Sense). (p.0.size width, p.1.size width)) pairs.items) (last.value.size width);
  reads = joined (map (λ (p : Sense × Sense). p.0.reads ++ p.1.reads) pairs.items) ++ last.value.reads;
  at = λ store time width signed.
      chosen (map (λ (p : Sense × Sense). (p.0.at store time width signed, p.1.at store time width signed)) pairs.items)
      (last.value.at store time width signed);
  layer = λ width. other;
}
form_step (f.Concat x rest) = record {
  size = λ width. at_most_64 (sum_size (x.value.size width ∷ map (λ (s : Sense). s.size width) rest.items));
  reads = x.value.reads ++ joined (map (λ (s : Sense). s.reads) rest.items);
  at = λ store time width signed.
      concatenated (x.value.at store time width signed) (map (λ (s : Sense). s.at store time width signed) rest.items);
  layer = λ width. other;
}
form_step (f.Repeat n x) = record {
  size = λ width. at_most_64 (option_map (λ m. n.times * m) (x.value.size width));
  reads = x.value.reads;
  at = λ store time width signed. take 64 (replication n.times (x.value.at store time width signed));
  layer = λ width. other;
}
form_step (f.Own s x) = record {
  size = λ width. x.value.size s.width;
  reads = x.value.reads;
  at = λ store time width signed. x.value.at store time s.width s.signed;
  layer = λ width. x.value.layer s.width;
}
form_step (f.Closed s x) = record {
  size = λ width. option_map (λ n. width) (x.value.size s.width);
  reads = x.value.reads;
  at = λ store time width signed. resized signed width (x.value.at store time s.width s.signed);
  layer = λ width. brought width (x.value.layer s.width);
}

-- the sense of a form
abbrev pub sense : Sizable → Sense
sense = fold-Sizable Sense form_step

-- ---- forms that are typed

-- a typed expression is what this sense is at this size and sign
pub record IsFitted (s : Sense) (width : ℕ) (signed : Bool) (y : Typed) : Type 0 where
  pub size : size_of y ≡ s.size width
  pub value : (store : Store) (time : ℕ) → value_of y store time ≡ s.at store time width signed
  pub ranges : reads y ≡ s.reads
  pub layer : layer_of y ≡ s.layer width

-- a typed expression brought to a size and sign
pub record IsExtended (x : Typed) (width : ℕ) (signed : Bool) (y : Typed) : Type 0 where
  pub size : size_of y ≡ option_map (λ n. width) (size_of x)
  pub value : (store : Store) (time : ℕ) → value_of y store time ≡ resized signed width (value_of x store time)
  pub ranges : reads y ≡ reads x
  pub layer : layer_of y ≡ brought width (layer_of x)

-- an operand behind the first one, typed in a context
pub record IsLink (width : ℕ) (signed : Bool) (l : Binary × Sizable) (k : Link × Typed) : Type 0 where
  pub operator : k.0.operator ≡ l.0
  pub width_is : k.0.width ≡ width
  pub sign_is : k.0.signed ≡ signed
  pub fits : IsFitted (sense l.1) width signed k.1

-- an operand of a comparison, `&&` or `||`, typed at the size and with the sign of its link
pub record IsTest (l : Link × Sizable) (k : Link × Typed) : Type 0 where
  pub link : k.0 ≡ l.0
  pub fits : IsFitted (sense l.1) l.0.width l.0.signed k.1

-- a condition and the operand behind it, typed in a context
pub record IsPair (width : ℕ) (signed : Bool) (p : Sizable × Sizable) (q : Typed × Typed) : Type 0 where
  pub condition : IsFitted (sense p.0) width signed q.0
  pub value : IsFitted (sense p.1) width signed q.1

-- a part of a concatenation, typed in a context
abbrev pub IsPart : ℕ → Bool → Sizable → Typed → Type 0
IsPart width signed x y = IsFitted (sense x) width signed y
