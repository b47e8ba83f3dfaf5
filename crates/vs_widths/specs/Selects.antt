-- What a name with selects names.
use Rattle.std.specs.Prelude.{ℕ, suc, ◌-◌, ℤ, pos, ◌-ℤ◌, int_lt, unsigned_abs, Bool, false, ◌||◌, if◌then◌else◌, List, [], ◌∷◌, ◌++◌, Option, Some, None, length}
use Rattle.std.specs.List.{list_any}
use Rattle.vs_design.specs.vs_logic4.specs.declared.digit.Digit.{Digit}
use Rattle.vs_design.specs.vs_logic4.specs.Vectors.{resized}
use Rattle.vs_syntax.specs.declared.tree.PartSelect.{PartSelect}
use Rattle.vs_syntax.specs.declared.tree.PartSelect.TheVariants as p
use Rattle.vs_design.specs.declared.range.BitRange.{BitRange}
use Rattle.vs_design.specs.declared.signal.Bounds.{Bounds}
use Rattle.vs_design.specs.Selects.{in_reach, from_zero}
use Rattle.vs_design.specs.Stores.{Store, word_of}
use Rattle.vs_design.specs.Uses.{all_words, bits_from}
use Rattle.vs_eval.specs.Values.{bits_value}
use Rattle.vs_widths.specs.declared.shape.Shape.{Shape}
use Rattle.vs_widths.specs.declared.bindings.Meaning.{Meaning}
use Rattle.vs_widths.specs.declared.bindings.Binding.{Binding}
use Rattle.vs_widths.specs.declared.bindings.Binding.TheVariants.{Signal, Constant, Pending, Other, Genvar}
use Rattle.vs_widths.specs.declared.constants.Const.{Const}
use Rattle.vs_widths.specs.declared.faults.WidthReason.{WidthReason}
use Rattle.vs_widths.specs.Findings.{Finding, Has, Lacks, has_width_fault, unknown, wrong_kind, not_constant, together, alone, second, unsigned, at_found}
use Rattle.vs_widths.specs.Layers.{FixedBits, other, selected_layer}
use Rattle.vs_widths.specs.Meants.{Meant, own}
use Rattle.vs_widths.specs.Constants.{constant_finding, index_at, natural_of, whole_of, positive}

-- one select behind a name: `[index]`, or the two expressions of a part-select with what stands between them (clauses 5.2.1 and 5.2.2)
abbrev pub Select : Type 0
Select = Meant × Option (PartSelect × Meant)

-- ---- the number of an element

-- whether the indices of a range rise from left to right (clauses 4.3.1 and 4.9)
abbrev pub ascends : Bounds → Bool
ascends b = int_lt b.left b.right

-- the number of the element of an index, counted from that of the right bound on (clauses 4.3.1 and 4.9)
abbrev pub element_of : Bounds → ℤ → ℤ
element_of b n = if ascends b then b.right -ℤ n else n -ℤ b.right

-- the number of an index in a store at a time, at its own size and by its own sign (clause 5.2.1)
abbrev pub index_of : Meant → Store → ℕ → Option ℤ
index_of i store time = index_at i.finding (own i store time)

-- the number of the lowest of so many elements of a range of this length, of which the lowest is so far below that of an index; the number
-- past the end where none is in range, or the index has no number (clause 5.2.1)
abbrev pub lowest_of : Bounds → ℕ → ℕ → ℕ → Option ℤ → ℤ
lowest_of b length width below None = pos length
lowest_of b length width below (Some n) = in_reach length width (element_of b n -ℤ pos below)

-- the same of an index in a store at a time
abbrev pub lowest_at : Bounds → ℕ → ℕ → ℕ → Meant → Store → ℕ → ℤ
lowest_at b length width below i store time = lowest_of b length width below (index_of i store time)

-- ---- faults

-- whether a fault stands in an expression of a select
abbrev pub select_has_fault : WidthReason → Select → Bool
select_has_fault r (i, None) = has_width_fault r i.finding
select_has_fault r (i, Some (how, m)) = has_width_fault r i.finding || has_width_fault r m.finding

-- a fault of a name with its selects, beside those of their expressions
abbrev pub refused : (WidthReason → Bool) → List Select → Finding
refused faults ss = Lacks (λ r. faults r || list_any (select_has_fault r) ss)

-- how many bits were found
abbrev pub size_found : Finding → ℕ
size_found (Has width signed) = width
size_found (Lacks faults) = 0

-- ---- bits of a word

-- Bits of a word: how many they are and their sign, what their index reads, and the number of the lowest one in a store at a time.
pub record Span : Type 0 where
  pub finding : Finding
  pub reads : List BitRange
  pub low : Store → ℕ → ℤ

-- all bits of a word
abbrev pub all_bits : Shape → Span
all_bits s = record { finding = Has s.width s.signed; reads = []; low = λ store time. pos 0 }

-- none, for a fault
abbrev pub no_bits : (WidthReason → Bool) → List Select → Span
no_bits faults ss = record { finding = refused faults ss; reads = []; low = λ store time. pos 0 }

-- `[index]`, one bit of a word of this size (clause 5.2.1)
abbrev pub bit_span : Bounds → ℕ → Meant → Span
bit_span b size i = record {
  finding = alone (λ width signed. Has 1 false) i.finding;
  reads = i.reads;
  low = lowest_at b size 1 0 i;
}

-- whether the bounds of a part-select run against those of the range (clause 5.2.1)
abbrev pub is_reversed : Bounds → ℤ → ℤ → Bool
is_reversed b left right = if ascends b then int_lt right left else int_lt left right

-- how many bits two bounds choose, where both have a number (clause 5.2.1; at most 64: profile)
abbrev pub between : Bounds → Option ℤ → Option ℤ → Finding
between b (Some left) (Some right) = if is_reversed b left right then Lacks not_constant else unsigned (suc (unsigned_abs (left -ℤ right)))
between b _ _ = Lacks not_constant

-- the size of `[left:right]`, whose bounds are constants (clause 5.2.1)
abbrev pub bounds_finding : Bounds → Meant → Meant → Finding
bounds_finding b left right =
    together (λ width signed size sign. between b (whole_of left) (whole_of right)) (constant_finding left) (constant_finding right)

-- `[left:right]`; its bounds read nothing (clause 5.2.1)
abbrev pub bounds_span : Bounds → ℕ → Meant → Meant → Span
bounds_span b size left right = record {
  finding = bounds_finding b left right;
  reads = [];
  low = lowest_at b size (size_found (bounds_finding b left right)) 0 right;
}

-- a size that is a number from 1 to 64 (clause 5.2.1; at most 64: profile)
abbrev pub counted : Option ℕ → Finding
counted None = Lacks not_constant
counted (Some n) = unsigned n

-- the size of `[base +: width]` and `[base -: width]`, whose width is a constant (clause 5.2.1)
abbrev pub base_finding : Meant → Meant → Finding
base_finding base width = together (λ n signed size sign. counted (positive (natural_of width))) base.finding (constant_finding width)

-- how far below the element of the base the lowest of so many elements is: `+:` counts the indices up from the base on, `-:` down (clause
-- 5.2.1)
abbrev pub below_base : PartSelect → Bounds → ℕ → ℕ
below_base p.Bounds b width = 0
below_base p.Upward b width = if ascends b then width - 1 else 0
below_base p.Downward b width = if ascends b then 0 else width - 1

-- `[base +: width]` or `[base -: width]`; the width reads nothing (clause 5.2.1)
abbrev pub base_span : PartSelect → Bounds → ℕ → Meant → Meant → Span
base_span how b size base width =
    let found = base_finding base width in
    record { finding = found; reads = base.reads; low = lowest_at b size (size_found found) (below_base how b (size_found found)) base }

-- what one select chooses of a word of this size and range (clause 5.2.1)
abbrev pub select_span : Bounds → ℕ → Select → Span
select_span b size (i, None) = bit_span b size i
select_span b size (i, Some (p.Bounds, m)) = bounds_span b size i m
select_span b size (i, Some (p.Upward, m)) = base_span p.Upward b size i m
select_span b size (i, Some (p.Downward, m)) = base_span p.Downward b size i m

-- what selects choose of a word of this size and sign: all bits without one, and with one, where the word has a range, those that it
-- chooses (clause 5.2.1)
abbrev pub span_of : Option Bounds → Shape → List Select → Span
span_of b s [] = all_bits s
span_of None s (x ∷ xs) = no_bits wrong_kind (x ∷ xs)
span_of (Some b) s (x ∷ []) = select_span b s.width x
span_of (Some b) s (x ∷ y ∷ xs) = no_bits wrong_kind (x ∷ y ∷ xs)

-- ---- bits of a signal

-- What a name with its selects names: the size and sign, the number of the signal, what the indices read, the word's first, and the numbers
-- of the word and of the lowest bit in a store at a time (clauses 5.2.1 and 5.2.2).
pub record Named : Type 0 where
  pub finding : Finding
  pub signal : ℕ
  pub reads : List BitRange
  pub word : Store → ℕ → ℕ
  pub low : Store → ℕ → ℤ

-- bits of a signal that is no array
abbrev pub in_signal : ℕ → Span → Named
in_signal signal s = record { finding = s.finding; signal = signal; reads = s.reads; word = λ store time. 0; low = s.low }

-- bits of that one of so many words that an index chooses (clause 5.2.2)
abbrev pub in_word : Bounds → ℕ → ℕ → Meant → Span → Named
in_word b count signal i s = record {
  finding = together second i.finding s.finding;
  signal = signal;
  reads = i.reads ++ s.reads;
  word = λ store time. from_zero (lowest_at b count 1 0 i store time);
  low = s.low;
}

-- what selects choose of an array: the first the word, and those behind it of its bits (clause 5.2.2)
abbrev pub in_array : Bounds → Meaning → ℕ → List Select → Named
in_array b x signal [] = in_signal signal (no_bits wrong_kind [])
in_array b x signal ((i, None) ∷ ss) = in_word b x.count signal i (span_of x.bits x.shape ss)
in_array b x signal ((i, Some m) ∷ ss) = in_signal signal (no_bits wrong_kind ((i, Some m) ∷ ss))

-- what selects choose of a signal, with the range of its words where it is an array
abbrev pub of_words : Option Bounds → Meaning → ℕ → List Select → Named
of_words None x signal ss = in_signal signal (span_of x.bits x.shape ss)
of_words (Some b) x signal ss = in_array b x signal ss

-- what a name with selects names, by what it is bound to (clauses 5.2 and 12.7); a constant is no signal
abbrev pub named : Option Binding → List Select → Named
named None ss = in_signal 0 (no_bits unknown ss)
named (Some (Signal x signal)) ss = of_words x.words x signal ss
named (Some (Constant c)) ss = in_signal 0 (no_bits wrong_kind ss)
named (Some Pending) ss = in_signal 0 (no_bits not_constant ss)
named (Some Other) ss = in_signal 0 (no_bits wrong_kind ss)
named (Some Genvar) ss = in_signal 0 (no_bits wrong_kind ss)

-- ---- values

-- the range of what is named, with what its indices read: the very bits where they read nothing, otherwise the whole signal (profile)
abbrev pub range_by : List BitRange → Named → BitRange
range_by [] n = record { signal = n.signal; word = Some (n.word [] 0); bits = Some (bits_from (n.low [] 0) (size_found n.finding)) }
range_by (r ∷ rs) n = all_words n.signal

-- the range of what is named
abbrev pub named_range : Named → BitRange
named_range n = range_by n.reads n

-- the bits that are named, where the indices read nothing
abbrev pub named_bits : Named → FixedBits
named_bits n = record { signal = n.signal; word = n.word [] 0; low = n.low [] 0; width = size_found n.finding }

-- what an operand reads: its range, and what its indices read (profile)
abbrev pub named_reads : Finding → Named → List BitRange
named_reads (Has width signed) n = named_range n ∷ n.reads
named_reads (Lacks faults) n = []

-- the bits that are named, in a store at a time; x where there are none (clause 5.2.1)
abbrev pub named_value : Named → Store → ℕ → List Digit
named_value n store time =
    at_found n.finding (λ width signed. bits_value (n.low store time) width (word_of store n.signal (n.word store time)))

-- what the bits that are named mean as an operand: they are brought to the size and sign of the context (clauses 5.2.1 and 5.5)
abbrev pub operand_meant : Named → Meant
operand_meant n = record {
  finding = n.finding;
  reads = named_reads n.finding n;
  at = λ store time width signed. resized signed width (named_value n store time);
  layer = λ width. selected_layer n.reads (named_bits n) width;
}

-- ---- bits of a constant

-- what selects choose of a constant: all bits without one, and with one those that it chooses (clauses 4.10 and 5.2.1)
abbrev pub constant_span : Const → List Select → Span
constant_span c [] = record { finding = Has (length c.value) c.signed; reads = []; low = λ store time. pos 0 }
constant_span c (x ∷ []) = select_span c.bits (length c.value) x
constant_span c (x ∷ y ∷ xs) = no_bits wrong_kind (x ∷ y ∷ xs)

-- the bits that are chosen of digits, in a store at a time; x where there are none (clause 5.2.1)
abbrev pub span_value : List Digit → Span → Store → ℕ → List Digit
span_value digits s store time = at_found s.finding (λ width signed. bits_value (s.low store time) width (Some digits))

-- what the bits that are chosen of digits mean as an operand: they read what their index reads, and are brought to the size and sign of the
-- context (clauses 5.2.1 and 5.5)
abbrev pub excerpt_meant : List Digit → Span → Meant
excerpt_meant digits s = record {
  finding = s.finding;
  reads = s.reads;
  at = λ store time width signed. resized signed width (span_value digits s store time);
  layer = λ width. other;
}

-- ---- operands

-- what a name with selects means as an operand, by what it is bound to (clauses 4.10, 5.2.1 and 5.2.2)
abbrev pub select_meant : Option Binding → List Select → Meant
select_meant None ss = operand_meant (named None ss)
select_meant (Some (Constant c)) ss = excerpt_meant c.value (constant_span c ss)
select_meant (Some b) ss = operand_meant (named (Some b) ss)
