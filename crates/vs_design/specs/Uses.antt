-- Which bits an expression reads and an assignment writes.
use Rattle.std.specs.Prelude.{ℕ, suc, ◌+◌, ◌-◌, ◌==◌, ◌&&◌, Bool, true, ℤ, pos, negsuc, Option, Some, None, List, [], ◌∷◌, ◌++◌, map, max, min, nat_le, nat_lt}
use Rattle.std.specs.List.{list_any}
use Rattle.vs_design.specs.declared.expression.Link.{Link}
use Rattle.vs_design.specs.declared.expression.Typed.{Typed, Typed-F, fold-Typed}
use Rattle.vs_design.specs.declared.expression.Typed.TheOpen as t
use Rattle.vs_design.specs.declared.expression.Slice.{Slice}
use Rattle.vs_design.specs.declared.statement.Aim.{Aim}
use Rattle.vs_design.specs.declared.statement.Aim.TheVariants.{Fixed, Chosen}
use Rattle.vs_design.specs.declared.statement.Target.{Target}
use Rattle.vs_design.specs.declared.range.Bits.{Bits}
use Rattle.vs_design.specs.declared.range.BitRange.{BitRange}

-- the word 0 of a signal, all bits: the whole of a signal that is no array
abbrev pub whole : ℕ → BitRange
whole signal = record { signal = signal; word = Some 0; bits = None }

-- every word of a signal, all bits
abbrev pub all_words : ℕ → BitRange
all_words signal = record { signal = signal; word = None; bits = None }

-- those of so many bits from a place on that lie at places from 0 on
abbrev pub bits_from : ℤ → ℕ → Bits
bits_from (pos low) width = record { low = low; width = width }
bits_from (negsuc below) width = record { low = 0; width = width - suc below }

-- the bits of a word that constant indices choose
abbrev pub slice_range : Slice → BitRange
slice_range s = record { signal = s.signal; word = Some s.word; bits = Some (bits_from s.low s.width) }

-- the elements of lists, one list after another
abbrev pub joined : {A : Type 0} → List (List A) → List A
joined [] = []
joined (xs ∷ xss) = xs ++ joined xss

-- one layer of an expression: what it reads, with what each inner expression reads in its place
abbrev pub reads_step : Typed-F (List BitRange) → List BitRange
reads_step (t.Number digits) = []
reads_step (t.Signal o) = whole o.signal ∷ []
reads_step (t.Slice s) = slice_range s ∷ []
reads_step (t.Select s word low) = all_words s.signal ∷ word.value ++ low.value
reads_step (t.Excerpt s low) = low.value
reads_step (t.Unary op x) = x.value
reads_step (t.Chain x links) = x.value ++ joined (map (λ (l : Link × List BitRange). l.1) links.items)
reads_step (t.Choice pairs last) = joined (map (λ (p : List BitRange × List BitRange). p.0 ++ p.1) pairs.items) ++ last.value
reads_step (t.Concat x xs) = x.value ++ joined xs.items
reads_step (t.Repeat n x) = x.value
reads_step (t.Resized size x) = x.value

-- the ranges that an expression reads, those of its text (profile)
abbrev pub reads : Typed → List BitRange
reads e = fold-Typed (List BitRange) reads_step e

-- the ranges that an assignment to one place writes: an index that isn't constant counts as the whole signal (profile)
abbrev pub aim_range : Aim → BitRange
aim_range (Fixed s) = slice_range s
aim_range (Chosen s word low) = all_words s.signal

-- the ranges that an assignment to a target writes (clause 6)
abbrev pub writes : Target → List BitRange
writes t = map aim_range t.parts.items

-- the ranges that the indices of a place read
abbrev pub aim_reads : Aim → List BitRange
aim_reads (Fixed s) = []
aim_reads (Chosen s word low) = reads word ++ reads low

-- the ranges that the indices of a target read
abbrev pub target_reads : Target → List BitRange
target_reads t = joined (map aim_reads t.parts.items)

-- whether a range is of a signal
abbrev pub is_of : ℕ → BitRange → Bool
is_of signal r = r.signal == signal

-- whether an expression reads a bit of a signal
abbrev pub reads_signal : Typed → ℕ → Bool
reads_signal e signal = list_any (is_of signal) (reads e)

-- whether an assignment to a target names a signal, be its bits in range or not
abbrev pub writes_signal : Target → ℕ → Bool
writes_signal t signal = list_any (is_of signal) (writes t)

-- whether a range has this word
abbrev pub has_word : Option ℕ → ℕ → Bool
has_word None word = true
has_word (Some w) word = w == word

-- whether a range has the bit at this place
abbrev pub has_bit : Option Bits → ℕ → Bool
has_bit None place = true
has_bit (Some b) place = nat_le b.low place && nat_lt place (b.low + b.width)

-- whether a range covers a bit of a word of a signal
abbrev pub covers : ℕ → ℕ → ℕ → BitRange → Bool
covers signal word place r = is_of signal r && has_word r.word word && has_bit r.bits place

-- whether two ranges have a word in common
abbrev pub words_meet : Option ℕ → Option ℕ → Bool
words_meet None q = true
words_meet (Some w) None = true
words_meet (Some w) (Some x) = w == x

-- whether two ranges have a place in common
abbrev pub bits_meet : Option Bits → Option Bits → Bool
bits_meet None None = true
bits_meet None (Some c) = nat_lt 0 c.width
bits_meet (Some b) None = nat_lt 0 b.width
bits_meet (Some b) (Some c) = nat_lt (max b.low c.low) (min (b.low + b.width) (c.low + c.width))

-- whether two ranges have a bit in common
abbrev pub meet : BitRange → BitRange → Bool
meet r q = (r.signal == q.signal) && words_meet r.word q.word && bits_meet r.bits q.bits
