-- The values of expressions.
use Rattle.std.specs.Prelude.{ℕ, ℤ, Bool, true, false, Option, Some, None, List, [], ◌∷◌, length, take}
use Rattle.vs_design.specs.vs_logic4.specs.declared.digit.Digit.{Digit}
use Rattle.vs_design.specs.vs_logic4.specs.declared.digit.Digit.TheVariants.{Zero, One, X, Z}
use Rattle.vs_design.specs.vs_logic4.specs.declared.operators.Sizing.{Sizing}
use Rattle.vs_design.specs.vs_logic4.specs.declared.operators.Sizing.TheVariants.{Alike, Shift, Comparison, Logical}
use Rattle.vs_design.specs.vs_logic4.specs.Bitwise.{merged}
use Rattle.vs_design.specs.vs_logic4.specs.Comparisons.{truth}
use Rattle.vs_design.specs.vs_logic4.specs.Operators.{unary, binary, sizing_of}
use Rattle.vs_design.specs.vs_logic4.specs.Parts.{concatenation, replication, selected}
use Rattle.vs_design.specs.vs_logic4.specs.Vectors.{all_unknown, resized}
use Rattle.vs_design.specs.declared.expression.Excerpt.{Excerpt}
use Rattle.vs_design.specs.declared.expression.Link.{Link}
use Rattle.vs_design.specs.declared.expression.Selection.{Selection}
use Rattle.vs_design.specs.declared.expression.Typed.{Typed, Typed-F, fold-Typed}
use Rattle.vs_design.specs.declared.expression.Typed.TheOpen as t
use Rattle.vs_design.specs.declared.statement.Target.{Target}
use Rattle.vs_design.specs.Selects.{place_of, word_place}
use Rattle.vs_design.specs.Stores.{Store, word_of}

-- a word at the size and with the sign of its context; x where there is no such word (clauses 5.4.1 and 5.5.2)
abbrev pub operand_value : Bool → ℕ → Option (List Digit) → List Digit
operand_value signed width None = all_unknown width
operand_value signed width (Some word) = resized signed width word

-- so many bits of a word from a place on; x where there is no such bit, or no such word (clause 5.2.1)
abbrev pub bits_value : ℤ → ℕ → Option (List Digit) → List Digit
bits_value low width None = all_unknown width
bits_value low width (Some word) = selected low width word

-- the bits that two indices choose (clause 5.2.1)
abbrev pub selection_value : Selection → Store → List Digit → List Digit → List Digit
selection_value s store word low = bits_value (place_of s.bits s.width low) s.width (word_of store s.signal (word_place s.words word))

-- the bits of a constant that an index chooses (clause 5.2.1)
abbrev pub excerpt_value : Excerpt → List Digit → List Digit
excerpt_value s low = bits_value (place_of s.bits s.width low) s.width (Some s.digits)

-- what stands on the left of a link at the size at which the operator takes it: at that of the link, or as it is (clause 5.4.1)
abbrev pub left_side : Sizing → ℕ → List Digit → List Digit
left_side Alike width left = resized false width left
left_side Shift width left = resized false width left
left_side Comparison width left = resized false width left
left_side Logical width left = left

-- what stands on the right of a link at the size at which the operator takes it: at that of the link, or as it is (clause 5.4.1)
abbrev pub right_side : Sizing → ℕ → List Digit → List Digit
right_side Alike width right = resized false width right
right_side Shift width right = right
right_side Comparison width right = resized false width right
right_side Logical width right = right

-- what the operator of a link gives of what stands on its left and of the operand on its right (clauses 5.1 and 5.4.1)
abbrev pub linked : List Digit → Link × List Digit → List Digit
linked left l =
    let sizing = sizing_of l.0.operator in
    binary l.0.operator l.0.signed (left_side sizing l.0.width left) (right_side sizing l.0.width l.1)

-- what operands and the operators between them give, from left to right (clause 5.1.2)
abbrev pub chained : List Digit → List (Link × List Digit) → List Digit
chained first [] = first
chained first (l ∷ ls) = chained (linked first l) ls

-- what `?:` gives by the truth of its condition: an operand, or where it is unknown both merged (clause 5.1.13)
abbrev pub picked : Digit → List Digit → List Digit → List Digit
picked One value other = value
picked Zero value other = other
picked X value other = merged value (resized false (length value) other)
picked Z value other = merged value (resized false (length value) other)

-- what operands, each behind a condition, and a last one give (clause 5.1.13)
abbrev pub chosen : List (List Digit × List Digit) → List Digit → List Digit
chosen [] last = last
chosen (p ∷ ps) last = picked (truth p.0) p.1 (chosen ps last)

-- what parts give, the first of them the highest, cut to the lowest 64 bits (clause 5.1.14; the cut: profile)
abbrev pub concatenated : List Digit → List (List Digit) → List Digit
concatenated high [] = high
concatenated high (low ∷ rest) = concatenated (take 64 (concatenation high low)) rest

-- one layer of an expression: its value in a store at a time, with the value of each inner expression in its place
abbrev pub value_step : Store → ℕ → Typed-F (List Digit) → List Digit
value_step store time (t.Number digits) = digits
value_step store time (t.Signal o) = operand_value o.signed o.width (word_of store o.signal 0)
value_step store time (t.Slice s) = bits_value s.low s.width (word_of store s.signal s.word)
value_step store time (t.Select s word low) = selection_value s store word.value low.value
value_step store time (t.Excerpt s low) = excerpt_value s low.value
value_step store time (t.Unary op x) = unary op x.value
value_step store time (t.Chain x links) = chained x.value links.items
value_step store time (t.Choice pairs last) = chosen pairs.items last.value
value_step store time (t.Concat x xs) = concatenated x.value xs.items
value_step store time (t.Repeat n x) = take 64 (replication n.times x.value)
value_step store time (t.Resized size x) = resized size.signed size.width x.value

-- the value of an expression in a store at a time in ticks (clause 5)
abbrev pub value_of : Typed → Store → ℕ → List Digit
value_of e store time = fold-Typed (List Digit) (value_step store time) e

-- whether an expression is none of a number, a signal, an operator with its operand, and a chain
abbrev pub is_other : Typed-F Typed → Bool
is_other (t.Number digits) = false
is_other (t.Signal o) = false
is_other (t.Unary operator x) = false
is_other (t.Chain first links) = false
is_other _ = true

-- what a target gets of an expression: its value, cut to the target's size (clauses 5.4.1 and 6)
abbrev pub target_value : Target → Typed → Store → ℕ → List Digit
target_value t e store time = resized false t.width (value_of e store time)
