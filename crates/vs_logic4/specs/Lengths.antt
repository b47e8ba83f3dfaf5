-- How long the result of each operator is.
use Rattle.std.proofs.Common.{◌≡◌, ℕ, zero, suc, ◌+◌, ◌-◌, ◌*◌, min, ℤ, pos, ◌+ℤ◌, neg_ℤ, ◌-ℤ◌, ◌*ℤ◌, int_div, int_rem, eqb, Bool, true, false, cond, ◌&&◌, List, [], ◌∷◌, length, replicate, take, drop, refl, ap, arith}
use Rattle.std.proofs.lemmas.List.{length-replicate, length-append, length-take, length-drop, length-map}
use Rattle.vs_logic4.specs.declared.digit.Digit.{Digit}
use Rattle.vs_logic4.specs.declared.digit.Digit.TheVariants.{Zero, X}
use Rattle.vs_logic4.specs.Vectors.{all_unknown, extension_digit}
use Rattle.vs_logic4.specs.PlaneLaws.{length-of_number}
use Rattle.vs_logic4.specs.Comparisons.{is_known}
use Rattle.vs_logic4.specs.Bitwise.{digitwise}
use Rattle.vs_logic4.specs.Arithmetic.{number, integer, of_integer, arithmetic, division, negation, unary_plus}
use Rattle.vs_logic4.specs.Shifts.{moved_left, moved_right, left_shift, right_shift}
use Rattle.vs_logic4.specs.declared.operators.Unary.{Unary}
use Rattle.vs_logic4.specs.declared.operators.Unary.TheVariants as u
use Rattle.vs_logic4.specs.declared.operators.Binary.{Binary}
use Rattle.vs_logic4.specs.declared.operators.Binary.TheVariants as b
use Rattle.vs_logic4.specs.Tables.{and_digit, or_digit, xor_digit, xnor_digit, not_digit}
use Rattle.vs_logic4.specs.Operators.{gives_bit, sizing_of, is_even, is_one_bit, unary, binary}
use Rattle.vs_logic4.specs.Parts.{selected, replaced_from, with_part, concatenation, replication}

-- a choice of two vectors of one length
length-cond : (b : Bool) (ds es : List Digit) (n : ℕ) → length ds ≡ n → length es ≡ n → length (cond b ds es) ≡ n
length-cond true ds es n h k = h
length-cond false ds es n h k = k

pub length-all_unknown : (width : ℕ) → length (all_unknown width) ≡ width
length-all_unknown width = length-replicate width X

pub length-of_integer : (width : ℕ) (z : ℤ) → length (of_integer width z) ≡ width
length-of_integer width z = length-of_number width _

pub length-digitwise : (f : Digit → Digit → Digit) (ds es : List Digit) → length ds ≡ length es → length (digitwise f ds es) ≡ length ds
length-digitwise f [] es h = refl
length-digitwise f (d ∷ ds) [] h = absurd (omega arith)
length-digitwise f (d ∷ ds) (e ∷ es) h = ap suc (length-digitwise f ds es (omega arith))

pub length-arithmetic : (f : ℤ → ℤ → ℤ) (signed : Bool) (ds es : List Digit) → length (arithmetic f signed ds es) ≡ length ds
length-arithmetic f signed ds es =
    length-cond (is_known ds && is_known es) (of_integer (length ds) (f (integer signed ds) (integer signed es))) (all_unknown (length ds)) (length ds)
    (length-of_integer (length ds) (f (integer signed ds) (integer signed es))) (length-all_unknown (length ds))

pub length-division : (f : ℤ → ℤ → ℤ) (signed : Bool) (ds es : List Digit) → length (division f signed ds es) ≡ length ds
length-division f signed ds es =
    length-cond (is_known es && eqb (number es) 0) (all_unknown (length ds)) (arithmetic f signed ds es) (length ds)
    (length-all_unknown (length ds)) (length-arithmetic f signed ds es)

pub length-negation : (signed : Bool) (ds : List Digit) → length (negation signed ds) ≡ length ds
length-negation signed ds =
    length-cond (is_known ds) (of_integer (length ds) (neg_ℤ (integer signed ds))) (all_unknown (length ds)) (length ds)
    (length-of_integer (length ds) (neg_ℤ (integer signed ds))) (length-all_unknown (length ds))

pub length-unary_plus : (ds : List Digit) → length (unary_plus ds) ≡ length ds
length-unary_plus ds = length-cond (is_known ds) ds (all_unknown (length ds)) (length ds) refl (length-all_unknown (length ds))

pub length-moved_left : (n : ℕ) (ds : List Digit) → length (moved_left n ds) ≡ length ds
length-moved_left n ds =
    omega (arith, length-append (replicate (min n (length ds)) Zero) (take (length ds - n) ds), length-replicate (min n (length ds)) Zero, length-take (length ds - n) ds)

pub length-moved_right : (signed : Bool) (n : ℕ) (ds : List Digit) → length (moved_right signed n ds) ≡ length ds
length-moved_right signed n ds =
    omega (arith, length-append (drop n ds) (replicate (min n (length ds)) (extension_digit signed ds)), length-replicate (min n (length ds)) (extension_digit signed ds), length-drop n ds)

pub length-left_shift : (ds amount : List Digit) → length (left_shift ds amount) ≡ length ds
length-left_shift ds amount =
    length-cond (is_known amount) (moved_left (number amount) ds) (all_unknown (length ds)) (length ds)
    (length-moved_left (number amount) ds) (length-all_unknown (length ds))

pub length-right_shift : (signed : Bool) (ds amount : List Digit) → length (right_shift signed ds amount) ≡ length ds
length-right_shift signed ds amount =
    length-cond (is_known amount) (moved_right signed (number amount) ds) (all_unknown (length ds)) (length ds)
    (length-moved_right signed (number amount) ds) (length-all_unknown (length ds))

pub length-selected : (low : ℤ) (width : ℕ) (ds : List Digit) → length (selected low width ds) ≡ width
length-selected low zero ds = refl
length-selected low (suc width) ds = ap suc (length-selected (low +ℤ pos 1) width ds)

length-replaced_from : (place : ℤ) (part ds : List Digit) → length (replaced_from place part ds) ≡ length ds
length-replaced_from place part [] = refl
length-replaced_from place part (d ∷ ds) = ap suc (length-replaced_from (place +ℤ pos 1) part ds)

pub length-with_part : (low : ℤ) (part ds : List Digit) → length (with_part low part ds) ≡ length ds
length-with_part low part ds = length-replaced_from (neg_ℤ low) part ds

pub length-concatenation : (high low : List Digit) → length (concatenation high low) ≡ length high + length low
length-concatenation high low = omega (arith, length-append low high)

pub length-replication : (count : ℕ) (ds : List Digit) → length (replication count ds) ≡ count * length ds
length-replication zero ds = omega arith
length-replication (suc count) ds = omega (arith, length-append ds (replication count ds), length-replication count ds)

-- one bit where the operator gives one, else the operand's size
pub length-unary : (op : Unary) (ds : List Digit) → length (unary op ds) ≡ cond (gives_bit op) 1 (length ds)
length-unary u.Plus ds = length-unary_plus ds
length-unary u.Minus ds = length-negation false ds
length-unary u.Not ds = length-map ds not_digit
length-unary u.LogicalNot ds = refl
length-unary u.ReduceAnd ds = refl
length-unary u.ReduceNand ds = refl
length-unary u.ReduceOr ds = refl
length-unary u.ReduceNor ds = refl
length-unary u.ReduceXor ds = refl
length-unary u.ReduceXnor ds = refl

-- one bit where the operator gives one, else the left operand's size
pub length-binary : (op : Binary) (signed : Bool) (ds es : List Digit) → (is_even (sizing_of op) ≡ true → length ds ≡ length es) → length (binary op signed ds es) ≡ cond (is_one_bit (sizing_of op)) 1 (length ds)
length-binary b.Multiply signed ds es h = length-arithmetic (λ a c. a *ℤ c) signed ds es
length-binary b.Divide signed ds es h = length-division int_div signed ds es
length-binary b.Remainder signed ds es h = length-division int_rem signed ds es
length-binary b.Add signed ds es h = length-arithmetic (λ a c. a +ℤ c) signed ds es
length-binary b.Subtract signed ds es h = length-arithmetic (λ a c. a -ℤ c) signed ds es
length-binary b.ShiftLeft signed ds es h = length-left_shift ds es
length-binary b.ShiftRight signed ds es h = length-right_shift false ds es
length-binary b.SignedShiftLeft signed ds es h = length-left_shift ds es
length-binary b.SignedShiftRight signed ds es h = length-right_shift signed ds es
length-binary b.Less signed ds es h = refl
length-binary b.LessEqual signed ds es h = refl
length-binary b.Greater signed ds es h = refl
length-binary b.GreaterEqual signed ds es h = refl
length-binary b.Equal signed ds es h = refl
length-binary b.NotEqual signed ds es h = refl
length-binary b.CaseEqual signed ds es h = refl
length-binary b.CaseNotEqual signed ds es h = refl
length-binary b.And signed ds es h = length-digitwise and_digit ds es (h refl)
length-binary b.Xor signed ds es h = length-digitwise xor_digit ds es (h refl)
length-binary b.Xnor signed ds es h = length-digitwise xnor_digit ds es (h refl)
length-binary b.Or signed ds es h = length-digitwise or_digit ds es (h refl)
length-binary b.LogicalAnd signed ds es h = refl
length-binary b.LogicalOr signed ds es h = refl
