-- Sizes, signs and ranges of declarations.
use Rattle.std.specs.Prelude.{ℕ, suc, ℤ, ◌-ℤ◌, unsigned_abs, Bool, false, ◌&&◌, ◌||◌, not, nat_lt, min, [], Option, Some, None, is_none}
use Rattle.std.proofs.Common.{lit<}
use Rattle.std.proofs.Math.Nat.{zero-lt-suc, lt_of_le_of_lt, min-le_right}
use Rattle.vs_syntax.specs.declared.tree.Expr.{Expr}
use Rattle.vs_syntax.specs.declared.tree.Range.{Range}
use Rattle.vs_design.specs.declared.signal.Bounds.{Bounds}
use Rattle.vs_design.specs.declared.signal.SignalKind.{SignalKind}
use Rattle.vs_design.specs.Kinds.{is_variable}
use Rattle.vs_widths.specs.declared.shape.Shape.{Shape}
use Rattle.vs_widths.specs.declared.faults.WidthReason.{WidthReason}
use Rattle.vs_widths.specs.declared.faults.WidthReason.TheVariants.{WrongKind}
use Rattle.vs_widths.specs.Environment.{Environment}
use Rattle.vs_widths.specs.Findings.{Finding, Has, Lacks, not_constant, too_wide}
use Rattle.vs_widths.specs.Meants.{own}
use Rattle.vs_widths.specs.Constants.{constant_finding, whole_at}
use Rattle.vs_scopes.specs.vs_widths.specs.Expressions.{meant}
use Rattle.vs_scopes.specs.declared.faults.Reason.{Reason}
use Rattle.vs_scopes.specs.declared.faults.Reason.TheVariants.{Limit, Width}

-- ---- bounds

-- the number of a bound, where it is a constant with one (clause 4.3.1)
abbrev pub bound_of : Environment → Expr → Option ℤ
bound_of env e = whole_at (constant_finding (meant env e)) (own (meant env e) [] 0)

-- a fault of a constant that is to have a number: one of its expression, or it has none
abbrev pub number_fault : WidthReason → Finding → Option ℤ → Bool
number_fault w (Has width signed) number = not_constant w && is_none number
number_fault w (Lacks faults) number = faults w

-- a fault of a bound (clause 4.3.1)
abbrev pub bound_fault : WidthReason → Environment → Expr → Bool
bound_fault w env e = number_fault w (constant_finding (meant env e)) (bound_of env e)

-- ---- ranges

-- bounds, where both have a number
abbrev pub both_bounds : Option ℤ → Option ℤ → Option Bounds
both_bounds (Some left) (Some right) = Some (record { left = left; right = right })
both_bounds _ _ = None

-- the bounds of a range, where there is one and both have a number (clause 4.3.1)
abbrev pub range_bounds : Environment → Option Range → Option Bounds
range_bounds env None = None
range_bounds env (Some r) = both_bounds (bound_of env r.left) (bound_of env r.right)

-- how far two bounds lie apart, whichever is the larger (clause 4.3.1)
abbrev pub distance : Bounds → ℕ
distance b = unsigned_abs (b.left -ℤ b.right)

-- whether the bounds of a range lie further apart than this
abbrev pub is_over : ℕ → Option Bounds → Bool
is_over n None = false
is_over n (Some b) = nat_lt n (distance b)

-- a fault of a bound of a range (clause 4.3.1)
abbrev pub bounds_fault : WidthReason → Environment → Range → Bool
bounds_fault w env r = bound_fault w env r.left || bound_fault w env r.right

-- a fault of a range of bits: one of a bound, or more than 64 bits (profile)
abbrev pub range_fault : WidthReason → Environment → Option Range → Bool
range_fault w env None = false
range_fault w env (Some r) = bounds_fault w env r || (too_wide w && is_over 63 (range_bounds env (Some r)))

-- ---- sizes

-- a sign, and the size of one bit more than this number, but at most 64 (profile)
abbrev pub shape_with : ℕ → Bool → Shape
shape_with n signed = record { width = suc (min n 63); signed = signed; sized = (zero-lt-suc (min n 63), lt_of_le_of_lt (min-le_right n 63) (lit< tt)) }

-- how far the bounds of a range lie apart; a number in its place where there is no range
abbrev pub distance_or : ℕ → Option Bounds → ℕ
distance_or n None = n
distance_or n (Some b) = distance b

-- the size and sign of the names of a declaration, the bounds of its range, and the faults of that
pub record Sized : Type 0 where
  pub shape : Shape
  pub bounds : Option Bounds
  pub faults : WidthReason → Bool

-- what a declaration says of its names by its sign and its range; without a range they have one bit more than this number (clauses 4.3 and 4.8)
abbrev pub sized_as : Environment → Bool → ℕ → Option Range → Sized
sized_as env signed n range = record {
  shape = shape_with (distance_or n (range_bounds env range)) signed;
  bounds = range_bounds env range;
  faults = λ w. range_fault w env range;
}

-- ---- words

-- how many words a range of them has, at most 65,536 (profile); one where there is none (clause 4.9)
abbrev pub word_count : Option Bounds → ℕ
word_count b = suc (min (distance_or 0 b) 65535)

-- the bounds of the range of a name's words, where it is an array, and the faults of that
pub record Words : Type 0 where
  pub bounds : Option Bounds
  pub faults : Reason → Bool

-- the fault that a net is an array (profile)
abbrev pub is_array_of_nets : WidthReason → SignalKind → Bool
is_array_of_nets WrongKind kind = not (is_variable kind)
is_array_of_nets w kind = false

-- a fault of the range of an array's words: one of a bound, an array of nets, or more than 65,536 words (clause 4.9; nets and the bound: profile)
abbrev pub words_fault : Reason → Environment → SignalKind → Option Range → Bool
words_fault (Width w) env kind (Some r) = bounds_fault w env r || is_array_of_nets w kind
words_fault Limit env kind (Some r) = is_over 65535 (range_bounds env (Some r))
words_fault _ env kind range = false

-- what a declaration says of the words of a name of this kind by the range behind it (clause 4.9)
abbrev pub words_as : Environment → SignalKind → Option Range → Words
words_as env kind range = record { bounds = range_bounds env range; faults = λ r. words_fault r env kind range }
