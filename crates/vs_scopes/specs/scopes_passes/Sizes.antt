-- What the functions on the sizes of declarations answer.
use Rattle.std.specs.Prelude.{◌≡◌, ℕ, ◌+◌, ◌<◌, Bool, false, Some}
use Rattle.vs_syntax.specs.declared.tree.Range.{Range}
use Rattle.vs_design.specs.declared.signal.Bounds.{Bounds}
use Rattle.vs_widths.specs.Environment.{Environment}
use Rattle.vs_widths.specs.declared.faults.WidthReason.{WidthReason}
use Rattle.vs_scopes.specs.declared.faults.Reason.{Reason}
use Rattle.vs_scopes.specs.declared.faults.Reason.TheVariants.{Width}
use Rattle.vs_scopes.specs.declared.sizes.Size.{Size}
use Rattle.vs_scopes.specs.declared.words.WordCount.{WordCount}
use Rattle.vs_scopes.specs.Ranges.{range_bounds, distance, Sized, Words, word_count}

-- faults of sizes among all
abbrev pub width_faults : (WidthReason → Bool) → Reason → Bool
width_faults faults (Width w) = faults w
width_faults faults _ = false

-- the bounds of a range of bits, and its size
pub record IsRange (env : Environment) (r : Range) (p : Bounds × ℕ) : Type 0 where
  pub found : range_bounds env (Some r) ≡ Some p.0
  pub narrow : distance p.0 < 64
  pub size : p.1 ≡ distance p.0 + 1

-- a size that a declaration says of its names
pub record IsSize (z : Sized) (s : Size) : Type 0 where
  pub shape : s.shape ≡ z.shape
  pub bounds : s.bounds ≡ z.bounds

-- what a declaration says of the words of a name
pub record AreWords (z : Words) (w : WordCount) : Type 0 where
  pub bounds : w.bounds ≡ z.bounds
  pub count : w.count ≡ word_count z.bounds
