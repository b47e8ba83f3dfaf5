-- Ranges of signals, one after another, with short bounds.
use Rattle.std.proofs.Common.{◌<◌, ◌^◌, ℤ, pos, negsuc, List, [], ◌∷◌, ◌++◌}
use Rattle.std.specs.Int.Signed.{mag}
use Rattle.std.specs.List.{AllByRecursion}
use Rattle.vs_design.specs.declared.signal.Signal.{Signal}
use Rattle.vs_vcd_lines.specs.Lines.{IsRange}
use Rattle.vs_vcd_lines.specs.Names.{IsShort}
use Rattle.vs_vcd_lines.specs.Names.IsShort.{short, negative}

pub short_number : (n : ℤ) → mag n < 2 ^ 63 → IsShort n
short_number (pos n) h = short n h
short_number (negsuc n) h = negative n h

abbrev pub AreShort : List Signal → Type 0
AreShort xs = AllByRecursion (λ (s : Signal). IsRange s.range) xs

pub short_more : (xs : List Signal) (x : Signal) → AreShort xs → IsRange x.range → AreShort (xs ++ x ∷ [])
short_more [] x h k = (k, tt)
short_more (y ∷ ys) x h k = (h.0, short_more ys x h.1 k)
