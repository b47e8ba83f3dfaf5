use Rattle.std.proofs.Common.{◌≡◌, ◌≤◌, ◌+◌, ◌-◌, ◌++◌, length, map, take, Err}
use Rattle.vs_prep_macros.specs.Parts.{parts_of}
use Rattle.vs_prep_macros.specs.declared.fault.Fault.TheVariants as d
use Rattle.vs_prep_macros.specs.declared.fault.Halt.TheVariants as h
use Rattle.vs_prep_macros.specs.Actuals.{read_piece, actuals_in}
use Rattle.vs_prep_macros.specs.Folds.{over}
use Rattle.vs_prep_macros.proofs.actuals.read_inside.Given as goal

abbrev pub invariant-loop-piece : goal.invariant-loop-piece
invariant-loop-piece l =
    (over read_piece (λ s. Err (h.Here d.OpenActuals)) (record { depth = l.depth; text = take (length l.from - length l.rest) l.from; before = map (λ a. a.now) l.actuals.items }) (parts_of l.rest) ≡ actuals_in l.inside)
    × (l.from ≡ take (length l.from - length l.rest) l.from ++ l.rest) × (length l.rest ≤ length l.from) × (length l.from ≤ length l.inside) × (l.depth + length l.rest ≤ length l.inside)

abbrev pub decreases-loop-piece : goal.decreases-loop-piece
decreases-loop-piece l = length l.rest
