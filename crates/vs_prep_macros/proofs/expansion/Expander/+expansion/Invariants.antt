use Rattle.std.proofs.Common.{◌+◌, ◌*◌, length}
use Rattle.vs_prep_macros.proofs.expansion.Expander.+expansion.Given as goal

abbrev pub decreases-expand-loop-rest : goal.decreases-expand-loop-rest
decreases-expand-loop-rest l = length l.rest

abbrev pub decreases-expand : goal.decreases-expand
decreases-expand l = 5 * l.levels

abbrev pub decreases-expand_all : goal.decreases-expand_all
decreases-expand_all l = 5 * l.levels + 1

abbrev pub decreases-expand_body : goal.decreases-expand_body
decreases-expand_body l = 5 * l.levels + 1

abbrev pub decreases-expand_macro : goal.decreases-expand_macro
decreases-expand_macro l = 5 * l.levels + 2

abbrev pub decreases-expand_bound : goal.decreases-expand_bound
decreases-expand_bound l = 5 * l.levels + 4

abbrev pub decreases-expand_meaning : goal.decreases-expand_meaning
decreases-expand_meaning l = 5 * l.levels + 3
