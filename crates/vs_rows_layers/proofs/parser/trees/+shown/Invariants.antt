use Rattle.std.proofs.Common.{◌+◌, ◌*◌}
use Rattle.vs_rows_layers.proofs.parser.trees.+shown.Given as goal

abbrev pub decreases-shown_within : goal.decreases-shown_within
decreases-shown_within l = 3 * l.depth

abbrev pub decreases-put_headed_within : goal.decreases-put_headed_within
decreases-put_headed_within l = 3 * l.depth + 1

abbrev pub decreases-between_within : goal.decreases-between_within
decreases-between_within l = 3 * l.depth + 1

abbrev pub decreases-list_within : goal.decreases-list_within
decreases-list_within l = 3 * l.depth + 2

abbrev pub decreases-selected_within : goal.decreases-selected_within
decreases-selected_within l = 3 * l.depth + 2
