use Rattle.std.proofs.Common.{◌+◌, ◌*◌, length}
use Rattle.vs_preprocess.proofs.run.Run.+files.Given as goal

abbrev pub decreases-read_file-loop-rest : goal.decreases-read_file-loop-rest
decreases-read_file-loop-rest g l = length l.rest

abbrev pub decreases-include : goal.decreases-include
decreases-include g l = 2 * l.levels

abbrev pub decreases-read_file : goal.decreases-read_file
decreases-read_file g l = 2 * l.levels + 1
