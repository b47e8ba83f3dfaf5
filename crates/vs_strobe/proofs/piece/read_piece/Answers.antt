use Rattle.std.proofs.Common.{arith}
use Rattle.vs_strobe.proofs.PieceLemmas.{plain_byte, percent_read, rest_length}
use Rattle.vs_strobe.proofs.piece.read_piece.Goals as goal

pub returns-in-37 : goal.returns-in-37
returns-in-37 c = percent_read c.args.bytes.now c.read_directive.result c.in-37.len_at_least (omega arith) c.read_directive.ensures

pub returns-in-len1-up : goal.returns-in-len1-up
returns-in-len1-up c =
    let bytes = c.args.bytes.now in
    (plain_byte bytes c.in-len1-up.len_at_least (omega arith), omega (arith, rest_length bytes 1))
