use Rattle.std.proofs.Common.{arith}
use Rattle.vs_strobe.proofs.ValueLemmas.{known_below}
use Rattle.vs_strobe.proofs.digits.group_character.Goals as goal

pub overflow_cast-number : goal.overflow_cast-number
overflow_cast-number c = omega (arith, known_below c.args.group c.in-Some.number c.requires c.in-Some.ensures)

pub hex_character-requires : goal.hex_character-requires
hex_character-requires c = known_below c.args.group c.in-Some.number c.requires c.in-Some.ensures
