use Rattle.vs_logic4.proofs.Numbers.{of_number-number, is_known-of_number, number-of_number}
use Rattle.vs_logic4.proofs.Properties.{of_integer-integer}
use Rattle.vs_logic4.proofs.laws.known_vector_is_its_number.Goals as goal

pub returns : goal.returns
returns c = record {
  unsigned = of_number-number;
  signed = of_integer-integer;
  known = is_known-of_number;
  number = number-of_number;
}
