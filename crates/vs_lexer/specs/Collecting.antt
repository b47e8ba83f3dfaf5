-- What has been collected of a vector's digits.
use Rattle.std.specs.Prelude.{◌≡◌, List, length, take, min}
use Rattle.vs_logic4.specs.declared.digit.Digit.{Digit}
use Rattle.vs_logic4.specs.declared.digit.Digit.TheVariants.{Zero}
use Rattle.vs_lexer.specs.declared.collector.Collector.{Collector}
use Rattle.vs_lexer.specs.Numbers.{fits_from, highest}

-- the first 64 of these digits, the last of them, and whether they need no more than 32
pub record Collects (c : Collector) (ds : List Digit) : Type 0 where
  pub count : c.count ≡ min 64 (length ds)
  pub digits : take c.count c.digits ≡ take 64 ds
  pub room : length c.digits ≡ 64
  pub last : c.last ≡ highest Zero ds
  pub fits : c.fits ≡ fits_from 32 0 Zero ds
