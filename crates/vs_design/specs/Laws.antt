-- What the signals of a write mean.
use Rattle.std.specs.Prelude.{ℕ, ◌≡◌, false, slice_get}
use Rattle.vs_design.specs.Stores.{Store, put}
use Rattle.vs_design.specs.Writes.{Write, names}

-- a write keeps each signal that it doesn't name
abbrev pub NamesHold : Type 0
NamesHold = (w : Write) (store : Store) (signal : ℕ) → names w signal ≡ false → slice_get (put store w) signal ≡ slice_get store signal
