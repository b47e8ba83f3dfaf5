-- What a write keeps.
use Rattle.std.proofs.Common.{◌≡◌, ℕ, ◌==◌, ◌||◌, Bool, true, false, [], ◌∷◌, slice_get, refl, ◌∙◌}
use Rattle.vs_design.specs.Stores.{Store, put_part, put}
use Rattle.vs_design.specs.Writes.{Write, names}
use Rattle.vs_design.proofs.Stores.{part_keeps}
use Rattle.vs_logic4.proofs.Basics.{left_false as neither_left, right_false as neither_right}

-- a write keeps each signal that it doesn't name
pub put_keeps : (w : Write) (store : Store) (signal : ℕ) → names w signal ≡ false → slice_get (put store w) signal ≡ slice_get store signal
put_keeps [] store signal h = refl
put_keeps (p ∷ ps) store signal h =
    put_keeps ps (put_part store p) signal (neither_right (p.signal == signal) (names ps signal) h)
    ∙ part_keeps p store signal (neither_left (p.signal == signal) (names ps signal) h)
