use Rattle.std.proofs.Common.{◌≡◌, drop, map}
use Rattle.vs_vcd_reader.specs.Values.{values_after}
use Rattle.vs_vcd_reader.specs.Plain.{plain_moment}
use Rattle.vs_sign_off.proofs.values.put_later.Given as goal

abbrev pub invariant-loop-moment : goal.invariant-loop-moment
invariant-loop-moment l =
    values_after l.time l.values.items (map plain_moment (drop l.moment-index l.later)) ≡ values_after l.time l.fn.values.items (map plain_moment l.later)
