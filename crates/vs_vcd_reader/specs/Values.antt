-- The values that a dump gives its variables at a time.
use Rattle.std.specs.Prelude.{ℕ, nat_le, if◌then◌else◌, List, [], ◌∷◌}
use Rattle.vs_design.specs.vs_logic4.specs.declared.digit.Digit.{Digit}
use Rattle.vs_vcd_reader.specs.Plain.{PlainMoment}
use Rattle.vs_vcd_reader.specs.Layout.{values_of, written}

-- the values written last at or before a time, where these were written last before the times
abbrev pub values_after : ℕ → List (List Digit) → List PlainMoment → List (List Digit)
values_after time values [] = values
values_after time values (m ∷ ms) = if nat_le m.time time then values_after time (written values m.changes) ms else values

-- the values of all variables at a time, in the order of their codes: those written last at or before it
abbrev pub values_at : ℕ → List PlainMoment → List (List Digit)
values_at time [] = []
values_at time (m ∷ ms) = if nat_le m.time time then values_after time (values_of m.changes) ms else []
