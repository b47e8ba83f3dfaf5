-- The places of a target's digits: nothing that is promised rests on these.
use Rattle.std.specs.Prelude.{ℕ, ◌+◌, nat_lt, if◌then◌else◌}

-- the place above so many digits; from 64 on, where a vector has no digits, it stays there
abbrev pub after : ℕ → ℕ → ℕ
after place width = if nat_lt (place + width) 64 then place + width else 64
