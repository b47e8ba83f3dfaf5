-- The names of signals, processes and continuous assignments of a module t.
use Rattle.std.specs.Prelude.{ℕ, [], ◌∷◌}
use Rattle.vs_rules.specs.Claims.{Name}

-- `t.a`, `t.b` and so on, by their last character
abbrev pub signal_in_t : ℕ → Name
signal_in_t letter = 116 ∷ 46 ∷ letter ∷ []

-- `t#p0`, `t#p1` and so on
abbrev pub process_in_t : ℕ → Name
process_in_t digit = 116 ∷ 35 ∷ 112 ∷ digit ∷ []

-- `t#a0` and so on
abbrev pub assign_in_t : ℕ → Name
assign_in_t digit = 116 ∷ 35 ∷ 97 ∷ digit ∷ []
