-- Failed writes to two sinks.
use Rattle.std.specs.Prelude.{ℕ, ◌≡◌, ◌⊎◌, Bool, true, false}
use Rattle.vs_vcd_writing.specs.Sinks.{one_more}

-- the counts of failed writes of two sinks behind a call that failed because a sink did, or didn't: one of them rose by one, or none
abbrev pub OneFailed : Bool → ℕ → ℕ → ℕ → ℕ → Type 0
OneFailed true old new lines_old lines_new = ((new ≡ one_more old) × (lines_new ≡ lines_old)) ⊎ ((new ≡ old) × (lines_new ≡ one_more lines_old))
OneFailed false old new lines_old lines_new = (new ≡ old) × (lines_new ≡ lines_old)
