-- How a run ends in a state in which its execution is complete.
use Rattle.std.specs.Prelude.{ℕ, ◌&&◌, if◌then◌else◌}
use Rattle.vs_run_regions.specs.vs_process.specs.States.{State}
use Rattle.vs_kernel.specs.declared.outcome.Outcome.{Outcome}
use Rattle.vs_kernel.specs.declared.outcome.Outcome.TheVariants.{Reached, Quiet, Finished}

-- the outcome: over by `$finish`, over, or past the moment
abbrev pub outcome_in : State → Outcome
outcome_in s = if s.over then (if s.finishing then Finished s.time else Quiet) else Reached

-- the moment at which the value change dump ends: that of a `$finish` that took effect, else the one asked for (clause 18.2.1, and profile)
abbrev pub end_in : ℕ → State → ℕ
end_in until s = if s.over && s.finishing then s.time else until
