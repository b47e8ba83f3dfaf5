-- What a run of a source wrote reads back.
use Rattle.std.specs.Prelude.{ℕ, ◌≡◌, ◌<◌, ◌^◌, Bool, true, false, Option, List, []}
use Rattle.vs_design.specs.Parts.{Parts}
use Rattle.vs_run_regions.specs.vs_process.specs.Executions.{slots}
use Rattle.vs_vcd_reader.specs.vs_kernel.specs.declared.outcome.Outcome.{Outcome}
use Rattle.vs_vcd_reader.specs.vs_kernel.specs.declared.outcome.Outcome.TheVariants.{StepLimit}
use Rattle.vs_vcd_reader.specs.ReadBack.{ReadsBack}
use Rattle.vs_simulate.specs.Honesty.{IsRun}

-- whether a run went to its end: all steps weren't taken before
abbrev pub is_whole : Outcome → Bool
is_whole (StepLimit time) = false
is_whole _ = true

-- the value change dump of a run reads back to what the run shows: where the run went to its end, and else once a slot has ended (clause 18.2)
pub record IsReadBack (bytes top : List ℕ) (until steps : ℕ) (outcome : Outcome) (old new lines_old lines_new : Option (List ℕ)) : Type 0 where
  pub run : IsRun bytes top until steps outcome old new lines_old lines_new
  pub whole : is_whole outcome ≡ true → ReadsBack run.design run.ran.moves until
  pub begun : (slots run.design run.ran.moves ≡ [] → ⊥) → ReadsBack run.design run.ran.moves until

-- the dump of each run of a source that defines this design reads back
abbrev pub RunsReadBack : Parts → Type 0
RunsReadBack d =
    (bytes top : List ℕ) (until steps : ℕ) (outcome : Outcome) (old new lines_old lines_new : Option (List ℕ)) → until < 2 ^ 62 →
    (h : IsRun bytes top until steps outcome old new lines_old lines_new) → h.design ≡ d →
    IsReadBack bytes top until steps outcome old new lines_old lines_new
