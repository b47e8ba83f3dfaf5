-- The codes of a design's processes, and runs of it.
use Rattle.std.proofs.Common.{◌≡◌, ℕ, ◌&&◌, true, Some, map, slice_get, subst, sym}
use Rattle.std.proofs.lemmas.Bool.{and_parts}
use Rattle.vs_design.specs.declared.design.Process.{Process}
use Rattle.vs_design.specs.declared.statement.Statement.{Statement}
use Rattle.vs_design.specs.Parts.{Parts}
use Rattle.vs_design.specs.WellFormed.{WellFormed, counts_from, is_body_of, is_sound_process, is_sound_statement, numbers}
use Rattle.vs_run_active.specs.vs_process.proofs.ProcessLists.{all_slice, map_cases}
use Rattle.vs_run_steps.specs.declared.run.RunState.{RunState}
use Rattle.vs_run_steps.specs.Runs.{IsRunOf}

-- the statements of a process's body are numbered
pub counted : (d : Parts) → WellFormed d → (i : ℕ) (body : Statement) → slice_get (map (λ (p : Process). p.body) d.processes) i ≡ Some body → counts_from 0 (numbers body) ≡ true
counted d formed i body is =
    let x = map_cases (λ (p : Process). p.body) d.processes i body is in
    let sound : is_sound_process d.signals x.0 ≡ true = all_slice (λ (p : Process). is_sound_process d.signals p ≡ true) d.processes i x.0 x.1 formed.processes in
    let parts = and_parts (is_sound_statement d.signals x.0.body && counts_from 0 (numbers x.0.body)) (is_body_of x.0.kind x.0.body) sound in
    subst (λ (s : Statement). counts_from 0 (numbers s) ≡ true) x.2 (and_parts (is_sound_statement d.signals x.0.body) (counts_from 0 (numbers x.0.body)) parts.0).1

-- the same run is one of the same design
pub same_run : {Q : Type 0} (d : Parts) (r t : RunState Q) → t ≡ r → IsRunOf d r → IsRunOf d t
same_run {Q} d r t same h = subst (λ (x : RunState Q). IsRunOf d x) (sym same) h
