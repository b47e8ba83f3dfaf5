-- Faults of a run.
use Rattle.std.specs.Prelude.{◌≡◌, ◌⊎◌, Bool, true, false, Result, Ok, Err}
pub use Rattle.vs_kernel.specs.vs_run_steps.specs.Failures.{OneFailed}
use Rattle.vs_kernel.specs.declared.kernel.Status.{Status}
use Rattle.vs_kernel.specs.declared.kernel.Status.TheVariants as statuses
use Rattle.vs_kernel.specs.declared.outcome.RunFault.{RunFault}
use Rattle.vs_kernel.specs.declared.outcome.RunFault.TheVariants.{Memory, Write, Failed, Done}

-- whether a run failed because the sink did
abbrev pub is_write : {A : Type 0} → Result A RunFault → Bool
is_write (Ok x) = false
is_write (Err Memory) = false
is_write (Err Write) = true
is_write (Err Failed) = false
is_write (Err Done) = false

-- the faults that a call answers, by how far the kernel had come
abbrev pub FaultAt : Status → RunFault → Type 0
FaultAt statuses.Ready fault = (fault ≡ Memory) ⊎ (fault ≡ Write)
FaultAt statuses.Done fault = fault ≡ Done
FaultAt statuses.Failed fault = fault ≡ Failed

-- how far a kernel has come behind a fault
abbrev pub after_fault : Status → Status
after_fault statuses.Ready = statuses.Failed
after_fault statuses.Done = statuses.Done
after_fault statuses.Failed = statuses.Failed
