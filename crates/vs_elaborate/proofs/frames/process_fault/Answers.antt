use Rattle.vs_elab_statements.specs.vs_scopes.specs.declared.faults.Reason.TheVariants.{Limit}
use Rattle.vs_elab_statements.specs.vs_scopes.proofs.AnswerLemmas.{told_at}
use Rattle.vs_elab_statements.specs.Processes.{HasBehaviorFault}
use Rattle.vs_elaborate.proofs.frames.process_fault.Goals as goal

pub returns-in-Overfull : goal.returns-in-Overfull
returns-in-Overfull c envs s b f = rw c.in-Overfull.is (λ h. told_at (λ r at. HasBehaviorFault envs r at s.path b) Limit s.path c.fault_at.result h (rw (c.deref.ensures.value, f.path) at c.fault_at.ensures))

pub returns-in-Refused : goal.returns-in-Refused
returns-in-Refused c envs s b f =
    rw c.in-Refused.is (λ h. told_at (λ r at. HasBehaviorFault envs r at s.path b) c.in-Refused.reason s.path c.fault_at-in-Refused.result h (rw (c.deref-in-Refused.ensures.value, f.path) at c.fault_at-in-Refused.ensures))

pub returns-in-Inside : goal.returns-in-Inside
returns-in-Inside c envs s b f =
    rw c.in-Inside.is (λ h. told_at (λ r at. HasBehaviorFault envs r at s.path b) c.in-Inside.reason h.0 c.place_fault.result h.1.1 (c.place_fault.ensures envs h.0 h.1.0))

pub place_fault-requires : goal.place_fault-requires
place_fault-requires c = let k = rw c.in-Inside.is at c.requires.below in record { within = k; seated = c.requires.placed.seated; blocks = c.requires.placed.blocks }
