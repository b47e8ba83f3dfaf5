use Rattle.vs_process.proofs.Permitted.{allowed_is_permitted, permitted_is_allowed}
use Rattle.vs_process.proofs.process_laws.moves_are_permitted.Goals as goal

pub returns : goal.returns
returns c = record { allowed_is_permitted = allowed_is_permitted; permitted_is_allowed = permitted_is_allowed }
