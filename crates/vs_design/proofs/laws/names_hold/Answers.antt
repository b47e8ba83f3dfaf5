use Rattle.vs_design.proofs.Kept.{put_keeps}
use Rattle.vs_design.proofs.laws.names_hold.Goals as goal

pub returns : goal.returns
returns c = put_keeps
