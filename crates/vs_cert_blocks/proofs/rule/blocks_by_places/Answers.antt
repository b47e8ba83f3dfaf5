use Rattle.vs_cert_blocks.proofs.Points.{blocks_by_places}
use Rattle.vs_cert_blocks.proofs.rule.blocks_by_places.Goals as goal

pub returns : goal.returns
returns c = blocks_by_places
