use Rattle.vs_propose.proofs.Made.{sound_nothing}
use Rattle.vs_propose.proofs.search.no_claims.Goals as goal

pub returns-clause-sound : goal.returns-clause-sound
returns-clause-sound c =
    sound_nothing c.args.rules c.args.grain c.new.result c.new-2.result c.new-3.result c.new-4.result c.new.ensures.items c.new-2.ensures.items c.new-3.ensures.items c.new-4.ensures.items
