use Rattle.vs_laws.proofs.Mixer.{mixer_keeps_the_rules}
use Rattle.vs_laws.proofs.ruled.a_mixer_keeps_the_rules.Goals as goal

pub returns : goal.returns
returns c = mixer_keeps_the_rules
