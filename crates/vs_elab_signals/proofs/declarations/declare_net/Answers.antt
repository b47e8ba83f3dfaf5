use Rattle.std.proofs.Common.{false, None, refl}
use Rattle.vs_scopes.specs.Ranges.{sized_as}
use Rattle.vs_elab_signals.proofs.DeclareLemmas.{size_scalar, words_none}
use Rattle.vs_elab_signals.proofs.declarations.declare_net.Goals as goal

pub returns : goal.returns
returns c s i =
    c.declare_name.ensures s (sized_as s.known false 0 None) None i (size_scalar s.known _ refl refl refl) (words_none s.known _ _ refl refl)
