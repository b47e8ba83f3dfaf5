use Rattle.std.proofs.Common.{map, refl, ap, ◌∙◌}
use Rattle.vs_elab_signals.specs.vs_scopes.specs.Reads.{read_piece}
use Rattle.vs_scopes.specs.Nets.{first_net}
use Rattle.vs_elab_signals.proofs.NetLemmas.{are_members}
use Rattle.vs_elab_signals.proofs.members.gathered.Goals as goal

pub returns : goal.returns
returns c ss s bs a h =
    are_members c.args.nets bs s.sight (map read_piece c.args.pieces.items) _ c.args.text refl h (c.in_ok-pieces.ensures ss s a)
    (λ n. c.in_ok-told.ensures n ∙ ap (λ z. first_net (map read_piece z) n) c.deref.ensures.value)
