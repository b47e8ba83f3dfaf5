use Rattle.std.proofs.Common.{◌≡◌, [], rules}
use Rattle.vs_scopes.specs.Pieces.{plain}
use Rattle.vs_scopes.specs.Ports.{port_names_in}
use Rattle.vs_scopes.specs.scopes_passes.Answers.{borrowed}
use Rattle.vs_elab_signals.proofs.CountingLemmas.{leaves_nothing}
use Rattle.vs_elab_signals.proofs.again.add_item_left.Goals as goal

pub returns-in-Port : goal.returns-in-Port
returns-in-Port c ns h = rw (c.in-Port.is, ← c.deref.ensures.value) (c.add_left.ensures ns h)

pub returns-in_default : goal.returns-in_default
returns-in_default c ns h =
    let none : port_names_in (plain c.args.item.now) ≡ [] = search rules in
    leaves_nothing ns _ (borrowed c.args.again.now.items) c.args.counts.now none h
