use Rattle.std.proofs.Common.{ap}
use Rattle.vs_scopes.specs.declared.scope.ScopePiece.{ScopePiece as FoundPiece}
use Rattle.vs_scopes.specs.Reads.{read_piece}
use Rattle.vs_scopes.specs.Ports.{port_names_in}
use Rattle.vs_scopes.specs.scopes_passes.Answers.{borrowed}
use Rattle.vs_elab_signals.proofs.CountingLemmas.{leaves_nothing}
use Rattle.vs_elab_signals.proofs.again.add_piece_left.Goals as goal

pub returns-in-Loop : goal.returns-in-Loop
returns-in-Loop c ns h = leaves_nothing ns _ (borrowed c.args.again.now.items) c.args.counts.now (ap (λ (z : FoundPiece). port_names_in (read_piece z)) c.in-Loop.is) h

pub returns-in-Choice : goal.returns-in-Choice
returns-in-Choice c ns h = leaves_nothing ns _ (borrowed c.args.again.now.items) c.args.counts.now (ap (λ (z : FoundPiece). port_names_in (read_piece z)) c.in-Choice.is) h

pub returns-in-Local : goal.returns-in-Local
returns-in-Local c ns h = leaves_nothing ns _ (borrowed c.args.again.now.items) c.args.counts.now (ap (λ (z : FoundPiece). port_names_in (read_piece z)) c.in-Local.is) h

pub returns-in-Inside : goal.returns-in-Inside
returns-in-Inside c ns h = leaves_nothing ns _ (borrowed c.args.again.now.items) c.args.counts.now (ap (λ (z : FoundPiece). port_names_in (read_piece z)) c.in-Inside.is) h

pub returns-in-Net : goal.returns-in-Net
returns-in-Net c ns h = leaves_nothing ns _ (borrowed c.args.again.now.items) c.args.counts.now (ap (λ (z : FoundPiece). port_names_in (read_piece z)) c.in-Net.is) h
