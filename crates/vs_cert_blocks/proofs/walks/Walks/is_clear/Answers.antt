use Rattle.std.proofs.Common.{refl, sym, ◌∙◌}
use Rattle.std.proofs.lemmas.Bool.{false≢true}
use Rattle.vs_cert_blocks.proofs.ClearLemmas.{clear_is, clear_not}
use Rattle.vs_cert_blocks.proofs.walks.Walks.is_clear.Goals as goal

pub returns-then-has_signal : goal.returns-then-has_signal
returns-then-has_signal c =
    clear_not c.args.self.now.tables.now c.args.signal c.args.place c.row.result.now (c.row.ensures ∙ c.args.self.now.reads_are c.args.place) (c.if-has_signal.ensures.0 refl)

pub returns : goal.returns
returns c =
    clear_is c.args.self.now.tables.now c.args.signal c.args.place c.row.result.now (c.row.ensures ∙ c.args.self.now.reads_are c.args.place)
    (λ h. false≢true (sym c.if-has_signal.false ∙ c.has_signal.ensures.1 h)) c.is_at_once.result c.is_at_once.ensures
