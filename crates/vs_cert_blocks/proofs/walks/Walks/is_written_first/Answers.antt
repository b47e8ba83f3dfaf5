use Rattle.std.proofs.Common.{◌↔◌, IsTrue, refl, sym}
use Rattle.std.proofs.lemmas.Result.{IfOk-weaker}
use Rattle.vs_cert_blocks.specs.Starts.{IsClearFrom}
use Rattle.vs_cert_blocks.specs.Walks.{bit_view, IsWrittenFirst}
use Rattle.vs_cert_blocks.proofs.EarlyLemmas.{early_has, early_of}
use Rattle.vs_cert_blocks.proofs.Open.{woken_in}
use Rattle.vs_cert_blocks.proofs.StartLemmas.{clear_from_is}
use Rattle.vs_cert_blocks.proofs.walks.Walks.is_written_first.Goals as goal

pub returns-then-any_has-clause-exact : goal.returns-then-any_has-clause-exact
returns-then-any_has-clause-exact c =
    let t = c.args.self.now.tables.now in
    let some = c.of_signal.result.now in
    let are = early_of t c.args.self.now.early.now some c.args.bit.signal c.args.self.now.early_are c.of_signal.ensures in
    (λ h. early_has t some are (bit_view c.args.bit) (sym c.if-any_has.ensures), λ f. refl)

pub is_clear_from-requires-clause-seeds : goal.is_clear_from-requires-clause-seeds
is_clear_from-requires-clause-seeds c = woken_in c.args.self.now.tables.now c.args.self.now.seeds.now c.args.self.now.within c.requires.woken

pub returns-clause-exact : goal.returns-clause-exact
returns-clause-exact c =
    let t = c.args.self.now.tables.now in
    let b = bit_view c.args.bit in
    let one = clear_from_is t b c.args.self.now.seeds.now c.requires.woken in
    IfOk-weaker c.is_clear_from.result (λ x. (IsTrue x ↔ IsClearFrom t b c.args.self.now.seeds.now)) (λ x. (IsTrue x ↔ IsWrittenFirst t b))
    (λ x h. (λ y. one.0 (h.0 y), λ f. h.1 (one.1 f))) c.is_clear_from.ensures.exact
