use Rattle.std.proofs.Common.{◌≡◌, ℕ, ◌<◌, ◌↔◌, IsTrue, Some, slice_get}
use Rattle.std.proofs.lemmas.Result.{IfOk-weaker}
use Rattle.vs_drivers.specs.Places.{bit}
use Rattle.vs_drivers.proofs.Words.{there}
use Rattle.vs_cert_blocks.specs.Blocks.{IsSignalFirst}
use Rattle.vs_cert_blocks.specs.Walks.{IsWrittenFirst}
use Rattle.vs_cert_blocks.proofs.BlockLemmas.{signal_first_is}
use Rattle.vs_cert_blocks.proofs.blocks.signal_is_written.Goals as goal

pub returns-in-Some-clause-exact : goal.returns-in-Some-clause-exact
returns-in-Some-clause-exact c =
    let s = c.in-Some.s.now in
    let x = c.in-Some.ensures.lookup in
    let is : slice_get c.args.design.now.signals c.args.signal ≡ Some s =
    there c.args.design.now c.signals.result.now c.args.signal s c.signals.ensures x.0 x.1 in
    IfOk-weaker c.signal_is_written_first.result
    (λ b. (IsTrue b ↔ ((w n : ℕ) → w < s.count → n < s.width → IsWrittenFirst c.args.walks.now.tables.now (bit c.args.signal w n))))
    (λ b. (IsTrue b ↔ IsSignalFirst c.args.design.now c.args.walks.now.tables.now c.args.signal))
    (signal_first_is c.args.design.now c.args.walks.now.tables.now c.args.signal s is) c.signal_is_written_first.ensures.exact
