use Rattle.std.proofs.Common.{◌↔◌, IsTrue, [], ◌∷◌, refl, sym}
use Rattle.std.proofs.lemmas.Result.{IfOk-weaker}
use Rattle.vs_cert_blocks.specs.Starts.{IsClearFrom}
use Rattle.vs_cert_blocks.specs.Walks.{bit_view, IsWrittenFirst}
use Rattle.vs_cert_blocks.proofs.walks.Walks.is_assigned_first.Goals as goal

pub returns-else-start-places-clause-told : goal.returns-else-start-places-clause-told
returns-else-start-places-clause-told c =
    let t = c.args.self.now.tables.now in
    let b = bit_view c.args.bit in
    let start = c.in-Some.start.now in
    IfOk-weaker c.is_clear_from.result (λ x. (IsTrue x ↔ IsClearFrom t b (start ∷ []))) (λ x. IsTrue x → IsWrittenFirst t b)
    (λ x h y. c.args.self.now.starts_are c.args.bit.signal start (sym c.in-Some.ensures.value) b refl (h.0 y)) c.is_clear_from.ensures.exact
