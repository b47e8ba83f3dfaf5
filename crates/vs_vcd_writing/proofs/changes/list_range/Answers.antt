use Rattle.vs_vcd_writing.proofs.RoomLemmas.{OnOk-from}
use Rattle.vs_vcd_writing.proofs.changes.list_range.Goals as goal

pub returns-clause-changes : goal.returns-clause-changes
returns-clause-changes c =
    OnOk-from _ _ c.list_compared.result (λ listed start by later so_far. listed start by c.args.store.now c.compare.ensures.compared later so_far) c.list_compared.ensures
