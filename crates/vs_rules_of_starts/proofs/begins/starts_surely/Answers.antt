use Rattle.std.proofs.Common.{ℕ, ◌<◌, ◌↔◌, false, IsTrue}
use Rattle.std.proofs.lemmas.Result.{IfOk-weaker}
use Rattle.vs_drivers.specs.vs_maps.specs.Reaches.{InSlot0}
use Rattle.vs_rules_of_starts.specs.Beginnings.{BeginsAt, StartsSurely, WritesAt}
use Rattle.vs_rules_of_starts.proofs.BeginningLemmas.{surely_is}
use Rattle.vs_rules_of_starts.proofs.MissingLemmas.{slot0_below}
use Rattle.vs_rules_of_starts.proofs.begins.starts_surely.Goals as goal

pub returns : goal.returns
returns c =
    let d = c.args.design.now in
    let named = c.args.named.now in
    let t = c.args.tables.now in
    IfOk-weaker c.all_keep.result (λ b. (IsTrue b ↔ ((p : ℕ) → p < c.places.result → InSlot0 false t p → WritesAt t c.args.g p → BeginsAt d named c.args.g t p)))
    (λ b. (IsTrue b ↔ StartsSurely d named c.args.g t))
    (surely_is d named c.args.g t (slot0_below t c.leads_in.ensures.start c.leads_in.ensures.ways) (c.in_ok-sure.ensures.0 c.if-not-sure.false) c.places.result c.places.ensures)
    c.all_keep.ensures
