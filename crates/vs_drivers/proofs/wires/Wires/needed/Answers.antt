use Rattle.std.proofs.Common.{◌≡◌, ◌-◌, ◌≤◌, ◌↔◌, Some, List, length, get_or, slice_get, sym, ◌∙◌, ap, subst}
use Rattle.std.specs.List.{Contains}
use Rattle.std.proofs.lemmas.Option.{slice_get-get_or}
use Rattle.std.proofs.lemmas.Result.{IfOk-weaker}
use Rattle.vs_design.specs.declared.design.Assign.{Assign}
use Rattle.vs_design.specs.declared.range.BitRange.{BitRange}
use Rattle.vs_design.specs.Uses.{reads}
use Rattle.vs_rules.specs.Drivers.{block, DriverNeeds}
use Rattle.vs_drivers.specs.Wires.{Wiring, wiring, NeedsAt}
use Rattle.vs_drivers.proofs.WireLemmas.{assign_needs, block_needs_at}
use Rattle.vs_drivers.proofs.wires.Wires.needed.Goals as goal

pub returns-then-n-assigns : goal.returns-then-n-assigns
returns-then-n-assigns c =
    let n = c.args.n in
    let x = wiring c.self.inside.design.now c.self.inside.blocks.now in
    let a = get_or c.assigns-assigns.result.now n c.index-assigns-n.result in
    let is = subst (λ (l : List Assign). slice_get l n ≡ Some a) c.assigns-assigns.ensures
    (slice_get-get_or c.assigns-assigns.result.now n c.index-assigns-n.result c.if-n-assigns.true) in
    IfOk-weaker c.reads.result (λ rs. rs.items ≡ reads a.source) (λ rs. (r : BitRange) → (Contains rs.items r ↔ NeedsAt c.args.self.now n r))
    (λ rs all. subst (λ (y : Wiring). (r : BitRange) → (Contains rs.items r ↔ NeedsAt y n r)) c.self.view_is (assign_needs x n a rs.items is all)) c.reads.ensures

pub returns : goal.returns
returns c =
    let n = c.args.n in
    let x = c.args.self.now in
    let i = n - length c.assigns-assigns.result.now in
    let same = c.assigns-assigns.ensures ∙ ap (λ (y : Wiring). y.design.assigns) c.self.view_is in
    IfOk-weaker c.block_needs.result (λ rs. (r : BitRange) → (Contains rs.items r ↔ DriverNeeds x.design (block i) r)) (λ rs. (r : BitRange) → (Contains rs.items r ↔ NeedsAt x n r))
    (λ rs all. block_needs_at x n i rs.items (subst (λ (l : List Assign). length l ≤ n) same c.if-n-assigns.false) (ap (λ (l : List Assign). n - length l) same)
    (sym c.if-not-is_block.ensures) all) c.block_needs.ensures
