use Rattle.std.proofs.Common.{◌≡◌, ◌-◌, ◌≤◌, ◌↔◌, false, Some, List, length, get_or, slice_get, sym, ◌∙◌, ap, subst, arith}
use Rattle.std.specs.List.{Contains}
use Rattle.std.proofs.lemmas.Option.{slice_get-get_or}
use Rattle.std.proofs.lemmas.Result.{IfOk-weaker}
use Rattle.vs_design.specs.declared.design.Assign.{Assign}
use Rattle.vs_design.specs.declared.design.Process.{Process}
use Rattle.vs_design.specs.declared.range.BitRange.{BitRange}
use Rattle.vs_design.specs.Uses.{writes}
use Rattle.vs_process.specs.Writes.{statement_writes}
use Rattle.vs_drivers.specs.Wires.{Wiring, wiring, WritesAt}
use Rattle.vs_drivers.proofs.WireLemmas.{assign_writes, block_writes, none_writes}
use Rattle.vs_drivers.proofs.wires.Wires.written.Goals as goal

pub returns-then-n-assigns : goal.returns-then-n-assigns
returns-then-n-assigns c =
    let n = c.args.n in
    let x = wiring c.self.inside.design.now c.self.inside.blocks.now in
    let a = get_or c.assigns-assigns.result.now n c.index-assigns-n.result in
    let is = subst (λ (l : List Assign). slice_get l n ≡ Some a) c.assigns-assigns.ensures
    (slice_get-get_or c.assigns-assigns.result.now n c.index-assigns-n.result c.if-n-assigns.true) in
    IfOk-weaker c.writes.result (λ rs. rs.items ≡ writes a.target) (λ rs. (r : BitRange) → (Contains rs.items r ↔ WritesAt c.args.self.now n r))
    (λ rs all. subst (λ (y : Wiring). (r : BitRange) → (Contains rs.items r ↔ WritesAt y n r)) c.self.view_is (assign_writes x n a rs.items is all)) c.writes.ensures

pub returns-then-i-processes : goal.returns-then-i-processes
returns-then-i-processes c =
    let n = c.args.n in
    let x = wiring c.self.inside.design.now c.self.inside.blocks.now in
    let i = n - length c.assigns-assigns.result.now in
    let le = subst (λ (l : List Assign). length l ≤ n) c.assigns-assigns.ensures c.if-n-assigns.false in
    let past = subst (λ (l : List Process). length l ≤ i) c.processes-processes.ensures c.if-i-processes.true in
    subst (λ (y : Wiring). (r : BitRange) → (Contains c.new.result.items r ↔ WritesAt y n r)) c.self.view_is
    (none_writes x n i c.new.result.items le (ap (λ (l : List Assign). n - length l) c.assigns-assigns.ensures) (λ marked within. omega (arith, past, within)) c.new.ensures.items)

pub returns : goal.returns
returns c =
    let n = c.args.n in
    let x = wiring c.self.inside.design.now c.self.inside.blocks.now in
    let i = n - length c.assigns-assigns.result.now in
    let q = get_or c.processes-processes.result.now i c.index-processes-i.result in
    let le = subst (λ (l : List Assign). length l ≤ n) c.assigns-assigns.ensures c.if-n-assigns.false in
    let is = subst (λ (l : List Process). slice_get l i ≡ Some q) c.processes-processes.ensures
    (slice_get-get_or c.processes-processes.result.now i c.index-processes-i.result c.if-i-processes.false) in
    IfOk-weaker c.statement_writes.result (λ rs. rs.items ≡ statement_writes q.body) (λ rs. (r : BitRange) → (Contains rs.items r ↔ WritesAt c.args.self.now n r))
    (λ rs all. subst (λ (y : Wiring). (r : BitRange) → (Contains rs.items r ↔ WritesAt y n r)) c.self.view_is
    (block_writes x n i q rs.items le (ap (λ (l : List Assign). n - length l) c.assigns-assigns.ensures) is
    (ap (λ (y : Wiring). get_or y.blocks i false) c.self.view_is ∙ sym c.if-not-is_block.ensures) all)) c.statement_writes.ensures
