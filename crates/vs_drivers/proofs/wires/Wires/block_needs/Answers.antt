use Rattle.std.proofs.Common.{◌≡◌, ℕ, ◌<◌, ◌↔◌, Some, List, ◌++◌, length, get_or, slice_get, refl, sym, ◌∙◌, ap, subst}
use Rattle.std.specs.List.{Contains}
use Rattle.std.proofs.lemmas.Option.{slice_get-get_or, slice_get_read}
use Rattle.vs_design.specs.declared.design.Process.{Process}
use Rattle.vs_design.specs.declared.range.BitRange.{BitRange}
use Rattle.vs_design.specs.declared.statement.EventTerm.{EventTerm}
use Rattle.vs_rules.specs.Drivers.{block, DriverNeeds}
use Rattle.vs_drivers.specs.Wires.{Wiring}
use Rattle.vs_drivers.specs.Names.{ranges_of_terms}
use Rattle.vs_drivers.proofs.NameLemmas.{with_names}
use Rattle.vs_drivers.proofs.WireLemmas.{needs_are}
use Rattle.vs_drivers.proofs.wires.Wires.block_needs.Goals as goal

pub returns : goal.returns
returns c =
    let i = c.args.i in
    let d = c.self.inside.design.now in
    let q = get_or c.processes.result.now i c.index-processes-i.result in
    let t = c.index-tables-i.result in
    let within = subst (λ (y : Wiring). i < length y.design.processes) (sym c.self.view_is) c.requires in
    let is = subst (λ (l : List Process). slice_get l i ≡ Some q) c.processes.ensures
    (slice_get-get_or c.processes.result.now i c.index-processes-i.result (subst (λ (l : List Process). i < length l) (sym c.processes.ensures) within)) in
    let chart = slice_get_read c.self.inside.tables.now (length c.self.inside.tables.now) i t refl (subst (λ (k : ℕ). i < k) (sym c.self.invariant.as_many) within) c.index-tables-i.is in
    subst (λ (y : Wiring). (r : BitRange) → (Contains c.push_ranges.new.out.items r ↔ DriverNeeds y.design (block i) r)) c.self.view_is
    (needs_are d i q t c.in_ok-out.out.items c.push_ranges.new.out.items is (c.self.invariant.each i q t is chart) c.in_ok-out.ensures
    (with_names t c.in_ok-out.out.items c.push_ranges.new.out.items c.in_ok-terms.terms.items
    (c.in_ok-push_ranges.ensures ∙ ap (λ (l : List EventTerm). c.in_ok-out.out.items ++ ranges_of_terms l) c.deref.ensures.value) c.in_ok-terms.ensures))
