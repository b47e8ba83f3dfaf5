use Rattle.std.proofs.Common.{◌≡◌, ◌+◌, ℕ, [], length, refl, ◌∙◌, ap, subst, arith}
use Rattle.vs_design.specs.Parts.{Parts}
use Rattle.vs_drivers.specs.declared.writers.Written.{Written}
use Rattle.vs_drivers.specs.Wires.{drivers}
use Rattle.vs_graph.specs.Rows.{empty_rows}
use Rattle.vs_graph.proofs.RowLemmas.{none_yet, one_more, rows_done}
use Rattle.vs_rules_of_processes.specs.Forward.{WritesSignal, drivers_of}
use Rattle.vs_rules_of_processes.proofs.ListLemmas.{images_are}
use Rattle.vs_rules_of_processes.proofs.forward.outs_of.Goals as goal

pub loop-v-init : goal.loop-v-init
loop-v-init c =
    let d = c.args.facts.now.design in
    let k = c.args.facts.now.claims in
    let assigns : length c.assigns.result.now ≡ length d.assigns = ap length c.assigns.ensures ∙ ap (λ (e : Parts). length e.assigns) c.design-design.ensures in
    let processes : length c.processes.result.now ≡ length d.processes = ap length c.processes.ensures ∙ ap (λ (e : Parts). length e.processes) c.design-design.ensures in
    let many : length c.assigns.result.now + length c.processes.result.now ≡ drivers d =
    ap (λ (n : ℕ). n + length c.processes.result.now) assigns ∙ ap (λ (n : ℕ). length d.assigns + n) processes in
    none_yet (λ v n. WritesSignal d k n v) (drivers d) c.in_ok-outs.outs (subst (λ (n : ℕ). c.in_ok-outs.outs ≡ empty_rows n) many c.in_ok-outs.ensures)

pub loop-v-preserved : goal.loop-v-preserved
loop-v-preserved c =
    let d = c.args.facts.now.design in
    let k = c.args.facts.now.claims in
    let told = c.writers.ensures d k c.requires in
    one_more (λ v n. WritesSignal d k n v) c.loop-v.v (drivers d) c.loop-v.outs c.put_drivers.new.table (drivers_of c.writers.result.now) c.loop-v.invariant c.in_ok-put_drivers.ensures
    (images_are (λ (w : Written). w.driver) [] (drivers_of c.writers.result.now) c.writers.result.now (λ (n : ℕ). WritesSignal d k n c.loop-v.v) refl refl
    (λ w h. let y = (told w.driver w.range).0 h in record { within = y.0; range = w.range; of = y.1; driver = y.2; writes = y.3 })
    (λ n h. (record { driver = n; range = h.range }, (told n h.range).1 (h.within, h.of, h.driver, h.writes), refl)))

pub returns-clause-len : goal.returns-clause-len
returns-clause-len c = c.loop-v.invariant.long

pub returns-clause-exact : goal.returns-clause-exact
returns-clause-exact c =
    let d = c.args.facts.now.design in
    let k = c.args.facts.now.claims in
    let signals : length c.signals-v-end.result.now ≡ length d.signals = ap length c.signals-v-end.ensures ∙ ap (λ (e : Parts). length e.signals) c.design-design.ensures in
    rows_done (λ v n. WritesSignal d k n v) c.loop-v.v (length d.signals) (drivers d) c.loop-v.outs (omega (arith, c.loop-v-test.false, c.loop-v.auto.v-end, signals)) c.loop-v.invariant
