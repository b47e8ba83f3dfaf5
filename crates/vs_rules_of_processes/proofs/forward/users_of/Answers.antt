use Rattle.std.proofs.Common.{◌≡◌, ◌+◌, ℕ, [], length, refl, ◌∙◌, ap, subst, arith}
use Rattle.vs_design.specs.declared.range.BitRange.{BitRange}
use Rattle.vs_design.specs.Parts.{Parts}
use Rattle.vs_rules.specs.Drivers.{DriverNeeds, IsDriver}
use Rattle.vs_drivers.specs.Wires.{driver_at, drivers}
use Rattle.vs_graph.specs.Rows.{empty_rows, with_all}
use Rattle.vs_graph.proofs.RowLemmas.{AreSoFar, one_more, rows_done}
use Rattle.vs_rules_of_processes.specs.Forward.{IsUser, signals_of}
use Rattle.vs_rules_of_processes.proofs.ForwardLemmas.{none_before}
use Rattle.vs_rules_of_processes.proofs.ListLemmas.{images_are}
use Rattle.vs_rules_of_processes.proofs.forward.users_of.Goals as goal

pub loop-n-init : goal.loop-n-init
loop-n-init c =
    let d = c.args.facts.now.design in
    let k = c.args.facts.now.claims in
    let first = length d.signals in
    let signals : length c.signals-first.result.now ≡ first = ap length c.signals-first.ensures ∙ ap (λ (e : Parts). length e.signals) c.design.ensures in
    let same : first ≡ first + 0 = omega arith in
    subst (λ (m : ℕ). AreSoFar (IsUser d k) m first c.in_ok-users.users) same
    (none_before (IsUser d k) first first c.in_ok-users.users (subst (λ (n : ℕ). c.in_ok-users.users ≡ empty_rows n) signals c.in_ok-users.ensures)
    (λ i r h u. omega (arith, h, u.is)))

pub loop-n-preserved : goal.loop-n-preserved
loop-n-preserved c =
    let d = c.args.facts.now.design in
    let k = c.args.facts.now.claims in
    let n = c.loop-n.n in
    let first = length d.signals in
    let signals : length c.signals-first.result.now ≡ first = ap length c.signals-first.ensures ∙ ap (λ (e : Parts). length e.signals) c.design.ensures in
    let told = c.needs.ensures d k c.requires.wiring in
    let put : c.put_signals.new.table ≡ with_all (signals_of c.needs.result.now) (first + n) c.loop-n.users =
    c.in_ok-put_signals.ensures ∙ ap (λ (m : ℕ). with_all (signals_of c.needs.result.now) (m + n) c.loop-n.users) signals in
    let next : first + n + 1 ≡ first + (n + 1) = omega arith in
    subst (λ (m : ℕ). AreSoFar (IsUser d k) m first c.put_signals.new.table) next
    (one_more (IsUser d k) (first + n) first c.loop-n.users c.put_signals.new.table (signals_of c.needs.result.now) c.loop-n.invariant put
    (images_are (λ (r : BitRange). r.signal) [] (signals_of c.needs.result.now) c.needs.result.now (λ (v : ℕ). IsUser d k (first + n) v) refl refl
    (λ r h. let y = (told r).0 h in record { number = n; is = refl; range = r; of = refl; driver = y.0; needs = y.1 })
    (λ v h.
    let same : h.number ≡ n = omega (arith, h.is) in
    (h.range, (told h.range).1 (subst (λ (m : ℕ). IsDriver d k (driver_at d m)) same h.driver, subst (λ (m : ℕ). DriverNeeds d (driver_at d m) h.range) same h.needs), h.of))))

pub returns-clause-len : goal.returns-clause-len
returns-clause-len c = c.loop-n.invariant.long

pub returns-clause-exact : goal.returns-clause-exact
returns-clause-exact c =
    let d = c.args.facts.now.design in
    let k = c.args.facts.now.claims in
    let first = length d.signals in
    rows_done (IsUser d k) (first + c.loop-n.n) (first + drivers d) first c.loop-n.users (omega (arith, c.loop-n-test.false, c.loop-n.auto.n-end, c.len-n-end.ensures.is, c.requires.outs))
    c.loop-n.invariant
