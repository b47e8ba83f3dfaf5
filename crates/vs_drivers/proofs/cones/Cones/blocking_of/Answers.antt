use Rattle.std.proofs.Common.{◌≡◌, Bool, ℕ, ◌↔◌, false, get_or, IsTrue, List, length, sym, ◌∙◌, ap, subst}
use Rattle.std.specs.List.{Contains}
use Rattle.std.proofs.lemmas.Bool.{eqb-true}
use Rattle.std.proofs.lemmas.Result.{IfOk-weaker}
use Rattle.std.proofs.lemmas.List.{nil_from_length as empty_list}
use Rattle.vs_rules.specs.Drivers.{IsBlocking, InCone}
use Rattle.vs_drivers.specs.Assigned.{IsAssigned}
use Rattle.vs_drivers.specs.Wires.{Wiring, OfWiring, IsFree}
use Rattle.vs_drivers.proofs.ConeLemmas.{AreChosen, blocking_of_told, alone_told}
use Rattle.vs_drivers.proofs.WalkLemmas.{alone_named}
use Rattle.vs_drivers.proofs.cones.Cones.blocking_of.Goals as goal

pub returns : goal.returns
returns c =
    let x = c.self.inside.drivers in
    let all = c.in_ok-all.all.items in
    let r = c.args.range in
    let chosen = subst (λ (l : List Bool). AreChosen c.self.inside.listed.items l all) c.deref-3.ensures.value
    (subst (λ (l : List ℕ). AreChosen l c.deref-3.result.now all) c.deref-2.ensures.value c.in_ok-all.ensures) in
    subst (λ (y : Wiring). OfWiring y (λ d claims. (u : ℕ) → (Contains all u ↔ (IsBlocking d claims u × InCone d claims u r)))) c.self.view_is
    (blocking_of_told x r c.self.inside.listed.items all c.in_ok-marks.marks.items c.self.invariant.listed_are c.in_ok-marks.ensures.exact chosen)

pub returns-then-is_empty : goal.returns-then-is_empty
returns-then-is_empty c =
    let x = c.self.inside.drivers in
    let r = c.args.range in
    let row = c.writers.result.now in
    let none = empty_list row (eqb-true (length row) 0 (sym c.if-is_empty.ensures)) in
    let same = c.is_marked.ensures ∙ ap (λ (l : List Bool). get_or l r.signal false) c.deref.ensures.value in
    let marked = subst (λ (b : Bool). (IsTrue b ↔ (IsFree x r.signal × IsAssigned x.design r.signal))) (sym same) (c.self.invariant.marks_are r.signal) in
    IfOk-weaker c.one_if.result (λ all. (k : ℕ) → (Contains all.items k ↔ (IsTrue c.is_marked.result × (r.signal ≡ k))))
    (λ all. OfWiring c.args.self.now (λ d claims. (u : ℕ) → (Contains all.items u ↔ (IsBlocking d claims u × InCone d claims u r))))
    (λ all h. subst (λ (y : Wiring). OfWiring y (λ d claims. (u : ℕ) → (Contains all.items u ↔ (IsBlocking d claims u × InCone d claims u r)))) c.self.view_is
    (alone_told x r all.items c.is_marked.result marked h (alone_named x r row none c.writers.ensures)))
    c.one_if.ensures
