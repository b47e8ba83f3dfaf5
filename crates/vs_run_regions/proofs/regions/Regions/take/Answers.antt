use Rattle.std.proofs.Common.{◌≡◌, ◌∙◌, Some, None, List, length, take, option_map, slice_get, slice_set, ap, sym, subst}
use Rattle.vs_design.specs.Writes.{Write}
use Rattle.vs_process.specs.States.{Update}
use Rattle.vs_run_regions.specs.Regions.{AreHeld, Waiting, place_of_number}
use Rattle.vs_run_regions.specs.Updates.{SlotView, left_of, somes, what_of}
use Rattle.vs_run_regions.proofs.HeldLemmas.{held_taken, what_there}
use Rattle.vs_run_regions.proofs.UpdatesLemmas.{somes_there, somes_without}
use Rattle.vs_run_regions.proofs.regions.Regions.take.Goals as goal

pub invariant_of-self-2 : goal.invariant_of-self-2
invariant_of-self-2 g c =
    let old = c.self.inside.listed in
    let n = c.args.number in
    let k = length (somes (take n old.active)) in
    let rest : c.take.new.self.active ≡ slice_set old.active n None = ap (λ (l : SlotView). l.active) c.in_ok-update.ensures.rest in
    let gone : somes c.take.new.self.active ≡ somes (slice_set old.active n None) = ap somes rest in
    subst (λ (us : List Update). AreHeld us c.take.new.self (g.Q.EventQueue.bag c.self.inside.queue) (g.Q.EventQueue.clock c.self.inside.queue)) (sym c.pick-updates.ensures)
    (held_taken c.self.inside.updates.items old c.take.new.self (g.Q.EventQueue.bag c.self.inside.queue) (g.Q.EventQueue.clock c.self.inside.queue) c.self.invariant
    (ap (λ (l : SlotView). l.due) c.in_ok-update.ensures.rest) k
    (gone ∙ somes_without old.active n (what_of old.writes c.in_ok-update.update) c.in_ok-update.ensures.taken))

pub returns-clause-taken : goal.returns-clause-taken
returns-clause-taken g c =
    let old = c.self.inside.listed in
    let n = c.args.number in
    let u = c.in_ok-update.update in
    let same : c.take.new.self.writes ≡ old.writes = ap (λ (l : SlotView). l.writes) c.in_ok-update.ensures.rest in
    subst (λ (w : Waiting). option_map (λ (v : Update). v.what) (slice_get w.updates (place_of_number n w)) ≡ Some (what_of c.take.new.self.writes u)) c.self.view_is
    (what_there c.self.inside.updates.items old.active (length (somes (take n old.active))) (what_of old.writes u) c.self.invariant.active_ones
    (somes_there old.active n (what_of old.writes u) c.in_ok-update.ensures.taken)
    ∙ ap (λ (ws : List Write). Some (what_of ws u)) (sym same))

pub returns-clause-left : goal.returns-clause-left
returns-clause-left g c =
    let u = c.in_ok-update.update in
    let same : c.take.new.self.writes ≡ c.self.inside.listed.writes = ap (λ (l : SlotView). l.writes) c.in_ok-update.ensures.rest in
    subst (λ (ws : List Write). left_of ws u ≡ Some (what_of ws u)) (sym same) c.in_ok-update.ensures.left
