use Rattle.std.proofs.Common.{◌≡◌, ◌+◌, ◌<◌, ◌↔◌, ℕ, Bool, List, length, refl, sym, subst, arith}
use Rattle.std.specs.List.{Contains}
use Rattle.std.specs.declared.vec.Vec.{Vec}
use Rattle.std.specs.declared.alloc.Global.{Global}
use Rattle.std.proofs.lemmas.Result.{IfOk-weaker}
use Rattle.vs_graph.specs.Reached.{AreReached}
use Rattle.vs_rules_of_processes.specs.Classes.{AreReachedFrom, IsWrittenIn}
use Rattle.vs_rules_of_processes.specs.Forward.{forward}
use Rattle.vs_rules_of_processes.proofs.ClassLemmas.{marked}
use Rattle.vs_rules_of_processes.proofs.ForwardLemmas.{leads_within}
use Rattle.vs_rules_of_processes.proofs.classes.marks_of.Goals as goal

pub reached-requires-clause-within : goal.reached-requires-clause-within
reached-requires-clause-within c = leads_within c.args.slots.now.design c.args.slots.now.claims c.args.users.now c.args.outs.now c.requires

pub reached-requires-clause-seeds : goal.reached-requires-clause-seeds
reached-requires-clause-seeds c s h =
    let y = (c.in_ok-seeds.ensures s).0 (subst (λ (l : List ℕ). Contains l s) c.deref.ensures.value h) in
    omega (arith, y.1, y.2.1)

pub returns : goal.returns
returns c =
    let f = c.args.slots.now in
    let users = c.args.users.now in
    let outs = c.args.outs.now in
    let seeds = c.deref.result.now in
    IfOk-weaker c.reached.result (λ (marks : Vec Bool Global). AreReached (forward users outs) seeds (length users + length outs) marks.items)
    (λ (marks : Vec Bool Global). AreReachedFrom f.design f.claims c.args.class marks.items)
    (λ marks reached. marked f.design f.claims c.args.class users outs (length users) seeds marks.items c.requires refl
    (λ v. subst (λ (n : ℕ). (Contains seeds v ↔ ((i : ℕ) × (i < n) × (IsWrittenIn f.design f.claims c.args.class i × (i ≡ v))))) c.len.ensures.is
    (subst (λ (l : List ℕ). (Contains l v ↔ ((i : ℕ) × (i < c.len.result) × (IsWrittenIn f.design f.claims c.args.class i × (i ≡ v))))) (sym c.deref.ensures.value) (c.in_ok-seeds.ensures v)))
    reached)
    c.reached.ensures
