use Rattle.std.proofs.Common.{ℕ, ◌↔◌, refl, sym, subst}
use Rattle.std.specs.List.{Contains}
use Rattle.std.proofs.lemmas.Option.{same_Some}
use Rattle.std.proofs.lemmas.Result.{IfOk-weaker}
use Rattle.vs_slots.specs.Kept.{IsFiringBy, IsFiringOf}
use Rattle.vs_slots.proofs.KeptLemmas.{writer_within}
use Rattle.vs_slots.proofs.firing.fires_of.Goals as goal

pub fires_by-requires-clause-root : goal.fires_by-requires-clause-root
fires_by-requires-clause-root c =
    writer_within c.args.facts.now.design c.args.facts.now.claims c.args.root c.in-Some.writer ((c.in-Some.ensures c.in-Some.writer).1 refl)

pub returns-in-Some : goal.returns-in-Some
returns-in-Some c =
    let f = c.args.facts.now in
    let w = c.in-Some.writer in
    IfOk-weaker c.fires_by.result
    (λ all. (r : ℕ) → (Contains all.items r ↔ IsFiringBy f c.args.runs.now c.args.clock c.args.root c.args.edge w r))
    (λ all. (r : ℕ) → (Contains all.items r ↔ IsFiringOf f c.args.runs.now c.args.clock c.args.root c.args.edge r))
    (λ all h r. (
      λ x. (w, (c.in-Some.ensures w).1 refl, (h r).0 x),
      λ y. (h r).1 (subst (λ (i : ℕ). IsFiringBy f c.args.runs.now c.args.clock c.args.root c.args.edge i r) (sym (same_Some w y.0 ((c.in-Some.ensures y.0).0 y.1))) y.2),
    ))
    c.fires_by.ensures
