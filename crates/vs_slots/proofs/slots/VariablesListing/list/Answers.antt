use Rattle.std.proofs.Common.{ℕ, ◌↔◌, refl, sym, subst}
use Rattle.std.specs.List.{Contains}
use Rattle.std.proofs.lemmas.Option.{same_Some}
use Rattle.std.proofs.lemmas.Result.{IfOk-weaker}
use Rattle.vs_slots.specs.Kept.{IsWriteBy, IsWriteIn}
use Rattle.vs_slots.proofs.KeptLemmas.{writer_within}
use Rattle.vs_slots.proofs.slots.VariablesListing.list.Goals as goal

pub written_by-requires : goal.written_by-requires
written_by-requires c =
    writer_within c.args.self.now.facts.now.design c.args.self.now.facts.now.claims c.args.i c.in-Some.writer ((c.in-Some.ensures c.in-Some.writer).1 refl)

pub returns-in-Some : goal.returns-in-Some
returns-in-Some c =
    let s = c.args.self.now in
    let f = s.facts.now in
    let w = c.in-Some.writer in
    IfOk-weaker c.written_by.result
    (λ all. (r : ℕ) → (Contains all.items r ↔ IsWriteBy f s.delays.now s.edges.now c.args.i w r))
    (λ all. (r : ℕ) → (Contains all.items r ↔ IsWriteIn f s.delays.now s.edges.now c.args.i r))
    (λ all h r. (
      λ x. (w, (c.in-Some.ensures w).1 refl, (h r).0 x),
      λ y. (h r).1 (subst (λ (i : ℕ). IsWriteBy f s.delays.now s.edges.now c.args.i i r) (sym (same_Some w y.0 ((c.in-Some.ensures y.0).0 y.1))) y.2),
    ))
    c.written_by.ensures
