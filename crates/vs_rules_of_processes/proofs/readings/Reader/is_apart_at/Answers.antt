use Rattle.std.proofs.Common.{ℕ, List, sym, subst}
use Rattle.std.specs.List.{Contains}
use Rattle.vs_rules_of_processes.proofs.readings.Reader.is_apart_at.Goals as goal

pub returns : goal.returns
returns c =
    let run = λ (r : ℕ). c.in_ok-runs.ensures c.args.self.now.tables.now r c.requires.is_chart c.requires.place in (
      λ t r w has. c.are_apart-apart.ensures.0 t r ((c.write_slots.ensures r).1 w) (subst (λ (l : List ℕ). Contains l r) (sym c.deref.ensures.value) ((run r).1 has)),
      λ h. c.are_apart-apart.ensures.1 (λ r w has. h r ((c.write_slots.ensures r).0 w) ((run r).0 (subst (λ (l : List ℕ). Contains l r) c.deref.ensures.value has))),
    )
