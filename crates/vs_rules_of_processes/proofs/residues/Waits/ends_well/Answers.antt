use Rattle.std.proofs.Common.{ℕ, List, sym, subst}
use Rattle.std.specs.List.{Contains}
use Rattle.vs_rules_of_processes.proofs.residues.Waits.ends_well.Goals as goal

pub returns : goal.returns
returns c =
    let s = c.args.self.now in
    let run = λ (r : ℕ). c.in_ok-runs.ensures s.tables.now r s.is_chart c.requires in (
      λ t r has. c.all_shifted.ensures.0 t r (subst (λ (l : List ℕ). Contains l r) (sym c.deref.ensures.value) ((run r).1 has)),
      λ h. c.all_shifted.ensures.1 (λ r m. h r ((run r).0 (subst (λ (l : List ℕ). Contains l r) c.deref.ensures.value m))),
    )
