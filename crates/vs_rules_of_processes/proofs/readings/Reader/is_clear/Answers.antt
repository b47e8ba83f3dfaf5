use Rattle.std.proofs.Common.{ℕ, List, sym, subst}
use Rattle.std.specs.List.{Contains}
use Rattle.std.proofs.lemmas.Bool.{false≢true}
use Rattle.vs_claims.specs.Facts.{Case}
use Rattle.vs_rules_of_processes.specs.Classes.{IsClear}
use Rattle.vs_rules_of_processes.proofs.readings.Reader.is_clear.Goals as goal

pub returns-then-is_empty : goal.returns-then-is_empty
returns-then-is_empty c = λ t. absurd (false≢true t)

pub returns : goal.returns
returns c =
    let f = c.args.self.now in
    λ t u r of cone s slot run.
    let listed = subst (λ (l : List ℕ). Contains l s) (sym c.deref.ensures.value) ((c.in_ok-runs.ensures f.tables.now s c.requires.is_chart c.requires.place).1 run) in
    subst (λ (k : Case). IsClear k.design k.claims c.args.v s) f.classes_are (c.are_clear.ensures t s listed) u r of cone slot
