use Rattle.std.proofs.Common.{subst}
use Rattle.vs_slots.specs.vs_claims.specs.Facts.{Case}
use Rattle.vs_rules_of_processes.specs.Forward.{AreForward}
use Rattle.vs_rules_of_processes.proofs.classes.WriteClasses.of.Goals as goal

pub all_marks-requires : goal.all_marks-requires
all_marks-requires c =
    subst (λ (f : Case). AreForward f.design f.claims c.in_ok-users.users c.in_ok-outs.outs) c.facts-facts.ensures
    (record { users_long = c.in_ok-users.ensures.len; outs_long = c.in_ok-outs.ensures.len; users_are = c.in_ok-users.ensures.exact; outs_are = c.in_ok-outs.ensures.exact })
