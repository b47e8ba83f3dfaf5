use Rattle.std.proofs.Common.{sym, ap, ◌∙◌, nat_cmp}
use Rattle.std.specs.BTreeMap.{is_at}
use Rattle.std.specs.Map.{set_value}
use Rattle.std.proofs.lemmas.Map.Steps.{set_value_same}
use Rattle.vs_time_wheel.proofs.Outcomes.{OnErr-map}
use Rattle.vs_time_wheel.proofs.calendar.postpone.Goals as goal

pub returns-in-Some-clause-unchanged : goal.returns-in-Some-clause-unchanged
returns-in-Some-clause-unchanged g c =
    OnErr-map c.push.result _ _
    (λ e. (c.get_mut.follows.holds c.push.new.chain).0
    ∙ ap (λ xs. set_value (is_at (nat_cmp c.args.time)) c.args.later.now.entries xs) e
    ∙ set_value_same (is_at (nat_cmp c.args.time)) c.args.later.now.entries c.in-Some.chain.now (sym c.in-Some.ensures.value))
    c.push.ensures.unchanged
