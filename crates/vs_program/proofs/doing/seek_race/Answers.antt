use Rattle.std.proofs.Common.{◌≡◌, ℕ, List, false, subst}
use Rattle.std.specs.Prelude.{IfErr}
use Rattle.vs_sign_off.specs.vs_simulate.specs.Honesty.{is_refusal}
use Rattle.vs_program.specs.Races.{HasBegunRace}
use Rattle.vs_program.proofs.doing.seek_race.Goals as goal

pub returns-in-Some-clause-begun : goal.returns-in-Some-clause-begun
returns-in-Some-clause-begun g c = subst (λ (s : List ℕ). IfErr c.tell_race_pair.result (λ fault. is_refusal fault ≡ false →
    HasBegunRace c.args.hunt.rules s c.args.hunt.top.now (g.S.Sink.bytes c.args.shown.now) (g.S.Sink.bytes c.tell_race_pair.new.shown)))
    c.as_slice-source.ensures.value c.tell_race_pair.ensures.begun
