use Rattle.std.proofs.Common.{◌≡◌}
use Rattle.std.proofs.lemmas.Result.{IfOk-weaker}
use Rattle.vs_rules.specs.vs_process.specs.Places.{Todo}
use Rattle.vs_rules.specs.Blocks.{run_alone}
use Rattle.vs_rules_of_starts.specs.Alone.{arrival, arrived_if, store_if, ReachesControl}
use Rattle.vs_rules_of_starts.proofs.AloneLemmas.{came}
use Rattle.vs_rules_of_starts.proofs.cold.returns_to_control.Goals as goal

pub returns : goal.returns
returns c =
    IfOk-weaker c.arrive-2.result
    (λ b. arrived_if b c.arrive-2.new.cursor c.arrive-2.new.store ≡ arrival c.args.most c.arrive.new.cursor c.arrive.new.store)
    (λ b. (behind : Todo) → ReachesControl c.args.code.now c.args.store.now behind → store_if b c.arrive-2.new.store ≡ run_alone c.args.most behind c.args.store.now)
    (λ b h behind comes.
    came c.args.most c.in_ok-waits.waits c.if-not-waits.false c.in_ok-cursor.cursor c.arrive.new.cursor behind c.args.store.now c.arrive.new.store c.args.code.now
    c.in_ok-cursor.ensures c.in_ok-waits.ensures comes b c.arrive-2.new.cursor c.arrive-2.new.store h)
    c.arrive-2.ensures
