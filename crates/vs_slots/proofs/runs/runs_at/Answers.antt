use Rattle.std.specs.List.{Contains}
use Rattle.vs_slots.specs.Kept.{IsRunIn}
use Rattle.vs_slots.proofs.Unions.{alone, from_none, same_as}
use Rattle.vs_slots.proofs.runs.runs_at.Goals as goal

pub returns : goal.returns
returns c r =
    let run = IsRunIn c.args.runs.now c.args.i c.args.place r in
    same_as (Contains c.put_runs.new.out r) (Contains c.list.result.items r) run (c.list.ensures.exact r)
    (alone (Contains c.none-all.result r) (Contains c.put_runs.new.out r) run (from_none c.none-all.result r c.none-all.ensures) (c.in_ok-put_runs.ensures r))
