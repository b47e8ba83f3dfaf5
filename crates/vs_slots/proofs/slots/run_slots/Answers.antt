use Rattle.std.specs.List.{Contains}
use Rattle.vs_slots.specs.Kept.{IsKeptRun, IsRunIn}
use Rattle.vs_slots.proofs.Unions.{both_in, from_none, same_as}
use Rattle.vs_slots.proofs.slots.run_slots.Goals as goal

pub returns : goal.returns
returns c r =
    let i = c.args.i in
    let p = c.args.place in
    let one = Contains c.put_runs.new.out r in
    let two = Contains c.put_runs-2.new.out r in
    same_as two (Contains c.list.result.items r) (IsKeptRun c.args.delays.now c.args.edges.now i p r) (c.list.ensures.exact r)
    (both_in (Contains c.none-all.result r) one two (IsRunIn c.args.delays.now i p r) (IsRunIn c.args.edges.now i p r) (from_none c.none-all.result r c.none-all.ensures)
    (c.in_ok-put_runs.ensures r) (c.in_ok-put_runs-2.ensures r))
