use Rattle.std.proofs.Common.{List, sym, subst, arith}
use Rattle.vs_design.specs.declared.statement.Statement.{Statement}
use Rattle.vs_slots_constants.specs.Clocks.{ArePair}
use Rattle.vs_slots_constants.proofs.Cores.{only_two}
use Rattle.vs_slots_constants.proofs.clocks.pair.Goals as goal

pub returns : goal.returns
returns c offset half digit =
    let two = only_two c.args.all.now c.index-all-0.result c.index-all-1.result (omega arith) c.index-all-0.is c.index-all-1.is in
    let pairs = λ (x : List Statement). ArePair c.args.design.now c.args.wide c.args.v offset half digit x in
    let made = c.joined.ensures offset half digit in
    let first = c.in_ok-first.ensures offset digit in
    let second = c.turns_forever.ensures half in (
      λ h. let p = subst pairs two h in made.0 (first.0 p.0, second.0 p.1),
      λ h. let r = made.1 h in subst pairs (sym two) (first.1 r.0, second.1 r.1),
    )
