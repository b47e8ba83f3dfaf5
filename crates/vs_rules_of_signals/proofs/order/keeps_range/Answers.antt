use Rattle.vs_drivers.specs.Wires.{driver_at}
use Rattle.vs_rules_of_signals.proofs.OrderLemmas.{known_at, unknown, both_are, earlier_is}
use Rattle.vs_rules_of_signals.proofs.order.keeps_range.Goals as goal

pub returns-then-not-branch : goal.returns-then-not-branch
returns-then-not-branch c =
    let f = c.args.facts.now in
    unknown f.design f.claims (driver_at f.design c.args.reader) c.args.range c.in_ok-is_known.field-0
    (known_at f.design c.design.result.now c.design.ensures f.claims c.args.range c.args.row.now c.args.is_source c.requires.row c.requires.source
    c.in_ok-is_known.field-0 c.in_ok-is_known.ensures) c.if-not-branch.true

pub returns : goal.returns
returns c =
    let f = c.args.facts.now in
    both_are f.design f.claims (driver_at f.design c.args.reader) c.args.range
    ((known_at f.design c.design.result.now c.design.ensures f.claims c.args.range c.args.row.now c.args.is_source c.requires.row c.requires.source
    c.in_ok-is_known.field-0 c.in_ok-is_known.ensures).0 c.if-not-branch.false) c.is_earlier.result
    (earlier_is f.design f.claims c.args.reader c.args.range c.args.row.now c.requires.row c.is_earlier.result c.is_earlier.ensures)
