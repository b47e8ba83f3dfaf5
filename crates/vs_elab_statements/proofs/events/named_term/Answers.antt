use Rattle.std.proofs.Common.{[]}
use Rattle.vs_design.specs.vs_logic4.specs.declared.edge.Edge.TheVariants.{Any}
use Rattle.vs_widths.specs.Names.{meaning_of}
use Rattle.vs_elab_statements.proofs.EventLemmas.{alone_place, term_is}
use Rattle.vs_elab_statements.proofs.events.named_term.Goals as goal

pub waiting-requires : goal.waiting-requires
waiting-requires c =
    let env = meaning_of c.args.names.now in
    alone_place env (env c.args.name.now) [] c.in_ok-target.target c.in_ok-target.ensures.target

pub returns : goal.returns
returns c =
    let env = meaning_of c.args.names.now in
    term_is env Any (env c.args.name.now) [] c.in_ok-target.target c.waiting.result c.in_ok-target.ensures.target c.waiting.ensures
