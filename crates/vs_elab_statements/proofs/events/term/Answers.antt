use Rattle.vs_widths.specs.Names.{meaning_of}
use Rattle.vs_widths.specs.Expressions.{meant_selects}
use Rattle.vs_elab_statements.proofs.EventLemmas.{alone_place, term_of}
use Rattle.vs_elab_statements.proofs.events.term.Goals as goal

pub waiting-requires : goal.waiting-requires
waiting-requires c =
    let env = meaning_of c.args.names.now in
    alone_place env (env c.deref.result.now) (meant_selects env c.deref-2.result.now) c.in_ok-target.target c.in_ok-target.ensures.target

pub returns : goal.returns
returns c =
    term_of (meaning_of c.args.names.now) c.args.t.now c.deref.result.now c.deref-2.result.now c.in_ok-target.target c.waiting.result c.deref.ensures.value c.deref-2.ensures.value c.in_ok-target.ensures.target
    c.waiting.ensures
