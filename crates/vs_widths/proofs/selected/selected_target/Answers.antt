use Rattle.std.proofs.Common.{sym, subst, refl}
use Rattle.std.proofs.lemmas.Result.{err_from_is_err_and}
use Rattle.vs_widths.specs.Names.{meaning_of}
use Rattle.vs_widths.specs.Expressions.{meant_selects}
use Rattle.vs_widths.specs.Lefts.{name_aimed}
use Rattle.vs_widths.specs.passes.Aims.{AreWithin}
use Rattle.vs_widths.proofs.LeftLemmas.{selects_within, name_selects_refused}
use Rattle.vs_widths.proofs.selected.selected_target.Goals as goal

pub named_target-requires-clause-within : goal.named_target-requires-clause-within
named_target-requires-clause-within c =
    let env = meaning_of c.args.names.now in
    subst (AreWithin env) (sym c.in_ok-selects.ensures.means) (selects_within env c.args.selects.now)

pub returns-in_err-selects-clause-fault : goal.returns-in_err-selects-clause-fault
returns-in_err-selects-clause-fault c =
    let env = meaning_of c.args.names.now in
    let p = err_from_is_err_and c.from_residual.result c.from_residual.ensures.1 in
    rw (p.1, p.2) (name_selects_refused c.args.how env (name_aimed c.args.how (env c.args.name.now) (meant_selects env c.args.selects.now)) c.args.name.now c.args.selects.now c.args.selects.now c.in_err-selects.field-0.0 refl refl c.in_err-selects.ensures)
