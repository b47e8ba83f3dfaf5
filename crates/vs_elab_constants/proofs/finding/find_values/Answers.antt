use Rattle.std.proofs.Common.{None, length, ap, ◌∙◌}
use Rattle.std.proofs.lemmas.List.{length-replicate}
use Rattle.std.proofs.lemmas.Result.{err_from_is_err_and}
use Rattle.vs_elab_constants.proofs.SearchLemmas.{refused_outside}
use Rattle.vs_elab_constants.proofs.finding.find_values.Goals as goal

pub find_each-requires : goal.find_each-requires
find_each-requires c = record { all = ap length c.in_ok-values.ensures ∙ length-replicate (length c.args.list.now) None; numbers = c.in_ok-numbers.ensures }

pub returns-in_err-find_each-clause-fault : goal.returns-in_err-find_each-clause-fault
returns-in_err-find_each-clause-fault c =
    let p = err_from_is_err_and c.from_residual-in_err-find_each.result c.from_residual-in_err-find_each.ensures.1 in
    rw (p.1, p.2) (λ env h. refused_outside _ _ c.in_err-find_each.field-0.0 c.in_err-find_each.ensures.fault)

pub find_rest-requires : goal.find_rest-requires
find_rest-requires c = record { all = c.in_ok-find_each.ensures.all; numbers = c.in_ok-numbers.ensures }

pub returns-in_err-find_rest-clause-fault : goal.returns-in_err-find_rest-clause-fault
returns-in_err-find_rest-clause-fault c =
    let p = err_from_is_err_and c.from_residual-in_err-find_rest.result c.from_residual-in_err-find_rest.ensures.1 in
    rw (p.1, p.2) (λ env h. c.in_err-find_rest.ensures.fault env (c.in_ok-find_each.ensures.found env (rw c.in_ok-values.ensures h)))

pub returns-clause-found : goal.returns-clause-found
returns-clause-found c env h = c.in_ok-find_rest.ensures.found env (c.in_ok-find_each.ensures.found env (rw c.in_ok-values.ensures h))

pub returns-clause-all : goal.returns-clause-all
returns-clause-all c = c.in_ok-find_rest.ensures.all
