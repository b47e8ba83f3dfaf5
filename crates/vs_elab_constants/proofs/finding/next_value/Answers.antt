use Rattle.std.proofs.Common.{◌≡◌, ◌+◌, ◌++◌, Some, None, slice_get, map, ap, sym, subst, ◌∙◌, arith}
use Rattle.std.proofs.lemmas.List.{length-map}
use Rattle.std.proofs.lemmas.Result.{err_from_is_err_and}
use Rattle.vs_widths.specs.Names.{meaning_of, nested_names}
use Rattle.vs_scopes.specs.scopes_passes.Parts.{read_given}
use Rattle.vs_elab_constants.specs.passes.Finding.{IsTried}
use Rattle.vs_elab_constants.proofs.SearchLemmas.{IsSearched, unfound_at, found_at, refused_among, next_is, searched_none, searched_found, searched_faulty, searched_all, searched_stuck}
use Rattle.vs_design.specs.vs_logic4.proofs.Basics.{at_place as get_map}
use Rattle.vs_elab_constants.proofs.finding.next_value.Goals as goal
use Rattle.vs_elab_constants.proofs.finding.next_value.Goals.{then-is_none+in_ok-constant+in-Not, else-is_none}

pub loop-number-preserved : goal.loop-number-preserved
loop-number-preserved c =
    let env = meaning_of (c.args.known.now ++ nested_names c.args.outer.now) in
    let gs = map read_given c.args.list.now in
    let vs = c.args.values.now in
    let n = c.loop-number.number in
    elim c.if-is_none.branch [
      | then-is_none+in_ok-constant+in-Not w ↦
          let x = w.index-list-number.result in
          subst (λ z. IsSearched env gs vs z (n + 1)) (ap (λ z. Some z) (sym w.reported_fault.ensures) ∙ sym w.fault-is) (searched_faulty env gs vs n (read_given x) w.in-Not.reason (get_map read_given c.args.list.now n x c.loop-number-test.true w.index-list-number.is)
          (subst (IsTried (meaning_of c.args.around.now) env (read_given x)) w.in-Not.is w.in_ok-constant.ensures.ok) c.loop-number.fault c.loop-number.invariant)
      | else-is_none w ↦
          let found = found_at vs n c.index-values-number.result c.is_none.result (omega (arith, c.requires.all, c.loop-number-test.true)) c.index-values-number.is c.is_none.ensures w.if-is_none.false in
          subst (λ z. IsSearched env gs vs z (n + 1)) (sym w.fault-is) (searched_found env gs vs c.loop-number.fault n found.constant found.there c.loop-number.invariant)
    ]

pub returns-in_err-constant-clause-fault : goal.returns-in_err-constant-clause-fault
returns-in_err-constant-clause-fault c =
    let p = err_from_is_err_and c.from_residual.result c.from_residual.ensures.1 in
    let x = c.index-list-number.result in
    rw (p.1, p.2) (refused_among (meaning_of c.args.around.now) (map read_given c.args.list.now) c.loop-number.number (read_given x) c.in_err-constant.field-0.0 (get_map read_given c.args.list.now c.loop-number.number x c.loop-number-test.true c.index-list-number.is)
    c.in_err-constant.ensures.fault)

pub returns-in-Is-clause-ok : goal.returns-in-Is-clause-ok
returns-in-Is-clause-ok c =
    let around = meaning_of c.args.around.now in
    let env = meaning_of (c.args.known.now ++ nested_names c.args.outer.now) in
    let vs = c.args.values.now in
    let n = c.loop-number.number in
    let x = c.index-list-number.result in
    let none : slice_get vs n ≡ Some None = unfound_at vs n c.index-values-number.result c.is_none.result (omega (arith, c.requires.all, c.loop-number-test.true)) c.index-values-number.is c.is_none.ensures c.if-is_none.true in
    next_is around env c.args.list.now vs n x c.in-Is.constant c.loop-number-test.true c.index-list-number.is none (subst (IsTried around env (read_given x)) c.in-Is.is c.in_ok-constant.ensures.ok)

pub returns-in-None-clause-ok : goal.returns-in-None-clause-ok
returns-in-None-clause-ok c =
    searched_all (meaning_of (c.args.known.now ++ nested_names c.args.outer.now)) (map read_given c.args.list.now) c.args.values.now c.loop-number.fault c.loop-number.number (omega (arith, c.requires.all, c.loop-number-test.false)) c.in-None.is c.loop-number.invariant

pub loop-number-init : goal.loop-number-init
loop-number-init c = searched_none (meaning_of (c.args.known.now ++ nested_names c.args.outer.now)) (map read_given c.args.list.now) c.args.values.now

pub returns-in-Some-clause-ok : goal.returns-in-Some-clause-ok
returns-in-Some-clause-ok c =
    searched_stuck (meaning_of (c.args.known.now ++ nested_names c.args.outer.now)) (map read_given c.args.list.now) c.args.values.now c.loop-number.fault c.loop-number.number c.in-Some.reason (omega (arith, c.loop-number-test.false, length-map c.args.list.now read_given)) c.in-Some.is c.loop-number.invariant
