use Rattle.std.proofs.Common.{◌≡◌, ◌++◌, ◌∙◌, true, Some, None, length, slice_get, map, refl, ap, sym, subst, arith}
use Rattle.std.proofs.lemmas.List.{length-set}
use Rattle.std.proofs.lemmas.Result.{err_from_is_err_and}
use Rattle.vs_widths.specs.Names.{meaning_of, nested_names}
use Rattle.vs_scopes.specs.scopes_passes.Parts.{read_given}
use Rattle.vs_elab_constants.specs.passes.Finding.{IsTried}
use Rattle.vs_elab_constants.proofs.FindingLemmas.{found_more}
use Rattle.vs_elab_constants.proofs.SearchLemmas.{unfound_at, refused_among}
use Rattle.vs_design.specs.vs_logic4.proofs.Basics.{at_place as get_map}
use Rattle.vs_elab_constants.proofs.finding.find_value.Goals as goal

pub returns-then-is_some-clause-found : goal.returns-then-is_some-clause-found
returns-then-is_some-clause-found c env h = h

pub returns-in-Not-clause-found : goal.returns-in-Not-clause-found
returns-in-Not-clause-found c env h = h

pub keep-requires : goal.keep-requires
keep-requires c = record { within = c.requires.within; all = c.requires.all; numbers = c.requires.numbers }

pub returns-in_ok-keep-in-Is-clause-all : goal.returns-in_ok-keep-in-Is-clause-all
returns-in_ok-keep-in-Is-clause-all c = ap length c.in_ok-keep-in-Is.ensures.values ∙ length-set c.args.values.now.items c.args.number (Some c.in-Is.constant) ∙ c.requires.all

pub returns-in_err-try_value-clause-fault : goal.returns-in_err-try_value-clause-fault
returns-in_err-try_value-clause-fault c =
    let p = err_from_is_err_and c.from_residual.result c.from_residual.ensures.1 in
    let x = c.index-list-number.result in
    rw (p.1, p.2) (refused_among (meaning_of c.args.around.now) (map read_given c.args.list.now) c.args.number (read_given x) c.in_err-try_value.field-0.0 (get_map read_given c.args.list.now c.args.number x c.requires.within c.index-list-number.is) c.in_err-try_value.ensures.fault)

pub returns-in_ok-keep-in-Is-clause-found : goal.returns-in_ok-keep-in-Is-clause-found
returns-in_ok-keep-in-Is-clause-found c env h =
    let around = meaning_of c.args.around.now in
    let outward = nested_names c.args.outer.now in
    let gs = map read_given c.args.list.now in
    let x = c.index-list-number.result in
    let given = subst (IsTried around (meaning_of (c.args.known.now ++ outward)) (read_given x)) c.in-Is.is c.in_ok-try_value.ensures.ok in
    let none : slice_get c.args.values.now.items c.args.number ≡ Some None =
    unfound_at c.args.values.now.items c.args.number c.index.result.now true (omega (arith, c.requires.all, c.requires.within)) c.index.ensures (sym c.is_some.ensures ∙ c.if-is_some.false) refl in
    found_more around env outward gs c.args.values.now.items c.keep.new.values.items c.args.known.now c.keep.new.known c.args.number (read_given x) c.in-Is.constant h (get_map read_given c.args.list.now c.args.number x c.requires.within c.index-list-number.is) none
    given c.in_ok-keep-in-Is.ensures.values (c.in_ok-keep-in-Is.ensures.named outward env h.named)
