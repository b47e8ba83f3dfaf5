use Rattle.std.proofs.Common.{◌++◌, map, length, refl, arith}
use Rattle.std.proofs.lemmas.List.{length-map}
use Rattle.std.proofs.lemmas.Result.{err_from_is_err_and}
use Rattle.vs_widths.specs.Names.{meaning_of, nested_names}
use Rattle.vs_scopes.specs.scopes_passes.Parts.{read_given}
use Rattle.vs_elab_constants.proofs.FindingLemmas.{found_none}
use Rattle.vs_elab_constants.proofs.FoundLemmas.{all_added}
use Rattle.vs_elab_constants.proofs.finding.add_constants.Goals as goal

pub returns-in_err-found-clause-fault : goal.returns-in_err-found-clause-fault
returns-in_err-found-clause-fault c =
    let outer = nested_names c.args.outer.now in
    let gs = map read_given c.args.list.now in
    let p = err_from_is_err_and c.from_residual-in_err-found.result c.from_residual-in_err-found.ensures.1 in
    rw (p.1, p.2) (c.in_err-found.ensures.fault (meaning_of (c.args.values.now.known ++ outer))
    (found_none (meaning_of c.args.around.now) outer c.args.values.now.known c.bind_pending.new.names gs _ (length c.args.list.now) refl c.in_ok-bind_pending.ensures))

pub returns-clause-ok : goal.returns-clause-ok
returns-clause-ok c =
    let around = meaning_of c.args.around.now in
    let outer = nested_names c.args.outer.now in
    let gs = map read_given c.args.list.now in
    let env = meaning_of (c.args.values.now.known ++ outer) in
    let made = c.in_ok-found.ensures in
    let start = found_none around outer c.args.values.now.known c.bind_pending.new.names gs _ (length c.args.list.now) refl c.in_ok-bind_pending.ensures in
    all_added around outer gs c.in_ok-found.found.items c.args.values.now (record { constants = c.push_found.new.constants; known = c.find_values.new.known }) (omega (arith, made.all.0, length-map c.args.list.now read_given)) made.all.1
    (made.found env start) (rw c.deref.ensures.value at c.in_ok-push_found.ensures)
