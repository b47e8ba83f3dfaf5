use Rattle.std.proofs.Common.{◌≡◌, ◌∙◌, ◌++◌, [], None, ap, sym, subst, map, false}
use Rattle.vs_widths.specs.Names.{meaning_of}
use Rattle.vs_scopes.specs.Parameters.{header_parameters, parameters_among, parameters_of, do_not_fit, given_from, overriding}
use Rattle.vs_scopes.specs.scopes_passes.Parts.{read_end, read_parameter, read_given, AreGiven}
use Rattle.vs_elab_constants.proofs.ValueLemmas.{values_start, module_given, values_are, values_refused}
use Rattle.vs_elab_constants.proofs.evaluating.values.Goals as goal

pub returns-in-Ok-clause-ok : goal.returns-in-Ok-clause-ok
returns-in-Ok-clause-ok c =
    let o = read_end c.args.overrides in
    let m = c.args.module.now in
    let ps = map read_parameter c.in_ok-parameters.parameters.items in
    let hp : ps ≡ parameters_of m = c.in_ok-parameters.ensures ∙ ap (λ z. header_parameters None m.parameters.items ++ parameters_among z) c.requires.pieces in
    let given : (do_not_fit o ps ≡ false) × (map read_given c.in-Some.list.items ≡ given_from ps (overriding o ps)) = subst (AreGiven o ps) c.in-Some.is (rw c.deref.ensures.value at c.in_ok-list.ensures) in
    values_are (meaning_of c.args.around.now) o m (map read_given c.in-Some.list.items) (record { constants = c.new.result; known = c.in_ok-early_names.field-0 }) c.add_constants.new.values
    (ap (do_not_fit o) (sym hp) ∙ given.0) (module_given o m ps (map read_given c.in-Some.list.items) hp given.1) c.new.ensures.items
    (values_start m ps _ _ c.in_ok-early_names.field-0 hp c.requires.ports c.requires.pieces (rw c.deref-2.ensures.value at c.in_ok-early_names.ensures)) (rw c.deref-3.ensures.value at c.in-Ok.ensures.ok)

pub returns-clause-fault : goal.returns-clause-fault
returns-clause-fault c =
    let o = read_end c.args.overrides in
    let m = c.args.module.now in
    let ps = map read_parameter c.in_ok-parameters.parameters.items in
    let hp : ps ≡ parameters_of m = c.in_ok-parameters.ensures ∙ ap (λ z. header_parameters None m.parameters.items ++ parameters_among z) c.requires.pieces in
    let given : (do_not_fit o ps ≡ false) × (map read_given c.in-Some.list.items ≡ given_from ps (overriding o ps)) = subst (AreGiven o ps) c.in-Some.is (rw c.deref.ensures.value at c.in_ok-list.ensures) in
    values_refused (meaning_of c.args.around.now) o m (map read_given c.in-Some.list.items) (meaning_of (c.in_ok-early_names.field-0 ++ [])) c.in-Err.refusal (module_given o m ps (map read_given c.in-Some.list.items) hp given.1)
    (values_start m ps _ _ c.in_ok-early_names.field-0 hp c.requires.ports c.requires.pieces (rw c.deref-2.ensures.value at c.in_ok-early_names.ensures)) (rw c.deref-3.ensures.value at c.in-Err.ensures.fault)
