use Rattle.std.proofs.Common.{◌≡◌, ◌∙◌, ◌++◌, [], ap, subst, map, false}
use Rattle.std.proofs.Math.Path.{fun_ext}
use Rattle.vs_scopes.specs.Reads.{read_piece}
use Rattle.vs_scopes.specs.vs_widths.specs.Environment.{Environment}
use Rattle.vs_widths.specs.Names.{meaning_of, nested_names, by_bytes}
use Rattle.vs_scopes.specs.Parameters.{given_from, outer_faults, own_faults}
use Rattle.vs_scopes.specs.Declarations.{Bindings, valueless_of}
use Rattle.vs_scopes.specs.Scopes.{nowhere, block_given}
use Rattle.vs_scopes.specs.scopes_passes.Parts.{read_parameter, read_given}
use Rattle.vs_elab_constants.specs.declared.evaluating.ParameterValues.{ParameterValues}
use Rattle.vs_elab_constants.specs.passes.Early.{AreEarly}
use Rattle.vs_elab_constants.specs.passes.Values.{RefusesValues, AddsConstants, block_faults}
use Rattle.vs_elab_constants.proofs.ValueLemmas.{block_start, block_are, block_refused}
use Rattle.vs_elab_constants.proofs.evaluating.block_values.Goals as goal

pub returns-in-Ok-clause-ok : goal.returns-in-Ok-clause-ok
returns-in-Ok-clause-ok c =
    let outer = nested_names c.args.outer.now in
    let cs = by_bytes c.args.constants.now in
    let ps = map read_piece c.args.pieces.now in
    let qs = map read_parameter c.in_ok-parameters.parameters.items in
    let gs = map read_given c.in_ok-list.list.items in
    let first : ParameterValues = record { constants = c.new.result; known = c.in_ok-early_names.field-0 } in
    let v = c.bind_constants.new.values in
    let fit : gs ≡ block_given ps = c.in_ok-list.ensures ∙ ap (λ z. given_from (map read_parameter z) []) c.deref.ensures.value ∙ ap (λ z. given_from z []) c.in_ok-parameters.ensures in
    let early : AreEarly valueless_of qs [] ps c.in_ok-early_names.field-0 = rw c.deref-2.ensures.value at c.in_ok-early_names.ensures in
    let start = block_start outer cs qs ps first v c.in_ok-parameters.ensures early c.in_ok-bind_constants.ensures in
    let none : meaning_of c.alone-nowhere.result ≡ nowhere = fun_ext (λ n. ap (λ (z : Bindings). meaning_of z n) (c.alone-nowhere.ensures ∙ c.new-nothing.ensures)) in
    let adds : AddsConstants nowhere outer gs v c.add_constants.new.values = subst (λ (z : Environment). AddsConstants z outer gs v c.add_constants.new.values) none (rw c.deref-3.ensures.value at c.in-Ok.ensures.ok) in
    block_are outer cs ps gs first v c.add_constants.new.values fit c.new.ensures.items c.in_ok-bind_constants.ensures start adds

pub block_refusal-requires : goal.block_refusal-requires
block_refusal-requires c =
    let outer = nested_names c.args.outer.now in
    let cs = by_bytes c.args.constants.now in
    let ps = map read_piece c.args.pieces.now in
    let qs = map read_parameter c.in_ok-parameters.parameters.items in
    let gs = map read_given c.in_ok-list.list.items in
    let first : ParameterValues = record { constants = c.new.result; known = c.in_ok-early_names.field-0 } in
    let v = c.bind_constants.new.values in
    let fit : gs ≡ block_given ps = c.in_ok-list.ensures ∙ ap (λ z. given_from (map read_parameter z) []) c.deref.ensures.value ∙ ap (λ z. given_from z []) c.in_ok-parameters.ensures in
    let early : AreEarly valueless_of qs [] ps c.in_ok-early_names.field-0 = rw c.deref-2.ensures.value at c.in_ok-early_names.ensures in
    let start = block_start outer cs qs ps first v c.in_ok-parameters.ensures early c.in_ok-bind_constants.ensures in
    let none : meaning_of c.alone-nowhere.result ≡ nowhere = fun_ext (λ n. ap (λ (z : Bindings). meaning_of z n) (c.alone-nowhere.ensures ∙ c.new-nothing.ensures)) in
    let refused : RefusesValues false (λ w. outer_faults w nowhere gs) (λ w. own_faults w nowhere (meaning_of (v.known ++ outer)) gs) c.in-Err.refusal =
    subst (λ (z : Environment). RefusesValues false (λ w. outer_faults w z gs) (λ w. own_faults w z (meaning_of (v.known ++ outer)) gs) c.in-Err.refusal) none (rw c.deref-3.ensures.value at c.in-Err.ensures.fault) in
    (block_faults outer cs ps, block_refused outer cs ps gs (meaning_of (v.known ++ outer)) c.in-Err.refusal fit start refused)

pub returns-clause-fault : goal.returns-clause-fault
returns-clause-fault c =
    let outer = nested_names c.args.outer.now in
    let cs = by_bytes c.args.constants.now in
    let ps = map read_piece c.args.pieces.now in
    let qs = map read_parameter c.in_ok-parameters.parameters.items in
    let gs = map read_given c.in_ok-list.list.items in
    let first : ParameterValues = record { constants = c.new.result; known = c.in_ok-early_names.field-0 } in
    let v = c.bind_constants.new.values in
    let fit : gs ≡ block_given ps = c.in_ok-list.ensures ∙ ap (λ z. given_from (map read_parameter z) []) c.deref.ensures.value ∙ ap (λ z. given_from z []) c.in_ok-parameters.ensures in
    let early : AreEarly valueless_of qs [] ps c.in_ok-early_names.field-0 = rw c.deref-2.ensures.value at c.in_ok-early_names.ensures in
    let start = block_start outer cs qs ps first v c.in_ok-parameters.ensures early c.in_ok-bind_constants.ensures in
    let none : meaning_of c.alone-nowhere.result ≡ nowhere = fun_ext (λ n. ap (λ (z : Bindings). meaning_of z n) (c.alone-nowhere.ensures ∙ c.new-nothing.ensures)) in
    let refused : RefusesValues false (λ w. outer_faults w nowhere gs) (λ w. own_faults w nowhere (meaning_of (v.known ++ outer)) gs) c.in-Err.refusal =
    subst (λ (z : Environment). RefusesValues false (λ w. outer_faults w z gs) (λ w. own_faults w z (meaning_of (v.known ++ outer)) gs) c.in-Err.refusal) none (rw c.deref-3.ensures.value at c.in-Err.ensures.fault) in
    c.block_refusal.ensures (block_faults outer cs ps) (block_refused outer cs ps gs (meaning_of (v.known ++ outer)) c.in-Err.refusal fit start refused)
