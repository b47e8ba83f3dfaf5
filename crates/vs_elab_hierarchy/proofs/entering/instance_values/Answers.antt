use Rattle.std.proofs.Common.{◌≡◌, ℕ, List, [], ◌++◌, IfOk, IfErr, ap, subst, ◌∙◌}
use Rattle.std.proofs.Math.Path.{fun_ext}
use Rattle.vs_elab_constants.specs.vs_widths.specs.Names.{meaning_of, nested_names}
use Rattle.vs_elab_signals.specs.vs_scopes.specs.Declarations.{Bindings}
use Rattle.vs_elab_signals.specs.vs_scopes.specs.Scopes.{environment}
use Rattle.vs_elab_signals.specs.vs_scopes.specs.scopes_passes.Parts.{read_end}
use Rattle.vs_elab_signals.specs.vs_elab_constants.specs.passes.Values.{AreValues, AreNoValues}
use Rattle.vs_elab_hierarchy.proofs.entering.instance_values.Goals as goal

pub returns-clause-ok : goal.returns-clause-ok
returns-clause-ok c = λ ss s a h.
    (let names = c.in_ok-names.names.items in
    let same : c.new-around.result ≡ nested_names names = c.new-around.ensures ∙ ap (λ (z : Bindings). z ++ nested_names c.deref.result.now) c.new-nothing.ensures ∙ ap nested_names c.deref.ensures.value in
    let around : meaning_of c.new-around.result ≡ environment s = ap (λ (z : Bindings). meaning_of z) same ∙ fun_ext (c.in_ok-names.ensures ss s a h) in
    subst (λ z. IfOk c.values.result (AreValues z (read_end c.args.one.now.overrides) c.args.module.now)) around c.values.ensures.ok)

pub returns-clause-fault : goal.returns-clause-fault
returns-clause-fault c = λ ss s a h.
    (let names = c.in_ok-names.names.items in
    let same : c.new-around.result ≡ nested_names names = c.new-around.ensures ∙ ap (λ (z : Bindings). z ++ nested_names c.deref.result.now) c.new-nothing.ensures ∙ ap nested_names c.deref.ensures.value in
    let around : meaning_of c.new-around.result ≡ environment s = ap (λ (z : Bindings). meaning_of z) same ∙ fun_ext (c.in_ok-names.ensures ss s a h) in
    subst (λ z. IfErr c.values.result (AreNoValues z (read_end c.args.one.now.overrides) c.args.module.now)) around c.values.ensures.fault)
