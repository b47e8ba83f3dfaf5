use Rattle.std.proofs.Common.{◌≡◌, [], ◌∷◌, ◌++◌, length, map, refl, ap, sym, ◌∙◌}
use Rattle.std.specs.List.{flat_map}
use Rattle.std.proofs.lemmas.Result.{err_from_is_err_and}
use Rattle.vs_design.specs.declared.design.Entry.TheVariants.{Enter}
use Rattle.vs_scopes.specs.vs_widths.specs.declared.bindings.Binding.TheVariants as b
use Rattle.vs_elab_signals.specs.vs_scopes.specs.Reads.{read_piece}
use Rattle.vs_scopes.specs.Printed.{printed_part}
use Rattle.vs_scopes.specs.Declarations.{bound_to, genvars_in, inner_names_among}
use Rattle.vs_scopes.specs.scopes_passes.Answers.{borrowed}
use Rattle.vs_scopes.specs.scopes_passes.Names.{read_path}
use Rattle.vs_elab_signals.specs.declared.opened.Numbering.{Numbering}
use Rattle.vs_elab_hierarchy.proofs.OwnLemmas.{front_names, genvars_told, others_told, binds}
use Rattle.vs_elab_hierarchy.proofs.own.begin.Goals as goal

pub returns-in_err-bind_all : goal.returns-in_err-bind_all
returns-in_err-bind_all c = λ ss s e at base.
    (let p = err_from_is_err_and c.from_residual-in_err-bind_all.result c.from_residual-in_err-bind_all.ensures.1 in
    let d = c.in_ok-names.ensures ss s e at in
    let number = length c.args.plan.now.signals.items in
    let gs = bound_to b.Genvar (borrowed c.deref-2.result.now) in
    let g : gs ≡ bound_to b.Genvar (flat_map genvars_in s.pieces) =
    ap (λ z. bound_to b.Genvar (borrowed z)) c.deref-2.ensures.value ∙ ap (bound_to b.Genvar) (c.in_ok-genvars.ensures ∙ ap (λ z. flat_map genvars_in (map read_piece z)) c.deref.ensures.value ∙ ap (flat_map genvars_in) e.pieces) in
    rw (p.1, p.2) (genvars_told s number (sym base) gs (bound_to b.Other (inner_names_among s.pieces)) g refl c.in_err-bind_all.field-0.0 (read_path c.args.site.path.now) at.path_is (c.in_err-bind_all.ensures [] (front_names s number) d.keeps.bound)))

pub returns-in_err-bind_all-2 : goal.returns-in_err-bind_all-2
returns-in_err-bind_all-2 c = λ ss s e at base.
    (let p = err_from_is_err_and c.from_residual-in_err-bind_all-2.result c.from_residual-in_err-bind_all-2.ensures.1 in
    let d = c.in_ok-names.ensures ss s e at in
    let number = length c.args.plan.now.signals.items in
    let gs = bound_to b.Genvar (borrowed c.deref-2.result.now) in
    let g : gs ≡ bound_to b.Genvar (flat_map genvars_in s.pieces) =
    ap (λ z. bound_to b.Genvar (borrowed z)) c.deref-2.ensures.value ∙ ap (bound_to b.Genvar) (c.in_ok-genvars.ensures ∙ ap (λ z. flat_map genvars_in (map read_piece z)) c.deref.ensures.value ∙ ap (flat_map genvars_in) e.pieces) in
    let os = bound_to b.Other (borrowed c.deref-4.result.now) in
    let o : os ≡ bound_to b.Other (inner_names_among s.pieces) =
    ap (λ z. bound_to b.Other (borrowed z)) c.deref-4.ensures.value ∙ ap (bound_to b.Other) (c.in_ok-inner.ensures ∙ ap (λ z. inner_names_among (map read_piece z)) c.deref-3.ensures.value ∙ ap inner_names_among e.pieces) in
    rw (p.1, p.2) (others_told s number (sym base) gs os g o c.in_err-bind_all-2.field-0.0 (read_path c.args.site.path.now) at.path_is
    (c.in_err-bind_all-2.ensures [] (front_names s number ++ gs) (c.in_ok-bind_all.ensures [] (front_names s number) d.keeps.bound))))

pub returns : goal.returns
returns c = λ ss s e at base.
    (let d = c.in_ok-names.ensures ss s e at in
    let number = length c.args.plan.now.signals.items in
    let start : Numbering = record { instances = c.args.plan.now.instances; turns = c.args.plan.now.turns; signals = c.args.plan.now.signals; outline = c.push.new.self } in
    let gs = bound_to b.Genvar (borrowed c.deref-2.result.now) in
    let g : gs ≡ bound_to b.Genvar (flat_map genvars_in s.pieces) =
    ap (λ z. bound_to b.Genvar (borrowed z)) c.deref-2.ensures.value ∙ ap (bound_to b.Genvar) (c.in_ok-genvars.ensures ∙ ap (λ z. flat_map genvars_in (map read_piece z)) c.deref.ensures.value ∙ ap (flat_map genvars_in) e.pieces) in
    let os = bound_to b.Other (borrowed c.deref-4.result.now) in
    let o : os ≡ bound_to b.Other (inner_names_among s.pieces) =
    ap (λ z. bound_to b.Other (borrowed z)) c.deref-4.ensures.value ∙ ap (bound_to b.Other) (c.in_ok-inner.ensures ∙ ap (λ z. inner_names_among (map read_piece z)) c.deref-3.ensures.value ∙ ap inner_names_among e.pieces) in
    binds s c.bind_all-2.new.names c.in_ok-names.names c.args.plan.now start c.declare.new.plan c.in_ok-title.title gs os base (c.in_ok-title.ensures ∙ ap printed_part e.title) refl refl refl
    (c.in_ok-push.ensures.items ∙ ap (λ z. c.args.plan.now.outline.items ++ Enter z c.in_ok-title.title ∷ []) e.kind) g o d
    (c.in_ok-bind_all-2.ensures [] (front_names s number ++ gs) (c.in_ok-bind_all.ensures [] (front_names s number) d.keeps.bound)))
