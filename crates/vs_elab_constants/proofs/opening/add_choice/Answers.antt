use Rattle.std.proofs.Common.{ap, ◌∙◌}
use Rattle.std.proofs.lemmas.List.{map-append}
use Rattle.std.proofs.lemmas.Result.{err_from_is_err_and}
use Rattle.vs_widths.specs.Names.{meaning_of}
use Rattle.vs_scopes.specs.Pieces.{unboxed}
use Rattle.vs_scopes.specs.Reads.{read_content, referred}
use Rattle.vs_scopes.specs.Generate.{takes, chosen}
use Rattle.vs_scopes.specs.scopes_passes.Names.{read_part}
use Rattle.vs_elab_constants.specs.Reads.{read_inner, read_inners}
use Rattle.vs_elab_constants.proofs.OpeningLemmas.{choice_refused, choice_nothing, choice_nameless, choice_opened}
use Rattle.vs_elab_constants.proofs.opening.add_choice.Goals as goal

pub returns-in_err-name : goal.returns-in_err-name
returns-in_err-name c = λ ns a.
    let t = chosen (meaning_of c.args.names.now) c.args.condition.now c.args.first.now (unboxed c.args.other.now) in
    let p = err_from_is_err_and c.from_residual.result c.from_residual.ensures.1 in
    rw (p.1, p.2) (choice_refused c.args.place ns c.args.number t c.in_err-name.field-0.0 c.in_err-name.ensures)

pub returns-in_default : goal.returns-in_default
returns-in_default c = λ ns a.
    let t = chosen (meaning_of c.args.names.now) c.args.condition.now c.args.first.now (unboxed c.args.other.now) in
    choice_nothing c.args.place ns c.args.number t (read_content c.in_ok-name.field-0) (read_inners c.args.inners.now.items) c.in_ok-name.ensures.1 (ap read_content c.in_default.is)

pub returns-in_err-name-2 : goal.returns-in_err-name-2
returns-in_err-name-2 c = λ ns a.
    let t = chosen (meaning_of c.args.names.now) c.args.condition.now c.args.first.now (unboxed c.args.other.now) in
    let p = err_from_is_err_and c.from_residual-in_err-name-2.result c.from_residual-in_err-name-2.ensures.1 in
    rw (p.1, p.2)
    (choice_nameless c.args.place ns c.args.number t (referred c.in-Block.name) c.in-Block.items.now c.in_err-name-2.field-0.0 (c.in_ok-name.ensures.1 ∙ ap (λ z. takes (read_content z)) c.in-Block.is) (c.in_err-name-2.ensures ns a))

pub returns : goal.returns
returns c = λ ns a.
    let t = chosen (meaning_of c.args.names.now) c.args.condition.now c.args.first.now (unboxed c.args.other.now) in
    let old = c.args.inners.now.items in
    choice_opened c.args.place ns c.args.number t (referred c.in-Block.name) c.in-Block.items.now (read_part c.in_ok-name-2.name) (read_inners old) (read_inners c.append.new.inners.items)
    (c.in_ok-name.ensures.1 ∙ ap (λ z. takes (read_content z)) c.in-Block.is) (c.in_ok-name-2.ensures ns a).1 (ap read_inners c.in_ok-append.ensures ∙ map-append read_inner old _)
