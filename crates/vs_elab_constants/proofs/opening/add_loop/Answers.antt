use Rattle.std.proofs.Common.{ℕ, List, ◌++◌, ap, ap₂, sym, ◌∙◌, arith}
use Rattle.std.proofs.lemmas.Result.{err_from_is_err_and}
use Rattle.vs_scopes.specs.vs_widths.specs.declared.constants.Const.{Const}
use Rattle.vs_widths.specs.Names.{meaning_of}
use Rattle.vs_scopes.specs.Pieces.{content_of}
use Rattle.vs_scopes.specs.Reads.{read_content, referred}
use Rattle.vs_scopes.specs.Generate.{turns_of}
use Rattle.vs_scopes.specs.scopes_passes.Names.{read_part}
use Rattle.vs_elab_constants.specs.Reads.{read_inners}
use Rattle.vs_elab_constants.specs.generate_passes.Opening.{turn_blocks}
use Rattle.vs_elab_constants.proofs.OpeningLemmas.{content_nothing, loop_refused, loop_nothing, loop_nameless, loop_opened}
use Rattle.vs_elab_constants.proofs.opening.add_loop.Goals as goal

pub returns-in_err-values : goal.returns-in_err-values
returns-in_err-values c = λ ns a.
    let h = c.args.header.now in
    let p = err_from_is_err_and c.from_residual.result c.from_residual.ensures.1 in
    rw (p.1, p.2) (loop_refused c.args.place ns c.args.number h.name.items (turns_of (meaning_of c.args.names.now) h) (content_of c.args.item.now) _ c.in_err-values.ensures)

pub returns-in_default : goal.returns-in_default
returns-in_default c = λ ns a.
    let h = c.args.header.now in
    loop_nothing c.args.place ns c.args.number h.name.items (turns_of (meaning_of c.args.names.now) h) (content_of c.args.item.now) c.in_ok-values.values.items (read_inners c.args.inners.now.items) c.in_ok-values.ensures.1
    (sym c.content_of.ensures ∙ content_nothing c.content_of.result c.in_default.not-Block)

pub returns-in_err-name : goal.returns-in_err-name
returns-in_err-name c = λ ns a.
    let h = c.args.header.now in
    let v = c.in_ok-values.values in
    let p = err_from_is_err_and c.from_residual-in_err-name.result c.from_residual-in_err-name.ensures.1 in
    rw (p.1, p.2)
    (loop_nameless c.args.place ns c.args.number h.name.items (turns_of (meaning_of c.args.names.now) h) (content_of c.args.item.now) v.items (referred c.in-Block.name) c.in-Block.items.now _ c.in_ok-values.ensures.1 (omega (arith, v.ok.0, c.len.ensures))
    (sym c.content_of.ensures ∙ ap read_content c.in-Block.is) (c.in_err-name.ensures ns a))

pub returns : goal.returns
returns c = λ ns a.
    let h = c.args.header.now in
    let v = c.in_ok-values.values in
    let n = read_part c.in_ok-name.name in
    let old = read_inners c.args.inners.now.items in
    let made = ap₂ (λ (g : List ℕ) (cs : List Const). old ++ turn_blocks c.args.place n g c.in-Block.items.now cs) c.deref.ensures.value c.deref-2.ensures.value in
    loop_opened c.args.place ns c.args.number h.name.items (turns_of (meaning_of c.args.names.now) h) (content_of c.args.item.now) v.items (referred c.in-Block.name) c.in-Block.items.now n old (read_inners c.add_turns.new.inners.items) c.in_ok-values.ensures.1
    (sym c.content_of.ensures ∙ ap read_content c.in-Block.is) (c.in_ok-name.ensures ns a).1 (c.in_ok-add_turns.ensures ∙ made)
