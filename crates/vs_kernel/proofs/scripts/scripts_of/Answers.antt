use Rattle.std.proofs.Common.{◌≡◌, ◌∙◌, ◌++◌, ◌∷◌, [], ◌+◌, Some, List, length, slice_get, take, refl, ap, subst, sym}
use Rattle.std.proofs.lemmas.List.{take_more, take_all}
use Rattle.std.proofs.lemmas.Option.{slice_get_read}
use Rattle.vs_design.specs.declared.statement.Statement.{Statement}
use Rattle.vs_kernel.proofs.ScriptLemmas.{AreOf, are_scripts, counted, of_more}
use Rattle.vs_kernel.proofs.scripts.scripts_of.Goals as goal

pub new-requires : goal.new-requires
new-requires c =
    let codes = c.args.codes.now in
    let i = c.loop-code.code-index in
    let at : slice_get codes i ≡ Some c.code-item.result = slice_get_read codes (length codes) i c.code-item.result refl c.loop-code-test.true c.code-item.is in
    record { numbered = counted c.args.design.now c.is_well_formed.ensures i c.code-item.result (subst (λ (xs : List Statement). slice_get xs i ≡ Some c.code-item.result) c.requires at) }

pub loop-code-preserved : goal.loop-code-preserved
loop-code-preserved c =
    let codes = c.args.codes.now in
    let i = c.loop-code.code-index in
    let code = c.code-item.result in
    let next : take (i + 1) codes ≡ take i codes ++ code ∷ [] = take_more codes i code c.loop-code-test.true ∙ ap (λ (x : Statement). take i codes ++ x ∷ []) (sym c.code-item.is) in
    rw (next, c.in_ok-push.ensures.items)
    (of_more c.args.design.now.signals (take i codes) c.loop-code.scripts.items code c.in_ok-script.script c.loop-code.invariant c.in_ok-script.ensures.signals c.in_ok-script.ensures.starts
    c.instructions.ensures.apart)

pub returns : goal.returns
returns c = are_scripts c.args.design.now c.loop-code.scripts.items
    (subst (λ (xs : List Statement). AreOf c.args.design.now.signals xs c.loop-code.scripts.items)
    (take_all c.loop-code.code-index c.args.codes.now c.loop-code-test.false ∙ c.requires) c.loop-code.invariant)
