use Rattle.std.proofs.Common.{◌≡◌, ◌++◌, ◌∷◌, [], replicate, ◌∙◌, ap, append_assoc, arith}
use Rattle.std.proofs.lemmas.List.{replicate_more}
use Rattle.vs_design.proofs.planes.fill.Goals as goal

pub loop-preserved : goal.loop-preserved
loop-preserved c =
    let before = c.args.plane.now.items in
    let n = c.loop.counter in
    let word = c.args.word in
    c.in_ok-push.ensures.items ∙ ap (λ ws. ws ++ word ∷ []) c.loop.invariant ∙ append_assoc before (replicate n word) (word ∷ []) ∙ ap (λ ws. before ++ ws) (replicate_more n word)

pub returns : goal.returns
returns c =
    let all : c.loop.counter ≡ c.args.count = omega (arith, c.loop-test.false, c.loop.auto.counter-end) in
    c.loop.invariant ∙ ap (λ n. c.args.plane.now.items ++ replicate n c.args.word) all
