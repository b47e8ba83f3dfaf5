use Rattle.std.proofs.Common.{◌≡◌, ℕ, ◌+◌, suc, [], ◌∷◌, ◌++◌, List, Bool, map, ◌∙◌, ap, arith}
use Rattle.vs_rules_of_starts.specs.vs_rules.specs.Claims.{blocks_of}
use Rattle.vs_rules_of_starts.specs.vs_rules.specs.Verdict.{numbers}
use Rattle.vs_cert_check.proofs.Wired.{mark_is, marks_more}
use Rattle.vs_cert_check.proofs.judging.block_marks.Goals as goal

pub loop-i-preserved : goal.loop-i-preserved
loop-i-preserved c =
    let d = c.args.facts.now.design in
    let n = c.args.facts.now.claims in
    let here : c.loop-i.i ≡ 0 + c.loop-i.i = omega arith in
    let next : suc c.loop-i.i ≡ c.loop-i.i + 1 = omega arith in
    c.in_ok-push.ensures.items ∙ ap (λ (bs : List Bool). bs ++ c.is_block.result ∷ []) c.loop-i.invariant
    ∙ ap (λ (b : Bool). map (blocks_of d n) (numbers 0 c.loop-i.i) ++ b ∷ [])
    (mark_is d n c.loop-i.i c.is_block.result c.is_block.ensures ∙ ap (blocks_of d n) here)
    ∙ marks_more (blocks_of d n) 0 c.loop-i.i ∙ ap (λ (k : ℕ). map (blocks_of d n) (numbers 0 k)) next
