use Rattle.std.proofs.Common.{◌∙◌, ◌++◌, ◌∷◌, [], ap, append_assoc, replicate}
use Rattle.std.specs.Prelude.{codes}
use Rattle.std.proofs.lemmas.List.{replicate_more}
use Rattle.vs_scopes.proofs.printed.numbered_name.Goals as goal

pub loop-zero-preserved : goal.loop-zero-preserved
loop-zero-preserved c =
    c.in_ok-push.ensures.items ∙ ap (λ z. z ++ 48 ∷ []) c.loop-zero.invariant ∙ append_assoc (codes "genblk") (replicate c.loop-zero._zero 48) (48 ∷ []) ∙ ap (λ z. codes "genblk" ++ z) (replicate_more c.loop-zero._zero 48)
