use Rattle.std.proofs.Common.{◌≡◌, ◌∙◌, ◌+◌, ◌∷◌, ◌++◌, [], ℕ, List, length, map, take, sym, ap, subst, arith}
use Rattle.std.specs.declared.alloc.Global.{Global}
use Rattle.std.specs.declared.vec.Vec.{Vec}
use Rattle.std.proofs.lemmas.List.{map-append, take_more}
use Rattle.vs_process.specs.Texts.{Text}
use Rattle.vs_kernel.specs.Starting.{AreCounted}
use Rattle.vs_kernel.proofs.StartLemmas.{counted_more}
use Rattle.vs_kernel.proofs.start.counters_of.Goals as goal

pub loop-script-preserved : goal.loop-script-preserved
loop-script-preserved c =
    let scripts : List Text = c.args.scripts.now in
    let i : ℕ = c.loop-script.script-index in
    let x : Text = c.script-item.result in
    let v : Vec ℕ Global = c.in_ok-vec.field-0 in
    let counts : Vec ℕ Global → List ℕ = λ k. k.items in
    let old : List (Vec ℕ Global) = c.loop-script.counters.items in
    let taken : take (i + 1) scripts ≡ take i scripts ++ x ∷ [] =
    take_more scripts i x c.loop-script-test.true ∙ ap (λ (y : Text). take i scripts ++ y ∷ []) (sym c.script-item.is)
    in
    let pushed : map counts c.push.new.self.items ≡ map counts old ++ counts v ∷ [] = ap (map counts) c.in_ok-push.ensures.items ∙ map-append counts old (v ∷ []) in
    let long : length v.items ≡ x.counters = omega (arith, c.in_ok-vec.ensures.len, c.counters-count.ensures) in
    subst (λ (l : List Text). AreCounted l (map counts c.push.new.self.items)) (sym taken)
    (subst (AreCounted (take i scripts ++ x ∷ [])) (sym pushed) (counted_more (take i scripts) (map counts old) x v.items c.loop-script.invariant long))
