use Rattle.std.proofs.Common.{◌≡◌, ℕ, ◌+◌, ◌++◌, ◌∷◌, [], List, take, get_or, sym, ◌∙◌, ap, arith}
use Rattle.std.specs.Borrow.{Bor}
use Rattle.vs_rules.specs.Claims.{Name}
use Rattle.vs_claims.specs.passes.Placed.{Placed, placed_from}
use Rattle.vs_claims.proofs.IndexLemmas.{placed_more}
use Rattle.vs_claims.proofs.index.with_places.Goals as goal

pub loop-i-preserved : goal.loop-i-preserved
loop-i-preserved c =
    let ns = c.args.names.now in
    let i = c.loop-i.i in
    let d : Bor Name = record { ref_ptr = (0, 0); now = [] } in
    let more = placed_more 0 ns i d (omega arith) in
    let place : 0 + i ≡ i = omega arith in
    c.in_ok-push.ensures.items ∙ ap (λ (ms : List Placed). ms ++ (get_or ns i d, i) ∷ []) c.loop-i.invariant
    ∙ ap (λ (k : ℕ). placed_from 0 (take i ns) ++ (get_or ns i d, k) ∷ []) (sym place) ∙ sym more
