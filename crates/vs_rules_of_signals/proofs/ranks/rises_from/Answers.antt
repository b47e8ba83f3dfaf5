use Rattle.std.proofs.Common.{ℕ, ◌≤◌, ◌↔◌, List, true, false, IsTrue, refl, subst, arith}
use Rattle.std.specs.List.{Contains}
use Rattle.vs_design.specs.vs_logic4.proofs.Basics.{all_do, one_not}
use Rattle.vs_rules_of_signals.specs.Ranks.{rank_of}
use Rattle.vs_rules_of_signals.proofs.ListLemmas.{further}
use Rattle.vs_rules_of_signals.proofs.ranks.rises_from.Goals as goal

pub loop-next-preserved : goal.loop-next-preserved
loop-next-preserved c =
    further (λ (q : ℕ). rank_of c.args.ranks.now c.args.place ≤ rank_of c.args.ranks.now q) c.nexts-next-items.result.now c.loop-next.next-index c.loop-next.invariant (c.if-not-is_up_to.ensures.0 refl)

pub returns-then-not-is_up_to : goal.returns-then-not-is_up_to
returns-then-not-is_up_to c =
    subst (λ (xs : List ℕ). IsTrue false ↔ ((q : ℕ) → Contains xs q → rank_of c.args.ranks.now c.args.place ≤ rank_of c.args.ranks.now q)) c.nexts-next-items.ensures
    (one_not (λ (q : ℕ). rank_of c.args.ranks.now c.args.place ≤ rank_of c.args.ranks.now q) c.nexts-next-items.result.now c.loop-next.next-index (omega arith) (λ p. c.if-not-is_up_to.ensures.1 p))

pub returns : goal.returns
returns c =
    subst (λ (xs : List ℕ). IsTrue true ↔ ((q : ℕ) → Contains xs q → rank_of c.args.ranks.now c.args.place ≤ rank_of c.args.ranks.now q)) c.nexts-next-items.ensures
    (all_do (λ (q : ℕ). rank_of c.args.ranks.now c.args.place ≤ rank_of c.args.ranks.now q) c.nexts-next-items.result.now c.loop-next.next-index (omega arith) c.loop-next.invariant)
