use Rattle.std.proofs.Common.{ℕ, List, ◌≡◌, ◌++◌, ◌-◌, ◌∷◌, [], Ok, ap, arith, length, map, refl, take}
use Rattle.std.specs.Borrow.{Bor}
use Rattle.vs_prep_macros.specs.Parts.{seen}
use Rattle.vs_prep_macros.specs.declared.actuals.Move.TheVariants as m
use Rattle.vs_prep_macros.specs.Actuals.{move_by}
use Rattle.vs_prep_macros.proofs.ActualsRead.{all_left, none_found, pushed_front, same_reading, splits_reading, stays_reading}
use Rattle.vs_prep_macros.proofs.actuals.read_inside.Goals as goal
use Rattle.vs_prep_macros.proofs.actuals.read_inside.Goals.{in-Splits+in_ok-push-in-Splits, in-Stays}

pub loop-piece-init : goal.loop-piece-init
loop-piece-init c =
    let inside = c.args.inside.now in
    (none_found inside (map (λ a. a.now) c.new-actuals.result.items) (ap (map (λ (a : Bor (List ℕ)). a.now)) c.new-actuals.ensures.items), all_left inside, omega arith, omega arith, omega arith)

pub loop-piece-preserved : goal.loop-piece-preserved
loop-piece-preserved c =
    let inside = c.args.inside.now in
    let from = c.loop-piece.from.now in
    let rest = c.loop-piece.rest.now in
    let depth = c.loop-piece.depth in
    let old = c.loop-piece.actuals.items in
    let before = map (λ a. a.now) old in
    let p = seen c.in-Some.piece in
    let first = c.in-Some.ensures.parts in
    let bytes = c.in-Some.ensures.whole in
    let fewer = c.in-Some.ensures.moves in
    let joined = c.match-branch-2 in
    elim c.match-branch-2.branch [
      | in-Splits+in_ok-push-in-Splits w ↦
          let splits : move_by p.form depth (length rest) p ≡ Ok m.Splits = cc (c.in_ok-move_of.ensures, w.in-Splits.is) in
          let pushed : joined.actuals.items ≡ old ++ w.front-in-Splits.result ∷ [] = cc (w.actuals-is, w.in_ok-push-in-Splits.ensures.items) in
          let front = take (length from - length rest) from in
          let more = pushed_front old joined.actuals.items w.front-in-Splits.result front pushed w.front-in-Splits.ensures in
          same_reading inside p.rest p.rest joined.from.now 0 joined.depth (before ++ front ∷ []) (map (λ a. a.now) joined.actuals.items) (ap (λ (r : Bor (List ℕ)). r.now) w.from-is) w.depth-is more
          (splits_reading inside from rest depth (length rest) before p first bytes refl fewer c.loop-piece.invariant (before ++ front ∷ []) splits refl)
      | in-Stays w ↦
          let stays : move_by p.form depth (length rest) p ≡ Ok (m.Stays w.in-Stays.next) = cc (c.in_ok-move_of.ensures, w.in-Stays.is) in
          let same : joined.actuals.items ≡ old = cc w.actuals-is in
          same_reading inside p.rest from joined.from.now w.in-Stays.next joined.depth before (map (λ a. a.now) joined.actuals.items) (ap (λ (r : Bor (List ℕ)). r.now) w.from-is) w.depth-is (ap (map (λ (a : Bor (List ℕ)). a.now)) same)
          (stays_reading inside from rest depth (length rest) before p first bytes refl fewer c.loop-piece.invariant w.in-Stays.next stays)
    ]
