use Rattle.std.proofs.Common.{◌≡◌, ◌≤◌, ◌++◌, false, true, sym, ap, ◌∙◌, arith}
use Rattle.std.specs.Option.{ForSome}
use Rattle.vs_time_wheel.specs.Bag.{least_time, oldest_at}
use Rattle.vs_time_wheel.specs.Front.{front, IsDue}
use Rattle.vs_time_wheel.proofs.Bags.{SameBag-sym}
use Rattle.vs_time_wheel.proofs.Fronts.{from_here, from_behind, from_taken, apart_from_test, none_due, oldest_at-none, without_none}
use Rattle.vs_time_wheel.proofs.wheel_queue.WheelEventQueue.take_due.Goals as goal

pub invariant_of-self-then-is_due : goal.invariant_of-self-then-is_due
invariant_of-self-then-is_due g c =
    let clock : c.self.inside.now ≡ c.args.self.now.clock = ap (λ q. q.clock) c.self.view_is in
    let on : ForSome (least_time (front c.self.inside.first ++ c.self.inside.others.bag)) (λ next. c.args.time ≤ next) = rw (ap (λ q. q.bag) c.self.view_is) c.requires.none_before in
    record {
      not_over = omega (arith, c.self.invariant.not_over, c.requires.not_over);
      from_now = rw c.take.ensures.after (from_behind c.args.time c.self.inside.first c.self.inside.others.bag on);
    }

pub invariant_of-self-then-eq : goal.invariant_of-self-then-eq
invariant_of-self-then-eq g c =
    let on : ForSome (least_time (front c.self.inside.first ++ c.self.inside.others.bag)) (λ next. c.args.time ≤ next) = rw (ap (λ q. q.bag) c.self.view_is) c.requires.none_before in
    record {
      not_over = c.take-then-eq.ensures.not_over;
      from_now = from_taken c.args.time c.self.inside.first c.take-then-eq.new.self.bag c.self.inside.others.bag on c.take-then-eq.ensures.rest;
    }

pub invariant_of-self-else-eq : goal.invariant_of-self-else-eq
invariant_of-self-else-eq g c =
    let clock : c.self.inside.now ≡ c.args.self.now.clock = ap (λ q. q.clock) c.self.view_is in
    let on : ForSome (least_time (front c.self.inside.first ++ c.self.inside.others.bag)) (λ next. c.args.time ≤ next) = rw (ap (λ q. q.bag) c.self.view_is) c.requires.none_before in
    record {
      not_over = omega (arith, c.self.invariant.not_over, c.requires.not_over);
      from_now = from_here c.args.time (front c.self.inside.first ++ c.self.inside.others.bag) on;
    }

pub returns-clause-oldest : goal.returns-clause-oldest
returns-clause-oldest g c =
    let on : ForSome (least_time (front c.self.inside.first ++ c.self.inside.others.bag)) (λ next. c.args.time ≤ next) = rw (ap (λ q. q.bag) c.self.view_is) c.requires.none_before in
    let apart : IsDue c.args.time c.self.inside.first → ⊥ = λ due. absurd (let k : false ≡ true = c.if-is_due.ensures.1 due in cc) in
    let other = apart_from_test c.next_time.result (least_time c.self.inside.others.bag) c.args.time c.next_time.ensures c.if-eq.ensures in
    sym (ap (λ q. oldest_at c.args.time q.bag) (sym c.self.view_is) ∙ oldest_at-none c.args.time _ (none_due c.args.time c.self.inside.first c.self.inside.others.bag apart on other))

pub returns-clause-rest : goal.returns-clause-rest
returns-clause-rest g c =
    let on : ForSome (least_time (front c.self.inside.first ++ c.self.inside.others.bag)) (λ next. c.args.time ≤ next) = rw (ap (λ q. q.bag) c.self.view_is) c.requires.none_before in
    let apart : IsDue c.args.time c.self.inside.first → ⊥ = λ due. absurd (let k : false ≡ true = c.if-is_due.ensures.1 due in cc) in
    let other = apart_from_test c.next_time.result (least_time c.self.inside.others.bag) c.args.time c.next_time.ensures c.if-eq.ensures in
    rw (← c.self.view_is) (SameBag-sym (without_none c.args.time _ (none_due c.args.time c.self.inside.first c.self.inside.others.bag apart on other)))
