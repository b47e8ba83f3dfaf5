use Rattle.std.proofs.Common.{◌++◌, refl}
use Rattle.vs_time_wheel.specs.Bag.{least_time}
use Rattle.vs_time_wheel.specs.Front.{front}
use Rattle.vs_time_wheel.proofs.Bags.{IsFrom-snoc}
use Rattle.vs_time_wheel.proofs.Fronts.{displaced, IsFrom-same, put_back, from_kept}
use Rattle.vs_time_wheel.proofs.wheel_queue.displace.Goals as goal

pub returns-in-Ok-clause-added : goal.returns-in-Ok-clause-added
returns-in-Ok-clause-added g c =
    displaced c.args.first.now c.in-Some.held c.replace.new.dest c.args.time c.args.event (least_time c.args.others.now.bag) c.add.new.self.bag c.args.others.now.bag c.in-Some.ensures.value c.replace.ensures.after
    refl c.requires.makes_way c.in-Ok.ensures.added

pub returns-in-Ok-clause-in_front : goal.returns-in-Ok-clause-in_front
returns-in-Ok-clause-in_front g c = record {
  not_over = c.add.ensures.not_over;
  from_now = IsFrom-same c.args.now _ _
      (displaced c.args.first.now c.in-Some.held c.replace.new.dest c.args.time c.args.event (least_time c.args.others.now.bag) c.add.new.self.bag c.args.others.now.bag c.in-Some.ensures.value c.replace.ensures.after
      refl c.requires.makes_way c.in-Ok.ensures.added)
      (IsFrom-snoc c.args.now c.args.time (front c.args.first.now ++ c.args.others.now.bag) c.args.event c.requires.in_front.from_now c.requires.from_now);
}

pub returns-in-Some-replace-clause-in_front : goal.returns-in-Some-replace-clause-in_front
returns-in-Some-replace-clause-in_front g c = record {
  not_over = c.add.ensures.not_over;
  from_now = from_kept c.args.now c.args.first.now c.replace-in-Err.new.dest c.add.new.self.bag c.args.others.now.bag
      (put_back c.args.first.now c.replace-in-Err.new.dest c.in-Some.held.time c.in-Err.full.event c.in-Some.held.event c.replace-in-Err.ensures.after c.in-Err.ensures.handed_back c.in-Some.ensures.value)
      c.in-Err.ensures.unchanged c.requires.in_front.from_now;
}
