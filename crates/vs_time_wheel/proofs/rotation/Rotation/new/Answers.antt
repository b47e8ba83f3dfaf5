use Rattle.std.proofs.Common.{◌≡◌, ◌∷◌, [], ◌++◌, length, length-append, ap, ◌∙◌, arith}
use Rattle.vs_time_wheel.specs.Rotation.{slot_at}
use Rattle.vs_time_wheel.proofs.Slots.{flagged_free, free_push}
use Rattle.vs_time_wheel.proofs.rotation.Rotation.new.Goals as goal

pub invariant_of-result : goal.invariant_of-result
invariant_of-result g c = flagged_free c.loop.slots.items (omega arith) c.loop.invariant.free

pub loop-preserved : goal.loop-preserved
loop-preserved g c =
    let e : c.push.new.self.items ≡ c.loop.slots.items ++ c.new.result ∷ [] = c.in_default.ensures.items in
    record {
      count = let h : length c.push.new.self.items ≡ length (c.loop.slots.items ++ c.new.result ∷ []) = ap length e in omega (arith, h, length-append c.loop.slots.items (c.new.result ∷ []));
      free = λ i. ap (λ xs. slot_at xs i) e ∙ ap (λ x. slot_at (c.loop.slots.items ++ x ∷ []) i) c.new.ensures ∙ free_push c.loop.slots.items c.loop.invariant.free i;
    }
