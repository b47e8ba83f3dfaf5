use Rattle.vs_slots.proofs.firing.PlaceFiring.writes.Goals as goal

pub returns-then-not-is_write_of : goal.returns-then-not-is_write_of
returns-then-not-is_write_of c = (λ t. cc, λ h. let f = c.if-not-is_write_of.ensures.1 (h.0, h.1) in cc)
