use Rattle.std.proofs.Common.{refl, sym, ◌∙◌}
use Rattle.vs_slots_constants.proofs.ClockLemmas.{known_is, known_back}
use Rattle.vs_slots.proofs.settings.set_at.Goals as goal

pub returns-then-not-is_now : goal.returns-then-not-is_now
returns-then-not-is_now c digit = (λ h. let f = c.if-not-is_now.ensures.1 h.0 in cc, λ e. cc)

pub returns : goal.returns
returns c digit = (
  λ h. c.known.ensures ∙ known_is c.in_ok-given.given digit (c.in_ok-given.ensures ∙ h.2) h.1,
  λ e.
      let k = known_back c.in_ok-given.given digit (sym c.known.ensures ∙ e) in
      (c.if-not-is_now.ensures.0 refl, k.1, sym c.in_ok-given.ensures ∙ k.0),
)
