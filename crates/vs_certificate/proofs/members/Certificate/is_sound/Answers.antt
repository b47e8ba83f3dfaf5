use Rattle.std.proofs.Common.{true≢false, sym, ◌∙◌}
use Rattle.vs_certificate.proofs.Law.{narrow_sound, sound_narrow, sound_weaker}
use Rattle.vs_certificate.proofs.members.Certificate.is_sound.Goals as goal

pub returns-then-is_narrow : goal.returns-then-is_narrow
returns-then-is_narrow c =
    (λ h. narrow_sound c.args.self.now (sym c.is_narrow.ensures ∙ c.if-is_narrow.true) (c.is_sound_wide.ensures.0 h), λ s. c.is_sound_wide.ensures.1 (sound_weaker _ s))

pub returns-else-is_narrow : goal.returns-else-is_narrow
returns-else-is_narrow c = (λ h. absurd (true≢false (sym h ∙ c.if-is_narrow.false)), λ s. c.is_narrow.ensures ∙ sound_narrow c.args.self.now s)
