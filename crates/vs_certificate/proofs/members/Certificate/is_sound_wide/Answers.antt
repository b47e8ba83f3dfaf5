use Rattle.std.proofs.Common.{true≢false, sym, ◌∙◌}
use Rattle.vs_certificate.specs.Reading.{is_unknown_version}
use Rattle.vs_certificate.proofs.Law.{sound_wide, own_words}
use Rattle.vs_certificate.proofs.members.Certificate.is_sound_wide.Goals as goal

pub returns-then-has_own_words : goal.returns-then-has_own_words
returns-then-has_own_words c =
    (λ h. sound_wide c.args.self.now (sym c.has_own_words.ensures ∙ c.if-has_own_words.true) (sym c.is_within_limits.ensures ∙ h), λ s. c.is_within_limits.ensures ∙ s.limits)

pub returns-else-has_own_words : goal.returns-else-has_own_words
returns-else-has_own_words c = (λ h. absurd (true≢false (sym h ∙ c.if-has_own_words.false)), λ s. c.has_own_words.ensures ∙ own_words is_unknown_version c.args.self.now s)
