use Rattle.std.proofs.Common.{◌<◌, subst, sym, ℕ}
use Rattle.vs_program_words.proofs.TickLemmas.{ten_pos}
use Rattle.vs_program_words.proofs.ticks.ticks_in.Goals as goal

pub nonzero_rem-whole : goal.nonzero_rem-whole
nonzero_rem-whole c = subst (λ (n : ℕ). 0 < n) (sym c.pow-less.ensures) (ten_pos c.saturating_sub-2.result)

pub nonzero_div-whole : goal.nonzero_div-whole
nonzero_div-whole c = subst (λ (n : ℕ). 0 < n) (sym c.pow-less.ensures) (ten_pos c.saturating_sub-2.result)

pub nonzero_div-result : goal.nonzero_div-result
nonzero_div-result c = subst (λ (n : ℕ). 0 < n) (sym c.pow-less.ensures) (ten_pos c.saturating_sub-2.result)
