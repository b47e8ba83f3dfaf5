use Rattle.std.proofs.Common.{◌≡◌, ◌≤◌, ◌⊎◌, ℕ, suc, ◌+◌, ◌-◌, List, refl, sym, ◌∙◌, subst, arith}
use Rattle.std.specs.List.{Contains}
use Rattle.vs_design.specs.declared.range.BitRange.{BitRange}
use Rattle.vs_claims.specs.vs_maps.specs.Ranges.{reads_at, HasSignal}
use Rattle.vs_cert_blocks.specs.Early.{IsScanned}
use Rattle.vs_cert_blocks.proofs.EarlyLemmas.{early_more, none_early, scan_begins, scan_more}
use Rattle.vs_cert_blocks.proofs.early.early_ranges.Goals as goal

pub loop-back-init : goal.loop-back-init
loop-back-init c = (
  scan_begins c.args.tables.now c.args.seeds.now c.greatest_of-high.result (suc c.greatest_of-high.result - 0) c.least_of-least.result c.none-seen.result c.requires.woken (omega arith)
      c.greatest_of-high.ensures c.least_of-least.ensures.each,
  none_early c.args.tables.now c.new-out.result.items c.new-out.ensures.items,
)

pub loop-back-preserved : goal.loop-back-preserved
loop-back-preserved c =
    let t = c.args.tables.now in
    let high = c.greatest_of-high.result in
    let back = c.loop-back.back in
    let p = high - back in
    let low : back ≤ high = c.if-back-high.false in
    let here : suc high - back ≡ suc p = omega (arith, low) in
    let next : suc high - (back + 1) ≡ p = omega (arith, low) in
    let seen = c.loop-back.seen in
    let more = c.in_ok-more.more in
    let so = subst (λ (n : ℕ). IsScanned t high n c.loop-back.least seen) here c.loop-back.invariant.0 in
    let calm = c.if-not-is_at_once.ensures.0 refl in
    let read = c.row.ensures ∙ c.requires.reads p in
    let noted : (v : ℕ) → Contains seen v ⊎ HasSignal (reads_at t p) v → Contains more v =
    subst (λ (l : List BitRange). (v : ℕ) → Contains seen v ⊎ HasSignal l v → Contains more v) read c.in_ok-more.ensures in
    let up = subst (λ (l : List ℕ). (q : ℕ) → Contains l q → q ≤ high) c.tos.ensures.are (c.if-not-are_up_to.ensures.0 refl) in
    let each = subst (λ (l : List ℕ). (q : ℕ) → Contains l q → c.least_of-least-in-loop-back.result ≤ q) c.tos-in-loop-back.ensures.are c.least_of-least-in-loop-back.ensures.each in (
      subst (λ (n : ℕ). IsScanned t high n c.least_of-least-in-loop-back.result more) (sym next) (scan_more t high p c.loop-back.least c.least_of-least-in-loop-back.result seen more so calm noted up c.least_of-least-in-loop-back.ensures.few each),
      early_more t high p c.loop-back.least seen more c.loop-back.out.items c.push_early.new.out.items so calm noted c.loop-back.invariant.1 c.in_ok-push_early.ensures,
    )
