use Rattle.std.proofs.Common.{◌≡◌, ◌≤◌, ◌⊎◌, inl, ℕ, suc, ◌+◌, ◌-◌, List, refl, sym, ◌∙◌, subst, arith}
use Rattle.std.specs.List.{Contains}
use Rattle.vs_design.specs.declared.range.BitRange.{BitRange}
use Rattle.vs_claims.specs.vs_maps.specs.Ranges.{reads_at, HasSignal}
use Rattle.vs_cert_blocks.specs.Early.{IsScanned}
use Rattle.vs_cert_blocks.proofs.EarlyLemmas.{scan_begins, scan_more}
use Rattle.vs_cert_blocks.proofs.StartLemmas.{next_join, no_join, no_starts, starts_more, still_join}
use Rattle.vs_cert_blocks.proofs.starts.starts.Goals as goal

pub loop-back-init : goal.loop-back-init
loop-back-init c = record {
  scanned = scan_begins c.args.tables.now c.args.seeds.now c.greatest_of-high.result (suc c.greatest_of-high.result - 0) c.least_of-least.result c.none-seen.result c.requires.woken (omega arith)
      c.greatest_of-high.ensures c.least_of-least.ensures.each;
  join = no_join c.args.tables.now c.none-seen.result;
  starts = no_starts c.args.tables.now c.new-starts.result c.new-starts.ensures.empty;
}

pub loop-back-preserved : goal.loop-back-preserved
loop-back-preserved c =
    let t = c.args.tables.now in
    let high = c.greatest_of-high.result in
    let back = c.loop-back.back in
    let p = high - back in
    let low : back ≤ high = c.if-back-high.false in
    let here : suc high - back ≡ suc p = omega (arith, low) in
    let next : suc high - (back + 1) ≡ p = omega (arith, low) in
    let seen = c.loop-back.seen in
    let more = c.in_ok-more.more in
    let so = subst (λ (n : ℕ). IsScanned t high n c.loop-back.least seen) here c.loop-back.invariant.scanned in
    let calm = c.if-not-is_at_once.ensures.0 refl in
    let noted : (v : ℕ) → Contains seen v ⊎ HasSignal (reads_at t p) v → Contains more v =
    subst (λ (l : List BitRange). (v : ℕ) → Contains seen v ⊎ HasSignal l v → Contains more v) (c.row.ensures ∙ c.requires.reads p) c.in_ok-more.ensures in
    let up = subst (λ (l : List ℕ). (q : ℕ) → Contains l q → q ≤ high) c.tos.ensures.are (c.if-not-are_up_to.ensures.0 refl) in
    let each = subst (λ (l : List ℕ). (q : ℕ) → Contains l q → c.least_of-least-in-loop-back.result ≤ q) c.tos-in-loop-back.ensures.are c.least_of-least-in-loop-back.ensures.each in
    let joined = next_join t high p c.loop-back.least seen c.loop-back.join c.last_join-join.result so c.loop-back.invariant.join c.last_join-join.ensures in
    let still = still_join t seen more c.last_join-join.result (λ v h. noted v (inl h)) joined in record {
      scanned = subst (λ (n : ℕ). IsScanned t high n c.least_of-least-in-loop-back.result more) (sym next)
          (scan_more t high p c.loop-back.least c.least_of-least-in-loop-back.result seen more so calm noted up c.least_of-least-in-loop-back.ensures.few each);
      join = still;
      starts = starts_more t more c.last_join-join.result c.loop-back.starts c.put_starts.new.starts still c.loop-back.invariant.starts c.in_ok-put_starts.ensures;
    }
