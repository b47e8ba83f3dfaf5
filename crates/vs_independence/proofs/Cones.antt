-- What reaches a range is in its cone.
use Rattle.std.proofs.Common.{◌≡◌, ℕ, zero, suc, ◌⊎◌, Bool, true, false, Option, Some, None, [], ◌∷◌, slice_get, refl, sym, ◌∙◌, ap, subst, inl, inr}
use Rattle.std.specs.List.{Contains}
use Rattle.std.proofs.lemmas.Bool.{true≢false, false≢true, eqb-true}
use Rattle.std.proofs.lemmas.Option.{none-some, same_Some}
use Rattle.vs_design.specs.declared.design.Assign.{Assign}
use Rattle.vs_design.specs.declared.expression.Typed.{Typed}
use Rattle.vs_design.specs.declared.range.BitRange.{BitRange}
use Rattle.vs_design.specs.declared.signal.Signal.{Signal}
use Rattle.vs_design.specs.Kinds.{is_variable}
use Rattle.vs_design.specs.Parts.{Parts}
use Rattle.vs_design.specs.Uses.{reads, writes, writes_signal}
use Rattle.vs_independence.specs.vs_process.specs.States.{State}
use Rattle.vs_design.specs.vs_logic4.proofs.Basics.{element_of as any_at}
use Rattle.vs_rules.specs.vs_process.specs.Bits.{meet_in}
use Rattle.vs_rules.specs.vs_process.proofs.Bits.{meets_of}
use Rattle.vs_rules.specs.vs_process.proofs.Feeds.{into_named}
use Rattle.vs_rules.specs.vs_process.proofs.ThreadLists.{contains_at, place_of}
use Rattle.vs_rules.specs.Claims.{Claims, Kind, Start, block, edges, delays, mixed, kind_of, is_block_kind, blocks_of, IsBlock, IsDelay, IsSequential, IsWriter, IsSecond, HasKind}
use Rattle.vs_rules.specs.Paths.{writes_of, Writes}
use Rattle.vs_rules.specs.Drivers.{assign, block as block_driver, IsSource, InCone, Names}
use Rattle.vs_rules.specs.Drivers as v
use Rattle.vs_rules.specs.Rules.{IsSoundRoot}
use Rattle.vs_rules.specs.Copies.{IsCopyBy, CopiesRoot, itself, copy, inverse}
use Rattle.vs_rules.specs.vs_process.specs.BlockDrivers.{control, puts_into, puts_out}
use Rattle.vs_independence.specs.Discipline.{Reaches}
use Rattle.vs_independence.specs.Discipline as a
use Rattle.vs_independence.proofs.RulesFire.{Begun, not_block}
use Rattle.vs_independence.proofs.Firing.{one_writer}
use Rattle.vs_independence.proofs.Roots.{variable_alone, whole_reads, inverse_reads}
use Rattle.vs_independence.proofs.Variables.{writes_variable}
use Rattle.vs_independence.proofs.Words.{lists_signal}

-- ---- blocks

block_of : (o : Option Kind) → is_block_kind o ≡ true → (s : Start) × (o ≡ Some (block s))
block_of None h = absurd (false≢true h)
block_of (Some (block s)) h = (s, refl)
block_of (Some edges) h = absurd (false≢true h)
block_of (Some (delays lists)) h = absurd (false≢true h)
block_of (Some (mixed lists)) h = absurd (false≢true h)

pub is_block : (d : Parts) (c : Claims) (k : ℕ) → blocks_of d c k ≡ true → IsBlock d c k
is_block d c k h = block_of (kind_of d c k) h

-- no process of another kind writes what a block writes
pub clash : (d : Parts) (c : Claims) (b : State) → Begun d c b → (i k v : ℕ) → IsSequential d c i → Writes d i v → blocks_of d c k ≡ true → Writes d k v → ⊥
clash d c b g i k v seq wi blk wk = by_roles (r.named i wi) (r.named k wk)
  where
    r : Rattle.vs_rules.specs.Rules.K2 d c v
    r = g.rules.writers v

    by_roles : IsWriter d c v i ⊎ IsSecond d c v i → IsWriter d c v k ⊎ IsSecond d c v k → ⊥
    by_roles (inl x) (inl y) = true≢false (sym blk ∙ ap (blocks_of d c) (one_writer d c g.formed v k i y x) ∙ not_block d c i seq)
    by_roles (inr x) y = r.no_block i k x (is_block d c k blk) wk
    by_roles (inl x) (inr y) = r.no_block k k y (is_block d c k blk) wk

-- a signal with a writer of another kind is written by no block
pub writer_alone : (d : Parts) (c : Claims) (b : State) → Begun d c b → (i k v : ℕ) → IsSequential d c i → IsWriter d c v i → blocks_of d c k ≡ true → Writes d k v → ⊥
writer_alone d c b g i k v seq writer blk wk = by_role ((g.rules.writers v).named k wk)
  where
    by_role : IsWriter d c v k ⊎ IsSecond d c v k → ⊥
    by_role (inl x) = true≢false (sym blk ∙ ap (blocks_of d c) (one_writer d c g.formed v k i x writer) ∙ not_block d c i seq)
    by_role (inr x) = (g.rules.writers v).no_block k k x (is_block d c k blk) wk

pub delay_alone : (d : Parts) (c : Claims) (b : State) → Begun d c b → (i k v : ℕ) → IsDelay d c i → IsWriter d c v i → blocks_of d c k ≡ true → Writes d k v → ⊥
delay_alone d c b g i k v kind writer blk wk = writer_alone d c b g i k v (inr (inl kind)) writer blk wk

-- a block that writes into a range writes its signal
pub into_writes : (d : Parts) (k : ℕ) (r : BitRange) → puts_into d k r ≡ true → Writes d k r.signal
into_writes d k r h =
    let found = any_at (λ (w : BitRange). meet_in d w r) (writes_of d k) h in
    record { range = found.1; listed = (contains_at (writes_of d k) found.0 found.1 found.2, tt); of = eqb-true found.1.signal r.signal (meets_of d found.1 r found.3) }

pub out_writes : (d : Parts) (k v : ℕ) → puts_out d k v ≡ true → Writes d k v
out_writes d k v h = lists_signal d (writes_of d k) v h

-- ---- sources

pub source_of : (d : Parts) (c : Claims) (b : State) → Begun d c b → (i u : ℕ) → IsSequential d c i → Writes d i u → IsSource d c u
source_of d c b g i u seq w = record {
  variable = writes_variable d g.formed i u w;
  undriven = λ k blk wk. clash d c b g i k u seq w (ap is_block_kind blk.1) wk;
}

-- ---- cones

-- the control of a block names its ranges: left to the shape of the text
abbrev pub ControlNames : Parts → Claims → Type 0
ControlNames d c = (k : ℕ) (q : BitRange) → blocks_of d c k ≡ true → Contains (control d k) q → Names d k q

pub reach_cone : (d : Parts) (c : Claims) (u : ℕ) (r : BitRange) → ControlNames d c → Reaches d (blocks_of d c) u r → IsSource d c u → InCone d c u r
reach_cone d c u _ names (a.here r e) src = v.here r src e tt
reach_cone d c u _ names (a.through q r j x reach is reads into) src =
    let found = any_at (λ (w : BitRange). meet_in d w r) (writes x.target) into in
    v.through r found.1 q (assign j) tt (x, is, (contains_at (writes x.target) found.0 found.1 found.2, tt)) found.3 (x, is, (reads, tt)) (reach_cone d c u q names reach src)
reach_cone d c u _ names (a.past q r k reach blk con puts) src =
    let found = any_at (λ (w : BitRange). meet_in d w r) (writes_of d k) puts in
    v.through r found.1 q (block_driver k) (is_block d c k blk) (contains_at (writes_of d k) found.0 found.1 found.2, tt) found.3 (inr (names k q blk con)) (reach_cone d c u q names reach src)

-- ---- roots

net_variable : (d : Parts) (n : ℕ) → HasKind false d n → HasKind true d n → ⊥
net_variable d n x y = true≢false (sym y.2 ∙ ap (λ (s : Signal). is_variable s.kind) (same_Some y.0 x.0 (sym y.1 ∙ x.1)) ∙ x.2)

-- what reaches a net that is a copy, or an inverse copy, reaches what it copies
reach_copy : (d : Parts) (c : Claims) (b : State) → Begun d c b → {is_of : ℕ → Typed → Type 0} (u root n m : ℕ) (r : BitRange) → HasKind true d u → (link : IsCopyBy d is_of n m) →
    (range : BitRange) × (reads link.assign.source ≡ range ∷ []) × (range.signal ≡ m) → r.signal ≡ n → Reaches d (blocks_of d c) u r →
    ((q : BitRange) → q.signal ≡ m → Reaches d (blocks_of d c) u q → u ≡ root) → u ≡ root
reach_copy d c b g u root n m r kind link range e (a.here r' same) on = absurd (net_variable d n link.is_net (subst (HasKind true d) (sym same ∙ e) kind))
reach_copy d c b g u root n m r kind link range e (a.through q r' j x reach is into_q into) on =
    let named : writes_signal x.target n ≡ true = subst (λ n. writes_signal x.target n ≡ true) e (into_named d x.target r into) in
    let number : j ≡ link.number = link.alone j x is (lists_signal d (writes x.target) n named) in
    let same : x ≡ link.assign = same_Some x link.assign (sym is ∙ ap (slice_get d.assigns) number ∙ link.is) in
    on q (only q range.0 (subst (λ rs. Contains rs q) (ap (λ (y : Assign). reads y.source) same ∙ range.1) into_q) range.2) reach
  where
    only : (q w : BitRange) → Contains (w ∷ []) q → w.signal ≡ m → q.signal ≡ m
    only q w c is = let there = place_of (w ∷ []) q c in by_place there.0 there.1
      where
        by_place : (k : ℕ) → slice_get (w ∷ []) k ≡ Some q → q.signal ≡ m
        by_place zero e = ap (λ (x : BitRange). x.signal) (sym (same_Some w q e)) ∙ is
        by_place (suc k) e = absurd (none-some q e)
reach_copy d c b g u root n m r kind link range e (a.past q r' k reach blk con puts) on =
    absurd (net_variable d n link.is_net (writes_variable d g.formed k n (subst (Writes d k) e (into_writes d k r puts))))

-- what reaches a copy of a root, or of its inverse, is the root
pub reach_root : (d : Parts) (c : Claims) (b : State) → Begun d c b → (wide : Bool) (u root n : ℕ) (r : BitRange) → HasKind true d u → IsSoundRoot d c root → CopiesRoot d wide root n →
    r.signal ≡ n → Reaches d (blocks_of d c) u r → u ≡ root
reach_root d c b g wide u root _ r kind sound (itself one) e reach = by_reach r e reach
  where
    by_reach : (r : BitRange) → r.signal ≡ root → Reaches d (blocks_of d c) u r → u ≡ root
    by_reach _ e (a.here r same) = sym same ∙ e
    by_reach _ e (a.through q r j x reach is reads into) =
        absurd (variable_alone d g.formed j x root is (subst (λ n. writes_signal x.target n ≡ true) e (into_named d x.target r into)) sound.variable)
    by_reach _ e (a.past q r k reach blk con puts) =
        absurd (delay_alone d c b g sound.writer.0 k root sound.writer.2 sound.writer.1 blk (subst (Writes d k) e (into_writes d k r puts)))
reach_root d c b g wide u root n r kind sound (copy n' m one link more) e reach =
    reach_copy d c b g u root n m r kind link (whole_reads d m link.assign.source link.copies) e reach (λ q e reach. reach_root d c b g wide u root m q kind sound more e reach)
reach_root d c b g wide u root n r kind sound (inverse n' m is one link more) e reach =
    reach_copy d c b g u root n m r kind link (inverse_reads d m link.assign.source link.copies) e reach (λ q e reach. reach_root d c b g wide u root m q kind sound more e reach)
