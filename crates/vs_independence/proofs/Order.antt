-- The rules on drivers: their order, who writes their outputs, and that nothing touches blocks at first.
use Rattle.std.proofs.Common.{◌≡◌, ℕ, zero, suc, ◌<◌, ◌||◌, ◌⊎◌, Bool, true, false, Option, Some, None, List, [], ◌∷◌, get_or, slice_get, if◌then◌else◌, refl, sym, ◌∙◌, ap, subst, inl, inr, arith}
use Rattle.std.specs.List.{Contains}
use Rattle.std.proofs.lemmas.Bool.{cases_Bool, true≢false, false≢true}
use Rattle.vs_design.specs.declared.design.Assign.{Assign}
use Rattle.vs_design.specs.declared.range.BitRange.{BitRange}
use Rattle.vs_design.specs.Parts.{Parts}
use Rattle.vs_design.specs.Uses.{covers, is_of, writes}
use Rattle.vs_design.specs.WellFormed.{WellFormed}
use Rattle.vs_design.specs.Writes.{names}
use Rattle.vs_process.specs.declared.gait.Gait.{Gait}
use Rattle.vs_process.specs.Nexts.{erased, erased_next}
use Rattle.vs_process.specs.Places.{Todo, Place, going, sleeping, inactive, waiting, ended, active_at, stepped_gait}
use Rattle.vs_process.specs.Steps.{Next, on, after, wait, Out, step}
use Rattle.vs_independence.specs.vs_process.specs.States.{start, place_after_step, paused}
use Rattle.std.proofs.lemmas.Map.Keys.{any_passes_from_place as at_any}
use Rattle.vs_design.specs.vs_logic4.proofs.Basics.{element_of as any_at}
use Rattle.vs_independence.specs.vs_process.proofs.WellFormed.{variable_undriven}
use Rattle.vs_rules.specs.vs_process.specs.Bits.{SharesBit}
use Rattle.vs_rules.specs.vs_process.specs.Threads.{Thread, iterate, writes as wrote_by, found, opening, early_at, early_turn, IsEarly}
use Rattle.vs_rules.specs.vs_process.proofs.Held.{puts_covered}
use Rattle.vs_rules.specs.vs_process.proofs.ThreadLists.{contains_at}
use Rattle.vs_rules.specs.Claims.{Name, place_of}
use Rattle.vs_rules.specs.Points.{Point, first_todo, nexts_by}
use Rattle.vs_rules.proofs.Points.{step_goes}
use Rattle.vs_rules.specs.Claims.{Claims, is_block_kind, blocks_of, HasStart, IsWriter, IsSecond, IsSequential, is_wide, sources}
use Rattle.vs_rules.specs.Paths.{Bit, PathBy, begins, goes, is_plain, IsPrologue, WritesNow, Writes, writes_of}
use Rattle.vs_rules.specs.Drivers.{Driver, assign, block, driver_name, Precedes, IsSource, WritesBit}
use Rattle.vs_rules.specs.Rules.{K2, K4, needs}
use Rattle.vs_rules.specs.Blocks.{K11}
use Rattle.vs_independence.specs.Discipline.{Reaches, IsOrdered}
use Rattle.vs_rules.specs.vs_process.specs.BlockDrivers.{puts_into, puts_out, IsSource as IsFree, NamesSources, control}
use Rattle.vs_independence.proofs.Beginning.{path_point, start_first}
use Rattle.vs_independence.proofs.Cones.{ControlNames, is_block, out_writes, into_writes, source_of, reach_cone}
use Rattle.vs_independence.proofs.RulesFire.{Begun, role}
use Rattle.vs_independence.proofs.Firing.{one_writer}
use Rattle.vs_rules.proofs.Texts.{writes_now}
use Rattle.vs_independence.specs.RuleLaws.{roles_of}
use Rattle.vs_independence.proofs.Walks.{Leads, log_cases}
use Rattle.vs_independence.proofs.Words.{step_now}

-- ---- the order

abbrev rank_in : List Name → Option Name → ℕ
rank_in order None = 0
rank_in order (Some name) = place_of name order

abbrev rank_of : Parts → Claims → Driver → ℕ
rank_of d c x = rank_in c.order (driver_name d x)

before_less : (d : Parts) (c : Claims) (x y : Driver) → Precedes d c x y → rank_of d c x < rank_of d c y
before_less d c x y h =
    let low : rank_of d c x ≡ place_of h.one c.order = ap (rank_in c.order) h.is in
    let high : rank_of d c y ≡ place_of h.other c.order = ap (rank_in c.order) h.other_is in
    let less : place_of h.one c.order < place_of h.other c.order = h.before in
    omega (arith, less, low, high)

never_self : (d : Parts) (c : Claims) (x y : Driver) → ⊥ ⊎ Precedes d c y x → rank_of d c y < rank_of d c x
never_self d c x y (inl never) = absurd never
never_self d c x y (inr h) = before_less d c y x h

-- the order of the certificate is one of the drivers
pub ordered : (d : Parts) (c : Claims) → ((x : Driver) → K4 d c x) → IsOrdered d (roles_of d c)
ordered d c r = record {
  rank = λ j. rank_of d c (assign j);
  block_rank = λ k. rank_of d c (block k);
  falls = λ i j a b q at_i at_j con shares.
      never_self d c (assign j) (assign i)
      ((r (assign j)).earlier q (bit q (writes a.target) shares) (assign i) tt (b, at_j, (con, tt)) shares.bit shares.has tt (assign_writes i a q at_i shares));
  falls_from_block = λ k j b q blk at_j con shares.
      never_self d c (assign j) (block k)
      ((r (assign j)).earlier q (bit q (writes_of d k) shares) (block k) tt (b, at_j, (con, tt)) shares.bit shares.has (is_block d c k blk) (block_writes k q shares));
  falls_to_block = λ i k a q at_i blk con out shares.
      never_self d c (block k) (assign i)
      ((r (block k)).earlier q (bit q (writes a.target) shares) (assign i) (is_block d c k blk) (con, tt) shares.bit shares.has tt (assign_writes i a q at_i shares));
  falls_between = λ l k q lblk kblk con out shares.
      elim ((r (block k)).earlier q (bit q (writes_of d l) shares) (block l) (is_block d c k kblk) (con, tt) shares.bit shares.has (is_block d c l lblk) (block_writes l q shares)) [
        | inl same ↦
            let into = puts_covered d l q q.signal shares.word shares.place shares.bit shares.listed shares.has in
            let own = into_writes d k q (subst (λ n. puts_into d n q ≡ true) same into) in
            absurd (true≢false (sym (out_of d k q.signal own) ∙ out))
        | inr less ↦ before_less d c (block l) (block k) less
      ];
}
  where
    bit : (q : BitRange) (rs : List BitRange) → SharesBit d rs q → Bit
    bit q rs shares = record { signal = q.signal; word = shares.word; place = shares.place }

    assign_writes : (i : ℕ) (a : Assign) (q : BitRange) → slice_get d.assigns i ≡ Some a → (s : SharesBit d (writes a.target) q) → WritesBit d (assign i) (bit q (writes a.target) s)
    assign_writes i a q at_i s =
        let found = any_at (covers q.signal s.word s.place) (writes a.target) s.listed in
        record { range = found.1; writes = (a, at_i, (contains_at (writes a.target) found.0 found.1 found.2, tt)); has = found.3 }

    block_writes : (k : ℕ) (q : BitRange) (s : SharesBit d (writes_of d k) q) → WritesBit d (block k) (bit q (writes_of d k) s)
    block_writes k q s =
        let found = any_at (covers q.signal s.word s.place) (writes_of d k) s.listed in
        record { range = found.1; writes = (contains_at (writes_of d k) found.0 found.1 found.2, tt); has = found.3 }

    out_of : (d : Parts) (k v : ℕ) → Writes d k v → puts_out d k v ≡ true
    out_of d k v w =
        let there = Rattle.vs_rules.specs.vs_process.proofs.ThreadLists.place_of (writes_of d k) w.range w.listed.0 in
        at_any (is_of v) (writes_of d k) there.0 w.range there.1 (Rattle.vs_design.specs.vs_logic4.proofs.Basics.same_self w.range.signal v w.of)

-- no two blocks write one signal
pub exclusive : (d : Parts) (c : Claims) → WellFormed d → ((v : ℕ) → K2 d c v) → (k l v : ℕ) → blocks_of d c k ≡ true → blocks_of d c l ≡ true → puts_out d k v ≡ true → puts_out d l v ≡ true → k ≡ l
exclusive d c formed r k l v kb lb ko lo = by_roles ((r v).named k wk) ((r v).named l wl)
  where
    wk : Writes d k v
    wk = out_writes d k v ko

    wl : Writes d l v
    wl = out_writes d l v lo

    by_roles : IsWriter d c v k ⊎ IsSecond d c v k → IsWriter d c v l ⊎ IsSecond d c v l → k ≡ l
    by_roles (inl x) (inl y) = one_writer d c formed v k l x y
    by_roles (inr x) y = absurd ((r v).no_block k k x (is_block d c k kb) wk)
    by_roles (inl x) (inr y) = absurd ((r v).no_block l l y (is_block d c l lb) wl)

-- ---- before the first delay

abbrev Early : Parts → Claims → ℕ → Place → Type 0
Early d c i (going gait k) = IsPrologue d (is_wide c) i (erased k)
Early d c i _ = Unit {0}

early_active : (d : Parts) (c : Claims) (i : ℕ) (gait : Gait) (k : Todo) → IsPrologue d (is_wide c) i (erased k) → Early d c i (active_at gait k)
early_active d c i gait [] h = tt
early_active d c i gait (x ∷ k) h = h

early_paused : (d : Parts) (c : Claims) (i time ticks : ℕ) (k : Todo) → Early d c i (paused time ticks k)
early_paused d c i time ticks k = Rattle.std.proofs.lemmas.Bool.cond_both (Rattle.std.proofs.Common.◌==◌ ticks 0) (inactive k) (sleeping (Rattle.std.proofs.Common.◌+◌ time ticks) k) (Early d c i) (λ e. tt) (λ e. tt)

early_behind : (d : Parts) (c : Claims) (i time : ℕ) (gait : Gait) (k : Todo) (next : Next) → IsPrologue d (is_wide c) i (erased k) → Leads c (erased k) (erased_next next) → Early d c i (place_after_step (going gait k) time next)
early_behind d c i time gait k (on l) h g = early_active d c i (stepped_gait gait) l (goes (erased k) (erased l) (on (erased l)) h g refl refl)
early_behind d c i time gait k (after number ticks l) h g = early_paused d c i time ticks l
early_behind d c i time gait k (wait number terms l) h g = tt

record EarlyThread (d : Parts) (c : Claims) (i : ℕ) (th : Thread) : Type 0 where
  place : Early d c i th.place
  wrote : (v : ℕ) → wrote_by th v ≡ true → (k : Todo) × IsPrologue d (is_wide c) i k × WritesNow d k v

early_thread : (d : Parts) (c : Claims) (i time : ℕ) (p : Place) (th : Thread) → th.place ≡ p → EarlyThread d c i th → EarlyThread d c i (early_at time i p th)
early_thread d c i time (going gait k) th e h = record {
  place = early_behind d c i time gait k out.next point (step_goes (is_wide c) k th.view time);
  wrote = λ v w. elim (log_cases th.log out.write v w) [
    | inl new ↦ (erased k, point, step_now d k th.view time new.0 v new.1 new.2)
    | inr old ↦ h.wrote v old
  ];
}
  where
    out : Out
    out = step k th.view time

    point : IsPrologue d (is_wide c) i (erased k)
    point = subst (Early d c i) e h.place
early_thread d c i time (sleeping due k) th e h = h
early_thread d c i time (inactive k) th e h = h
early_thread d c i time (waiting terms k) th e h = h
early_thread d c i time ended th e h = h

early_iterate : (d : Parts) (c : Claims) (i time n : ℕ) (th : Thread) → EarlyThread d c i th → EarlyThread d c i (iterate n (early_turn time i) th)
early_iterate d c i time zero th h = h
early_iterate d c i time (suc n) th h = let one = iterate n (early_turn time i) th in early_thread d c i time one.place one refl (early_iterate d c i time n th h)

early_start : (d : Parts) (c : Claims) (i : ℕ) (p : Place) → get_or (start d).places i ended ≡ p → Early d c i p
early_start d c i (going gait k) e = subst (PathBy (nexts_by (is_wide c)) is_plain (first_todo d i)) (start_first d i gait k e) begins
early_start d c i (sleeping due k) e = tt
early_start d c i (inactive k) e = tt
early_start d c i (waiting terms k) e = tt
early_start d c i ended e = tt

early_found : (d : Parts) (c : Claims) (blocks : ℕ → Bool) (i : ℕ) → Early d c i (found blocks (start d) i)
early_found d c blocks i = elim (cases_Bool (blocks i)) [
  | inl hit ↦ subst (λ x. Early d c i (if x then ended else get_or (start d).places i ended)) (sym hit) tt
  | inr miss ↦ subst (λ x. Early d c i (if x then ended else get_or (start d).places i ended)) (sym miss) (early_start d c i (get_or (start d).places i ended) refl)
]

-- a thread of a process that has nothing to do writes nothing
ended_early : (time i n : ℕ) (th : Thread) → th.place ≡ ended → iterate n (early_turn time i) th ≡ th
ended_early time i zero th e = refl
ended_early time i (suc n) th e = ap (early_turn time i) (ended_early time i n th e) ∙ subst (λ p. early_at time i p th ≡ th) (sym e) refl

-- before any delay has ended no process writes what can reach the control of a block
pub first : (d : Parts) (c : Claims) → Begun d c (start d) → ControlNames d c → (i k u : ℕ) (r : BitRange) (th : Thread) → IsEarly (blocks_of d c) (start d) i th → blocks_of d c k ≡ true →
    Contains (control d k) r → wrote_by th u ≡ true → Reaches d (blocks_of d c) u r → ⊥
first d c g names i k u r th is blk con w reach = by_role (role d c (start d) g i)
  where
    begin : Thread
    begin = opening (blocks_of d c) (start d) i None

    early : EarlyThread d c i th
    early = subst (EarlyThread d c i) is.is (early_iterate d c i 0 is.count begin (record { place = early_found d c (blocks_of d c) i; wrote = λ v h. absurd (false≢true h) }))

    by_role : IsSequential d c i ⊎ (found (blocks_of d c) (start d) i ≡ ended) → ⊥
    by_role (inr e) = false≢true (subst (λ t. wrote_by t u ≡ true) (sym is.is ∙ ended_early 0 i is.count begin e) w)
    by_role (inl seq) =
        let wrote = early.wrote u w in
        let text = writes_now d i wrote.0 u (path_point d (is_wide c) i is_plain (first_todo d i) wrote.0 Point.begins wrote.1) wrote.2 in
        (g.rules.first_slot i).untouched wrote.0 u r wrote.1 wrote.2 (needs k (is_block d c k blk) (inr (names k r blk con))) (reach_cone d c u r names reach (source_of d c (start d) g i u seq text))

-- ---- starts

-- a block with start `sources` waits for what no driver writes
pub names_sources : (d : Parts) (c : Claims) → WellFormed d → ControlNames d c → (k : ℕ) → K11 d c k → HasStart d c k sources → NamesSources d (blocks_of d c) k
names_sources d c formed names k r start_is q con out = by_source (r sources start_is q (names k q (ap is_block_kind start_is) con))
  where
    by_source : IsSource d c q.signal ⊎ Writes d k q.signal → IsFree d (blocks_of d c) q.signal
    by_source (inr own) =
        let there = Rattle.vs_rules.specs.vs_process.proofs.ThreadLists.place_of (writes_of d k) own.range own.listed.0 in
        absurd (true≢false (sym (at_any (is_of q.signal) (writes_of d k) there.0 own.range there.1 (Rattle.vs_design.specs.vs_logic4.proofs.Basics.same_self own.range.signal q.signal own.of)) ∙ out))
    by_source (inl src) = record {
      undriven = variable_undriven d formed q.signal src.variable;
      unwritten = λ j blk. elim (cases_Bool (puts_out d j q.signal)) [
        | inl hit ↦ absurd (src.undriven j (is_block d c j blk) (out_writes d j q.signal hit))
        | inr miss ↦ miss
      ];
    }
