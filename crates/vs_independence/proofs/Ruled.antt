-- A design that keeps the rules keeps its processes apart in every slot.
use Rattle.std.proofs.Common.{◌≡◌, ℕ, true, Option, Some, None, [], slice_get, refl, sym, ◌∙◌, ap, subst, inl, inr}
use Rattle.std.specs.List.{Contains}
use Rattle.std.proofs.lemmas.Bool.{cases_Bool, false≢true}
use Rattle.vs_design.specs.vs_logic4.proofs.Basics.{element_of as any_at}
use Rattle.vs_design.specs.declared.range.BitRange.{BitRange}
use Rattle.vs_design.specs.declared.signal.Signal.{Signal}
use Rattle.vs_design.specs.declared.statement.EventTerm.{EventTerm}
use Rattle.vs_design.specs.Parts.{Parts}
use Rattle.vs_design.specs.Uses.{writes}
use Rattle.vs_design.specs.WellFormed.{WellFormed}
use Rattle.vs_independence.specs.vs_process.specs.declared.moves.Grain.{Grain}
use Rattle.vs_independence.specs.vs_process.specs.States.{start}
use Rattle.vs_independence.specs.vs_process.proofs.WellFormed.{variable_undriven}
use Rattle.vs_independence.specs.Discipline.{Disciplined as IsDisciplined, Leads, stays, goes_through, goes_past}
use Rattle.vs_independence.proofs.WellFormed.{drives_well}
use Rattle.vs_independence.proofs.Whole.{independent}
use Rattle.vs_rules.specs.vs_process.specs.Bits.{meet_in}
use Rattle.vs_rules.specs.vs_process.specs.BlockDrivers.{IsSource as IsFree, StartsAs, control, puts_into, puts_out}
use Rattle.vs_rules.specs.vs_process.specs.BlockDrivers as a
use Rattle.vs_rules.specs.vs_process.specs.Edges.{Copies, IsHeard}
use Rattle.vs_rules.specs.vs_process.proofs.ThreadLists.{contains_at}
use Rattle.vs_rules.specs.vs_process.proofs.Outputs.{outputs_undriven}
use Rattle.vs_rules.specs.Claims.{Claims, Kind, Start, block, edges, delays, mixed, cold, sources, starter, blocks_of, is_block_kind, kind_of, HasStart, is_wide, signal_name}
use Rattle.vs_rules.specs.Drivers.{Driver, Passes}
use Rattle.vs_rules.specs.Drivers as v
use Rattle.vs_rules.specs.Paths.{HasTerm, writes_of}
use Rattle.vs_rules.specs.Rules.{IsSoundRoot}
use Rattle.vs_rules.specs.Verdict.{Disciplined as IsKept, Keeping}
use Rattle.vs_independence.specs.RuleLaws.{ClocksTurn, TimeRises, RulesDiscipline, RulesMakeIndependent, start_in, roles_of}
use Rattle.vs_independence.proofs.Begins.{first_begun, shape_at}
use Rattle.vs_independence.proofs.Cold.{starts_cold}
use Rattle.vs_independence.proofs.Cones.{ControlNames, is_block, delay_alone, out_writes}
use Rattle.vs_independence.proofs.RulesFire.{Begun, sequential_of}
use Rattle.vs_independence.proofs.Follow.{follows}
use Rattle.vs_independence.proofs.Heard.{heard_stands}
use Rattle.vs_independence.proofs.Keeps.{keeping}
use Rattle.vs_independence.proofs.Inverses.{copies_root}
use Rattle.vs_independence.proofs.Order.{ordered, exclusive, first, names_sources}
use Rattle.vs_independence.proofs.Phases.{clock_turns}
use Rattle.vs_independence.proofs.Rises.{time_rises}
use Rattle.vs_independence.proofs.Roots.{entry_root}
use Rattle.vs_independence.proofs.Runs.{Static, rules_keep_apart}
use Rattle.vs_independence.proofs.Shapes.{control_names}
use Rattle.vs_independence.proofs.Started.{starts_moved}
use Rattle.vs_independence.proofs.Threads.{hears_level}
use Rattle.vs_independence.proofs.Waits.{heard_signal}

-- each signal that an event control of a process of another kind than comb names has its value from a root, a source
edges_copy : (grain : Grain) (d : Parts) (c : Claims) → WellFormed d → Keeping d c → (v : ℕ) → IsHeard d (blocks_of d c) v → (root : ℕ) × Copies d root v × IsFree d (blocks_of d c) root
edges_copy grain d c formed r v h =
    let entry = entry_root d c r v signal.0.path.items (ap signal_name signal.1)
    (record { process = h.number; term = term.0; has = term.1; edge = hears_level d c r h.number term.0 (sequential_of d c r h.number h.process h.is h.other) term.1; of = term.2 }) in
    let six = r.roots v in
    (entry.0, copies_root d formed (is_wide c) entry.0 v (six.root entry.0 entry.1).variable (six.copies entry.0 entry.1), free entry.0 (six.root entry.0 entry.1))
  where
    term : (t : EventTerm) × HasTerm d h.number t × (t.range.signal ≡ v)
    term = heard_stands d h.number h.process v h.is h.hears

    signal : (s : Signal) × (slice_get d.signals v ≡ Some s)
    signal = heard_signal d formed h.number v h.process h.is h.hears

    free : (root : ℕ) → IsSoundRoot d c root → IsFree d (blocks_of d c) root
    free root six = record {
      undriven = variable_undriven d formed root six.variable;
      unwritten = λ k blk. elim (cases_Bool (puts_out d k root)) [
        | inl hit ↦ absurd (delay_alone d c (start d) (first_begun grain d c formed r) six.writer.0 k root six.writer.2 six.writer.1 blk (out_writes d k root hit))
        | inr miss ↦ miss
      ];
    }

-- what stands before a range stands before what that range leads to
lead_passes : (d : Parts) (c : Claims) → ControlNames d c → (y : Driver) (q p : BitRange) → Leads d (blocks_of d c) q p → Passes d c y p → Passes d c y q
lead_passes d c names y q _ (stays r e) h = subst (Passes d c y) e h
lead_passes d c names y q _ (goes_through p r j x is reads into more) h =
    let found = any_at (λ (w : BitRange). meet_in d w r) (writes x.target) into in
    lead_passes d c names y q r more (v.through r found.1 p (v.assign j) tt (x, is, (contains_at (writes x.target) found.0 found.1 found.2, tt)) found.3 (x, is, (reads, tt)) h)
lead_passes d c names y q _ (goes_past p r k blk con puts more) h =
    let found = any_at (λ (w : BitRange). meet_in d w r) (writes_of d k) puts in
    lead_passes d c names y q r more (v.through r found.1 p (v.block k) (is_block d c k blk) (contains_at (writes_of d k) found.0 found.1 found.2, tt) found.3 (inr (names k p blk con)) h)

-- no block with a starter leads to one that starts cold
unstarted : (d : Parts) (c : Claims) → Keeping d c → (k l : ℕ) (q r : BitRange) → HasStart d c k cold → Contains (control d k) q → HasStart d c l starter → puts_into d l r ≡ true → Leads d (blocks_of d c) q r → ⊥
unstarted d c rules k l q r cold_k con start_l puts leads =
    let at_k : blocks_of d c k ≡ true = ap is_block_kind cold_k in
    let at_l : blocks_of d c l ≡ true = ap is_block_kind start_l in
    let names = control_names d c rules.blocks in
    let found = any_at (λ (w : BitRange). meet_in d w r) (writes_of d l) puts in
    let first : Passes d c (v.block l) r = v.here r found.1 (is_block d c l at_l) (contains_at (writes_of d l) found.0 found.1 found.2, tt) found.3 in
    (rules.starts k cold cold_k).no_starter l q (inr (names k q at_k con)) (lead_passes d c names (v.block l) q r leads first) start_l

-- a block whose start is so in the dynamic half has that start
cold_of : (o : Option Kind) → is_block_kind o ≡ true → start_in o ≡ a.cold → o ≡ Some (block cold)
cold_of None h e = absurd (false≢true h)
cold_of (Some (block cold)) h e = refl
cold_of (Some (block sources)) h e = cc
cold_of (Some (block starter)) h e = cc
cold_of (Some edges) h e = absurd (false≢true h)
cold_of (Some (delays lists)) h e = absurd (false≢true h)
cold_of (Some (mixed lists)) h e = absurd (false≢true h)

starter_of : (o : Option Kind) → start_in o ≡ a.starter → o ≡ Some (block starter)
starter_of None e = cc
starter_of (Some (block cold)) e = cc
starter_of (Some (block sources)) e = cc
starter_of (Some (block starter)) e = refl
starter_of (Some edges) e = cc
starter_of (Some (delays lists)) e = cc
starter_of (Some (mixed lists)) e = cc

-- what the rules give before any slot but the first is known
static : (grain : Grain) (d : Parts) (c : Claims) → WellFormed d → Keeping d c → c.grain ≡ grain → TimeRises grain d → Static grain d c
static grain d c formed r same up = record {
  formed = formed;
  rules = r;
  up = up;
  set = record {
    well = drives_well d formed;
    z = record {
      follows = λ k blk. follows d c k (record { rule = r.blocks k; blk = is_block d c k blk; shaped = shape_at d c r k blk });
      exclusive = λ k l v kb lb ko lo. exclusive d c formed r.writers k l v kb lb ko lo;
      own = λ k v blk hit. outputs_undriven d formed k v hit;
    };
    order = ordered d c r.order;
    unstarted = λ k l q p at_k cold_k con at_l start_l puts leads.
        unstarted d c r k l q p (cold_of (kind_of d c k) at_k cold_k) con (starter_of (kind_of d c l) start_l) puts leads;
    starts = λ k blk. by_start k blk (is_block d c k blk).0 (is_block d c k blk).1;
    first = λ i k u q th is blk con w reach. first d c begun_first (control_names d c r.blocks) i k u q th is blk con w reach;
  };
  grained = λ k blk. sym same ∙ (r.blocks k).grain (is_block d c k blk);
  edges = λ v h. edges_copy grain d c formed r v h;
}
  where
    begun_first : Begun d c (start d)
    begun_first = first_begun grain d c formed r

    at_start : (k : ℕ) (s : Start) → HasStart d c k s → StartsAs d (blocks_of d c) k (start_in (Some (block s))) → StartsAs d (blocks_of d c) k (start_in (kind_of d c k))
    at_start k s is h = subst (λ (o : Option Kind). StartsAs d (blocks_of d c) k (start_in o)) (sym is) h

    by_start : (k : ℕ) → blocks_of d c k ≡ true → (s : Start) → HasStart d c k s → StartsAs d (blocks_of d c) k (start_in (kind_of d c k))
    by_start k blk cold is = at_start k cold is (starts_cold d c k (r.blocks k) (r.starts k) (shape_at d c r k blk) is)
    by_start k blk sources is = at_start k sources is (names_sources d c formed (control_names d c r.blocks) k (r.starts k) is)
    by_start k blk starter is =
        let named = r.starts k starter is in
        at_start k starter is (starts_moved d c formed r begun_first (clock_turns grain d c formed r up (start d) (record { moves = []; legal = tt; at_start = tt; is = refl })) k (shape_at d c r k blk) blk named.0 named.1 named.2)

pub static_of : (grain : Grain) (d : Parts) (c : Claims) → WellFormed d → IsKept d c → c.grain ≡ grain → Static grain d c
static_of grain d c formed dis same = static grain d c formed (keeping d c formed dis) same (time_rises grain d)

-- the rules give what the dynamic half asks for
pub rules_discipline : RulesDiscipline
rules_discipline grain d c formed dis same = record {
  ordered = h.set.order;
  edges = h.edges;
  grained = h.grained;
  follows = h.set.z.follows;
  exclusive = h.set.z.exclusive;
  starts_cold = λ k is. starts k cold is;
  starts_by_sources = λ k is. starts k sources is;
  starts_by_starter = λ k is. starts k starter is;
  unstarted = λ k l q r cold_k con start_l puts leads. unstarted d c h.rules k l q r cold_k con start_l puts leads;
  first = h.set.first;
  apart = λ b slot. rules_keep_apart grain d c h b slot;
}
  where
    h : Static grain d c
    h = static_of grain d c formed dis same

    starts : (k : ℕ) (s : Start) → HasStart d c k s → StartsAs d (blocks_of d c) k (start_in (Some (block s)))
    starts k s is = subst (λ (o : Option Kind). StartsAs d (blocks_of d c) k (start_in o)) is (h.set.starts k (ap is_block_kind is))

pub clocks_turn : ClocksTurn
clocks_turn grain d c formed dis b h = clock_turns grain d c formed (keeping d c formed dis) (time_rises grain d) b h

-- the rules make a discipline
abbrev pub discipline : (d : Parts) (c : Claims) → Static c.grain d c → IsDisciplined c.grain d
discipline d c h = record {
  roles = roles_of d c;
  grained = h.grained;
  follows = h.set.z.follows;
  exclusive = h.set.z.exclusive;
  starts = h.set.starts;
  unstarted = h.set.unstarted;
  ordered = h.set.order;
  edges = h.edges;
  apart = λ b slot. rules_keep_apart c.grain d c h b slot;
  first = h.set.first;
}

-- and so its traces do not depend on the order of its steps
pub rules_make_independent : RulesMakeIndependent
rules_make_independent d c formed dis = independent c.grain d formed (discipline d c (static_of c.grain d c formed dis refl))
