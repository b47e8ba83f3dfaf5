-- A rule that a design keeps, one keeps that says the same: those that aren't of combinational blocks alone.
use Rattle.std.proofs.Common.{◌≡◌, ℕ, ◌%◌, ◌+◌, ◌⊎◌, Bool, true, false, Some, length, refl, ap, sym, subst, ◌∙◌, inl, inr}
use Rattle.vs_design.specs.declared.range.BitRange.{BitRange}
use Rattle.vs_design.specs.Parts.{Parts}
use Rattle.vs_design.specs.Uses.{reads}
use Rattle.vs_process.specs.Numbers.{number_next}
use Rattle.vs_process.specs.Places.{Todo}
use Rattle.vs_process.specs.Steps.{Next, after}
use Rattle.vs_rules.specs.Claims.{Name, Mode, net, unwritten, combinational, nonblocking, blocking, private, both, Claims, writer_in, second_in, IsBlock, IsDelay, IsSequential, is_wide}
use Rattle.vs_rules.specs.Constants.{bit_of}
use Rattle.vs_rules.specs.Drivers.{Driver, block}
use Rattle.vs_rules.specs.Points.{Goes}
use Rattle.vs_rules.specs.Paths.{Bit, any_way, is_plain, is_zero_time, IsPoint, IsHot, WritesNow, reads_of}
use Rattle.vs_rules.specs.Rules.{K1_Signal, K1_Assign, K1_Process, K1_Name, K2, HasWriter, NeverNow, NeverLater, MayBlock, IsPrivate, IsAsModeSays, K3, IsDriven, IsCovered, K4, IsEdgeSignal, IsSoundRoot, K6, Arrives, K7, K8, IsOwnRead, IsOwnEdge, AreApart, K9, FiresNone, K10_Signal, BlockNeeds, needs, shows, K10_Process}
use Rattle.vs_rules.specs.Slots.{DelayEnds, RunsByDelays, HasSlot}
use Rattle.vs_laws.proofs.Cones.{texts_read, texts_control, writes_as, bit_as, driver_as, driver_reads_as, driver_needs_as, stands_before_as, writes_bit_as, source_as, blocking_as, cone_as}
use Rattle.vs_laws.proofs.Copies.{copies_root_as, seen_as}
use Rattle.vs_laws.proofs.Designs.{Twins, back, assign_there}
use Rattle.vs_laws.proofs.Done.{listed_as, number_same, writes_now_as, writes_later_as, writes_any_as, shows_now_as, reads_as, gives_digit_as, HasNumber, read_number, write_number}
use Rattle.vs_laws.proofs.Named.{signal_named_as, process_named_as, assign_named_as, claims_same, writer_as, second_as, mode_as, kind_as, block_as, edge_as, delay_as, mixed_lists_as, mixed_as, waits_for_edges_as, waits_for_times_as, sequential_as, root_of_as, root_as}
use Rattle.vs_laws.proofs.Slots.{delay_ends_as, edge_ends_as, runs_by_delays_as, runs_by_edges_as, has_slot_as, slot_point, write_slot_as, fires_of_as}
use Rattle.vs_laws.proofs.Todos.{AlikeTodo, AlikeNext, both_after, goes_as, todo_turned}
use Rattle.vs_laws.proofs.Walks.{TwinOf, path_by_as, zero_same, goes_after_as, goes_wait_as, point_as, slot0_as, prologue_as, slot0_point, late_as, hot_as, from_point, runs_point, heard_at_start_as, term_as, one_here}

-- one of two, as one of two others
pub either_as : {A B C D : Type 0} → (A → C) → (B → D) → A ⊎ B → C ⊎ D
either_as f g (inl a) = inl (f a)
either_as f g (inr b) = inr (g b)

-- ---- K1

pub k1_signal_as : {d d' : Parts} → Twins d d' → (c : Claims) (v : ℕ) → K1_Signal d c v → K1_Signal d' c v
k1_signal_as t c v h = λ name n. h name (signal_named_as (back t) v name n)

pub k1_assign_as : {d d' : Parts} → Twins d d' → (c : Claims) (j : ℕ) → K1_Assign d c j → K1_Assign d' c j
k1_assign_as t c j h = record {
  listed = λ name n. h.listed name (assign_named_as (back t) j name n);
  no_edge = λ name n. h.no_edge name (assign_named_as (back t) j name n);
}

pub k1_process_as : {d d' : Parts} → Twins d d' → (c : Claims) (i : ℕ) → K1_Process d c i → K1_Process d' c i
k1_process_as t c i h = record {
  listed = λ name n. h.listed name (process_named_as (back t) i name n);
  block_ordered = λ name n b. h.block_ordered name (process_named_as (back t) i name n) (block_as (back t) c i b);
  not_ordered = λ name n b. h.not_ordered name (process_named_as (back t) i name n) (λ x. b (block_as t c i x));
}

pub k1_name_as : {d d' : Parts} → Twins d d' → (c : Claims) (name : Name) → K1_Name d c name → K1_Name d' c name
k1_name_as t c name (inl h) = inl (h.0, signal_named_as t h.0 name h.1)
k1_name_as t c name (inr (inl h)) = inr (inl (h.0, assign_named_as t h.0 name h.1))
k1_name_as t c name (inr (inr h)) = inr (inr (h.0, process_named_as t h.0 name h.1))

-- ---- K2

pub k2_as : {d d' : Parts} → Twins d d' → (c : Claims) (v : ℕ) → K2 d c v → K2 d' c v
k2_as {d} {d'} t c v h =
    let u = back t in
    record {
      named = λ i w. either_as (writer_as t c v i) (second_as t c v i) (h.named i (writes_as u i v w));
      writer_writes = λ name e. let p = h.writer_writes name (ap writer_in (claims_same t c v) ∙ e) in (p.0, writer_as t c v p.0 p.1, writes_as t p.0 v p.2);
      second_writes = λ name e. let p = h.second_writes name (ap second_in (claims_same t c v) ∙ e) in (p.0, second_as t c v p.0 p.1, writes_as t p.0 v p.2);
      no_block = λ i j s b w. h.no_block i j (second_as u c v i s) (block_as u c j b) (writes_as u j v w);
      early = λ i k s p w l.
          let q = late_as u i k l in
          h.early i q.to (second_as u c v i s) (from_point d false i (λ at next. is_plain next ≡ false) any_way q.to q.is) (writes_any_as d' d k q.to v q.same w) q.is;
      first_alone = λ i j l s w o n.
          let q = slot0_as u (is_wide c) j l o in
          h.first_alone i j q.to (second_as u c v i s) (writer_as u c v j w) q.is (writes_now_as d' d l q.to v q.same n);
      first_alone_later = λ i j k l s p n w o m.
          let a = point_as u i k p in
          let q = slot0_as u (is_wide c) j l o in
          h.first_alone_later i j a.to q.to (second_as u c v i s) a.is (writes_later_as d' d k a.to v a.same n) (writer_as u c v j w) q.is (writes_later_as d' d l q.to v q.same m);
    }

-- ---- K3

has_writer_as : {d d' : Parts} → Twins d d' → (c : Claims) (v : ℕ) (P P' : ℕ → Type 0) → ((i : ℕ) → P i → P' i) → HasWriter d c v P → HasWriter d' c v P'
has_writer_as t c v P P' passes h = (h.0, writer_as t c v h.0 h.1, passes h.0 h.2)

never_now_as : {d d' : Parts} → Twins d d' → (v i : ℕ) → NeverNow d v i → NeverNow d' v i
never_now_as {d} {d'} t v i h = λ k p w. let q = point_as (back t) i k p in h q.to q.is (writes_now_as d' d k q.to v q.same w)

never_later_as : {d d' : Parts} → Twins d d' → (v i : ℕ) → NeverLater d v i → NeverLater d' v i
never_later_as {d} {d'} t v i h = λ k p w. let q = point_as (back t) i k p in h q.to q.is (writes_later_as d' d k q.to v q.same w)

may_block_as : {d d' : Parts} → Twins d d' → (c : Claims) (i : ℕ) → MayBlock d c i → MayBlock d' c i
may_block_as t c i (inl h) = inl (delay_as t c i h)
may_block_as t c i (inr (inl h)) = inr (inl (h.0, edge_as t c i h.1))
may_block_as t c i (inr (inr h)) = inr (inr (mixed_as t c i h))

private_as : {d d' : Parts} → Twins d d' → (v i : ℕ) → IsPrivate d v i → IsPrivate d' v i
private_as {d} {d'} t v i h =
    let u = back t in
    record {
      processes = λ j l. h.processes j (listed_as d' d (reads_of d' j) (reads_of d j) v (texts_read u j) l);
      assigns = λ j a e l.
          let o = assign_there u j a e in
          h.assigns j o.other o.is (listed_as d' d (reads a.source) (reads o.other.source) v o.same.sides.source.ranges l);
      terms = λ j term has e. h.terms j term (term_as u j term has) e;
    }

mode_says_as : {d d' : Parts} → Twins d d' → (c : Claims) (v : ℕ) (mode : Mode) → IsAsModeSays d c v mode → IsAsModeSays d' c v mode
mode_says_as t c v net h = kind_as t false v h
mode_says_as t c v unwritten h = λ i w. h i (writes_as (back t) i v w)
mode_says_as {d} {d'} t c v combinational h = has_writer_as t c v (IsBlock d c) (IsBlock d' c) (block_as t c) h
mode_says_as {d} {d'} t c v nonblocking h =
    has_writer_as t c v (λ i. IsSequential d c i × NeverNow d v i) (λ i. IsSequential d' c i × NeverNow d' v i) (λ i w. (sequential_as t c i w.0, never_now_as t v i w.1)) h
mode_says_as {d} {d'} t c v blocking h =
    has_writer_as t c v (λ i. MayBlock d c i × NeverLater d v i) (λ i. MayBlock d' c i × NeverLater d' v i) (λ i w. (may_block_as t c i w.0, never_later_as t v i w.1)) h
mode_says_as {d} {d'} t c v private h =
    has_writer_as t c v (λ i. IsSequential d c i × IsPrivate d v i) (λ i. IsSequential d' c i × IsPrivate d' v i) (λ i w. (sequential_as t c i w.0, private_as t v i w.1)) h
mode_says_as {d} {d'} t c v both h = (h.0, has_writer_as t c v (IsSequential d c) (IsSequential d' c) (sequential_as t c) h.1)

pub k3_as : {d d' : Parts} → Twins d d' → (c : Claims) (v : ℕ) → K3 d c v → K3 d' c v
k3_as t c v h = λ mode m. mode_says_as t c v mode (h mode (mode_as (back t) c v mode m))

-- ---- K4

driven_as : {d d' : Parts} → Twins d d' → (c : Claims) (b : Bit) → IsDriven d c b → IsDriven d' c b
driven_as t c b h = record { driver = h.driver; is = driver_as t c h.driver h.is; writes = writes_bit_as t h.driver b h.writes }

covered_as : {d d' : Parts} → Twins d d' → (c : Claims) (r : BitRange) → IsCovered d c r → IsCovered d' c r
covered_as t c r h = λ b is has. driven_as t c b (h b (bit_as (back t) b is) has)

pub k4_as : {d d' : Parts} → Twins d d' → (c : Claims) (x : Driver) → K4 d c x → K4 d' c x
k4_as t c x h =
    let u = back t in
    record {
      known = λ r i n. either_as (kind_as t false r.signal) (either_as (source_as t c r.signal) (covered_as t c r)) (h.known r (driver_as u c x i) (driver_reads_as u x r n));
      earlier = λ r b y i n is has j w.
          either_as (λ s. s) (stands_before_as t c y x) (h.earlier r b y (driver_as u c x i) (driver_reads_as u x r n) (bit_as u b is) has (driver_as u c y j) (writes_bit_as u y b w));
    }

-- ---- K6

edge_signal_as : {d d' : Parts} → Twins d d' → (v : ℕ) → IsEdgeSignal d v → IsEdgeSignal d' v
edge_signal_as t v h = record { process = h.process; term = h.term; has = term_as t h.process h.term h.has; edge = h.edge; of = h.of }

sound_root_as : {d d' : Parts} → Twins d d' → (c : Claims) (root : ℕ) → IsSoundRoot d c root → IsSoundRoot d' c root
sound_root_as {d} {d'} t c root h =
    let u = back t in
    record {
      variable = kind_as t true root h.variable;
      mode = mode_as t c root blocking h.mode;
      writer = has_writer_as t c root (IsDelay d c) (IsDelay d' c) (delay_as t c) h.writer;
      once = λ i k w p n o.
          let q = hot_as u (is_wide c) i root k o in
          h.once i q.to (writer_as u c root i w) (from_point d (is_wide c) i (λ at next. WritesNow d at root) is_zero_time q.to q.is) (writes_any_as d' d k q.to root q.same n) q.is;
    }

pub k6_as : {d d' : Parts} → Twins d d' → (c : Claims) (v : ℕ) → K6 d c v → K6 d' c v
k6_as t c v h =
    let u = back t in
    record {
      one_entry = λ name n e. h.one_entry name (signal_named_as u v name n) (edge_signal_as u v e);
      no_entry = λ name n e. h.no_entry name (signal_named_as u v name n) (λ x. e (edge_signal_as t v x));
      copies = λ root r. copies_root_as t (is_wide c) root v (h.copies root (root_of_as u c root v r));
      root = λ root r. sound_root_as t c root (h.root root (root_of_as u c root v r));
    }

-- ---- K7

-- the way from a delay control to an event control, in what says the same
record ArrivesToo (d : Parts) (i : ℕ) (one other : Next) : Type 0 where
  delay : Next
  event : Next
  is : Arrives d i delay event
  same : AlikeNext one delay
  same_event : AlikeNext other event

arrives_as : {d d' : Parts} → Twins d d' → (i : ℕ) (delay event : Next) → Arrives d i delay event → ArrivesToo d' i delay event
arrives_as t i delay event h =
    let p = point_as t i h.from h.point in
    let m = goes_after_as h.from p.to h.behind h.number h.ticks p.same (subst (Goes h.from) h.delay_is h.goes) in
    let q = path_by_as true is_zero_time zero_same h.behind m.to h.to m.same h.path in
    let e = goes_as h.to q.to event q.same h.waits in
    record {
      delay = after h.number h.ticks m.to;
      event = e.to;
      is = record {
        from = p.to;
        number = h.number;
        ticks = h.ticks;
        behind = m.to;
        delay_is = refl;
        point = p.is;
        goes = m.is;
        above = h.above;
        to = q.to;
        path = q.is;
        waits = e.goes;
      };
      same = subst (λ (n : Next). AlikeNext n (after h.number h.ticks m.to)) (sym h.delay_is) (both_after h.number h.ticks h.behind m.to m.same);
      same_event = e.same;
    }

pub k7_as : {d d' : Parts} → Twins d d' → (c : Claims) (i : ℕ) → K7 d c i → K7 d' c i
k7_as t c i h =
    let u = back t in
    record {
      events = λ k l number terms e p g.
          let q = point_as u i k p in
          let m = goes_wait_as k q.to l number terms q.same g in
          h.events q.to m.to number terms (waits_for_edges_as u c i e) q.is m.is;
      no_delay = λ k l number ticks e p g.
          let q = point_as u i k p in
          let m = goes_after_as k q.to l number ticks q.same g in
          h.no_delay q.to m.to number ticks (edge_as u c i e) q.is m.is;
      one_signal = λ one other root e a b r s.
          h.one_signal one other root (waits_for_edges_as u c i e) (term_as u i one a) (term_as u i other b) (root_of_as u c root one.range.signal r) (root_of_as u c root other.range.signal s);
      apart = λ one other r e a b. h.apart one other r (waits_for_edges_as u c i e) (fires_of_as u c i one r a) (fires_of_as u c i other r b);
      arrives = λ lists delay event r e a x y.
          let m = arrives_as u i delay event a in
          h.arrives lists m.delay m.event r (mixed_lists_as u c i lists e) m.is (delay_ends_as u i lists delay m.delay r m.same x) (edge_ends_as u c event m.event r m.same_event y);
    }

-- ---- K8

pub k8_as : {d d' : Parts} → Twins d d' → (c : Claims) (i : ℕ) → K8 d c i → K8 d' c i
k8_as t c i h =
    let u = back t in
    record {
      no_event = λ k l number terms e p g.
          let q = point_as u i k p in
          let m = goes_wait_as k q.to l number terms q.same g in
          h.no_event q.to m.to number terms (delay_as u c i e) q.is m.is;
      one_each = λ lists e. h.one_each lists (waits_for_times_as u c i lists e) ∙ ap length (texts_control t i);
      from_start = λ lists k l number ticks e o g above.
          let q = slot0_as u (is_wide c) i k o in
          let m = goes_after_as k q.to l number ticks q.same g in
          delay_ends_as t i lists (after number ticks m.to) (after number ticks l) (ticks % c.modulus) (both_after number ticks m.to l (todo_turned l m.to m.same))
          (h.from_start lists q.to m.to number ticks (waits_for_times_as u c i lists e) q.is m.is above);
      from_residue = λ lists k l number ticks r e o g.
          let q = runs_by_delays_as u (is_wide c) i lists k r o in
          let m = goes_after_as k q.to l number ticks q.same g in
          delay_ends_as t i lists (after number ticks m.to) (after number ticks l) ((r + ticks) % c.modulus) (both_after number ticks m.to l (todo_turned l m.to m.same))
          (h.from_residue lists q.to m.to number ticks r (waits_for_times_as u c i lists e) q.is m.is);
      from_edge = λ lists k l number ticks r e o g.
          let q = runs_by_edges_as u c i k r o in
          let m = goes_after_as k q.to l number ticks q.same g in
          delay_ends_as t i lists (after number ticks m.to) (after number ticks l) ((r + ticks) % c.modulus) (both_after number ticks m.to l (todo_turned l m.to m.same))
          (h.from_edge lists q.to m.to number ticks r (mixed_lists_as u c i lists e) q.is m.is);
    }

-- ---- K9

-- a point of one design, and what says the same in the other, at which a statement with a number stands
module _ (d d' : Parts) (t : Twins d d') (i : ℕ) (k : Todo) (n : HasNumber k) (q : TwinOf k (IsPoint d i)) where
  -- any other point that says the same is the same one
  same_point : (z : Todo) → IsPoint d i z → AlikeTodo k z → z ≡ q.to
  same_point z p a = one_here d t.numbered i z q.to n.number p q.is (sym (number_same k z a) ∙ n.is) (sym (number_same k q.to q.same) ∙ n.is)

  not_hot_as : (wide : Bool) (u : ℕ) → (IsHot d wide i u q.to → ⊥) → IsHot d' wide i u k → ⊥
  not_hot_as wide u h o =
      let z = hot_as (back t) wide i u k o in
      h (subst (IsHot d wide i u) (same_point z.to (from_point d wide i (λ at next. WritesNow d at u) is_zero_time z.to z.is) z.same) z.is)

  own_read_as : (c : Claims) (u v : ℕ) → IsOwnRead d c i u v q.to → IsOwnRead d' c i u v k
  own_read_as c u v h = (writer_as t c u i h.0, either_as (λ e. e) (not_hot_as (is_wide c) u) h.1)

  apart_as : (c : Claims) (u : ℕ) → AreApart d c i u q.to → AreApart d' c i u k
  apart_as c u h = λ r w s.
      let z = has_slot_as (back t) c i k r s in
      h r (write_slot_as (back t) c u r w) (subst (λ (m : Todo). HasSlot d c i m r) (same_point z.to (slot_point d c i z.to r z.is) z.same) z.is)

  own_edge_as : (c : Claims) (v : ℕ) → IsOwnEdge d c i v q.to → IsOwnEdge d' c i v k
  own_edge_as c v h =
      let u = back t in
      record {
        term = h.term;
        has = term_as t i h.term h.has;
        edge = h.edge;
        of = h.of;
        apart = λ root other r e w f. h.apart root other r (root_of_as u c root v e) (write_slot_as u c root r w) (fires_of_as u c i other r f);
        undelayed = λ lists root r e o w s.
            let z = runs_by_delays_as u (is_wide c) i lists k r s in
            h.undelayed lists root r (mixed_lists_as u c i lists e) (root_of_as u c root v o) (write_slot_as u c root r w)
            (subst (λ (m : Todo). RunsByDelays d (is_wide c) i lists m r) (same_point z.to (runs_point d (is_wide c) i (DelayEnds d i lists) z.to r z.is) z.same) z.is);
      }

pub k9_as : {d d' : Parts} → Twins d d' → (c : Claims) (i : ℕ) → K9 d c i → K9 d' c i
k9_as {d} {d'} t c i h = record {
  fixed = λ k r u s p n b o.
      let q = point_as (back t) i k p in
      let m = read_number d' c k r n in
      either_as (own_read_as d d' t i k m q c u r.signal) (either_as (own_edge_as d d' t i k m q c r.signal) (apart_as d d' t i k m q c u))
      (h.fixed q.to r u (sequential_as (back t) c i s) q.is (reads_as d' d c k q.to r q.same n) (blocking_as (back t) c u b) (cone_as (back t) c u r o));
}

-- ---- K10

fires_none_as : {d d' : Parts} → Twins d d' → (c : Claims) (root i : ℕ) (k k' : Todo) → AlikeTodo k k' → FiresNone d c root i k → FiresNone d' c root i k'
fires_none_as t c root i k k' a h = record {
  digit = h.digit;
  known = h.known;
  gives = gives_digit_as (bit_of root) h.digit k k' a h.gives;
  silent = λ j term edge has first e r seen.
      let u = back t in
      h.silent j term edge (term_as u j term has) (λ wide. (heard_at_start_as u j term (first wide).0, (first wide).1)) e (root_of_as u c root term.range.signal r) (seen_as u (is_wide c) term edge seen);
}

pub k10_signal_as : {d d' : Parts} → Twins d d' → (c : Claims) (v : ℕ) → K10_Signal d c v → K10_Signal d' c v
k10_signal_as {d} {d'} t c v h =
    let u = back t in
    record {
      once = λ i j k l r a m b n.
          let q = slot0_as u (is_wide c) i k a in
          let z = slot0_as u (is_wide c) j l b in
          let one = h.once i j q.to z.to (root_as u c v r) q.is (writes_any_as d' d k q.to v q.same m) z.is (writes_any_as d' d l z.to v z.same n) in
          let number = write_number d' k v m in
          let other : number_next l ≡ Some number.number = number_same l z.to z.same ∙ ap number_next (sym one.1) ∙ sym (number_same k q.to q.same) ∙ number.is in
          (one.0, one_here d' t.numbered_too i k l number.number (slot0_point d' (is_wide c) i k a) (subst (λ (p : ℕ). IsPoint d' p l) (sym one.0) (slot0_point d' (is_wide c) j l b)) number.is other);
      now = λ i k r a w.
          let q = slot0_as u (is_wide c) i k a in
          h.now i q.to (root_as u c v r) q.is (writes_later_as d' d k q.to v q.same w);
      constant = λ i k r a w.
          let q = slot0_as u (is_wide c) i k a in
          fires_none_as t c v i q.to k (todo_turned k q.to q.same) (h.constant i q.to (root_as u c v r) q.is (writes_now_as d' d k q.to v q.same w));
    }

block_needs_as : {d d' : Parts} → Twins d d' → (c : Claims) (r : BitRange) → BlockNeeds d c r → BlockNeeds d' c r
block_needs_as t c r (needs i b n) = needs i (block_as t c i b) (driver_needs_as t (block i) r n)
block_needs_as {d} {d'} t c r (shows i k b e p s) =
    let q = point_as t i k p in
    shows i q.to (block_as t c i b) e q.is (shows_now_as d d' k q.to r q.same s)

pub k10_process_as : {d d' : Parts} → Twins d d' → (c : Claims) (i : ℕ) → K10_Process d c i → K10_Process d' c i
k10_process_as {d} {d'} t c i h =
    let u = back t in
    record {
      variable = λ k r s a n.
          let q = slot0_as u (is_wide c) i k a in
          kind_as t true r.signal (h.variable q.to r (sequential_as u c i s) q.is (reads_as d' d c k q.to r q.same n));
      written = λ k r s a n narrow.
          let q = slot0_as u (is_wide c) i k a in
          writes_as t i r.signal (h.written q.to r (sequential_as u c i s) q.is (reads_as d' d c k q.to r q.same n) narrow);
      alone = λ k r j s a n w.
          let q = slot0_as u (is_wide c) i k a in
          elim (h.alone q.to r j (sequential_as u c i s) q.is (reads_as d' d c k q.to r q.same n) (writes_as u j r.signal w)) [
            | inl same ↦ inl same
            | inr other ↦ inr (other.0, λ b. other.1 (block_as u c j b))
          ];
      first = λ k l r j wide s a n b w.
          let q = slot0_as u (is_wide c) i k a in
          let p = slot0_as u (is_wide c) j l b in
          h.first q.to p.to r j wide (sequential_as u c i s) q.is (reads_as d' d c k q.to r q.same n) p.is (writes_now_as d' d l p.to r.signal p.same w);
      untouched = λ k v r a w b o.
          let q = prologue_as u (is_wide c) i k a in
          h.untouched q.to v r q.is (writes_now_as d' d k q.to v q.same w) (block_needs_as u c r b) (cone_as u c v r o);
    }
