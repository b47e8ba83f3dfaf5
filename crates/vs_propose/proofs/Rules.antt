-- The rules, of designs without processes.
use Rattle.std.proofs.Common.{◌≡◌, ℕ, zero, suc, ◌<◌, ◌≤◌, ◌⊎◌, inl, inr, Bool, true, false, if◌then◌else◌, ◌||◌, Option, Some, None, List, [], ◌∷◌, ◌++◌, length, map, slice_get, refl, sym, ◌∙◌, ap, subst, arith}
use Rattle.std.specs.List.{Contains, IsDistinct, flat_map, list_any}
use Rattle.std.specs.Str.{bytes_eq}
use Rattle.std.proofs.lemmas.Bool.{false≢true, true≢false, or_from}
use Rattle.std.proofs.lemmas.List.{length-map}
use Rattle.std.proofs.lemmas.List.Elements.{Contains-append_cases}
use Rattle.std.proofs.lemmas.Map.Keys.{IsDistinct-tail}
use Rattle.std.proofs.lemmas.Option.{none-some, same_Some, slice_get_within}
use Rattle.std.proofs.lemmas.Slice.Eq.{bytes_eq-Decides}
use Rattle.vs_design.specs.declared.design.Process.{Process}
use Rattle.vs_design.specs.declared.range.BitRange.{BitRange}
use Rattle.vs_design.specs.declared.signal.Signal.{Signal}
use Rattle.vs_design.specs.declared.statement.EventTerm.{EventTerm}
use Rattle.vs_design.specs.Kinds.{is_variable}
use Rattle.vs_design.specs.Parts.{Parts}
use Rattle.vs_design.specs.WellFormed.{WellFormed}
use Rattle.vs_process.specs.Steps.{wait}
use Rattle.vs_drivers.specs.vs_rules.specs.vs_process.specs.BlockDrivers.{outputs_for}
use Rattle.vs_drivers.specs.vs_rules.specs.Claims.{Name, Claims, Kind, Mode, is_both, is_mixed, SignalClaim, ProcessClaim, EdgeClaim, names_process}
use Rattle.vs_drivers.specs.vs_rules.specs.Claims.{writer_in, second_in, mode_in, times_in, place_of, all_names, edge_names, names_of_edge}
use Rattle.vs_drivers.specs.vs_rules.specs.Claims.{edge_signals, process_names, signal_names, assign_name, process_name, signal_name, claim_for}
use Rattle.vs_drivers.specs.vs_rules.specs.Claims.{claim_of, kind_for, kind_of, IsSignalNamed, IsAssignNamed, IsProcessNamed, IsSecond, IsBlock}
use Rattle.vs_drivers.specs.vs_rules.specs.Claims.{IsDelay, HasMixedLists, WaitsForEdges, WaitsForTimes, IsSequential, HasMode, HasKind, IsRootOf}
use Rattle.vs_drivers.specs.vs_rules.specs.Claims.{IsRoot}
use Rattle.vs_drivers.specs.vs_rules.specs.Claims as k
use Rattle.vs_drivers.specs.vs_rules.specs.Limits.{IsCertificate}
use Rattle.vs_drivers.specs.vs_rules.specs.Paths.{Bit, IsBit, Has, Writes, HasTerm}
use Rattle.vs_drivers.specs.vs_rules.specs.Drivers.{Driver, IsDriver, DriverReads, WritesBit, IsSource, Precedes}
use Rattle.vs_drivers.specs.vs_rules.specs.Drivers as x
use Rattle.vs_drivers.specs.vs_rules.specs.Rules.{K1_Signal, K1_Assign, K1_Process, K1_Name, K2, K3, IsAsModeSays, K4, IsSelf, IsCovered, IsDriven, K6, K7, K8, K9, BlockNeeds, K10_Signal, K10_Process}
use Rattle.vs_drivers.specs.vs_rules.specs.Blocks.{K5, K11}
use Rattle.vs_drivers.specs.vs_rules.proofs.Past.{past_points, end_next}
use Rattle.vs_drivers.specs.vs_rules.specs.Verdict.{k1, k2, k3, k4, k5, k6, k7, k8, k9, k10, k11, Subject, signal, assign, process, listed, OfSignal, OfProcess, numbers, subjects, Disciplined, IsAccepted}
use Rattle.vs_design.specs.vs_logic4.proofs.Basics.{map_at as mapped, there as get_at}
use Rattle.vs_propose.specs.Claimed.{name_at, name_or_empty, mode_at, entry_of, IsPlain}
use Rattle.vs_propose.specs.Needs.{ReadsFrom, IsOrder}
use Rattle.vs_propose.specs.Settling.{Settles}
use Rattle.vs_propose.proofs.Places.{contains_at, at_contains, mapped_back, IsOnly, times_none, times_one, place_at, there, distinct, differ, no_more}
use Rattle.vs_propose.proofs.Settled.{named_signal, named_assign, assign_once, no_both, ordered}

-- ---- a design without processes has none of a number

no_process : (d : Parts) → d.processes ≡ [] → (i : ℕ) → slice_get d.processes i ≡ None
no_process d still i = ap (λ (ps : List Process). slice_get ps i) still

no_kind : (d : Parts) (c : Claims) → d.processes ≡ [] → (i : ℕ) (kind : Kind) → kind_of d c i ≡ Some kind → ⊥
no_kind d c still i kind is = none-some kind (sym (ap (kind_for c) (no_process d still i)) ∙ is)

pub no_block : (d : Parts) (c : Claims) → d.processes ≡ [] → (i : ℕ) → IsBlock d c i → ⊥
no_block d c still i b = no_kind d c still i (k.block b.0) b.1

no_delay : (d : Parts) (c : Claims) → d.processes ≡ [] → (i : ℕ) → IsDelay d c i → ⊥
no_delay d c still i lists = no_kind d c still i (k.delays lists.0) lists.1

no_mixed : (d : Parts) (c : Claims) → d.processes ≡ [] → (i : ℕ) (lists : List (List ℕ)) → HasMixedLists d c i lists → ⊥
no_mixed d c still i lists is = no_kind d c still i (k.mixed lists) is

no_sequential : (d : Parts) (c : Claims) → d.processes ≡ [] → (i : ℕ) → IsSequential d c i → ⊥
no_sequential d c still i (inl edge) = no_kind d c still i k.edges edge
no_sequential d c still i (inr (inl lists)) = no_delay d c still i lists
no_sequential d c still i (inr (inr lists)) = no_mixed d c still i lists.0 lists.1

no_edges : (d : Parts) (c : Claims) → d.processes ≡ [] → (i : ℕ) → WaitsForEdges d c i → ⊥
no_edges d c still i (inl edge) = no_kind d c still i k.edges edge
no_edges d c still i (inr lists) = no_mixed d c still i lists.0 lists.1

no_times : (d : Parts) (c : Claims) → d.processes ≡ [] → (i : ℕ) (lists : List (List ℕ)) → WaitsForTimes d c i lists → ⊥
no_times d c still i lists (inl is) = no_kind d c still i (k.delays lists) is
no_times d c still i lists (inr is) = no_mixed d c still i lists is

no_writes : (d : Parts) → d.processes ≡ [] → (i v : ℕ) → Writes d i v → ⊥
no_writes d still i v w =
    let h : Contains [] w.range = subst (λ (o : Option Process). Contains (outputs_for o) w.range) (no_process d still i) w.listed.0 in
    omega (arith, h.1)

no_term : (d : Parts) → d.processes ≡ [] → (i : ℕ) (t : EventTerm) → HasTerm d i t → ⊥
no_term d still i t h =
    let past : length d.processes ≤ i = omega (arith, ap length still) in
    let e = end_next h.control (wait h.number h.terms h.behind) (past_points d i h.control past h.point) h.goes in
    cc

-- ---- the entries of signals

paths_of : (ss : List Signal) → map (λ (s : SignalClaim). s.name) (map entry_of ss) ≡ map (λ (s : Signal). s.path.items) ss
paths_of [] = refl
paths_of (s ∷ ss) = ap (λ (ns : List Name). s.path.items ∷ ns) (paths_of ss)

names_are : (d : Parts) (c : Claims) (order : List ℕ) → IsPlain d c order → signal_names c ≡ map (λ (s : Signal). s.path.items) d.signals
names_are d c order plain = ap (map (λ (s : SignalClaim). s.name)) plain.signals ∙ paths_of d.signals

found : (ss : List Signal) (v : ℕ) (s : Signal) → IsDistinct bytes_eq (map (λ (s : Signal). s.path.items) ss) → slice_get ss v ≡ Some s →
    k.signal_claim (map entry_of ss) s.path.items ≡ Some (entry_of s)
found [] v s h is = absurd (cc)
found (t ∷ ss) v s h is =
    step v is (bytes_eq t.path.items s.path.items) refl (λ w at. found ss w s (IsDistinct-tail bytes_eq t.path.items (map (λ (s : Signal). s.path.items) ss) h) at) where
      step : (v : ℕ) → slice_get (t ∷ ss) v ≡ Some s → (b : Bool) → bytes_eq t.path.items s.path.items ≡ b →
          ((w : ℕ) → slice_get ss w ≡ Some s → k.signal_claim (map entry_of ss) s.path.items ≡ Some (entry_of s)) →
          (if b then Some (entry_of t) else k.signal_claim (map entry_of ss) s.path.items) ≡ Some (entry_of s)
      step zero is true e rest = ap (λ (x : Signal). Some (entry_of x)) (same_Some t s is)
      step zero is false e rest = absurd (true≢false (sym ((bytes_eq-Decides t.path.items s.path.items).1 (ap (λ (x : Signal). x.path.items) (same_Some t s is))) ∙ e))
      step (suc v) is true e rest =
          let same : t.path.items ≡ s.path.items = (bytes_eq-Decides t.path.items s.path.items).0 e in
          let zero_is : 0 ≡ suc v = distinct (map (λ (s : Signal). s.path.items) (t ∷ ss)) 0 (suc v) s.path.items h (ap (λ x. Some x) same) (mapped (λ (s : Signal). s.path.items) (t ∷ ss) (suc v) s is) in
          absurd (omega (arith, zero_is))
      step (suc v) is false e rest = rest v is

-- the entry of a signal, where there is one
abbrev Entry : Parts → Claims → ℕ → Type 0
Entry d c v = (claim_of d c v ≡ None) ⊎ ((s : Signal) × (slice_get d.signals v ≡ Some s) × (claim_of d c v ≡ Some (entry_of s)))

entry : (d : Parts) (c : Claims) (order : List ℕ) → WellFormed d → IsPlain d c order → (v : ℕ) → Entry d c v
entry d c order formed plain v = by (slice_get d.signals v) refl where
  by : (o : Option Signal) → slice_get d.signals v ≡ o → Entry d c v
  by None is = inl (ap (claim_for c) is)
  by (Some s) is = inr (s, is, ap (claim_for c) is ∙ ap (λ (cs : List SignalClaim). k.signal_claim cs s.path.items) plain.signals ∙ found d.signals v s formed.paths is)

no_writer : (d : Parts) (c : Claims) (v : ℕ) → Entry d c v → writer_in (claim_of d c v) ≡ None
no_writer d c v (inl none) = ap writer_in none
no_writer d c v (inr e) = ap writer_in e.2

no_second : (d : Parts) (c : Claims) (v : ℕ) → Entry d c v → second_in (claim_of d c v) ≡ None
no_second d c v (inl none) = ap second_in none
no_second d c v (inr e) = ap second_in e.2

not_second : (d : Parts) (c : Claims) (v i : ℕ) → Entry d c v → IsSecond d c v i → ⊥
not_second d c v i e h = false≢true (sym (ap (λ o. names_process o (slice_get d.processes i)) (no_second d c v e)) ∙ h)

as_mode_says : (d : Parts) (c : Claims) (v : ℕ) (s : Signal) (mode : Mode) → d.processes ≡ [] → slice_get d.signals v ≡ Some s → (b : Bool) → is_variable s.kind ≡ b → mode_at b ≡ mode → IsAsModeSays d c v mode
as_mode_says d c v s mode still is true e m = subst (IsAsModeSays d c v) m (λ i w. no_writes d still i v w)
as_mode_says d c v s mode still is false e m = subst (IsAsModeSays d c v) m (s, is, e)

-- ---- the order

assign_name_at : (d : Parts) (j : ℕ) (name : Name) → IsAssignNamed d j name → name_at d j ≡ name
assign_name_at d j name is = ap name_or_empty is

-- the number that stands at a place of the order, by the name there
stands : (d : Parts) (c : Claims) (order : List ℕ) → IsPlain d c order → IsOrder d order → (i : ℕ) (name : Name) → slice_get c.order i ≡ Some name →
    (j : ℕ) × (slice_get order i ≡ Some j) × IsAssignNamed d j name
stands d c order plain o i name is =
    let b = mapped_back (name_at d) order i name (subst (λ (ns : List Name). slice_get ns i ≡ Some name) plain.order is) in
    let within : b.0 < length d.assigns = subst (λ n. b.0 < n) o.needs.long (o.sorted.within b.0 (contains_at order i b.0 b.1)) in
    let a = get_at d.assigns b.0 within in
    let named : IsAssignNamed d b.0 a.0.name.items = ap assign_name a.1 in
    (b.0, b.1, named ∙ ap (λ x. Some x) (sym (assign_name_at d b.0 a.0.name.items named) ∙ b.2))

only_place : (d : Parts) (c : Claims) (order : List ℕ) → WellFormed d → IsPlain d c order → IsOrder d order → (i j : ℕ) (name : Name) → slice_get order i ≡ Some j → IsAssignNamed d j name →
    IsOnly c.order name i
only_place d c order formed plain o i j name at named = record {
  is = subst (λ (ns : List Name). slice_get ns i ≡ Some name) (sym plain.order) (mapped (name_at d) order i j at ∙ ap (λ x. Some x) (assign_name_at d j name named));
  only = λ m there.
      let s = stands d c order plain o m name there in
      o.sorted.once m i j (s.1 ∙ ap (λ x. Some x) (assign_once d formed s.0 j name s.2 named)) at;
}

-- ---- K1

listed_signals : (d : Parts) (c e : Claims) (order : List ℕ) → WellFormed d → IsPlain d c order → IsOrder d order → Settles d e → (v : ℕ) → K1_Signal d c v
listed_signals d c e order formed plain o s v name is =
    let t = named_signal (slice_get d.signals v) name is in
    record {
      once = subst (λ (ns : List Name). times_in name ns ≡ 1) (sym (names_are d c order plain)) (times_one (map (λ (s : Signal). s.path.items) d.signals) name v (record {
        is = mapped (λ (s : Signal). s.path.items) d.signals v t.0 t.1 ∙ ap (λ x. Some x) t.2;
        only = λ w at. distinct (map (λ (s : Signal). s.path.items) d.signals) w v name formed.paths at (mapped (λ (s : Signal). s.path.items) d.signals v t.0 t.1 ∙ ap (λ x. Some x) t.2);
      }));
      nowhere = times_none c.order name (λ i at. let a = stands d c order plain o i name at in no_both d e s v a.0 name is a.2);
      nowhere_else = ap (λ (ps : List ProcessClaim). times_in name (map (λ (p : ProcessClaim). p.name) ps)) plain.processes;
    }

in_order : (d : Parts) (c e : Claims) (order : List ℕ) → IsOrder d order → Settles d e → (j : ℕ) (name : Name) → IsAssignNamed d j name → (i : ℕ) × (slice_get order i ≡ Some j)
in_order d c e order o s j name is =
    let a = named_assign (slice_get d.assigns j) name is in
    at_contains order j (ordered d e order o s.order j (slice_get_within d.assigns j a.0 a.1))

listed_assigns : (d : Parts) (c e : Claims) (order : List ℕ) → WellFormed d → IsPlain d c order → IsOrder d order → Settles d e → (j : ℕ) → K1_Assign d c j
listed_assigns d c e order formed plain o s j = record {
  listed = λ name is. let p = in_order d c e order o s j name is in record {
    once = times_one c.order name p.0 (only_place d c order formed plain o p.0 j name p.1 is);
    nowhere = subst (λ (ns : List Name). times_in name ns ≡ 0) (sym (names_are d c order plain)) (times_none (map (λ (s : Signal). s.path.items) d.signals) name (λ v at.
        let b = mapped_back (λ (s : Signal). s.path.items) d.signals v name at in
        no_both d e s v j name (ap signal_name b.1 ∙ ap (λ x. Some x) b.2) is));
    nowhere_else = ap (λ (ps : List ProcessClaim). times_in name (map (λ (p : ProcessClaim). p.name) ps)) plain.processes;
  };
  no_edge = λ name is. ap (λ (es : List EdgeClaim). times_in name (flat_map names_of_edge es)) plain.edges;
}

known_name : (d : Parts) (c : Claims) (order : List ℕ) → IsPlain d c order → IsOrder d order → (name : Name) → Contains (all_names c) name → K1_Name d c name
known_name d c order plain o name has = elim (Contains-append_cases (edge_names c ++ c.order ++ process_names c) (signal_names c) name has) [
  | inl front ↦ elim (Contains-append_cases (edge_names c ++ c.order) (process_names c) name front) [
    | inl before ↦ elim (Contains-append_cases (edge_names c) c.order name before) [
      | inl edges ↦ let h : Contains [] name = subst (λ (ns : List Name). Contains ns name) (ap (flat_map names_of_edge) plain.edges) edges in absurd (omega (arith, h.1))
      | inr ordered ↦ let p = at_contains c.order name ordered in let a = stands d c order plain o p.0 name p.1 in inr (inl (a.0, a.2))
    ]
    | inr processes ↦
        let h : Contains [] name = subst (λ (ns : List Name). Contains ns name) (ap (map (λ (p : ProcessClaim). p.name)) plain.processes) processes in absurd (omega (arith, h.1))
  ]
  | inr signals ↦
      let p = at_contains (map (λ (s : Signal). s.path.items) d.signals) name (subst (λ (ns : List Name). Contains ns name) (names_are d c order plain) signals) in
      let b = mapped_back (λ (s : Signal). s.path.items) d.signals p.0 name p.1 in
      inl (p.0, ap signal_name b.1 ∙ ap (λ x. Some x) b.2)
]

-- ---- K4

-- what the rule asks of a range that is read holds under all claims alike
known_alike : (d : Parts) (c e : Claims) → d.processes ≡ [] → (r : BitRange) → HasKind false d r.signal ⊎ (IsSource d e r.signal ⊎ IsCovered d e r) →
    HasKind false d r.signal ⊎ (IsSource d c r.signal ⊎ IsCovered d c r)
known_alike d c e still r (inl net) = inl net
known_alike d c e still r (inr (inl source)) = inr (inl (record { variable = source.variable; undriven = λ i b w. no_block d c still i b }))
known_alike d c e still r (inr (inr covered)) = inr (inr (λ b is has. driven b (covered b is has))) where
  driven : (b : Bit) → IsDriven d e b → IsDriven d c b
  driven b h = record { driver = h.driver; is = alike h.driver h.is; writes = h.writes } where
    alike : (y : Driver) → IsDriver d e y → IsDriver d c y
    alike (x.assign j) is = is
    alike (x.block i) is = absurd (no_block d e still i is)

-- what is read from stands before
precedes : (d : Parts) (c e : Claims) (order : List ℕ) → WellFormed d → IsPlain d c order → IsOrder d order → Settles d e → (j y : ℕ) → j < length d.assigns → ReadsFrom d j y →
    Precedes d c (x.assign y) (x.assign j)
precedes d c e order formed plain o s j y within reads =
    let a = get_at d.assigns j within in
    let b = reads.writes.0 in
    let named : IsAssignNamed d j a.0.name.items = ap assign_name a.1 in
    let other : IsAssignNamed d y b.name.items = ap assign_name reads.writes.1 in
    let p = in_order d c e order o s j a.0.name.items named in
    let q = o.sorted.after p.0 j y p.1 ((o.needs.exact j y).1 reads) in
    let one_at = place_at c.order b.name.items q.place (only_place d c order formed plain o q.place y b.name.items q.is other) in
    let other_at = place_at c.order a.0.name.items p.0 (only_place d c order formed plain o p.0 j a.0.name.items p.1 named) in
    record { one = b.name.items; other = a.0.name.items; is = other; other_is = named; before = omega (arith, q.before, one_at, other_at) }

keeps_order : (d : Parts) (c e : Claims) (order : List ℕ) → WellFormed d → d.processes ≡ [] → IsPlain d c order → IsOrder d order → Settles d e → (y : Driver) → K4 d c y
keeps_order d c e order formed still plain o s (x.block i) = record {
  known = λ r is. absurd (no_block d c still i is);
  earlier = λ r b y is. absurd (no_block d c still i is);
}
keeps_order d c e order formed still plain o s (x.assign j) = record {
  known = λ r is reads. known_alike d c e still r ((s.order j).known r tt reads);
  earlier = λ r b y is reads bit has driver writes. by r b y reads bit has driver writes;
} where
  by : (r : BitRange) (b : Bit) (y : Driver) → DriverReads d (x.assign j) r → IsBit d b → Has r b → IsDriver d c y → WritesBit d y b → IsSelf (x.assign j) y ⊎ Precedes d c y (x.assign j)
  by r b (x.block i) reads bit has driver writes = absurd (no_block d c still i driver)
  by r b (x.assign y) reads bit has driver writes = inr (precedes d c e order formed plain o s j y (slice_get_within d.assigns j reads.0 reads.1) (record {
    read = r;
    reads = reads;
    written = writes.range;
    writes = writes.writes;
    share = record { bit = b; is = bit; has = has; other_has = writes.has };
  }))

-- ---- each rule

keeps_2 : (d : Parts) (c : Claims) (v : ℕ) → d.processes ≡ [] → Entry d c v → K2 d c v
keeps_2 d c v still e = record {
  named = λ i w. absurd (no_writes d still i v w);
  writer_writes = λ name is. absurd (none-some name (sym (no_writer d c v e) ∙ is));
  second_writes = λ name is. absurd (none-some name (sym (no_second d c v e) ∙ is));
  no_block = λ i j second. absurd (not_second d c v i e second);
  early = λ i k second. absurd (not_second d c v i e second);
  first_alone = λ i j l second. absurd (not_second d c v i e second);
  first_alone_later = λ i j k l second. absurd (not_second d c v i e second);
}

keeps_3 : (d : Parts) (c : Claims) (v : ℕ) → d.processes ≡ [] → Entry d c v → K3 d c v
keeps_3 d c v still (inl none) mode is = absurd (none-some mode (sym (ap mode_in none) ∙ is))
keeps_3 d c v still (inr e) mode is = as_mode_says d c v e.0 mode still e.1 (is_variable e.0.kind) refl (same_Some (mode_at (is_variable e.0.kind)) mode (sym (ap mode_in e.2) ∙ is))

keeps_5 : (d : Parts) (c : Claims) (i : ℕ) → d.processes ≡ [] → K5 d c i
keeps_5 d c i still = record {
  grain = λ b. absurd (no_block d c still i b);
  shape = λ q b. absurd (no_block d c still i b);
  quiet = λ k b. absurd (no_block d c still i b);
  covered = λ r b block. absurd (no_block d c still i block);
  before_reads = λ b k r block. absurd (no_block d c still i block);
  before_end = λ b k next block. absurd (no_block d c still i block);
}

no_root : (d : Parts) (c : Claims) (order : List ℕ) → IsPlain d c order → (root v : ℕ) → IsRootOf d c root v → ⊥
no_root d c order plain root v r = none-some r.entry (subst (λ (es : List EdgeClaim). slice_get es r.place ≡ Some r.entry) plain.edges r.is)

keeps_6 : (d : Parts) (c : Claims) (order : List ℕ) (v : ℕ) → d.processes ≡ [] → IsPlain d c order → K6 d c v
keeps_6 d c order v still plain = record {
  one_entry = λ name is edge. absurd (no_term d still edge.process edge.term edge.has);
  no_entry = λ name is none. ap (λ (es : List EdgeClaim). times_in name (map (λ (e : EdgeClaim). e.signal) es)) plain.edges;
  copies = λ root is. absurd (no_root d c order plain root v is);
  root = λ root is. absurd (no_root d c order plain root v is);
}

keeps_7 : (d : Parts) (c : Claims) (i : ℕ) → d.processes ≡ [] → K7 d c i
keeps_7 d c i still = record {
  events = λ a l number terms edge. absurd (no_edges d c still i edge);
  no_delay = λ a l number ticks edge. absurd (no_kind d c still i k.edges edge);
  one_signal = λ t u root edge. absurd (no_edges d c still i edge);
  apart = λ one other r edge. absurd (no_edges d c still i edge);
  arrives = λ lists delay event r is. absurd (no_mixed d c still i lists is);
}

keeps_8 : (d : Parts) (c : Claims) (i : ℕ) → d.processes ≡ [] → K8 d c i
keeps_8 d c i still = record {
  no_event = λ a l number terms delay. absurd (no_delay d c still i delay);
  one_each = λ lists is. absurd (no_times d c still i lists is);
  from_start = λ lists a l number ticks is. absurd (no_times d c still i lists is);
  from_residue = λ lists a l number ticks r is. absurd (no_times d c still i lists is);
  from_edge = λ lists a l number ticks r is. absurd (no_mixed d c still i lists is);
}

keeps_10 : (d : Parts) (c : Claims) (order : List ℕ) (v : ℕ) → IsPlain d c order → K10_Signal d c v
keeps_10 d c order v plain = record {
  once = λ i j a l root. absurd (none root);
  now = λ i a root. absurd (none root);
  constant = λ i a root. absurd (none root);
} where
  none : IsRoot d c v → ⊥
  none h = no_root d c order plain v h.0 h.1

keeps_10p : (d : Parts) (c : Claims) (i : ℕ) → d.processes ≡ [] → K10_Process d c i
keeps_10p d c i still = record {
  variable = λ a r seq. absurd (no_sequential d c still i seq);
  written = λ a r seq. absurd (no_sequential d c still i seq);
  alone = λ a r j seq. absurd (no_sequential d c still i seq);
  first = λ a b r j wide seq. absurd (no_sequential d c still i seq);
  untouched = λ a u r first writes needs cone. blocks r needs;
} where
  blocks : (r : BitRange) → BlockNeeds d c r → ⊥
  blocks r (BlockNeeds.needs j block n) = no_block d c still j block
  blocks r (BlockNeeds.shows j a block is point shows) = no_block d c still j block

keeps_1p : (d : Parts) (c : Claims) (i : ℕ) → d.processes ≡ [] → K1_Process d c i
keeps_1p d c i still = record {
  listed = λ name is. absurd (none name is);
  block_ordered = λ name is. absurd (none name is);
  not_ordered = λ name is. absurd (none name is);
} where
  none : (name : Name) → IsProcessNamed d i name → ⊥
  none name is = none-some name (sym (ap process_name (no_process d still i)) ∙ is)

-- ---- all rules

of_signal : (P : ℕ → Type 0) → ((v : ℕ) → P v) → (s : Subject) → OfSignal P s
of_signal P h (signal v) = h v
of_signal P h (assign j) = tt
of_signal P h (process i) = tt
of_signal P h (listed name) = tt

of_process : (P : ℕ → Type 0) → ((i : ℕ) → P i) → (s : Subject) → OfProcess P s
of_process P h (signal v) = tt
of_process P h (assign j) = tt
of_process P h (process i) = h i
of_process P h (listed name) = tt

-- a subject that is a name stands in the lists
name_in : (d : Parts) (c : Claims) (n : ℕ) (name : Name) → slice_get (subjects d c) n ≡ Some (listed name) → Contains (all_names c) name
name_in d c n name is = elim (Contains-append_cases (map signal (numbers 0 (length d.signals)) ++ map assign (numbers 0 (length d.assigns)) ++ map process (numbers 0 (length d.processes)))
    (map listed (all_names c)) (listed name) (contains_at (subjects d c) n (listed name) is)) [
      | inl front ↦ elim (Contains-append_cases (map signal (numbers 0 (length d.signals)) ++ map assign (numbers 0 (length d.assigns))) (map process (numbers 0 (length d.processes))) (listed name) front) [
        | inl before ↦ elim (Contains-append_cases (map signal (numbers 0 (length d.signals))) (map assign (numbers 0 (length d.assigns))) (listed name) before) [
          | inl a ↦ let p = at_contains (map signal (numbers 0 (length d.signals))) (listed name) a in let b = mapped_back signal (numbers 0 (length d.signals)) p.0 (listed name) p.1 in
              absurd (let e = b.2 in cc)
          | inr a ↦ let p = at_contains (map assign (numbers 0 (length d.assigns))) (listed name) a in let b = mapped_back assign (numbers 0 (length d.assigns)) p.0 (listed name) p.1 in
              absurd (let e = b.2 in cc)
        ]
        | inr a ↦ let p = at_contains (map process (numbers 0 (length d.processes))) (listed name) a in let b = mapped_back process (numbers 0 (length d.processes)) p.0 (listed name) p.1 in
            absurd (let e = b.2 in cc)
      ]
      | inr a ↦ let p = at_contains (map listed (all_names c)) (listed name) a in let b = mapped_back listed (all_names c) p.0 (listed name) p.1 in
          contains_at (all_names c) p.0 name (b.1 ∙ ap (λ x. Some x) (same_listed b.0 name b.2))
    ] where
      same_listed : (a b : Name) → listed a ≡ listed b → a ≡ b
      same_listed a b e = cc

pub disciplined : (d : Parts) (c e : Claims) (order : List ℕ) → WellFormed d → d.processes ≡ [] → IsPlain d c order → IsOrder d order → Settles d e → Disciplined d c
disciplined d c e order formed still plain o s k1 n (signal v) is = listed_signals d c e order formed plain o s v
disciplined d c e order formed still plain o s k1 n (assign j) is = listed_assigns d c e order formed plain o s j
disciplined d c e order formed still plain o s k1 n (process i) is = keeps_1p d c i still
disciplined d c e order formed still plain o s k1 n (listed name) is = known_name d c order plain o name (name_in d c n name is)
disciplined d c e order formed still plain o s k2 n x is = of_signal (K2 d c) (λ v. keeps_2 d c v still (entry d c order formed plain v)) x
disciplined d c e order formed still plain o s k3 n x is = of_signal (K3 d c) (λ v. keeps_3 d c v still (entry d c order formed plain v)) x
disciplined d c e order formed still plain o s k4 n (signal v) is = tt
disciplined d c e order formed still plain o s k4 n (assign j) is = keeps_order d c e order formed still plain o s (x.assign j)
disciplined d c e order formed still plain o s k4 n (process i) is = keeps_order d c e order formed still plain o s (x.block i)
disciplined d c e order formed still plain o s k4 n (listed name) is = tt
disciplined d c e order formed still plain o s k5 n x is = of_process (K5 d c) (λ i. keeps_5 d c i still) x
disciplined d c e order formed still plain o s k6 n x is = of_signal (K6 d c) (λ v. keeps_6 d c order v still plain) x
disciplined d c e order formed still plain o s k7 n x is = of_process (K7 d c) (λ i. keeps_7 d c i still) x
disciplined d c e order formed still plain o s k8 n x is = of_process (K8 d c) (λ i. keeps_8 d c i still) x
disciplined d c e order formed still plain o s k9 n x is = of_process (K9 d c) (λ i. record { fixed = λ a r u seq. absurd (no_sequential d c still i seq) }) x
disciplined d c e order formed still plain o s k10 n (signal v) is = keeps_10 d c order v plain
disciplined d c e order formed still plain o s k10 n (assign j) is = tt
disciplined d c e order formed still plain o s k10 n (process i) is = keeps_10p d c i still
disciplined d c e order formed still plain o s k10 n (listed name) is = tt
disciplined d c e order formed still plain o s k11 n x is = of_process (K11 d c) (λ i start b. absurd (no_kind d c still i (k.block start) b)) x

-- ---- the form and the limits

few_signals : (d : Parts) (c e : Claims) (order : List ℕ) → WellFormed d → IsPlain d c order → Settles d e → length c.signals ≤ length e.signals
few_signals d c e order formed plain s =
    let most : length (map (λ (s : Signal). s.path.items) d.signals) ≤ length (signal_names e) = no_more (map (λ (s : Signal). s.path.items) d.signals) (signal_names e) formed.paths (λ i name at.
    let b = mapped_back (λ (s : Signal). s.path.items) d.signals i name at in
    there (signal_names e) name (s.signals i name (ap signal_name b.1 ∙ ap (λ x. Some x) b.2)).once) in
    omega (arith, most, ap length plain.signals, length-map d.signals entry_of, length-map d.signals (λ (s : Signal). s.path.items), length-map e.signals (λ (s : SignalClaim). s.name))

few_ordered : (d : Parts) (c e : Claims) (order : List ℕ) → WellFormed d → IsPlain d c order → IsOrder d order → Settles d e → length c.order ≤ length e.order
few_ordered d c e order formed plain o s = no_more c.order e.order
    (differ c.order (λ i j name a b. let t = stands d c order plain o j name b in (only_place d c order formed plain o j t.0 name t.1 t.2).only i a))
    (λ i name at. let t = stands d c order plain o i name at in there e.order name ((s.assigns t.0).listed name t.2).once)

-- no such entry has mode both
plain_mode : (b : Bool) → is_both (mode_at b) ≡ false
plain_mode true = refl
plain_mode false = refl

plain_modes : (ss : List Signal) → list_any (λ (s : SignalClaim). is_both s.mode) (map entry_of ss) ≡ false
plain_modes [] = refl
plain_modes (s ∷ ss) = or_from (is_both (mode_at (is_variable s.kind))) (list_any (λ (x : SignalClaim). is_both x.mode) (map entry_of ss)) (plain_mode (is_variable s.kind)) (plain_modes ss)

certificate : (d : Parts) (c e : Claims) (order : List ℕ) → WellFormed d → IsPlain d c order → IsOrder d order → Settles d e → IsCertificate e → IsCertificate c
certificate d c e order formed plain o s f = record {
  version = inl plain.version;
  displays = λ one. plain.displays;
  starts = λ q one has. absurd (none q has);
  narrow = inr (ap (λ (ss : List SignalClaim). list_any (λ (s : SignalClaim). is_both s.mode) ss) plain.signals ∙ plain_modes d.signals);
  unmixed = inr (ap (λ (ps : List ProcessClaim). list_any (λ (p : ProcessClaim). is_mixed p.kind) ps) plain.processes);
  above = omega (arith, plain.modulus);
  below = omega (arith, plain.modulus);
  few_edges = omega (arith, ap length plain.edges);
  few_ordered = omega (arith, few_ordered d c e order formed plain o s, f.few_ordered);
  few_processes = omega (arith, ap length plain.processes);
  few_signals = omega (arith, few_signals d c e order formed plain s, f.few_signals);
  lists = λ q lists has. absurd (none q has);
} where
  none : (q : ProcessClaim) → Contains c.processes q → ⊥
  none q has = let h : Contains [] q = subst (λ (ps : List ProcessClaim). Contains ps q) plain.processes has in omega (arith, h.1)

pub accepted : (d : Parts) (c e : Claims) (order : List ℕ) → WellFormed d → d.processes ≡ [] → IsPlain d c order → IsOrder d order → Settles d e → IsCertificate e → IsAccepted d c
accepted d c e order formed still plain o s f = record {
  certificate = certificate d c e order formed plain o s f;
  rules = disciplined d c e order formed still plain o s;
}
