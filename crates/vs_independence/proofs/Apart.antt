-- The processes of a slot that begins keep apart.
use Rattle.std.proofs.Common.{◌≡◌, ℕ, ◌%◌, ◌<◌, ◌⊎◌, Bool, true, false, if◌then◌else◌, Option, Some, None, List, get_or, slice_get, refl, sym, ◌∙◌, ap, subst, inl, inr}
use Rattle.std.proofs.lemmas.Bool.{cases_Bool, true≢false, false≢true}
use Rattle.vs_design.specs.vs_logic4.specs.declared.digit.Digit.{Digit}
use Rattle.vs_design.specs.vs_logic4.specs.declared.digit.Digit.TheVariants.{X}
use Rattle.vs_design.specs.declared.design.Process.{Process}
use Rattle.vs_design.specs.declared.range.BitRange.{BitRange}
use Rattle.vs_design.specs.declared.statement.EventTerm.{EventTerm}
use Rattle.vs_design.specs.declared.statement.Target.{Target}
use Rattle.vs_design.specs.Parts.{Parts}
use Rattle.vs_design.specs.Statements.{listens}
use Rattle.vs_design.specs.Stores.{is_driven, start_store}
use Rattle.vs_design.specs.Uses.{writes_signal}
use Rattle.vs_design.specs.WellFormed.{WellFormed}
use Rattle.vs_design.specs.Writes.{names}
use Rattle.vs_process.specs.Nexts.{erased}
use Rattle.vs_process.specs.Places.{Todo, Place, going, sleeping, inactive, waiting, ended, is_going}
use Rattle.vs_independence.specs.vs_process.specs.Executions.{is_level}
use Rattle.vs_independence.specs.vs_process.specs.States.{State, AssignState, start}
use Rattle.vs_independence.specs.vs_process.proofs.Assigns.{link_of, driven}
use Rattle.vs_independence.specs.vs_process.proofs.WellFormed.{net_of, variable_undriven}
use Rattle.vs_design.specs.declared.signal.Signal.{Signal}
use Rattle.vs_independence.proofs.Roots.{entry_root}
use Rattle.vs_independence.proofs.Variables.{writes_variable}
use Rattle.vs_rules.specs.vs_process.specs.Threads.{Thread, turn, iterate, writes, any_names, Fired, found, opening, is_timed, IsTimed, Awaits, MayOpen, IsThread, IsFiredBy}
use Rattle.vs_rules.specs.vs_process.proofs.Feeds.{into_named}
use Rattle.vs_rules.specs.vs_process.proofs.Threads.{is_stopped, timed_wrote}
use Rattle.vs_rules.specs.Claims.{Claims, blocks_of, IsBlock, IsWide, IsWriter, IsSecond, IsDelay, WaitsForEdges, IsSequential, HasKind, signal_name, is_wide, IsRootOf, IsRoot as IsRootClaimed}
use Rattle.vs_rules.specs.Constants.{bit_of, Gives}
use Rattle.vs_rules.specs.Paths.{IsPoint, IsSlot0, IsLate, IsHot, HasTerm, WritesNow, WritesLater, Writes}
use Rattle.vs_rules.specs.Drivers.{IsSource}
use Rattle.vs_rules.specs.Rules.{K2, K10_Process, IsSoundRoot, IsOwnEdge, Reads}
use Rattle.vs_rules.specs.Slots.{HasSlot, HasWriteSlot}
use Rattle.vs_rules.specs.vs_process.specs.Edges.{one_bit, Copies, IsRoot}
use Rattle.vs_independence.specs.Discipline.{Reaches, KeepsApart}
use Rattle.vs_rules.specs.vs_process.specs.BlockDrivers.{puts_out}
use Rattle.vs_independence.specs.Discipline as a
use Rattle.vs_independence.proofs.Beginning.{AllStopped, delay_timed}
use Rattle.vs_independence.proofs.Cones.{ControlNames, clash, is_block, out_writes, into_writes, source_of, reach_cone, reach_root}
use Rattle.vs_independence.specs.RuleLaws.{ClockTurns}
use Rattle.vs_independence.proofs.RulesFire.{Begun, Walking, not_block, zero_less, timed_walks, timed_writes, seq_found, sequential_of, closed, stands_found, bit_digit}
use Rattle.vs_rules.specs.vs_process.proofs.ThreadLinks.{root_bit}
use Rattle.vs_independence.proofs.Early.{found_waits, timed_hears}
use Rattle.vs_independence.proofs.Firing.{one_writer, one_second, writes_as, Rooted, rooted, none_fires, fires_at, view_bit, same_digits}
use Rattle.vs_independence.proofs.Lasts.{Last, Bitwise, bit_iterate}
use Rattle.vs_rules.proofs.Texts.{writes_now, writes_later}
use Rattle.vs_independence.proofs.Threads.{waiting_timed, heard_term, hears_edges, hears_level, zero_or, Opened, opened, thread_walks, writes_walks, makes_walks, Looks, no_looks, reads_walks, Reading, reading}
use Rattle.vs_independence.proofs.Resumed.{Resumed, resumed, resumed_mixed, resumed_runs, resumed_waits}
use Rattle.vs_independence.proofs.Walks.{At, at_zero, at_later, Here, Heard, IsAtPlace, Wrote, Made}

-- ---- two that write one signal are one

alone : (d : Parts) (c : Claims) → WellFormed d → (W : Todo → ℕ → Type 0) (v : ℕ) →
    ((i : ℕ) (k : Todo) → IsPoint d i k → W k v → IsWriter d c v i ⊎ IsSecond d c v i) →
    ((i : ℕ) (k : Todo) → IsSecond d c v i → IsPoint d i k → W k v → IsLate d i k → ⊥) →
    ((i j : ℕ) (k l : Todo) → IsSecond d c v i → IsPoint d i k → W k v → IsWriter d c v j → IsSlot0 d (is_wide c) j l → W l v → ⊥) →
    (time i j : ℕ) (k l : Todo) → Here d c i time k → Here d c j time l → W k v → W l v → j ≡ i
alone d c formed W v named early first time i j k l x y wx wy = by_cases (named i k x.point wx) (named j l y.point wy)
  where
    second_first : (i j : ℕ) (k l : Todo) → Here d c i time k → Here d c j time l → W k v → W l v → IsSecond d c v i → IsWriter d c v j → ⊥
    second_first i j k l x y wx wy si wj = at_slot x.at y.at
      where
        at_slot : At d c i time k → At d c j time l → ⊥
        at_slot (at_later up late slot) other = early i k si x.point wx late
        at_slot (at_zero z s) (at_later up late slot) = zero_less time up z
        at_slot (at_zero z s) (at_zero z' s') = first i j k l si x.point wx wj s' wy

    by_cases : IsWriter d c v i ⊎ IsSecond d c v i → IsWriter d c v j ⊎ IsSecond d c v j → j ≡ i
    by_cases (inl wi) (inl wj) = one_writer d c formed v j i wj wi
    by_cases (inr si) (inr sj) = one_second d c formed v j i sj si
    by_cases (inr si) (inl wj) = absurd (second_first i j k l x y wx wy si wj)
    by_cases (inl wi) (inr sj) = absurd (second_first j i l k y x wy wx sj wi)

pub alone_now : (d : Parts) (c : Claims) → WellFormed d → (v : ℕ) → K2 d c v → (time i j : ℕ) (k l : Todo) → Here d c i time k → Here d c j time l → WritesNow d k v → WritesNow d l v → j ≡ i
alone_now d c formed v r =
    alone d c formed (WritesNow d) v (λ i k p w. r.named i (writes_now d i k v p w)) (λ i k s p w late. r.early i k s p (inl w) late) (λ i j k l si p wk wj s wl. r.first_alone i j l si wj s wl)

pub alone_later : (d : Parts) (c : Claims) → WellFormed d → (v : ℕ) → K2 d c v → (time i j : ℕ) (k l : Todo) → Here d c i time k → Here d c j time l → WritesLater d k v → WritesLater d l v → j ≡ i
alone_later d c formed v r =
    alone d c formed (WritesLater d) v (λ i k p w. r.named i (writes_later d i k v p w)) (λ i k s p w late. r.early i k s p (inr w) late) (λ i j k l si p wk wj s wl. r.first_alone_later i j k l si p wk wj s wl)

-- ---- what reaches a range that a process reads in the first slot is its signal

-- it is no block that writes what a process reads there
no_block_there : (d : Parts) (c : Claims) (i m : ℕ) → IsSequential d c i → (m ≡ i) ⊎ (IsWide c × (IsBlock d c m → ⊥)) → blocks_of d c m ≡ true → ⊥
no_block_there d c i m seq (inl same) blk = true≢false (sym blk ∙ ap (blocks_of d c) same ∙ not_block d c i seq)
no_block_there d c i m seq (inr other) blk = other.1 (is_block d c m blk)

first_read : (d : Parts) (c : Claims) (b : State) → Begun d c b → (i u : ℕ) (r : BitRange) (k : Todo) → IsSequential d c i → IsSlot0 d (is_wide c) i k → Reads d c k r → Reaches d (blocks_of d c) u r → u ≡ r.signal
first_read d c b g i u r k seq s reads reach = by_reach r refl reach
  where
    first : K10_Process d c i
    first = g.rules.first_slot i

    by_reach : (q : BitRange) → q.signal ≡ r.signal → Reaches d (blocks_of d c) u q → u ≡ r.signal
    by_reach _ e (a.here q same) = sym same ∙ e
    by_reach _ e (a.through p q j x reach is reads' into) =
        absurd (true≢false (sym (driven d.assigns j x r.signal is (subst (λ n. writes_signal x.target n ≡ true) e (into_named d x.target q into)))
        ∙ variable_undriven d g.formed r.signal (first.variable k r seq s reads)))
    by_reach _ e (a.past p q m reach blk con puts) =
        absurd (no_block_there d c i m seq (first.alone k r m seq s reads (subst (Writes d m) e (into_writes d m q puts))) blk)

-- ---- reading

-- what a process reads where another one's write reaches
data Read (d : Parts) (c : Claims) (b : State) (i j u : ℕ) (r : BitRange) (k : Todo) : Type 0 where
  its_own : j ≡ i → (u ≡ r.signal) ⊎ (IsHot d (is_wide c) i u k → ⊥) → Read d c b i j u r k
  its_edge : 0 < b.time → IsOwnEdge d c i r.signal k → IsWriter d c u j → HasWriteSlot d c u (b.time % c.modulus) → HasSlot d c i k (b.time % c.modulus) → Read d c b i j u r k

read_at : (d : Parts) (c : Claims) (b : State) → Begun d c b → ControlNames d c → (i j u : ℕ) (r : BitRange) (k l : Todo) → IsSequential d c i → IsSequential d c j → Here d c i b.time k → Here d c j b.time l → Reads d c k r →
    Reaches d (blocks_of d c) u r → WritesNow d l u → Read d c b i j u r k
read_at d c b g names i j u r k l seq other x y reads reach wrote = at_slot x.at y.at
  where
    source : IsSource d c u
    source = source_of d c b g j u other (writes_now d j l u y.point wrote)

    at_slot : At d c i b.time k → At d c j b.time l → Read d c b i j u r k
    at_slot (at_zero z s) (at_later up late slot) = absurd (zero_less b.time up z)
    at_slot (at_zero z s) (at_zero z' s') =
        let same = first_read d c b g i u r k seq s reads reach in
        let now = subst (WritesNow d l) same wrote in
        elim ((g.rules.first_slot i).alone k r j seq s reads (writes_now d j l r.signal y.point now)) [
          | inl one ↦ its_own one (inl same)
          | inr other ↦ its_own ((g.rules.first_slot i).first k l r j other.0 seq s reads s' now) (inl same)
        ]
    at_slot (at_later up late slot) (at_zero z s) = absurd (zero_less b.time up z)
    at_slot (at_later up late slot) (at_later up' late' slot') =
        let writer = writes_as d c b g b.time j u l up y wrote in
        let at_u : HasWriteSlot d c u (b.time % c.modulus) = record { writer = j; at = l; is = writer; point = y.point; writes = wrote; slot = slot' } in
        elim ((g.rules.readings i).fixed k r u seq x.point reads (record { source = source; process = j; point = l; is = y.point; writes = wrote }) (reach_cone d c u r names reach source)) [
          | inl own ↦ its_own (one_writer d c g.formed u j i writer own.0) own.1
          | inr more ↦ elim more [
            | inl edge ↦ its_edge up edge writer at_u slot
            | inr apart ↦ absurd (apart (b.time % c.modulus) at_u slot)
          ]
        ]

-- what can be reached is a signal
reach_signal : (d : Parts) (c : Claims) (b : State) → Begun d c b → (u : ℕ) (r : BitRange) → HasKind true d u → Reaches d (blocks_of d c) u r → (s : Signal) × (slice_get d.signals r.signal ≡ Some s)
reach_signal d c b g u _ kind (a.here r e) = (kind.0, ap (slice_get d.signals) e ∙ kind.1)
reach_signal d c b g u _ kind (a.through q r j x reach is reads into) = let net = net_of d g.formed j x r.signal is (into_named d x.target r into) in (net.0, net.1)
reach_signal d c b g u _ kind (a.past q r k reach blk con puts) = let v = writes_variable d g.formed k r.signal (into_writes d k r puts) in (v.0, v.1)

-- what reaches an edge signal that a process reads is its root
own_root : (d : Parts) (c : Claims) (b : State) → Begun d c b → (i u : ℕ) (r : BitRange) (k : Todo) → HasKind true d u → IsOwnEdge d c i r.signal k → Reaches d (blocks_of d c) u r → Rooted d c u r.signal
own_root d c b g i u r k kind own reach =
    let s = reach_signal d c b g u r kind reach in
    let entry = entry_root d c g.rules r.signal s.0.path.items (ap signal_name s.1) (record { process = i; term = own.term; has = own.has; edge = own.edge; of = own.of }) in
    let six = g.rules.roots r.signal in
    let sound = six.root entry.0 entry.1 in
    let same : u ≡ entry.0 = reach_root d c b g (is_wide c) u entry.0 r.signal r kind sound (six.copies entry.0 entry.1) refl reach in
    record { is = subst (λ n. IsRootOf d c n r.signal) (sym same) entry.1; sound = subst (IsSoundRoot d c) (sym same) sound }

-- a process reads its own edge signal: it was fired by it
fired_by : (d : Parts) (c : Claims) (b : State) → Begun d c b → ClockTurns d c b → (i u : ℕ) (r : BitRange) (th : Thread) (is : IsThread d (blocks_of d c) b i th) → IsSequential d c i → Looks c th.place r → (rd : Reading d c i b.time r th.place) →
    0 < b.time → Rooted d c u r.signal → IsOwnEdge d c i r.signal rd.k → HasWriteSlot d c u (b.time % c.modulus) → IsFiredBy d (blocks_of d c) b i th is r.signal
fired_by d c b g clocks i u r th is seq looks rd up root own slot = by_input is.input refl is.may is.is
  where
    blocks : ℕ → Bool
    blocks = blocks_of d c

    edge : WaitsForEdges d c i
    edge = hears_edges d c g.rules i own.term seq own.has

    -- it waited, or had ended
    no_reads : (p : Place) → is_stopped p ≡ true → Looks c p r → ⊥
    no_reads (going gait k) h looks = false≢true h
    no_reads (inactive k) h looks = no_looks c r looks
    no_reads (sleeping due k) h looks = no_looks c r looks
    no_reads (waiting terms k) h looks = no_looks c r looks
    no_reads ended h looks = no_looks c r looks

    -- or it goes on behind a delay control
    delayed : Resumed d c i b.time th.place → ⊥
    delayed h =
        let mix = resumed_mixed d c g.rules i b.time th.place edge h in
        own.undelayed mix.0 u (b.time % c.modulus) mix.1 root.is slot (resumed_runs d c g.rules i b.time mix.0 th.place rd.k mix.1 h (rd.led h.behind h.led))

    by_input : (input : Option Fired) → is.input ≡ input → MayOpen d blocks b i input → iterate is.count (turn b.time i) (opening blocks b i input) ≡ th → IsFiredBy d blocks b i th is r.signal
    by_input None e may same = absurd (elim (resumed d c b g i is.count seq (λ e. zero_less b.time up (ap (λ (s : State). s.time) e)) th same) [
      | inl on ↦ delayed on
      | inr rests ↦ no_reads th.place rests.1 looks
    ])
    by_input (Some f) e may same =
        let heard : Heard d i may.terms (erased may.todo) = subst (IsAtPlace d c i b.time) may.at (stands_found d c b g i seq) in
        let has = heard_term d i may.terms (erased may.todo) may.term heard may.is in
        (f, e, same_signal f (opened d c b g clocks i f seq may.term has may.fires (λ first. found_waits d blocks b first i may.terms may.todo may.at)))
      where
        same_signal : (f : Fired) → Opened d c b i f → f.signal ≡ r.signal
        same_signal f o =
            let one : o.fires.root ≡ u = own.apart u o.fires.root (b.time % c.modulus) root.is slot (record { term = o.term; has = o.has; is_root = o.fires.is_root; fires = o.fires }) in
            sym o.of
            ∙ sym ((g.rules.edges i).one_signal own.term o.term u edge own.has o.has (subst (IsRootOf d c u) (sym own.of) root.is) (subst (λ n. IsRootOf d c n o.term.range.signal) one o.fires.is_root))
            ∙ own.of

-- ---- roots

-- the terms of a text stand at its points: left
abbrev pub HeardAtPoints : Parts → Type 0
HeardAtPoints d = (i : ℕ) (p : Process) (v : ℕ) → slice_get d.processes i ≡ Some p → listens p.body v ≡ true → (t : EventTerm) × HasTerm d i t × (t.range.signal ≡ v)

-- the root of a signal that is heard is one that the certificate names
root_claimed : (d : Parts) (c : Claims) (b : State) → Begun d c b → HeardAtPoints d → (root : ℕ) → IsRoot d (blocks_of d c) root → (v : ℕ) × Rooted d c root v
root_claimed d c b g stands root h =
    let i = h.heard.number in
    let seq = sequential_of d c g.rules i h.heard.process h.heard.is h.heard.other in
    let term = stands i h.heard.process h.signal h.heard.is h.heard.hears in
    (term.0.range.signal, rooted d c b g i term.0 term.1 (hears_level d c g.rules i term.0 seq term.1) root (subst (Copies d root) (sym term.2) h.copies))

-- where all have stopped no thread writes, and none updates
stopped_none : (d : Parts) (c : Claims) (b : State) → Begun d c b → AllStopped b → (i : ℕ) (th : Thread) → IsThread d (blocks_of d c) b i th → th ≡ opening (blocks_of d c) b i None
stopped_none d c b g still i th is = by_input is.input is.may is.is
  where
    at_found : (x : Bool) → is_stopped (if x then ended else get_or b.places i ended) ≡ true
    at_found true = refl
    at_found false = still i

    by_input : (input : Option Fired) → MayOpen d (blocks_of d c) b i input → iterate is.count (turn b.time i) (opening (blocks_of d c) b i input) ≡ th → th ≡ opening (blocks_of d c) b i None
    by_input None may e = sym e ∙ Rattle.vs_independence.proofs.RulesFire.stopped_iterate b.time i is.count (opening (blocks_of d c) b i None) (at_found (blocks_of d c i))
    by_input (Some f) may e = absurd (Rattle.vs_independence.proofs.RulesFire.stopped_writes d c b g still may.fires.writer may.fires.root may.fires.by may.fires.timed may.fires.writes)

-- a root is written by a process that waits for nothing where the slot begins
root_timed : (d : Parts) (c : Claims) (b : State) → Begun d c b → ClockTurns d c b → HeardAtPoints d → (i root : ℕ) (th : Thread) → IsRoot d (blocks_of d c) root → IsThread d (blocks_of d c) b i th → writes th root ≡ true →
    is_timed (found (blocks_of d c) b i) ≡ true
root_timed d c b g clocks heard i root th h is w = by_first g.begin.first
  where
    walking : Walking d c i b.time th
    walking = writes_walks d c b g clocks i root th is w

    place : found (blocks_of d c) b i ≡ get_or b.places i ended
    place = seq_found d c b i walking.sequential

    by_first : (b ≡ start d) ⊎ ((0 < b.time) ⊎ AllStopped b) → is_timed (found (blocks_of d c) b i) ≡ true
    by_first (inl e) = subst (λ (p : Place). is_timed p ≡ true) (sym (place ∙ ap (λ (s : State). get_or s.places i ended) e)) (Rattle.vs_independence.proofs.Beginning.start_timed d i)
    by_first (inr (inl up)) =
        let wrote = walking.walked.wrote root w in
        let writer = writes_as d c b g b.time i root wrote.k up wrote.here wrote.writes in
        let known = (root_claimed d c b g heard root h).1.sound.writer in
        let kind : IsDelay d c i = subst (IsDelay d c) (one_writer d c g.formed root known.0 i known.1 writer) known.2 in
        delay_timed d c i b.time kind (g.rules.residues i) (found (blocks_of d c) b i) (stands_found d c b g i walking.sequential)
    by_first (inr (inr still)) = absurd (false≢true (subst (λ t. writes t root ≡ true) (stopped_none d c b g still i th is) w))

-- and by no `<=`
root_now : (d : Parts) (c : Claims) (b : State) → Begun d c b → ClockTurns d c b → HeardAtPoints d → (i root : ℕ) (th : Thread) → IsRoot d (blocks_of d c) root → IsThread d (blocks_of d c) b i th → any_names th.made root ≡ true → ⊥
root_now d c b g clocks heard i root th h is m = by_at made.here.at
  where
    walking : Walking d c i b.time th
    walking = makes_walks d c b g clocks i root th is m

    made : Made d c i b.time root
    made = walking.walked.made root m

    claimed : (v : ℕ) × Rooted d c root v
    claimed = root_claimed d c b g heard root h

    never : IsWriter d c root i → ⊥
    never writer =
        let mode = g.rules.modes root Rattle.vs_rules.specs.Claims.blocking claimed.1.sound.mode in
        let same : mode.0 ≡ i = one_writer d c g.formed root mode.0 i mode.1 writer in
        subst (λ n. Rattle.vs_rules.specs.Rules.NeverLater d root n) same mode.2.1 made.k made.here.point made.writes

    by_at : At d c i b.time made.k → ⊥
    by_at (at_zero z s) = (g.rules.first_roots root).now i made.k (claimed.0, claimed.1.is) s made.writes
    by_at (at_later up late slot) = elim ((g.rules.writers root).named i (writes_later d i made.k root made.here.point made.writes)) [
      | inl writer ↦ never writer
      | inr second ↦ (g.rules.writers root).early i made.k second made.here.point (inr made.writes) late
    ]

-- with one value
root_once : (d : Parts) (c : Claims) (b : State) → Begun d c b → HeardAtPoints d → (i root : ℕ) (th later : Thread) → IsRoot d (blocks_of d c) root → IsTimed (blocks_of d c) b i th → IsTimed (blocks_of d c) b i later →
    writes th root ≡ true → writes later root ≡ true → slice_get th.view root ≡ slice_get later.view root
root_once d c b g heard i root th later h is that w x = by_at (zero_or b.time)
  where
    blocks : ℕ → Bool
    blocks = blocks_of d c

    claimed : (v : ℕ) × Rooted d c root v
    claimed = root_claimed d c b g heard root h

    walking : Walking d c i b.time th
    walking = timed_writes d c b g i root th is w

    seq : IsSequential d c i
    seq = walking.sequential

    first : Thread
    first = opening blocks b i None

    stands : IsAtPlace d c i b.time first.place
    stands = stands_found d c b g i seq

    bit : Rattle.vs_rules.specs.vs_process.specs.Edges.IsBit d root
    bit = root_bit d root h.signal h.copies

    old : (z : Digit) × (slice_get b.store root ≡ Some (one_bit z))
    old = Rattle.vs_independence.proofs.RulesFire.bit_shape b.store (start_store d) root X g.assigns.shaped bit

    last_of : (t : Thread) → IsTimed blocks b i t → writes t root ≡ true → Last d c i b.time root t.view
    last_of t timed wrote =
        (subst (Bitwise d c i b.time root) timed.is (bit_iterate d c i (closed d c b g i seq) b.time timed.count root first old.0 refl refl stands (bit_digit b.store root old.0 old.1))).last wrote

    zero_at : (time : ℕ) (k : Todo) → time ≡ 0 → At d c i time k → IsSlot0 d (is_wide c) i k
    zero_at time k z (at_zero z' s) = s
    zero_at time k z (at_later up late slot) = absurd (zero_less time up z)

    by_at : (b.time ≡ 0) ⊎ (0 < b.time) → slice_get th.view root ≡ slice_get later.view root
    by_at (inl z) =
        let one = last_of th is w in
        let two = last_of later that x in
        let k10 = g.rules.first_roots root in
        let claim : IsRootClaimed d c root = (claimed.0, claimed.1.is) in
        let s1 = zero_at b.time one.k z one.here.at in
        let s2 = zero_at b.time two.k z two.here.at in
        let same : one.k ≡ two.k = (k10.once i i one.k two.k claim s1 (inl one.writes) s2 (inl two.writes)).1 in
        let none = k10.constant i one.k claim s1 one.writes in
        let v1 = view_bit d c b g root i th bit is in
        let v2 = view_bit d c b g root i later bit that in
        let d1 : v1.0 ≡ none.digit = same_digits th.view root v1.0 none.digit (bit_digit th.view root v1.0 v1.1) (one.gave none.digit none.gives) in
        let d2 : v2.0 ≡ none.digit = same_digits later.view root v2.0 none.digit (bit_digit later.view root v2.0 v2.1) (two.gave none.digit (subst (λ k. Gives k (bit_of root) none.digit) same none.gives)) in
        v1.1 ∙ ap (λ y. Some (one_bit y)) (d1 ∙ sym d2) ∙ sym v2.1
    by_at (inr up) =
        let wrote = walking.walked.wrote root w in
        let writer = writes_as d c b g b.time i root wrote.k up wrote.here wrote.writes in
        ap (λ (t : Thread). slice_get t.view root) (sym is.is)
        ∙ Rattle.vs_independence.proofs.Once.one_value d c i (closed d c b g i seq) b.time root claimed.1.sound writer is.count that.count first refl refl stands
        (subst (λ t. writes t root ≡ true) (sym is.is) w) (subst (λ t. writes t root ≡ true) (sym that.is) x)
        ∙ ap (λ (t : Thread). slice_get t.view root) that.is

-- a process that waits for nothing where the slot begins is fired by nothing but what it wrote
unfired : (d : Parts) (c : Claims) (b : State) → Begun d c b → ClockTurns d c b → (i : ℕ) (th : Thread) (f : Fired) → IsTimed (blocks_of d c) b i th → Awaits d (blocks_of d c) b th f →
    writes th f.signal ≡ false → ⊥
unfired d c b g clocks i th f is w other = elim (timed_walks d c b g i th is) [
  | inl walking ↦ walks walking
  | inr idle ↦ idles idle
]
  where
    blocks : ℕ → Bool
    blocks = blocks_of d c

    idles : th ≡ opening blocks b i None → ⊥
    idles e = waiting_timed (found blocks b i) w.terms w.todo (sym (ap (λ (t : Thread). t.place) e) ∙ w.at) is.timed

    walks : Walking d c i b.time th → ⊥
    walks walking = by_first g.begin.first
      where
        seq : IsSequential d c i
        seq = walking.sequential

        has : HasTerm d i w.term
        has = heard_term d i w.terms (erased w.todo) w.term (subst (IsAtPlace d c i b.time) w.at walking.walked.stands) w.is

        level : is_level w.term ≡ false
        level = hears_level d c g.rules i w.term seq has

        -- it didn't write the root itself, and so it doesn't where it waits
        not_own : (w.fires.writer ≡ i) × (w.term.range.signal ≡ w.fires.root) → ⊥
        not_own same =
            let wrote = timed_wrote d blocks b i w.fires.root th w.fires.by (record { count = is.count; input = None; may = tt; is = is.is }) (ap is_stopped w.at)
            (subst (λ k. IsTimed blocks b k w.fires.by) same.0 w.fires.timed) w.fires.writes in
            true≢false (sym (subst (λ n. writes th n ≡ true) (sym same.1 ∙ w.fires.term) wrote) ∙ other)

        -- it goes on behind a delay control
        delayed : 0 < b.time → Resumed d c i b.time (waiting w.terms w.todo) → ⊥
        delayed up h =
            resumed_waits d c g.rules i b.time w.terms w.todo (resumed_mixed d c g.rules i b.time (waiting w.terms w.todo) (hears_edges d c g.rules i w.term seq has) h) h
            (w.term, w.is, fires_at d c b g clocks i w.term f has level w.fires up)

        by_first : (b ≡ start d) ⊎ ((0 < b.time) ⊎ AllStopped b) → ⊥
        by_first (inl e) =
            none_fires d c b g i w.term f has level w.fires (λ first. (timed_hears d blocks b first i th is w.terms w.todo w.term w.at w.is, not_own)) (ap (λ (s : State). s.time) e)
        by_first (inr (inl up)) = elim (resumed d c b g i is.count seq (λ e. zero_less b.time up (ap (λ (s : State). s.time) e)) th is.is) [
          | inl on ↦ delayed up (subst (Resumed d c i b.time) w.at on)
          | inr rests ↦ idles rests.0
        ]
        by_first (inr (inr still)) = idles (sym is.is ∙ Rattle.vs_independence.proofs.RulesFire.stopped_iterate b.time i is.count (opening blocks b i None) (ap is_stopped (seq_found d c b i seq) ∙ still i))

-- a place that isn't timed waits
waits_found : (p : Place) → is_timed p ≡ false → (terms : List EventTerm) × (todo : Todo) × (p ≡ waiting terms todo)
waits_found (going gait k) h = absurd (false≢true (sym h))
waits_found (inactive k) h = absurd (false≢true (sym h))
waits_found (sleeping due k) h = absurd (false≢true (sym h))
waits_found (waiting terms k) h = (terms, k, refl)
waits_found ended h = absurd (false≢true (sym h))

-- a process is fired by terms of one signal
opened_by : (d : Parts) (c : Claims) (b : State) → Begun d c b → ClockTurns d c b → (i : ℕ) (th : Thread) (f : Fired) → is_timed (found (blocks_of d c) b i) ≡ false → IsThread d (blocks_of d c) b i th → Awaits d (blocks_of d c) b th f → Opened d c b i f
opened_by d c b g clocks i th f waits is w = elim (thread_walks d c b g clocks i th is) [
  | inl walking ↦ opened d c b g clocks i f walking.sequential w.term (heard_term d i w.terms (erased w.todo) w.term (subst (IsAtPlace d c i b.time) w.at walking.walked.stands) w.is) w.fires
      (λ first. let at = waits_found (found (blocks_of d c) b i) waits in found_waits d (blocks_of d c) b first i at.0 at.1 at.2)
  | inr idle ↦ absurd (Rattle.vs_independence.proofs.Threads.ended_waits w.terms w.todo (sym (ap (λ (t : Thread). t.place) idle.0 ∙ idle.1) ∙ w.at))
]

fired_by_one : (d : Parts) (c : Claims) (b : State) → Begun d c b → ClockTurns d c b → (i : ℕ) (th other : Thread) (f h : Fired) → is_timed (found (blocks_of d c) b i) ≡ false →
    IsThread d (blocks_of d c) b i th → IsThread d (blocks_of d c) b i other → Awaits d (blocks_of d c) b th f → Awaits d (blocks_of d c) b other h → f.signal ≡ h.signal
fired_by_one d c b g clocks i th other f h waits is that w x =
    let one = opened_by d c b g clocks i th f waits is w in
    let two = opened_by d c b g clocks i other h waits that x in
    let seven = g.rules.edges i in
    let root : one.fires.root ≡ two.fires.root =
    seven.apart one.fires.root two.fires.root (b.time % c.modulus) one.edge
    (record { term = one.term; has = one.has; is_root = one.fires.is_root; fires = one.fires }) (record { term = two.term; has = two.has; is_root = two.fires.is_root; fires = two.fires }) in
    sym one.of ∙ seven.one_signal one.term two.term two.fires.root one.edge one.has two.has (subst (λ n. IsRootOf d c n one.term.range.signal) root one.fires.is_root) two.fires.is_root ∙ two.of

-- ---- all

pub reads_others : (d : Parts) (c : Claims) (b : State) → Begun d c b → ClockTurns d c b → ControlNames d c → (i k u : ℕ) (r : BitRange) (th other : Thread) (is : IsThread d (blocks_of d c) b i th) → IsThread d (blocks_of d c) b k other →
    Looks c th.place r → writes other u ≡ true → Reaches d (blocks_of d c) u r → (k ≡ i) ⊎ IsFiredBy d (blocks_of d c) b i th is r.signal
reads_others d c b g clocks names i k u r th other is that reads wrote reach =
    by_read (read_at d c b g names i k u r rd.k w.k one.sequential two.sequential rd.here w.here rd.reads reach w.writes)
  where
    one : Walking d c i b.time th
    one = reads_walks d c b g clocks i r th is reads

    two : Walking d c k b.time other
    two = writes_walks d c b g clocks k u other that wrote

    rd : Reading d c i b.time r th.place
    rd = reading d c i b.time r th.place one.walked.stands reads

    w : Wrote d c k b.time u
    w = two.walked.wrote u wrote

    by_read : Read d c b i k u r rd.k → (k ≡ i) ⊎ IsFiredBy d (blocks_of d c) b i th is r.signal
    by_read (its_own same own) = inl same
    by_read (its_edge up edge writer at_u slot) =
        let root = own_root d c b g i u r rd.k (writes_variable d g.formed k u (writes_now d k w.k u w.here.point w.writes)) edge reach in
        inr (fired_by d c b g clocks i u r th is one.sequential reads rd up root edge at_u)

pub reads_own : (d : Parts) (c : Claims) (b : State) → Begun d c b → ClockTurns d c b → ControlNames d c → (i u : ℕ) (r : BitRange) (th : Thread) → IsThread d (blocks_of d c) b i th →
    Looks c th.place r → writes th u ≡ true → Reaches d (blocks_of d c) u r → u ≡ r.signal
reads_own d c b g clocks names i u r th is reads wrote reach =
    by_read (read_at d c b g names i i u r rd.k w.k one.sequential one.sequential rd.here w.here rd.reads reach w.writes)
  where
    one : Walking d c i b.time th
    one = reads_walks d c b g clocks i r th is reads

    rd : Reading d c i b.time r th.place
    rd = reading d c i b.time r th.place one.walked.stands reads

    w : Wrote d c i b.time u
    w = one.walked.wrote u wrote

    by_read : Read d c b i i u r rd.k → u ≡ r.signal
    by_read (its_own same (inl own)) = own
    by_read (its_own same (inr cold)) = absurd (cold (rd.hot u (one.walked.hot u wrote)))
    by_read (its_edge up own writer at_u slot) =
        let known = (own_root d c b g i u r rd.k (writes_variable d g.formed i u (writes_now d i w.k u w.here.point w.writes)) own reach).sound.writer in
        let delay : IsDelay d c i = subst (IsDelay d c) (one_writer d c g.formed u known.0 i known.1 writer) known.2 in
        absurd ((g.rules.residues i).no_event own.has.control own.has.behind own.has.number own.has.terms delay own.has.point own.has.goes)

alone_out : (d : Parts) (c : Claims) (b : State) → Begun d c b → ClockTurns d c b → (i k v : ℕ) (th : Thread) → IsThread d (blocks_of d c) b i th → blocks_of d c k ≡ true → puts_out d k v ≡ true → writes th v ≡ false
alone_out d c b g clocks i k v th is blk puts = elim (cases_Bool (writes th v)) [
  | inl hit ↦
      let walking = writes_walks d c b g clocks i v th is hit in
      let w = walking.walked.wrote v hit in
      absurd (clash d c b g i k v walking.sequential (writes_now d i w.k v w.here.point w.writes) blk (out_writes d k v puts))
  | inr miss ↦ miss
]

alone_out_later : (d : Parts) (c : Claims) (b : State) → Begun d c b → ClockTurns d c b → (i k v : ℕ) (th : Thread) → IsThread d (blocks_of d c) b i th → blocks_of d c k ≡ true → puts_out d k v ≡ true → any_names th.made v ≡ false
alone_out_later d c b g clocks i k v th is blk puts = elim (cases_Bool (any_names th.made v)) [
  | inl hit ↦
      let walking = makes_walks d c b g clocks i v th is hit in
      let w = walking.walked.made v hit in
      absurd (clash d c b g i k v walking.sequential (writes_later d i w.k v w.here.point w.writes) blk (out_writes d k v puts))
  | inr miss ↦ miss
]

pub reads_settled : (d : Parts) (c : Claims) (b : State) → Begun d c b → ClockTurns d c b → (i j u : ℕ) (r : BitRange) (th : Thread) (x : AssignState) → IsThread d (blocks_of d c) b i th → Looks c th.place r →
    slice_get b.assigns j ≡ Some x → x.needs ≡ true → writes_signal x.target u ≡ true → Reaches d (blocks_of d c) u r → ⊥
reads_settled d c b g clocks i j u r th x is reads at_j needs named reach = by_at rd.here.at
  where
    one : Walking d c i b.time th
    one = reads_walks d c b g clocks i r th is reads

    rd : Reading d c i b.time r th.place
    rd = reading d c i b.time r th.place one.walked.stands reads

    by_at : At d c i b.time rd.k → ⊥
    by_at (at_later up late slot) = true≢false (sym needs ∙ (g.idle up j x at_j).0)
    by_at (at_zero z s) =
        let same = first_read d c b g i u r rd.k one.sequential s rd.reads reach in
        let link = link_of d.assigns b.assigns j x g.assigns.linked at_j in
        true≢false (sym (driven d.assigns j link.0 u link.1 (ap (λ (t : Target). writes_signal t u) link.2 ∙ named))
        ∙ ap (is_driven d.assigns) same ∙ variable_undriven d g.formed r.signal ((g.rules.first_slot i).variable rd.k r one.sequential s rd.reads))

pub reads_rested : (d : Parts) (c : Claims) (b : State) → Begun d c b → ClockTurns d c b → (i k u : ℕ) (r : BitRange) (th : Thread) → IsThread d (blocks_of d c) b i th → Looks c th.place r →
    blocks_of d c k ≡ true → is_going (get_or b.places k ended) ≡ true → puts_out d k u ≡ true → Reaches d (blocks_of d c) u r → ⊥
reads_rested d c b g clocks i k u r th is reads blk goes puts reach = by_at rd.here.at
  where
    one : Walking d c i b.time th
    one = reads_walks d c b g clocks i r th is reads

    rd : Reading d c i b.time r th.place
    rd = reading d c i b.time r th.place one.walked.stands reads

    by_at : At d c i b.time rd.k → ⊥
    by_at (at_later up late slot) = true≢false (sym goes ∙ g.rest k blk up)
    by_at (at_zero z s) =
        let same = first_read d c b g i u r rd.k one.sequential s rd.reads reach in
        no_block_there d c i k one.sequential ((g.rules.first_slot i).alone rd.k r k one.sequential s rd.reads (subst (Writes d k) same (out_writes d k u puts))) blk

-- the processes of a slot that begins keep apart
pub keeps_apart : (d : Parts) (c : Claims) (b : State) → Begun d c b → ClockTurns d c b → ControlNames d c → HeardAtPoints d → KeepsApart d (blocks_of d c) b
keeps_apart d c b g clocks names heard = record {
  only = λ i k v th other is that x y.
      let wx = (writes_walks d c b g clocks i v th is x).walked.wrote v x in
      let wy = (writes_walks d c b g clocks k v other that y).walked.wrote v y in
      alone_now d c g.formed v (g.rules.writers v) b.time i k wx.k wy.k wx.here wy.here wx.writes wy.writes;
  only_later = λ i k v th other is that x y.
      let wx = (makes_walks d c b g clocks i v th is x).walked.made v x in
      let wy = (makes_walks d c b g clocks k v other that y).walked.made v y in
      alone_later d c g.formed v (g.rules.writers v) b.time i k wx.k wy.k wx.here wy.here wx.writes wy.writes;
  outputs_alone = λ i k v th is blk puts. alone_out d c b g clocks i k v th is blk puts;
  outputs_alone_later = λ i k v th is blk puts. alone_out_later d c b g clocks i k v th is blk puts;
  reads_others = λ i k u r th other is that reads wrote reach. reads_others d c b g clocks names i k u r th other is that (inl reads) wrote reach;
  reads_own = λ i u r th is reads wrote reach. reads_own d c b g clocks names i u r th is (inl reads) wrote reach;
  reads_settled = λ i j u r th x is reads at_j needs named reach. reads_settled d c b g clocks i j u r th x is (inl reads) at_j needs named reach;
  reads_rested = λ i k u r th is reads blk goes puts reach. reads_rested d c b g clocks i k u r th is (inl reads) blk goes puts reach;
  root_timed = λ i root th h is w. root_timed d c b g clocks heard i root th h is w;
  root_once = λ i root th later h is that w x. root_once d c b g heard i root th later h is that w x;
  root_now = λ i root th h is m. root_now d c b g clocks heard i root th h is m;
  unfired = λ i th f is w other. unfired d c b g clocks i th f is w other;
  fired_by_one = λ i th other f h waits is that w x. fired_by_one d c b g clocks i th other f h waits is that w x;
}
