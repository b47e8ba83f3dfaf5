-- A process is fired above time 0 alone, and at firing slots of the term that wakes.
use Rattle.std.proofs.Common.{◌≡◌, ℕ, zero, suc, ◌*◌, ◌%◌, ◌<◌, ◌⊎◌, true, false, Option, Some, None, option_map, List, map, slice_get, refl, sym, ◌∙◌, ap, subst, inl, inr}
use Rattle.std.specs.Str.{bytes_eq}
use Rattle.std.proofs.lemmas.Bool.{true≢false, false≢true}
use Rattle.std.proofs.lemmas.Option.{same_Some}
use Rattle.std.proofs.lemmas.Slice.Eq.{bytes_eq-Decides}
use Rattle.std.proofs.Math.Nat.{mod-mod_of_dvd}
use Rattle.std.proofs.lemmas.Nat.Gcd.{dvd_of_mod-eq-zero}
use Rattle.vs_design.specs.vs_logic4.specs.declared.digit.Digit.{Digit}
use Rattle.vs_design.specs.vs_logic4.specs.declared.digit.Digit.TheVariants.{X}
use Rattle.vs_design.specs.vs_logic4.specs.declared.edge.Edge.{Edge}
use Rattle.vs_design.specs.vs_logic4.specs.declared.edge.Edge.TheVariants.{Any, Posedge, Negedge}
use Rattle.vs_design.specs.vs_logic4.specs.Edges.{is_edge}
use Rattle.vs_design.specs.vs_logic4.proofs.Basics.{map_at}
use Rattle.vs_design.specs.declared.design.Process.{Process}
use Rattle.vs_design.specs.declared.statement.EventTerm.{EventTerm}
use Rattle.vs_design.specs.Parts.{Parts}
use Rattle.vs_design.specs.Stores.{Store, start_store}
use Rattle.vs_design.specs.WellFormed.{WellFormed}
use Rattle.vs_independence.specs.vs_process.specs.vs_eval.specs.Laws.{digit_of}
use Rattle.vs_process.specs.Places.{Todo, Place, going, sleeping, inactive, waiting, ended}
use Rattle.vs_process.specs.Steps.{step}
use Rattle.vs_design.specs.Writes.{Write}
use Rattle.vs_independence.specs.vs_process.specs.Executions.{is_any, is_level}
use Rattle.vs_independence.specs.vs_process.specs.States.{State, start}
use Rattle.vs_independence.specs.vs_process.proofs.ProcessLists.{distinct_place}
use Rattle.vs_independence.specs.vs_process.proofs.Stores.{shape, shape-put}
use Rattle.vs_design.proofs.Stores.{slice_get-changed_at as changed_same}
use Rattle.vs_rules.specs.vs_process.specs.Threads.{Thread, store_after, turn_at, turn, iterate, writes, Fired, given, opening, IsTimed, Fires as Wakes}
use Rattle.vs_rules.specs.Claims.{Name, names_process, writer_in, second_in}
use Rattle.vs_rules.specs.Claims.{Claims, Kind, blocks_of, claim_of, IsWriter, IsSecond, IsDelay, signal_name, IsRootOf, is_wide}
use Rattle.vs_rules.specs.Paths.{WritesNow, HasTerm, IsHeardAtStart, RunsFrom}
use Rattle.vs_rules.specs.Rules.{IsSoundRoot}
use Rattle.vs_rules.specs.Slots.{InPhase, Fires, Ends}
use Rattle.vs_rules.specs.Copies.{CopiesRoot, is_odd, SeenAs}
use Rattle.vs_rules.specs.vs_process.specs.Edges.{one_bit, IsBit, Copies, inverted, inverses, shown}
use Rattle.vs_independence.proofs.Beginning.{AllStopped}
use Rattle.vs_independence.specs.RuleLaws.{ClockTurns, StaysUnset}
use Rattle.vs_independence.proofs.RulesFire.{Begun, Walking, timed_writes, stopped_writes, closed, stands_found, bit_shape, bit_digit, edge_of, edge_counts, edge_phase, zero_less}
use Rattle.vs_independence.proofs.WellFormed.{drives_well}
use Rattle.vs_rules.specs.vs_process.proofs.ThreadLinks.{copies_bit, copies_settled, root_bit, inverted_x}
use Rattle.vs_independence.proofs.Lasts.{Last, Bitwise, bit_iterate}
use Rattle.vs_independence.proofs.Inverses.{odd, same_root, parity_of, seen_of, seen, seen_level, edge_seen}
use Rattle.vs_independence.proofs.Roots.{entry_root, copies_signal}
use Rattle.vs_rules.proofs.Texts.{writes_now}
use Rattle.vs_independence.proofs.Walks.{At, at_zero, at_later, Here}

-- ---- writers

-- the processes that a name is of are one
pub same_named : (d : Parts) → WellFormed d → (o : Option Name) (i j : ℕ) → names_process o (slice_get d.processes i) ≡ true → names_process o (slice_get d.processes j) ≡ true → i ≡ j
same_named d formed o i j hi hj = by_options o (slice_get d.processes i) (slice_get d.processes j) refl refl hi hj
  where
    by_options : (o : Option Name) (a b : Option Process) → slice_get d.processes i ≡ a → slice_get d.processes j ≡ b → names_process o a ≡ true → names_process o b ≡ true → i ≡ j
    by_options None a b at_i at_j x y = absurd (false≢true x)
    by_options (Some n) None b at_i at_j x y = absurd (false≢true x)
    by_options (Some n) (Some p) None at_i at_j x y = absurd (false≢true y)
    by_options (Some n) (Some p) (Some q) at_i at_j x y =
        distinct_place bytes_eq (λ x z e. (bytes_eq-Decides x z).1 e) (map (λ (p : Process). p.name.items) d.processes) i j p.name.items q.name.items formed.names
        (map_at (λ (p : Process). p.name.items) d.processes i p at_i) (map_at (λ (p : Process). p.name.items) d.processes j q at_j)
        (sym ((bytes_eq-Decides n p.name.items).0 x) ∙ (bytes_eq-Decides n q.name.items).0 y)

pub one_writer : (d : Parts) (c : Claims) → WellFormed d → (v i j : ℕ) → IsWriter d c v i → IsWriter d c v j → i ≡ j
one_writer d c formed v i j = same_named d formed (writer_in (claim_of d c v)) i j

pub one_second : (d : Parts) (c : Claims) → WellFormed d → (v i j : ℕ) → IsSecond d c v i → IsSecond d c v j → i ≡ j
one_second d c formed v i j = same_named d formed (second_in (claim_of d c v)) i j

-- above time 0 a process that writes a signal is its writer
pub writes_as : (d : Parts) (c : Claims) (b : State) → Begun d c b → (time i v : ℕ) (k : Todo) → 0 < time → Here d c i time k → WritesNow d k v → IsWriter d c v i
writes_as d c b g time i v k up here w = by_role ((g.rules.writers v).named i (writes_now d i k v here.point w)) here.at
  where
    by_role : IsWriter d c v i ⊎ IsSecond d c v i → At d c i time k → IsWriter d c v i
    by_role (inl writer) at = writer
    by_role (inr second) (at_zero z s) = absurd (zero_less time up z)
    by_role (inr second) (at_later later late slot) = absurd ((g.rules.writers v).early i k second here.point (inl w) late)

-- ---- the root of a signal

-- the entry of a signal that an edge term names, and what it promises
pub record Rooted (d : Parts) (c : Claims) (root v : ℕ) : Type 0 where
  pub is : IsRootOf d c root v
  pub sound : IsSoundRoot d c root

pub rooted : (d : Parts) (c : Claims) (b : State) → Begun d c b → (i : ℕ) (t : EventTerm) → HasTerm d i t → is_level t ≡ false → (root : ℕ) → Copies d root t.range.signal → Rooted d c root t.range.signal
rooted d c b g i t has level root copies =
    let v = t.range.signal in
    let s = copies_signal d root v copies in
    let entry = entry_root d c g.rules v s.0.path.items (ap signal_name s.1) (record { process = i; term = t; has = has; edge = level; of = refl }) in
    let r = g.rules.roots v in
    let sound = r.root entry.0 entry.1 in
    let same : root ≡ entry.0 = same_root d g.formed (is_wide c) root entry.0 v copies (r.copies entry.0 entry.1) sound.variable in
    record { is = subst (λ n. IsRootOf d c n v) (sym same) entry.1; sound = subst (IsSoundRoot d c) (sym same) sound }

-- ---- firing

-- what the last write of a root by a timed thread is
record RootWrite (d : Parts) (c : Claims) (b : State) (root w : ℕ) (by : Thread) : Type 0 where
  walking : Walking d c w b.time by
  last : Last d c w b.time root by.view
  old : Digit
  digit : Digit
  is : slice_get by.view root ≡ Some (one_bit digit)

root_write : (d : Parts) (c : Claims) (b : State) → Begun d c b → (root w : ℕ) (by : Thread) (z : Digit) → IsBit d root → IsTimed (blocks_of d c) b w by →
    writes by root ≡ true → slice_get by.view root ≡ Some (one_bit z) → RootWrite d c b root w by
root_write d c b g root w by z bit timed wrote is =
    let walking = timed_writes d c b g w root by timed wrote in
    let found = bit_shape b.store (start_store d) root X g.assigns.shaped bit in
    let first = opening (blocks_of d c) b w None in
    let seq = walking.sequential in
    let bits = subst (Bitwise d c w b.time root) timed.is
    (bit_iterate d c w (closed d c b g w seq) b.time timed.count root first found.0 refl refl (stands_found d c b g w seq)
    (bit_digit b.store root found.0 found.1)) in
    record { walking = walking; last = bits.last wrote; old = found.0; digit = z; is = is }

behind_shape : (store : Store) (o : Option Write) → shape (store_after store o) ≡ shape store
behind_shape store None = refl
behind_shape store (Some w) = shape-put store w

turn_shape : (time i : ℕ) (p : Place) (th : Thread) → shape (turn_at time i p th).view ≡ shape th.view
turn_shape time i (going gait k) th = behind_shape th.view (step k th.view time).write
turn_shape time i (inactive k) th = refl
turn_shape time i (sleeping due k) th = refl
turn_shape time i (waiting terms k) th = refl
turn_shape time i ended th = refl

-- a thread keeps the shape of its store
pub thread_shape : (time i n : ℕ) (th : Thread) → shape (iterate n (turn time i) th).view ≡ shape th.view
thread_shape time i zero th = refl
thread_shape time i (suc n) th = let one = iterate n (turn time i) th in turn_shape time i one.place one ∙ thread_shape time i n th

-- what a timed thread has of a signal of one bit
pub view_bit : (d : Parts) (c : Claims) (b : State) → Begun d c b → (v w : ℕ) (by : Thread) → IsBit d v → IsTimed (blocks_of d c) b w by → (z : Digit) × (slice_get by.view v ≡ Some (one_bit z))
view_bit d c b g v w by bit timed =
    bit_shape by.view (start_store d) v X
    (ap (λ (t : Thread). shape t.view) (sym timed.is) ∙ thread_shape b.time w timed.count (opening (blocks_of d c) b w None) ∙ g.assigns.shaped) bit

given_there : (f : Fired) (store : Store) (v : ℕ) (words : List (List Digit)) → v ≡ f.signal → slice_get store v ≡ Some words → slice_get (given f store) v ≡ Some f.value
given_there f store v words e is =
    subst (λ n. slice_get (given f store) n ≡ Some f.value) (sym e)
    (changed_same (λ old. f.value) f.signal store ∙ ap (option_map (λ old. f.value)) (subst (λ n. slice_get store n ≡ Some words) e is))

pub same_digits : (store : Store) (v : ℕ) (x y : Digit) → digit_of store v 0 0 ≡ Some x → digit_of store v 0 0 ≡ Some y → x ≡ y
same_digits store v x y hx hy = same_Some x y (sym hx ∙ hy)

-- all that is known of a change that fires a process: the digits are those of the root, the edge is what it has where the term's edge comes
pub record Change (d : Parts) (c : Claims) (b : State) (t : EventTerm) (root w : ℕ) (by : Thread) : Type 0 where
  pub rooted : Rooted d c root t.range.signal
  pub walking : Walking d c w b.time by
  pub last : Last d c w b.time root by.view
  pub edge : Edge
  pub seen : SeenAs d (is_wide c) t edge
  pub level : is_any edge ≡ false
  pub old : Digit
  pub new : Digit
  pub was_x : slice_get b.store t.range.signal ≡ Some (one_bit X) → old ≡ X
  pub has : digit_of by.view root 0 0 ≡ Some new
  pub comes : is_edge edge old new ≡ true

pub change_of : (d : Parts) (c : Claims) (b : State) → Begun d c b → (i : ℕ) (t : EventTerm) (f : Fired) → HasTerm d i t → is_level t ≡ false → (w : Wakes d (blocks_of d c) b t f) → Change d c b t w.root w.writer w.by
change_of d c b g i t f has level w = record {
  rooted = root;
  walking = write.walking;
  last = write.last;
  edge = seen_of (odd count) t.edge;
  seen = subst (λ odd. SeenAs d (is_wide c) t (seen_of odd t.edge)) (sym parity) (seen d g.formed (is_wide c) w.root t root.sound.variable chain);
  level = seen_level (odd count) t.edge level;
  old = inverted count was.0;
  new = view.0;
  was_x = λ unknown.
      ap (inverted count) (same_digits b.store t.range.signal was.0 X (bit_digit b.store t.range.signal was.0 was.1) (bit_digit b.store t.range.signal X unknown))
      ∙ inverted_x count;
  has = bit_digit w.by.view w.root view.0 view.1;
  comes = edge_seen count t.edge was.0 view.0 level
      (edge_of t b.store (given f b.store) was.0 (inverted count view.0) level was.1
      (given_there f b.store t.range.signal (one_bit was.0) w.term was.1 ∙ ap (λ x. Some x) value_is) w.wakes);
}
  where
    copies : Copies d w.root t.range.signal
    copies = subst (Copies d w.root) (sym w.term) w.copies

    root : Rooted d c w.root t.range.signal
    root = rooted d c b g i t has level w.root copies

    -- what the rules say of the signal
    chain : CopiesRoot d (is_wide c) w.root t.range.signal
    chain = (g.rules.roots t.range.signal).copies w.root root.is

    count : ℕ
    count = inverses w.copies

    parity : odd count ≡ is_odd chain
    parity = parity_of d g.formed (is_wide c) w.root t.range.signal f.signal w.term root.sound.variable chain w.copies

    bit : IsBit d w.root
    bit = root_bit d w.root t.range.signal copies

    view : (z : Digit) × (slice_get w.by.view w.root ≡ Some (one_bit z))
    view = view_bit d c b g w.root w.writer w.by bit w.timed

    value_is : f.value ≡ one_bit (inverted count view.0)
    value_is = same_Some f.value (one_bit (inverted count view.0)) (sym w.value ∙ ap (shown count) view.1)

    write : RootWrite d c b w.root w.writer w.by
    write = root_write d c b g w.root w.writer w.by view.0 bit w.timed w.writes view.1

    was : (z : Digit) × (slice_get b.store t.range.signal ≡ Some (one_bit z))
    was = bit_shape b.store (start_store d) t.range.signal X g.assigns.shaped (copies_bit d w.root t.range.signal copies)

-- nothing is fired at time 0: terms at slot-0 points are silent there, and nothing waits for others
pub none_fires : (d : Parts) (c : Claims) (b : State) → Begun d c b → (i : ℕ) (t : EventTerm) (f : Fired) → HasTerm d i t → is_level t ≡ false → (w : Wakes d (blocks_of d c) b t f) →
    (b ≡ start d → IsHeardAtStart d i t × ((w.writer ≡ i) × (t.range.signal ≡ w.root) → ⊥)) → b.time ≡ 0 → ⊥
none_fires d c b g i t f has level w heard zero_time = by_first g.begin.first
  where
    ch : Change d c b t w.root w.writer w.by
    ch = change_of d c b g i t f has level w

    old_x : b ≡ start d → ch.old ≡ X
    old_x e = ch.was_x (ap (λ (s : State). slice_get s.store t.range.signal) e ∙ copies_bit d w.root t.range.signal (subst (Copies d w.root) (sym w.term) w.copies))

    silent : b ≡ start d → At d c w.writer b.time ch.last.k → ⊥
    silent e (at_later up late slot) = zero_less b.time up zero_time
    silent e (at_zero z s) =
        let none = (g.rules.first_roots w.root).constant w.writer ch.last.k (t.range.signal, ch.rooted.is) s ch.last.writes in
        let digit : ch.new ≡ none.digit = same_digits w.by.view w.root ch.new none.digit ch.has (ch.last.gave none.digit none.gives) in
        true≢false (sym (subst (λ x. is_edge ch.edge x none.digit ≡ true) (old_x e) (subst (λ x. is_edge ch.edge ch.old x ≡ true) digit ch.comes))
        ∙ none.silent i t ch.edge has (λ wide. ((heard e).0, λ same. (heard e).1 (sym same.0, same.1))) level ch.rooted.is ch.seen)

    by_first : (b ≡ start d) ⊎ ((0 < b.time) ⊎ AllStopped b) → ⊥
    by_first (inl e) = silent e ch.last.here.at
    by_first (inr (inl up)) = zero_less b.time up zero_time
    by_first (inr (inr still)) = stopped_writes d c b g still w.writer w.root w.by w.timed w.writes

-- above time 0, where a root is x, all that copies it is
root_x : (d : Parts) (c : Claims) (b : State) → Begun d c b → 0 < b.time → (root v : ℕ) → Copies d root v → digit_of b.store root 0 0 ≡ Some X → slice_get b.store v ≡ Some (one_bit X)
root_x d c b g up root v copies x =
    let is = bit_shape b.store (start_store d) root X g.assigns.shaped (root_bit d root v copies) in
    let same : is.0 ≡ X = same_digits b.store root is.0 X (bit_digit b.store root is.0 is.1) x in
    copies_settled d (drives_well d g.formed) b.store b.assigns g.assigns (g.idle up) root v copies ∙ ap (shown (inverses copies)) (is.1 ∙ ap (λ z. Some (one_bit z)) same)
    ∙ ap (λ z. Some (one_bit z)) (inverted_x (inverses copies))

-- from x to x there is no edge
no_edge : (edge : Edge) → is_any edge ≡ false → is_edge edge X X ≡ true → ⊥
no_edge Any level h = true≢false level
no_edge Posedge level h = false≢true h
no_edge Negedge level h = false≢true h

-- a process is fired at firing slots of the term
pub fires_at : (d : Parts) (c : Claims) (b : State) → Begun d c b → ClockTurns d c b → (i : ℕ) (t : EventTerm) (f : Fired) → HasTerm d i t → is_level t ≡ false → Wakes d (blocks_of d c) b t f → 0 < b.time →
    Fires d c t (b.time % c.modulus)
fires_at d c b g clocks i t f has level w up = by_at ch.last.here.at
  where
    ch : Change d c b t w.root w.writer w.by
    ch = change_of d c b g i t f has level w

    writer : IsWriter d c w.root w.writer
    writer = writes_as d c b g b.time w.writer w.root ch.last.k up ch.last.here ch.last.writes

    kind : IsDelay d c w.writer
    kind =
        let known = ch.rooted.sound.writer in
        subst (IsDelay d c) (one_writer d c g.formed w.root known.0 w.writer known.1 writer) known.2

    -- a clock that stays x fires nothing
    unset : StaysUnset c b w.root ch.new → ⊥
    unset (wide, new, x) =
        let old : ch.old ≡ X = ch.was_x (root_x d c b g up w.root t.range.signal (subst (Copies d w.root) (sym w.term) w.copies) x) in
        no_edge ch.edge ch.level (subst (λ z. is_edge ch.edge z X ≡ true) old (subst (λ z. is_edge ch.edge ch.old z ≡ true) new ch.comes))

    in_phase : InPhase d c w.root ch.edge (b.time % c.modulus)
    in_phase digit offset half clock divides =
        let turns = clocks w.root w.writer w.by digit ch.new offset half w.timed writer w.writes (t.range.signal, ch.rooted.is) clock ch.has in
        mod-mod_of_dvd (2 * half) b.time (dvd_of_mod-eq-zero (2 * half) divides) ∙ elim turns.1 [
          | inl stays ↦ absurd (unset stays)
          | inr at ↦ edge_phase ch.edge ch.old ch.new digit offset half b.time turns.0 ch.comes ch.level at
        ]

    by_at : At d c w.writer b.time ch.last.k → Fires d c t (b.time % c.modulus)
    by_at (at_zero z s) = absurd (zero_less b.time up z)
    by_at (at_later later late slot) = record {
      root = w.root;
      writer = w.writer;
      lists = kind.0;
      at = ch.last.k;
      is_root = ch.rooted.is;
      is_writer = writer;
      kind = kind.1;
      point = ch.last.here.point;
      writes = inl ch.last.writes;
      runs = subst (λ (o : Option Kind). RunsFrom d (is_wide c) w.writer (Ends d c w.writer o) ch.last.k (b.time % c.modulus)) kind.1 slot;
      edge = ch.edge;
      seen = ch.seen;
      counted = λ digit gives.
          edge_counts ch.edge ch.old digit (subst (λ x. is_edge ch.edge ch.old x ≡ true) (same_digits w.by.view w.root ch.new digit ch.has (ch.last.gave digit gives)) ch.comes);
      in_phase = in_phase;
    }
