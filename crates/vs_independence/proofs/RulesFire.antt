-- Who fires a process, and at which residues.
use Rattle.std.proofs.Common.{◌≡◌, ℕ, zero, suc, ◌+◌, ◌*◌, ◌%◌, ◌<◌, ◌⊎◌, Bool, true, false, if◌then◌else◌, Option, Some, None, List, [], ◌∷◌, map, length, take, drop, get_or, slice_get, refl, sym, ◌∙◌, ap, subst, inl, inr, arith}
use Rattle.std.specs.Str.{bytes_eq}
use Rattle.std.proofs.lemmas.Bool.{cases_Bool, cond_both, true≢false, false≢true}
use Rattle.std.proofs.lemmas.Option.{none-some, same_Some}
use Rattle.vs_design.specs.vs_logic4.specs.declared.digit.Digit.{Digit}
use Rattle.vs_design.specs.vs_logic4.specs.declared.digit.Digit.TheVariants.{Zero, One, X, Z}
use Rattle.vs_design.specs.vs_logic4.specs.declared.edge.Edge.{Edge}
use Rattle.vs_design.specs.vs_logic4.specs.declared.edge.Edge.TheVariants.{Any, Posedge, Negedge}
use Rattle.vs_design.specs.vs_logic4.specs.Edges.{is_edge}
use Rattle.vs_design.specs.vs_logic4.specs.Tables.{not_digit}
use Rattle.vs_design.specs.declared.design.Process.{Process}
use Rattle.vs_design.specs.declared.range.Bits.{Bits}
use Rattle.vs_design.specs.declared.range.BitRange.{BitRange}
use Rattle.vs_design.specs.declared.statement.EventTerm.{EventTerm}
use Rattle.vs_design.specs.Parts.{Parts}
use Rattle.vs_design.specs.Stores.{Store, changed_at, chosen_bits, chosen_words, content, start_store, words_in}
use Rattle.vs_design.specs.WellFormed.{WellFormed}
use Rattle.vs_independence.specs.vs_process.specs.vs_eval.specs.Waking.{lowest_digit, is_edge_of, wakes, wakes_by}
use Rattle.vs_independence.specs.vs_process.specs.vs_eval.specs.Laws.{digit_of, digit_in}
use Rattle.vs_process.specs.Places.{Place, ended, is_going}
use Rattle.vs_independence.specs.vs_process.specs.Executions.{is_level}
use Rattle.vs_independence.specs.vs_process.specs.States.{State}
use Rattle.vs_independence.specs.vs_process.proofs.Assigns.{AssignsSound}
use Rattle.vs_independence.specs.vs_process.proofs.Stores.{shape}
use Rattle.vs_rules.specs.vs_process.specs.Threads.{Thread, turn, iterate, writes, found, opening, IsTimed}
use Rattle.vs_rules.specs.vs_process.proofs.Settle.{AllIdle}
use Rattle.vs_rules.specs.vs_process.proofs.Threads.{is_stopped, stopped_stays as stopped_turn}
use Rattle.vs_rules.specs.Claims.{Name, times_in}
use Rattle.vs_rules.specs.Claims.{Claims, Kind, block, edges, delays, mixed, ProcessClaim, kind_in, kind_for, kind_of, is_block_kind, blocks_of, IsSequential}
use Rattle.vs_rules.specs.Constants.{bit_of, Gives, IsKnown, IsClock}
use Rattle.vs_rules.specs.Constants as k
use Rattle.vs_rules.specs.Slots.{counts, phase}
use Rattle.vs_rules.specs.vs_process.specs.Edges.{one_bit}
use Rattle.vs_rules.specs.Verdict.{Keeping}
use Rattle.vs_independence.proofs.Beginning.{Beginning, AllStopped, closed_of}
use Rattle.vs_independence.proofs.Walks.{IsAtPlace, Closed, Walked, walked_iterate}

-- ---- what is known where a slot begins

pub record Begun (d : Parts) (c : Claims) (b : State) : Type 0 where
  pub formed : WellFormed d
  pub rules : Keeping d c
  pub begin : Beginning d c b
  pub absent : (i : ℕ) → slice_get d.processes i ≡ None → get_or b.places i ended ≡ ended
  pub assigns : AssignsSound d b.store b.assigns
  -- above time 0 no continuous assignment has anything to do, nor has a block (which the dynamic half knows)
  pub idle : 0 < b.time → AllIdle b.assigns
  pub rest : (k : ℕ) → blocks_of d c k ≡ true → 0 < b.time → is_going (get_or b.places k ended) ≡ false

-- ---- kinds

pub times_one : (ps : List ProcessClaim) (name : Name) → kind_in ps name ≡ None → times_in name (map (λ (p : ProcessClaim). p.name) ps) ≡ 1 → ⊥
times_one [] name e h = cc h
times_one (p ∷ ps) name e h =
    elim (cases_Bool (bytes_eq p.name name)) [
      | inl hit ↦ none-some p.kind (sym (subst (λ b. (if b then Some p.kind else kind_in ps name) ≡ None) hit e))
      | inr miss ↦
          times_one ps name (subst (λ b. (if b then Some p.kind else kind_in ps name) ≡ None) miss e)
          (subst (λ b. (if b then suc (times_in name (map (λ (p : ProcessClaim). p.name) ps)) else times_in name (map (λ (p : ProcessClaim). p.name) ps)) ≡ 1) miss h)
    ]

ended_where : (b : Bool) (p : Place) → b ≡ true → (if b then ended else p) ≡ ended
ended_where b p e = subst (λ x. (if x then ended else p) ≡ ended) (sym e) refl

found_where : (b : Bool) (p : Place) → b ≡ false → (if b then ended else p) ≡ p
found_where b p e = subst (λ x. (if x then ended else p) ≡ p) (sym e) refl

-- a process is of kind edge, delay or mixed, or of kind comb, or has no entry
sort_of : (d : Parts) (c : Claims) (i : ℕ) (o : Option Kind) → kind_of d c i ≡ o → IsSequential d c i ⊎ ((blocks_of d c i ≡ true) ⊎ (kind_of d c i ≡ None))
sort_of d c i (Some (block s)) e = inr (inl (ap is_block_kind e))
sort_of d c i (Some edges) e = inl (inl e)
sort_of d c i (Some (delays lists)) e = inl (inr (inl (lists, e)))
sort_of d c i (Some (mixed lists)) e = inl (inr (inr (lists, e)))
sort_of d c i None e = inr (inr e)

-- one of the design has an entry
entered : (d : Parts) (c : Claims) → Keeping d c → (i : ℕ) (p : Process) → slice_get d.processes i ≡ Some p → kind_of d c i ≡ None → ⊥
entered d c r i p is e =
    times_one c.processes p.name.items (sym (ap (kind_for c) is) ∙ e) ((r.names_processes i).listed p.name.items (ap (λ (o : Option Process). Rattle.vs_rules.specs.Claims.process_name o) is)).once

-- one that is not of kind comb is of kind edge, delay or mixed
pub sequential_of : (d : Parts) (c : Claims) → Keeping d c → (i : ℕ) (p : Process) → slice_get d.processes i ≡ Some p → blocks_of d c i ≡ false → IsSequential d c i
sequential_of d c r i p is free = elim (sort_of d c i (kind_of d c i) refl) [
  | inl seq ↦ seq
  | inr more ↦ absurd (elim more [
    | inl blk ↦ true≢false (sym blk ∙ free)
    | inr none ↦ entered d c r i p is none
  ])
]

-- so is each, or it has nothing to do as a thread
pub role : (d : Parts) (c : Claims) (b : State) → Begun d c b → (i : ℕ) → IsSequential d c i ⊎ (found (blocks_of d c) b i ≡ ended)
role d c b g i = elim (sort_of d c i (kind_of d c i) refl) [
  | inl seq ↦ inl seq
  | inr more ↦ inr (elim more [
    | inl blk ↦ ended_where (blocks_of d c i) (get_or b.places i ended) blk
    | inr none ↦ by_process none (slice_get d.processes i) refl
  ])
]
  where
    by_process : kind_of d c i ≡ None → (p : Option Process) → slice_get d.processes i ≡ p → found (blocks_of d c) b i ≡ ended
    by_process e None is = cond_both (blocks_of d c i) ended (get_or b.places i ended) (λ x. x ≡ ended) (λ h. refl) (λ h. g.absent i is)
    by_process e (Some p) is = absurd (entered d c g.rules i p is e)

pub not_block : (d : Parts) (c : Claims) (i : ℕ) → IsSequential d c i → blocks_of d c i ≡ false
not_block d c i (inl e) = ap is_block_kind e
not_block d c i (inr (inl delay)) = ap is_block_kind delay.1
not_block d c i (inr (inr mix)) = ap is_block_kind mix.1

pub seq_found : (d : Parts) (c : Claims) (b : State) (i : ℕ) → IsSequential d c i → found (blocks_of d c) b i ≡ get_or b.places i ended
seq_found d c b i seq = found_where (blocks_of d c i) (get_or b.places i ended) (not_block d c i seq)

pub closed : (d : Parts) (c : Claims) (b : State) → Begun d c b → (i : ℕ) → IsSequential d c i → Closed d c i
closed d c b g i seq = closed_of d c i seq (g.rules.edges i) (g.rules.residues i)

pub zero_less : (n : ℕ) → 0 < n → n ≡ 0 → ⊥
zero_less n up z = omega (arith, up, z)

-- where the slot finds it, a process stands as the rules say
pub stands_found : (d : Parts) (c : Claims) (b : State) → Begun d c b → (i : ℕ) → IsSequential d c i → IsAtPlace d c i b.time (found (blocks_of d c) b i)
stands_found d c b g i seq = subst (IsAtPlace d c i b.time) (sym (seq_found d c b i seq)) (g.begin.stands i seq)

-- ---- threads that do nothing

pub stopped_iterate : (time i n : ℕ) (th : Thread) → is_stopped th.place ≡ true → iterate n (turn time i) th ≡ th
stopped_iterate time i zero th h = refl
stopped_iterate time i (suc n) th h = ap (turn time i) (stopped_iterate time i n th h) ∙ stopped_turn time i th.place th h

-- ---- timed threads

pub record Walking (d : Parts) (c : Claims) (i time : ℕ) (th : Thread) : Type 0 where
  pub sequential : IsSequential d c i
  pub walked : Walked d c i time th

pub timed_walks : (d : Parts) (c : Claims) (b : State) → Begun d c b → (i : ℕ) (th : Thread) → IsTimed (blocks_of d c) b i th → Walking d c i b.time th ⊎ (th ≡ opening (blocks_of d c) b i None)
timed_walks d c b g i th is = by_role (role d c b g i)
  where
    first : Thread
    first = opening (blocks_of d c) b i None

    by_role : IsSequential d c i ⊎ (found (blocks_of d c) b i ≡ ended) → Walking d c i b.time th ⊎ (th ≡ first)
    by_role (inl seq) = inl (record {
      sequential = seq;
      walked = subst (Walked d c i b.time) is.is
          (walked_iterate d c i (closed d c b g i seq) b.time is.count first refl refl (stands_found d c b g i seq));
    })
    by_role (inr e) = inr (sym is.is ∙ stopped_iterate b.time i is.count first (ap is_stopped e))

-- a timed thread that writes walks
pub timed_writes : (d : Parts) (c : Claims) (b : State) → Begun d c b → (i v : ℕ) (th : Thread) → IsTimed (blocks_of d c) b i th → writes th v ≡ true → Walking d c i b.time th
timed_writes d c b g i v th is w = elim (timed_walks d c b g i th is) [
  | inl walking ↦ walking
  | inr idle ↦ absurd (false≢true (subst (λ t. writes t v ≡ true) idle w))
]

-- where all have stopped, a timed thread writes nothing
pub stopped_writes : (d : Parts) (c : Claims) (b : State) → Begun d c b → AllStopped b → (i v : ℕ) (th : Thread) → IsTimed (blocks_of d c) b i th → writes th v ≡ true → ⊥
stopped_writes d c b g still i v th is w =
    false≢true (subst (λ t. writes t v ≡ true) (sym is.is ∙ stopped_iterate b.time i is.count (opening (blocks_of d c) b i None) (stopped_found (blocks_of d c i))) w)
  where
    stopped_found : (x : Bool) → is_stopped (if x then ended else get_or b.places i ended) ≡ true
    stopped_found true = refl
    stopped_found false = still i

-- ---- signals of one bit

head_num : (a b : ℕ) (xs ys : List ℕ) → a ∷ xs ≡ b ∷ ys → a ≡ b
head_num a b xs ys e = cc e

tail_num : (a b : ℕ) (xs ys : List ℕ) → a ∷ xs ≡ b ∷ ys → xs ≡ ys
tail_num a b xs ys e = cc e

zero_one : zero ≡ suc zero → ⊥
zero_one e = cc e

more_one : (n : ℕ) → suc (suc n) ≡ suc zero → ⊥
more_one n e = cc e

some_none : (x : ℕ) (xs : List ℕ) → x ∷ xs ≡ [] → ⊥
some_none x xs e = cc e

one_word : (words : List (List Digit)) → map length words ≡ suc zero ∷ [] → (z : Digit) × (words ≡ one_bit z)
one_word [] e = absurd (some_none (suc zero) [] (sym e))
one_word ([] ∷ rest) e = absurd (zero_one (head_num zero (suc zero) (map length rest) [] e))
one_word ((z ∷ []) ∷ []) e = (z, refl)
one_word ((z ∷ []) ∷ w ∷ rest) e = absurd (some_none (length w) (map length rest) (tail_num (suc zero) (suc zero) (length w ∷ map length rest) [] e))
one_word ((z ∷ y ∷ ds) ∷ rest) e = absurd (more_one (length ds) (head_num (suc (suc (length ds))) (suc zero) (map length rest) [] e))

head_list : (a b : List ℕ) (xs ys : List (List ℕ)) → a ∷ xs ≡ b ∷ ys → a ≡ b
head_list a b xs ys e = cc e

tail_list : (a b : List ℕ) (xs ys : List (List ℕ)) → a ∷ xs ≡ b ∷ ys → xs ≡ ys
tail_list a b xs ys e = cc e

none_list : (a : List ℕ) (xs : List (List ℕ)) → a ∷ xs ≡ [] → ⊥
none_list a xs e = cc e

pub bit_shape : (a b : Store) (v : ℕ) (y : Digit) → shape a ≡ shape b → slice_get b v ≡ Some (one_bit y) → (z : Digit) × (slice_get a v ≡ Some (one_bit z))
bit_shape a [] v y e is = absurd (none-some (one_bit y) is)
bit_shape [] (q ∷ b) v y e is = absurd (none_list (map length q) (shape b) (sym e))
bit_shape (p ∷ a) (q ∷ b) zero y e is =
    let found = one_word p (head_list (map length p) (map length q) (shape a) (shape b) e ∙ ap (map length) (same_Some q (one_bit y) is)) in
    (found.0, ap (λ words. Some words) found.1)
bit_shape (p ∷ a) (q ∷ b) (suc v) y e is = bit_shape a b v y (tail_list (map length p) (map length q) (shape a) (shape b) e) is

pub bit_digit : (store : Store) (v : ℕ) (z : Digit) → slice_get store v ≡ Some (one_bit z) → digit_of store v 0 0 ≡ Some z
bit_digit store v z e = ap (λ o. digit_in (Rattle.vs_design.specs.Stores.word_in o 0) 0) e

-- ---- a change that wakes an edge term is that edge

drop_none : (n : ℕ) → drop {A = Digit} n [] ≡ []
drop_none zero = refl
drop_none (suc n) = refl

lowest_of : (bits : Option Bits) (word : Option ℕ) (z : Digit) → (lowest_digit (map (chosen_bits bits) (chosen_words word (one_bit z))) ≡ Some z) ⊎ ((y : Digit) → lowest_digit (map (chosen_bits bits) (chosen_words word (one_bit y))) ≡ None)
lowest_of None None z = inl refl
lowest_of None (Some zero) z = inl refl
lowest_of None (Some (suc w)) z = inr (λ y. refl)
lowest_of (Some bs) None z = of_bits bs.low bs.width
  where
    of_bits : (low width : ℕ) → (lowest_digit (take width (drop low (z ∷ [])) ∷ []) ≡ Some z) ⊎ ((y : Digit) → lowest_digit (take width (drop low (y ∷ [])) ∷ []) ≡ None)
    of_bits zero zero = inr (λ y. refl)
    of_bits zero (suc width) = inl refl
    of_bits (suc low) zero = inr (λ y. refl)
    of_bits (suc low) (suc width) = inr (λ y. ap (λ l. lowest_digit (take (suc width) l ∷ [])) (drop_none low))
lowest_of (Some bs) (Some zero) z = of_bits bs.low bs.width
  where
    of_bits : (low width : ℕ) → (lowest_digit (take width (drop low (z ∷ [])) ∷ []) ≡ Some z) ⊎ ((y : Digit) → lowest_digit (take width (drop low (y ∷ [])) ∷ []) ≡ None)
    of_bits zero zero = inr (λ y. refl)
    of_bits zero (suc width) = inl refl
    of_bits (suc low) zero = inr (λ y. refl)
    of_bits (suc low) (suc width) = inr (λ y. ap (λ l. lowest_digit (take (suc width) l ∷ [])) (drop_none low))
lowest_of (Some bs) (Some (suc w)) z = inr (λ y. refl)

edge_between : (edge : Edge) (o p : Option Digit) (a z : Digit) → (p ≡ Some z) ⊎ (p ≡ None) → (o ≡ Some a) ⊎ (o ≡ None) → is_edge_of edge o p ≡ true → is_edge edge a z ≡ true
edge_between edge None p a z hp ho h = absurd (false≢true h)
edge_between edge (Some x) None a z hp ho h = absurd (false≢true h)
edge_between edge (Some x) (Some y) a z (inr n) ho h = absurd (none-some y (sym n))
edge_between edge (Some x) (Some y) a z (inl q) (inr n) h = absurd (none-some x (sym n))
edge_between edge (Some x) (Some y) a z (inl q) (inl p) h = subst (λ w. is_edge edge w z ≡ true) (same_Some x a p) (subst (λ w. is_edge edge x w ≡ true) (same_Some y z q) h)

either_digit : (bits : Option Bits) (word : Option ℕ) (z : Digit) → (lowest_digit (map (chosen_bits bits) (chosen_words word (one_bit z))) ≡ Some z) ⊎ (lowest_digit (map (chosen_bits bits) (chosen_words word (one_bit z))) ≡ None)
either_digit bits word z = elim (lowest_of bits word z) [
  | inl some ↦ inl some
  | inr none ↦ inr (none z)
]

content_digit : (r : BitRange) (store : Store) (z : Digit) → slice_get store r.signal ≡ Some (one_bit z) → (lowest_digit (content r store) ≡ Some z) ⊎ (lowest_digit (content r store) ≡ None)
content_digit r store z e = subst (λ o. (lowest_digit (map (chosen_bits r.bits) (chosen_words r.word (words_in o))) ≡ Some z) ⊎ (lowest_digit (map (chosen_bits r.bits) (chosen_words r.word (words_in o))) ≡ None)) (sym e) (either_digit r.bits r.word z)

-- a change of a signal of one bit that wakes an edge term of it is that edge
pub edge_of : (t : EventTerm) (old new : Store) (a z : Digit) → is_level t ≡ false → slice_get old t.range.signal ≡ Some (one_bit a) → slice_get new t.range.signal ≡ Some (one_bit z) →
    wakes old new t ≡ true → is_edge t.edge a z ≡ true
edge_of t old new a z level is_old is_new h = by_edge t.edge level h
  where
    by_edge : (edge : Edge) → Rattle.vs_independence.specs.vs_process.specs.Executions.is_any edge ≡ false → wakes_by edge old new t ≡ true → is_edge edge a z ≡ true
    by_edge Any level h = absurd (true≢false level)
    by_edge Posedge level h = edge_between Posedge (lowest_digit (content t.range old)) (lowest_digit (content t.range new)) a z (content_digit t.range new z is_new) (content_digit t.range old a is_old) h
    by_edge Negedge level h = edge_between Negedge (lowest_digit (content t.range old)) (lowest_digit (content t.range new)) a z (content_digit t.range new z is_new) (content_digit t.range old a is_old) h

-- the constant of an edge counts for it
pub edge_counts : (edge : Edge) (a z : Digit) → is_edge edge a z ≡ true → counts edge z ≡ true
edge_counts Any a z h = refl
edge_counts Posedge Zero Zero h = absurd (false≢true h)
edge_counts Posedge One Zero h = absurd (false≢true h)
edge_counts Posedge X Zero h = absurd (false≢true h)
edge_counts Posedge Z Zero h = absurd (false≢true h)
edge_counts Posedge a One h = refl
edge_counts Posedge a X h = refl
edge_counts Posedge a Z h = refl
edge_counts Negedge Zero One h = absurd (false≢true h)
edge_counts Negedge One One h = absurd (false≢true h)
edge_counts Negedge X One h = absurd (false≢true h)
edge_counts Negedge Z One h = absurd (false≢true h)
edge_counts Negedge a Zero h = refl
edge_counts Negedge a X h = refl
edge_counts Negedge a Z h = refl

-- ---- clocks

-- the edge by which a clock gets a digit fires in its phase
pub edge_phase : (edge : Edge) (a z digit : Digit) (offset half time : ℕ) → IsKnown digit → is_edge edge a z ≡ true → Rattle.vs_independence.specs.vs_process.specs.Executions.is_any edge ≡ false →
    ((z ≡ digit) × (time % (2 * half) ≡ offset % (2 * half))) ⊎ ((z ≡ not_digit digit) × (time % (2 * half) ≡ (offset + half) % (2 * half))) → time % (2 * half) ≡ phase edge digit offset half % (2 * half)
edge_phase Any a z digit offset half time known e level h = absurd (true≢false level)
edge_phase Posedge a z _ offset half time k.zero e level (inl (same, at)) = absurd (true≢false (sym (edge_counts Posedge a Zero (subst (λ x. is_edge Posedge a x ≡ true) same e))))
edge_phase Posedge a z _ offset half time k.one e level (inl (same, at)) = at
edge_phase Posedge a z _ offset half time k.zero e level (inr (same, at)) = at
edge_phase Posedge a z _ offset half time k.one e level (inr (same, at)) = absurd (true≢false (sym (edge_counts Posedge a Zero (subst (λ x. is_edge Posedge a x ≡ true) same e))))
edge_phase Negedge a z _ offset half time k.zero e level (inl (same, at)) = at
edge_phase Negedge a z _ offset half time k.one e level (inl (same, at)) = absurd (true≢false (sym (edge_counts Negedge a One (subst (λ x. is_edge Negedge a x ≡ true) same e))))
edge_phase Negedge a z _ offset half time k.zero e level (inr (same, at)) = absurd (true≢false (sym (edge_counts Negedge a One (subst (λ x. is_edge Negedge a x ≡ true) same e))))
edge_phase Negedge a z _ offset half time k.one e level (inr (same, at)) = at
