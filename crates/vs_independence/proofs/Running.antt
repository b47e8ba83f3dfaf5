-- What holds in a slot before its updates are activated: each process is where it is alone, and no step of another one is seen.
use Rattle.std.proofs.Common.{Bool, not, ◌&&◌, ◌++◌, leb, append-nil, ◌≡◌, ℕ, ◌⊎◌, true, false, Option, Some, None, option_map, List, length, map, refl, get_or, slice_get, sym, ◌∙◌, ap, subst, inl, inr}
use Rattle.std.specs.List.{list_any, list_all, Contains}
use Rattle.std.proofs.lemmas.Bool.{cases_Bool, cases_eq, true≢false}
use Rattle.vs_design.specs.declared.design.Assign.{Assign}
use Rattle.vs_design.specs.declared.statement.EventTerm.{EventTerm}
use Rattle.vs_design.specs.declared.statement.Target.{Target}
use Rattle.vs_design.specs.Parts.{Parts}
use Rattle.vs_design.specs.declared.range.BitRange.{BitRange}
use Rattle.vs_design.specs.Stores.{Store, chosen_bits, chosen_words, is_changed, is_driven, words_in, start_store, word_in}
use Rattle.vs_design.specs.Uses.{covers, writes_signal}
use Rattle.vs_design.specs.Uses as uses
use Rattle.vs_process.specs.vs_eval.specs.Laws.{digit_of, digit_in}
use Rattle.vs_process.specs.vs_eval.specs.Waking.{wakes}
use Rattle.vs_process.specs.Places.{Todo, Place, waiting, ended, is_going}
use Rattle.vs_process.specs.States.{State, AssignState, Update, Called}
use Rattle.vs_process.proofs.ProcessLists.{none_from}
use Rattle.vs_design.specs.vs_logic4.proofs.Basics.{element_of as any_at}
use Rattle.vs_process.proofs.Values.{not_changed, same_unchanged}
use Rattle.vs_process.proofs.Assigns.{AssignsSound, assign_of, drives}
use Rattle.vs_process.proofs.Ranges.{same_content}
use Rattle.vs_process.proofs.Stores.{changed_other}
use Rattle.vs_design.proofs.Stores.{slice_get-changed_at as changed_same}
use Rattle.vs_process.proofs.WellFormed.{is_sound_place}
use Rattle.vs_process.specs.Feeds.{writes_into}
use Rattle.vs_process.proofs.Bits.{by_bit}
use Rattle.vs_process.proofs.Feeds.{into_covered}
use Rattle.vs_process.specs.Edges.{shown, one_more, Copies, inverses, IsHeard, IsRoot}
use Rattle.vs_process.specs.Threads.{Thread, Fired, found, given, opening, MayOpen, IsThread, IsFiredBy, writes, any_names, place_reads}
use Rattle.vs_independence.specs.Discipline.{Reaches, here, KeepsApart}
use Rattle.vs_independence.specs.Displays.{IsSteady}
use Rattle.vs_process.proofs.Calls.{of}
use Rattle.vs_process.proofs.ThreadLists.{contains_at, filter_none}
use Rattle.vs_process.proofs.ThreadStores.{by, names_some}
use Rattle.vs_process.proofs.Threads.{unwritten}
use Rattle.vs_process.proofs.ThreadLinks.{copies_bit, bit_in, Chain}
use Rattle.vs_process.specs.BlockDrivers.{puts_out, home, puts_into, IsSource, outputs}
use Rattle.vs_process.proofs.Held.{puts_covered, HasBlock, held}

-- bits of what blocks write that no block covers are as at the start
abbrev pub BlockBare : Parts → (ℕ → Bool) → Store → Type 0
BlockBare d blocks store = (k v w n : ℕ) → blocks k ≡ true → puts_out d k v ≡ true → list_any (covers v w n) (outputs d k) ≡ false → digit_of store v w n ≡ digit_of (start_store d) v w n

-- the processes of a slot keep apart, write sources alone and stand at sound places, and the slot begins with sound assignments
pub record Apart (d : Parts) (blocks : ℕ → Bool) (b : State) : Type 0 where
  pub keeps : KeepsApart d blocks b
  pub variables : (i v : ℕ) (th : Thread) → IsThread d blocks b i th → writes th v ≡ true → IsSource d blocks v
  pub variables_later : (i v : ℕ) (th : Thread) → IsThread d blocks b i th → any_names th.made v ≡ true → IsSource d blocks v
  pub places : (i : ℕ) (th : Thread) → IsThread d blocks b i th → is_sound_place d.signals th.place ≡ true
  pub begins : AssignsSound d b.store b.assigns
  pub bare : BlockBare d blocks b.store
  pub heard : (i : ℕ) (th : Thread) → IsThread d blocks b i th → (terms : List EventTerm) (todo : Todo) → th.place ≡ waiting terms todo → (t : EventTerm) → Contains terms t → IsHeard d blocks t.range.signal
  pub edges : (v : ℕ) → IsHeard d blocks v → (root : ℕ) × Copies d root v × IsSource d blocks root
  pub level : (root v : ℕ) (c : Copies d root v) → slice_get b.store v ≡ shown (inverses c) (slice_get b.store root)
  pub now : (root : ℕ) → IsRoot d blocks root → any_names b.updates root ≡ false

-- what no move within a slot changes
pub record WithinSlot (b s : State) : Type 0 where
  pub time : s.time ≡ b.time
  pub over : s.over ≡ b.over
  pub count : length s.places ≡ length b.places

abbrev pub AllThreads : Parts → (ℕ → Bool) → State → (ℕ → Thread) → Type 0
AllThreads d blocks b th = (i : ℕ) → IsThread d blocks b i (th i)

-- the process i, and what the store says of its firing: where nothing has fired it and it waits since the slot began, no term wakes; where something
-- has, the store has what fired it
pub record FiringAgrees (d : Parts) (blocks : ℕ → Bool) (b : State) (store : Store) (i : ℕ) (th : Thread) : Type 0 where
  pub is : IsThread d blocks b i th
  pub unfired : is.input ≡ None → (terms : List EventTerm) (todo : Todo) → found blocks b i ≡ waiting terms todo → (t : EventTerm) → Contains terms t → wakes b.store store t ≡ false
  pub fired : (f : Fired) → is.input ≡ Some f → slice_get store f.signal ≡ Some f.value

abbrev pub AllPlaced : Parts → (ℕ → Bool) → State → Store → (ℕ → Thread) → Type 0
AllPlaced d blocks b store th = (i : ℕ) → FiringAgrees d blocks b store i (th i)

abbrev pub threads_of : (d : Parts) (blocks : ℕ → Bool) (b : State) (store : Store) (th : ℕ → Thread) → AllPlaced d blocks b store th → AllThreads d blocks b th
threads_of d blocks b store th all i = (all i).is

-- each process that is no block is where its thread is
abbrev pub Follow : (ℕ → Bool) → List Place → (ℕ → Thread) → Type 0
Follow blocks places th = (i : ℕ) → blocks i ≡ false → get_or places i ended ≡ (th i).place

-- a signal that a thread has written is as in its view, and an undriven one that none has written is as the slot found it
pub record Sources (d : Parts) (blocks : ℕ → Bool) (b : State) (store : Store) (th : ℕ → Thread) : Type 0 where
  pub own : (i v : ℕ) → writes (th i) v ≡ true → slice_get store v ≡ slice_get (th i).view v
  pub fresh : (v : ℕ) → IsSource d blocks v → (slice_get store v ≡ slice_get b.store v) ⊎ ((i : ℕ) × (writes (th i) v ≡ true))

-- an update that waits, from a time on
abbrev pub is_waiting : ℕ → Update → Bool
is_waiting time u = not u.active && leb time u.due && names_some u.what

-- the updates that name a signal are those that the slot found, and behind them those of the one thread that made any
pub record Mades (d : Parts) (blocks : ℕ → Bool) (b : State) (updates : List Update) (th : ℕ → Thread) : Type 0 where
  pub made : (i v : ℕ) → any_names (th i).made v ≡ true → by v updates ≡ by v b.updates ++ by v (th i).made
  pub unmade : (v : ℕ) → (by v updates ≡ by v b.updates) ⊎ ((i : ℕ) × (any_names (th i).made v ≡ true))
  pub waiting : list_all (is_waiting b.time) updates ≡ true
  pub undriven : (v : ℕ) → any_names updates v ≡ true → IsSource d blocks v

-- it is finishing where it was, or where a process has called `$finish`
pub record Finishes (b : State) (finishing : Bool) (th : ℕ → Thread) : Type 0 where
  pub kept : b.finishing ≡ true → finishing ≡ true
  pub by_thread : (i : ℕ) → (th i).fin ≡ true → finishing ≡ true
  pub some : finishing ≡ true → (b.finishing ≡ true) ⊎ ((i : ℕ) × ((th i).fin ≡ true))

-- the calls of `$strobe` of each process are those that its thread made
abbrev pub Asks : List Called → (ℕ → Thread) → Type 0
Asks calls th = (i : ℕ) → of i calls ≡ (th i).asked

-- what a write of a thread, or an assignment that the slot found unsettled, can have changed
pub data Stirred (d : Parts) (blocks : ℕ → Bool) (b : State) (th : ℕ → Thread) (r : BitRange) : Type 0 where
  by_write : (i u : ℕ) → writes (th i) u ≡ true → Reaches d blocks u r → Stirred d blocks b th r
  by_start : (j u : ℕ) (y : AssignState) → slice_get b.assigns j ≡ Some y → y.needs ≡ true → writes_signal y.target u ≡ true → Reaches d blocks u r → Stirred d blocks b th r
  by_rest : (k u : ℕ) → blocks k ≡ true → is_going (get_or b.places k ended) ≡ true → puts_out d k u ≡ true → Reaches d blocks u r → Stirred d blocks b th r

-- an assignment that has nothing to do, and whose bits are as the slot found them
abbrev pub IsCalm : State → Store → AssignState → Type 0
IsCalm b store x = (x.needs ≡ false) × (x.pending ≡ None) × ((v w k : ℕ) → list_any (covers v w k) (uses.writes x.target) ≡ true → digit_of store v w k ≡ digit_of b.store v w k)

-- an assignment all of whose bits something stirs
abbrev pub IsStirred : Parts → (ℕ → Bool) → State → (ℕ → Thread) → AssignState → Type 0
IsStirred d blocks b th x = (r : BitRange) → writes_into d x.target r ≡ true → Stirred d blocks b th r

abbrev pub Nets : Parts → (ℕ → Bool) → State → Store → List AssignState → (ℕ → Thread) → Type 0
Nets d blocks b store assigns th = (j : ℕ) (x : AssignState) → slice_get assigns j ≡ Some x → IsCalm b store x ⊎ IsStirred d blocks b th x

-- a block that waits at its control, and whose signals are as the slot found them
abbrev pub IsRested : Parts → State → Store → List Place → ℕ → Type 0
IsRested d b store places k = (get_or places k ended ≡ home d k) × ((v : ℕ) → puts_out d k v ≡ true → slice_get store v ≡ slice_get b.store v)

-- a block all of whose bits something stirs
abbrev pub IsAwake : Parts → (ℕ → Bool) → State → (ℕ → Thread) → ℕ → Type 0
IsAwake d blocks b th k = (r : BitRange) → puts_into d k r ≡ true → Stirred d blocks b th r

abbrev pub Rests : Parts → (ℕ → Bool) → State → Store → List Place → (ℕ → Thread) → Type 0
Rests d blocks b store places th = (k : ℕ) → blocks k ≡ true → IsRested d b store places k ⊎ IsAwake d blocks b th k

-- a thread has written a root
abbrev pub Written : (ℕ → Thread) → ℕ → Type 0
Written th root = (i : ℕ) × (writes (th i) root ≡ true)

-- the nets of chains: each is as the slot found it, or it and its signal show the root, which has been written; a link has nothing that waits to be
-- written, or it needs no evaluation, and its signal shows the root, which has been written
pub record Edges (d : Parts) (blocks : ℕ → Bool) (b : State) (store : Store) (assigns : List AssignState) (th : ℕ → Thread) : Type 0 where
  pub net : (root m n : ℕ) (c : Chain d blocks root m n) → (slice_get store n ≡ slice_get b.store n) ⊎ (Written th root
      × (slice_get store n ≡ shown (one_more c.link.inverts (inverses c.before)) (slice_get store root)) × (slice_get store m ≡ shown (inverses c.before) (slice_get store root)))
  pub link : (root m n : ℕ) (c : Chain d blocks root m n) (x : AssignState) → slice_get assigns c.link.number ≡ Some x →
      (x.pending ≡ None) ⊎ ((x.needs ≡ false) × Written th root × (slice_get store m ≡ shown (inverses c.before) (slice_get store root)))

pub record Running (d : Parts) (blocks : ℕ → Bool) (b s : State) (th : ℕ → Thread) : Type 0 where
  pub slot : WithinSlot b s
  pub sound : AssignsSound d s.store s.assigns
  pub stands : AllPlaced d blocks b s.store th
  pub places : Follow blocks s.places th
  pub sources : Sources d blocks b s.store th
  pub mades : Mades d blocks b s.updates th
  pub asks : Asks s.calls th
  pub finishes : Finishes b s.finishing th
  pub nets : Nets d blocks b s.store s.assigns th
  pub bare : BlockBare d blocks s.store
  pub rests : Rests d blocks b s.store s.places th
  pub edges : Edges d blocks b s.store s.assigns th

-- a signal that fires a process is there, so the process finds it as its firing made it
pub given_value : (d : Parts) (blocks : ℕ → Bool) (b : State) → Apart d blocks b → (i : ℕ) (f : Fired) → MayOpen d blocks b i (Some f) → slice_get (given f b.store) f.signal ≡ Some f.value
given_value d blocks b apart i f may =
    let z = bit_in d b.store f.signal apart.begins.shaped (copies_bit d may.fires.root f.signal may.fires.copies) in
    changed_same (λ old. f.value) f.signal b.store ∙ ap (option_map (λ old. f.value)) z.1

-- a process was fired by a signal, or not
fired_or_not : (d : Parts) (blocks : ℕ → Bool) (b : State) (i : ℕ) (th : Thread) (is : IsThread d blocks b i th) (v : ℕ) → IsFiredBy d blocks b i th is v ⊎ (IsFiredBy d blocks b i th is v → ⊥)
fired_or_not d blocks b i th is v = by_input is.input refl
  where
    by_input : (o : Option Fired) → is.input ≡ o → IsFiredBy d blocks b i th is v ⊎ (IsFiredBy d blocks b i th is v → ⊥)
    by_input None e = inr (λ own. let no_way : None ≡ Some own.0 = sym e ∙ own.1 in cc)
    by_input (Some f) e = elim (cases_eq f.signal v) [
      | inl same ↦ inl (f, e, same)
      | inr other ↦ inr (λ own. let same : f ≡ own.0 = same_fired f own.0 (sym e ∙ own.1) in other (ap (λ (g : Fired). g.signal) same ∙ own.2))
    ]
      where
        same_fired : (f g : Fired) → Some f ≡ Some g → f ≡ g
        same_fired f g e = cc

-- the store has what a process found of the signal that fired it
pub own_opened : (d : Parts) (blocks : ℕ → Bool) (b : State) → Apart d blocks b → (store : Store) (i : ℕ) (th : Thread) (h : FiringAgrees d blocks b store i th) (v : ℕ) → IsFiredBy d blocks b i th h.is v → slice_get store v ≡ slice_get (opening blocks b i h.is.input).view v
own_opened d blocks b apart store i th h v (f, e, own) =
    ap (slice_get store) (sym own) ∙ h.fired f e ∙ sym (given_value d blocks b apart i f (subst (MayOpen d blocks b i) e h.is.may))
    ∙ ap (slice_get (opening blocks b i (Some f)).view) own ∙ ap (λ o. slice_get (opening blocks b i o).view v) (sym e)

-- a process finds any other signal as the slot did
pub other_opened : (d : Parts) (blocks : ℕ → Bool) (b : State) (i : ℕ) (th : Thread) (is : IsThread d blocks b i th) (v : ℕ) → (IsFiredBy d blocks b i th is v → ⊥) → slice_get (opening blocks b i is.input).view v ≡ slice_get b.store v
other_opened d blocks b i th is v other = by_input is.input refl
  where
    by_input : (o : Option Fired) → is.input ≡ o → slice_get (opening blocks b i o).view v ≡ slice_get b.store v
    by_input None e = refl
    by_input (Some f) e = changed_other (λ old. f.value) f.signal v b.store (λ same. other (f, e, sym same))

-- the store agrees with the view of a thread on an undriven signal that no other one has written
pub agrees : (d : Parts) (blocks : ℕ → Bool) (b : State) → Apart d blocks b → (store : Store) (th : ℕ → Thread) → AllPlaced d blocks b store th → Sources d blocks b store th → (i v : ℕ) → IsSource d blocks v →
    ((k : ℕ) → writes (th k) v ≡ true → k ≡ i) → slice_get store v ≡ slice_get (th i).view v
agrees d blocks b apart store th all so i v undriven mine =
    elim (cases_Bool (writes (th i) v)) [
      | inl hit ↦ so.own i v hit
      | inr miss ↦ elim (fired_or_not d blocks b i (th i) (all i).is v) [
        | inl own ↦ own_opened d blocks b apart store i (th i) (all i) v own ∙ sym (unwritten d blocks b i v (th i) (all i).is miss)
        | inr other ↦ elim (so.fresh v undriven) [
          | inl same ↦ same ∙ sym (other_opened d blocks b i (th i) (all i).is v other) ∙ sym (unwritten d blocks b i v (th i) (all i).is miss)
          | inr wrote ↦ absurd (true≢false (sym (subst (λ k. writes (th k) v ≡ true) (mine wrote.0 wrote.1) wrote.1) ∙ miss))
        ]
      ]
    ]

-- and on the signal that fired it
own_agrees : (d : Parts) (blocks : ℕ → Bool) (b : State) → Apart d blocks b → (store : Store) (th : ℕ → Thread) (all : AllPlaced d blocks b store th) → Sources d blocks b store th → (i v : ℕ) → IsFiredBy d blocks b i (th i) (all i).is v → slice_get store v ≡ slice_get (th i).view v
own_agrees d blocks b apart store th all so i v own =
    elim (cases_Bool (writes (th i) v)) [
      | inl hit ↦ so.own i v hit
      | inr miss ↦ own_opened d blocks b apart store i (th i) (all i) v own ∙ sym (unwritten d blocks b i v (th i) (all i).is miss)
    ]

-- the same of the updates
pub same_made : (d : Parts) (blocks : ℕ → Bool) (b : State) (updates : List Update) (th : ℕ → Thread) → Mades d blocks b updates th → (i v : ℕ) → ((k : ℕ) → any_names (th k).made v ≡ true → k ≡ i) →
    by v updates ≡ by v b.updates ++ by v (th i).made
same_made d blocks b updates th ma i v mine =
    elim (cases_Bool (any_names (th i).made v)) [
      | inl hit ↦ ma.made i v hit
      | inr miss ↦ elim (ma.unmade v) [
        | inl nil ↦ nil ∙ sym (append-nil (by v b.updates)) ∙ ap (λ l. by v b.updates ++ l) (sym (filter_none _ (th i).made miss))
        | inr other ↦ absurd (true≢false (sym (subst (λ k. any_names (th k).made v ≡ true) (mine other.0 other.1) other.1) ∙ miss))
      ]
    ]

-- what is no source isn't written by a thread
not_written : (d : Parts) (blocks : ℕ → Bool) (b : State) → Apart d blocks b → (i v : ℕ) (th : Thread) → IsThread d blocks b i th → (IsSource d blocks v → ⊥) → writes th v ≡ false
not_written d blocks b apart i v th is other =
    elim (cases_Bool (writes th v)) [
      | inl hit ↦ absurd (other (apart.variables i v th is hit))
      | inr miss ↦ miss
    ]

-- ranges of a driver that are steady for a process are stirred by nothing, but for the signal that fired it
not_stirred : (d : Parts) (blocks : ℕ → Bool) (b : State) → Apart d blocks b → (th : ℕ → Thread) (all : AllThreads d blocks b th) → (i : ℕ) (rs : List BitRange) → IsSteady d blocks b i (th i) (all i) rs → (r : BitRange) → Contains rs r →
    (IsSource d blocks r.signal → ⊥) → (IsFiredBy d blocks b i (th i) (all i) r.signal → ⊥) → Stirred d blocks b th r → ⊥
not_stirred d blocks b apart th all i rs steady r among other unfired (by_write k u wrote reach) = elim (steady.others k u r (th k) (all k) among wrote reach) [
  | inr fired ↦ unfired fired
  | inl mine ↦
      let own : writes (th i) u ≡ true = subst (λ k. writes (th k) u ≡ true) mine wrote in
      let is : u ≡ r.signal = steady.own u r among own reach in
      other (subst (λ v. IsSource d blocks v) is (apart.variables i u (th i) (all i) own))
]
not_stirred d blocks b apart th all i rs steady r among other unfired (by_start j u y at_j needs named reach) = steady.settled j u r y among at_j needs named reach
not_stirred d blocks b apart th all i rs steady r among other unfired (by_rest k u is goes named reach) = steady.rested k u r among is goes named reach

-- ranges that are steady for a process are in the store as in the view of its thread
pub steady_agree : (d : Parts) (blocks : ℕ → Bool) (b : State) → Apart d blocks b → (store : Store) (assigns : List AssignState) (places : List Place) (th : ℕ → Thread) (all : AllPlaced d blocks b store th) →
    AssignsSound d store assigns → Sources d blocks b store th → Nets d blocks b store assigns th → BlockBare d blocks store → Rests d blocks b store places th →
    (i : ℕ) (rs : List BitRange) → IsSteady d blocks b i (th i) (all i).is rs → list_any (is_changed store (th i).view) rs ≡ false
steady_agree d blocks b apart store assigns places th all sound so nets bare rests i rs steady =
    none_from (is_changed store (th i).view) rs (λ n r at_n.
    elim (fired_or_not d blocks b i (th i) (all i).is r.signal) [
      | inl own ↦ not_changed store (th i).view r (sym (own_agrees d blocks b apart store th all so i r.signal own))
      | inr other ↦ of_range r (contains_at rs n r at_n) other (held d blocks r.signal)
    ])
  where
    still : (r : BitRange) (v w k : ℕ) → (Stirred d blocks b th r → ⊥) → (j : ℕ) (c : Assign) → slice_get d.assigns j ≡ Some c → list_any (covers v w k) (uses.writes c.target) ≡ true → covers v w k r ≡ true → digit_of store v w k ≡ digit_of b.store v w k
    still r v w k calm j c is hit at_r = by_bit d store b.store sound.shaped (sound.shaped ∙ sym apart.begins.shaped) v w k (λ bit.
        let x = assign_of d.assigns assigns j c sound.linked is in
        let there : list_any (covers v w k) (uses.writes x.0.target) ≡ true = ap (λ (t : Target). list_any (covers v w k) (uses.writes t)) x.2 ∙ hit in
        elim (nets j x.0 x.1) [
          | inl idle ↦ idle.2 v w k there
          | inr stirred ↦ absurd (calm (stirred r (into_covered d x.0.target r v w k bit there at_r)))
        ])

    of_driven : (r : BitRange) → (Stirred d blocks b th r → ⊥) → is_driven d.assigns r.signal ≡ true → (w k : ℕ) → covers r.signal w k r ≡ true → digit_of store r.signal w k ≡ digit_of b.store r.signal w k
    of_driven r calm hit w k at_r =
        elim (cases_Bool (drives d.assigns r.signal w k)) [
          | inl driven ↦
              let by = any_at (λ (a : Assign). list_any (covers r.signal w k) (uses.writes a.target)) d.assigns driven in
              still r r.signal w k calm by.0 by.1 by.2 by.3 at_r
          | inr none ↦ sound.bare r.signal w k hit none ∙ sym (apart.begins.bare r.signal w k hit none)
        ]

    of_block : (r : BitRange) → (Stirred d blocks b th r → ⊥) → (l : ℕ) → blocks l ≡ true → puts_out d l r.signal ≡ true → (w k : ℕ) → covers r.signal w k r ≡ true → digit_of store r.signal w k ≡ digit_of b.store r.signal w k
    of_block r calm l is hit w k at_r = by_bit d store b.store sound.shaped (sound.shaped ∙ sym apart.begins.shaped) r.signal w k (λ bit.
        elim (cases_Bool (list_any (covers r.signal w k) (outputs d l))) [
          | inl covered ↦ elim (rests l is) [
            | inl rested ↦ ap (λ o. digit_in (word_in o w) k) (rested.1 r.signal hit)
            | inr awake ↦ absurd (calm (awake r (puts_covered d l r r.signal w k bit covered at_r)))
          ]
          | inr none ↦ bare l r.signal w k is hit none ∙ sym (apart.bare l r.signal w k is hit none)
        ])

    of_other : (r : BitRange) → Contains rs r → (IsSource d blocks r.signal → ⊥) → (IsFiredBy d blocks b i (th i) (all i).is r.signal → ⊥) →
        ((w k : ℕ) → covers r.signal w k r ≡ true → digit_of store r.signal w k ≡ digit_of b.store r.signal w k) → is_changed store (th i).view r ≡ false
    of_other r among other unfired same =
        same_unchanged store (th i).view r
        (same_content store b.store r (sound.shaped ∙ sym apart.begins.shaped) same
        ∙ ap (λ o. map (chosen_bits r.bits) (chosen_words r.word (words_in o)))
        (sym (unwritten d blocks b i r.signal (th i) (all i).is (not_written d blocks b apart i r.signal (th i) (all i).is other) ∙ other_opened d blocks b i (th i) (all i).is r.signal unfired)))

    mine : (r : BitRange) → (IsFiredBy d blocks b i (th i) (all i).is r.signal → ⊥) → (k : ℕ) → ((k ≡ i) ⊎ IsFiredBy d blocks b i (th i) (all i).is r.signal) → k ≡ i
    mine r other k (inl same) = same
    mine r other k (inr own) = absurd (other own)

    of_range : (r : BitRange) → Contains rs r → (IsFiredBy d blocks b i (th i) (all i).is r.signal → ⊥) → (IsSource d blocks r.signal ⊎ ((is_driven d.assigns r.signal ≡ true) ⊎ HasBlock d blocks r.signal)) → is_changed store (th i).view r ≡ false
    of_range r among unfired (inl source) =
        not_changed store (th i).view r
        (sym (agrees d blocks b apart store th all so i r.signal source (λ k wrote. mine r unfired k (steady.others k r.signal r (th k) (all k).is among wrote (here r refl)))))
    of_range r among unfired (inr (inl hit)) =
        let other : IsSource d blocks r.signal → ⊥ = λ source. true≢false (sym hit ∙ source.undriven) in
        of_other r among other unfired (of_driven r (not_stirred d blocks b apart th (threads_of d blocks b store th all) i rs steady r among other unfired) hit)
    of_range r among unfired (inr (inr (l, is, hit))) =
        let other : IsSource d blocks r.signal → ⊥ = λ source. true≢false (sym hit ∙ source.unwritten l is) in
        of_other r among other unfired (of_block r (not_stirred d blocks b apart th (threads_of d blocks b store th all) i rs steady r among other unfired) l is hit)

-- what a process reads, its thread reads too
pub reads_agree : (d : Parts) (blocks : ℕ → Bool) (b : State) → Apart d blocks b → (store : Store) (assigns : List AssignState) (places : List Place) (th : ℕ → Thread) (all : AllPlaced d blocks b store th) →
    AssignsSound d store assigns → Sources d blocks b store th → Nets d blocks b store assigns th → BlockBare d blocks store → Rests d blocks b store places th →
    (i : ℕ) → list_any (is_changed store (th i).view) (place_reads (th i).place) ≡ false
reads_agree d blocks b apart store assigns places th all sound so nets bare rests i =
    steady_agree d blocks b apart store assigns places th all sound so nets bare rests i (place_reads (th i).place) (record {
      others = λ k u r other that among wrote reach. apart.keeps.reads_others i k u r (th i) other (all i).is that among wrote reach;
      own = λ u r among wrote reach. apart.keeps.reads_own i u r (th i) (all i).is among wrote reach;
      settled = λ j u r x among at_j needs named reach. apart.keeps.reads_settled i j u r (th i) x (all i).is among at_j needs named reach;
      rested = λ k u r among is goes named reach. apart.keeps.reads_rested i k u r (th i) (all i).is among is goes named reach;
    })
