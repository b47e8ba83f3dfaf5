-- A change of the store that wakes terms: each process that it wakes waits since the slot began, and is fired by the one change of the signal.
use Rattle.std.proofs.Common.{◌≡◌, ℕ, ◌⊎◌, Bool, true, false, not, Option, Some, None, option_map, List, map, slice_get, refl, sym, ◌∙◌, ap, ap₂, subst, inl, inr, if◌then◌else◌}
use Rattle.std.specs.List.{Contains}
use Rattle.std.proofs.lemmas.Bool.{cases_Bool, true≢false, false≢true}
use Rattle.std.proofs.lemmas.Option.{same_Some as same_some}
use Rattle.vs_design.specs.vs_logic4.specs.declared.digit.Digit.{Digit}
use Rattle.vs_design.specs.vs_logic4.specs.declared.digit.Digit.TheVariants as digit
use Rattle.vs_design.specs.vs_logic4.specs.declared.edge.Edge.{Edge}
use Rattle.vs_design.specs.vs_logic4.specs.declared.edge.Edge.TheVariants.{Any, Posedge, Negedge}
use Rattle.vs_design.specs.declared.statement.EventTerm.{EventTerm}
use Rattle.vs_design.specs.Parts.{Parts}
use Rattle.vs_design.specs.Stores.{Store, content, chosen_bits, chosen_words, is_driven, words_in, same_words, start_store}
use Rattle.vs_process.specs.declared.gait.Gait.TheVariants.{Woken}
use Rattle.vs_process.specs.Places.{Todo, Place, going, waiting, sleeping, inactive, ended, active_at}
use Rattle.vs_process.specs.vs_eval.specs.Waking.{lowest_digit, is_edge_of, wakes_by, wakes, wake_any}
use Rattle.vs_process.specs.States.{State, wakened, triggered}
use Rattle.vs_process.proofs.ProcessLists.{none_at}
use Rattle.vs_design.specs.vs_logic4.proofs.Basics.{element_of as any_at}
use Rattle.vs_process.proofs.Stores.{shape}
use Rattle.vs_design.proofs.Stores.{slice_get-changed_at as changed_same}
use Rattle.vs_process.proofs.Values.{not_changed}
use Rattle.vs_process.specs.Edges.{one_bit, shown, Copies, itself, through, inverses, IsHeard, IsRoot}
use Rattle.vs_process.specs.BlockDrivers.{IsSource}
use Rattle.vs_process.specs.Threads.{Thread, Fired, found, given, opening, is_timed, IsTimed, Fires, Awaits, MayOpen, IsThread, writes}
use Rattle.vs_process.proofs.ThreadLists.{contains_at, place_of}
use Rattle.vs_process.proofs.Threads.{timed_of, unmoved, thread_opens}
use Rattle.vs_process.proofs.ThreadLinks.{copies_bit, bit_in, link_driven, shown_none}
use Rattle.vs_independence.proofs.Running.{Apart, FiringAgrees, given_value}

-- ---- waking

-- whether a term wakes depends on its signal alone
pub wakes_alike : (a b c e : Store) (t : EventTerm) → slice_get a t.range.signal ≡ slice_get c t.range.signal → slice_get b t.range.signal ≡ slice_get e t.range.signal → wakes a b t ≡ wakes c e t
wakes_alike a b c e t f g = by_edge t.edge
  where
    held : (x y : Store) → slice_get x t.range.signal ≡ slice_get y t.range.signal → content t.range x ≡ content t.range y
    held x y h = ap (λ o. map (chosen_bits t.range.bits) (chosen_words t.range.word (words_in o))) h

    by_edge : (k : Edge) → wakes_by k a b t ≡ wakes_by k c e t
    by_edge Any = ap₂ (λ x y. not (same_words x y)) (held a c f) (held b e g)
    by_edge Posedge = ap₂ (λ x y. is_edge_of Posedge (lowest_digit x) (lowest_digit y)) (held a c f) (held b e g)
    by_edge Negedge = ap₂ (λ x y. is_edge_of Negedge (lowest_digit x) (lowest_digit y)) (held a c f) (held b e g)

same_edge : (k : Edge) (o : Option Digit) → (k ≡ Any → ⊥) → is_edge_of k o o ≡ false
same_edge k None ne = refl
same_edge Any (Some d) ne = absurd (ne refl)
same_edge Posedge (Some digit.Zero) ne = refl
same_edge Posedge (Some digit.One) ne = refl
same_edge Posedge (Some digit.X) ne = refl
same_edge Posedge (Some digit.Z) ne = refl
same_edge Negedge (Some digit.Zero) ne = refl
same_edge Negedge (Some digit.One) ne = refl
same_edge Negedge (Some digit.X) ne = refl
same_edge Negedge (Some digit.Z) ne = refl

-- a term doesn't wake where its signal stays
pub no_wake : (a b : Store) (t : EventTerm) → slice_get b t.range.signal ≡ slice_get a t.range.signal → wakes a b t ≡ false
no_wake a b t h = wakes_alike a b a a t refl h ∙ by_edge t.edge
  where
    by_edge : (k : Edge) → wakes_by k a a t ≡ false
    by_edge Any = not_changed a a t.range refl
    by_edge Posedge = same_edge Posedge (lowest_digit (content t.range a)) (λ e. cc)
    by_edge Negedge = same_edge Negedge (lowest_digit (content t.range a)) (λ e. cc)

-- ---- what changes

-- what a signal shows of the root's one new value
pub record NewValue (d : Parts) (blocks : ℕ → Bool) (b : State) (new : Store) (root v : ℕ) (c : Copies d root v) : Type 0 where
  pub writer : ℕ
  pub by : Thread
  pub timed : IsTimed blocks b writer by
  pub wrote : writes by root ≡ true
  pub is : slice_get new v ≡ shown (inverses c) (slice_get by.view root)

-- each signal with a root stays, or it was as the slot found it, and now it shows its root
abbrev pub Advances : Parts → (ℕ → Bool) → State → Store → Store → Type 0
Advances d blocks b old new =
    (root v : ℕ) → IsRoot d blocks root → (c : Copies d root v) → (slice_get new v ≡ slice_get old v) ⊎ ((slice_get old v ≡ slice_get b.store v) × NewValue d blocks b new root v c)

-- what holds of a change of the store
pub record Change (d : Parts) (blocks : ℕ → Bool) (b : State) (old new : Store) : Type 0 where
  pub apart : Apart d blocks b
  pub shaped : shape new ≡ shape (start_store d)
  pub advances : Advances d blocks b old new

-- a term of a thread that waits: it stays, or it was as the slot found it, and what it is now fires
pub record IsWoken (d : Parts) (blocks : ℕ → Bool) (b : State) (old new : Store) (th : Thread) (t : EventTerm) : Type 0 where
  pub found : slice_get old t.range.signal ≡ slice_get b.store t.range.signal
  pub fired : Fired
  pub signal : fired.signal ≡ t.range.signal
  pub value : slice_get new fired.signal ≡ Some fired.value
  pub awaits : Awaits d blocks b th fired

-- the root of a term for which a thread waits
term_root : (d : Parts) (blocks : ℕ → Bool) (b : State) → Apart d blocks b → (i : ℕ) (th : Thread) → IsThread d blocks b i th → (terms : List EventTerm) (todo : Todo) → th.place ≡ waiting terms todo → (t : EventTerm) → Contains terms t →
    (root : ℕ) × IsRoot d blocks root × Copies d root t.range.signal
term_root d blocks b apart i th is terms todo at t among =
    let heard = apart.heard i th is terms todo at t among in
    let r = apart.edges t.range.signal heard in
    (r.0, record { signal = t.range.signal; heard = heard; copies = r.1 }, r.1)

pub woken_at : (d : Parts) (blocks : ℕ → Bool) (b : State) (old new : Store) → Change d blocks b old new → (i : ℕ) (th : Thread) → IsThread d blocks b i th → (terms : List EventTerm) (todo : Todo) → th.place ≡ waiting terms todo → (t : EventTerm) → Contains terms t →
    wakes old new t ≡ true → IsWoken d blocks b old new th t
woken_at d blocks b old new h i th is terms todo at t among wake = by_advance (h.advances r.0 t.range.signal r.1 r.2)
  where
    r : (root : ℕ) × IsRoot d blocks root × Copies d root t.range.signal
    r = term_root d blocks b h.apart i th is terms todo at t among

    v : ℕ
    v = t.range.signal

    made : (c : List (List Digit)) → slice_get new v ≡ Some c → slice_get old v ≡ slice_get b.store v → NewValue d blocks b new r.0 v r.2 → IsWoken d blocks b old new th t
    made c new_is found value =
        let f : Fired = record { signal = v; value = c } in
        let z = bit_in d b.store v h.apart.begins.shaped (copies_bit d r.0 v r.2) in
        let there : slice_get (given f b.store) v ≡ Some c = given_at v c z.0 z.1 in
        record {
          found = found;
          fired = f;
          signal = refl;
          value = new_is;
          awaits = record {
            terms = terms;
            todo = todo;
            at = at;
            term = t;
            is = among;
            fires = record {
              term = refl;
              root = r.0;
              copies = r.2;
              writer = value.writer;
              by = value.by;
              timed = value.timed;
              writes = value.wrote;
              value = sym value.is ∙ new_is;
              wakes = wakes_alike b.store (given f b.store) old new t (sym found) (there ∙ sym new_is) ∙ wake;
            };
          };
        }
      where
        given_at : (v : ℕ) (c : List (List Digit)) (z : Digit) → slice_get b.store v ≡ Some (one_bit z) → slice_get (given (record { signal = v; value = c }) b.store) v ≡ Some c
        given_at v c z e = changed_same (λ old. c) v b.store ∙ ap (option_map (λ old. c)) e

    by_advance : ((slice_get new v ≡ slice_get old v) ⊎ ((slice_get old v ≡ slice_get b.store v) × NewValue d blocks b new r.0 v r.2)) → IsWoken d blocks b old new th t
    by_advance (inl same) = absurd (true≢false (sym wake ∙ no_wake old new t same))
    by_advance (inr (found, value)) = let z = bit_in d new v h.shaped (copies_bit d r.0 v r.2) in made (one_bit z.0) z.1 found value

-- what has fired a process was not as the slot found it
pub fired_changed : (d : Parts) (blocks : ℕ → Bool) (b : State) → Apart d blocks b → (i : ℕ) (f : Fired) → MayOpen d blocks b i (Some f) → slice_get b.store f.signal ≡ Some f.value → ⊥
fired_changed d blocks b apart i f may same =
    let t = may.term in
    let term : t.range.signal ≡ f.signal = may.fires.term in
    let stays : slice_get (given f b.store) t.range.signal ≡ slice_get b.store t.range.signal =
    subst (λ n. slice_get (given f b.store) n ≡ slice_get b.store n) (sym term) (given_value d blocks b apart i f may ∙ sym same) in
    true≢false (sym may.fires.wakes ∙ no_wake b.store (given f b.store) t stays)

-- a signal that nothing drives shows itself
shows_itself : (d : Parts) (root v : ℕ) (c : Copies d root v) → is_driven d.assigns v ≡ false → (root ≡ v) × ((content : Option (List (List Digit))) → shown (inverses c) content ≡ content)
shows_itself d root _ (itself bit undriven) un = (refl, shown_none)
shows_itself d root v (through m n copies link bit) un = absurd (true≢false (sym (link_driven d m v link) ∙ un))

-- what a thread wrote itself is in the store, and doesn't change any more
own_stays : (d : Parts) (blocks : ℕ → Bool) (b : State) (old new : Store) → Apart d blocks b → (i : ℕ) (th : Thread) (s : FiringAgrees d blocks b old i th) (t : EventTerm) → (w : IsWoken d blocks b old new th t) →
    ((v : ℕ) → writes th v ≡ true → slice_get old v ≡ slice_get th.view v) → is_timed (found blocks b i) ≡ true → wakes old new t ≡ true → writes th w.fired.signal ≡ true → ⊥
own_stays d blocks b old new apart i th s t w own timed wake wrote =
    true≢false (sym wake ∙ no_wake old new t (subst (λ n. slice_get new n ≡ slice_get old n) w.signal same))
  where
    fires : Fires d blocks b w.awaits.term w.fired
    fires = w.awaits.fires

    source : IsSource d blocks w.fired.signal
    source = apart.variables i w.fired.signal th s.is wrote

    itself_is : (fires.root ≡ w.fired.signal) × ((content : Option (List (List Digit))) → shown (inverses fires.copies) content ≡ content)
    itself_is = shows_itself d fires.root w.fired.signal fires.copies source.undriven

    by_wrote : writes fires.by w.fired.signal ≡ true
    by_wrote = subst (λ n. writes fires.by n ≡ true) itself_is.0 fires.writes

    writer : fires.writer ≡ i
    writer = apart.keeps.only i fires.writer w.fired.signal th fires.by s.is (record { count = fires.timed.count; input = None; may = tt; is = fires.timed.is }) wrote by_wrote

    heard : IsHeard d blocks w.awaits.term.range.signal
    heard = apart.heard i th s.is w.awaits.terms w.awaits.todo w.awaits.at w.awaits.term w.awaits.is

    root : IsRoot d blocks fires.root
    root = record { signal = w.fired.signal; heard = subst (IsHeard d blocks) fires.term heard; copies = fires.copies }

    views : slice_get th.view w.fired.signal ≡ slice_get fires.by.view w.fired.signal
    views = subst (λ n. slice_get th.view n ≡ slice_get fires.by.view n) itself_is.0
        (apart.keeps.root_once i fires.root th fires.by root (timed_of d blocks b i th s.is timed) (subst (λ k. IsTimed blocks b k fires.by) writer fires.timed)
        (subst (λ n. writes th n ≡ true) (sym itself_is.0) wrote) fires.writes)

    same : slice_get new w.fired.signal ≡ slice_get old w.fired.signal
    same = w.value ∙ sym fires.value ∙ itself_is.1 (slice_get fires.by.view fires.root) ∙ ap (slice_get fires.by.view) itself_is.0 ∙ sym views ∙ sym (own w.fired.signal wrote)

-- a process that a change of the store wakes stands where the slot found it
pub woken_opening : (d : Parts) (blocks : ℕ → Bool) (b : State) (old new : Store) → Apart d blocks b → (i : ℕ) (th : Thread) (s : FiringAgrees d blocks b old i th) (t : EventTerm) → IsWoken d blocks b old new th t →
    ((v : ℕ) → writes th v ≡ true → slice_get old v ≡ slice_get th.view v) → wakes old new t ≡ true → th ≡ opening blocks b i None
woken_opening d blocks b old new apart i th s t w own wake = by_input s.is.input refl
  where
    by_input : (o : Option Fired) → s.is.input ≡ o → th ≡ opening blocks b i None
    by_input None none = elim (cases_Bool (is_timed (found blocks b i))) [
      | inl timed ↦ elim (cases_Bool (writes th w.fired.signal)) [
        | inl wrote ↦ absurd (own_stays d blocks b old new apart i th s t w own timed wake wrote)
        | inr other ↦ absurd (apart.keeps.unfired i th w.fired (timed_of d blocks b i th s.is timed) w.awaits other)
      ]
      | inr waits ↦ unmoved d blocks b i th s.is none waits
    ]
    by_input (Some g) e =
        let may = subst (MayOpen d blocks b i) e s.is.may in
        let waits : is_timed (found blocks b i) ≡ false = ap is_timed may.at in
        let one : w.fired.signal ≡ g.signal = apart.keeps.fired_by_one i th (opening blocks b i None) w.fired g waits s.is (thread_opens d blocks b i) w.awaits may in
        let at_t : t.range.signal ≡ g.signal = sym w.signal ∙ one in
        absurd (fired_changed d blocks b apart i g may (ap (slice_get b.store) (sym at_t) ∙ sym w.found ∙ ap (slice_get old) at_t ∙ s.fired g e))

-- ---- every process behind a change

-- a thread that waits since the slot began, and the thread that is fired in its place
pub record IsFiredNow (d : Parts) (blocks : ℕ → Bool) (b : State) (i : ℕ) (old new : Thread) : Type 0 where
  pub fired : Fired
  pub may : MayOpen d blocks b i (Some fired)
  pub was : old ≡ opening blocks b i None
  pub is : new ≡ opening blocks b i (Some fired)

-- a process behind a change of the store: where the change leaves it, and what its thread is then
pub record After (d : Parts) (blocks : ℕ → Bool) (b : State) (old new : Store) (i : ℕ) (th : Thread) : Type 0 where
  pub thread : Thread
  pub stands : FiringAgrees d blocks b new i thread
  pub place : thread.place ≡ wakened old new th.place
  pub log : thread.log ≡ th.log
  pub made : thread.made ≡ th.made
  pub asked : thread.asked ≡ th.asked
  pub fin : thread.fin ≡ th.fin
  pub view : (v : ℕ) → writes th v ≡ true → slice_get thread.view v ≡ slice_get th.view v
  pub same : is_timed (found blocks b i) ≡ true → thread ≡ th
  pub goes : (thread ≡ th) ⊎ IsFiredNow d blocks b i th thread

-- what has fired a process stays
pub fired_kept : (d : Parts) (blocks : ℕ → Bool) (b : State) (old new : Store) → Change d blocks b old new → (i : ℕ) (f : Fired) → MayOpen d blocks b i (Some f) → slice_get old f.signal ≡ Some f.value → slice_get new f.signal ≡ Some f.value
fired_kept d blocks b old new h i f may was =
    let t = may.term in
    let heard = h.apart.heard i (opening blocks b i None) (thread_opens d blocks b i) may.terms may.todo may.at t may.is in
    let root : IsRoot d blocks may.fires.root = record { signal = f.signal; heard = subst (IsHeard d blocks) may.fires.term heard; copies = may.fires.copies } in
    elim (h.advances may.fires.root f.signal root may.fires.copies) [
      | inl same ↦ same ∙ was
      | inr changed ↦ absurd (fired_changed d blocks b h.apart i f may (sym changed.0 ∙ was))
    ]

-- a process that the change doesn't wake stays, and what is said of its firing holds still
kept_stands : (d : Parts) (blocks : ℕ → Bool) (b : State) (old new : Store) → Change d blocks b old new → (i : ℕ) (th : Thread) (s : FiringAgrees d blocks b old i th) →
    ((terms : List EventTerm) (todo : Todo) → th.place ≡ waiting terms todo → wake_any terms old new ≡ false) → FiringAgrees d blocks b new i th
kept_stands d blocks b old new h i th s asleep = record {
  is = s.is;
  unfired = λ none terms todo at_b t among.
      let waits : is_timed (found blocks b i) ≡ false = ap is_timed at_b in
      let at : th.place ≡ waiting terms todo = ap (λ (x : Thread). x.place) (unmoved d blocks b i th s.is none waits) ∙ at_b in
      let r = term_root d blocks b h.apart i th s.is terms todo at t among in
      elim (h.advances r.0 t.range.signal r.1 r.2) [
        | inl same ↦ wakes_alike b.store new b.store old t refl same ∙ s.unfired none terms todo at_b t among
        | inr changed ↦ wakes_alike b.store new old new t (sym changed.0) refl ∙ (let n = place_of terms t among in none_at (wakes old new) terms n.0 t n.1 (asleep terms todo at))
      ];
  fired = λ f e. fired_kept d blocks b old new h i f (subst (MayOpen d blocks b i) e s.is.may) (s.fired f e);
}

pub same_terms : (a b : List EventTerm) (k l : Todo) → waiting a k ≡ waiting b l → a ≡ b
same_terms a b k l e = cc

-- a process that is fired
abbrev pub fired_is : (d : Parts) (blocks : ℕ → Bool) (b : State) (i : ℕ) (f : Fired) → MayOpen d blocks b i (Some f) → IsThread d blocks b i (opening blocks b i (Some f))
fired_is d blocks b i f may = record { count = 0; input = Some f; may = may; is = refl }

pub after_at : (d : Parts) (blocks : ℕ → Bool) (b : State) (old new : Store) → Change d blocks b old new → (i : ℕ) (th : Thread) → FiringAgrees d blocks b old i th →
    ((v : ℕ) → writes th v ≡ true → slice_get old v ≡ slice_get th.view v) → After d blocks b old new i th
after_at d blocks b old new h i th s own = by_place th.place refl
  where
    kept : wakened old new th.place ≡ th.place → ((terms : List EventTerm) (todo : Todo) → th.place ≡ waiting terms todo → wake_any terms old new ≡ false) → After d blocks b old new i th
    kept same asleep = record {
      thread = th;
      stands = kept_stands d blocks b old new h i th s asleep;
      place = sym same;
      log = refl;
      made = refl;
      asked = refl;
      fin = refl;
      view = λ v wrote. refl;
      same = λ timed. refl;
      goes = inl refl;
    }

    woken : (terms : List EventTerm) (todo : Todo) → th.place ≡ waiting terms todo → wake_any terms old new ≡ true → After d blocks b old new i th
    woken terms todo at wake =
        let hit = any_at (wakes old new) terms wake in
        let w = woken_at d blocks b old new h i th s.is terms todo at hit.1 (contains_at terms hit.0 hit.1 hit.2) hit.3 in
        let there : th ≡ opening blocks b i None = woken_opening d blocks b old new h.apart i th s hit.1 w own hit.3 in
        let b_at : found blocks b i ≡ waiting terms todo = ap (λ (x : Thread). x.place) (sym there) ∙ at in
        let f = w.fired in
        let may : MayOpen d blocks b i (Some f) = subst (λ x. Awaits d blocks b x f) there w.awaits in
        record {
          thread = opening blocks b i (Some f);
          stands = record {
            is = fired_is d blocks b i f may;
            unfired = λ none. absurd (let no_way : Some f ≡ None = none in cc);
            fired = λ g e. let same : f ≡ g = same_some f g e in subst (λ (k : Fired). slice_get new k.signal ≡ Some k.value) same w.value;
          };
          place = ap triggered b_at ∙ ap (λ t. if t then active_at Woken todo else waiting terms todo) (sym wake) ∙ ap (wakened old new) (sym at);
          log = ap (λ (x : Thread). x.log) (sym there);
          made = ap (λ (x : Thread). x.made) (sym there);
          asked = ap (λ (x : Thread). x.asked) (sym there);
          fin = ap (λ (x : Thread). x.fin) (sym there);
          view = λ v wrote. absurd (false≢true (ap (λ (x : Thread). writes x v) (sym there) ∙ wrote));
          same = λ timed. absurd (true≢false (sym timed ∙ ap is_timed b_at));
          goes = inr (record { fired = f; may = may; was = there; is = refl });
        }

    by_place : (p : Place) → th.place ≡ p → After d blocks b old new i th
    by_place (waiting terms todo) at =
        elim (cases_Bool (wake_any terms old new)) [
          | inl wake ↦ woken terms todo at wake
          | inr sleep ↦ kept
              (ap (wakened old new) at ∙ ap (λ t. if t then active_at Woken todo else waiting terms todo) sleep ∙ sym at)
              (λ ts td e. ap (λ us. wake_any us old new) (same_terms ts terms td todo (sym e ∙ at)) ∙ sleep)
        ]
    by_place (going gait todo) at = kept (ap (wakened old new) at ∙ sym at) (λ ts td e. let no_way : going gait todo ≡ waiting ts td = sym at ∙ e in cc)
    by_place (sleeping due todo) at = kept (ap (wakened old new) at ∙ sym at) (λ ts td e. let no_way : sleeping due todo ≡ waiting ts td = sym at ∙ e in cc)
    by_place (inactive todo) at = kept (ap (wakened old new) at ∙ sym at) (λ ts td e. let no_way : inactive todo ≡ waiting ts td = sym at ∙ e in cc)
    by_place ended at = kept (ap (wakened old new) at ∙ sym at) (λ ts td e. let no_way : ended ≡ waiting ts td = sym at ∙ e in cc)
