-- A rule of combinational blocks that a design keeps, one keeps that says the same.
use Rattle.std.proofs.Common.{◌≡◌, ℕ, suc, inl, inr, ◌&&◌, ◌||◌, not, Bool, false, Option, Some, List, [], ◌∷◌, slice_get, refl, ap, ap₂, sym, subst, ◌∙◌}
use Rattle.std.proofs.lemmas.Option.{none-some, same_Some}
use Rattle.std.specs.List.{AllZip, list_any, list_all}
use Rattle.vs_syntax.specs.Same.{no_pair, pair_more}
use Rattle.vs_design.specs.declared.design.Assign.{Assign}
use Rattle.vs_design.specs.declared.design.Process.{Process}
use Rattle.vs_design.specs.declared.design.ProcessKind.{ProcessKind}
use Rattle.vs_design.specs.declared.expression.Typed.{Typed}
use Rattle.vs_design.specs.declared.statement.EventTerm.{EventTerm}
use Rattle.vs_design.specs.declared.statement.Statement.{Statement}
use Rattle.vs_design.specs.declared.statement.Statement.TheOpen.{Statement-F}
use Rattle.vs_design.specs.declared.statement.Statement.TheViews.{out-Statement}
use Rattle.vs_design.specs.declared.statement.Target.{Target}
use Rattle.vs_design.specs.Parts.{Parts}
use Rattle.vs_design.specs.Stores.{Store, changes_nothing}
use Rattle.vs_design.specs.Uses.{covers, writes}
use Rattle.vs_process.specs.vs_eval.specs.Laws.{digit_of}
use Rattle.vs_process.specs.Places.{Todo}
use Rattle.vs_process.specs.Executions.{is_level, waits_for_levels, is_block_body, is_always, is_combinational}
use Rattle.vs_process.specs.BlockDrivers.{sizes, IsSettledStart}
use Rattle.vs_elaborate.specs.Same.{SameSides, SameAssign}
use Rattle.vs_rules.specs.Blocks.{Unwritten, K5, run_alone, StaysCold, IsCold, WaitsForSources, CopiesWhole, NamesBit, statement_update, todo_update, Begins, Missing, MayStart, IsStarted, Starts, K11}
use Rattle.vs_rules.specs.Claims.{Claims, Start, cold, sources, starter, nonblocking, both}
use Rattle.vs_rules.specs.Drivers.{block}
use Rattle.vs_rules.specs.Paths.{Bit, Has, HasTerm, reads_of}
use Rattle.vs_rules.specs.Points.{first_todo}
use Rattle.vs_laws.proofs.Alike.{alike, AlikeLayer, of_event, of_later, of_forever}
use Rattle.vs_laws.proofs.Clocks.{layers}
use Rattle.vs_laws.proofs.Cones.{texts_read, writes_as, bit_as, names_as, driver_needs_as, source_as, passes_as}
use Rattle.vs_laws.proofs.Copies.{copy_as}
use Rattle.vs_laws.proofs.Designs.{AlikeProcess, Twins, back, assign_there, process_there, start_same}
use Rattle.vs_laws.proofs.Done.{lists_same, late_same, surely_same, writes_any_as, reads_now_as}
use Rattle.vs_laws.proofs.SourceKept.{either_as}
use Rattle.vs_laws.proofs.Named.{writer_as, mode_as, block_as, delay_as, start_as, sequential_as}
use Rattle.vs_laws.proofs.Steps.{assignment_same, run_same}
use Rattle.vs_laws.proofs.SourceTexts.{control_same}
use Rattle.vs_laws.proofs.Todos.{AlikeTodo, performs, turning, todo_turned, goes_as}
use Rattle.vs_laws.proofs.Trees.{given_as}
use Rattle.vs_laws.proofs.Walks.{TwinOf, goes_on_as, goes_after_as, goes_wait_as, plain_same, first_alike, point_as, slot0_as, term_as}

-- ---- K5

waits_same : (x x' : Statement-F Statement) → AlikeLayer x x' → waits_for_levels x ≡ waits_for_levels x'
waits_same _ _ (of_event k ts ts' x x' c m) = ap₂ (λ (terms : List EventTerm) (b : Bool). list_all is_level terms && not b) c (control_same x.value x'.value m)
waits_same _ _ _ = refl

body_same : (x x' : Statement-F Statement) → AlikeLayer x x' → is_block_body x ≡ is_block_body x'
body_same _ _ (of_forever k x x' m) = waits_same (out-Statement x.value) (out-Statement x'.value) (layers x.value x'.value m)
body_same _ _ _ = refl

combinational_same : (p p' : Process) → AlikeProcess p p' → is_combinational p ≡ is_combinational p'
combinational_same p p' h =
    ap₂ (λ (kind : ProcessKind) (b : Bool). is_always kind && b) h.kind (body_same (out-Statement p.body) (out-Statement p'.body) (layers p.body p'.body h.body))

unwritten_as : {d d' : Parts} → Twins d d' → (i : ℕ) (b : Bit) (k : Todo) → Unwritten d i b k → TwinOf k (Unwritten d' i b)
unwritten_as t i b _ (Unwritten.begins k l number terms p g) =
    let q = point_as t i k p in
    let m = goes_wait_as k q.to l number terms q.same g in
    record { to = m.to; is = Unwritten.begins q.to m.to number terms q.is m.is; same = m.same }
unwritten_as t i b _ (Unwritten.goes_on k l p s g) =
    let q = unwritten_as t i b k p in
    let m = goes_on_as k q.to l q.same g in
    record { to = m.to; is = Unwritten.goes_on q.to m.to q.is (sym (surely_same b k q.to q.same) ∙ s) m.is; same = m.same }

-- the control of a block names the bit
abbrev Hears : Parts → ℕ → Bit → Type 0
Hears d i b = (t : EventTerm) × HasTerm d i t × Has t.range b

pub k5_as : {d d' : Parts} → Twins d d' → (c : Claims) (i : ℕ) → K5 d c i → K5 d' c i
k5_as {d} {d'} t c i h =
    let u = back t in
    record {
      grain = λ b. h.grain (block_as u c i b);
      shape = λ p b e.
          let o = process_there u i p e in
          combinational_same p o.other o.same ∙ h.shape o.other (block_as u c i b) o.is;
      quiet = λ k b p.
          let q = point_as u i k p in
          late_same k q.to q.same ∙ h.quiet q.to (block_as u c i b) q.is;
      covered = λ r b j l is has.
          either_as (writes_as t i b.signal) (λ (w : Hears d i b). (w.0, term_as t i w.0 w.1, w.2))
          (h.covered r b (block_as u c i j) (lists_same d' d (reads_of d' i) (reads_of d i) r (texts_read u i) l) (bit_as u b is) has);
      before_reads = λ b k r j is w n o e.
          let q = unwritten_as u i b k n in
          h.before_reads b q.to r (block_as u c i j) (bit_as u b is) (writes_as u i b.signal w) q.is (reads_now_as d' d k q.to r q.same o) e;
      before_end = λ b k next j is w n g e.
          let q = unwritten_as u i b k n in
          let m = goes_as k q.to next q.same g in
          h.before_end b q.to m.to (block_as u c i j) (bit_as u b is) (writes_as u i b.signal w) q.is m.goes (sym (plain_same next m.to m.same) ∙ e);
    }

-- ---- K11: cold

drives_same : (as' bs : List Assign) → AllZip SameAssign as' bs → (v w n : ℕ) →
    list_any (λ (a : Assign). list_any (covers v w n) (writes a.target)) as' ≡ list_any (λ (a : Assign). list_any (covers v w n) (writes a.target)) bs
drives_same [] [] h v w n = refl
drives_same [] (b ∷ bs) h v w n = absurd h
drives_same (a ∷ as') [] h v w n = absurd h
drives_same (a ∷ as') (b ∷ bs) h v w n = ap₂ (λ x y. x || y) (ap (list_any (covers v w n)) h.0.sides.target.ranges) (drives_same as' bs h.1 v w n)

settled_as : {d d' : Parts} → Twins d d' → (store : Store) → IsSettledStart d store → IsSettledStart d' store
settled_as {d} {d'} t store h = record {
  sized = h.sized ∙ ap sizes (start_same t);
  undriven = λ v w n e. h.undriven v w n (drives_same d.assigns d'.assigns t.assigns v w n ∙ e) ∙ ap (λ (z : Store). digit_of z v w n) (start_same t);
  settled = λ j a e.
      let o = assign_there (back t) j a e in
      ap (changes_nothing store) (assignment_same a.target o.other.target a.source o.other.source store 0 o.same.sides) ∙ h.settled j o.other o.is;
}

runs_same : (most : ℕ) (k k' : Todo) (store : Store) (new : Option Store) → AlikeTodo k k' → run_alone most k store ≡ new → run_alone most k' store ≡ new
runs_same most k k' store new a e = sym (run_same most k k' store a) ∙ e

stays_cold_as : {d d' : Parts} → Twins d d' → (i : ℕ) (k k' : Todo) → AlikeTodo k k' → StaysCold d i k → StaysCold d' i k'
stays_cold_as t i k k' a h = record {
  settled = h.settled;
  is = settled_as t h.settled h.is;
  store = h.store;
  arrives = runs_same 10000 k k' h.settled (Some h.store) a h.arrives;
  same = λ v w. h.same v (writes_as (back t) i v w) ∙ ap (λ (z : Store). slice_get z v) (start_same t);
}

cold_as : {d d' : Parts} → Twins d d' → (c : Claims) (i : ℕ) → IsCold d c i → IsCold d' c i
cold_as t c i h =
    let u = back t in
    record {
      stays = λ k l number terms p g.
          let q = point_as u i k p in
          let m = goes_wait_as k q.to l number terms q.same g in
          stays_cold_as t i m.to l (todo_turned l m.to m.same) (h.stays q.to m.to number terms q.is m.is);
      no_starter = λ j r n p s. h.no_starter j r (driver_needs_as u (block i) r n) (passes_as u c (block j) r p) (start_as u c j starter s);
    }

-- ---- K11: sources

waits_as : {d d' : Parts} → Twins d d' → (c : Claims) (i : ℕ) → WaitsForSources d c i → WaitsForSources d' c i
waits_as t c i h = λ r n. either_as (source_as t c r.signal) (writes_as t i r.signal) (h r (names_as (back t) i r n))

-- ---- K11: starter

copies_whole_as : {d d' : Parts} → Twins d d' → (g v : ℕ) → CopiesWhole d g v → CopiesWhole d' g v
copies_whole_as t g _ CopiesWhole.itself = CopiesWhole.itself
copies_whole_as t g _ (CopiesWhole.copy v u i r) = CopiesWhole.copy v u (copy_as t v u i) (copies_whole_as t g u r)

names_bit_as : {d d' : Parts} → Twins d d' → (i g : ℕ) (b : Bit) → NamesBit d i g b → NamesBit d' i g b
names_bit_as t i g b h = record {
  range = h.range;
  names = names_as t i h.range h.names;
  copies = copies_whole_as t g h.range.signal h.copies;
  of = h.of;
  is = bit_as t b h.is;
  has = h.has;
}

-- an update by `<=`, as another one of what says the same
record UpdateAs (ticks : ℕ) (target : Target) (value : Typed) (o : Option (ℕ × Target × Typed)) : Type 0 where
  into : Target
  gets : Typed
  is : o ≡ Some (ticks, into, gets)
  same : SameSides target into value gets

update_by : (ticks : ℕ) (target : Target) (value : Typed) (x x' : Statement-F Statement) → AlikeLayer x x' → statement_update x ≡ Some (ticks, target, value) → UpdateAs ticks target value (statement_update x')
update_by ticks target value _ _ (of_later k n n' t t' x x' c m) e =
    let p = same_Some {A = ℕ × Target × Typed} _ _ e in
    record {
      into = t';
      gets = x';
      is = ap (λ (z : ℕ). Some (z, t', x')) (sym c ∙ ap (λ (z : ℕ × Target × Typed). z.0) p);
      same = subst (λ (z : ℕ × Target × Typed). SameSides z.1 t' z.2 x') p m;
    }
update_by ticks target value _ _ _ e = absurd (none-some _ e)

update_as : (ticks : ℕ) (target : Target) (value : Typed) (k k' : Todo) → AlikeTodo k k' → todo_update k ≡ Some (ticks, target, value) → UpdateAs ticks target value (todo_update k')
update_as ticks target value _ _ no_pair e = absurd (none-some _ e)
update_as ticks target value _ _ (pair_more _ _ rest rest' (performs _ _ (alike s s' l)) r) e = update_by ticks target value (out-Statement s) (out-Statement s') l e
update_as ticks target value _ _ (pair_more _ _ rest rest' (turning n s s' m) r) e = absurd (none-some _ e)

begins_as : {d d' : Parts} → Twins d d' → (i g : ℕ) (k k' : Todo) → AlikeTodo k k' → Begins d i g k → Begins d' i g k'
begins_as t i g k k' a h =
    let o = update_as 0 h.target h.value k k' a h.is in
    record {
      target = o.into;
      value = o.gets;
      is = o.is;
      bit = h.bit;
      named = names_bit_as t i g h.bit h.named;
      digit = h.digit;
      known = h.known;
      gives = sym (given_as h.target o.into h.value o.gets h.bit o.same) ∙ h.gives;
    }

missing_as : {d d' : Parts} → Twins d d' → (i g w : ℕ) (k : Todo) → Missing d i g w k → TwinOf k (Missing d' i g w)
missing_as {d} {d'} t i g w _ Missing.begins = record { to = first_todo d' w; is = Missing.begins; same = first_alike t w }
missing_as t i g w _ (Missing.goes_on k l p lacks way) =
    let q = missing_as t i g w k p in
    let m = goes_on_as k q.to l q.same way in
    record { to = m.to; is = Missing.goes_on q.to m.to q.is (λ b. lacks (begins_as (back t) i g q.to k (todo_turned k q.to q.same) b)) m.is; same = m.same }
missing_as t i g w _ (Missing.waits k l number p way) =
    let q = missing_as t i g w k p in
    let m = goes_after_as k q.to l number 0 q.same way in
    record { to = m.to; is = Missing.waits q.to m.to number q.is m.is; same = m.same }

nothing_as : (k : Todo) → AlikeTodo [] k → k ≡ []
nothing_as _ no_pair = refl

may_start_as : {d d' : Parts} → Twins d d' → (c : Claims) (g w : ℕ) → MayStart d c g w → MayStart d' c g w
may_start_as t c g w (inl m) = inl (mode_as t c g nonblocking m.0, delay_as t c w m.1)
may_start_as t c g w (inr m) = inr (m.0, either_as (mode_as t c g nonblocking) (mode_as t c g both) m.1, sequential_as t c w m.2)

started_as : {d d' : Parts} → Twins d d' → (c : Claims) (i g w : ℕ) → IsStarted d c i g w → IsStarted d' c i g w
started_as {d} {d'} t c i g w h =
    let u = back t in
    record {
      may = may_start_as t c g w h.may;
      writer = writer_as t c g w h.writer;
      named = (h.named.0, names_as t i h.named.0 h.named.1, copies_whole_as t g h.named.0.signal h.named.2);
      only = λ k o n.
          let q = slot0_as u false w k o in
          begins_as t i g q.to k (todo_turned k q.to q.same) (h.only q.to q.is (writes_any_as d' d k q.to g q.same n));
      before_end = λ m.
          let q = missing_as u i g w [] m in
          h.before_end (subst (Missing d i g w) (nothing_as q.to q.same) q.is);
      before_delay = λ k l number ticks m way.
          let q = missing_as u i g w k m in
          let n = goes_after_as k q.to l number (suc ticks) q.same way in
          h.before_delay q.to n.to number ticks q.is n.is;
      before_wait = λ k l number terms m way.
          let q = missing_as u i g w k m in
          let n = goes_wait_as k q.to l number terms q.same way in
          h.before_wait q.to n.to number terms q.is n.is;
    }

starts_as : {d d' : Parts} → Twins d d' → (c : Claims) (i : ℕ) (start : Start) → Starts d c i start → Starts d' c i start
starts_as t c i cold h = cold_as t c i h
starts_as t c i sources h = waits_as t c i h
starts_as t c i starter h = (h.0, h.1, started_as t c i h.0 h.1 h.2)

pub k11_as : {d d' : Parts} → Twins d d' → (c : Claims) (i : ℕ) → K11 d c i → K11 d' c i
k11_as t c i h = λ start s. starts_as t c i start (h start (start_as (back t) c i start s))
