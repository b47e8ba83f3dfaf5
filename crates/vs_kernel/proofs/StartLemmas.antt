-- The start of a run.
use Rattle.std.proofs.Common.{◌≡◌, ℕ, zero, suc, ◌<◌, Bool, false, Some, List, [], ◌∷◌, ◌++◌, map, length, slice_get, get_or, replicate, refl, sym, ◌∙◌, ap, ap₂, subst, arith}
use Rattle.std.proofs.lemmas.Option.{none-some, same_Some, slice_get_within}
use Rattle.vs_design.specs.vs_logic4.specs.declared.digit.Digit.{Digit}
use Rattle.vs_design.specs.declared.design.Assign.{Assign}
use Rattle.vs_design.specs.declared.design.Process as design
use Rattle.vs_design.specs.declared.expression.Typed.{Typed}
use Rattle.vs_design.specs.declared.signal.Signal.{Signal}
use Rattle.vs_design.specs.declared.statement.EventTerm.{EventTerm}
use Rattle.vs_design.specs.InOrder.{IsStoreOf}
use Rattle.vs_design.specs.Parts.{Parts}
use Rattle.vs_design.specs.Stores.{Store, drives_bit, start_store, start_word, start_words}
use Rattle.vs_design.proofs.Drivers.{length-start_digits}
use Rattle.vs_process.specs.Places.{Place, start_place}
use Rattle.vs_process.specs.Scripts.{StartsWith}
use Rattle.vs_process.specs.Texts.{HasControl, Text}
use Rattle.vs_run_active.specs.vs_process.specs.States.{AssignState, Called, start, start_assign}
use Rattle.vs_run_active.specs.declared.process.Process.{Process}
use Rattle.vs_run_active.specs.declared.process.Wait.{Wait}
use Rattle.vs_run_active.specs.declared.process.Wait.TheVariants.{Nothing, Until, Inactive, Terms}
use Rattle.vs_run_active.specs.ProcessPlaces.{IsWaitOf}
use Rattle.vs_run_active.proofs.TimelinesLemmas.{kept_started}
use Rattle.vs_run_steps.specs.declared.run.RunState.{RunState}
use Rattle.vs_run_steps.specs.Runs.{IsRunOf, counters_of, state_of}
use Rattle.vs_run_active.specs.declared.watchers.ProcessTerm.{ProcessTerm}
use Rattle.vs_run_active.specs.Rows.{AreRows}
use Rattle.vs_run_active.specs.Terms.{TermsAreFound, terms_from}
use Rattle.vs_run_active.specs.Waiting.{IsWaiting, places_of}
use Rattle.vs_run_active.specs.Waking.{terms_at}
use Rattle.vs_run_regions.specs.Regions.{Waiting}
use Rattle.vs_run_active.specs.Touches.{AreOf}
use Rattle.vs_design.specs.vs_logic4.proofs.Basics.{there as slice_there}
use Rattle.vs_kernel.specs.Scripts.{AreScripts, IsScriptFor}
use Rattle.vs_kernel.specs.Starting.{AreCounted, AreStarted, IsStarted}

-- ---- one more

pub started_more : (cs : List Text) (ps : List Process) (c : Text) (p : Process) → AreStarted cs ps → IsStarted c p → AreStarted (cs ++ c ∷ []) (ps ++ p ∷ [])
started_more [] [] c p h one = (one, tt)
started_more [] (q ∷ ps) c p h one = absurd h
started_more (d ∷ cs) [] c p h one = absurd h
started_more (d ∷ cs) (q ∷ ps) c p h one = (h.0, started_more cs ps c p h.1 one)

pub counted_more : (cs : List Text) (ks : List (List ℕ)) (c : Text) (k : List ℕ) → AreCounted cs ks → length k ≡ c.counters → AreCounted (cs ++ c ∷ []) (ks ++ k ∷ [])
counted_more [] [] c k h one = (one, tt)
counted_more [] (j ∷ ks) c k h one = absurd h
counted_more (d ∷ cs) [] c k h one = absurd h
counted_more (d ∷ cs) (j ∷ ks) c k h one = (h.0, counted_more cs ks c k h.1 one)

-- ---- what each of them is

started_long : (cs : List Text) (ps : List Process) → AreStarted cs ps → length ps ≡ length cs
started_long [] [] h = refl
started_long [] (p ∷ ps) h = absurd h
started_long (c ∷ cs) [] h = absurd h
started_long (c ∷ cs) (p ∷ ps) h = ap suc (started_long cs ps h.1)

counted_long : (cs : List Text) (ks : List (List ℕ)) → AreCounted cs ks → length ks ≡ length cs
counted_long [] [] h = refl
counted_long [] (k ∷ ks) h = absurd h
counted_long (c ∷ cs) [] h = absurd h
counted_long (c ∷ cs) (k ∷ ks) h = ap suc (counted_long cs ks h.1)

started_at : (cs : List Text) (ps : List Process) (i : ℕ) (p : Process) → AreStarted cs ps → slice_get ps i ≡ Some p → (slice_get cs i ≡ Some p.script.now) × IsStarted p.script.now p
started_at [] [] i p h at = absurd (none-some p at)
started_at [] (q ∷ ps) i p h at = absurd h
started_at (c ∷ cs) [] i p h at = absurd h
started_at (c ∷ cs) (q ∷ ps) zero p h at =
    let same : q ≡ p = same_Some q p at in
    let is : IsStarted c p = subst (IsStarted c) same h.0 in (ap Some (sym is.script), subst (λ (x : Text). IsStarted x p) (sym is.script) is)
started_at (c ∷ cs) (q ∷ ps) (suc i) p h at = started_at cs ps i p h.1 at

counted_at : (cs : List Text) (ks : List (List ℕ)) (i : ℕ) (c : Text) → AreCounted cs ks → slice_get cs i ≡ Some c → length (get_or ks i []) ≡ c.counters
counted_at [] ks i c h at = absurd (none-some c at)
counted_at (d ∷ cs) [] i c h at = absurd h
counted_at (d ∷ cs) (k ∷ ks) zero c h at = h.0 ∙ ap (λ (x : Text). x.counters) (same_Some d c at)
counted_at (d ∷ cs) (k ∷ ks) (suc i) c h at = counted_at cs ks i c h.1 at

places_start : (ds : List design.Process) (cs : List Text) (ps : List Process) (css : List (List ℕ)) → length cs ≡ length ds →
    ((i : ℕ) (c : Text) (x : design.Process) → slice_get cs i ≡ Some c → slice_get ds i ≡ Some x → StartsWith c x.body) → AreStarted cs ps →
    places_of css ps ≡ map (λ (x : design.Process). start_place x.body) ds
places_start [] [] [] css long with_body h = refl
places_start [] [] (p ∷ ps) css long with_body h = absurd h
places_start [] (c ∷ cs) ps css long with_body h = absurd (omega (arith, long))
places_start (x ∷ ds) [] ps css long with_body h = absurd (omega (arith, long))
places_start (x ∷ ds) (c ∷ cs) [] css long with_body h = absurd h
places_start (x ∷ ds) (c ∷ cs) (p ∷ ps) [] long with_body h =
    ap₂ (λ (a : Place) (l : List Place). a ∷ l) (h.0.place x.body [] (with_body 0 c x refl refl))
    (places_start ds cs ps [] (omega (arith, long)) (λ i. with_body (suc i)) h.1)
places_start (x ∷ ds) (c ∷ cs) (p ∷ ps) (k ∷ css) long with_body h =
    ap₂ (λ (a : Place) (l : List Place). a ∷ l) (h.0.place x.body k (with_body 0 c x refl refl))
    (places_start ds cs ps css (omega (arith, long)) (λ i. with_body (suc i)) h.1)

bodies : (ds : List design.Process) → map (λ (x : design.Process). start_place x.body) ds ≡ map start_place (map (λ (x : design.Process). x.body) ds)
bodies [] = refl
bodies (x ∷ ds) = ap (λ (l : List Place). start_place x.body ∷ l) (bodies ds)

sources_start : (xs : List Assign) → map (λ (x : AssignState). x.source) (map start_assign xs) ≡ map (λ (a : Assign). a.source) xs
sources_start [] = refl
sources_start (x ∷ xs) = ap (λ (l : List Typed). x.source ∷ l) (sources_start xs)

-- ---- the store

lengths_start : (n : ℕ) (word : List Digit) → map (λ (w : List Digit). length w) (replicate n word) ≡ replicate n (length word)
lengths_start zero word = refl
lengths_start (suc n) word = ap (λ (l : List ℕ). length word ∷ l) (lengths_start n word)

words_start : (assigns : List Assign) (first : ℕ) (ss : List Signal) → IsStoreOf ss (start_words assigns first ss)
words_start assigns first [] = refl
words_start assigns first (s ∷ ss) =
    ap₂ (λ (a : List ℕ) (l : List (List ℕ)). a ∷ l)
    (lengths_start s.count (start_word assigns first s) ∙ ap (replicate s.count) (length-start_digits (drives_bit assigns first) s.kind 0 s.width))
    (words_start assigns (suc first) ss)

-- ---- the run

-- what a run at its start is made of
pub record IsAtStart {Q : Type 0} (d : Parts) (scripts : List Text) (r : RunState Q) : Type 0 where
  pub scripts_are : AreScripts d scripts
  pub design_is : r.design.now ≡ d
  pub terms_are : r.terms.items ≡ terms_from 0 scripts
  pub store : r.watched.store ≡ start_store d
  pub rows : AreRows (length d.signals) d.assigns r.terms.items r.watched.tables.groups r.watched.tables.rows.items r.watched.tables.watchers.items
  pub assigns : r.watched.events.assigns ≡ map start_assign d.assigns
  pub processes : AreStarted scripts r.watched.events.processes
  pub regions : r.regions ≡ record { time = 0; inactive = []; sleepers = []; updates = []; listed = record { signals = d.signals; active = []; due = []; writes = [] } }
  pub counters : AreCounted scripts (counters_of r)
  pub calls : r.calls.items ≡ []
  pub finishing : r.finishing ≡ false
  pub over : r.over ≡ false

start_places : {Q : Type 0} (d : Parts) (scripts : List Text) (r : RunState Q) → IsAtStart d scripts r → (state_of r).places ≡ map (λ (x : design.Process). start_place x.body) d.processes
start_places d scripts r h =
    places_start d.processes scripts r.watched.events.processes (counters_of r) h.scripts_are.count (λ i c x at there. (h.scripts_are.each i c x at there).starts) h.processes

pub start_state : {Q : Type 0} (d : Parts) (scripts : List Text) (r : RunState Q) → IsAtStart d scripts r → state_of r ≡ start d
start_state d scripts r h =
    ap₂ (λ (a : Store) (l : List Place). record (state_of r) { store = a; places = l }) h.store (start_places d scripts r h)
    ∙ ap (λ (l : List AssignState). record (state_of r) { store = start_store d; places = (start d).places; assigns = l }) h.assigns
    ∙ ap (λ (w : Waiting). record (start d) { updates = w.updates; calls = r.calls.items; time = w.time; finishing = r.finishing; over = r.over }) h.regions
    ∙ ap (λ (l : List Called). record (start d) { calls = l; finishing = r.finishing; over = r.over }) h.calls
    ∙ ap₂ (λ (a b : Bool). record (start d) { finishing = a; over = b }) h.finishing h.over

waits_start : (terms : List ProcessTerm) (i : ℕ) (c : Text) (w : Wait) → ((n : ℕ) (ts : List EventTerm) → HasControl c n ts → ts ≡ terms_at i n terms) → IsWaitOf c w → IsWaiting terms i w
waits_start terms i c (Nothing gait) listed h = tt
waits_start terms i c (Until due) listed h = tt
waits_start terms i c Inactive listed h = tt
waits_start terms i c (Terms n ts) listed h = listed n ts.now h

script_start : (d : Parts) (scripts : List Text) (i : ℕ) (c : Text) → AreScripts d scripts → slice_get scripts i ≡ Some c → (x : design.Process) × IsScriptFor d x c
script_start d scripts i c h at =
    let below : i < length scripts = slice_get_within scripts i c at in
    let x = slice_there d.processes i (omega (arith, below, h.count)) in
    (x.0, h.each i c x.0 at x.1)

listed_start : TermsAreFound → (d : Parts) (scripts : List Text) (i : ℕ) (c : Text) → AreScripts d scripts → slice_get scripts i ≡ Some c → (n : ℕ) (ts : List EventTerm) → HasControl c n ts → ts ≡ terms_at i n (terms_from 0 scripts)
listed_start law d scripts i c h at n ts control = law scripts i n c ts at (script_start d scripts i c h at).1.apart control

pub start_run : {Q : Type 0} → TermsAreFound → (d : Parts) (scripts : List Text) (r : RunState Q) → IsAtStart d scripts r → IsRunOf d r
start_run law d scripts r h =
    let terms : List ProcessTerm = r.terms.items in
    let listed : (i : ℕ) (c : Text) → slice_get scripts i ≡ Some c → (n : ℕ) (ts : List EventTerm) → HasControl c n ts → ts ≡ terms_at i n terms =
    λ i c at. subst (λ (l : List ProcessTerm). (n : ℕ) (ts : List EventTerm) → HasControl c n ts → ts ≡ terms_at i n l) (sym h.terms_are) (listed_start law d scripts i c h.scripts_are at)
    in (
      terms,
      record {
        reached = ([], sym (start_state d scripts r h));
        agrees = record {
          store = subst (IsStoreOf d.signals) (sym h.store) (words_start d.assigns 0 d.signals);
          watched = record {
            rows = h.rows;
            sources = subst (AreOf d) (sym h.assigns) (sources_start d.assigns);
            waiting = record {
              each = λ i p at.
                  let is = started_at scripts r.watched.events.processes i p h.processes at in
                  waits_start terms i p.script.now p.wait (listed i p.script.now is.0) is.1.waits;
            };
          };
          rows = sym h.rows.all;
          kept =
              kept_started (map (λ (x : design.Process). x.body) d.processes) (start_places d scripts r h ∙ bodies d.processes) (ap (λ (w : Waiting). w.inactive) h.regions) (ap (λ (w : Waiting). w.sleepers) h.regions);
          signals = ap (λ (w : Waiting). w.listed.signals) h.regions;
          counted = counted_long scripts (counters_of r) h.counters ∙ sym (started_long scripts r.watched.events.processes h.processes);
          scripts = record {
            each = λ i p at.
                let is = started_at scripts r.watched.events.processes i p h.processes at in
                let for = script_start d scripts i p.script.now h.scripts_are is.0 in
                record { signals_are = for.1.signals; counted = counted_at scripts (counters_of r) i p.script.now h.counters is.0; listed = listed i p.script.now is.0 };
          };
          plan = ap (λ (x : Parts). record { design = x; terms = terms }) h.design_is;
        };
      },
    )
