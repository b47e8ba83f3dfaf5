-- A process that no event fires in a slot above time 0 has stopped, or goes on behind a delay control that has just ended.
use Rattle.std.proofs.Common.{◌≡◌, ℕ, ◌+◌, ◌%◌, ◌⊎◌, true, List, Option, None, get_or, refl, sym, ◌∙◌, ap, subst, inl, inr, arith}
use Rattle.std.proofs.lemmas.Bool.{eqb-true, false≢true}
use Rattle.vs_design.specs.declared.statement.EventTerm.{EventTerm}
use Rattle.vs_design.specs.Parts.{Parts}
use Rattle.vs_process.specs.Landings.{todo_after}
use Rattle.vs_process.specs.Nexts.{erased}
use Rattle.vs_process.specs.Places.{Todo, Place, going, sleeping, inactive, waiting, ended}
use Rattle.vs_process.specs.Steps.{Next, on, after, wait}
use Rattle.vs_independence.specs.vs_process.specs.States.{State, start}
use Rattle.vs_rules.specs.vs_process.specs.Threads.{Thread, opening, turn, iterate}
use Rattle.vs_rules.specs.vs_process.proofs.Threads.{is_stopped}
use Rattle.vs_rules.specs.Points.{Among, Goes, nexts_by}
use Rattle.vs_rules.proofs.Points.{by_goes, mod_sum}
use Rattle.vs_rules.specs.Claims.{Claims, Kind, blocks_of, HasMixedLists, IsMixed, WaitsForEdges, IsSequential, is_wide}
use Rattle.vs_rules.specs.Paths.{PathBy, begins, goes, is_zero_time}
use Rattle.vs_rules.specs.Rules.{K8}
use Rattle.vs_rules.specs.Slots.{Ends, DelayEnds, EdgeEnds, RunsByDelays}
use Rattle.vs_rules.specs.Verdict.{Keeping}
use Rattle.vs_independence.proofs.Beginning.{Resumes, runs_point}
use Rattle.vs_independence.proofs.Early.{LedFrom, led_iterate}
use Rattle.vs_independence.proofs.RulesFire.{Begun, seq_found, stopped_iterate}
use Rattle.vs_independence.proofs.Walks.{Delayed, from_wide}

-- a zero-time path leads from behind such a control to a place
pub record Resumed (d : Parts) (c : Claims) (i time : ℕ) (p : Place) : Type 0 where
  pub behind : Todo
  pub delayed : Delayed d c i time behind
  pub led : LedFrom behind p

-- a thread that no event fires is there, or where the slot found it, stopped
pub resumed : (d : Parts) (c : Claims) (b : State) → Begun d c b → (i n : ℕ) → IsSequential d c i → (b ≡ start d → ⊥) → (th : Thread) → iterate n (turn b.time i) (opening (blocks_of d c) b i None) ≡ th →
    Resumed d c i b.time th.place ⊎ (th ≡ opening (blocks_of d c) b i None) × (is_stopped th.place ≡ true)
resumed d c b g i n seq late th is = by_place (get_or b.places i ended) refl (g.begin.resumes i seq late)
  where
    first : Thread
    first = opening (blocks_of d c) b i None

    stays : (p : Place) → get_or b.places i ended ≡ p → is_stopped p ≡ true → (th ≡ first) × (is_stopped th.place ≡ true)
    stays p at still =
        let here : is_stopped first.place ≡ true = ap is_stopped (seq_found d c b i seq ∙ at) ∙ still in
        let same : th ≡ first = sym is ∙ stopped_iterate b.time i n first here in
        (same, ap (λ (t : Thread). is_stopped t.place) same ∙ here)

    by_place : (p : Place) → get_or b.places i ended ≡ p → Resumes d c i b.time p → Resumed d c i b.time th.place ⊎ (th ≡ first) × (is_stopped th.place ≡ true)
    by_place (going gait k) at h = inl (record {
      behind = erased k;
      delayed = h;
      led = subst (λ (t : Thread). LedFrom (erased k) t.place) is (led_iterate (erased k) i b.time n first (subst (LedFrom (erased k)) (sym (seq_found d c b i seq ∙ at)) begins));
    })
    by_place (inactive k) at h = absurd h
    by_place (sleeping due k) at h = inr (stays (sleeping due k) at refl)
    by_place (waiting terms k) at h = inr (stays (waiting terms k) at refl)
    by_place ended at h = inr (stays ended at refl)

-- where such a process has event controls, it is mixed
pub resumed_mixed : (d : Parts) (c : Claims) → Keeping d c → (i time : ℕ) (p : Place) → WaitsForEdges d c i → Resumed d c i time p → IsMixed d c i
resumed_mixed d c r i time p (inl edge) h = absurd ((r.edges i).no_delay h.delayed.control h.behind h.delayed.number h.delayed.ticks edge h.delayed.point h.delayed.way)
resumed_mixed d c r i time p (inr mix) h = mix

-- and the list of the control has the residue
listed : (d : Parts) (c : Claims) (i time : ℕ) (lists : List (List ℕ)) (k : Todo) → HasMixedLists d c i lists → (h : Delayed d c i time k) → DelayEnds d i lists (after h.number h.ticks k) (time % c.modulus)
listed d c i time lists k e h = elim (subst (λ (kind : Option Kind). Ends d c i kind (after h.number h.ticks k) (time % c.modulus)) e h.ends) [
  | inl delay ↦ delay
  | inr none ↦ absurd none
]

-- a zero-time path leads from a run slot of delay controls to points with that run slot
led_runs : (d : Parts) (c : Claims) (i time : ℕ) (lists : List (List ℕ)) → HasMixedLists d c i lists → K8 d c i → (from k : Todo) → RunsByDelays d (is_wide c) i lists from (time % c.modulus) → PathBy (nexts_by (is_wide c)) is_zero_time from k → RunsByDelays d (is_wide c) i lists k (time % c.modulus)
led_runs d c i time lists e r from k h begins = h
led_runs d c i time lists e r from k h (goes j l next path g may behind) = subst (λ (t : Todo). RunsByDelays d (is_wide c) i lists t (time % c.modulus)) behind (by_next (led_runs d c i time lists e r from j h path) next g may)
  where
    by_next : RunsByDelays d (is_wide c) i lists j (time % c.modulus) → (next : Next) → Among next (nexts_by (is_wide c) j) → is_zero_time next ≡ true → RunsByDelays d (is_wide c) i lists (todo_after next) (time % c.modulus)
    by_next before (on l) g may = record { at = before.at; next = before.next; point = before.point; goes = before.goes; starts = before.starts; path = goes j l (on l) before.path g refl refl }
    by_next before (after number ticks l) g may =
        let none : ticks ≡ 0 = eqb-true ticks 0 may in
        let same : time + ticks ≡ time = omega (arith, none) in
        let way : Goes j (after number ticks l) = by_goes (is_wide c) j (after number ticks l) g in
        record {
          at = j;
          next = after number ticks l;
          point = runs_point d (is_wide c) i (DelayEnds d i lists) j (time % c.modulus) before;
          goes = way;
          starts = subst (DelayEnds d i lists (after number ticks l)) (mod_sum time ticks c.modulus ∙ ap (λ n. n % c.modulus) same) (r.from_residue lists j l number ticks (time % c.modulus) (inr e) before way);
          path = begins;
        }
    by_next before (wait number terms l) g may = absurd (false≢true may)

-- so where such a process is, it runs by delay controls
pub resumed_runs : (d : Parts) (c : Claims) → Keeping d c → (i time : ℕ) (lists : List (List ℕ)) (p : Place) (k : Todo) → HasMixedLists d c i lists → (h : Resumed d c i time p) → PathBy (nexts_by true) is_zero_time h.behind k → RunsByDelays d (is_wide c) i lists k (time % c.modulus)
resumed_runs d c r i time lists p k e h path =
    let x = h.delayed in
    led_runs d c i time lists e (r.residues i) h.behind k
    (record { at = x.control; next = after x.number x.ticks h.behind; point = x.point; goes = x.way; starts = listed d c i time lists h.behind e x; path = begins })
    (from_wide (is_wide c) is_zero_time h.behind k path)

-- and it comes to no event control that can end there
pub resumed_waits : (d : Parts) (c : Claims) → Keeping d c → (i time : ℕ) (terms : List EventTerm) (k : Todo) → IsMixed d c i → (h : Resumed d c i time (waiting terms k)) →
    EdgeEnds d c (wait h.led.number terms h.led.behind) (time % c.modulus) → ⊥
resumed_waits d c r i time terms k mix h ends =
    let x = h.delayed in
    (r.edges i).arrives mix.0 (after x.number x.ticks h.behind) (wait h.led.number terms h.led.behind) (time % c.modulus) mix.1
    (record {
      from = x.control;
      number = x.number;
      ticks = x.ticks;
      behind = h.behind;
      delay_is = refl;
      point = x.point;
      goes = x.way;
      above = x.above;
      to = h.led.control;
      path = h.led.path;
      waits = h.led.way;
    })
    (listed d c i time mix.0 h.behind mix.1 x) ends
