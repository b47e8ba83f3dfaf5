-- Threads are where the rules say, fired ones too.
use Rattle.std.proofs.Common.{◌≡◌, ℕ, zero, suc, ◌%◌, ◌<◌, ◌⊎◌, Bool, true, false, Option, Some, None, List, [], ◌∷◌, refl, sym, ◌∙◌, ap, subst, inl, inr, arith}
use Rattle.std.specs.List.{Contains}
use Rattle.std.proofs.lemmas.Bool.{false≢true}
use Rattle.vs_design.specs.declared.range.BitRange.{BitRange}
use Rattle.vs_design.specs.declared.statement.EventTerm.{EventTerm}
use Rattle.vs_design.specs.Parts.{Parts}
use Rattle.vs_process.specs.declared.gait.Gait.TheVariants.{Woken}
use Rattle.vs_process.specs.Nexts.{erased}
use Rattle.vs_process.specs.Places.{perform, turns, Todo, Place, going, sleeping, inactive, waiting, ended}
use Rattle.vs_process.specs.Steps.{Next, wait}
use Rattle.vs_independence.specs.vs_process.specs.Executions.{is_level}
use Rattle.vs_independence.specs.vs_process.specs.States.{State, start, triggered}
use Rattle.vs_independence.specs.vs_process.proofs.ProcessLists.{none_at}
use Rattle.vs_rules.specs.vs_process.specs.Threads.{Thread, turn, iterate, writes, any_names, place_reads, place_shows, todo_shows, Fired, found, opening, is_timed, Fires as Wakes, MayOpen, IsThread}
use Rattle.vs_rules.specs.vs_process.proofs.ThreadLists.{place_of}
use Rattle.vs_rules.specs.vs_process.proofs.Threads.{is_stopped}
use Rattle.vs_rules.proofs.Points.{erased_reads}
use Rattle.vs_rules.specs.Claims.{Claims, blocks_of, WaitsForEdges, IsSequential, is_wide}
use Rattle.vs_rules.specs.Verdict.{Keeping}
use Rattle.vs_rules.specs.Paths.{PathBy, is_zero_time, IsHot, HasTerm}
use Rattle.vs_rules.specs.Points.{nexts_by}
use Rattle.vs_rules.specs.Rules.{Reads}
use Rattle.vs_rules.specs.Slots.{Fires}
use Rattle.vs_design.specs.vs_logic4.proofs.Basics.{none_in}
use Rattle.vs_independence.specs.RuleLaws.{ClockTurns}
use Rattle.vs_independence.proofs.Beginning.{edge_ends}
use Rattle.vs_independence.proofs.RulesFire.{Begun, Walking, role, closed, stands_found, stopped_iterate}
use Rattle.vs_independence.proofs.Early.{LedFrom, found_waits}
use Rattle.vs_independence.proofs.Firing.{none_fires, fires_at}
use Rattle.vs_independence.proofs.Walks.{point_on, late_behind, after_slot, at_later, Here, Heard, HotAt, IsAtPlace, Walked, walked_iterate, stands_active}

-- ---- what waits

pub ended_waits : (terms : List EventTerm) (k : Todo) → ended ≡ waiting terms k → ⊥
ended_waits terms k e = cc e

pub waiting_timed : (p : Place) (terms : List EventTerm) (k : Todo) → p ≡ waiting terms k → is_timed p ≡ true → ⊥
waiting_timed p terms k e h = false≢true (subst (λ (q : Place). is_timed q ≡ true) e h)

-- a term that a process waits for is one of its text
pub heard_term : (d : Parts) (i : ℕ) (terms : List EventTerm) (k : Todo) (t : EventTerm) → Heard d i terms k → Contains terms t → HasTerm d i t
heard_term d i terms k t h is = record { control = h.control; number = h.number; terms = terms; behind = k; point = h.point; goes = h.way; is = is }

-- a process with an event control is of kind edge or mixed, and its terms are edge terms
pub hears_edges : (d : Parts) (c : Claims) → Keeping d c → (i : ℕ) (t : EventTerm) → IsSequential d c i → HasTerm d i t → WaitsForEdges d c i
hears_edges d c r i t (inl edge) h = inl edge
hears_edges d c r i t (inr (inl delay)) h = absurd ((r.residues i).no_event h.control h.behind h.number h.terms delay h.point h.goes)
hears_edges d c r i t (inr (inr mix)) h = inr mix

pub hears_level : (d : Parts) (c : Claims) → Keeping d c → (i : ℕ) (t : EventTerm) → IsSequential d c i → HasTerm d i t → is_level t ≡ false
hears_level d c r i t seq h =
    let there = place_of h.terms t h.is in
    none_at is_level h.terms there.0 t there.1 ((r.edges i).events h.control h.behind h.number h.terms (hears_edges d c r i t seq h) h.point h.goes)

pub zero_or : (n : ℕ) → (n ≡ 0) ⊎ (0 < n)
zero_or zero = inl refl
zero_or (suc n) = inr (omega arith)

-- ---- threads

-- what fired a thread
pub record Opened (d : Parts) (c : Claims) (b : State) (i : ℕ) (f : Fired) : Type 0 where
  pub edge : WaitsForEdges d c i
  pub up : 0 < b.time
  pub term : EventTerm
  pub has : HasTerm d i term
  pub of : term.range.signal ≡ f.signal
  pub fires : Fires d c term (b.time % c.modulus)

pub opened : (d : Parts) (c : Claims) (b : State) → Begun d c b → ClockTurns d c b → (i : ℕ) (f : Fired) → IsSequential d c i → (t : EventTerm) → HasTerm d i t →
    Wakes d (blocks_of d c) b t f → (b ≡ start d → ⊥) → Opened d c b i f
opened d c b g clocks i f seq t has w late = at_time (zero_or b.time)
  where
    level : is_level t ≡ false
    level = hears_level d c g.rules i t seq has

    at_time : (b.time ≡ 0) ⊎ (0 < b.time) → Opened d c b i f
    at_time (inl z) = absurd (none_fires d c b g i t f has level w (λ first. absurd (late first)) z)
    at_time (inr up) = record { edge = hears_edges d c g.rules i t seq has; up = up; term = t; has = has; of = w.term; fires = fires_at d c b g clocks i t f has level w up }

triggered_stands : (d : Parts) (c : Claims) (b : State) → Begun d c b → ClockTurns d c b → (i : ℕ) (f : Fired) → IsSequential d c i → (p : Place) (terms : List EventTerm) (k : Todo) (t : EventTerm) → p ≡ waiting terms k →
    IsAtPlace d c i b.time p → Contains terms t → Wakes d (blocks_of d c) b t f → (b ≡ start d → ⊥) → IsAtPlace d c i b.time (triggered p)
triggered_stands d c b g clocks i f seq p terms k t e stands is w late =
    subst (λ (q : Place). IsAtPlace d c i b.time (triggered q)) (sym e)
    (stands_active d c i b.time Woken k (record {
      point = point_on d i heard.control next heard.point heard.way;
      at = at_later o.up (late_behind d i heard.control next heard.point heard.way refl)
          (after_slot d c i heard.control next (b.time % c.modulus) heard.point heard.way
          (edge_ends d c i o.edge next (b.time % c.modulus) (t, is, fires_at d c b g clocks i t f has (hears_level d c g.rules i t seq has) w o.up)));
    }))
  where
    heard : Heard d i terms (erased k)
    heard = subst (IsAtPlace d c i b.time) e stands

    next : Next
    next = wait heard.number terms (erased k)

    has : HasTerm d i t
    has = heard_term d i terms (erased k) t heard is

    o : Opened d c b i f
    o = opened d c b g clocks i f seq t has w late

-- a thread walks, or has nothing to do
pub thread_walks : (d : Parts) (c : Claims) (b : State) → Begun d c b → ClockTurns d c b → (i : ℕ) (th : Thread) → IsThread d (blocks_of d c) b i th → Walking d c i b.time th ⊎ (th ≡ opening (blocks_of d c) b i None) × (found (blocks_of d c) b i ≡ ended)
thread_walks d c b g clocks i th is = by_role (role d c b g i)
  where
    blocks : ℕ → Bool
    blocks = blocks_of d c

    by_input : IsSequential d c i → (input : Option Fired) → MayOpen d blocks b i input → iterate is.count (turn b.time i) (opening blocks b i input) ≡ th → Walked d c i b.time th
    by_input seq None may e = subst (Walked d c i b.time) e (walked_iterate d c i (closed d c b g i seq) b.time is.count (opening blocks b i None) refl refl (stands_found d c b g i seq))
    by_input seq (Some f) may e =
        subst (Walked d c i b.time) e
        (walked_iterate d c i (closed d c b g i seq) b.time is.count (opening blocks b i (Some f)) refl refl
        (triggered_stands d c b g clocks i f seq (found blocks b i) may.terms may.todo may.term may.at (stands_found d c b g i seq) may.is may.fires
        (λ first. found_waits d blocks b first i may.terms may.todo may.at)))

    by_ended : found blocks b i ≡ ended → (input : Option Fired) → MayOpen d blocks b i input → iterate is.count (turn b.time i) (opening blocks b i input) ≡ th → th ≡ opening blocks b i None
    by_ended h None may e = sym e ∙ stopped_iterate b.time i is.count (opening blocks b i None) (ap is_stopped h)
    by_ended h (Some f) may e = absurd (ended_waits may.terms may.todo (sym h ∙ may.at))

    by_role : IsSequential d c i ⊎ (found blocks b i ≡ ended) → Walking d c i b.time th ⊎ (th ≡ opening blocks b i None) × (found blocks b i ≡ ended)
    by_role (inl seq) = inl (record { sequential = seq; walked = by_input seq is.input is.may is.is })
    by_role (inr h) = inr (by_ended h is.input is.may is.is, h)

-- a thread that writes, updates, reads or waits walks
pub writes_walks : (d : Parts) (c : Claims) (b : State) → Begun d c b → ClockTurns d c b → (i v : ℕ) (th : Thread) → IsThread d (blocks_of d c) b i th → writes th v ≡ true → Walking d c i b.time th
writes_walks d c b g clocks i v th is w = elim (thread_walks d c b g clocks i th is) [
  | inl walking ↦ walking
  | inr idle ↦ absurd (false≢true (subst (λ t. writes t v ≡ true) idle.0 w))
]

pub makes_walks : (d : Parts) (c : Claims) (b : State) → Begun d c b → ClockTurns d c b → (i v : ℕ) (th : Thread) → IsThread d (blocks_of d c) b i th → any_names th.made v ≡ true → Walking d c i b.time th
makes_walks d c b g clocks i v th is w = elim (thread_walks d c b g clocks i th is) [
  | inl walking ↦ walking
  | inr idle ↦ absurd (false≢true (subst (λ (t : Thread). any_names t.made v ≡ true) idle.0 w))
]

-- what counts as read at a place: where the certificate says so, what is shown there too
abbrev pub Looks : Claims → Place → BitRange → Type 0
Looks c p r = Contains (place_reads p) r ⊎ ((c.displays ≡ true) × Contains (place_shows p) r)

-- nothing at a place where no step is taken
pub no_looks : (c : Claims) (r : BitRange) → Looks c ended r → ⊥
no_looks c r (inl reads) = none_in r reads
no_looks c r (inr shows) = none_in r shows.1

pub reads_walks : (d : Parts) (c : Claims) (b : State) → Begun d c b → ClockTurns d c b → (i : ℕ) (r : BitRange) (th : Thread) → IsThread d (blocks_of d c) b i th → Looks c th.place r → Walking d c i b.time th
reads_walks d c b g clocks i r th is looks = elim (thread_walks d c b g clocks i th is) [
  | inl walking ↦ walking
  | inr idle ↦ absurd (no_looks c r (subst (λ (p : Place). Looks c p r) (ap (λ (t : Thread). t.place) idle.0 ∙ idle.1) looks))
]

-- it shows the same in a text
erased_shows : (k : Todo) → todo_shows (erased k) ≡ todo_shows k
erased_shows [] = refl
erased_shows (perform s ∷ rest) = refl
erased_shows (turns n s ∷ rest) = refl

-- a place that reads is one where the process can be
pub record Reading (d : Parts) (c : Claims) (i time : ℕ) (r : BitRange) (p : Place) : Type 0 where
  pub k : Todo
  pub here : Here d c i time k
  pub reads : Reads d c k r
  pub hot : (u : ℕ) → HotAt d c i u p → IsHot d (is_wide c) i u k
  pub led : (from : Todo) → LedFrom from p → PathBy (nexts_by true) is_zero_time from k

pub reading : (d : Parts) (c : Claims) (i time : ℕ) (r : BitRange) (p : Place) → IsAtPlace d c i time p → Looks c p r → Reading d c i time r p
reading d c i time r (going gait k) h (inl reads) = record {
  k = erased k;
  here = h;
  reads = inl (subst (λ rs. Contains rs r) (sym (erased_reads k)) reads, tt);
  hot = λ u hot. hot;
  led = λ from led. led;
}
reading d c i time r (going gait k) h (inr (displays, shows)) = record {
  k = erased k;
  here = h;
  reads = inr (displays, (subst (λ rs. Contains rs r) (sym (erased_shows k)) shows, tt));
  hot = λ u hot. hot;
  led = λ from led. led;
}
reading d c i time r (sleeping due k) h looks = absurd (no_looks c r looks)
reading d c i time r (inactive k) h looks = absurd (no_looks c r looks)
reading d c i time r (waiting terms k) h looks = absurd (no_looks c r looks)
reading d c i time r ended h looks = absurd (no_looks c r looks)
