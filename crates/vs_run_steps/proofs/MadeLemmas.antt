-- Evaluations and updates that are made one after another.
use Rattle.std.proofs.Common.{◌≡◌, ℕ, zero, suc, ◌≤◌, ◌+◌, Bool, true, false, Option, None, List, ◌∷◌, refl, sym, ◌∙◌, ap, subst, arith}
use Rattle.std.specs.Io.KnownBytes.{Appends}
use Rattle.vs_design.specs.Parts.{Parts}
use Rattle.vs_design.specs.Traces.{Line}
use Rattle.vs_run_active.specs.vs_process.specs.declared.moves.Move.{Move}
use Rattle.vs_run_active.specs.vs_process.specs.Executions.{apply, is_enabled, move_lines}
use Rattle.vs_run_active.specs.vs_process.specs.States.{State}
use Rattle.vs_vcd_writing.specs.Progress.{Progress}
use Rattle.vs_run_steps.specs.Points.{point}
use Rattle.vs_run_steps.specs.Prints.{lines_text}
use Rattle.vs_run_steps.specs.Turns.{AllTurned, AreMade, EventTurned, IsReached, Turned, is_silent}
use Rattle.vs_run_steps.proofs.Appending.{append_none}
use Rattle.vs_run_steps.proofs.MoveLemmas.{silent_inner, silent_inside, silent_lines, silent_stands}
use Rattle.vs_run_steps.proofs.TurnsLemmas.{one_turned}

-- ---- lists of moves

-- one
pub made_one : (s t : State) (m : Move) → is_silent m ≡ true → is_enabled s m ≡ true → t ≡ apply m s → AreMade 1 s t
made_one s t m silent enabled made = (s, m, refl, silent, enabled, made)

-- one more
pub made_more : (n : ℕ) (s t u : State) (m : Move) → AreMade n s t → is_silent m ≡ true → is_enabled t m ≡ true → u ≡ apply m t → AreMade (n + 1) s u
made_more n s t u m all silent enabled made =
    let more : suc n ≡ n + 1 = omega arith in
    let last : AreMade (suc n) s u = (t, m, all, silent, enabled, made) in
    subst (λ (k : ℕ). AreMade k s u) more last

-- some, and others after them
pub made_then : (n m : ℕ) (s t u : State) → AreMade n s t → AreMade m t u → AreMade (n + m) s u
made_then n zero s t u first more =
    let none : n ≡ n + 0 = omega arith in
    subst (λ (k : ℕ). AreMade k s u) none (subst (AreMade n s) (sym more) first)
made_then n (suc m) s t u first more =
    let all : AreMade (suc (n + m)) s u = (more.0, more.1, made_then n m s t more.0 first more.2, more.3, more.4, more.5) in
    let count : suc (n + m) ≡ n + suc m = omega arith in
    subst (λ (k : ℕ). AreMade k s u) count all

-- ---- what they leave

-- the end and the time
pub made_stands : (n : ℕ) (s t : State) → AreMade n s t → (t.over ≡ s.over) × (t.time ≡ s.time)
made_stands zero s t h = (ap (λ (r : State). r.over) h, ap (λ (r : State). r.time) h)
made_stands (suc n) s t h =
    let before = made_stands n s h.0 h.2 in
    let last = silent_stands h.0 h.1 h.3 in
    (ap (λ (r : State). r.over) h.5 ∙ last.0 ∙ before.0, ap (λ (r : State). r.time) h.5 ∙ last.1 ∙ before.1)

-- a state that is reached
pub made_reached : (d : Parts) (n : ℕ) (s t : State) → IsReached d s → AreMade n s t → IsReached d t
made_reached d zero s t h all = subst (IsReached d) (sym all) h
made_reached d (suc n) s t h all =
    let before : IsReached d all.0 = made_reached d n s all.0 h all.2 in
    (all.1 ∷ before.0, ap (apply all.1) before.1 ∙ sym all.5)

-- ---- they are turns

-- one, where no block has left its control
silent_turned : (blocks : List Bool) (s t : State) (writer : Option Progress) (vcd lines : Option (List ℕ)) (m : Move) → is_silent m ≡ true → is_enabled s m ≡ true → t ≡ apply m s →
    Turned blocks (point None s writer vcd lines) (point None t writer vcd lines)
silent_turned blocks s t writer vcd lines m silent enabled made =
    let printed : Appends lines lines (lines_text (move_lines m s)) = subst (λ (l : List Line). Appends lines lines (lines_text l)) (sym (silent_lines s m silent)) (append_none lines) in
    subst (λ (o : Option ℕ). Turned blocks (point None s writer vcd lines) (point o t writer vcd lines)) (silent_inside blocks t.places m silent)
    (one_turned blocks None s t writer vcd lines lines m (silent_inner m silent) enabled refl made printed)

pub made_turned : (blocks : List Bool) (n : ℕ) (s t : State) (writer : Option Progress) (vcd lines : Option (List ℕ)) → s.over ≡ false → AreMade n s t →
    AllTurned n blocks (point None s writer vcd lines) (point None t writer vcd lines)
made_turned blocks zero s t writer vcd lines going h = ap (λ (r : State). point None r writer vcd lines) h
made_turned blocks (suc n) s t writer vcd lines going h =
    let before = made_stands n s h.0 h.2 in (
      point None h.0 writer vcd lines,
      made_turned blocks n s h.0 writer vcd lines going h.2,
      before.0 ∙ going,
      before.1,
      silent_turned blocks h.0 t writer vcd lines h.1 h.3 h.4 h.5,
    )

-- those of an event
pub event_made : (blocks : List Bool) (limit n : ℕ) (s t : State) (lines : Option (List ℕ)) → s.over ≡ false → n ≤ limit → AreMade n s t → EventTurned limit n blocks s t lines lines
event_made blocks limit n s t lines going within h =
    let stands = made_stands n s t h in
    record {
      within = within;
      going = stands.0 ∙ going;
      time = stands.1;
      now = None;
      closed = λ fewer. refl;
      turned = λ writer vcd. made_turned blocks n s t writer vcd lines going h;
    }
