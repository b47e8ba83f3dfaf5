-- The lines that a run prints.
use Rattle.std.proofs.Common.{◌≡◌, ℕ, ◌+◌, Option, Some, None, List, [], ◌∷◌, ◌++◌, map, take, drop, slice_get, refl, sym, ◌∙◌, ap, append_assoc}
use Rattle.std.proofs.lemmas.List.{append-nil, map-append, take-append-drop}
use Rattle.vs_design.specs.Parts.{Parts}
use Rattle.vs_design.specs.Traces.{Line}
use Rattle.vs_run_active.specs.vs_process.specs.declared.moves.Move.{Move}
use Rattle.vs_run_active.specs.vs_process.specs.declared.moves.Move.TheVariants.{Step}
use Rattle.vs_run_active.specs.vs_process.specs.Executions.{after, line_by, lines_of, move_lines, step_lines}
use Rattle.vs_run_active.specs.vs_process.specs.States.{Called, State}
use Rattle.vs_run_active.specs.vs_process.specs.Places.{Place, todo_of}
use Rattle.vs_run_active.specs.vs_process.specs.Steps.{step}
use Rattle.vs_run_active.specs.Taken.{line_at, step_text, text_of_line}
use Rattle.vs_run_steps.specs.Prints.{lines_text}

pub lines_more : (xs ys : List Line) → lines_text (xs ++ ys) ≡ lines_text xs ++ lines_text ys
lines_more [] ys = refl
lines_more (x ∷ xs) ys = ap (λ (l : List ℕ). x.text ++ l) (lines_more xs ys) ∙ sym (append_assoc x.text (lines_text xs) (lines_text ys))

line_made : (i : ℕ) (o : Option (List ℕ)) → lines_text (line_by i o) ≡ text_of_line o
line_made i None = refl
line_made i (Some text) = append-nil text

step_made : (s : State) (i : ℕ) (o : Option Place) → lines_text (step_lines s i o) ≡ text_of_line (line_at s o)
step_made s i None = refl
step_made s i (Some x) = line_made i (step (todo_of x) s.store s.time).line

-- what a step prints are the bytes of its lines
pub step_prints : (s : State) (i : ℕ) → lines_text (move_lines (Step i) s) ≡ step_text s i
step_prints s i = step_made s i (slice_get s.places i)

-- the lines of one more move
pub lines_behind : (d : Parts) (moves : List Move) (m : Move) (now : State) → after d moves ≡ now →
    lines_text (lines_of d moves) ++ lines_text (move_lines m now) ≡ lines_text (lines_of d (m ∷ moves))
lines_behind d moves m now here =
    ap (λ (t : State). lines_text (lines_of d moves) ++ lines_text (move_lines m t)) (sym here) ∙ sym (lines_more (lines_of d moves) (move_lines m (after d moves)))

-- the lines of one more call
pub calls_more : (line : Called → Line) (xs : List Called) (i : ℕ) (x : Called) → take (i + 1) xs ≡ take i xs ++ x ∷ [] →
    lines_text (map line (take i xs)) ++ (line x).text ≡ lines_text (map line (take (i + 1) xs))
calls_more line xs i x h =
    ap (λ (l : List ℕ). lines_text (map line (take i xs)) ++ l) (sym (append-nil (line x).text))
    ∙ sym (ap (λ (l : List Called). lines_text (map line l)) h ∙ ap lines_text (map-append line (take i xs) (x ∷ [])) ∙ lines_more (map line (take i xs)) (line x ∷ []))

-- the lines of the first calls, and of the others
pub calls_front : (line : Called → Line) (xs : List Called) (i : ℕ) →
    lines_text (map line (take i xs)) ++ lines_text (map line (drop i xs)) ≡ lines_text (map line xs)
calls_front line xs i =
    sym (lines_more (map line (take i xs)) (map line (drop i xs))) ∙ ap lines_text (sym (map-append line (take i xs) (drop i xs)))
    ∙ ap (λ (l : List Called). lines_text (map line l)) (take-append-drop i xs)
