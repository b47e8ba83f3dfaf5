-- What `$strobe` prints: the lines of slots, and how often a row stands in their bytes, whatever their order.
use Rattle.std.proofs.Common.{◌≡◌, ℕ, ◌+◌, ◌⊎◌, Bool, true, false, List, [], ◌∷◌, ◌++◌, filter, map, refl, sym, ◌∙◌, ap, ap₂, subst, inl, inr, arith, append-nil, append_assoc}
use Rattle.std.specs.Prelude.{if◌then◌else◌}
use Rattle.std.specs.Str.{bytes_eq}
use Rattle.std.proofs.lemmas.Bool.{cases_Bool, cond-true, cond-false}
use Rattle.std.proofs.lemmas.Slice.Eq.{bytes_eq-Decides}
use Rattle.vs_design.specs.Parts.{Parts}
use Rattle.vs_design.specs.Stores.{Store}
use Rattle.vs_design.specs.Traces.{Line, SameSlots, SameTrace, Slot, times_in}
use Rattle.vs_process.specs.vs_strobe.specs.Lines.{line_text}
use Rattle.vs_process.specs.declared.moves.Move.{Move}
use Rattle.vs_process.specs.declared.moves.Move.TheVariants.{Step, Evaluate, Propagate, Make, Rouse, Activate, EndSlot}
use Rattle.vs_process.specs.States.{Called, State}
use Rattle.vs_process.specs.Executions.{after, ended_slot, is_by, lines_of, move_lines, slots, strobe_line, strobe_lines, trace}
use Rattle.vs_sign_off.specs.Displays.{prints_at_once}
use Rattle.vs_sign_off.specs.Rows.{rows, times}
use Rattle.vs_sign_off.specs.Strobes.{AllLinesAreStrobed, SameTracesPrintRowsAsOften, bytes_of, strobe_text, strobed}
use Rattle.vs_sign_off.proofs.RowLemmas.{rows_cut}
use Rattle.vs_sign_off.proofs.SilentLemmas.{step_silent}

-- ---- the lines of an execution without `$display`

strobed-append : (ss ts : List Slot) → strobed (ss ++ ts) ≡ strobed ss ++ strobed ts
strobed-append [] ts = refl
strobed-append (s ∷ ss) ts = ap (λ l. s.lines ++ l) (strobed-append ss ts) ∙ sym (append_assoc s.lines (strobed ss) (strobed ts))

-- a move that makes no line and ends no slot
quiet : (d : Parts) (moves : List Move) (new : List Line) → new ≡ [] → lines_of d moves ≡ strobed (slots d moves) → lines_of d moves ++ new ≡ strobed (slots d moves ++ [])
quiet d moves new none below =
    ap (λ l. lines_of d moves ++ l) none ∙ append-nil (lines_of d moves) ∙ below ∙ ap strobed (sym (append-nil (slots d moves)))

pub all_lines_are_strobed : AllLinesAreStrobed
all_lines_are_strobed d [] h = refl
all_lines_are_strobed d (Step i ∷ moves) h = quiet d moves _ (step_silent d moves i h) (all_lines_are_strobed d moves h)
all_lines_are_strobed d (Evaluate j ∷ moves) h = quiet d moves [] refl (all_lines_are_strobed d moves h)
all_lines_are_strobed d (Propagate j ∷ moves) h = quiet d moves [] refl (all_lines_are_strobed d moves h)
all_lines_are_strobed d (Make i ∷ moves) h = quiet d moves [] refl (all_lines_are_strobed d moves h)
all_lines_are_strobed d (Rouse ∷ moves) h = quiet d moves [] refl (all_lines_are_strobed d moves h)
all_lines_are_strobed d (Activate ∷ moves) h = quiet d moves [] refl (all_lines_are_strobed d moves h)
all_lines_are_strobed d (EndSlot ∷ moves) h =
    ap₂ (λ (a b : List Line). a ++ b) (all_lines_are_strobed d moves h) (sym (append-nil (strobe_lines (after d moves))))
    ∙ sym (strobed-append (slots d moves) (ended_slot EndSlot (after d moves)))

-- ---- rows of lines

-- how often a row stands in the texts of lines
abbrev bulk : List ℕ → List Line → ℕ
bulk row [] = 0
bulk row (l ∷ ls) = times row (rows l.text) + bulk row ls

bulk-append : (row : List ℕ) (xs ys : List Line) → bulk row (xs ++ ys) ≡ bulk row xs + bulk row ys
bulk-append row [] ys = omega arith
bulk-append row (x ∷ xs) ys = let below = bulk-append row xs ys in omega (arith, below)

-- each line ends with a line feed
abbrev AreEnded : List Line → Type 0
AreEnded [] = Unit {0}
AreEnded (l ∷ ls) = ((text : List ℕ) × (l.text ≡ text ++ 10 ∷ [])) × AreEnded ls

ended-append : (xs ys : List Line) → AreEnded xs → AreEnded ys → AreEnded (xs ++ ys)
ended-append [] ys h k = k
ended-append (x ∷ xs) ys h k = (h.0, ended-append xs ys h.1 k)

bytes_bulk : (row : List ℕ) (ls : List Line) → AreEnded ls → times row (rows (bytes_of ls)) ≡ bulk row ls
bytes_bulk row [] h = refl
bytes_bulk row (l ∷ ls) h =
    ap (λ (t : List ℕ). times row (rows (t ++ bytes_of ls))) h.0.1 ∙ rows_cut row [] h.0.0 (bytes_of ls)
    ∙ ap₂ (λ (a b : ℕ). a + b) (ap (λ (t : List ℕ). times row (rows t)) (sym h.0.1)) (bytes_bulk row ls h.1)

-- ---- lines in another order

once : List ℕ → Line → ℕ
once text l = if bytes_eq l.text text then 1 else 0

times-cons : (text : List ℕ) (l : Line) (ls : List Line) → times_in text (l ∷ ls) ≡ once text l + times_in text ls
unfolding once
times-cons text l ls = by (bytes_eq l.text text)
  where
    by : (t : Bool) → (if t then 1 + times_in text ls else times_in text ls) ≡ (if t then 1 else 0) + times_in text ls
    by true = refl
    by false = omega arith

times-append : (text : List ℕ) (xs ys : List Line) → times_in text (xs ++ ys) ≡ times_in text xs + times_in text ys
times-append text [] ys = omega arith
times-append text (x ∷ xs) ys =
    let whole = times-cons text x (xs ++ ys) in let head = times-cons text x xs in let below = times-append text xs ys in omega (arith, whole, head, below)

-- a line with a text among others: what stands before it, and behind it
record Found (text : List ℕ) (ls : List Line) : Type 0 where
  pub before : List Line
  pub line : Line
  pub behind : List Line
  pub is : ls ≡ before ++ line ∷ behind
  pub same : line.text ≡ text

found : (text : List ℕ) (n : ℕ) (ls : List Line) → times_in text ls ≡ 1 + n → Found text ls
found text n [] h = absurd (omega (arith, h))
found text n (l ∷ ls) h =
    elim (cases_Bool (bytes_eq l.text text)) [
      | inl hit ↦ record { before = []; line = l; behind = ls; is = refl; same = (bytes_eq-Decides l.text text).0 hit }
      | inr miss ↦ let f = found text n ls (sym (cond-false (bytes_eq l.text text) (1 + times_in text ls) (times_in text ls) miss) ∙ h) in
          record { before = l ∷ f.before; line = f.line; behind = f.behind; is = ap (λ (x : List Line). l ∷ x) f.is; same = f.same }
    ]

same_once : (text : List ℕ) (a b : Line) → a.text ≡ b.text → once text a ≡ once text b
unfolding once
same_once text a b e = ap (λ (t : List ℕ). if bytes_eq t text then 1 else 0) e

-- without a line of each with the same text
left : (x : Line) (xs ys : List Line) → ((text : List ℕ) → times_in text (x ∷ xs) ≡ times_in text ys) → (f : Found x.text ys) → (text : List ℕ) →
    times_in text xs ≡ times_in text (f.before ++ f.behind)
left x xs ys h f text =
    let all : times_in text (x ∷ xs) ≡ times_in text (f.before ++ f.line ∷ f.behind) = h text ∙ ap (times_in text) f.is in
    let head = times-cons text x xs in
    let cut = times-append text f.before (f.line ∷ f.behind) in
    let right = times-cons text f.line f.behind in
    let joined = times-append text f.before f.behind in
    let own = same_once text f.line x f.same in
    omega (arith, all, head, cut, right, joined, own)

-- where each text stands as often, each row does
pub same_bulk : (row : List ℕ) (xs ys : List Line) → ((text : List ℕ) → times_in text xs ≡ times_in text ys) → bulk row xs ≡ bulk row ys
same_bulk row [] [] h = refl
same_bulk row [] (y ∷ ys) h =
    let one : times_in y.text (y ∷ ys) ≡ 1 + times_in y.text ys =
    cond-true (bytes_eq y.text y.text) (1 + times_in y.text ys) (times_in y.text ys) ((bytes_eq-Decides y.text y.text).1 refl) in
    let none = h y.text in omega (arith, one, none)
same_bulk row (x ∷ xs) ys h =
    let one : times_in x.text (x ∷ xs) ≡ 1 + times_in x.text xs =
    cond-true (bytes_eq x.text x.text) (1 + times_in x.text xs) (times_in x.text xs) ((bytes_eq-Decides x.text x.text).1 refl) in
    let f : Found x.text ys = found x.text (times_in x.text xs) ys (sym (h x.text) ∙ one) in
    let rest = same_bulk row xs (f.before ++ f.behind) (left x xs ys h f) in
    let cut = bulk-append row f.before (f.line ∷ f.behind) in
    let joined = bulk-append row f.before f.behind in
    let own : times row (rows f.line.text) ≡ times row (rows x.text) = ap (λ (t : List ℕ). times row (rows t)) f.same in
    let e : bulk row (x ∷ xs) ≡ bulk row (f.before ++ f.line ∷ f.behind) = omega (arith, rest, cut, joined, own) in
    e ∙ ap (bulk row) (sym f.is)

-- ---- slots

pub same_strobed : (row : List ℕ) (ss ts : List Slot) → SameSlots ss ts → bulk row (strobed ss) ≡ bulk row (strobed ts)
same_strobed row [] [] h = refl
same_strobed row [] (t ∷ ts) h = absurd h
same_strobed row (s ∷ ss) [] h = absurd h
same_strobed row (s ∷ ss) (t ∷ ts) h =
    bulk-append row s.lines (strobed ss) ∙ ap₂ (λ (a b : ℕ). a + b) (same_bulk row s.lines t.lines h.0.lines) (same_strobed row ss ts h.1)
    ∙ sym (bulk-append row t.lines (strobed ts))

abbrev SlotsEnded : List Slot → Type 0
SlotsEnded [] = Unit {0}
SlotsEnded (s ∷ ss) = AreEnded s.lines × SlotsEnded ss

slots_ended-append : (ss ts : List Slot) → SlotsEnded ss → SlotsEnded ts → SlotsEnded (ss ++ ts)
slots_ended-append [] ts h k = k
slots_ended-append (s ∷ ss) ts h k = (h.0, slots_ended-append ss ts h.1 k)

strobes_ended : (cs : List Called) (store : Store) (time : ℕ) → AreEnded (map (λ c. strobe_line c store time) cs)
strobes_ended [] store time = tt
strobes_ended (c ∷ cs) store time = ((line_text c.call store time, refl), strobes_ended cs store time)

slots_ended : (d : Parts) (moves : List Move) → SlotsEnded (slots d moves)
slots_ended d [] = tt
slots_ended d (Step i ∷ moves) = slots_ended-append (slots d moves) [] (slots_ended d moves) tt
slots_ended d (Evaluate j ∷ moves) = slots_ended-append (slots d moves) [] (slots_ended d moves) tt
slots_ended d (Propagate j ∷ moves) = slots_ended-append (slots d moves) [] (slots_ended d moves) tt
slots_ended d (Make i ∷ moves) = slots_ended-append (slots d moves) [] (slots_ended d moves) tt
slots_ended d (Rouse ∷ moves) = slots_ended-append (slots d moves) [] (slots_ended d moves) tt
slots_ended d (Activate ∷ moves) = slots_ended-append (slots d moves) [] (slots_ended d moves) tt
slots_ended d (EndSlot ∷ moves) =
    let s = after d moves in slots_ended-append (slots d moves) (ended_slot EndSlot s) (slots_ended d moves) (strobes_ended s.calls s.store s.time, tt)

kept_ended : (p : Slot → Bool) (ss : List Slot) → SlotsEnded ss → SlotsEnded (filter p ss)
kept_ended p [] h = tt
kept_ended p (s ∷ ss) h = by (p s) (kept_ended p ss h.1)
  where
    by : (t : Bool) → SlotsEnded (filter p ss) → SlotsEnded (if t then s ∷ filter p ss else filter p ss)
    by true rest = (h.0, rest)
    by false rest = rest

all_ended : (ss : List Slot) → SlotsEnded ss → AreEnded (strobed ss)
all_ended [] h = tt
all_ended (s ∷ ss) h = ended-append s.lines (strobed ss) h.0 (all_ended ss h.1)

text_bulk : (row : List ℕ) (d : Parts) (moves : List Move) (until : ℕ) → times row (rows (strobe_text d moves until)) ≡ bulk row (strobed (trace d moves until).slots)
text_bulk row d moves until =
    bytes_bulk row (strobed (trace d moves until).slots) (all_ended (trace d moves until).slots (kept_ended (is_by until) (slots d moves) (slots_ended d moves)))

pub same_traces_print_rows_as_often : SameTracesPrintRowsAsOften
same_traces_print_rows_as_often d until xs ys same row =
    text_bulk row d xs until ∙ same_strobed row (trace d xs until).slots (trace d ys until).slots same.slots ∙ sym (text_bulk row d ys until)
