-- Which bits there are, and which a step is sure to write.
use Rattle.std.proofs.Common.{◌≡◌, ℕ, zero, suc, ◌+◌, ◌<◌, ◌==◌, ◌&&◌, pos, true, Some, None, List, [], ◌∷◌, length, refl, sym, ◌∙◌, ap, subst, inl, inr, arith}
use Rattle.std.proofs.lemmas.Bool.{and_parts, or_cases, false≢true}
use Rattle.std.proofs.lemmas.Option.{none-some, same_Some}
use Rattle.std.specs.List.{list_any}
use Rattle.vs_design.specs.vs_logic4.specs.declared.digit.Digit.{Digit}
use Rattle.vs_design.specs.vs_logic4.specs.Lengths.{length-selected}
use Rattle.vs_design.specs.vs_logic4.specs.Parts.{selected}
use Rattle.vs_design.specs.declared.statement.Aim.{Aim}
use Rattle.vs_design.specs.declared.statement.Aim.TheVariants.{Fixed, Chosen}
use Rattle.vs_design.specs.declared.statement.Statement.{Statement}
use Rattle.vs_design.specs.declared.statement.Statement.TheOpen.{Statement-F}
use Rattle.vs_design.specs.declared.statement.Statement.TheViews.{out-Statement}
use Rattle.vs_design.specs.Stores.{Store}
use Rattle.vs_design.specs.Uses.{bits_from, has_bit}
use Rattle.vs_design.specs.WellFormed.{aim_width}
use Rattle.vs_design.specs.Writes.{Write}
use Rattle.vs_independence.specs.vs_process.specs.vs_eval.specs.Targets.{part_at, parts_from}
use Rattle.vs_independence.specs.vs_process.specs.vs_eval.specs.Values.{target_value}
use Rattle.vs_process.specs.Nexts.{erased}
use Rattle.vs_process.specs.Places.{perform, turns, Todo}
use Rattle.vs_process.specs.Steps.{assignment, step, statement_step}
use Rattle.vs_process.proofs.Ranges.{in_part}
use Rattle.vs_independence.specs.vs_process.proofs.Digits.{laid, laid_part, laid_there, Fixes}
use Rattle.vs_rules.specs.Blocks.{is_sure, statement_surely, todo_surely}
use Rattle.vs_rules.specs.Paths.{Bit}

-- ---- what a step is sure to write

index_in : (ds : List Digit) (n : ℕ) → n < length ds → (d e : Digit) → Rattle.std.specs.Prelude.slice_index_or ds n d ≡ Rattle.std.specs.Prelude.slice_index_or ds n e
index_in [] n h d e = absurd (omega (arith, h))
index_in (x ∷ ds) zero h d e = refl
index_in (x ∷ ds) (suc n) h d e = index_in ds n (omega (arith, h)) d e

sure_part : (b : Bit) (a : Aim) (digits : List Digit) (store : Store) (time : ℕ) → is_sure b a ≡ true → length digits ≡ aim_width a → (d e : Digit) →
    laid_part (part_at a digits store time) b.signal b.word b.place d ≡ laid_part (part_at a digits store time) b.signal b.word b.place e
sure_part b (Chosen s word low) digits store time h long d e = absurd (false≢true h)
sure_part b (Fixed s) digits store time h long d e =
    let parts = and_parts (s.signal == b.signal && s.word == b.word) (has_bit (Some (bits_from s.low s.width)) b.place) h in
    let p = part_at (Fixed s) digits store time in
    laid_there p b.signal b.word b.place d parts.0 ∙ in_part s.low s.width b.place digits long parts.1 d e ∙ sym (laid_there p b.signal b.word b.place e parts.0)

sure_parts : (b : Bit) (place : ℕ) (aims : List Aim) (digits : List Digit) (store : Store) (time : ℕ) → list_any (is_sure b) aims ≡ true → Fixes (parts_from place aims digits store time) b.signal b.word b.place
sure_parts b place [] digits store time h d e = absurd (false≢true h)
sure_parts b place (a ∷ aims) digits store time h d e =
    let ds = selected (pos place) (aim_width a) digits in
    elim (or_cases (is_sure b a) (list_any (is_sure b) aims) h) [
      | inl own ↦
          ap (laid (parts_from (place + aim_width a) aims digits store time) b.signal b.word b.place) (sure_part b a ds store time own (length-selected (pos place) (aim_width a) digits) d e)
      | inr rest ↦
          sure_parts b (place + aim_width a) aims digits store time rest (laid_part (part_at a ds store time) b.signal b.word b.place d) (laid_part (part_at a ds store time) b.signal b.word b.place e)
    ]

statement_sure : (b : Bit) (s : Statement) (f : Statement-F Statement) (rest : Todo) (store : Store) (time : ℕ) (w : Write) → statement_surely b f ≡ true → (statement_step s f rest store time).write ≡ Some w →
    Fixes w b.signal b.word b.place
statement_sure b s (Statement-F.Assign n t e) rest store time w h is =
    subst (λ (x : Write). Fixes x b.signal b.word b.place) (same_Some (assignment t e store time) w is) (sure_parts b 0 t.parts.items (target_value t e store time) store time h)
statement_sure b s (Statement-F.Null n) rest store time w h is = absurd (false≢true h)
statement_sure b s (Statement-F.Later n ticks t e) rest store time w h is = absurd (false≢true h)
statement_sure b s (Statement-F.Call n c) rest store time w h is = absurd (false≢true h)
statement_sure b s (Statement-F.Finish n) rest store time w h is = absurd (false≢true h)
statement_sure b s (Statement-F.Block all) rest store time w h is = absurd (false≢true h)
statement_sure b s (Statement-F.Delay n ticks body) rest store time w h is = absurd (false≢true h)
statement_sure b s (Statement-F.Event n terms body) rest store time w h is = absurd (false≢true h)
statement_sure b s (Statement-F.If n e x y) rest store time w h is = absurd (false≢true h)
statement_sure b s (Statement-F.Case n kind x items) rest store time w h is = absurd (false≢true h)
statement_sure b s (Statement-F.While n e body) rest store time w h is = absurd (false≢true h)
statement_sure b s (Statement-F.Repeat n signed e body) rest store time w h is = absurd (false≢true h)
statement_sure b s (Statement-F.Forever n body) rest store time w h is = absurd (false≢true h)

-- a step at a point that is sure to write a bit fixes it
pub step_sure : (b : Bit) (k : Todo) (store : Store) (time : ℕ) (w : Write) → todo_surely b (erased k) ≡ true → (step k store time).write ≡ Some w → Fixes w b.signal b.word b.place
step_sure b [] store time w h is = absurd (false≢true h)
step_sure b (perform s ∷ rest) store time w h is = statement_sure b s (out-Statement s) rest store time w h is
step_sure b (turns n s ∷ rest) store time w h is = absurd (false≢true h)

-- and writes
statement_writes_sure : (b : Bit) (s : Statement) (f : Statement-F Statement) (rest : Todo) (store : Store) (time : ℕ) → statement_surely b f ≡ true → (statement_step s f rest store time).write ≡ None → ⊥
statement_writes_sure b s (Statement-F.Assign n t e) rest store time h is = none-some (assignment t e store time) (sym is)
statement_writes_sure b s (Statement-F.Null n) rest store time h is = false≢true h
statement_writes_sure b s (Statement-F.Later n ticks t e) rest store time h is = false≢true h
statement_writes_sure b s (Statement-F.Call n c) rest store time h is = false≢true h
statement_writes_sure b s (Statement-F.Finish n) rest store time h is = false≢true h
statement_writes_sure b s (Statement-F.Block all) rest store time h is = false≢true h
statement_writes_sure b s (Statement-F.Delay n ticks body) rest store time h is = false≢true h
statement_writes_sure b s (Statement-F.Event n terms body) rest store time h is = false≢true h
statement_writes_sure b s (Statement-F.If n e x y) rest store time h is = false≢true h
statement_writes_sure b s (Statement-F.Case n kind x items) rest store time h is = false≢true h
statement_writes_sure b s (Statement-F.While n e body) rest store time h is = false≢true h
statement_writes_sure b s (Statement-F.Repeat n signed e body) rest store time h is = false≢true h
statement_writes_sure b s (Statement-F.Forever n body) rest store time h is = false≢true h

pub sure_writes : (b : Bit) (k : Todo) (store : Store) (time : ℕ) → todo_surely b (erased k) ≡ true → (step k store time).write ≡ None → ⊥
sure_writes b [] store time h is = false≢true h
sure_writes b (perform s ∷ rest) store time h is = statement_writes_sure b s (out-Statement s) rest store time h is
sure_writes b (turns n s ∷ rest) store time h is = false≢true h
