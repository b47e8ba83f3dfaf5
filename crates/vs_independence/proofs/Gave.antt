-- What the write of a constant makes of a signal of one bit.
use Rattle.std.proofs.Common.{◌≡◌, ℕ, zero, suc, ◌+◌, ◌==◌, ◌||◌, ◌⊎◌, if◌then◌else◌, ℤ, pos, negsuc, ◌+ℤ◌, neg_ℤ, true, false, Option, Some, None, option_map, List, [], ◌∷◌, slice_get, refl, sym, ◌∙◌, ap, subst, inl, inr}
use Rattle.std.proofs.lemmas.Bool.{cases_Bool, false≢true}
use Rattle.std.proofs.lemmas.Option.{none-some, same_Some}
use Rattle.std.specs.List.{list_any}
use Rattle.std.specs.Prelude.{slice_index_or}
use Rattle.vs_design.specs.vs_logic4.specs.declared.digit.Digit.{Digit}
use Rattle.vs_design.specs.vs_logic4.specs.Parts.{digit_at, selected}
use Rattle.vs_design.specs.declared.expression.Typed.{Typed}
use Rattle.vs_design.specs.declared.statement.Aim.{Aim}
use Rattle.vs_design.specs.declared.statement.Aim.TheVariants.{Fixed, Chosen}
use Rattle.vs_design.specs.declared.statement.Statement.{Statement}
use Rattle.vs_design.specs.declared.statement.Statement.TheOpen.{Statement-F}
use Rattle.vs_design.specs.declared.statement.Statement.TheViews.{out-Statement}
use Rattle.vs_design.specs.declared.statement.Target.{Target}
use Rattle.vs_design.specs.Stores.{Store, put, is_changed}
use Rattle.vs_design.specs.declared.range.BitRange.{BitRange}
use Rattle.vs_design.specs.Uses.{aim_range, is_of, reads}
use Rattle.vs_design.specs.WellFormed.{aim_width}
use Rattle.vs_design.specs.Writes.{Write, names}
use Rattle.vs_independence.specs.vs_process.specs.vs_eval.specs.Laws.{digit_of}
use Rattle.vs_independence.specs.vs_process.specs.vs_eval.specs.Targets.{part_at, parts_from}
use Rattle.vs_independence.specs.vs_process.specs.vs_eval.specs.Values.{target_value}
use Rattle.vs_process.specs.Nexts.{erased}
use Rattle.vs_process.specs.Places.{perform, turns, Todo}
use Rattle.vs_process.specs.Steps.{assignment, step, statement_step}
use Rattle.vs_independence.specs.vs_process.proofs.Digits.{laid, laid_part, laid_there, digit-put, unnamed_keeps}
use Rattle.vs_independence.specs.vs_process.proofs.Values.{target_value_unchanged}
use Rattle.vs_rules.specs.Paths.{Bit}
use Rattle.vs_rules.specs.Constants.{any_aims, bit_of, digit_there, given_by, is_nothing, place_gives, places_give, GivesDigit, Gives, statement_assigns}

-- what some parts name their places name
names_parts : (from : ℕ) (aims : List Aim) (digits : List Digit) (store : Store) (time v : ℕ) → names (parts_from from aims digits store time) v ≡ any_aims v aims
names_parts from [] digits store time v = refl
names_parts from (Fixed s ∷ aims) digits store time v = ap (λ x. (s.signal == v) || x) (names_parts (from + aim_width (Fixed s)) aims digits store time v)
names_parts from (Chosen s word low ∷ aims) digits store time v = ap (λ x. (s.signal == v) || x) (names_parts (from + aim_width (Chosen s word low)) aims digits store time v)

index_some : (ds : List Digit) (n : ℕ) (y digit : Digit) → slice_get ds n ≡ Some digit → slice_index_or ds n y ≡ digit
index_some [] n y digit is = absurd (none-some digit is)
index_some (x ∷ ds) zero y digit is = same_Some x digit is
index_some (x ∷ ds) (suc n) y digit is = index_some ds n y digit is

digit_found : (z : ℤ) (ds : List Digit) (y digit : Digit) → digit_there z ds ≡ Some digit → digit_at z ds y ≡ digit
digit_found (pos n) ds y digit h = index_some ds n y digit h
digit_found (negsuc n) ds y digit h = absurd (none-some digit h)

-- a part makes of the bit what its place gives
place_laid : (a : Aim) (ds : List Digit) (store : Store) (time : ℕ) (b : Bit) (digit y : Digit) → is_of b.signal (aim_range a) ≡ true → place_gives a ds b ≡ Some digit →
    laid_part (part_at a ds store time) b.signal b.word b.place y ≡ digit
place_laid (Chosen s word low) ds store time b digit y own h = absurd (none-some digit h)
place_laid (Fixed s) ds store time b digit y own h = elim (cases_Bool (s.word == b.word)) [
  | inl at ↦
      laid_there (part_at (Fixed s) ds store time) b.signal b.word b.place y (rw (own, at) refl)
      ∙ digit_found (neg_ℤ s.low +ℤ pos b.place) ds y digit (subst (λ c. (if c then digit_there (neg_ℤ s.low +ℤ pos b.place) ds else None) ≡ Some digit) at h)
  | inr off ↦ absurd (none-some digit (subst (λ c. (if c then digit_there (neg_ℤ s.low +ℤ pos b.place) ds else None) ≡ Some digit) off h))
]

-- so do the parts of a target
places_laid : (from : ℕ) (aims : List Aim) (digits : List Digit) (store : Store) (time : ℕ) (b : Bit) (digit y : Digit) → places_give from aims digits b ≡ Some digit →
    laid (parts_from from aims digits store time) b.signal b.word b.place y ≡ digit
places_laid from [] digits store time b digit y h = absurd (none-some digit h)
places_laid from (a ∷ aims) digits store time b digit y h = by_name (cases_Bool (is_of b.signal (aim_range a))) (places_laid (from + aim_width a) aims digits store time b digit part)
  where
    ds : List Digit
    ds = selected (pos from) (aim_width a) digits

    one : Option Digit
    one = if any_aims b.signal aims then None else place_gives a ds b

    others : Option Digit
    others = places_give (from + aim_width a) aims digits b

    part : Digit
    part = laid_part (part_at a ds store time) b.signal b.word b.place y

    rest : Write
    rest = parts_from (from + aim_width a) aims digits store time

    alone : is_of b.signal (aim_range a) ≡ true → one ≡ Some digit → ((any_aims b.signal aims ≡ true) ⊎ (any_aims b.signal aims ≡ false)) → laid rest b.signal b.word b.place part ≡ digit
    alone own is (inl again) = absurd (none-some digit (subst (λ c. (if c then None else place_gives a ds b) ≡ Some digit) again is))
    alone own is (inr none) =
        unnamed_keeps rest b.signal b.word b.place (names_parts (from + aim_width a) aims digits store time b.signal ∙ none) part
        ∙ place_laid a ds store time b digit y own (subst (λ c. (if c then None else place_gives a ds b) ≡ Some digit) none is)

    by_name : ((is_of b.signal (aim_range a) ≡ true) ⊎ (is_of b.signal (aim_range a) ≡ false)) → (others ≡ Some digit → laid rest b.signal b.word b.place part ≡ digit) →
        laid rest b.signal b.word b.place part ≡ digit
    by_name (inl own) later = alone own (subst (λ c. (if c then one else others) ≡ Some digit) own h) (cases_Bool (any_aims b.signal aims))
    by_name (inr other) later = later (subst (λ c. (if c then one else others) ≡ Some digit) other h)

-- and they name it
places_named : (from : ℕ) (aims : List Aim) (digits : List Digit) (b : Bit) (digit : Digit) → places_give from aims digits b ≡ Some digit → any_aims b.signal aims ≡ true
places_named from [] digits b digit h = absurd (none-some digit h)
places_named from (a ∷ aims) digits b digit h = elim (cases_Bool (is_of b.signal (aim_range a))) [
  | inl own ↦ ap (λ c. c || any_aims b.signal aims) own
  | inr other ↦
      ap (λ c. c || any_aims b.signal aims) other
      ∙ places_named (from + aim_width a) aims digits b digit
      (subst (λ c. (if c then (if any_aims b.signal aims then None else place_gives a (selected (pos from) (aim_width a) digits) b) else places_give (from + aim_width a) aims digits b) ≡ Some digit) other h)
]

nothing_read : (rs : List BitRange) (store : Store) → is_nothing rs ≡ true → list_any (is_changed store []) rs ≡ false
nothing_read [] store h = refl
nothing_read (r ∷ rs) store h = absurd (false≢true h)

-- the digits of a constant go to the places of its target, whatever the store
constant_gives : (target : Target) (value : Typed) (store : Store) (time : ℕ) (b : Bit) (digit : Digit) → GivesDigit target value b digit →
    places_give 0 target.parts.items (target_value target value store time) b ≡ Some digit
constant_gives target value store time b digit g = elim (cases_Bool (is_nothing (reads value))) [
  | inl none ↦
      ap (λ ds. places_give 0 target.parts.items ds b) (target_value_unchanged store [] time 0 target value (nothing_read (reads value) store none))
      ∙ subst (λ c. (if c then places_give 0 target.parts.items (target_value target value [] 0) b else None) ≡ Some digit) none g
  | inr some ↦ absurd (none-some digit (subst (λ c. (if c then places_give 0 target.parts.items (target_value target value [] 0) b else None) ≡ Some digit) some g))
]

-- the write of a constant gives a bit its digit, whatever the store
pub assignment_gives : (target : Target) (value : Typed) (store : Store) (time : ℕ) (b : Bit) (digit y : Digit) → GivesDigit target value b digit →
    laid (assignment target value store time) b.signal b.word b.place y ≡ digit
assignment_gives target value store time b digit y g =
    places_laid 0 target.parts.items (target_value target value store time) store time b digit y (constant_gives target value store time b digit g)

-- what gives a bit a constant names its signal
pub gives_names : (target : Target) (value : Typed) (b : Bit) (digit : Digit) (store : Store) (time : ℕ) → GivesDigit target value b digit → names (assignment target value store time) b.signal ≡ true
gives_names target value b digit store time g =
    names_parts 0 target.parts.items (target_value target value store time) store time b.signal
    ∙ places_named 0 target.parts.items (target_value target value store time) b digit (constant_gives target value store time b digit g)

statement_gives : (s : Statement) (f : Statement-F Statement) (rest : Todo) (store : Store) (time v : ℕ) (w : Write) (digit y : Digit) → given_by (statement_assigns f) (bit_of v) ≡ Some digit →
    (statement_step s f rest store time).write ≡ Some w → laid w v 0 0 y ≡ digit
statement_gives s (Statement-F.Null n) rest store time v w digit y g h = absurd (none-some digit g)
statement_gives s (Statement-F.Assign n t e) rest store time v w digit y g h =
    ap (λ x. laid x v 0 0 y) (sym (same_Some (assignment t e store time) w h)) ∙ assignment_gives t e store time (bit_of v) digit y g
statement_gives s (Statement-F.Later n ticks t e) rest store time v w digit y g h = absurd (none-some w h)
statement_gives s (Statement-F.Call n c) rest store time v w digit y g h = absurd (none-some digit g)
statement_gives s (Statement-F.Finish n) rest store time v w digit y g h = absurd (none-some digit g)
statement_gives s (Statement-F.Block all) rest store time v w digit y g h = absurd (none-some digit g)
statement_gives s (Statement-F.Delay n ticks body) rest store time v w digit y g h = absurd (none-some digit g)
statement_gives s (Statement-F.Event n terms body) rest store time v w digit y g h = absurd (none-some digit g)
statement_gives s (Statement-F.If n e p q) rest store time v w digit y g h = absurd (none-some digit g)
statement_gives s (Statement-F.Case n kind x items) rest store time v w digit y g h = absurd (none-some digit g)
statement_gives s (Statement-F.While n e body) rest store time v w digit y g h = absurd (none-some digit g)
statement_gives s (Statement-F.Repeat n signed e body) rest store time v w digit y g h = absurd (none-some digit g)
statement_gives s (Statement-F.Forever n body) rest store time v w digit y g h = absurd (none-some digit g)

-- a step at a point that gives a signal's bit a constant gives it that digit
pub step_gives : (k : Todo) (store : Store) (time v : ℕ) (w : Write) (digit y : Digit) → Gives (erased k) (bit_of v) digit → (step k store time).write ≡ Some w → digit_of store v 0 0 ≡ Some y →
    digit_of (put store w) v 0 0 ≡ Some digit
step_gives k store time v w digit y g h is = digit-put store w v 0 0 ∙ ap (option_map (laid w v 0 0)) is ∙ ap (λ x. Some x) (by_todo k g h)
  where
    by_todo : (k : Todo) → Gives (erased k) (bit_of v) digit → (step k store time).write ≡ Some w → laid w v 0 0 y ≡ digit
    by_todo [] g h = absurd (none-some w h)
    by_todo (perform s ∷ rest) g h = statement_gives s (out-Statement s) rest store time v w digit y g h
    by_todo (turns n s ∷ rest) g h = absurd (none-some w h)

-- a digit stays where there was one
pub still_digit : (store : Store) (w : Write) (v : ℕ) (y : Digit) → digit_of store v 0 0 ≡ Some y → (z : Digit) × (digit_of (put store w) v 0 0 ≡ Some z)
still_digit store w v y is = (laid w v 0 0 y, digit-put store w v 0 0 ∙ ap (option_map (laid w v 0 0)) is)
