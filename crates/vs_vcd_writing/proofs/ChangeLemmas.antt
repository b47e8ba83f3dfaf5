-- What the lines of a dump say.
use Rattle.std.proofs.Common.{◌≡◌, ℕ, zero, suc, ◌^◌, ◌<◌, ◌≤◌, Bool, true, false, Option, Some, None, List, [], ◌∷◌, ◌++◌, map, reverse, refl, sym, ap, ◌∙◌, append_assoc, arith, inl, inr}
use Rattle.std.proofs.lemmas.Bool.{cases_lt, cond-true, cond-false, le-leb, lt-leb, and_left, and_right, and_from, false_from_ne_true, cond_both}
use Rattle.std.proofs.lemmas.Slice.Eq.{bytes_eq-Decides}
use Rattle.std.proofs.lemmas.Fmt.{decimal_is_IsNumeral}
use Rattle.std.specs.Prelude.{◌+◌, ◌==◌, ◌&&◌, nat_le, slice_get, codes, unwrap_or, if◌then◌else◌}
use Rattle.std.specs.Option.{option_or}
use Rattle.std.specs.Str.{bytes_eq}
use Rattle.vs_design.specs.vs_logic4.specs.declared.digit.Digit.{Digit}
use Rattle.vs_design.specs.vs_logic4.specs.declared.digit.Digit.TheVariants.{Zero, One, X, Z}
use Rattle.vs_design.specs.vs_logic4.specs.Sameness.{same_digits-true}
use Rattle.vs_design.specs.Stores.{Store}
use Rattle.vs_design.specs.Traces.{Slot, AreRisingAfter, AreRising}
use Rattle.vs_vcd_writing.specs.Codes.{code}
use Rattle.vs_vcd_writing.specs.Values.{digit_character, shortened, value_change, shown_value}
use Rattle.vs_vcd_writing.specs.Text.{time_line, coded_lines, change_line, value_line, value_lines, is_same, changed_line, change_lines, first_lines, timed, lines_after, slots_lines, end_lines}
use Rattle.vs_vcd_writing.specs.Shown.{Time, Value, digits_part, code_part, meaning, Change, changes_by, time_by, changes_from, is_change, last_change, slot_at}
use Rattle.vs_vcd_writing.proofs.CodeLemmas.{code-injective}

-- ---- options

option_or-none : {A : Type 0} (o : Option A) → option_or o None ≡ o
option_or-none None = refl
option_or-none (Some x) = refl

option_or-assoc : {A : Type 0} (o p q : Option A) → option_or (option_or o p) q ≡ option_or o (option_or p q)
option_or-assoc None p q = refl
option_or-assoc (Some x) p q = refl

unwrap_or-option_or : {A : Type 0} (o : Option A) (x y : A) → unwrap_or (option_or o (Some x)) y ≡ unwrap_or o x
unwrap_or-option_or None x y = refl
unwrap_or-option_or (Some z) x y = refl

pub option_or-some : {A : Type 0} (o : Option A) (x : A) → option_or o (Some x) ≡ Some (unwrap_or o x)
option_or-some None x = refl
option_or-some (Some z) x = refl

-- ---- one line

meaning_time : (t : ℕ) → t < 2 ^ 64 → meaning (time_line t) ≡ Time t
meaning_time t h = ap Time (decimal_is_IsNumeral t h).1

digits_part_read : (ds : List Digit) (cs : List ℕ) → digits_part ((map digit_character ds ++ 32 ∷ []) ++ cs) ≡ ds
digits_part_read [] cs = refl
digits_part_read (Zero ∷ ds) cs = ap (λ l. Zero ∷ l) (digits_part_read ds cs)
digits_part_read (One ∷ ds) cs = ap (λ l. One ∷ l) (digits_part_read ds cs)
digits_part_read (X ∷ ds) cs = ap (λ l. X ∷ l) (digits_part_read ds cs)
digits_part_read (Z ∷ ds) cs = ap (λ l. Z ∷ l) (digits_part_read ds cs)

code_part_read : (ds : List Digit) (cs : List ℕ) → code_part ((map digit_character ds ++ 32 ∷ []) ++ cs) ≡ cs
code_part_read [] cs = refl
code_part_read (Zero ∷ ds) cs = code_part_read ds cs
code_part_read (One ∷ ds) cs = code_part_read ds cs
code_part_read (X ∷ ds) cs = code_part_read ds cs
code_part_read (Z ∷ ds) cs = code_part_read ds cs

meaning_vector : (ds : List Digit) (cs : List ℕ) → meaning (codes "b" ++ map digit_character ds ++ codes " " ++ cs) ≡ Value ds cs
meaning_vector ds cs =
    ap (λ l. Value l (code_part ((map digit_character ds ++ 32 ∷ []) ++ cs))) (digits_part_read ds cs) ∙ ap (λ l. Value ds l) (code_part_read ds cs)

meaning_bit : (d : Digit) (cs : List ℕ) → meaning (digit_character d ∷ cs) ≡ Value (d ∷ []) cs
meaning_bit Zero cs = refl
meaning_bit One cs = refl
meaning_bit X cs = refl
meaning_bit Z cs = refl

meaning_value : (v : List Digit) (cs : List ℕ) → meaning (value_change v cs) ≡ Value (shortened (reverse v)) cs
meaning_value [] cs = meaning_vector (shortened (reverse [])) cs
meaning_value (d ∷ []) cs = meaning_bit d cs
meaning_value (d ∷ e ∷ ds) cs = meaning_vector (shortened (reverse (d ∷ e ∷ ds))) cs

-- what is written of a signal's value in a store
abbrev pub written : Store → ℕ → List Digit
written store n = shortened (reverse (shown_value store n))

meaning_change : (store : Store) (n s : ℕ) → meaning (change_line store n s) ≡ Value (written store s) (code n)
meaning_change store n s = meaning_value (shown_value store s) (code n)

-- ---- lines one after another

-- the time after lines
abbrev time_through : ℕ → List (List ℕ) → ℕ
time_through time [] = time
time_through time (l ∷ ls) = time_through (time_by time (meaning l)) ls

time_through-append : (time : ℕ) (xs ys : List (List ℕ)) → time_through time (xs ++ ys) ≡ time_through (time_through time xs) ys
time_through-append time [] ys = refl
time_through-append time (x ∷ xs) ys = time_through-append (time_by time (meaning x)) xs ys

changes_from-append : (time : ℕ) (xs ys : List (List ℕ)) → changes_from time (xs ++ ys) ≡ changes_from time xs ++ changes_from (time_through time xs) ys
changes_from-append time [] ys = refl
changes_from-append time (x ∷ xs) ys =
    ap (λ l. changes_by time (meaning x) ++ l) (changes_from-append (time_by time (meaning x)) xs ys)
    ∙ sym (append_assoc (changes_by time (meaning x)) (changes_from (time_by time (meaning x)) xs) (changes_from (time_through (time_by time (meaning x)) xs) ys))

last_change-append : (t : ℕ) (c : List ℕ) (xs ys : List Change) → last_change t c (xs ++ ys) ≡ option_or (last_change t c ys) (last_change t c xs)
last_change-append t c [] ys = sym (option_or-none (last_change t c ys))
last_change-append t c (x ∷ xs) ys =
    ap (λ o. option_or o (if is_change t c x then Some x.digits else None)) (last_change-append t c xs ys)
    ∙ option_or-assoc (last_change t c ys) (last_change t c xs) (if is_change t c x then Some x.digits else None)

-- what lines after a time tell of the code of a number at a moment
abbrev pub last_of_code : ℕ → ℕ → ℕ → List (List ℕ) → Option (List Digit)
last_of_code t n now ls = last_change t (code n) (changes_from now ls)

told-append : (t n now : ℕ) (xs ys : List (List ℕ)) → last_of_code t n now (xs ++ ys) ≡ option_or (last_of_code t n (time_through now xs) ys) (last_of_code t n now xs)
told-append t n now xs ys =
    ap (last_change t (code n)) (changes_from-append now xs ys) ∙ last_change-append t (code n) (changes_from now xs) (changes_from (time_through now xs) ys)

told-append_at : (t n now : ℕ) (xs ys : List (List ℕ)) → time_through now xs ≡ now → last_of_code t n now (xs ++ ys) ≡ option_or (last_of_code t n now ys) (last_of_code t n now xs)
told-append_at t n now xs ys h = told-append t n now xs ys ∙ ap (λ w. option_or (last_of_code t n w ys) (last_of_code t n now xs)) h

-- ---- changes

told_one : (t n now : ℕ) (store : Store) (m s : ℕ)
    → last_of_code t n now (change_line store m s ∷ []) ≡ (if nat_le now t && bytes_eq (code m) (code n) then Some (written store s) else None)
told_one t n now store m s = ap (λ w. last_change t (code n) (changes_by now w ++ [])) (meaning_change store m s)

told_same : (t n now : ℕ) (store : Store) (s : ℕ) → now ≤ t → last_of_code t n now (change_line store n s ∷ []) ≡ Some (written store s)
told_same t n now store s h =
    told_one t n now store n s
    ∙ cond-true (nat_le now t && bytes_eq (code n) (code n)) (Some (written store s)) None
    (and_from (nat_le now t) (bytes_eq (code n) (code n)) (le-leb now t h) ((bytes_eq-Decides (code n) (code n)).1 refl))

told_other : (t n now : ℕ) (store : Store) (m s : ℕ) → (n ≡ m → ⊥) → last_of_code t n now (change_line store m s ∷ []) ≡ None
told_other t n now store m s ne =
    told_one t n now store m s
    ∙ cond-false (nat_le now t && bytes_eq (code m) (code n)) (Some (written store s)) None
    (and_right (nat_le now t) (bytes_eq (code m) (code n))
    (false_from_ne_true (bytes_eq (code m) (code n)) (λ e. ne (sym (code-injective m n ((bytes_eq-Decides (code m) (code n)).0 e))))))

told_late : (t n now : ℕ) (store : Store) (m s : ℕ) → t < now → last_of_code t n now (change_line store m s ∷ []) ≡ None
told_late t n now store m s h =
    told_one t n now store m s
    ∙ cond-false (nat_le now t && bytes_eq (code m) (code n)) (Some (written store s)) None (and_left (nat_le now t) (bytes_eq (code m) (code n)) (lt-leb now t h))

through_change : (now : ℕ) (store : Store) (m s : ℕ) → time_through now (change_line store m s ∷ []) ≡ now
through_change now store m s = ap (time_by now) (meaning_change store m s)

-- ---- the lines of signals

-- the lines of a signal are all of one time
abbrev KeepsTime : (ℕ → ℕ → List (List ℕ)) → Type 0
KeepsTime lines = (now m s : ℕ) → time_through now (lines m s) ≡ now

through_coded : (lines : ℕ → ℕ → List (List ℕ)) → KeepsTime lines → (now m : ℕ) (ss : List ℕ) → time_through now (coded_lines lines m ss) ≡ now
through_coded lines keeps now m [] = refl
through_coded lines keeps now m (s ∷ ss) =
    time_through-append now (lines m s) (coded_lines lines (suc m) ss)
    ∙ ap (λ w. time_through w (coded_lines lines (suc m) ss)) (keeps now m s) ∙ through_coded lines keeps now (suc m) ss

told_first_of : (lines : ℕ → ℕ → List (List ℕ)) → KeepsTime lines → (t n now m s : ℕ) (ss : List ℕ)
    → last_of_code t n now (coded_lines lines m (s ∷ ss)) ≡ option_or (last_of_code t n now (coded_lines lines (suc m) ss)) (last_of_code t n now (lines m s))
told_first_of lines keeps t n now m s ss = told-append_at t n now (lines m s) (coded_lines lines (suc m) ss) (keeps now m s)

told_none : (lines : ℕ → ℕ → List (List ℕ)) → KeepsTime lines → (t n now m : ℕ) (ss : List ℕ)
    → ((j s : ℕ) → m ≤ j → last_of_code t n now (lines j s) ≡ None) → last_of_code t n now (coded_lines lines m ss) ≡ None
told_none lines keeps t n now m [] none = refl
told_none lines keeps t n now m (s ∷ ss) none =
    told_first_of lines keeps t n now m s ss
    ∙ ap (λ o. option_or o (last_of_code t n now (lines m s))) (told_none lines keeps t n now (suc m) ss (λ j x h. none j x (omega (arith, h))))
    ∙ none m s (omega arith)

-- of a code only the lines of its signal tell
told_at : (lines : ℕ → ℕ → List (List ℕ)) → KeepsTime lines → (t n now m i : ℕ) (ss : List ℕ) (signal : ℕ) → n ≡ m + i → slice_get ss i ≡ Some signal
    → ((j s : ℕ) → (n ≡ j → ⊥) → last_of_code t n now (lines j s) ≡ None) → last_of_code t n now (coded_lines lines m ss) ≡ last_of_code t n now (lines n signal)
told_at lines keeps t n now m i [] signal e h others = cc
told_at lines keeps t n now m zero (s ∷ ss) signal e h others =
    let at : m ≡ n = omega (arith, e) in
    let same : s ≡ signal = cc in
    told_first_of lines keeps t n now m s ss
    ∙ ap (λ o. option_or o (last_of_code t n now (lines m s))) (told_none lines keeps t n now (suc m) ss (λ j x k. others j x (λ q. omega (arith, e, k, q))))
    ∙ ap (λ j. last_of_code t n now (lines j s)) at ∙ ap (λ x. last_of_code t n now (lines n x)) same
told_at lines keeps t n now m (suc i) (s ∷ ss) signal e h others =
    told_first_of lines keeps t n now m s ss
    ∙ ap (λ o. option_or o (last_of_code t n now (lines m s))) (told_at lines keeps t n now (suc m) i ss signal (omega (arith, e)) h others)
    ∙ ap (λ o. option_or (last_of_code t n now (lines n signal)) o) (others m s (λ q. omega (arith, e, q)))
    ∙ option_or-none (last_of_code t n now (lines n signal))

-- ---- the values of all signals

through_values : (now : ℕ) (store : Store) (ss : List ℕ) → time_through now (value_lines store ss) ≡ now
through_values now store ss = through_coded (value_line store) (λ w m s. through_change w store m s) now 0 ss

told_values : (t n now : ℕ) (store : Store) (ss : List ℕ) (signal : ℕ) → now ≤ t → slice_get ss n ≡ Some signal → last_of_code t n now (value_lines store ss) ≡ Some (written store signal)
told_values t n now store ss signal h k =
    told_at (value_line store) (λ w m s. through_change w store m s) t n now 0 n ss signal (omega arith) k (λ j s ne. told_other t n now store j s ne)
    ∙ told_same t n now store signal h

-- ---- the values that changed

through_changed : (now : ℕ) (after : Store) (m s : ℕ) (x : Bool) → time_through now (if x then [] else change_line after m s ∷ []) ≡ now
through_changed now after m s true = refl
through_changed now after m s false = through_change now after m s

changed_keeps : (before after : Store) → KeepsTime (changed_line before after)
changed_keeps before after now m s = through_changed now after m s (is_same before after s)

through_changes : (now : ℕ) (before after : Store) (ss : List ℕ) → time_through now (change_lines before after ss) ≡ now
through_changes now before after ss = through_coded (changed_line before after) (changed_keeps before after) now 0 ss

told_maybe : (t n now : ℕ) (after : Store) (m s : ℕ) (o : Option (List Digit)) (x : Bool) → last_of_code t n now (change_line after m s ∷ []) ≡ o
    → last_of_code t n now (if x then [] else change_line after m s ∷ []) ≡ (if x then None else o)
told_maybe t n now after m s o true h = refl
told_maybe t n now after m s o false h = h

told_nothing : (t n now : ℕ) (after : Store) (m s : ℕ) (x : Bool) → last_of_code t n now (change_line after m s ∷ []) ≡ None → last_of_code t n now (if x then [] else change_line after m s ∷ []) ≡ None
told_nothing t n now after m s true h = refl
told_nothing t n now after m s false h = h

told_changes_late : (t n now : ℕ) (before after : Store) (ss : List ℕ) → t < now → last_of_code t n now (change_lines before after ss) ≡ None
told_changes_late t n now before after ss h =
    told_none (changed_line before after) (changed_keeps before after) t n now 0 ss
    (λ j s k. told_nothing t n now after j s (is_same before after s) (told_late t n now after j s h))

told_changes : (t n now : ℕ) (before after : Store) (ss : List ℕ) (signal : ℕ) → now ≤ t → slice_get ss n ≡ Some signal
    → last_of_code t n now (change_lines before after ss) ≡ (if is_same before after signal then None else Some (written after signal))
told_changes t n now before after ss signal h k =
    told_at (changed_line before after) (changed_keeps before after) t n now 0 n ss signal (omega arith) k
    (λ j s ne. told_nothing t n now after j s (is_same before after s) (told_other t n now after j s ne))
    ∙ told_maybe t n now after n signal (Some (written after signal)) (is_same before after signal) (told_same t n now after signal h)

-- after changes from one store to another, the value shown is that of the second
changed_to : (before after : Store) (n : ℕ) (x : Bool) → is_same before after n ≡ x → option_or (if x then None else Some (written after n)) (Some (written before n)) ≡ Some (written after n)
changed_to before after n true h = ap (λ v. Some (shortened (reverse v))) (same_digits-true (shown_value before n) (shown_value after n) h)
changed_to before after n false h = refl

-- ---- slots

-- lines under their time: what they tell, and then the rest
told_timed : (t n now time : ℕ) (cs rest : List (List ℕ)) → time < 2 ^ 64 → time_through time cs ≡ time
    → (later : ℕ) × (last_of_code t n now (timed time cs ++ rest) ≡ option_or (last_of_code t n later rest) (last_of_code t n time cs))
told_timed t n now time [] rest h k = (now, sym (option_or-none (last_of_code t n now rest)))
told_timed t n now time (l ∷ ls) rest h k =
    (time, ap (λ w. last_change t (code n) (changes_by now w ++ changes_from (time_by now w) ((l ∷ ls) ++ rest))) (meaning_time time h) ∙ told-append_at t n time (l ∷ ls) rest k)

late_slots : (t n : ℕ) (signals : List ℕ) (now time : ℕ) (before : Store) (ss : List Slot) → t < time → AreRisingAfter time ss → last_of_code t n now (lines_after signals before ss) ≡ None
late_slots t n signals now time before [] h r = refl
late_slots t n signals now time before (s ∷ ss) h r =
    let cs = change_lines before s.store signals in
    let split = told_timed t n now s.time cs (lines_after signals s.store ss) r.1 (through_changes s.time before s.store signals) in
    split.1
    ∙ ap (λ o. option_or o (last_of_code t n s.time cs)) (late_slots t n signals split.0 s.time s.store ss (omega (arith, r.0)) r.2)
    ∙ told_changes_late t n s.time before s.store signals (omega (arith, r.0))

late_slot_at : (t time : ℕ) (ss : List Slot) → t < time → AreRisingAfter time ss → slot_at t ss ≡ None
late_slot_at t time [] h r = refl
late_slot_at t time (s ∷ ss) h r =
    let above : t < s.time = omega (arith, r.0) in
    ap (λ o. option_or o (if nat_le s.time t then Some s else None)) (late_slot_at t s.time ss above r.2) ∙ cond-false (nat_le s.time t) (Some s) None (lt-leb s.time t above)

-- the slot at a moment where a slot stands before the others
pub slot_at-cons : (t : ℕ) (s : Slot) (ss : List Slot) → s.time ≤ t → slot_at t (s ∷ ss) ≡ Some (unwrap_or (slot_at t ss) s)
slot_at-cons t s ss h = ap (option_or (slot_at t ss)) (cond-true (nat_le s.time t) (Some s) None (le-leb s.time t h)) ∙ option_or-some (slot_at t ss) s

pub slot_at-before : (t : ℕ) (s : Slot) (ss : List Slot) → t < s.time → AreRisingAfter s.time ss → slot_at t (s ∷ ss) ≡ None
slot_at-before t s ss h r =
    ap (λ o. option_or o (if nat_le s.time t then Some s else None)) (late_slot_at t s.time ss h r) ∙ cond-false (nat_le s.time t) (Some s) None (lt-leb s.time t h)

told_slots : (t n : ℕ) (signals : List ℕ) (signal now : ℕ) (b : Slot) (ss : List Slot) → slice_get signals n ≡ Some signal → AreRisingAfter b.time ss
    → option_or (last_of_code t n now (lines_after signals b.store ss)) (Some (written b.store signal)) ≡ Some (written (unwrap_or (slot_at t ss) b).store signal)
told_slots t n signals signal now b [] k r = refl
told_slots t n signals signal now b (s ∷ ss) k r =
    let cs = change_lines b.store s.store signals in
    let rest = lines_after signals s.store ss in
    let split = told_timed t n now s.time cs rest r.1 (through_changes s.time b.store s.store signals) in
    let before = Some (written b.store signal) in
    ap (λ o. option_or o before) split.1
    ∙ elim (cases_lt t s.time) [
      | inl early ↦
          ap (λ o. option_or (option_or o (last_of_code t n s.time cs)) before) (late_slots t n signals split.0 s.time s.store ss early r.2)
          ∙ ap (λ o. option_or o before) (told_changes_late t n s.time b.store s.store signals early)
          ∙ ap (λ o. Some (written (unwrap_or o b).store signal)) (sym (slot_at-before t s ss early r.2))
      | inr there ↦
          option_or-assoc (last_of_code t n split.0 rest) (last_of_code t n s.time cs) before
          ∙ ap (λ o. option_or (last_of_code t n split.0 rest) (option_or o before)) (told_changes t n s.time b.store s.store signals signal there k)
          ∙ ap (option_or (last_of_code t n split.0 rest)) (changed_to b.store s.store signal (is_same b.store s.store signal) refl)
          ∙ told_slots t n signals signal split.0 s ss k r.2
          ∙ ap (λ o. Some (written (unwrap_or o b).store signal)) (sym (slot_at-cons t s ss there))
    ]

-- the first slot's lines: what they tell, and then the rest
told_first : (t n now : ℕ) (signals : List ℕ) (signal : ℕ) (s : Slot) (rest : List (List ℕ)) → s.time < 2 ^ 64 → s.time ≤ t → slice_get signals n ≡ Some signal
    → last_of_code t n now (first_lines signals s.time s.store ++ rest) ≡ option_or (last_of_code t n s.time rest) (Some (written s.store signal))
told_first t n now signals signal s rest h k m =
    let values = value_lines s.store signals in
    let tail = codes "$end" ∷ rest in
    ap (last_of_code t n now) (append_assoc (time_line s.time ∷ codes "$dumpvars" ∷ values) (codes "$end" ∷ []) rest)
    ∙ ap (λ w. last_change t (code n) (changes_by now w ++ changes_from (time_by now w) (codes "$dumpvars" ∷ values ++ tail))) (meaning_time s.time h)
    ∙ told-append_at t n s.time values tail (through_values s.time s.store signals)
    ∙ ap (option_or (last_of_code t n s.time rest)) (told_values t n s.time s.store signals signal k m)

-- lines that tell nothing
abbrev pub IsSilent : List (List ℕ) → Type 0
IsSilent ls = (t n now : ℕ) → last_of_code t n now ls ≡ None

pub silent_end : (o : Option ℕ) (e : ℕ) → IsSilent (end_lines o e ++ [] ∷ [])
silent_end None e t n now = refl
silent_end (Some last) e t n now =
    cond_both (last == e) [] (time_line e ∷ []) (λ ls. last_of_code t n now (ls ++ [] ∷ []) ≡ None) (λ x. refl) (λ x. refl)

pub silent_nothing : IsSilent ([] ∷ [])
silent_nothing t n now = refl

-- what slots and then silent lines tell is what stands in the last slot at or before the moment
pub told_whole : (t n : ℕ) (signals : List ℕ) (signal : ℕ) (s : Slot) (ss : List Slot) (tail : List (List ℕ)) → slice_get signals n ≡ Some signal → AreRising (s ∷ ss) → IsSilent tail → s.time ≤ t
    → last_of_code t n 0 (slots_lines signals (s ∷ ss) ++ tail) ≡ Some (written (unwrap_or (slot_at t ss) s).store signal)
told_whole t n signals signal s ss tail k r quiet there =
    let rest = lines_after signals s.store ss in
    ap (last_of_code t n 0) (append_assoc (first_lines signals s.time s.store) rest tail)
    ∙ told_first t n 0 signals signal s (rest ++ tail) r.0 there k
    ∙ ap (λ o. option_or o (Some (written s.store signal))) (told-append t n s.time rest tail ∙ ap (λ o. option_or o (last_of_code t n s.time rest)) (quiet t n (time_through s.time rest)))
    ∙ told_slots t n signals signal s.time s ss k r.1
