-- Lemmas on the tables of readers and of listeners.
use Rattle.std.proofs.Common.{◌≡◌, ◌≢◌, ℕ, zero, suc, ◌+◌, ◌<◌, ◌-◌, ◌==◌, ◌&&◌, ◌||◌, ◌≤◌, Bool, true, false, nat_lt, if◌then◌else◌, List, [], ◌∷◌, ◌++◌, Some, None, length, get_or, drop, slice_get, refl, sym, ◌∙◌, ap, subst, ⊎_elim, arith, append_assoc, eq-eqb}
use Rattle.std.specs.Prelude.{slice_set}
use Rattle.std.specs.declared.vec.Vec.{Vec}
use Rattle.std.specs.declared.alloc.Global.{Global}
use Rattle.std.specs.List.{list_all, list_any, All, AllByRecursion}
use Rattle.std.proofs.lemmas.Bool.{and_parts, ne_eqb, cases_lt}
use Rattle.std.proofs.lemmas.Bool.Decides.{eqb_tells}
use borrow.Author.Tests.{ltb-true}
use Rattle.std.proofs.Math.Numerals.{add-one}
use Rattle.std.proofs.lemmas.List.{get_or_past, at_drop_more, drop_all, map-append, replicate_more}
use Rattle.std.proofs.lemmas.List.Elements.{recursion_from_All}
use Rattle.std.proofs.lemmas.Option.{none-some, same_Some}
use Rattle.vs_design.specs.declared.design.Assign.{Assign}
use Rattle.vs_design.specs.declared.design.Process.{Process}
use Rattle.vs_design.specs.declared.statement.EventTerm.{EventTerm}
use Rattle.vs_design.specs.declared.range.BitRange.{BitRange}
use Rattle.vs_design.specs.declared.signal.Signal.{Signal}
use Rattle.vs_design.specs.declared.readers.Reader.{Reader}
use Rattle.vs_design.specs.Stores.{changed_at}
use Rattle.vs_design.specs.Uses.{reads, is_of}
use Rattle.vs_design.specs.Readers.{readings, readers_from, readers}
use Rattle.vs_design.specs.Listeners.{listeners_from, listeners}
use Rattle.vs_design.specs.Statements.{event_terms, listens}
use Rattle.vs_design.specs.Tables.{rows, noted, all_noted, tabled, empty_rows, AreReaders, ends_with, ending_with, all_heard, heard, AreListeners}
use Rattle.vs_design.specs.WellFormed.{is_within, size_of, is_at_least, is_net_aim, is_sound_target, is_sound_assign, is_sound_statement, is_sound_process, counts_from, numbers, is_body_of}
use Rattle.vs_design.proofs.StatementLemmas.{listens-past}
use Rattle.vs_design.proofs.Stores.{length-changed_at}

append-none : {A : Type 0} (xs : List A) → xs ++ [] ≡ xs
append-none [] = refl
append-none (x ∷ xs) = ap (λ ys. x ∷ ys) (append-none xs)

-- ---- the code's rows

-- a table with one row changed
pub rows-changed : {A : Type 0} (f : List A → List A) (i : ℕ) (table : List (Vec A Global)) (row new : Vec A Global) → slice_get table i ≡ Some row → new.items ≡ f row.items →
    rows (slice_set table i new) ≡ changed_at f i (rows table)
rows-changed f i [] row new h e = absurd (none-some row h)
rows-changed {A = A} f zero (x ∷ xs) row new h e = ap (λ y. y ∷ rows xs) (e ∙ ap (λ (v : Vec A Global). f v.items) (sym (same_Some x row h)))
rows-changed f (suc i) (x ∷ xs) row new h e = ap (λ ys. x.items ∷ ys) (rows-changed f i xs row new h e)

-- no row to change
pub rows-past : {A : Type 0} (f : List A → List A) (i : ℕ) (table : List (Vec A Global)) → slice_get table i ≡ None → rows table ≡ changed_at f i (rows table)
rows-past f i [] h = refl
rows-past f zero (x ∷ xs) h = absurd (none-some x (sym h))
rows-past f (suc i) (x ∷ xs) h = ap (λ ys. x.items ∷ ys) (rows-past f i xs h)

-- an empty row more
pub row-pushed : {A : Type 0} (table more : List (Vec A Global)) (row : Vec A Global) (n : ℕ) → more ≡ table ++ row ∷ [] → row.items ≡ [] → rows table ≡ empty_rows n →
    rows more ≡ empty_rows (n + 1)
row-pushed table more row n made empty so_far =
    ap rows made ∙ map-append (λ row. row.items) table (row ∷ []) ∙ ap (λ ys. ys ++ row.items ∷ []) so_far ∙ ap (λ y. empty_rows n ++ y ∷ []) empty ∙ replicate_more n []

-- ---- the loops over all of them

pub tabled-next : (assigns : List Assign) (i : ℕ) (d : Assign) (table next all : List (List Reader)) → i < length assigns →
    next ≡ all_noted i (reads (get_or assigns i d).source) table → tabled i (drop i assigns) table ≡ all → tabled (i + 1) (drop (i + 1) assigns) next ≡ all
tabled-next assigns i d table next all lt made so_far =
    ap (tabled (i + 1) (drop (i + 1) assigns)) made ∙ ap (λ n. tabled n (drop (i + 1) assigns) (all_noted i (reads (get_or assigns i d).source) table)) (add-one i)
    ∙ sym (at_drop_more (λ bs. tabled i bs table) assigns i d lt) ∙ so_far

pub tabled-all : (assigns : List Assign) (i : ℕ) (table all : List (List Reader)) → length assigns ≤ i → tabled i (drop i assigns) table ≡ all → table ≡ all
tabled-all assigns i table all past so_far = ap (λ bs. tabled i bs table) (sym (drop_all i assigns past)) ∙ so_far

pub heard-next : (processes : List Process) (i : ℕ) (d : Process) (table next all : List (List ℕ)) → i < length processes →
    next ≡ all_heard i (event_terms (get_or processes i d).body) table → heard i (drop i processes) table ≡ all → heard (i + 1) (drop (i + 1) processes) next ≡ all
heard-next processes i d table next all lt made so_far =
    ap (heard (i + 1) (drop (i + 1) processes)) made ∙ ap (λ n. heard n (drop (i + 1) processes) (all_heard i (event_terms (get_or processes i d).body) table)) (add-one i)
    ∙ sym (at_drop_more (λ qs. heard i qs table) processes i d lt) ∙ so_far

pub heard-all : (processes : List Process) (i : ℕ) (table all : List (List ℕ)) → length processes ≤ i → heard i (drop i processes) table ≡ all → table ≡ all
heard-all processes i table all past so_far = ap (λ qs. heard i qs table) (sym (drop_all i processes past)) ∙ so_far

-- ---- what stands in a row

length-all_noted : (number : ℕ) (rs : List BitRange) (table : List (List Reader)) → length (all_noted number rs table) ≡ length table
length-all_noted number [] table = refl
length-all_noted number (r ∷ rs) table =
    length-all_noted number rs (noted (record { assign = number; range = r }) table) ∙ length-changed_at _ r.signal table

length-tabled : (number : ℕ) (assigns : List Assign) (table : List (List Reader)) → length (tabled number assigns table) ≡ length table
length-tabled number [] table = refl
length-tabled number (a ∷ rest) table = length-tabled (suc number) rest (all_noted number (reads a.source) table) ∙ length-all_noted number (reads a.source) table

pub at_changed : {A : Type 0} (f : List A → List A) (i : ℕ) (table : List (List A)) → i < length table → get_or (changed_at f i table) i [] ≡ f (get_or table i [])
at_changed f i [] h = absurd (omega arith)
at_changed f zero (x ∷ xs) h = refl
at_changed f (suc i) (x ∷ xs) h = at_changed f i xs (omega arith)

pub at_other : {A : Type 0} (f : List A → List A) (i j : ℕ) (table : List (List A)) → i ≢ j → get_or (changed_at f i table) j [] ≡ get_or table j []
at_other f i j [] h = refl
at_other f zero zero (x ∷ xs) h = absurd (h refl)
at_other f zero (suc j) (x ∷ xs) h = refl
at_other f (suc i) zero (x ∷ xs) h = refl
at_other f (suc i) (suc j) (x ∷ xs) h = at_other f i j xs (λ e. h (ap suc e))

pub at_all_noted : (number : ℕ) (rs : List BitRange) (table : List (List Reader)) (s : ℕ) → s < length table →
    get_or (all_noted number rs table) s [] ≡ get_or table s [] ++ readings number rs s
at_all_noted number [] table s h = sym (append-none (get_or table s []))
at_all_noted number (r ∷ rs) table s h =
    let reader : Reader = record { assign = number; range = r } in
    let rest = readings number rs s in
    let old = get_or table s [] in
    at_all_noted number rs (noted reader table) s (subst (λ k. s < k) (sym (length-changed_at _ r.signal table)) h)
    ∙ ⊎_elim
    (λ same.
    ap (λ row. row ++ rest) (ap (λ k. get_or (changed_at (λ row. row ++ reader ∷ []) k table) s []) same.1 ∙ at_changed (λ row. row ++ reader ∷ []) s table h)
    ∙ append_assoc old (reader ∷ []) rest
    ∙ ap (λ b. old ++ (if b then reader ∷ rest else rest)) (sym same.0))
    (λ other. ap (λ row. row ++ rest) (at_other (λ row. row ++ reader ∷ []) r.signal s table other.1) ∙ ap (λ b. old ++ (if b then reader ∷ rest else rest)) (sym other.0))
    (eqb_tells r.signal s)

pub at_tabled : (number : ℕ) (assigns : List Assign) (table : List (List Reader)) (s : ℕ) → s < length table →
    get_or (tabled number assigns table) s [] ≡ get_or table s [] ++ readers_from number assigns s
at_tabled number [] table s h = sym (append-none (get_or table s []))
at_tabled number (a ∷ rest) table s h =
    let own = readings number (reads a.source) s in
    at_tabled (suc number) rest (all_noted number (reads a.source) table) s (subst (λ k. s < k) (sym (length-all_noted number (reads a.source) table)) h)
    ∙ ap (λ row. row ++ readers_from (suc number) rest s) (at_all_noted number (reads a.source) table s h)
    ∙ append_assoc (get_or table s []) own (readers_from (suc number) rest s)

-- ---- what the table tells

-- whether a range is of a signal below this number
abbrev is_below : ℕ → BitRange → Bool
is_below n r = nat_lt r.signal n

readings-past : (n number : ℕ) (rs : List BitRange) (s : ℕ) → list_all (is_below n) rs ≡ true → n ≤ s → readings number rs s ≡ []
readings-past n number [] s h le = refl
readings-past n number (r ∷ rs) s h le =
    let parts = and_parts (is_below n r) _ h in
    let below : r.signal < n = ltb-true r.signal n parts.0 in
    let other : r.signal ≢ s = omega arith in
    ap (λ b. if b then record { assign = number; range = r } ∷ readings number rs s else readings number rs s) (ne_eqb r.signal s other)
    ∙ readings-past n number rs s parts.1 le

readers-past : (ss : List Signal) (number : ℕ) (assigns : List Assign) (s : ℕ) → AllByRecursion (λ (a : Assign). is_sound_assign ss a ≡ true) assigns → length ss ≤ s →
    readers_from number assigns s ≡ []
readers-past ss number [] s h le = refl
readers-past ss number (a ∷ rest) s h le =
    let sound = and_parts (is_sound_target (is_net_aim ss) a.target) _ h.0 in
    let source = and_parts (is_within ss a.source) (is_at_least a.target.width (size_of a.source)) sound.1 in
    ap (λ rs. rs ++ readers_from (suc number) rest s) (readings-past (length ss) number (reads a.source) s source.0 le)
    ∙ readers-past ss (suc number) rest s h.1 le

pub none_at : {A : Type 0} (n s : ℕ) → get_or (empty_rows {A = A} n) s [] ≡ []
none_at zero s = refl
none_at (suc n) zero = refl
none_at (suc n) (suc s) = none_at n s

length-empty_rows : (A : Type 0) (n : ℕ) → length (empty_rows {A = A} n) ≡ n
length-empty_rows A zero = refl
length-empty_rows A (suc n) = ap suc (length-empty_rows A n)

-- the table of sound continuous assignments has each signal's readers
pub table_is : (ss : List Signal) (assigns : List Assign) (table : List (Vec Reader Global)) → All (λ (a : Assign). is_sound_assign ss a ≡ true) assigns →
    rows table ≡ tabled 0 assigns (empty_rows (length ss)) → AreReaders assigns table
table_is ss assigns table sound h s =
    let start : List (List Reader) = empty_rows (length ss) in
    ap (λ (t : List (List Reader)). get_or t s []) h
    ∙ ⊎_elim
    (λ below. at_tabled 0 assigns start s (subst (λ k. s < k) (sym (length-empty_rows Reader (length ss))) below) ∙ ap (λ row. row ++ readers assigns s) (none_at (length ss) s))
    (λ above.
    get_or_past (tabled 0 assigns start) s [] (subst (λ k. k ≤ s) (sym (length-tabled 0 assigns start ∙ length-empty_rows Reader (length ss))) above)
    ∙ sym (readers-past ss 0 assigns s (recursion_from_All _ assigns sound) above))
    (cases_lt s (length ss))

-- ---- listeners

-- a row in which no number stands that is this one or a later one, at its end
abbrev IsBefore : ℕ → List ℕ → Type 0
IsBefore number row = (later : ℕ) → number ≤ later → ends_with later row ≡ false

-- what is added to a row where this holds
abbrev added : ℕ → Bool → List ℕ
added number b = if b then number ∷ [] else []

ends-pushed : (n m : ℕ) (row : List ℕ) → ends_with n (row ++ m ∷ []) ≡ (m == n)
ends-pushed n m [] = refl
ends-pushed n m (x ∷ []) = refl
ends-pushed n m (x ∷ k ∷ rest) = ends-pushed n m (k ∷ rest)

-- the end of a row
pub last_tells : (n m : ℕ) (row : List ℕ) → slice_get row (length row - 1) ≡ Some m → ends_with n row ≡ (m == n)
last_tells n m [] h = absurd (none-some m h)
last_tells n m (x ∷ []) h = ap (λ k. k == n) (same_Some x m h)
last_tells n m (x ∷ k ∷ rest) h =
    let back : suc (length (k ∷ rest) - 1) ≡ length (x ∷ k ∷ rest) - 1 = omega arith in
    last_tells n m (k ∷ rest) (ap (slice_get (x ∷ k ∷ rest)) back ∙ h)

-- a row of a table with a process in it where event terms name its signal
abbrev row_heard : ℕ → List EventTerm → ℕ → List ℕ → List ℕ
row_heard number [] s row = row
row_heard number (t ∷ ts) s row = row_heard number ts s (if is_of s t.range then ending_with number row else row)

pub ending-stays : (number : ℕ) (row : List ℕ) → ends_with number row ≡ true → ending_with number row ≡ row
ending-stays number row h = ap (λ b. if b then row else row ++ number ∷ []) h

pub ending-pushed : (number : ℕ) (row : List ℕ) → ends_with number row ≡ false → ending_with number row ≡ row ++ number ∷ []
ending-pushed number row h = ap (λ b. if b then row else row ++ number ∷ []) h

either_way : {A : Type 0} (b : Bool) (x : A) → (if b then x else x) ≡ x
either_way true x = refl
either_way false x = refl

row-stays : (number : ℕ) (ts : List EventTerm) (s : ℕ) (row : List ℕ) → ends_with number row ≡ true → row_heard number ts s row ≡ row
row-stays number [] s row h = refl
row-stays number (t ∷ ts) s row h =
    ap (λ r. row_heard number ts s (if is_of s t.range then r else row)) (ending-stays number row h)
    ∙ ap (row_heard number ts s) (either_way (is_of s t.range) row)
    ∙ row-stays number ts s row h

row-heard : (number : ℕ) (ts : List EventTerm) (s : ℕ) (row : List ℕ) → ends_with number row ≡ false →
    row_heard number ts s row ≡ row ++ added number (list_any (λ (t : EventTerm). is_of s t.range) ts)
row-heard number [] s row h = sym (append-none row)
row-heard number (t ∷ ts) s row h = by_test (is_of s t.range) (row-heard number ts s row h)
  where
    by_test : (b : Bool) → row_heard number ts s row ≡ row ++ added number (list_any (λ (t : EventTerm). is_of s t.range) ts) →
        row_heard number ts s (if b then ending_with number row else row) ≡ row ++ added number (b || list_any (λ (t : EventTerm). is_of s t.range) ts)
    by_test true rest =
        ap (row_heard number ts s) (ending-pushed number row h)
        ∙ row-stays number ts s (row ++ number ∷ []) (ends-pushed number number row ∙ eq-eqb number number refl)
    by_test false rest = rest

length-all_heard : (number : ℕ) (ts : List EventTerm) (table : List (List ℕ)) → length (all_heard number ts table) ≡ length table
length-all_heard number [] table = refl
length-all_heard number (t ∷ ts) table =
    length-all_heard number ts (changed_at (ending_with number) t.range.signal table) ∙ length-changed_at _ t.range.signal table

length-heard : (number : ℕ) (processes : List Process) (table : List (List ℕ)) → length (heard number processes table) ≡ length table
length-heard number [] table = refl
length-heard number (p ∷ rest) table =
    length-heard (suc number) rest (all_heard number (event_terms p.body) table) ∙ length-all_heard number (event_terms p.body) table

at_all_heard : (number : ℕ) (ts : List EventTerm) (table : List (List ℕ)) (s : ℕ) → s < length table →
    get_or (all_heard number ts table) s [] ≡ row_heard number ts s (get_or table s [])
at_all_heard number [] table s h = refl
at_all_heard number (t ∷ ts) table s h =
    at_all_heard number ts (changed_at (ending_with number) t.range.signal table) s (subst (λ k. s < k) (sym (length-changed_at _ t.range.signal table)) h)
    ∙ ap (row_heard number ts s)
    (⊎_elim
    (λ same.
    ap (λ k. get_or (changed_at (ending_with number) k table) s []) same.1 ∙ at_changed (ending_with number) s table h
    ∙ ap (λ b. if b then ending_with number (get_or table s []) else get_or table s []) (sym same.0))
    (λ other. at_other (ending_with number) t.range.signal s table other.1 ∙ ap (λ b. if b then ending_with number (get_or table s []) else get_or table s []) (sym other.0))
    (eqb_tells t.range.signal s))

before-added : (number : ℕ) (row : List ℕ) (b : Bool) → IsBefore number row → IsBefore (suc number) (row ++ added number b)
before-added number row true h later le = ends-pushed later number row ∙ ne_eqb number later (omega arith)
before-added number row false h later le = ap (ends_with later) (append-none row) ∙ h later (omega arith)

listeners-more : (number : ℕ) (p : Process) (rest : List Process) (s : ℕ) (row : List ℕ) →
    (row ++ added number (listens p.body s)) ++ listeners_from (suc number) rest s ≡ row ++ listeners_from number (p ∷ rest) s
listeners-more number p rest s row = append_assoc row (added number (listens p.body s)) (listeners_from (suc number) rest s) ∙ ap (λ r. row ++ r) (by_test (listens p.body s))
  where
    by_test : (b : Bool) → added number b ++ listeners_from (suc number) rest s ≡ (if b then number ∷ listeners_from (suc number) rest s else listeners_from (suc number) rest s)
    by_test true = refl
    by_test false = refl

at_heard : (number : ℕ) (processes : List Process) (table : List (List ℕ)) (s : ℕ) → s < length table → IsBefore number (get_or table s []) →
    get_or (heard number processes table) s [] ≡ get_or table s [] ++ listeners_from number processes s
at_heard number [] table s h before = sym (append-none (get_or table s []))
at_heard number (p ∷ rest) table s h before =
    let terms = event_terms p.body in
    let next = all_heard number terms table in
    let row = get_or table s [] in
    let is : get_or next s [] ≡ row ++ added number (listens p.body s) = at_all_heard number terms table s h ∙ row-heard number terms s row (before number (omega arith)) in
    at_heard (suc number) rest next s (subst (λ k. s < k) (sym (length-all_heard number terms table)) h)
    (subst (IsBefore (suc number)) (sym is) (before-added number row (listens p.body s) before))
    ∙ ap (λ r. r ++ listeners_from (suc number) rest s) is
    ∙ listeners-more number p rest s row

listeners-past : (ss : List Signal) (number : ℕ) (processes : List Process) (s : ℕ) → AllByRecursion (λ (p : Process). is_sound_process ss p ≡ true) processes → length ss ≤ s →
    listeners_from number processes s ≡ []
listeners-past ss number [] s h le = refl
listeners-past ss number (p ∷ rest) s h le =
    let numbered = and_parts (is_sound_statement ss p.body && counts_from 0 (numbers p.body)) (is_body_of p.kind p.body) h.0 in
    let sound = and_parts (is_sound_statement ss p.body) (counts_from 0 (numbers p.body)) numbered.0 in
    ap (λ b. if b then number ∷ listeners_from (suc number) rest s else listeners_from (suc number) rest s) (listens-past ss p.body s sound.0 le)
    ∙ listeners-past ss (suc number) rest s h.1 le

-- the table of sound processes has each signal's listeners
pub listeners_are : (ss : List Signal) (processes : List Process) (table : List (Vec ℕ Global)) → All (λ (p : Process). is_sound_process ss p ≡ true) processes →
    rows table ≡ heard 0 processes (empty_rows (length ss)) → AreListeners processes table
listeners_are ss processes table sound h s =
    let start : List (List ℕ) = empty_rows (length ss) in
    ap (λ (t : List (List ℕ)). get_or t s []) h
    ∙ ⊎_elim
    (λ below.
    at_heard 0 processes start s (subst (λ k. s < k) (sym (length-empty_rows ℕ (length ss))) below) (λ later le. ap (ends_with later) (none_at (length ss) s))
    ∙ ap (λ row. row ++ listeners processes s) (none_at (length ss) s))
    (λ above.
    get_or_past (heard 0 processes start) s [] (subst (λ k. k ≤ s) (sym (length-heard 0 processes start ∙ length-empty_rows ℕ (length ss))) above)
    ∙ sym (listeners-past ss 0 processes s (recursion_from_All _ processes sound) above))
    (cases_lt s (length ss))
