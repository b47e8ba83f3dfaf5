-- The points of a design with an inverted reset, and what is done at them.
use Rattle.std.proofs.Common.{◌≡◌, ℕ, zero, suc, ◌++◌, Bool, true, false, Some, option_map, List, [], ◌∷◌, refl, sym, ◌∙◌, ap, subst, inl, inr}
use Rattle.std.proofs.lemmas.Bool.{false≢true, true≢false}
use Rattle.std.specs.declared.alloc.Global.{Global}
use Rattle.std.specs.List.{Contains}
use Rattle.vs_design.specs.vs_logic4.specs.declared.digit.Digit.{Digit}
use Rattle.vs_design.specs.vs_logic4.specs.declared.digit.Digit.TheVariants.{Zero, One}
use Rattle.vs_design.specs.vs_logic4.specs.declared.operators.Unary.TheVariants as u
use Rattle.vs_design.specs.declared.range.BitRange.{BitRange}
use Rattle.vs_design.specs.declared.statement.EventTerm.{EventTerm}
use Rattle.vs_design.specs.declared.statement.Statement.{out-Statement}
use Rattle.vs_design.specs.Parts.{Parts}
use Rattle.vs_design.specs.Uses.{reads, slice_range, whole}
use Rattle.vs_design.specs.WellFormed.{size_of}
use Rattle.vs_process.specs.declared.gait.Gait.TheVariants.{Fresh}
use Rattle.vs_process.specs.Landings.{todo_after}
use Rattle.vs_process.specs.Places.{active_at, perform, todo_of, Todo}
use Rattle.vs_process.specs.Steps.{Next, on, after, wait}
use Rattle.vs_process.proofs.Shapes.{flat-Block}
use Rattle.vs_rules.specs.vs_process.specs.Threads.{todo_reads}
use Rattle.vs_rules.specs.Paths.{HasTerm, IsPoint, IsSlot0, ListsSignal, Path, PathBy, ReadsNow, RunsFrom, WritesAny, WritesLater, WritesNow, is_plain, is_zero_time, todo_later, todo_now}
use Rattle.vs_rules.specs.Points.{Among, Goes, Point, first_todo, nexts_by}
use Rattle.vs_rules.proofs.Points.{by_path}
use Rattle.vs_rules.proofs.Places.{closed_paths, closed_points}
use Rattle.vs_design.specs.vs_logic4.proofs.Basics.{one_in, none_in}
use Rattle.vs_laws.specs.Mixer.{three_of}
use Rattle.vs_laws.specs.Race.{operand, the_bit}
use Rattle.vs_laws.specs.Resets.{awaits, clock, fall, gives, gives_late, half, inverted, listens, negated, register, resetting, turned}
use Rattle.vs_laws.specs.Rise.{rise}
use Rattle.vs_laws.specs.Roots.{sets, sets_late}
use Rattle.vs_laws.specs.Swap.{copies_later}
use Rattle.vs_laws.proofs.Race.{reads_number, reads_operand, size_operand}
use Rattle.vs_laws.proofs.Texts.{among_one, each_in, no_signal, one_signal, reads_resized, reads_unary, size_resized, size_unary}

-- ---- its points

-- what is to be done: the clock's loop, its delay, its turn
abbrev pub looping : Global → Todo
looping g = perform (clock g) ∷ []

abbrev pub pausing : Global → Todo
pausing g = perform (half g) ∷ looping g

abbrev pub turning : Global → Todo
turning g = perform (turned g) ∷ looping g

-- from `c = 0`, from `r = DIGIT`, from the control, from the delay, from `d = 1` on
abbrev pub awaiting : Global → Todo
awaiting g = perform (awaits g) ∷ []

abbrev pub from_r : Global → Digit → Todo
from_r g digit = perform (gives g 1 1 digit) ∷ awaiting g

abbrev pub from_c : Global → Digit → Todo
from_c g digit = perform (gives g 0 0 Zero) ∷ from_r g digit

abbrev pub delaying : Global → Todo
delaying g = perform (gives_late g) ∷ []

abbrev pub giving : Global → Todo
giving g = perform (gives g 4 2 One) ∷ []

-- `#2 r = 1`, `r = 1`
abbrev pub waiting_r : Global → Todo
waiting_r g = perform (sets_late g 1) ∷ []

abbrev pub setting_r : Global → Todo
setting_r g = perform (sets g 1) ∷ []

-- the register's loop, its control, its assignment
abbrev pub again : Global → Todo
again g = perform (register g) ∷ []

abbrev pub listening : Global → Todo
listening g = perform (listens g) ∷ again g

abbrev pub copying : Global → Todo
copying g = perform (copies_later g 3 2) ∷ again g

-- what is done at a point: nothing, a constant by `=`, the turn of the clock, the register's `<=`
pub data Act : Type 0 where
  idles : Act
  constants : ℕ → Digit → Act
  inverts : Act
  takes : Act

-- the points, each with its one way on, with what is done there, and whether it is one of the first slot
pub data Spot (g : Global) (digit : Digit) : ℕ → Todo → Next → Act → Bool → Type 0 where
  loops_c : Spot g digit 0 (looping g) (on (pausing g)) idles true
  pauses_c : Spot g digit 0 (pausing g) (after 1 5 (turning g)) idles true
  turns_c : Spot g digit 0 (turning g) (on (looping g)) inverts false
  starts_c : Spot g digit 1 (from_c g digit) (on (from_r g digit)) (constants 0 Zero) true
  starts_r : Spot g digit 1 (from_r g digit) (on (awaiting g)) (constants 1 digit) true
  awaits_c : Spot g digit 1 (awaiting g) (wait 2 (rise ∷ []) (delaying g)) idles true
  pauses_d : Spot g digit 1 (delaying g) (after 3 1 (giving g)) idles false
  gives_d : Spot g digit 1 (giving g) (on []) (constants 2 One) false
  pauses_r : Spot g digit 2 (waiting_r g) (after 0 2 (setting_r g)) idles true
  gives_r : Spot g digit 2 (setting_r g) (on []) (constants 1 One) false
  loops_q : Spot g digit 3 (again g) (on (listening g)) idles true
  listens_q : Spot g digit 3 (listening g) (wait 1 (rise ∷ fall ∷ []) (copying g)) idles true
  copies_q : Spot g digit 3 (copying g) (on (again g)) takes false
  rests : (i : ℕ) → Spot g digit i [] (on []) idles true

-- ---- what the acts write and read

abbrev now_of : Act → List BitRange
now_of (constants v digit) = slice_range (the_bit v) ∷ []
now_of inverts = slice_range (the_bit 0) ∷ []
now_of _ = []

abbrev later_of : Act → List BitRange
later_of takes = slice_range (the_bit 3) ∷ []
later_of _ = []

abbrev reads_of : Act → List BitRange
reads_of inverts = whole 0 ∷ []
reads_of takes = whole 2 ∷ []
reads_of _ = []

pub record IsAt (k : Todo) (next : Next) (act : Act) : Type 0 where
  pub ways : (n : Next) → Goes k n → next ≡ n
  pub now : todo_now k ≡ now_of act
  pub later : todo_later k ≡ later_of act
  pub reads_are : todo_reads k ≡ reads_of act

pub reads_negated : (g : Global) → reads (negated g) ≡ whole 0 ∷ []
reads_negated g = reads_resized g _ _ ∙ reads_unary g u.LogicalNot (operand 0) ∙ reads_operand 0

pub reads_inverted : (g : Global) → reads (inverted g) ≡ whole 1 ∷ []
reads_inverted g = reads_unary g u.Not (operand 1) ∙ reads_operand 1

pub size_negated : (g : Global) → size_of (negated g) ≡ Some 1
size_negated g = size_resized g _ _ ∙ ap (option_map (λ n. 1)) (size_unary g u.LogicalNot (operand 0) ∙ ap (option_map (λ n. 1)) (size_operand 0))

pub size_inverted : (g : Global) → size_of (inverted g) ≡ Some 1
size_inverted g = size_unary g u.Not (operand 1) ∙ ap (option_map (λ n. n)) (size_operand 1)

with_none : (rs qs : List BitRange) → rs ≡ qs → rs ++ [] ≡ qs ++ []
with_none rs qs e = ap (λ l. l ++ []) e

pub facts : {g : Global} {digit : Digit} {i : ℕ} {k : Todo} {n : Next} {a : Act} {e : Bool} → Spot g digit i k n a e → IsAt k n a
unfolding out-Statement denote.Hole.Carrier.out
facts loops_c = record { ways = λ m h. among_one m _ h; now = refl; later = refl; reads_are = refl }
facts pauses_c = record { ways = λ m h. among_one m _ h; now = refl; later = refl; reads_are = refl }
facts {g = g} turns_c = record { ways = λ m h. among_one m _ h; now = refl; later = refl; reads_are = with_none _ _ (reads_negated g) }
facts starts_c = record { ways = λ m h. among_one m _ h; now = refl; later = refl; reads_are = with_none _ _ (reads_number (Zero ∷ [])) }
facts {digit = digit} starts_r = record { ways = λ m h. among_one m _ h; now = refl; later = refl; reads_are = with_none _ _ (reads_number (digit ∷ [])) }
facts awaits_c = record { ways = λ m h. among_one m _ h; now = refl; later = refl; reads_are = refl }
facts pauses_d = record { ways = λ m h. among_one m _ h; now = refl; later = refl; reads_are = refl }
facts gives_d = record { ways = λ m h. among_one m _ h; now = refl; later = refl; reads_are = with_none _ _ (reads_number (One ∷ [])) }
facts pauses_r = record { ways = λ m h. among_one m _ h; now = refl; later = refl; reads_are = refl }
facts gives_r = record { ways = λ m h. among_one m _ h; now = refl; later = refl; reads_are = with_none _ _ (reads_number (One ∷ [])) }
facts loops_q = record { ways = λ m h. among_one m _ h; now = refl; later = refl; reads_are = refl }
facts listens_q = record { ways = λ m h. among_one m _ h; now = refl; later = refl; reads_are = refl }
facts copies_q = record { ways = λ m h. among_one m _ h; now = refl; later = refl; reads_are = with_none _ _ (reads_operand 2) }
facts (rests i) = record { ways = λ m h. among_one m _ h; now = refl; later = refl; reads_are = refl }

-- an act writes a signal by `=`, by `<=`; it reads a range
pub data Wrote : Act → ℕ → Type 0 where
  by_constant : (v : ℕ) (digit : Digit) → Wrote (constants v digit) v
  by_turn : Wrote inverts 0

pub data Made : Act → ℕ → Type 0 where
  by_update : Made takes 3

pub data Took : Act → BitRange → Type 0 where
  of_c : Took inverts (whole 0)
  of_d : Took takes (whole 2)

wrote_by : (d : Parts) (a : Act) (v : ℕ) → ListsSignal d (now_of a) v → Wrote a v
wrote_by d idles v w = absurd (no_signal d v w)
wrote_by d (constants s digit) v w = subst (Wrote (constants s digit)) (one_signal d (slice_range (the_bit s)) v w) (by_constant s digit)
wrote_by d inverts v w = subst (Wrote inverts) (one_signal d (slice_range (the_bit 0)) v w) by_turn
wrote_by d takes v w = absurd (no_signal d v w)

made_by : (d : Parts) (a : Act) (v : ℕ) → ListsSignal d (later_of a) v → Made a v
made_by d idles v w = absurd (no_signal d v w)
made_by d (constants s digit) v w = absurd (no_signal d v w)
made_by d inverts v w = absurd (no_signal d v w)
made_by d takes v w = subst (Made takes) (one_signal d (slice_range (the_bit 3)) v w) by_update

took_by : (a : Act) (r : BitRange) → Contains (reads_of a) r → Took a r
took_by idles r h = absurd (none_in r h)
took_by (constants s digit) r h = absurd (none_in r h)
took_by inverts r h = subst (Took inverts) (one_in (whole 0) r h) of_c
took_by takes r h = subst (Took takes) (one_in (whole 2) r h) of_d

pub wrote : {k : Todo} {n : Next} {a : Act} (d : Parts) (v : ℕ) → IsAt k n a → WritesNow d k v → Wrote a v
wrote {a = b} d v at w = wrote_by d b v (subst (λ rs. ListsSignal d rs v) at.now w)

pub made : {k : Todo} {n : Next} {a : Act} (d : Parts) (v : ℕ) → IsAt k n a → WritesLater d k v → Made a v
made {a = b} d v at w = made_by d b v (subst (λ rs. ListsSignal d rs v) at.later w)

pub took : {k : Todo} {n : Next} {a : Act} (d : Parts) (r : BitRange) → IsAt k n a → ReadsNow d k r → Took a r
took {a = b} d r at h = took_by b r (subst (λ rs. Contains rs r) at.reads_are h.0)

-- ---- each point is one of these

pub record Row (g : Global) (digit : Digit) (i : ℕ) (k : Todo) : Type 0 where
  pub next : Next
  pub act : Act
  pub early : Bool
  pub spot : Spot g digit i k next act early

row : {g : Global} {digit : Digit} {i : ℕ} {k : Todo} {n : Next} {a : Act} {e : Bool} → Spot g digit i k n a e → Row g digit i k
row {n = m} {a = b} {e = f} s = record { next = m; act = b; early = f; spot = s }

behind : {g : Global} {digit : Digit} {i : ℕ} {k : Todo} {n : Next} {a : Act} {e : Bool} → Spot g digit i k n a e → Row g digit i (todo_after n)
behind loops_c = row pauses_c
behind pauses_c = row turns_c
behind turns_c = row loops_c
behind starts_c = row starts_r
behind starts_r = row awaits_c
behind awaits_c = row pauses_d
behind pauses_d = row gives_d
behind gives_d = row (rests 1)
behind pauses_r = row gives_r
behind gives_r = row (rests 2)
behind loops_q = row listens_q
behind listens_q = row copies_q
behind copies_q = row loops_q
behind (rests i) = row (rests i)

abbrev RestRow : Global → Digit → ℕ → Todo → Type 0
RestRow g digit i [] = Unit {0}
RestRow g digit i (x ∷ rest) = Row g digit i rest

rest_row : {g : Global} {digit : Digit} {i : ℕ} {k : Todo} {n : Next} {a : Act} {e : Bool} → Spot g digit i k n a e → RestRow g digit i k
rest_row loops_c = row (rests 0)
rest_row pauses_c = row loops_c
rest_row turns_c = row loops_c
rest_row starts_c = row starts_r
rest_row starts_r = row awaits_c
rest_row awaits_c = row (rests 1)
rest_row pauses_d = row (rests 1)
rest_row gives_d = row (rests 1)
rest_row pauses_r = row (rests 2)
rest_row gives_r = row (rests 2)
rest_row loops_q = row (rests 3)
rest_row listens_q = row loops_q
rest_row copies_q = row loops_q
rest_row (rests i) = tt

-- the points of the first slot
pub record Early (g : Global) (digit : Digit) (i : ℕ) (k : Todo) : Type 0 where
  pub next : Next
  pub act : Act
  pub spot : Spot g digit i k next act true

pub in_first : {g : Global} {digit : Digit} {i : ℕ} {k : Todo} {n : Next} {a : Act} → Spot g digit i k n a true → Early g digit i k
in_first {n = m} {a = b} s = record { next = m; act = b; spot = s }

-- the block is opened
pub first_is : (g : Global) (digit : Digit) → first_todo (resetting g digit) 1 ≡ from_c g digit
unfolding out-Statement denote.Hole.Carrier.out
first_is g digit = ap (λ k. todo_of (active_at Fresh k)) (flat-Block (three_of g (gives g 0 0 Zero) (gives g 1 1 digit) (awaits g)))

first_early : (g : Global) (digit : Digit) (i : ℕ) → Early g digit i (first_todo (resetting g digit) i)
unfolding out-Statement denote.Hole.Carrier.out
first_early g digit zero = in_first loops_c
first_early g digit (suc zero) = subst (Early g digit 1) (sym (first_is g digit)) (in_first starts_c)
first_early g digit (suc (suc zero)) = in_first pauses_r
first_early g digit (suc (suc (suc zero))) = in_first loops_q
first_early g digit (suc (suc (suc (suc i)))) = in_first (rests (suc (suc (suc (suc i)))))

row_on : (g : Global) (digit : Digit) (i : ℕ) (k : Todo) (next : Next) → Row g digit i k → Goes k next → Row g digit i (todo_after next)
row_on g digit i k next r h = subst (λ n. Row g digit i (todo_after n)) ((facts r.spot).ways next h) (behind r.spot)

pub row_at : (g : Global) (digit : Digit) (i : ℕ) (k : Todo) → IsPoint (resetting g digit) i k → Row g digit i k
row_at g digit i k point =
    closed_points (Row g digit i) (first_todo (resetting g digit) i) (row (first_early g digit i).spot) (λ l next r h. row_on g digit i l next r h)
    (λ x rest r. rest_row r.spot) k point

-- one from which this is a way
pub record Going (g : Global) (digit : Digit) (i : ℕ) (k : Todo) (next : Next) : Type 0 where
  pub act : Act
  pub early : Bool
  pub spot : Spot g digit i k next act early

pub going : (g : Global) (digit : Digit) (i : ℕ) (k : Todo) (next : Next) → IsPoint (resetting g digit) i k → Goes k next → Going g digit i k next
going g digit i k next point h =
    let r = row_at g digit i k point in
    record { act = r.act; early = r.early; spot = subst (λ n. Spot g digit i k n r.act r.early) ((facts r.spot).ways next h) r.spot }

-- ---- the first slot

early_behind : {g : Global} {digit : Digit} {i : ℕ} {k : Todo} {n : Next} {a : Act} → Spot g digit i k n a true → is_zero_time n ≡ true → Early g digit i (todo_after n)
early_behind loops_c still = in_first pauses_c
early_behind pauses_c still = absurd (false≢true still)
early_behind starts_c still = in_first starts_r
early_behind starts_r still = in_first awaits_c
early_behind awaits_c still = absurd (false≢true still)
early_behind pauses_r still = absurd (false≢true still)
early_behind loops_q still = in_first listens_q
early_behind listens_q still = absurd (false≢true still)
early_behind (rests i) still = in_first (rests i)

early_on : (g : Global) (digit : Digit) (i : ℕ) (k : Todo) (next : Next) → Early g digit i k → Goes k next → is_zero_time next ≡ true → Early g digit i (todo_after next)
early_on g digit i k next r h still =
    subst (λ n. is_zero_time n ≡ true → Early g digit i (todo_after n)) ((facts r.spot).ways next h) (early_behind r.spot) still

pub early_path : (g : Global) (digit : Digit) (i : ℕ) (from k : Todo) → Early g digit i from → PathBy (nexts_by true) is_zero_time from k → Early g digit i k
early_path g digit i from k r path =
    closed_paths (Early g digit i) is_zero_time from r (λ l next at h still. early_on g digit i l next at h still) k (by_path true is_zero_time from k path)

pub early_at : (g : Global) (digit : Digit) (i : ℕ) (k : Todo) → IsSlot0 (resetting g digit) true i k → Early g digit i k
early_at g digit i k path = early_path g digit i (first_todo (resetting g digit) i) k (first_early g digit i) path

-- what is written there: `c = 0` and `r = DIGIT`, by t#p1
pub data First (g : Global) (digit : Digit) : ℕ → ℕ → Todo → Type 0 where
  first_c : First g digit 0 1 (from_c g digit)
  first_r : First g digit 1 1 (from_r g digit)

wrote_first : {g : Global} {digit : Digit} {i v : ℕ} {k : Todo} {n : Next} {a : Act} → Wrote a v → Spot g digit i k n a true → First g digit v i k
wrote_first (by_constant _ _) starts_c = first_c
wrote_first (by_constant _ _) starts_r = first_r
wrote_first by_turn s = elim s [ ]

never_first : {g : Global} {digit : Digit} {i v : ℕ} {k : Todo} {n : Next} {a : Act} → Made a v → Spot g digit i k n a true → ⊥
never_first by_update s = elim s [ ]

pub early_now : (g : Global) (digit : Digit) (i v : ℕ) (k : Todo) → Early g digit i k → WritesNow (resetting g digit) k v → First g digit v i k
early_now g digit i v k r w = wrote_first (wrote (resetting g digit) v (facts r.spot) w) r.spot

pub early_later : (g : Global) (digit : Digit) (i v : ℕ) (k : Todo) → Early g digit i k → WritesLater (resetting g digit) k v → ⊥
early_later g digit i v k r w = never_first (made (resetting g digit) v (facts r.spot) w) r.spot

pub early_any : (g : Global) (digit : Digit) (i v : ℕ) (k : Todo) → Early g digit i k → WritesAny (resetting g digit) k v → First g digit v i k
early_any g digit i v k r (inl w) = early_now g digit i v k r w
early_any g digit i v k r (inr w) = absurd (early_later g digit i v k r w)

reads_none : {g : Global} {digit : Digit} {i : ℕ} {k : Todo} {r : BitRange} {n : Next} {a : Act} → Took a r → Spot g digit i k n a true → ⊥
reads_none of_c s = elim s [ ]
reads_none of_d s = elim s [ ]

pub early_reads : (g : Global) (digit : Digit) (i : ℕ) (k : Todo) (r : BitRange) → Early g digit i k → ReadsNow (resetting g digit) k r → ⊥
early_reads g digit i k r at h = reads_none (took (resetting g digit) r (facts at.spot) h) at.spot

-- ---- behind the control of t#p1

pub data Late (g : Global) : Todo → Next → Act → Type 0 where
  late_delays : Late g (delaying g) (after 3 1 (giving g)) idles
  late_gives : Late g (giving g) (on []) (constants 2 One)
  late_rests : Late g [] (on []) idles

pub record IsLateAt (g : Global) (k : Todo) : Type 0 where
  pub next : Next
  pub act : Act
  pub spot : Late g k next act

late : {g : Global} {k : Todo} {n : Next} {a : Act} → Late g k n a → IsLateAt g k
late {n = m} {a = b} s = record { next = m; act = b; spot = s }

pub late_facts : {g : Global} {k : Todo} {n : Next} {a : Act} → Late g k n a → IsAt k n a
late_facts late_delays = facts {digit = One} pauses_d
late_facts late_gives = facts {digit = One} gives_d
late_facts {g = g} late_rests = facts {g = g} {digit = One} (rests 1)

late_behind : {g : Global} {k : Todo} {n : Next} {a : Act} → Late g k n a → IsLateAt g (todo_after n)
late_behind late_delays = late late_gives
late_behind late_gives = late late_rests
late_behind late_rests = late late_rests

pub late_path : (g : Global) (ok : Next → Bool) (from k : Todo) → IsLateAt g from → Path ok from k → IsLateAt g k
late_path g ok from k r path = closed_paths (IsLateAt g) ok from r (λ l next at h may. late_on l next at h) k path
  where
    late_on : (l : Todo) (next : Next) → IsLateAt g l → Goes l next → IsLateAt g (todo_after next)
    late_on l next at h = subst (λ n. IsLateAt g (todo_after n)) ((late_facts at.spot).ways next h) (late_behind at.spot)

-- where a control of t#p1 leads
pub late_from : {g : Global} {digit : Digit} {i : ℕ} {k : Todo} {n : Next} {a : Act} {e : Bool} → Spot g digit i k n a e → i ≡ 1 → is_plain n ≡ false → IsLateAt g (todo_after n)
late_from awaits_c at pauses = late late_delays
late_from pauses_d at pauses = late late_gives
late_from pauses_c at pauses = cc
late_from pauses_r at pauses = cc
late_from listens_q at pauses = cc
late_from s at pauses = absurd (true≢false pauses)

-- there `d` alone is written, by `=`
late_wrote : {g : Global} {k : Todo} {n : Next} {a : Act} {v : ℕ} → Wrote a v → Late g k n a → v ≡ 2
late_wrote (by_constant _ _) late_gives = refl
late_wrote by_turn s = elim s [ ]

late_made : {g : Global} {k : Todo} {n : Next} {a : Act} {v : ℕ} → Made a v → Late g k n a → ⊥
late_made by_update s = elim s [ ]

pub late_any : (g : Global) (digit : Digit) (k : Todo) (v : ℕ) → IsLateAt g k → WritesAny (resetting g digit) k v → v ≡ 2
late_any g digit k v at (inl w) = late_wrote (wrote (resetting g digit) v (late_facts at.spot) w) at.spot
late_any g digit k v at (inr w) = absurd (late_made (made (resetting g digit) v (late_facts at.spot) w) at.spot)

-- ---- where a process can be behind a control, before the next one

pub data Run (g : Global) : ℕ → Next → Todo → Next → Act → Type 0 where
  run_turns : Run g 0 (after 1 5 (turning g)) (turning g) (on (looping g)) inverts
  run_loops : Run g 0 (after 1 5 (turning g)) (looping g) (on (pausing g)) idles
  run_pauses : Run g 0 (after 1 5 (turning g)) (pausing g) (after 1 5 (turning g)) idles
  run_delays : Run g 1 (wait 2 (rise ∷ []) (delaying g)) (delaying g) (after 3 1 (giving g)) idles
  run_gives : Run g 1 (after 3 1 (giving g)) (giving g) (on []) (constants 2 One)
  run_given : Run g 1 (after 3 1 (giving g)) [] (on []) idles
  run_sets : Run g 2 (after 0 2 (setting_r g)) (setting_r g) (on []) (constants 1 One)
  run_set : Run g 2 (after 0 2 (setting_r g)) [] (on []) idles
  run_copies : Run g 3 (wait 1 (rise ∷ fall ∷ []) (copying g)) (copying g) (on (again g)) takes
  run_again : Run g 3 (wait 1 (rise ∷ fall ∷ []) (copying g)) (again g) (on (listening g)) idles
  run_listens : Run g 3 (wait 1 (rise ∷ fall ∷ []) (copying g)) (listening g) (wait 1 (rise ∷ fall ∷ []) (copying g)) idles

pub record Ran (g : Global) (i : ℕ) (c : Next) (k : Todo) : Type 0 where
  pub next : Next
  pub act : Act
  pub run : Run g i c k next act

ran : {g : Global} {i : ℕ} {c : Next} {k : Todo} {n : Next} {a : Act} → Run g i c k n a → Ran g i c k
ran {n = m} {a = b} s = record { next = m; act = b; run = s }

pub run_facts : {g : Global} {i : ℕ} {c : Next} {k : Todo} {n : Next} {a : Act} → Run g i c k n a → IsAt k n a
run_facts run_turns = facts {digit = One} turns_c
run_facts run_loops = facts {digit = One} loops_c
run_facts run_pauses = facts {digit = One} pauses_c
run_facts run_delays = facts {digit = One} pauses_d
run_facts run_gives = facts {digit = One} gives_d
run_facts {g = g} run_given = facts {g = g} {digit = One} (rests 1)
run_facts run_sets = facts {digit = One} gives_r
run_facts {g = g} run_set = facts {g = g} {digit = One} (rests 2)
run_facts run_copies = facts {digit = One} copies_q
run_facts run_again = facts {digit = One} loops_q
run_facts run_listens = facts {digit = One} listens_q

run_behind : {g : Global} {i : ℕ} {c : Next} {k : Todo} {n : Next} {a : Act} → Run g i c k n a → is_plain n ≡ true → Ran g i c (todo_after n)
run_behind run_turns plain = ran run_loops
run_behind run_loops plain = ran run_pauses
run_behind run_pauses plain = absurd (false≢true plain)
run_behind run_delays plain = absurd (false≢true plain)
run_behind run_gives plain = ran run_given
run_behind run_given plain = ran run_given
run_behind run_sets plain = ran run_set
run_behind run_set plain = ran run_set
run_behind run_copies plain = ran run_again
run_behind run_again plain = ran run_listens
run_behind run_listens plain = absurd (false≢true plain)

run_from : {g : Global} {digit : Digit} {i : ℕ} {k : Todo} {n : Next} {a : Act} {e : Bool} → Spot g digit i k n a e → is_plain n ≡ false → Ran g i n (todo_after n)
run_from pauses_c pauses = ran run_turns
run_from awaits_c pauses = ran run_delays
run_from pauses_d pauses = ran run_gives
run_from pauses_r pauses = ran run_sets
run_from listens_q pauses = ran run_copies
run_from s pauses = absurd (true≢false pauses)

pauses_or_ends : (P : Next → Type 0) → ((l : Todo) → P (on l) → ⊥) → (n : Next) → P n → is_plain n ≡ false
pauses_or_ends P never (on l) h = absurd (never l h)
pauses_or_ends P never (after number ticks l) h = refl
pauses_or_ends P never (wait number terms l) h = refl

pub ran_at : (g : Global) (digit : Digit) (wide : Bool) (i : ℕ) (can_end : Next → ℕ → Type 0) (k : Todo) (r : ℕ) → ((l : Todo) → can_end (on l) r → ⊥) →
    (h : RunsFrom (resetting g digit) wide i can_end k r) → Ran g i h.next k
ran_at g digit wide i can_end k r never h =
    closed_paths (Ran g i h.next) is_plain (todo_after h.next) begins (λ l next at goes plain. ran_on l next at goes plain) k
    (by_path wide is_plain (todo_after h.next) k h.path)
  where
    begins : Ran g i h.next (todo_after h.next)
    begins =
        let at = going g digit i h.at h.next h.point h.goes in
        run_from at.spot (pauses_or_ends (λ n. can_end n r) never h.next h.starts)

    ran_on : (l : Todo) (next : Next) → Ran g i h.next l → Goes l next → is_plain next ≡ true → Ran g i h.next (todo_after next)
    ran_on l next at goes plain =
        subst (λ n. is_plain n ≡ true → Ran g i h.next (todo_after n)) ((run_facts at.run).ways next goes) (run_behind at.run) plain

-- alike, where this is a way on from there
pub record Leaving (g : Global) (i : ℕ) (c : Next) (k : Todo) (next : Next) : Type 0 where
  pub act : Act
  pub run : Run g i c k next act

pub leaving : (g : Global) (i : ℕ) (c : Next) (k : Todo) (next : Next) → Ran g i c k → Goes k next → Leaving g i c k next
leaving g i c k next at h =
    record { act = at.act; run = subst (λ n. Run g i c k n at.act) ((run_facts at.run).ways next h) at.run }

-- ---- its event terms

pub data TermAt : ℕ → EventTerm → Type 0 where
  term_1 : TermAt 1 rise
  term_3 : TermAt 3 rise
  term_n : TermAt 3 fall

terms_of : {g : Global} {digit : Digit} {i : ℕ} {k l : Todo} {number : ℕ} {terms : List EventTerm} {a : Act} {e : Bool} (t : EventTerm) →
    Spot g digit i k (wait number terms l) a e → Contains terms t → TermAt i t
terms_of t awaits_c h = subst (TermAt 1) (one_in rise t h) term_1
terms_of t listens_q h = each_in (TermAt 3) (rise ∷ fall ∷ []) (term_3, (term_n, tt)) t h

pub term_at : (g : Global) (digit : Digit) (i : ℕ) (t : EventTerm) → HasTerm (resetting g digit) i t → TermAt i t
term_at g digit i t h =
    let at = going g digit i h.control (wait h.number h.terms h.behind) h.point h.goes in
    terms_of t at.spot h.is

pub has_term : (g : Global) (digit : Digit) (t : EventTerm) → Contains (rise ∷ fall ∷ []) t → HasTerm (resetting g digit) 3 t
unfolding out-Statement denote.Hole.Carrier.out
has_term g digit t is = record {
  control = listening g;
  number = 1;
  terms = rise ∷ fall ∷ [];
  behind = copying g;
  point = Point.goes_on (again g) (listening g) Point.begins (Among.first []);
  goes = Among.first [];
  is = is;
}
