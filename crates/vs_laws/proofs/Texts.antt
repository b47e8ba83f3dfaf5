-- What texts write and read, and their delay controls: one equation for each kind of statement in the designs here.
use Rattle.std.proofs.Common.{◌≡◌, ◌==◌, ◌&&◌, ℕ, zero, suc, Bool, true, false, Option, Some, None, option_map, List, [], ◌∷◌, ◌++◌, map, slice_get, if◌then◌else◌, refl, sym, ◌∙◌, ap, subst, append-nil, lit<, lit≤, arith}
use Rattle.std.proofs.lemmas.Bool.{eq-eqb, false≢true, true≢false}
use Rattle.std.proofs.lemmas.Option.{none-some, same_Some}
use Rattle.std.specs.List.{Contains, list_all}
use Rattle.std.specs.Str.{bytes_eq}
use Rattle.std.specs.declared.alloc.Global.{Global}
use Rattle.std.specs.declared.vec.Vec.{Vec}
use Rattle.vs_design.specs.vs_logic4.specs.declared.digit.Digit.{Digit}
use Rattle.vs_design.specs.vs_logic4.specs.declared.operators.Binary.{Binary}
use Rattle.vs_design.specs.vs_logic4.specs.declared.operators.Unary.{Unary}
use Rattle.vs_design.specs.vs_logic4.specs.declared.operators.Unary.TheVariants as u
use Rattle.vs_design.specs.vs_logic4.specs.Operators.{gives_bit, sizing_of, unary}
use Rattle.vs_design.specs.vs_logic4.proofs.Basics.{one_in, none_in}
use Rattle.vs_design.specs.declared.expression.Extension.{Extension}
use Rattle.vs_design.specs.declared.expression.Typed.{Typed, fold-roll-Typed}
use Rattle.vs_design.specs.declared.expression.Typed.TheVariants as e
use Rattle.vs_design.specs.declared.expression.Typed.TheOpen as t
use Rattle.vs_design.specs.declared.range.BitRange.{BitRange}
use Rattle.vs_design.specs.declared.signal.Signal.{Signal}
use Rattle.vs_design.specs.declared.statement.EventTerm.{EventTerm}
use Rattle.vs_design.specs.declared.statement.Statement.{Statement}
use Rattle.vs_design.specs.declared.statement.Statement.TheVariants as y
use Rattle.vs_design.specs.declared.statement.Statement.TheOpen as f
use Rattle.vs_design.specs.declared.statement.Statement.TheFolds.{fold-roll-Statement}
use Rattle.vs_design.specs.declared.statement.Target.{Target}
use Rattle.vs_design.specs.declared.statement.Ticks.{Ticks}
use Rattle.vs_design.specs.Statements.{assignment_reads}
use Rattle.vs_design.specs.Stores.{Store, word_of}
use Rattle.vs_design.specs.Uses.{joined, reads, reads_step, whole, writes}
use Rattle.vs_design.specs.WellFormed.{are_sound_terms, is_sound_statement, numbers, numbers_step, size_of, size_step, sized_by, sound_step}
use Rattle.vs_eval.specs.Values.{chained, operand_value, value_of, value_step}
use Rattle.vs_design.specs.Parts.{Parts}
use Rattle.vs_independence.specs.vs_process.specs.Examples.{between}
use Rattle.vs_process.specs.Landings.{todo_after}
use Rattle.vs_process.specs.Places.{Todo}
use Rattle.vs_process.specs.Steps.{Next, on, after, wait}
use Rattle.vs_process.specs.Writes.{statement_writes, statement_writes_step}
use Rattle.vs_laws.specs.Race.{boxed, operand}
use Rattle.vs_laws.proofs.Race.{reads_operand, size_operand}
use Rattle.vs_laws.specs.Swap.{inverse}
use Rattle.vs_rules.specs.Controls.{controls_in, controls_step}
use Rattle.vs_rules.specs.Claims.{Name}
use Rattle.vs_rules.specs.Paths.{ListsSignal, Path, is_plain, is_zero_time, text_reads, text_reads_step}
use Rattle.vs_rules.specs.Points.{Among, Goes}
use Rattle.vs_rules.proofs.Places.{closed_paths}

pub differ : (m n : ℕ) → (m == n) ≡ false → m ≡ n → ⊥
differ m n h e = true≢false (sym (eq-eqb m n e) ∙ h)

-- ---- lists whose elements are known

-- each element passes
abbrev pub Each : {A : Type 0} → (A → Type 0) → List A → Type 0
Each P [] = Unit {0}
Each P (x ∷ xs) = P x × Each P xs

pub each_in : {A : Type 0} (P : A → Type 0) (xs : List A) → Each P xs → (z : A) → Contains xs z → P z
each_in P [] all z has = absurd (none_in z has)
each_in P (x ∷ xs) all z (zero, within, is) = subst P is all.0
each_in P (x ∷ xs) all z (suc k, within, is) = each_in P xs all.1 z (k, omega (arith, within), is)

pub each_at : {A : Type 0} (P : A → Type 0) (xs : List A) → Each P xs → (n : ℕ) (z : A) → slice_get xs n ≡ Some z → P z
each_at P [] all n z is = absurd (none-some z is)
each_at P (x ∷ xs) all zero z is = subst P (same_Some x z is) all.0
each_at P (x ∷ xs) all (suc n) z is = each_at P xs all.1 n z is

-- ---- the one way on

among_none : (n : Next) (xs : List Next) → xs ≡ [] → Among n xs → ⊥
among_none n _ e (Among.first xs) = cc
among_none n _ e (Among.further y xs h) = cc

pub among_one : (n m : Next) → Among n (m ∷ []) → m ≡ n
among_one n _ (Among.first _) = refl
among_one n m (Among.further _ _ h) = absurd (among_none n [] refl h)

-- what holds of the one way on holds of each
pub only : (P : Next → Type 0) (n m : Next) → Among n (m ∷ []) → P m → P n
only P n m h p = subst P (among_one n m h) p

-- a list of one range has one signal
pub one_signal : (d : Parts) (q : BitRange) (v : ℕ) → ListsSignal d (q ∷ []) v → q.signal ≡ v
one_signal d q v h = ap (λ (r : BitRange). r.signal) (one_in q h.range h.listed.0) ∙ h.of

pub no_signal : (d : Parts) (v : ℕ) → ListsSignal d [] v → ⊥
no_signal d v h = none_in h.range h.listed.0

-- no path leads on from the end
pub ends_there : (ok : Next → Bool) (k : Todo) → Path ok [] k → k ≡ []
ends_there ok k path = closed_paths (λ l. l ≡ []) ok [] refl (λ l next e goes may. only (λ n. todo_after n ≡ []) next _ (subst (λ j. Goes j next) e goes) refl) k path

-- a way through no control takes no time
pub plain_is_still : (next : Next) → is_plain next ≡ true → is_zero_time next ≡ true
plain_is_still (on l) h = refl
plain_is_still (after number ticks l) h = absurd (false≢true h)
plain_is_still (wait number terms l) h = absurd (false≢true h)

-- whether it is this name
abbrev is_name : Name → Option Name → Bool
is_name name None = false
is_name name (Some other) = bytes_eq other name

-- two names differ, as a test finds
pub other_name : (name : Name) (o : Option Name) → is_name name o ≡ false → bytes_eq name name ≡ true → o ≡ Some name → ⊥
other_name name o differ same e = false≢true (sym differ ∙ ap (is_name name) e ∙ same)

-- what an assignment to constant places reads is in its expression
pub reads_source : (x : Typed) (r : BitRange) → Contains (reads x ++ []) r → Contains (reads x) r
reads_source x r h = subst (λ rs. Contains rs r) (append-nil (reads x)) h

-- ---- what texts write

pub writes_assign : (n : ℕ) (x : Target) (v : Typed) → statement_writes (y.Assign n x v) ≡ writes x
writes_assign n x v = ap statement_writes (sym (y.rolls-Assign n x v)) ∙ fold-roll-Statement (List BitRange) statement_writes_step (f.Assign n x v)

pub writes_later : (n : ℕ) (ticks : Ticks) (x : Target) (v : Typed) → statement_writes (y.Later n ticks x v) ≡ writes x
writes_later n ticks x v = ap statement_writes (sym (y.rolls-Later n ticks x v)) ∙ fold-roll-Statement (List BitRange) statement_writes_step (f.Later n ticks x v)

pub writes_delay : (g : Global) (n : ℕ) (ticks : Ticks) (s : Statement) → statement_writes (y.Delay n ticks (boxed g s)) ≡ statement_writes s
writes_delay g n ticks s = ap statement_writes (sym (y.rolls-Delay n ticks (boxed g s))) ∙ fold-roll-Statement (List BitRange) statement_writes_step (f.Delay n ticks (boxed g s))

pub writes_event : (g : Global) (n : ℕ) (terms : Vec EventTerm Global) (s : Statement) → statement_writes (y.Event n terms (boxed g s)) ≡ statement_writes s
writes_event g n terms s = ap statement_writes (sym (y.rolls-Event n terms (boxed g s))) ∙ fold-roll-Statement (List BitRange) statement_writes_step (f.Event n terms (boxed g s))

pub writes_forever : (g : Global) (n : ℕ) (s : Statement) → statement_writes (y.Forever n (boxed g s)) ≡ statement_writes s
writes_forever g n s = ap statement_writes (sym (y.rolls-Forever n (boxed g s))) ∙ fold-roll-Statement (List BitRange) statement_writes_step (f.Forever n (boxed g s))

pub writes_block : (all : Vec Statement Global) → statement_writes (y.Block all) ≡ joined (map statement_writes all.items)
writes_block all = ap statement_writes (sym (y.rolls-Block all)) ∙ fold-roll-Statement (List BitRange) statement_writes_step (f.Block all)

-- ---- what texts read

pub reads_assign : (n : ℕ) (x : Target) (v : Typed) → text_reads (y.Assign n x v) ≡ assignment_reads x v
reads_assign n x v =
    ap text_reads (sym (y.rolls-Assign n x v)) ∙ fold-roll-Statement (List BitRange) text_reads_step (f.Assign n x v) ∙ append-nil (assignment_reads x v)

pub reads_later : (n : ℕ) (ticks : Ticks) (x : Target) (v : Typed) → text_reads (y.Later n ticks x v) ≡ assignment_reads x v
reads_later n ticks x v =
    ap text_reads (sym (y.rolls-Later n ticks x v)) ∙ fold-roll-Statement (List BitRange) text_reads_step (f.Later n ticks x v) ∙ append-nil (assignment_reads x v)

pub reads_delay : (g : Global) (n : ℕ) (ticks : Ticks) (s : Statement) → text_reads (y.Delay n ticks (boxed g s)) ≡ text_reads s
reads_delay g n ticks s = ap text_reads (sym (y.rolls-Delay n ticks (boxed g s))) ∙ fold-roll-Statement (List BitRange) text_reads_step (f.Delay n ticks (boxed g s))

pub reads_event : (g : Global) (n : ℕ) (terms : Vec EventTerm Global) (s : Statement) → text_reads (y.Event n terms (boxed g s)) ≡ text_reads s
reads_event g n terms s = ap text_reads (sym (y.rolls-Event n terms (boxed g s))) ∙ fold-roll-Statement (List BitRange) text_reads_step (f.Event n terms (boxed g s))

pub reads_forever : (g : Global) (n : ℕ) (s : Statement) → text_reads (y.Forever n (boxed g s)) ≡ text_reads s
reads_forever g n s = ap text_reads (sym (y.rolls-Forever n (boxed g s))) ∙ fold-roll-Statement (List BitRange) text_reads_step (f.Forever n (boxed g s))

pub reads_block : (all : Vec Statement Global) → text_reads (y.Block all) ≡ joined (map text_reads all.items)
reads_block all = ap text_reads (sym (y.rolls-Block all)) ∙ fold-roll-Statement (List BitRange) text_reads_step (f.Block all)

-- ---- the delay controls of texts

pub controls_block : (all : Vec Statement Global) → controls_in (y.Block all) ≡ joined (map controls_in all.items)
controls_block all = ap controls_in (sym (y.rolls-Block all)) ∙ fold-roll-Statement (List ℕ) controls_step (f.Block all)

pub controls_assign : (n : ℕ) (x : Target) (v : Typed) → controls_in (y.Assign n x v) ≡ []
controls_assign n x v = ap controls_in (sym (y.rolls-Assign n x v)) ∙ fold-roll-Statement (List ℕ) controls_step (f.Assign n x v)

pub controls_later : (n : ℕ) (ticks : Ticks) (x : Target) (v : Typed) → controls_in (y.Later n ticks x v) ≡ []
controls_later n ticks x v = ap controls_in (sym (y.rolls-Later n ticks x v)) ∙ fold-roll-Statement (List ℕ) controls_step (f.Later n ticks x v)

pub controls_forever : (g : Global) (n : ℕ) (s : Statement) → controls_in (y.Forever n (boxed g s)) ≡ controls_in s
controls_forever g n s = ap controls_in (sym (y.rolls-Forever n (boxed g s))) ∙ fold-roll-Statement (List ℕ) controls_step (f.Forever n (boxed g s))

pub controls_delay : (g : Global) (n : ℕ) (ticks : Ticks) (s : Statement) → controls_in (y.Delay n ticks (boxed g s)) ≡ n ∷ controls_in s
controls_delay g n ticks s = ap controls_in (sym (y.rolls-Delay n ticks (boxed g s))) ∙ fold-roll-Statement (List ℕ) controls_step (f.Delay n ticks (boxed g s))

pub controls_event : (g : Global) (n : ℕ) (terms : Vec EventTerm Global) (s : Statement) → controls_in (y.Event n terms (boxed g s)) ≡ controls_in s
controls_event g n terms s = ap controls_in (sym (y.rolls-Event n terms (boxed g s))) ∙ fold-roll-Statement (List ℕ) controls_step (f.Event n terms (boxed g s))

-- ---- values

pub value_operand : (s : ℕ) (store : Store) (time : ℕ) → value_of (operand s) store time ≡ operand_value false 1 (word_of store s 0)
value_operand s store time =
    ap (λ x. value_of x store time) (sym (e.rolls-Signal (record { signal = s; width = 1; signed = false; sized = (lit< tt, lit≤ tt) })))
    ∙ fold-roll-Typed (List Digit) (value_step store time) (t.Signal (record { signal = s; width = 1; signed = false; sized = (lit< tt, lit≤ tt) }))

pub value_inverse : (g : Global) (store : Store) (time : ℕ) → value_of (inverse g) store time ≡ unary u.Not (value_of (operand 0) store time)
value_inverse g store time = ap (λ x. value_of x store time) (sym (e.rolls-Unary u.Not (boxed g (operand 0)))) ∙ fold-roll-Typed (List Digit) (value_step store time) (t.Unary u.Not (boxed g (operand 0)))

pub size_inverse : (g : Global) → size_of (inverse g) ≡ Some 1
size_inverse g =
    ap size_of (sym (e.rolls-Unary u.Not (boxed g (operand 0)))) ∙ fold-roll-Typed (Option ℕ) size_step (t.Unary u.Not (boxed g (operand 0)))
    ∙ ap (option_map (λ n. n)) (size_operand 0)

pub reads_inverse : (g : Global) → reads (inverse g) ≡ whole 0 ∷ []
reads_inverse g = ap reads (sym (e.rolls-Unary u.Not (boxed g (operand 0)))) ∙ fold-roll-Typed (List BitRange) reads_step (t.Unary u.Not (boxed g (operand 0))) ∙ reads_operand 0

-- an operator of one bit between two signals of one bit
pub value_between : (g : Global) (operator : Binary) (left right : ℕ) (store : Store) (time : ℕ) →
    value_of (between g operator left right) store time
    ≡ chained (value_of (operand left) store time) ((record { operator = operator; width = 1; signed = false; sized = (lit< tt, lit≤ tt) }, value_of (operand right) store time) ∷ [])
value_between g operator left right store time = ap (λ x. value_of x store time) (sym (e.rolls-Chain _ _)) ∙ fold-roll-Typed (List Digit) (value_step store time) (t.Chain _ _)

pub reads_between : (g : Global) (operator : Binary) (left right : ℕ) → reads (between g operator left right) ≡ whole left ∷ whole right ∷ []
reads_between g operator left right =
    ap reads (sym (e.rolls-Chain _ _)) ∙ fold-roll-Typed (List BitRange) reads_step (t.Chain _ _) ∙ rw (reads_operand left, reads_operand right) refl

pub size_between : (g : Global) (operator : Binary) (left right : ℕ) → size_of (between g operator left right) ≡ sized_by (sizing_of operator) 1 1 1
size_between g operator left right =
    ap size_of (sym (e.rolls-Chain _ _)) ∙ fold-roll-Typed (Option ℕ) size_step (t.Chain _ _) ∙ rw (size_operand left, size_operand right) refl

-- an operator, and a size to which an operand is brought
pub reads_unary : (g : Global) (op : Unary) (x : Typed) → reads (e.Unary op (boxed g x)) ≡ reads x
reads_unary g op x = ap reads (sym (e.rolls-Unary op (boxed g x))) ∙ fold-roll-Typed (List BitRange) reads_step (t.Unary op (boxed g x))

pub reads_resized : (g : Global) (size : Extension) (x : Typed) → reads (e.Resized size (boxed g x)) ≡ reads x
reads_resized g size x = ap reads (sym (e.rolls-Resized size (boxed g x))) ∙ fold-roll-Typed (List BitRange) reads_step (t.Resized size (boxed g x))

pub size_unary : (g : Global) (op : Unary) (x : Typed) → size_of (e.Unary op (boxed g x)) ≡ option_map (λ n. if gives_bit op then 1 else n) (size_of x)
size_unary g op x = ap size_of (sym (e.rolls-Unary op (boxed g x))) ∙ fold-roll-Typed (Option ℕ) size_step (t.Unary op (boxed g x))

pub size_resized : (g : Global) (size : Extension) (x : Typed) → size_of (e.Resized size (boxed g x)) ≡ option_map (λ n. size.width) (size_of x)
size_resized g size x = ap size_of (sym (e.rolls-Resized size (boxed g x))) ∙ fold-roll-Typed (Option ℕ) size_step (t.Resized size (boxed g x))

-- ---- sound texts

pub sound_delay : (ss : List Signal) (g : Global) (n : ℕ) (ticks : Ticks) (s : Statement) → is_sound_statement ss (y.Delay n ticks (boxed g s)) ≡ is_sound_statement ss s
sound_delay ss g n ticks s = ap (is_sound_statement ss) (sym (y.rolls-Delay n ticks (boxed g s))) ∙ fold-roll-Statement Bool (sound_step ss) (f.Delay n ticks (boxed g s))

pub sound_event : (ss : List Signal) (g : Global) (n : ℕ) (terms : Vec EventTerm Global) (s : Statement) → are_sound_terms ss terms.items ≡ true →
    is_sound_statement ss (y.Event n terms (boxed g s)) ≡ is_sound_statement ss s
sound_event ss g n terms s h =
    ap (is_sound_statement ss) (sym (y.rolls-Event n terms (boxed g s))) ∙ fold-roll-Statement Bool (sound_step ss) (f.Event n terms (boxed g s))
    ∙ ap (λ b. b && is_sound_statement ss s) h

pub sound_forever : (ss : List Signal) (g : Global) (n : ℕ) (s : Statement) → is_sound_statement ss (y.Forever n (boxed g s)) ≡ is_sound_statement ss s
sound_forever ss g n s = ap (is_sound_statement ss) (sym (y.rolls-Forever n (boxed g s))) ∙ fold-roll-Statement Bool (sound_step ss) (f.Forever n (boxed g s))

pub sound_block : (ss : List Signal) (all : Vec Statement Global) → is_sound_statement ss (y.Block all) ≡ list_all (λ b. b) (map (is_sound_statement ss) all.items)
sound_block ss all = ap (is_sound_statement ss) (sym (y.rolls-Block all)) ∙ fold-roll-Statement Bool (sound_step ss) (f.Block all)

pub numbers_delay : (g : Global) (n : ℕ) (ticks : Ticks) (s : Statement) → numbers (y.Delay n ticks (boxed g s)) ≡ n ∷ numbers s
numbers_delay g n ticks s = ap numbers (sym (y.rolls-Delay n ticks (boxed g s))) ∙ fold-roll-Statement (List ℕ) numbers_step (f.Delay n ticks (boxed g s))

pub numbers_event : (g : Global) (n : ℕ) (terms : Vec EventTerm Global) (s : Statement) → numbers (y.Event n terms (boxed g s)) ≡ n ∷ numbers s
numbers_event g n terms s = ap numbers (sym (y.rolls-Event n terms (boxed g s))) ∙ fold-roll-Statement (List ℕ) numbers_step (f.Event n terms (boxed g s))

pub numbers_forever : (g : Global) (n : ℕ) (s : Statement) → numbers (y.Forever n (boxed g s)) ≡ n ∷ numbers s
numbers_forever g n s = ap numbers (sym (y.rolls-Forever n (boxed g s))) ∙ fold-roll-Statement (List ℕ) numbers_step (f.Forever n (boxed g s))
