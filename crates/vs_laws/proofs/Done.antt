-- What is done at points that say the same.
use Rattle.std.proofs.Common.{◌≡◌, ℕ, false, Some, List, [], ◌∷◌, refl, ap, sym, subst, ◌∙◌, inl, inr}
use Rattle.std.specs.List.{Contains}
use Rattle.vs_syntax.specs.Same.{no_pair, pair_more}
use Rattle.vs_design.specs.vs_logic4.specs.declared.digit.Digit.{Digit}
use Rattle.vs_design.specs.declared.range.BitRange.{BitRange}
use Rattle.vs_design.specs.declared.statement.Call.{Call}
use Rattle.vs_design.specs.declared.statement.CallKind.{CallKind}
use Rattle.vs_design.specs.declared.statement.CallKind.TheVariants.{Display, Strobe}
use Rattle.vs_design.specs.declared.statement.Statement.{Statement}
use Rattle.vs_design.specs.declared.statement.Statement.TheOpen.{Statement-F}
use Rattle.vs_design.specs.declared.statement.Statement.TheOpen as f
use Rattle.vs_design.specs.declared.statement.Statement.TheViews.{out-Statement}
use Rattle.vs_design.specs.Parts.{Parts}
use Rattle.vs_design.specs.Statements.{call_reads}
use Rattle.vs_design.specs.Uses.{reads}
use Rattle.vs_process.specs.Drafts.{is_block}
use Rattle.vs_process.specs.Numbers.{number_of, number_next}
use Rattle.vs_process.specs.Places.{perform, turns, Todo}
use Rattle.vs_process.specs.Threads.{own_reads, own_shows, shown_by, todo_reads, todo_shows}
use Rattle.vs_elaborate.specs.Same.{SameCall}
use Rattle.vs_rules.specs.Blocks.{is_late_effect, has_late_effect, is_strobe, statement_surely, todo_surely}
use Rattle.vs_rules.specs.Claims.{Claims}
use Rattle.vs_rules.specs.Constants.{statement_assigns, todo_assigns, given_by, Gives}
use Rattle.vs_rules.specs.Paths.{Bit, Lists, ListsSignal, statement_now, statement_later, todo_now, todo_later, WritesNow, WritesLater, WritesAny, ReadsNow, ShowsNow}
use Rattle.vs_rules.specs.Rules.{Reads}
use Rattle.vs_design.specs.vs_logic4.proofs.Basics.{none_in}
use Rattle.vs_laws.proofs.Alike.{alike, AlikeLayer, of_null, of_assign, of_later, of_call, of_if, of_case, of_while, of_repeat}
use Rattle.vs_laws.proofs.SourceTexts.{beside, sides_read, args_read, choices_read}
use Rattle.vs_laws.proofs.Todos.{AlikeTodo, performs, turning}
use Rattle.vs_laws.proofs.Trees.{given_as, any_sure}

-- ---- by the statement that stands there

now_by : (x x' : Statement-F Statement) → AlikeLayer x x' → statement_now x ≡ statement_now x'
now_by _ _ (of_assign k t t' x x' m) = m.target.ranges
now_by _ _ _ = refl

later_by : (x x' : Statement-F Statement) → AlikeLayer x x' → statement_later x ≡ statement_later x'
later_by _ _ (of_later k n n' t t' x x' c m) = m.target.ranges
later_by _ _ _ = refl

reads_by : (x x' : Statement-F Statement) → AlikeLayer x x' → own_reads x ≡ own_reads x'
reads_by _ _ (of_assign k t t' x x' m) = sides_read t t' x x' m
reads_by _ _ (of_later k n n' t t' x x' c m) = sides_read t t' x x' m
reads_by _ _ (of_if k e e' x x' z z' h m r) = h.ranges
reads_by _ _ (of_case k kind e e' xs xs' h m) = beside (reads e) (reads e') _ _ h.ranges (choices_read xs.items xs'.items m)
reads_by _ _ (of_while k e e' x x' h m) = h.ranges
reads_by _ _ (of_repeat k signed e e' x x' h m) = h.ranges
reads_by _ _ _ = refl

shown_of : (kind : CallKind) (c c' : Call) → call_reads c ≡ call_reads c' → shown_by kind c ≡ shown_by kind c'
shown_of Display c c' h = h
shown_of Strobe c c' h = refl

shown_same : (c c' : Call) → SameCall c c' → shown_by c.kind c ≡ shown_by c'.kind c'
shown_same c c' h = ap (λ (kind : CallKind). shown_by kind c) h.kind ∙ shown_of c'.kind c c' (args_read c.args.items c'.args.items h.args)

shows_by : (x x' : Statement-F Statement) → AlikeLayer x x' → own_shows x ≡ own_shows x'
shows_by _ _ (of_call k c c' m) = shown_same c c' m
shows_by _ _ _ = refl

late_by : (x x' : Statement-F Statement) → AlikeLayer x x' → is_late_effect x ≡ is_late_effect x'
late_by _ _ (of_call k c c' m) = ap is_strobe m.kind
late_by _ _ _ = refl

surely_by : (b : Bit) (x x' : Statement-F Statement) → AlikeLayer x x' → statement_surely b x ≡ statement_surely b x'
surely_by b _ _ (of_assign k t t' x x' m) = any_sure b t.parts.items t'.parts.items m.target.places
surely_by b _ _ _ = refl

gives_by : (b : Bit) (x x' : Statement-F Statement) → AlikeLayer x x' → given_by (statement_assigns x) b ≡ given_by (statement_assigns x') b
gives_by b _ _ (of_assign k t t' x x' m) = given_as t t' x x' b m
gives_by b _ _ (of_later k n n' t t' x x' c m) = given_as t t' x x' b m
gives_by b _ _ _ = refl

number_by : (x x' : Statement-F Statement) → AlikeLayer x x' → number_of x ≡ number_of x'
number_by _ _ (of_null k) = refl
number_by _ _ _ = refl

-- ---- at a point

pub now_same : (k k' : Todo) → AlikeTodo k k' → todo_now k ≡ todo_now k'
now_same _ _ no_pair = refl
now_same _ _ (pair_more _ _ rest rest' (performs _ _ (alike s s' l)) r) = now_by (out-Statement s) (out-Statement s') l
now_same _ _ (pair_more _ _ rest rest' (turning n s s' m) r) = refl

pub later_same : (k k' : Todo) → AlikeTodo k k' → todo_later k ≡ todo_later k'
later_same _ _ no_pair = refl
later_same _ _ (pair_more _ _ rest rest' (performs _ _ (alike s s' l)) r) = later_by (out-Statement s) (out-Statement s') l
later_same _ _ (pair_more _ _ rest rest' (turning n s s' m) r) = refl

reads_here : (k k' : Todo) → AlikeTodo k k' → todo_reads k ≡ todo_reads k'
reads_here _ _ no_pair = refl
reads_here _ _ (pair_more _ _ rest rest' (performs _ _ (alike s s' l)) r) = reads_by (out-Statement s) (out-Statement s') l
reads_here _ _ (pair_more _ _ rest rest' (turning n s s' m) r) = refl

shows_here : (k k' : Todo) → AlikeTodo k k' → todo_shows k ≡ todo_shows k'
shows_here _ _ no_pair = refl
shows_here _ _ (pair_more _ _ rest rest' (performs _ _ (alike s s' l)) r) = shows_by (out-Statement s) (out-Statement s') l
shows_here _ _ (pair_more _ _ rest rest' (turning n s s' m) r) = refl

pub late_same : (k k' : Todo) → AlikeTodo k k' → has_late_effect k ≡ has_late_effect k'
late_same _ _ no_pair = refl
late_same _ _ (pair_more _ _ rest rest' (performs _ _ (alike s s' l)) r) = late_by (out-Statement s) (out-Statement s') l
late_same _ _ (pair_more _ _ rest rest' (turning n s s' m) r) = refl

pub surely_same : (b : Bit) (k k' : Todo) → AlikeTodo k k' → todo_surely b k ≡ todo_surely b k'
surely_same b _ _ no_pair = refl
surely_same b _ _ (pair_more _ _ rest rest' (performs _ _ (alike s s' l)) r) = surely_by b (out-Statement s) (out-Statement s') l
surely_same b _ _ (pair_more _ _ rest rest' (turning n s s' m) r) = refl

gives_same : (b : Bit) (k k' : Todo) → AlikeTodo k k' → given_by (todo_assigns k) b ≡ given_by (todo_assigns k') b
gives_same b _ _ no_pair = refl
gives_same b _ _ (pair_more _ _ rest rest' (performs _ _ (alike s s' l)) r) = gives_by b (out-Statement s) (out-Statement s') l
gives_same b _ _ (pair_more _ _ rest rest' (turning n s s' m) r) = refl

pub number_same : (k k' : Todo) → AlikeTodo k k' → number_next k ≡ number_next k'
number_same _ _ no_pair = refl
number_same _ _ (pair_more _ _ rest rest' (performs _ _ (alike s s' l)) r) = number_by (out-Statement s) (out-Statement s') l
number_same _ _ (pair_more _ _ rest rest' (turning n s s' m) r) = refl

-- ---- what a point writes, reads and gives

pub lists_same : (d d' : Parts) (rs rs' : List BitRange) (r : BitRange) → rs ≡ rs' → Lists d rs r → Lists d' rs' r
lists_same d d' rs rs' r e h = (subst (λ (z : List BitRange). Contains z r) e h.0, h.1)

pub listed_as : (d d' : Parts) (rs rs' : List BitRange) (v : ℕ) → rs ≡ rs' → ListsSignal d rs v → ListsSignal d' rs' v
listed_as d d' rs rs' v e h = record { range = h.range; listed = lists_same d d' rs rs' h.range e h.listed; of = h.of }

pub writes_now_as : (d d' : Parts) (k k' : Todo) (v : ℕ) → AlikeTodo k k' → WritesNow d k v → WritesNow d' k' v
writes_now_as d d' k k' v h w = listed_as d d' (todo_now k) (todo_now k') v (now_same k k' h) w

pub writes_later_as : (d d' : Parts) (k k' : Todo) (v : ℕ) → AlikeTodo k k' → WritesLater d k v → WritesLater d' k' v
writes_later_as d d' k k' v h w = listed_as d d' (todo_later k) (todo_later k') v (later_same k k' h) w

pub writes_any_as : (d d' : Parts) (k k' : Todo) (v : ℕ) → AlikeTodo k k' → WritesAny d k v → WritesAny d' k' v
writes_any_as d d' k k' v h (inl w) = inl (writes_now_as d d' k k' v h w)
writes_any_as d d' k k' v h (inr w) = inr (writes_later_as d d' k k' v h w)

pub reads_now_as : (d d' : Parts) (k k' : Todo) (r : BitRange) → AlikeTodo k k' → ReadsNow d k r → ReadsNow d' k' r
reads_now_as d d' k k' r h w = lists_same d d' (todo_reads k) (todo_reads k') r (reads_here k k' h) w

pub shows_now_as : (d d' : Parts) (k k' : Todo) (r : BitRange) → AlikeTodo k k' → ShowsNow d k r → ShowsNow d' k' r
shows_now_as d d' k k' r h w = lists_same d d' (todo_shows k) (todo_shows k') r (shows_here k k' h) w

pub reads_as : (d d' : Parts) (c : Claims) (k k' : Todo) (r : BitRange) → AlikeTodo k k' → Reads d c k r → Reads d' c k' r
reads_as d d' c k k' r h (inl w) = inl (reads_now_as d d' k k' r h w)
reads_as d d' c k k' r h (inr w) = inr (w.0, shows_now_as d d' k k' r h w.1)

pub gives_digit_as : (b : Bit) (digit : Digit) (k k' : Todo) → AlikeTodo k k' → Gives k b digit → Gives k' b digit
gives_digit_as b digit k k' h g = sym (gives_same b k k' h) ∙ g

-- ---- a statement with a number stands where something is read or written

pub record HasNumber (k : Todo) : Type 0 where
  pub number : ℕ
  pub is : number_next k ≡ Some number

numbered : (x : Statement-F Statement) → is_block x ≡ false → (n : ℕ) × (number_of x ≡ Some n)
numbered (f.Null n) h = (n, refl)
numbered (f.Assign n t e) h = (n, refl)
numbered (f.Later n ticks t e) h = (n, refl)
numbered (f.Call n c) h = (n, refl)
numbered (f.Finish n) h = (n, refl)
numbered (f.Block all) h = cc
numbered (f.Delay n ticks body) h = (n, refl)
numbered (f.Event n terms body) h = (n, refl)
numbered (f.If n e a b) h = (n, refl)
numbered (f.Case n kind e items) h = (n, refl)
numbered (f.While n e body) h = (n, refl)
numbered (f.Repeat n signed e body) h = (n, refl)
numbered (f.Forever n body) h = (n, refl)

-- a block reads, writes and shows nothing by itself
reads_single : (x : Statement-F Statement) (r : BitRange) → Contains (own_reads x) r → is_block x ≡ false
reads_single (f.Block all) r c = absurd (none_in r c)
reads_single _ r c = refl

shows_single : (x : Statement-F Statement) (r : BitRange) → Contains (own_shows x) r → is_block x ≡ false
shows_single (f.Block all) r c = absurd (none_in r c)
shows_single _ r c = refl

now_single : (x : Statement-F Statement) (r : BitRange) → Contains (statement_now x) r → is_block x ≡ false
now_single (f.Block all) r c = absurd (none_in r c)
now_single _ r c = refl

later_single : (x : Statement-F Statement) (r : BitRange) → Contains (statement_later x) r → is_block x ≡ false
later_single (f.Block all) r c = absurd (none_in r c)
later_single _ r c = refl

at_statement : (s : Statement) (rest : Todo) → is_block (out-Statement s) ≡ false → HasNumber (perform s ∷ rest)
at_statement s rest h = let n = numbered (out-Statement s) h in record { number = n.0; is = n.1 }

pub reads_numbered : (k : Todo) (r : BitRange) → Contains (todo_reads k) r → HasNumber k
reads_numbered [] r c = absurd (none_in r c)
reads_numbered (perform s ∷ rest) r c = at_statement s rest (reads_single (out-Statement s) r c)
reads_numbered (turns n s ∷ rest) r c = absurd (none_in r c)

pub shows_numbered : (k : Todo) (r : BitRange) → Contains (todo_shows k) r → HasNumber k
shows_numbered [] r c = absurd (none_in r c)
shows_numbered (perform s ∷ rest) r c = at_statement s rest (shows_single (out-Statement s) r c)
shows_numbered (turns n s ∷ rest) r c = absurd (none_in r c)

pub now_numbered : (k : Todo) (r : BitRange) → Contains (todo_now k) r → HasNumber k
now_numbered [] r c = absurd (none_in r c)
now_numbered (perform s ∷ rest) r c = at_statement s rest (now_single (out-Statement s) r c)
now_numbered (turns n s ∷ rest) r c = absurd (none_in r c)

pub later_numbered : (k : Todo) (r : BitRange) → Contains (todo_later k) r → HasNumber k
later_numbered [] r c = absurd (none_in r c)
later_numbered (perform s ∷ rest) r c = at_statement s rest (later_single (out-Statement s) r c)
later_numbered (turns n s ∷ rest) r c = absurd (none_in r c)

pub read_number : (d : Parts) (c : Claims) (k : Todo) (r : BitRange) → Reads d c k r → HasNumber k
read_number d c k r (inl h) = reads_numbered k r h.0
read_number d c k r (inr h) = shows_numbered k r h.1.0

pub write_number : (d : Parts) (k : Todo) (v : ℕ) → WritesAny d k v → HasNumber k
write_number d k v (inl h) = now_numbered k h.range h.listed.0
write_number d k v (inr h) = later_numbered k h.range h.listed.0
