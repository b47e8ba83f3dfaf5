-- What a step reads is named by a statement that was to be done, and what a process reads by its body.
use Rattle.std.proofs.Common.{◌≡◌, ℕ, zero, suc, false, Option, Some, List, [], ◌∷◌, ◌++◌, map, slice_get, refl, sym, ◌∙◌, ap, ap₂, subst, append_assoc, arith}
use Rattle.std.specs.List.{All, Contains, list_any}
use Rattle.std.specs.declared.vec.Vec.{Vec}
use Rattle.std.specs.declared.alloc.Global.{Global}
use Rattle.std.proofs.lemmas.Bool.{or_parts}
use Rattle.std.proofs.lemmas.List.{append-nil}
use Rattle.std.proofs.lemmas.List.Elements.{All-contains_itself}
use Rattle.std.proofs.lemmas.List.Folds.{list_any-append}
use Rattle.vs_design.specs.vs_logic4.specs.Comparisons.{truth}
use Rattle.vs_design.specs.declared.expression.Typed.{Typed}
use Rattle.vs_design.specs.declared.range.BitRange.{BitRange}
use Rattle.vs_design.specs.declared.statement.Call.{Call}
use Rattle.vs_design.specs.declared.statement.CallKind.{CallKind}
use Rattle.vs_design.specs.declared.statement.CallKind.TheVariants.{Display, Strobe}
use Rattle.vs_design.specs.declared.statement.FormatArg.{FormatArg}
use Rattle.vs_design.specs.declared.statement.FormatArg.TheVariants.{Value, Time}
use Rattle.vs_design.specs.declared.statement.Statement.{Statement}
use Rattle.vs_design.specs.declared.statement.Statement.TheVariants.{Block, rolls-Block}
use Rattle.vs_design.specs.declared.statement.Statement.TheOpen.{Statement-F}
use Rattle.vs_design.specs.declared.statement.Statement.TheViews.{out-Statement}
use Rattle.vs_design.specs.declared.statement.Statement.TheFolds.{fold-roll-Statement, fold_out-Statement, map-Statement}
use Rattle.vs_design.specs.Statements.{all_reads, arg_reads, statement_reads, statement_reads_step}
use Rattle.vs_design.specs.Stores.{Store, is_changed}
use Rattle.vs_design.specs.Uses.{joined, reads}
use Rattle.vs_process.specs.vs_eval.specs.Values.{value_of}
use Rattle.vs_process.specs.vs_strobe.specs.declared.piece.FormatPiece.{FormatPiece}
use Rattle.vs_process.specs.vs_strobe.specs.declared.piece.FormatPiece.TheVariants.{Byte, Path, Shown}
use Rattle.vs_process.specs.vs_strobe.specs.Lines.{Format, arg_value, format_of_call, full_line, is_signed, pieces_text}
use Rattle.vs_process.specs.vs_strobe.specs.Values.{shown_text}
use Rattle.vs_process.specs.Drafts.{flat_all}
use Rattle.vs_process.specs.Landings.{todo_after}
use Rattle.vs_process.specs.Places.{Item, perform, turns, Todo, flat}
use Rattle.vs_process.specs.Steps.{Out, display_line, flat_item, repeated, statement_step, step, strobe_call, turns_for}
use Rattle.vs_process.proofs.Values.{value_unchanged}
use Rattle.vs_process.proofs.WellFormed.{branch_each}
use Rattle.vs_process.specs.ThreadLaws.{IsLeft, start, behind}
use Rattle.vs_process.proofs.Among.{Among, both_among, left_of, none_among, right_of}
use Rattle.vs_process.specs.Reads.{AllReadsAreThere, IsNamedByOne, LinesReadWhatIsNamed, NoReadIsAdded, ProcessesReadWhatIsNamed, ReadsAreNamed, StrobesReadWhatIsNamed, all_named_reads, mute, named_reads}
use Rattle.vs_process.specs.Threads.{item_reads, own_reads, own_shows, shown_by, todo_reads, todo_shows}
use Rattle.vs_process.proofs.StepReads.{step_reads}
use Rattle.vs_process.proofs.ThreadsTodos.{flat_each, taken_each}

all_among : (some all : List BitRange) → Among some all → All (Contains all) some
all_among some all among k d h = among _ (All-contains_itself some k d h)

-- ---- a statement, blocks opened

append-named : (a b : Todo) → all_named_reads (a ++ b) ≡ all_named_reads a ++ all_named_reads b
append-named [] b = refl
append-named (i ∷ a) b = ap (λ rs. named_reads i ++ rs) (append-named a b) ∙ sym (append_assoc (named_reads i) (all_named_reads a) (all_named_reads b))

block_reads : (v : Vec Statement Global) → statement_reads (Block v) ≡ joined (map statement_reads v.items)
block_reads v = ap statement_reads (sym (rolls-Block v)) ∙ fold-roll-Statement (List BitRange) statement_reads_step (Statement-F.Block v)

-- what is to be done for a statement names what the statement reads
pub all_there : AllReadsAreThere
all_there =
    flat_each (λ s todo. all_named_reads todo ≡ statement_reads s) (λ s. append-nil (statement_reads s))
    (λ v each. row v.items each ∙ sym (block_reads v))
  where
    row : (xs : List Statement) → ((i : ℕ) (s : Statement) → slice_get xs i ≡ Some s → all_named_reads (flat s) ≡ statement_reads s) →
        all_named_reads (flat_all xs) ≡ joined (map statement_reads xs)
    row [] h = refl
    row (x ∷ xs) h = append-named (flat x) (flat_all xs) ∙ ap₂ (λ a b. a ++ b) (h 0 x refl) (row xs (λ i. h (suc i)))

-- a statement in front of what else is to be done
flat_among : (all : List BitRange) (s : Statement) (rest : Todo) → Among (statement_reads s) all → Among (all_named_reads rest) all →
    Among (all_named_reads (flat s ++ rest)) all
flat_among all s rest h r q c =
    both_among (statement_reads s) (all_named_reads rest) all h r q
    (subst (λ l. Contains l q) (append-named (flat s) rest ∙ ap (λ rs. rs ++ all_named_reads rest) (all_there s)) c)

-- the test of a `repeat`
repeated_among : (all : List BitRange) (n : ℕ) (s : Statement) (rest : Todo) → Among (statement_reads s) all → Among (all_named_reads rest) all →
    Among (all_named_reads (repeated n s rest)) all
repeated_among all zero s rest h r = r
repeated_among all (suc n) s rest h r = flat_among all s (turns n s ∷ rest) h (both_among (statement_reads s) (all_named_reads rest) all h r)

-- ---- one layer of a statement

-- the ranges that the items of a `case` and their statements read
abbrev case_reads : List (Vec Typed Global × Statement) → List BitRange
case_reads items =
    joined (map (λ (i : Vec Typed Global × List BitRange). all_reads i.0.items ++ i.1) (map (λ (i : Vec Typed Global × Statement). (i.0, statement_reads i.1)) items))

labels_among : (items : List (Vec Typed Global × Statement)) → Among (joined (map item_reads items)) (case_reads items)
labels_among [] = λ r h. h
labels_among (i ∷ items) =
    let one = item_reads i ++ statement_reads i.1 in
    both_among (item_reads i) (joined (map item_reads items)) (one ++ case_reads items)
    (λ r c. left_of one (case_reads items) r (left_of (item_reads i) (statement_reads i.1) r c)) (λ r c. right_of one (case_reads items) r (labels_among items r c))

item_among : (items : List (Vec Typed Global × Statement)) (i : ℕ) (z : Vec Typed Global × Statement) → slice_get items i ≡ Some z →
    Among (statement_reads z.1) (case_reads items)
item_among [] i z is = cc
item_among (y ∷ items) zero z is =
    let e : y ≡ z = cc in
    λ r c. left_of (item_reads y ++ statement_reads y.1) (case_reads items) r
    (right_of (item_reads y) (statement_reads y.1) r (subst (λ (t : Vec Typed Global × Statement). Contains (statement_reads t.1) r) (sym e) c))
item_among (y ∷ items) (suc i) z is = λ r c. right_of (item_reads y ++ statement_reads y.1) (case_reads items) r (item_among items i z is r c)

abbrev layer_reads : Statement-F Statement → List BitRange
layer_reads f = statement_reads_step (map-Statement Statement (List BitRange) statement_reads f)

reads_out : (s : Statement) → statement_reads s ≡ layer_reads (out-Statement s)
reads_out s = fold_out-Statement (List BitRange) statement_reads_step s

-- what the step of a statement reads, the statement names
own_among : (f : Statement-F Statement) → Among (own_reads f) (layer_reads f)
own_among (Statement-F.Assign n t e) = λ r h. h
own_among (Statement-F.Later n ticks t e) = λ r h. h
own_among (Statement-F.If n e a b) =
    λ r c. left_of (reads e ++ statement_reads a.value) (statement_reads b.value) r (left_of (reads e) (statement_reads a.value) r c)
own_among (Statement-F.Case n kind x items) =
    both_among (reads x) (joined (map item_reads items.items)) (reads x ++ case_reads items.items) (left_of (reads x) (case_reads items.items))
    (λ r c. right_of (reads x) (case_reads items.items) r (labels_among items.items r c))
own_among (Statement-F.While n e body) = left_of (reads e) (statement_reads body.value)
own_among (Statement-F.Repeat n signed e body) = left_of (reads e) (statement_reads body.value)
own_among f = left_of [] (layer_reads f)

own_named : (s : Statement) → Among (own_reads (out-Statement s)) (statement_reads s)
own_named s r c = subst (λ l. Contains l r) (sym (reads_out s)) (own_among (out-Statement s) r c)

-- ---- where a step leads

statement_among : (all : List BitRange) (s : Statement) (f : Statement-F Statement) (rest : Todo) (store : Store) (time : ℕ) →
    Among (statement_reads s) all → Among (layer_reads f) all → Among (all_named_reads rest) all →
    Among (all_named_reads (todo_after (statement_step s f rest store time).next)) all
statement_among all s (Statement-F.Null n) rest store time own h r = r
statement_among all s (Statement-F.Assign n t e) rest store time own h r = r
statement_among all s (Statement-F.Later n ticks t e) rest store time own h r = r
statement_among all s (Statement-F.Call n c) rest store time own h r = r
statement_among all s (Statement-F.Finish n) rest store time own h r = r
statement_among all s (Statement-F.Block v) rest store time own h r = flat_among all s rest own r
statement_among all s (Statement-F.Delay n ticks body) rest store time own h r = flat_among all body.value rest h r
statement_among all s (Statement-F.Event n terms body) rest store time own h r = flat_among all body.value rest h r
statement_among all s (Statement-F.If n e a b) rest store time own h r =
    let front = reads e ++ statement_reads a.value in
    branch_each (λ (t : Todo). Among (all_named_reads (t ++ rest)) all) (truth (value_of e store time)) (flat a.value) (flat b.value)
    (flat_among all a.value rest (λ q c. h q (left_of front (statement_reads b.value) q (right_of (reads e) (statement_reads a.value) q c))) r)
    (flat_among all b.value rest (λ q c. h q (right_of front (statement_reads b.value) q c)) r)
statement_among all s (Statement-F.Case n kind x items) rest store time own h r =
    taken_each (λ o. Among (all_named_reads (flat_item o ++ rest)) all) kind (value_of x store time) store time items.items (λ none. r)
    (λ i z is. flat_among all z.1 rest (λ q c. h q (right_of (reads x) (case_reads items.items) q (item_among items.items i z is q c))) r)
statement_among all s (Statement-F.While n e body) rest store time own h r =
    branch_each (λ (t : Todo). Among (all_named_reads t) all) (truth (value_of e store time)) (flat body.value ++ perform s ∷ rest) rest
    (flat_among all body.value (perform s ∷ rest) (λ q c. h q (right_of (reads e) (statement_reads body.value) q c))
    (both_among (statement_reads s) (all_named_reads rest) all own r)) r
statement_among all s (Statement-F.Repeat n signed e body) rest store time own h r =
    repeated_among all (turns_for signed (value_of e store time)) body.value rest (λ q c. h q (right_of (reads e) (statement_reads body.value) q c)) r
statement_among all s (Statement-F.Forever n body) rest store time own h r =
    flat_among all body.value (perform s ∷ rest) h (both_among (statement_reads s) (all_named_reads rest) all own r)

step_among : (todo : Todo) (store : Store) (time : ℕ) → Among (all_named_reads (todo_after (step todo store time).next)) (all_named_reads todo)
step_among [] store time = λ r h. h
step_among (perform s ∷ rest) store time =
    let all = statement_reads s ++ all_named_reads rest in
    let own = left_of (statement_reads s) (all_named_reads rest) in
    statement_among all s (out-Statement s) rest store time own (λ r c. own r (subst (λ l. Contains l r) (sym (reads_out s)) c)) (right_of (statement_reads s) (all_named_reads rest))
step_among (turns n s ∷ rest) store time =
    repeated_among (statement_reads s ++ all_named_reads rest) n s rest (left_of (statement_reads s) (all_named_reads rest)) (right_of (statement_reads s) (all_named_reads rest))

pub left : NoReadIsAdded
left todo store time = all_among (all_named_reads (todo_after (step todo store time).next)) (all_named_reads todo) (step_among todo store time)

-- ---- what a step reads

-- a range that the next thing to be done names
named_next : (i : Item) (rest : Todo) (r : BitRange) → Contains (named_reads i) r → IsNamedByOne (i ∷ rest) r
named_next i rest r h = record { item = i; is_to_do = (0, omega arith, refl); named = h }

pub named : ReadsAreNamed
named [] k d h = absurd (omega (arith, h))
named (perform s ∷ rest) k d h =
    let own = own_reads (out-Statement s) in
    named_next (perform s) rest _ (own_named s _ (All-contains_itself own k d h))
named (turns n s ∷ rest) k d h = absurd (omega (arith, h))

-- what the next step reads is among what is named
next_among : (todo : Todo) → Among (todo_reads todo) (all_named_reads todo)
next_among [] = λ r h. h
next_among (perform s ∷ rest) = λ r c. left_of (statement_reads s) (all_named_reads rest) r (own_named s r c)
next_among (turns n s ∷ rest) = left_of [] (all_named_reads (turns n s ∷ rest))

-- ---- lines

arg_kept : (a b : Store) (ratio : ℕ) (x : FormatArg) (time : ℕ) → list_any (is_changed a b) (arg_reads x) ≡ false → arg_value ratio x a time ≡ arg_value ratio x b time
arg_kept a b ratio (Value signed e) time h = value_unchanged a b time time e h
arg_kept a b ratio Time time h = refl

-- what pieces and their arguments print
pieces_kept : (a b : Store) (f : Format) (time : ℕ) (ps : List FormatPiece) (args : List FormatArg) → list_any (is_changed a b) (joined (map arg_reads args)) ≡ false →
    pieces_text f a time ps args ≡ pieces_text f b time ps args
pieces_kept a b f time [] args h = refl
pieces_kept a b f time (Byte x ∷ ps) args h = ap (λ t. x ∷ t) (pieces_kept a b f time ps args h)
pieces_kept a b f time (Path ∷ ps) args h = ap (λ t. f.path ++ t) (pieces_kept a b f time ps args h)
pieces_kept a b f time (Shown show bare ∷ ps) [] h = pieces_kept a b f time ps [] h
pieces_kept a b f time (Shown show bare ∷ ps) (x ∷ args) h =
    let parts = or_parts (list_any (is_changed a b) (arg_reads x)) (list_any (is_changed a b) (joined (map arg_reads args))) (sym (list_any-append (is_changed a b) (arg_reads x) (joined (map arg_reads args))) ∙ h) in
    ap₂ (λ v t. shown_text show bare f.ratio (is_signed x) v ++ t) (arg_kept a b f.ratio x time parts.0) (pieces_kept a b f time ps args parts.1)

line_kept : (a b : Store) (f : Format) (time : ℕ) → list_any (is_changed a b) (joined (map arg_reads f.args)) ≡ false → full_line f a time ≡ full_line f b time
line_kept a b f time h = ap (λ t. t ++ 10 ∷ []) (pieces_kept a b f time f.pieces f.args h)

display_kept : (a b : Store) (kind : CallKind) (f : Format) (time : ℕ) → list_any (is_changed a b) (joined (map arg_reads f.args)) ≡ false →
    display_line kind f a time ≡ display_line kind f b time
display_kept a b Display f time h = ap (λ t. Some t) (line_kept a b f time h)
display_kept a b Strobe f time h = refl

strobe_kept : (a b : Store) (kind : CallKind) (g f : Format) (end : ℕ) → list_any (is_changed a b) (joined (map arg_reads g.args)) ≡ false → strobe_call kind g ≡ Some f →
    full_line f a end ≡ full_line f b end
strobe_kept a b Display g f end h is = cc
strobe_kept a b Strobe g f end h is = let e : g ≡ f = cc in subst (λ x. full_line x a end ≡ full_line x b end) e (line_kept a b g end h)

statement_line : (a b : Store) (s : Statement) (f : Statement-F Statement) (rest : Todo) (time : ℕ) → list_any (is_changed a b) (layer_reads f) ≡ false →
    (statement_step s f rest a time).line ≡ (statement_step s f rest b time).line
statement_line a b s (Statement-F.Call n c) rest time h = display_kept a b c.kind (format_of_call c) time h
statement_line a b s f rest time h = refl

statement_strobe : (a b : Store) (s : Statement) (layer : Statement-F Statement) (rest : Todo) (store : Store) (time : ℕ) (f : Format) (end : ℕ) →
    list_any (is_changed a b) (layer_reads layer) ≡ false → (statement_step s layer rest store time).call ≡ Some f → full_line f a end ≡ full_line f b end
statement_strobe a b s (Statement-F.Call n c) rest store time f end h is = strobe_kept a b c.kind (format_of_call c) f end h is
statement_strobe a b s layer rest store time f end h is = cc

-- where nothing that is named is changed, nothing is that the next statement names
next_kept : (a b : Store) (s : Statement) (rest : Todo) → list_any (is_changed a b) (all_named_reads (perform s ∷ rest)) ≡ false → list_any (is_changed a b) (layer_reads (out-Statement s)) ≡ false
next_kept a b s rest h =
    none_among (is_changed a b) (layer_reads (out-Statement s)) (all_named_reads (perform s ∷ rest))
    (λ r c. left_of (statement_reads s) (all_named_reads rest) r (subst (λ l. Contains l r) (sym (reads_out s)) c)) h

step_line : (a b : Store) (todo : Todo) (time : ℕ) → list_any (is_changed a b) (all_named_reads todo) ≡ false → (step todo a time).line ≡ (step todo b time).line
step_line a b [] time h = refl
step_line a b (perform s ∷ rest) time h = statement_line a b s (out-Statement s) rest time (next_kept a b s rest h)
step_line a b (turns n s ∷ rest) time h = refl

shown_kept : (a b : Store) (kind : CallKind) (c : Call) (time : ℕ) → list_any (is_changed a b) (shown_by kind c) ≡ false →
    display_line kind (format_of_call c) a time ≡ display_line kind (format_of_call c) b time
shown_kept a b Display c time h = ap (λ t. Some t) (line_kept a b (format_of_call c) time h)
shown_kept a b Strobe c time h = refl

own_line : (a b : Store) (s : Statement) (f : Statement-F Statement) (rest : Todo) (time : ℕ) → list_any (is_changed a b) (own_shows f) ≡ false →
    (statement_step s f rest a time).line ≡ (statement_step s f rest b time).line
own_line a b s (Statement-F.Call n c) rest time h = shown_kept a b c.kind c time h
own_line a b s f rest time h = refl

-- the line of a step is the same in two stores between which nothing that it shows is changed
pub line_shown : (a b : Store) (todo : Todo) (time : ℕ) → list_any (is_changed a b) (todo_shows todo) ≡ false → (step todo a time).line ≡ (step todo b time).line
line_shown a b [] time h = refl
line_shown a b (perform s ∷ rest) time h = own_line a b s (out-Statement s) rest time h
line_shown a b (turns n s ∷ rest) time h = refl

pub strobes : StrobesReadWhatIsNamed
strobes [] store time f is a b end h = cc
strobes (perform s ∷ rest) store time f is a b end h = statement_strobe a b s (out-Statement s) rest store time f end (next_kept a b s rest h) is
strobes (turns n s ∷ rest) store time f is a b end h = cc

with_line : (x y : Out) → mute x ≡ mute y → x.line ≡ y.line → x ≡ y
with_line x y m l = ap₂ (λ (o : Out) (line : Option (List ℕ)). record o { line = line }) m l

pub lines : LinesReadWhatIsNamed
lines a b todo time h =
    with_line (step todo a time) (step todo b time)
    (step_reads a b todo time (none_among (is_changed a b) (todo_reads todo) (all_named_reads todo) (next_among todo) h)) (step_line a b todo time h)

-- ---- a process

-- what is named behind some steps is among what the body reads
left_among : (body : Statement) (todo : Todo) → IsLeft body todo → Among (all_named_reads todo) (statement_reads body)
left_among body _ start = λ r h. subst (λ l. Contains l r) (all_there body) h
left_among body _ (behind todo store time l) = λ r h. left_among body todo l r (step_among todo store time r h)

unchanged : (body : Statement) (todo : Todo) → IsLeft body todo → (a b : Store) → list_any (is_changed a b) (statement_reads body) ≡ false → list_any (is_changed a b) (all_named_reads todo) ≡ false
unchanged body todo l a b h = none_among (is_changed a b) (all_named_reads todo) (statement_reads body) (left_among body todo l) h

pub processes : ProcessesReadWhatIsNamed
processes = record {
  named = λ body todo l. all_among (todo_reads todo) (statement_reads body) (λ r c. left_among body todo l r (next_among todo r c));
  same = λ body a b todo time l h. lines a b todo time (unchanged body todo l a b h);
  strobes = λ body todo store time f l is a b end h. strobes todo store time f is a b end (unchanged body todo l a b h);
}
