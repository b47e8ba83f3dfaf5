-- What a step writes is named by a statement that was to be done, and what a process writes by its body.
use Rattle.std.proofs.Common.{◌≡◌, ℕ, zero, suc, ◌<◌, Bool, Some, None, List, [], ◌∷◌, length, refl, sym, ◌∙◌, subst, arith}
use Rattle.std.specs.Prelude.{slice_index_or}
use Rattle.std.specs.List.{Contains}
use Rattle.std.proofs.lemmas.List.Elements.{All-contains_itself}
use Rattle.vs_design.specs.declared.expression.Typed.{Typed}
use Rattle.vs_design.specs.declared.range.BitRange.{BitRange}
use Rattle.vs_design.specs.declared.statement.Statement.{Statement}
use Rattle.vs_design.specs.declared.statement.Statement.TheOpen.{Statement-F}
use Rattle.vs_design.specs.declared.statement.Statement.TheViews.{out-Statement}
use Rattle.vs_design.specs.declared.statement.Target.{Target}
use Rattle.vs_design.specs.Stores.{Store}
use Rattle.vs_design.specs.Uses.{covers, is_of, writes}
use Rattle.vs_design.specs.Writes.{Write}
use Rattle.vs_process.specs.vs_eval.specs.Values.{target_value}
use Rattle.vs_process.specs.vs_eval.proofs.WritesHold.{parts_keep}
use Rattle.vs_process.specs.Places.{Item, perform, turns, Todo}
use Rattle.vs_process.specs.Landings.{todo_after}
use Rattle.vs_process.specs.Steps.{Out, assignment, step, statement_step}
use Rattle.vs_process.proofs.Ranges.{assigned_names}
use Rattle.vs_process.specs.ThreadLaws.{AllAreThere, IsLeft, start, behind, LiesIn, LiesInOne, NoneIsAdded, ProcessesWriteWhatIsNamed, UpdatesAreNamed, WritesAreNamed}
use Rattle.vs_process.specs.Writes.{item_writes, statement_writes, todo_writes}
use Rattle.vs_process.proofs.Among.{Among, left_of, none_among, right_of}
use Rattle.vs_process.proofs.Todos.{all_there, layer_writes, step_among, writes_out}

-- ---- a step

-- the write of an assignment lies in the ranges of its target
assigned_lies : (t : Target) (e : Typed) (store : Store) (time : ℕ) → LiesIn (writes t) (assignment t e store time)
assigned_lies t e store time = record {
  signals = λ v h. assigned_names t (target_value t e store time) store time v ∙ h;
  digits = λ s signal word place h. parts_keep store time signal word place 0 t.parts.items (target_value t e store time) s h;
}

-- the write and the update of what a step makes lie in ranges
record Lie (ranges : List BitRange) (out : Out) : Type 0 where
  written : (w : Write) → out.write ≡ Some w → LiesIn ranges w
  updated : (u : ℕ × Write) → out.update ≡ Some u → LiesIn ranges u.1

none_lies : (ranges : List BitRange) (out : Out) → out.write ≡ None → out.update ≡ None → Lie ranges out
none_lies ranges out w u = record { written = λ x h. let e : None ≡ Some x = sym w ∙ h in cc; updated = λ x h. let e : None ≡ Some x = sym u ∙ h in cc }

statement_lies : (s : Statement) (f : Statement-F Statement) (rest : Todo) (store : Store) (time : ℕ) → Lie (layer_writes f) (statement_step s f rest store time)
statement_lies s (Statement-F.Assign n t e) rest store time = record {
  written = λ w is. let p : assignment t e store time ≡ w = cc in subst (LiesIn (writes t)) p (assigned_lies t e store time);
  updated = λ u is. cc;
}
statement_lies s (Statement-F.Later n ticks t e) rest store time = record {
  written = λ w is. cc;
  updated = λ u is. let p : (ticks.count, assignment t e store time) ≡ u = cc in subst (λ x. LiesIn (writes t) x.1) p (assigned_lies t e store time);
}
statement_lies s f rest store time = none_lies (layer_writes f) (statement_step s f rest store time) refl refl

-- what is to be done next is to be done
next_is_to_do : (i : Item) (rest : Todo) → Contains (i ∷ rest) i
next_is_to_do i rest = (0, omega arith, refl)

lies_in_next : (s : Statement) (rest : Todo) (w : Write) → LiesIn (layer_writes (out-Statement s)) w → LiesInOne (perform s ∷ rest) w
lies_in_next s rest w h = record { item = perform s; is_to_do = next_is_to_do (perform s) rest; lies = subst (λ l. LiesIn l w) (sym (writes_out s)) h }

pub written : WritesAreNamed
written [] store time w h = cc
written (perform s ∷ rest) store time w h = lies_in_next s rest w ((statement_lies s (out-Statement s) rest store time).written w h)
written (turns n s ∷ rest) store time w h = cc

pub updated : UpdatesAreNamed
updated [] store time u h = cc
updated (perform s ∷ rest) store time u h = lies_in_next s rest u.1 ((statement_lies s (out-Statement s) rest store time).updated u h)
updated (turns n s ∷ rest) store time u h = cc

pub left : NoneIsAdded
left todo store time k d h = step_among todo store time _ (All-contains_itself (todo_writes (todo_after (step todo store time).next)) k d h)

pub begun : AllAreThere
begun = all_there

-- ---- a process

-- the ranges of what a process still has to do are among those of its body
left_among : (body : Statement) (todo : Todo) → IsLeft body todo → Among (todo_writes todo) (statement_writes body)
left_among body _ start = λ r h. subst (λ l. Contains l r) (all_there body) h
left_among body _ (behind todo store time l) = λ r h. left_among body todo l r (step_among todo store time r h)

lies_more : (some all : List BitRange) (w : Write) → Among some all → LiesIn some w → LiesIn all w
lies_more some all w among h = record {
  signals = λ v none. h.signals v (none_among (is_of v) some all among none);
  digits = λ store v word place none. h.digits store v word place (none_among (covers v word place) some all among none);
}

-- the ranges of something that is to be done are among those of all that is
item_among : (todo : Todo) (k : ℕ) (i : Item) → k < length todo → Among (item_writes (slice_index_or todo k i)) (todo_writes todo)
item_among [] k i h = absurd (omega (arith, h))
item_among (x ∷ xs) zero i h = left_of (item_writes x) (todo_writes xs)
item_among (x ∷ xs) (suc k) i h = λ r c. right_of (item_writes x) (todo_writes xs) r (item_among xs k i (omega (arith, h)) r c)

-- a write that a step made lies in the ranges of the process's body
lies_in_body : (body : Statement) (todo : Todo) (w : Write) → IsLeft body todo → LiesInOne todo w → LiesIn (statement_writes body) w
lies_in_body body todo w l one =
    let there = one.is_to_do in
    lies_more (item_writes one.item) (statement_writes body) w
    (λ r c. left_among body todo l r (item_among todo there.0 one.item there.1 r (subst (λ i. Contains (item_writes i) r) (sym there.2) c))) one.lies

pub processes : ProcessesWriteWhatIsNamed
processes = record {
  written = λ body todo store time w l is. lies_in_body body todo w l (written todo store time w is);
  updated = λ body todo store time u l is. lies_in_body body todo u.1 l (updated todo store time u is);
}
