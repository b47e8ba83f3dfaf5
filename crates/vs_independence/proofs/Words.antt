-- What the words of the rules say of steps.
use Rattle.std.proofs.Common.{◌≡◌, ℕ, true, Some, List, [], ◌∷◌, refl, sym, ◌∙◌}
use Rattle.std.specs.List.{list_any}
use Rattle.std.proofs.lemmas.Bool.{eqb-true, false≢true}
use Rattle.vs_design.specs.declared.range.BitRange.{BitRange}
use Rattle.vs_design.specs.declared.statement.Statement.{Statement}
use Rattle.vs_design.specs.declared.statement.Statement.TheOpen.{Statement-F}
use Rattle.vs_design.specs.declared.statement.Statement.TheViews.{out-Statement}
use Rattle.vs_design.specs.Parts.{Parts}
use Rattle.vs_design.specs.Stores.{Store}
use Rattle.vs_design.specs.Uses.{is_of}
use Rattle.vs_design.specs.Writes.{Write, names}
use Rattle.vs_process.specs.Nexts.{erased}
use Rattle.vs_process.specs.Places.{perform, turns, Todo}
use Rattle.vs_process.specs.Steps.{step}
use Rattle.vs_design.specs.vs_logic4.proofs.Basics.{element_of as any_at}
use Rattle.vs_rules.specs.vs_process.proofs.ThreadLists.{contains_at}
use Rattle.vs_rules.specs.Points as r
use Rattle.vs_rules.proofs.Points.{write_follows, update_follows}
use Rattle.vs_rules.specs.Paths.{ListsSignal, statement_now, statement_later, WritesNow, WritesLater}

-- a list that has a range of a signal
pub lists_signal : (d : Parts) (rs : List BitRange) (v : ℕ) → list_any (is_of v) rs ≡ true → ListsSignal d rs v
lists_signal d rs v h =
    let found = any_at (is_of v) rs h in
    record { range = found.1; listed = (contains_at rs found.0 found.1 found.2, tt); of = eqb-true found.1.signal v found.3 }

now_like : (f : Statement-F Statement) (v : ℕ) → r.statement_writes f v ≡ list_any (is_of v) (statement_now f)
now_like (Statement-F.Null n) v = refl
now_like (Statement-F.Assign n t e) v = refl
now_like (Statement-F.Later n ticks t e) v = refl
now_like (Statement-F.Call n c) v = refl
now_like (Statement-F.Finish n) v = refl
now_like (Statement-F.Block all) v = refl
now_like (Statement-F.Delay n ticks body) v = refl
now_like (Statement-F.Event n terms body) v = refl
now_like (Statement-F.If n e a b) v = refl
now_like (Statement-F.Case n kind x items) v = refl
now_like (Statement-F.While n e body) v = refl
now_like (Statement-F.Repeat n signed e body) v = refl
now_like (Statement-F.Forever n body) v = refl

later_like : (f : Statement-F Statement) (v : ℕ) → r.statement_updates f v ≡ list_any (is_of v) (statement_later f)
later_like (Statement-F.Null n) v = refl
later_like (Statement-F.Assign n t e) v = refl
later_like (Statement-F.Later n ticks t e) v = refl
later_like (Statement-F.Call n c) v = refl
later_like (Statement-F.Finish n) v = refl
later_like (Statement-F.Block all) v = refl
later_like (Statement-F.Delay n ticks body) v = refl
later_like (Statement-F.Event n terms body) v = refl
later_like (Statement-F.If n e a b) v = refl
later_like (Statement-F.Case n kind x items) v = refl
later_like (Statement-F.While n e body) v = refl
later_like (Statement-F.Repeat n signed e body) v = refl
later_like (Statement-F.Forever n body) v = refl

now_of : (d : Parts) (k : Todo) (v : ℕ) → r.WritesNow k v → WritesNow d k v
now_of d [] v h = absurd (false≢true h)
now_of d (perform s ∷ rest) v h = lists_signal d (statement_now (out-Statement s)) v (sym (now_like (out-Statement s) v) ∙ h)
now_of d (turns n s ∷ rest) v h = absurd (false≢true h)

later_of : (d : Parts) (k : Todo) (v : ℕ) → r.WritesLater k v → WritesLater d k v
later_of d [] v h = absurd (false≢true h)
later_of d (perform s ∷ rest) v h = lists_signal d (statement_later (out-Statement s)) v (sym (later_like (out-Statement s) v) ∙ h)
later_of d (turns n s ∷ rest) v h = absurd (false≢true h)

-- what a step writes, its point writes
pub step_now : (d : Parts) (k : Todo) (store : Store) (time : ℕ) (w : Write) (v : ℕ) → (step k store time).write ≡ Some w → names w v ≡ true → WritesNow d (erased k) v
step_now d k store time w v is h = now_of d (erased k) v (write_follows k store time w v is h)

pub step_later : (d : Parts) (k : Todo) (store : Store) (time : ℕ) (u : ℕ × Write) (v : ℕ) → (step k store time).update ≡ Some u → names u.1 v ≡ true → WritesLater d (erased k) v
step_later d k store time u v is h = later_of d (erased k) v (update_follows k store time u v is h)
