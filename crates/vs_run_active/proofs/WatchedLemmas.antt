-- What a run's own changes leave of what its tables tell.
use Rattle.std.proofs.Common.{◌≡◌, ℕ, zero, suc, Some, List, [], ◌∷◌, map, slice_get, slice_set, refl, ◌∙◌, ap, subst}
use Rattle.std.proofs.lemmas.Option.{none-some, same_Some}
use Rattle.vs_design.specs.declared.expression.Typed.{Typed}
use Rattle.vs_design.specs.Parts.{Parts}
use Rattle.vs_design.specs.Stores.{changed_at}
use Rattle.vs_run_active.specs.vs_process.specs.States.{AssignState}
use Rattle.vs_run_active.specs.declared.process.Process.{Process}
use Rattle.vs_run_active.specs.declared.tables.Tables.{Tables}
use Rattle.vs_run_active.specs.declared.watchers.ProcessTerm.{ProcessTerm}
use Rattle.vs_run_active.specs.Waiting.{IsWaiting}
use Rattle.vs_run_active.specs.Wakes.{AreWatched}

same_sources : (f : AssignState → AssignState) → ((x : AssignState) → (f x).source ≡ x.source) → (xs : List AssignState) (i : ℕ) →
    map (λ (x : AssignState). x.source) (changed_at f i xs) ≡ map (λ (x : AssignState). x.source) xs
same_sources f same [] i = refl
same_sources f same (x ∷ xs) zero = ap (λ (s : Typed). s ∷ map (λ (x : AssignState). x.source) xs) (same x)
same_sources f same (x ∷ xs) (suc i) = ap (λ (l : List Typed). x.source ∷ l) (same_sources f same xs i)

-- continuous assignments of which one is changed, but not what it evaluates
pub watched_assigns : (d : Parts) (terms : List ProcessTerm) (tables : Tables) (assigns : List AssignState) (processes : List Process) (f : AssignState → AssignState) →
    ((x : AssignState) → (f x).source ≡ x.source) → (i : ℕ) → AreWatched d terms tables assigns processes → AreWatched d terms tables (changed_at f i assigns) processes
watched_assigns d terms tables assigns processes f same i h = record {
  rows = h.rows;
  sources = same_sources f same assigns i ∙ h.sources;
  waiting = h.waiting;
}

-- what holds of each element, and of one in its place
pub set_each : {A : Type 0} (P : ℕ → A → Type 0) (xs : List A) (i : ℕ) (p : A) → ((k : ℕ) (x : A) → slice_get xs k ≡ Some x → P k x) → P i p →
    (k : ℕ) (x : A) → slice_get (slice_set xs i p) k ≡ Some x → P k x
set_each P [] i p h own k x here = absurd (none-some x here)
set_each P (y ∷ ys) zero p h own zero x here = subst (P zero) (same_Some p x here) own
set_each P (y ∷ ys) zero p h own (suc k) x here = h (suc k) x here
set_each P (y ∷ ys) (suc i) p h own zero x here = h zero x here
set_each P (y ∷ ys) (suc i) p h own (suc k) x here = set_each (λ j z. P (suc j) z) ys i p (λ j z e. h (suc j) z e) own k x here

-- processes of which one takes the place of another that waits for what is listed for it
pub watched_put : (d : Parts) (terms : List ProcessTerm) (tables : Tables) (assigns : List AssignState) (processes : List Process) (i : ℕ) (p : Process) →
    IsWaiting terms i p.wait → AreWatched d terms tables assigns processes → AreWatched d terms tables assigns (slice_set processes i p)
watched_put d terms tables assigns processes i p own h = record {
  rows = h.rows;
  sources = h.sources;
  waiting = record { each = set_each (λ k (x : Process). IsWaiting terms k x.wait) processes i p (λ k x here. h.waiting.each k x here) own };
}
