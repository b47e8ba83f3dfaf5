-- What a pass answers.
use Rattle.std.specs.Prelude.{◌≡◌, ℕ, Bool, true, false, List, ◌++◌, Result, Ok, Err, MatchResult}
use Rattle.vs_widths.specs.declared.faults.WidthFault.{WidthFault}
use Rattle.vs_widths.specs.declared.faults.WidthFault.TheVariants as width
use Rattle.vs_scopes.specs.declared.faults.Reason.{Reason}
use Rattle.vs_scopes.specs.declared.faults.Reason.TheVariants.{Width}
use Rattle.vs_scopes.specs.declared.faults.BodyFault.{BodyFault}
use Rattle.vs_scopes.specs.declared.faults.BodyFault.TheVariants as b
use Rattle.vs_scopes.specs.declared.faults.ElabFault.{ElabFault}
use Rattle.vs_scopes.specs.declared.faults.ElabFault.TheVariants.{Memory, At}
use Rattle.vs_scopes.specs.Printed.{Path, printed}
pub use Rattle.vs_scopes.specs.passes.Ends.{borrowed}

-- a fault of an expression as one of a part of a scope
abbrev pub body_fault : WidthFault → BodyFault
body_fault width.Memory = b.Memory
body_fault (width.Refused r) = b.Refused (Width r)

-- a fault that stands, or want of memory
abbrev pub Refuses : (Reason → Bool) → BodyFault → Type 0
Refuses stands b.Memory = Unit {0}
Refuses stands (b.Refused r) = stands r ≡ true

-- what an elaborating call answers: a value of which no fault stands, or a fault that stands
abbrev pub Elaborates : {A : Type 0} → (Reason → Bool) → (A → Type 0) → Result A BodyFault → Type 0
Elaborates stands P (Ok x) = ((r : Reason) → stands r ≡ false) × P x
Elaborates stands P (Err e) = Refuses stands e

-- a fault that stands at its path, which is printed, or want of memory
abbrev pub IsReported : (Reason → Path → Type 0) → ElabFault → Type 0
IsReported Stands Memory = Unit {0}
IsReported Stands (At r bytes) = (p : Path) × (bytes.items ≡ printed p) × Stands r p

-- a fault of this reason under this path, or want of memory
abbrev pub IsFaultAt : Reason → Path → ElabFault → Type 0
IsFaultAt r p Memory = Unit {0}
IsFaultAt r p (At q bytes) = (q ≡ r) × (bytes.items ≡ printed p)

-- a fault of a part of a scope, under this path
abbrev pub IsRefusal : Path → BodyFault → ElabFault → Type 0
IsRefusal p b.Memory e = e ≡ Memory
IsRefusal p (b.Refused r) e = IsFaultAt r p e

-- a part of a pass over a list, behind any start and any elements done: what holds of those holds with its own behind them, or a fault stands among
-- them all
abbrev pub Grows : {A B C : Type 0} → (C → List A → Type 0) → (C → List A → Type 0) → (C → List A → Reason → Path → Type 0) → List A → Result B ElabFault → Type 0
Grows {A} {B} {C} Old New Stands xs r =
    (start : C) (done : List A) → Old start done → MatchResult r (λ _. New start (done ++ xs)) (IsReported (Stands start (done ++ xs)))
