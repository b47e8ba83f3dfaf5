-- Lemmas on faults.
use Rattle.std.specs.Prelude.{IfErr, Result, Ok, Err}

-- what holds of each fault
pub if_err : {T E : Type 0} (r : Result T E) (P : E → Type 0) → ((e : E) → P e) → IfErr r P
if_err (Ok x) P h = tt
if_err (Err e) P h = h e
