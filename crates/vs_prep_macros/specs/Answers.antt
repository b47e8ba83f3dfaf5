-- What is answered where a part is read.
use Rattle.std.specs.Prelude.{Result, Ok, Err}
use Rattle.vs_prep_macros.specs.declared.fault.Halt.{Halt}
use Rattle.vs_prep_macros.specs.declared.fault.Halt.TheVariants as h

-- reading stops so, unless memory ran out
abbrev pub Stops : {A : Type 0} → (Result A Halt → Type 0) → Halt → Type 0
Stops IsAnswer h.Memory = Unit {0}
Stops IsAnswer (h.Here fault) = IsAnswer (Err (h.Here fault))
Stops IsAnswer (h.At fault left) = IsAnswer (Err (h.At fault left))

-- what is answered is an answer, unless memory ran out
abbrev pub Answers : {A X : Type 0} → (Result A Halt → Type 0) → (X → A) → Result X Halt → Type 0
Answers IsAnswer view (Ok x) = IsAnswer (Ok (view x))
Answers IsAnswer view (Err e) = Stops IsAnswer e
