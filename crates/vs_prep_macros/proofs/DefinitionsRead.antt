-- Reading the definition of a macro part by part.
use Rattle.std.proofs.Common.{ℕ, ◌≡◌, true, false, List, Option, Ok, Err, refl}
use Rattle.vs_prep_macros.specs.declared.fault.Fault.TheVariants as d
use Rattle.vs_prep_macros.specs.declared.fault.Halt.{Halt}
use Rattle.vs_prep_macros.specs.declared.fault.Halt.TheVariants as h
use Rattle.vs_prep_macros.specs.Answers.{Stops}
use Rattle.vs_prep_macros.specs.Bodies.{IsBody}
use Rattle.vs_prep_macros.specs.Definitions.{AreFormalsIfAny, IsMacro}
use Rattle.vs_prep_macros.specs.Directives.{is_directive}
use Rattle.vs_prep_macros.specs.Names.{wanted_name}

pub no_name : (bytes : List ℕ) (e : Halt) → Stops (λ r. wanted_name bytes ≡ r) e → Stops (IsMacro bytes) e
no_name bytes h.Memory s = tt
no_name bytes (h.Here fault) s = rw s refl
no_name bytes (h.At fault left) s = rw s refl

pub reserved_name : (bytes name after : List ℕ) → wanted_name bytes ≡ Ok (name, after) → is_directive name ≡ true → IsMacro bytes (Err (h.Here d.ReservedName))
reserved_name bytes name after w t = rw (w, t) refl

pub no_formals : (bytes name after : List ℕ) (e : Halt) → wanted_name bytes ≡ Ok (name, after) → is_directive name ≡ false → Stops (AreFormalsIfAny after) e → Stops (IsMacro bytes) e
no_formals bytes name after h.Memory w t s = tt
no_formals bytes name after (h.Here fault) w t s = rw (w, t) (Err (h.Here fault), s, refl)
no_formals bytes name after (h.At fault left) w t s = rw (w, t) (Err (h.At fault left), s, refl)

pub no_body : (bytes name after rest : List ℕ) (formals : Option (List (List ℕ))) (e : Halt) → wanted_name bytes ≡ Ok (name, after) → is_directive name ≡ false
    → AreFormalsIfAny after (Ok (formals, rest)) → Stops (IsBody rest) e → Stops (IsMacro bytes) e
no_body bytes name after rest formals h.Memory w t a s = tt
no_body bytes name after rest formals (h.Here fault) w t a s = rw (w, t) (Ok (formals, rest), a, (Err (h.Here fault), s, refl))
no_body bytes name after rest formals (h.At fault left) w t a s = rw (w, t) (Ok (formals, rest), a, (Err (h.At fault left), s, refl))

pub macro_read : (bytes name after behind body rest : List ℕ) (formals : Option (List (List ℕ))) → wanted_name bytes ≡ Ok (name, after) → is_directive name ≡ false
    → AreFormalsIfAny after (Ok (formals, behind)) → IsBody behind (Ok (body, rest)) → IsMacro bytes (Ok (record { name = name; formals = formals; body = body }, rest))
macro_read bytes name after behind body rest formals w t a b = rw (w, t) (Ok (formals, behind), a, (Ok (body, rest), b, refl))
