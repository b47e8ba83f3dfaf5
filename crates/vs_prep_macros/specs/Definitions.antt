-- Definitions of macros (IEEE 1364-2005, clause 19.3.1).
use Rattle.std.specs.BTreeMap.{BTreeMap}
use Rattle.std.specs.Borrow.{Bor}
use Rattle.std.specs.Prelude.{ℕ, ◌≡◌, ◌==◌, Bool, true, false, List, [], ◌∷◌, Option, None, Some, Result, Ok, Err}
use Rattle.vs_prep_macros.specs.declared.fault.Fault.TheVariants as d
use Rattle.vs_prep_macros.specs.declared.fault.Halt.{Halt}
use Rattle.vs_prep_macros.specs.declared.fault.Halt.TheVariants as h
use Rattle.vs_prep_macros.specs.declared.definition.Definition.{Definition}
use Rattle.vs_prep_macros.specs.Answers.{Stops}
use Rattle.vs_prep_macros.specs.Bodies.{Found, IsBody}
use Rattle.vs_prep_macros.specs.Directives.{is_directive}
use Rattle.vs_prep_macros.specs.Formals.{FoundFormals, AreFormals, Numbers}
use Rattle.vs_prep_macros.specs.Names.{wanted_name}

-- a macro: its name, its formals, if a parenthesis opens them, and its text
pub record Macro : Type 0 where
  pub name : List ℕ
  pub formals : Option (List (List ℕ))
  pub body : List ℕ

-- the formals of a macro, if it has any, and the bytes behind them
abbrev pub FoundIfAny : Type 0
FoundIfAny = Result (Option (List (List ℕ)) × List ℕ) Halt

abbrev pub some_formals : FoundFormals → FoundIfAny
some_formals (Ok x) = Ok (Some x.0, x.1)
some_formals (Err e) = Err e

-- the formals that a parenthesis opens, or none
abbrev pub AreOpened : Bool → ℕ → List ℕ → FoundIfAny → Type 0
AreOpened true b bs found = (inner : FoundFormals) × AreFormals bs inner × (found ≡ some_formals inner)
AreOpened false b bs found = found ≡ Ok (None, b ∷ bs)

abbrev pub AreFormalsIfAny : List ℕ → FoundIfAny → Type 0
AreFormalsIfAny [] found = found ≡ Ok (None, [])
AreFormalsIfAny (b ∷ bs) found = AreOpened (b == 40) b bs found

-- the macro, and the bytes behind its text
abbrev pub FoundMacro : Type 0
FoundMacro = Result (Macro × List ℕ) Halt

abbrev pub macro_of : List ℕ → Option (List (List ℕ)) → Found → FoundMacro
macro_of name formals (Ok x) = Ok (record { name = name; formals = formals; body = x.0 }, x.1)
macro_of name formals (Err e) = Err e

abbrev pub IsMacroAfter : List ℕ → FoundIfAny → FoundMacro → Type 0
IsMacroAfter name (Ok x) found = (body : Found) × IsBody x.1 body × (found ≡ macro_of name x.0 body)
IsMacroAfter name (Err e) found = found ≡ Err e

-- a macro of a name that is none of a directive
abbrev pub IsNamedMacro : Bool → List ℕ → List ℕ → FoundMacro → Type 0
IsNamedMacro true name after found = found ≡ Err (h.Here d.ReservedName)
IsNamedMacro false name after found = (formals : FoundIfAny) × AreFormalsIfAny after formals × IsMacroAfter name formals found

abbrev pub IsWantedMacro : Result (List ℕ × List ℕ) Halt → FoundMacro → Type 0
IsWantedMacro (Ok x) found = IsNamedMacro (is_directive x.0) x.0 x.1 found
IsWantedMacro (Err e) found = found ≡ Err e

-- the macro that stands behind `define`, with the bytes behind it, or the first fault
abbrev pub IsMacro : List ℕ → FoundMacro → Type 0
IsMacro bytes found = IsWantedMacro (wanted_name bytes) found

-- ---- what the code answers

-- the formals, each with its number
abbrev pub HaveNumbers : {K : Type 0} → Option (BTreeMap K ℕ) → (K → List ℕ) → Option (List (List ℕ)) → Type 0
HaveNumbers None items None = Unit {0}
HaveNumbers None items (Some names) = ⊥
HaveNumbers (Some m) items None = ⊥
HaveNumbers (Some m) items (Some names) = Numbers m.entries items names

-- what is answered where formals are read
abbrev pub ReadsFormals : {K : Type 0} → List ℕ → Result (BTreeMap K ℕ × Bor (List ℕ)) Halt → (K → List ℕ) → Type 0
ReadsFormals bytes (Ok x) items = (names : List (List ℕ)) × Numbers x.0.entries items names × AreFormals bytes (Ok (names, x.1.now))
ReadsFormals bytes (Err e) items = Stops (AreFormals bytes) e

abbrev pub ReadsIfAny : {K : Type 0} → List ℕ → Result (Option (BTreeMap K ℕ) × Bor (List ℕ)) Halt → (K → List ℕ) → Type 0
ReadsIfAny bytes (Ok x) items = (formals : Option (List (List ℕ))) × HaveNumbers x.0 items formals × AreFormalsIfAny bytes (Ok (formals, x.1.now))
ReadsIfAny bytes (Err e) items = Stops (AreFormalsIfAny bytes) e

-- a definition is that of a macro
abbrev pub Defines : Definition → Macro → Type 0
Defines definition m = (definition.name.items ≡ m.name) × HaveNumbers definition.formals (λ k. k.items) m.formals × (definition.body.items ≡ m.body)

-- what is answered where a definition is read
abbrev pub ReadsMacro : List ℕ → Result (Definition × Bor (List ℕ)) Halt → Type 0
ReadsMacro bytes (Ok x) = (m : Macro) × Defines x.0 m × IsMacro bytes (Ok (m, x.1.now))
ReadsMacro bytes (Err e) = Stops (IsMacro bytes) e
