-- How far the values of parameters are found that may name one another.
use Rattle.std.specs.Prelude.{◌≡◌, ℕ, suc, ◌<◌, ◌==◌, ◌⊎◌, Bool, true, false, List, [], ◌∷◌, ◌++◌, Option, Some, None, option_map, length, slice_get, if◌then◌else◌}
use Rattle.std.specs.List.{list_any}
use Rattle.std.specs.Str.{bytes_eq}
use Rattle.vs_scopes.specs.vs_widths.specs.declared.bindings.Binding.{Binding}
use Rattle.vs_scopes.specs.vs_widths.specs.declared.bindings.Binding.TheVariants.{Constant, Pending}
use Rattle.vs_scopes.specs.vs_widths.specs.declared.constants.Const.{Const}
use Rattle.vs_scopes.specs.vs_widths.specs.declared.faults.WidthReason.{WidthReason}
use Rattle.vs_scopes.specs.vs_widths.specs.declared.faults.WidthReason.TheVariants.{NotConstant}
use Rattle.vs_scopes.specs.vs_widths.specs.Environment.{Environment}
use Rattle.vs_widths.specs.Names.{meaning_of}
use Rattle.vs_scopes.specs.Parameters.{Given, own_fault, known_after}
use Rattle.vs_scopes.specs.Declarations.{Bindings}
use Rattle.vs_elab_constants.specs.declared.finding.Tried.{Tried}
use Rattle.vs_elab_constants.specs.declared.finding.Tried.TheVariants as t
use Rattle.vs_elab_constants.specs.declared.finding.Round.{Round}
use Rattle.vs_elab_constants.specs.declared.finding.Round.TheVariants as x
use Rattle.vs_elab_constants.specs.passes.Values.{IsGiven}

-- ---- names of parameters

-- the number of the first parameter of a name
abbrev pub number_of : List Given → List ℕ → Option ℕ
number_of [] n = None
number_of (g ∷ gs) n = if bytes_eq n g.0.name then Some 0 else option_map (λ k. suc k) (number_of gs n)

-- whether a number is known to be this one
abbrev pub is_number : Option ℕ → ℕ → Bool
is_number None k = false
is_number (Some n) k = n == k

-- names are numbered as the first parameters of them
abbrev pub AreNumbers : List Given → List (List ℕ × ℕ) → Type 0
AreNumbers gs ns = (n : List ℕ) → meaning_of ns n ≡ number_of gs n

-- ---- values that are found

-- what a parameter's name is bound to, where its value is found, and before
abbrev pub as_found : Option Const → Binding
as_found None = Pending
as_found (Some c) = Constant c

-- what names are bound to with parameters bound to the values that are found
abbrev pub found_names : List Given → List (Option Const) → Environment → Environment
found_names [] vs env n = env n
found_names (g ∷ gs) [] env n = if bytes_eq n g.0.name then Some Pending else found_names gs [] env n
found_names (g ∷ gs) (v ∷ vs) env n = if bytes_eq n g.0.name then Some (as_found v) else found_names gs vs env n

-- names are bound so, with those outward
abbrev pub AreNamed : Bindings → Environment → List Given → List (Option Const) → Bindings → Type 0
AreNamed outward env gs vs known = (n : List ℕ) → meaning_of (known ++ outward) n ≡ found_names gs vs env n

-- how many values are found
abbrev pub count_found : List (Option Const) → ℕ
count_found [] = 0
count_found (None ∷ vs) = count_found vs
count_found (Some c ∷ vs) = suc (count_found vs)

-- the constants that are found, each by its name
abbrev pub found_constants : List Given → List (Option Const) → List (List ℕ × Const)
found_constants [] vs = []
found_constants (g ∷ gs) [] = []
found_constants (g ∷ gs) (None ∷ vs) = found_constants gs vs
found_constants (g ∷ gs) (Some c ∷ vs) = (g.0.name, c) ∷ found_constants gs vs

-- names are bound alike, or have no value yet
abbrev pub Below : Environment → Environment → Type 0
Below a b = (n : List ℕ) → (a n ≡ b n) ⊎ (a n ≡ Some Pending)

-- each value that is found is the parameter's where names are bound so
abbrev pub AreGiven : Environment → Environment → List Given → List (Option Const) → Type 0
AreGiven around env gs vs =
    (k : ℕ) (g : Given) (c : Const) → slice_get gs k ≡ Some g → slice_get vs k ≡ Some (Some c) → IsGiven around env g c

-- The values that are found of parameters, and what names are bound to with them: no more than after as many rounds as there are values
-- found, and those values are right there.
pub record AreFound (around env : Environment) (outward : Bindings) (gs : List Given) (vs : List (Option Const))
    (known : Bindings) : Type 0 where
  pub named : AreNamed outward env gs vs known
  pub below : Below (found_names gs vs env) (known_after (count_found vs) around env gs)
  pub given : AreGiven around (known_after (count_found vs) around env gs) gs vs

-- each value is found
abbrev pub AreAll : List (Option Const) → Type 0
AreAll vs = (k : ℕ) → slice_get vs k ≡ Some None → ⊥

-- ---- what is tried

-- the constant that a parameter is where names are bound so, or a fault of it
abbrev pub IsTried : Environment → Environment → Given → Tried → Type 0
IsTried around env g (t.Is c) = IsGiven around env g c
IsTried around env g (t.Not w) = own_fault w env g ≡ true

-- a parameter with a fault where names are bound so
pub record IsFaulty (env : Environment) (g : Given) : Type 0 where
  pub reason : WidthReason
  pub stands : own_fault reason env g ≡ true

-- those of the first parameters whose values aren't found have faults
abbrev pub AreFaulty : Environment → List Given → List (Option Const) → ℕ → Type 0
AreFaulty env gs vs n = (k : ℕ) (g : Given) → k < n → slice_get gs k ≡ Some g → slice_get vs k ≡ Some None → IsFaulty env g

-- a parameter whose value is found next
pub record IsNext (around env : Environment) (gs : List Given) (vs : List (Option Const)) (k : ℕ) (c : Const) : Type 0 where
  pub within : k < length gs
  pub new : slice_get vs k ≡ Some None
  pub given : (g : Given) → slice_get gs k ≡ Some g → IsGiven around env g c

-- the fault that is told of parameters, with one more that has a fault: another one than that it is no constant, where there is one
abbrev pub reported_fault : Option WidthReason → WidthReason → WidthReason
reported_fault None w = w
reported_fault (Some NotConstant) w = w
reported_fault (Some o) w = o

-- where parameters are told to be no constants, each of the first ones whose values aren't found is none
abbrev pub AreWaiting : Environment → List Given → List (Option Const) → WidthReason → ℕ → Type 0
AreWaiting env gs vs w n =
    w ≡ NotConstant → (k : ℕ) (g : Given) → k < n → slice_get gs k ≡ Some g → slice_get vs k ≡ Some None → own_fault NotConstant env g ≡ true

-- parameters of which none is found next, and the fault that is told of them
pub record IsStuck (env : Environment) (gs : List Given) (vs : List (Option Const)) (w : WidthReason) : Type 0 where
  pub fault : list_any (own_fault w env) gs ≡ true
  pub faulty : AreFaulty env gs vs (length gs)
  pub waiting : AreWaiting env gs vs w (length gs)

-- a parameter whose value is found next; or none, for each is found; or none, for each other has a fault
abbrev pub IsRoundOutcome : Environment → Environment → List Given → List (Option Const) → Round → Type 0
IsRoundOutcome around env gs vs x.Nothing = AreAll vs
IsRoundOutcome around env gs vs (x.Value k c) = IsNext around env gs vs k c
IsRoundOutcome around env gs vs (x.Stuck w) = IsStuck env gs vs w
