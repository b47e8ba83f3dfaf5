-- How often activated updates name a signal.
use Rattle.std.specs.Prelude.{ℕ, ◌+◌, ◌==◌, ◌≡◌, ◌≤◌, ◌&&◌, Bool, true, false, Option, Some, None, List, [], ◌∷◌, slice_get, if◌then◌else◌}
use Rattle.vs_design.specs.Stores.{changed_at}
use Rattle.vs_design.specs.Writes.{Write}
use Rattle.vs_run_regions.specs.declared.claims.Claim.{Claim}
use Rattle.vs_run_regions.specs.declared.claims.Claim.TheVariants.{Nothing, Once, Often}

-- ---- how many parts name a signal

-- one for a signal, none for another one
abbrev pub one_of : ℕ → ℕ → ℕ
one_of signal v = if signal == v then 1 else 0

-- how many parts of a write name a signal
abbrev pub parts_of : ℕ → Write → ℕ
parts_of v [] = 0
parts_of v (p ∷ ps) = one_of p.signal v + parts_of v ps

-- how many parts of the updates that are left name a signal
abbrev pub named : ℕ → List (Option Write) → ℕ
named v [] = 0
named v (None ∷ us) = named v us
named v (Some w ∷ us) = parts_of v w + named v us

-- ---- claims

-- at most so many parts name a signal, as its claim says
abbrev pub Holds : Claim → ℕ → Type 0
Holds Nothing n = n ≡ 0
Holds Once n = n ≤ 1
Holds Often n = Unit {0}

-- the claims hold of these counts
abbrev pub HoldOf : List Claim → (ℕ → ℕ) → Type 0
HoldOf claims counts = (v : ℕ) (c : Claim) → slice_get claims v ≡ Some c → Holds c (counts v)

-- where the claims were made, they hold of these updates
abbrev pub AreClaimed : Bool → List Claim → List (Option Write) → Type 0
AreClaimed made claims updates = made ≡ true → HoldOf claims (λ v. named v updates)

-- a claim where one part more names its signal, or begun anew
abbrev pub claimed : Bool → Claim → Claim
claimed true c = Nothing
claimed false Nothing = Once
claimed false Once = Often
claimed false Often = Often

-- claims with those of a write
abbrev pub with_write : Bool → Write → List Claim → List Claim
with_write anew [] claims = claims
with_write anew (p ∷ ps) claims = with_write anew ps (changed_at (claimed anew) p.signal claims)

-- claims with those of an update, where it is left
abbrev pub with_left : Bool → Option Write → List Claim → List Claim
with_left anew None claims = claims
with_left anew (Some w) claims = with_write anew w claims

-- claims with those of updates
abbrev pub with_all : Bool → List (Option Write) → List Claim → List Claim
with_all anew [] claims = claims
with_all anew (u ∷ us) claims = with_all anew us (with_left anew u claims)

-- whether a claim says that at most one part names its signal
abbrev pub is_once : Option Claim → Bool
is_once None = false
is_once (Some Nothing) = true
is_once (Some Once) = true
is_once (Some Often) = false

-- whether the claims say so of every signal that a write names
abbrev pub are_once : List Claim → Write → Bool
are_once claims [] = true
are_once claims (p ∷ ps) = is_once (slice_get claims p.signal) && are_once claims ps
