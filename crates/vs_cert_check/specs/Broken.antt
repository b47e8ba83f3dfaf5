-- All that is broken, as it is told.
use Rattle.std.specs.Prelude.{ℕ, zero, suc, ◌≡◌, ◌⊎◌, Option, Some, None, List, [], ◌∷◌, ◌++◌, length, map, slice_get}
use Rattle.vs_design.specs.Parts.{Parts}
use Rattle.vs_rules_of_starts.specs.vs_rules.specs.Claims.{Claims, Name}
use Rattle.vs_rules_of_starts.specs.vs_rules.specs.Verdict.{Subject, numbers, subjects, place_of}
use Rattle.vs_cert_check.specs.declared.verdict.Broken.{Broken}
use Rattle.vs_cert_check.specs.declared.verdict.VerdictReport.{VerdictReport}
use Rattle.vs_cert_check.specs.Answers.{IsVerdictOn}
use Rattle.vs_cert_check.specs.Verdicts.{KeepsAt, AllKeptBelow}

-- the first things of a list that don't keep a rule, at most so many, in its order
abbrev pub FirstBroken : {A : Type 0} → (A → Type 0) → ℕ → List A → List A → Type 0
FirstBroken keeps zero xs found = found ≡ []
FirstBroken keeps (suc most) [] found = found ≡ []
FirstBroken {A} keeps (suc most) (x ∷ xs) found =
    keeps x × FirstBroken keeps (suc most) xs found ⊎ (keeps x → ⊥) × (rest : List A) × (found ≡ x ∷ rest) × FirstBroken keeps most xs rest

-- the rules below a number, each with all things below another one, in order: the rules by their numbers from 0 on
abbrev pub asked : ℕ → ℕ → List (ℕ × ℕ)
asked zero things = []
asked (suc k) things = asked k things ++ map (λ i. (k, i)) (numbers 0 things)

-- a subject that breaks a rule, as it is told: the rule's number from 1 on, and the name
abbrev pub broken_view : Broken → ℕ × Option Name
broken_view b = (b.number, Some b.place.items)

abbrev pub name_of : Parts → Option Subject → Option Name
name_of d None = None
name_of d (Some s) = place_of d s

abbrev pub violation_at : Parts → Claims → ℕ × ℕ → ℕ × Option Name
violation_at d c x = (suc x.0, name_of d (slice_get (subjects d c) x.1))

-- these are the first subjects that break one of the rules below a number, at most so many
pub record AreFirstBroken (d : Parts) (c : Claims) (rules most : ℕ) (list : List Broken) : Type 0 where
  pub found : List (ℕ × ℕ)
  pub first : FirstBroken (λ x. KeepsAt d c x.0 x.1) most (asked rules (length (subjects d c))) found
  pub told : map broken_view list ≡ map (violation_at d c) found

-- these are the first subjects that break rules, at most so many; where some subject breaks one of K1 to K10, it isn't asked which ones break K11
abbrev pub IsBrokenList : Parts → Claims → ℕ → List Broken → Type 0
IsBrokenList d c most list = AreFirstBroken d c 11 most list ⊎ (AllKeptBelow d c 10 → ⊥) × AreFirstBroken d c 10 most list

-- what is told of a design and a certificate
pub record IsReport (d : Parts) (c : Claims) (most : ℕ) (told : VerdictReport) : Type 0 where
  pub verdict : IsVerdictOn d c told.verdict
  pub broken : IsBrokenList d c most told.broken.items
