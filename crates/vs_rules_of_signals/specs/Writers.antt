-- What is asked of the processes that write a signal.
use Rattle.std.specs.Prelude.{ℕ, ◌≡◌, ◌⊎◌, Some}
use Rattle.vs_design.specs.Parts.{Parts}
use Rattle.vs_process.specs.Places.{Todo}
use Rattle.vs_claims.specs.Facts.{Case}
use Rattle.vs_maps.specs.Texts.{Texts, texts_of}
use Rattle.vs_maps.specs.vs_rules.specs.Claims.{Name, Claims, claim_of, writer_in, second_in, IsWriter, IsSecond, IsBlock, is_wide}
use Rattle.vs_maps.specs.vs_rules.specs.Paths.{IsPoint, IsSlot0, IsLate, WritesNow, WritesLater, WritesAny, Writes}

-- the design and the maps of what is claimed
abbrev pub texts_in : Case → Texts
texts_in x = texts_of x.design x.charts

-- ---- writer and second, as the rule K2 has it

-- who writes the signal is named
abbrev pub AreNamed : Parts → Claims → ℕ → Type 0
AreNamed d c v = (i : ℕ) → Writes d i v → IsWriter d c v i ⊎ IsSecond d c v i

-- who is named writes it
abbrev pub WriterWrites : Parts → Claims → ℕ → Type 0
WriterWrites d c v = (name : Name) → writer_in (claim_of d c v) ≡ Some name → (i : ℕ) × IsWriter d c v i × Writes d i v

abbrev pub SecondWrites : Parts → Claims → ℕ → Type 0
SecondWrites d c v = (name : Name) → second_in (claim_of d c v) ≡ Some name → (i : ℕ) × IsSecond d c v i × Writes d i v

-- what a block writes has no second
abbrev pub NoBlock : Parts → Claims → ℕ → Type 0
NoBlock d c v = (i j : ℕ) → IsSecond d c v i → IsBlock d c j → Writes d j v → ⊥

-- no path leads through a control to a write of the second
abbrev pub IsEarly : Parts → Claims → ℕ → Type 0
IsEarly d c v = (i : ℕ) (k : Todo) → IsSecond d c v i → IsPoint d i k → WritesAny d k v → IsLate d i k → ⊥

-- where there is a second, the writer has no `=` of the signal at slot-0 points
abbrev pub FirstAlone : Parts → Claims → ℕ → Type 0
FirstAlone d c v = (i j : ℕ) (l : Todo) → IsSecond d c v i → IsWriter d c v j → IsSlot0 d (is_wide c) j l → WritesNow d l v → ⊥

-- and where the second writes it by `<=`, no `<=` of it either
abbrev pub FirstAloneLater : Parts → Claims → ℕ → Type 0
FirstAloneLater d c v = (i j : ℕ) (k l : Todo) → IsSecond d c v i → IsPoint d i k → WritesLater d k v →
    IsWriter d c v j → IsSlot0 d (is_wide c) j l → WritesLater d l v → ⊥
