-- The marks of blocks are those of a wiring.
use Rattle.std.proofs.Common.{◌≡◌, ℕ, zero, suc, ◌+◌, ◌<◌, ◌≤◌, ◌↔◌, Bool, false, Option, Some, None, List, [], ◌∷◌, ◌++◌, IsTrue, length, map, slice_index_or, inl, inr, refl, sym, ◌∙◌, ap, subst, arith}
use Rattle.std.proofs.lemmas.Option.{none-some, slice_get_cases}
use Rattle.std.proofs.lemmas.Bool.{false≢true}
use Rattle.vs_design.specs.Parts.{Parts}
use Rattle.vs_rules_of_starts.specs.vs_rules.specs.Claims.{Claims, Kind, Start, block, edges, delays, mixed}
use Rattle.vs_rules_of_starts.specs.vs_rules.specs.Claims.{IsBlock, is_block_kind, blocks_of, kind_for, kind_of}
use Rattle.vs_rules_of_starts.specs.vs_rules.specs.Verdict.{numbers}
use Rattle.vs_rules_of_processes.specs.vs_drivers.specs.Wires.{IsWiringOf, wiring}
use Rattle.vs_design.specs.vs_logic4.proofs.Basics.{same_tests}
use Rattle.vs_cert_check.specs.Marks.{marks_of}

-- a kind is that of a block exactly where the test says so
told : (k : Option Kind) → (IsTrue (is_block_kind k) ↔ ((start : Start) × (k ≡ Some (block start))))
told None = (λ yes. absurd (false≢true yes), λ h. absurd (none-some (block h.0) h.1))
told (Some (block start)) = (λ yes. (start, refl), λ h. refl)
told (Some edges) = (λ yes. absurd (false≢true yes), λ h. ap is_block_kind h.1)
told (Some (delays lists)) = (λ yes. absurd (false≢true yes), λ h. ap is_block_kind h.1)
told (Some (mixed lists)) = (λ yes. absurd (false≢true yes), λ h. ap is_block_kind h.1)

-- marks of numbers from one on
mark_at : (f : ℕ → Bool) (first n i : ℕ) → i < n → slice_index_or (map f (numbers first n)) i false ≡ f (first + i)
mark_at f first zero i h = absurd (omega (arith, h))
mark_at f first (suc n) zero h = ap f (omega arith)
mark_at f first (suc n) (suc i) h = mark_at f (suc first) n i (omega (arith, h)) ∙ ap f (omega arith)

mark_past : (f : ℕ → Bool) (first n i : ℕ) → n ≤ i → slice_index_or (map f (numbers first n)) i false ≡ false
mark_past f first zero i h = refl
mark_past f first (suc n) zero h = absurd (omega (arith, h))
mark_past f first (suc n) (suc i) h = mark_past f (suc first) n i (omega (arith, h))

marked : (d : Parts) (c : Claims) (i : ℕ) → (IsTrue (slice_index_or (marks_of d c) i false) ↔ IsBlock d c i)
marked d c i =
    elim (slice_get_cases d.processes i).1 [
      | inl x ↦ subst (λ (b : Bool). IsTrue b ↔ IsBlock d c i) (sym (mark_at (blocks_of d c) 0 (length d.processes) i x.1 ∙ ap (blocks_of d c) (omega arith))) (told (kind_of d c i))
      | inr past ↦
          subst (λ (b : Bool). IsTrue b ↔ IsBlock d c i) (sym (mark_past (blocks_of d c) 0 (length d.processes) i past.0))
          (λ yes. absurd (false≢true yes), λ h. absurd (none-some (block h.0) (sym (ap (kind_for c) past.1) ∙ h.1)))
    ]

pub wired : (d : Parts) (c : Claims) → IsWiringOf d c (wiring d (marks_of d c))
wired d c = record { design = refl; blocks = marked d c }

-- ---- how the marks are made

pub marks_more : (f : ℕ → Bool) (first n : ℕ) → map f (numbers first n) ++ f (first + n) ∷ [] ≡ map f (numbers first (suc n))
marks_more f first zero = ap (λ (m : ℕ). f m ∷ []) (omega arith)
marks_more f first (suc n) =
    ap (λ (m : ℕ). f first ∷ map f (numbers (suc first) n) ++ f m ∷ []) (omega arith) ∙ ap (λ (bs : List Bool). f first ∷ bs) (marks_more f (suc first) n)

pub mark_is : (d : Parts) (c : Claims) (i : ℕ) (b : Bool) → (IsTrue b ↔ IsBlock d c i) → b ≡ blocks_of d c i
mark_is d c i b h = same_tests b (blocks_of d c i) (λ yes. (told (kind_of d c i)).1 (h.0 yes)) (λ yes. h.1 ((told (kind_of d c i)).0 yes))
