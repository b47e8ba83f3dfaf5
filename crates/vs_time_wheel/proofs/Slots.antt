-- The slots of a calendar and their flags.
use Rattle.std.proofs.Common.{◌≡◌, ◌≢◌, ◌⊎◌, inl, inr, ℕ, zero, suc, ◌<◌, ◌==◌, ◌/◌, ◌%◌, ◌^◌, true, false, eqb, if◌then◌else◌, Option, None, Some, MatchOption, List, [], ◌∷◌, ◌++◌, length, get_or, set, drop, refl, sym, ap, ◌∙◌, arith}
use Rattle.std.proofs.lemmas.Nat.Bits.{bit_at-zero}
use Rattle.std.proofs.lemmas.Bool.Decides.{eqb_tells}
use Rattle.std.proofs.lemmas.Grind.{get_or-set_at}
use Rattle.std.proofs.lemmas.List.{get_or_read, length-set, get_or-set_other}
use Rattle.vs_time_wheel.specs.Busy.{flag_at}
use Rattle.vs_time_wheel.specs.Rotation.{slot_at, flag_of, IsFlagged}

-- ---- slots without an event
zeros : (k : ℕ) → get_or {A = ℕ} (0 ∷ 0 ∷ 0 ∷ 0 ∷ []) k 0 ≡ 0
zeros zero = refl
zeros (suc zero) = refl
zeros (suc (suc zero)) = refl
zeros (suc (suc (suc zero))) = refl
zeros (suc (suc (suc (suc k)))) = refl

pub flagged_free : {E : Type 0} (slots : List (List E)) → length slots ≡ 256 → ((i : ℕ) → slot_at slots i ≡ []) → IsFlagged slots (0 ∷ 0 ∷ 0 ∷ 0 ∷ [])
flagged_free slots count free = record {
  count = count;
  flagged = λ i low. ap (λ n. n / 2 ^ (i % 64) % 2) (zeros (i / 64)) ∙ bit_at-zero (i % 64) ∙ sym (ap flag_of (free i));
}

-- one slot more
pub free_push : {E : Type 0} (slots : List (List E)) → ((i : ℕ) → slot_at slots i ≡ []) → (i : ℕ) → slot_at (slots ++ [] ∷ []) i ≡ []
free_push [] free zero = refl
free_push [] free (suc i) = refl
free_push (s ∷ ss) free zero = free zero
free_push (s ∷ ss) free (suc i) = free_push ss (λ j. free (suc j)) i

-- ---- one slot is changed
module _ {E : Type 0} (slots : List (List E)) (flags flags' : List ℕ) (slot flag : ℕ) (chain : List E) (low : slot < 256) (old : IsFlagged slots flags) (is : flag_of chain ≡ flag) (told : (i : ℕ) → i < 256 → flag_at flags' i ≡ (if i == slot then flag else flag_at flags i)) where
  flag_told : (i : ℕ) → i < 256 → ((eqb i slot ≡ true) × (i ≡ slot)) ⊎ ((eqb i slot ≡ false) × (i ≢ slot)) → flag_at flags' i ≡ flag_of (slot_at (set slots slot chain) i)
  flag_told i h (inl same) = told i h ∙ ap (λ b. if b then flag else flag_at flags i) same.0 ∙ sym is ∙ sym (ap flag_of (get_or-set_at slots slot i chain [] same.1 (let count = old.count in omega arith)))
  flag_told i h (inr other) = told i h ∙ ap (λ b. if b then flag else flag_at flags i) other.0 ∙ old.flagged i h ∙ sym (ap flag_of (get_or-set_other slots slot i chain [] other.1))

  -- the flag is set or cleared with it
  pub flagged_set : IsFlagged (set slots slot chain) flags'
  flagged_set = record { count = length-set slots slot chain ∙ old.count; flagged = λ i h. flag_told i h (eqb_tells i slot) }

flag_kept : (flags : List ℕ) (slot i : ℕ) → ((eqb i slot ≡ true) × (i ≡ slot)) ⊎ ((eqb i slot ≡ false) × (i ≢ slot)) → flag_at flags i ≡ (if i == slot then flag_at flags slot else flag_at flags i)
flag_kept flags slot i (inl same) = ap (flag_at flags) same.1 ∙ sym (ap (λ b. if b then flag_at flags slot else flag_at flags i) same.0)
flag_kept flags slot i (inr other) = sym (ap (λ b. if b then flag_at flags slot else flag_at flags i) other.0)

-- the flag stays where it says the same
pub flagged_kept : {E : Type 0} (slots : List (List E)) (flags : List ℕ) (slot : ℕ) (chain : List E) → slot < 256 → IsFlagged slots flags → flag_of chain ≡ flag_of (slot_at slots slot) → IsFlagged (set slots slot chain) flags
flagged_kept slots flags slot chain low old same = flagged_set slots flags flags slot (flag_at flags slot) chain low old (same ∙ sym (old.flagged slot low)) (λ i h. flag_kept flags slot i (eqb_tells i slot))

pub flag_of-some : {E : Type 0} (chain : List E) → chain ≢ [] → flag_of chain ≡ 1
flag_of-some [] some = absurd (some refl)
flag_of-some (x ∷ xs) some = refl

pub slot_read : {E : Type 0} (slots : List (List E)) (flags : List ℕ) (slot : ℕ) (chain : List E) → slot < 256 → IsFlagged slots flags → chain ≡ get_or slots slot chain → chain ≡ slot_at slots slot
slot_read slots flags slot chain low old read = get_or_read slots slot chain (let count = old.count in omega arith) read []

-- what is left of a slot whose first event was taken
pub popped_rest : {E : Type 0} (event : Option E) (before after : List E) → MatchOption event ((before ≡ []) × (after ≡ [])) (λ e. before ≡ e ∷ after) → after ≡ drop 1 before
popped_rest None before after h = h.1 ∙ sym (ap (drop 1) h.0)
popped_rest (Some e) before after h = sym (ap (drop 1) h)

pub popped_flag : {E : Type 0} (event : Option E) (before after : List E) → MatchOption event ((before ≡ []) × (after ≡ [])) (λ e. before ≡ e ∷ after) → after ≢ [] → flag_of after ≡ flag_of before
popped_flag None before after h some = absurd (some h.1)
popped_flag (Some e) before after h some = flag_of-some after some ∙ sym (ap flag_of h)

pub flag_of-push : {E : Type 0} (chain : List E) (event : E) → flag_of (chain ++ event ∷ []) ≡ 1
flag_of-push [] event = refl
flag_of-push (x ∷ xs) event = refl
