-- What a reader of certificates asks of one, by the kinds of its processes.
use Rattle.std.proofs.Common.{◌≡◌, ◌⊎◌, ℕ, zero, suc, false, if◌then◌else◌, Option, Some, None, List, [], ◌∷◌, slice_get, sym, ◌∙◌, ap, subst, inl, inr, lit≤}
use Rattle.std.proofs.lemmas.Bool.{cases_Bool, or_parts, true≢false}
use Rattle.std.proofs.lemmas.Option.{none-some, same_Some}
use Rattle.std.specs.List.{Contains, list_any}
use Rattle.std.specs.Str.{bytes_eq}
use Rattle.vs_design.specs.declared.design.Process.{Process}
use Rattle.vs_design.specs.Parts.{Parts}
use Rattle.vs_rules.specs.vs_process.proofs.ThreadLists.{place_of}
use Rattle.vs_rules.specs.Claims.{Claims, Name, Kind, ProcessClaim, Start, is_mixed, has_mixed, kind_in as kind_named, kind_for, HasLists, HasMixedLists, IsEdge, WaitsForEdges, WaitsForTimes}
use Rattle.vs_rules.specs.Limits.{AreLists, AreResidues}
use Rattle.vs_design.specs.vs_logic4.proofs.Basics.{one_in, none_in}

-- ---- each process of a list

abbrev pub AllKinds : (Kind → Type 0) → List ProcessClaim → Type 0
AllKinds P [] = Unit {0}
AllKinds P (p ∷ ps) = P p.kind × AllKinds P ps

kind_in : (P : Kind → Type 0) (ps : List ProcessClaim) → AllKinds P ps → (n : ℕ) (p : ProcessClaim) → slice_get ps n ≡ Some p → P p.kind
kind_in P [] all n p is = absurd (none-some p is)
kind_in P (q ∷ ps) all zero p is = subst (λ (x : ProcessClaim). P x.kind) (same_Some q p is) all.0
kind_in P (q ∷ ps) all (suc n) p is = kind_in P ps all.1 n p is

-- ---- lists

pub no_lists : (modulus : ℕ) → AreLists 64 modulus []
no_lists modulus = record { few = lit≤ tt; each = λ residues has. absurd (none_in residues has) }

pub one_list_of : (most modulus : ℕ) (residues : List ℕ) → AreResidues most modulus residues → AreLists most modulus (residues ∷ [])
one_list_of most modulus residues are = record { few = lit≤ tt; each = λ other has. subst (AreResidues most modulus) (one_in residues other has) are }

pub one_list : (modulus : ℕ) (residues : List ℕ) → AreResidues 64 modulus residues → AreLists 64 modulus (residues ∷ [])
one_list modulus residues are = one_list_of 64 modulus residues are

-- the lists of a process of this kind are sound, with at most so many residues each
abbrev pub HasListsOf : ℕ → ℕ → Kind → Type 0
HasListsOf most modulus (Kind.block start) = Unit {0}
HasListsOf most modulus Kind.edges = Unit {0}
HasListsOf most modulus (Kind.delays lists) = AreLists most modulus lists
HasListsOf most modulus (Kind.mixed lists) = AreLists most modulus lists

pub sound_lists_of : (most modulus : ℕ) (ps : List ProcessClaim) → AllKinds (HasListsOf most modulus) ps → (p : ProcessClaim) (lists : List (List ℕ)) → Contains ps p →
    (p.kind ≡ Kind.delays lists) ⊎ (p.kind ≡ Kind.mixed lists) → AreLists most modulus lists
sound_lists_of most modulus ps all p lists has is =
    let there = place_of ps p has in
    let sound = kind_in (HasListsOf most modulus) ps all there.0 p there.1 in
    elim is [
      | inl delay ↦ subst (HasListsOf most modulus) delay sound
      | inr mix ↦ subst (HasListsOf most modulus) mix sound
    ]

-- in version 1 or 2
abbrev pub HasSoundLists : ℕ → Kind → Type 0
HasSoundLists modulus kind = HasListsOf 64 modulus kind

pub sound_lists : (modulus : ℕ) (ps : List ProcessClaim) → AllKinds (HasSoundLists modulus) ps → (p : ProcessClaim) (lists : List (List ℕ)) → Contains ps p →
    (p.kind ≡ Kind.delays lists) ⊎ (p.kind ≡ Kind.mixed lists) → AreLists 64 modulus lists
sound_lists modulus ps all p lists has is = sound_lists_of 64 modulus ps all p lists has is

-- ---- starts

abbrev IsStarter : Start → Type 0
IsStarter Start.starter = ⊥
IsStarter _ = Unit {0}

-- it is no block that a starter starts
abbrev pub HasNoStarter : Kind → Type 0
HasNoStarter (Kind.block start) = IsStarter start
HasNoStarter _ = Unit {0}

pub no_starters : (ps : List ProcessClaim) → AllKinds HasNoStarter ps → (p : ProcessClaim) → Contains ps p → p.kind ≡ Kind.block Start.starter → ⊥
no_starters ps all p has is = let there = place_of ps p has in subst HasNoStarter is (kind_in HasNoStarter ps all there.0 p there.1)

-- ---- no process of kind mixed

unmixed_in : (ps : List ProcessClaim) (name : Name) (lists : List (List ℕ)) → list_any (λ (p : ProcessClaim). is_mixed p.kind) ps ≡ false → kind_named ps name ≡ Some (Kind.mixed lists) → ⊥
unmixed_in [] name lists none is = none-some (Kind.mixed lists) is
unmixed_in (p ∷ ps) name lists none is =
    let parts = or_parts (is_mixed p.kind) (list_any (λ (p : ProcessClaim). is_mixed p.kind) ps) none in
    elim (cases_Bool (bytes_eq p.name name)) [
      | inl hit ↦ true≢false (sym (ap is_mixed (same_Some p.kind (Kind.mixed lists) (subst (λ b. (if b then Some p.kind else kind_named ps name) ≡ Some (Kind.mixed lists)) hit is))) ∙ parts.0)
      | inr miss ↦ unmixed_in ps name lists parts.1 (subst (λ b. (if b then Some p.kind else kind_named ps name) ≡ Some (Kind.mixed lists)) miss is)
    ]

-- where no entry has it, no process is of it
pub none_mixed : (d : Parts) (c : Claims) (i : ℕ) (lists : List (List ℕ)) → has_mixed c ≡ false → HasMixedLists d c i lists → ⊥
none_mixed d c i lists none is = by_process (slice_get d.processes i) is
  where
    by_process : (o : Option Process) → kind_for c o ≡ Some (Kind.mixed lists) → ⊥
    by_process None is = none-some (Kind.mixed lists) is
    by_process (Some p) is = unmixed_in c.processes p.name.items lists none is

pub edge_unmixed : (d : Parts) (c : Claims) (i : ℕ) → has_mixed c ≡ false → WaitsForEdges d c i → IsEdge d c i
edge_unmixed d c i none (inl edge) = edge
edge_unmixed d c i none (inr mix) = absurd (none_mixed d c i mix.0 none mix.1)

pub lists_unmixed : (d : Parts) (c : Claims) (i : ℕ) (lists : List (List ℕ)) → has_mixed c ≡ false → WaitsForTimes d c i lists → HasLists d c i lists
lists_unmixed d c i lists none (inl delay) = delay
lists_unmixed d c i lists none (inr mix) = absurd (none_mixed d c i lists none mix)
