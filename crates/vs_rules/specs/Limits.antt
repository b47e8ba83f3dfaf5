-- The form and the limits of a certificate (profile): what its reader asks of it before any rule is asked of a design.
use Rattle.std.specs.Prelude.{ℕ, suc, ◌^◌, ◌≡◌, ◌==◌, ◌<◌, ◌≤◌, ◌⊎◌, ◌&&◌, Bool, true, false, if◌then◌else◌, List, [], ◌∷◌, length, nat_le, nat_lt}
use Rattle.std.specs.List.{Contains}
use Rattle.vs_rules.specs.Claims.{Claims, ProcessClaim, block, delays, mixed, starter, has_both, has_mixed}

-- whether numbers rise, each at least the first one, and stay below a bound
abbrev pub rise : ℕ → ℕ → List ℕ → Bool
rise first bound [] = true
rise first bound (n ∷ ns) = nat_le first n && nat_lt n bound && rise (suc n) bound ns

-- the residues of a delay control: at most so many, rising, below the modulus
pub record AreResidues (most modulus : ℕ) (residues : List ℕ) : Type 0 where
  pub few : length residues ≤ most
  pub rising : rise 0 modulus residues ≡ true

-- the lists of a process of kind delay: at most 65,536
pub record AreLists (most modulus : ℕ) (lists : List (List ℕ)) : Type 0 where
  pub few : length lists ≤ 65536
  pub each : (residues : List ℕ) → Contains lists residues → AreResidues most modulus residues

-- how many residues a list may have: 64, in version 3 4,096
abbrev pub most_residues : ℕ → ℕ
most_residues version = if version == 3 then 4096 else 64

-- no reader of certificates whose version is one that it knows refuses it: its version, its modulus and its lists are as the format has them
pub record IsCertificateOf (IsKnown : ℕ → Type 0) (c : Claims) : Type 0 where
  pub version : IsKnown c.version
  -- one of version 1 has neither `displays` nor a starter
  pub displays : c.version ≡ 1 → c.displays ≡ false
  pub starts : (p : ProcessClaim) → c.version ≡ 1 → Contains c.processes p → p.kind ≡ block starter → ⊥
  -- one of version 1 or 2 has neither the mode of version 3 nor its kind
  pub narrow : (c.version ≡ 3) ⊎ (has_both c ≡ false)
  pub unmixed : (c.version ≡ 3) ⊎ (has_mixed c ≡ false)
  -- the modulus is 1 to 2^32
  pub above : 0 < c.modulus
  pub below : c.modulus ≤ 2 ^ 32
  -- no list has more than 65,536 entries
  pub few_edges : length c.edges ≤ 65536
  pub few_ordered : length c.order ≤ 65536
  pub few_processes : length c.processes ≤ 65536
  pub few_signals : length c.signals ≤ 65536
  -- nor the lists of a process, whose residues rise below the modulus
  pub lists : (p : ProcessClaim) (lists : List (List ℕ)) → Contains c.processes p → (p.kind ≡ delays lists) ⊎ (p.kind ≡ mixed lists) →
      AreLists (most_residues c.version) c.modulus lists

abbrev pub IsNarrow : ℕ → Type 0
IsNarrow version = (version ≡ 1) ⊎ (version ≡ 2)

-- the reader of versions 1 and 2 doesn't refuse it
abbrev pub IsCertificate : Claims → Type 0
IsCertificate c = IsCertificateOf IsNarrow c

-- nor does that of version 3 too
abbrev pub IsWideCertificate : Claims → Type 0
IsWideCertificate c = IsCertificateOf (λ version. IsNarrow version ⊎ (version ≡ 3)) c
