-- All rules, and the verdict of a checker.
use Rattle.std.specs.Prelude.{ℕ, zero, suc, ◌≡◌, ◌<◌, Option, Some, List, [], ◌∷◌, ◌++◌, length, map, slice_get}
use Rattle.vs_design.specs.Parts.{Parts}
use Rattle.vs_rules.specs.Claims.{Name}
use Rattle.vs_rules.specs.Claims.{Claims, all_names, signal_name, assign_name, process_name}
use Rattle.vs_rules.specs.Limits.{IsCertificate}
use Rattle.vs_rules.specs.Drivers.{Driver}
use Rattle.vs_rules.specs.Drivers as x
use Rattle.vs_rules.specs.Rules.{K1_Signal, K1_Assign, K1_Process, K1_Name, K2, K3, K4, K6, K7, K8, K9, K10_Signal, K10_Process}
use Rattle.vs_rules.specs.Blocks.{K5, K11}

pub data Rule : Type 0 where
  k1 : Rule
  k2 : Rule
  k3 : Rule
  k4 : Rule
  k5 : Rule
  k6 : Rule
  k7 : Rule
  k8 : Rule
  k9 : Rule
  k10 : Rule
  k11 : Rule

abbrev pub number : Rule → ℕ
number k1 = 1
number k2 = 2
number k3 = 3
number k4 = 4
number k5 = 5
number k6 = 6
number k7 = 7
number k8 = 8
number k9 = 9
number k10 = 10
number k11 = 11

-- what a rule is about
pub data Subject : Type 0 where
  signal : ℕ → Subject
  assign : ℕ → Subject
  process : ℕ → Subject
  -- a name of one of the lists
  listed : Name → Subject

-- a design keeps a rule that is about signals, and asks nothing of other subjects; alike for drivers and processes
abbrev pub OfSignal : (ℕ → Type 0) → Subject → Type 0
OfSignal keeps (signal v) = keeps v
OfSignal keeps _ = Unit {0}

abbrev pub OfProcess : (ℕ → Type 0) → Subject → Type 0
OfProcess keeps (process i) = keeps i
OfProcess keeps _ = Unit {0}

abbrev pub OfDriver : (Driver → Type 0) → Subject → Type 0
OfDriver keeps (assign j) = keeps (x.assign j)
OfDriver keeps (process i) = keeps (x.block i)
OfDriver keeps _ = Unit {0}

abbrev pub OfAll : Parts → Claims → Subject → Type 0
OfAll d c (signal v) = K1_Signal d c v
OfAll d c (assign j) = K1_Assign d c j
OfAll d c (process i) = K1_Process d c i
OfAll d c (listed name) = K1_Name d c name

abbrev pub OfFirstSlot : Parts → Claims → Subject → Type 0
OfFirstSlot d c (signal v) = K10_Signal d c v
OfFirstSlot d c (process i) = K10_Process d c i
OfFirstSlot d c _ = Unit {0}

-- a design keeps a rule at a subject
abbrev pub Keeps : Parts → Claims → Rule → Subject → Type 0
Keeps d c k1 s = OfAll d c s
Keeps d c k2 s = OfSignal (K2 d c) s
Keeps d c k3 s = OfSignal (K3 d c) s
Keeps d c k4 s = OfDriver (K4 d c) s
Keeps d c k5 s = OfProcess (K5 d c) s
Keeps d c k6 s = OfSignal (K6 d c) s
Keeps d c k7 s = OfProcess (K7 d c) s
Keeps d c k8 s = OfProcess (K8 d c) s
Keeps d c k9 s = OfProcess (K9 d c) s
Keeps d c k10 s = OfFirstSlot d c s
Keeps d c k11 s = OfProcess (K11 d c) s

-- numbers from one on
abbrev pub numbers : ℕ → ℕ → List ℕ
numbers first zero = []
numbers first (suc n) = first ∷ numbers (suc first) n

-- the subjects in their order: signals, continuous assignments and processes, each in design order, and then the names of the certificate's lists
abbrev pub subjects : Parts → Claims → List Subject
subjects d c =
    map signal (numbers 0 (length d.signals)) ++ map assign (numbers 0 (length d.assigns)) ++ map process (numbers 0 (length d.processes))
    ++ map listed (all_names c)

-- a design keeps a rule at each subject
abbrev pub KeepsAll : Parts → Claims → Rule → Type 0
KeepsAll d c k = (n : ℕ) (s : Subject) → slice_get (subjects d c) n ≡ Some s → Keeps d c k s

-- it keeps all rules
abbrev pub Disciplined : Parts → Claims → Type 0
Disciplined d c = (k : Rule) → KeepsAll d c k

-- what a yes says, with what the reader of the certificate has tested: it has the form and keeps the limits, and the design keeps all rules
pub record IsAccepted (d : Parts) (c : Claims) : Type 0 where
  pub certificate : IsCertificate c
  pub rules : Disciplined d c

-- the name by which a subject is told
abbrev pub place_of : Parts → Subject → Option Name
place_of d (signal v) = signal_name (slice_get d.signals v)
place_of d (assign j) = assign_name (slice_get d.assigns j)
place_of d (process i) = process_name (slice_get d.processes i)
place_of d (listed name) = Some name

-- this is the least rule that the design breaks, and the first subject at which it breaks it
pub record Breaks (d : Parts) (c : Claims) (k : Rule) (place : Name) : Type 0 where
  pub below : (j : Rule) → number j < number k → KeepsAll d c j
  pub n : ℕ
  pub subject : Subject
  pub is : slice_get (subjects d c) n ≡ Some subject
  pub told : place_of d subject ≡ Some place
  pub first : (m : ℕ) (s : Subject) → m < n → slice_get (subjects d c) m ≡ Some s → Keeps d c k s
  pub broken : Keeps d c k subject → ⊥

-- what a checker answers
pub data Verdict : Type 0 where
  yes_verdict : Verdict
  no_verdict : Rule → Name → Verdict

-- a verdict on a certificate that its reader has taken is right
abbrev pub IsVerdict : Parts → Claims → Verdict → Type 0
IsVerdict d c yes_verdict = Disciplined d c
IsVerdict d c (no_verdict k place) = Breaks d c k place

-- all rules of all numbers: those past the end are of no subject
pub record Keeping (d : Parts) (c : Claims) : Type 0 where
  pub names_signals : (v : ℕ) → K1_Signal d c v
  pub names_assigns : (j : ℕ) → K1_Assign d c j
  pub names_processes : (i : ℕ) → K1_Process d c i
  pub names_known : (n : ℕ) (name : Name) → slice_get (all_names c) n ≡ Some name → K1_Name d c name
  pub writers : (v : ℕ) → K2 d c v
  pub modes : (v : ℕ) → K3 d c v
  pub order : (x : Driver) → K4 d c x
  pub blocks : (i : ℕ) → K5 d c i
  pub roots : (v : ℕ) → K6 d c v
  pub edges : (i : ℕ) → K7 d c i
  pub residues : (i : ℕ) → K8 d c i
  pub readings : (i : ℕ) → K9 d c i
  pub first_roots : (v : ℕ) → K10_Signal d c v
  pub first_slot : (i : ℕ) → K10_Process d c i
  pub starts : (i : ℕ) → K11 d c i

-- a design has one verdict at most
abbrev pub VerdictsAreOne : Type 0
VerdictsAreOne = (d : Parts) (c : Claims) (one other : Verdict) → IsVerdict d c one → IsVerdict d c other → one ≡ other
