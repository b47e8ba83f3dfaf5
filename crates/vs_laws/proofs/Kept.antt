-- A design that keeps the rules at all numbers keeps them at each subject.
use Rattle.std.proofs.Common.{◌≡◌, ℕ, zero, suc, ◌<◌, ◌⊎◌, Some, List, [], ◌∷◌, ◌++◌, length, map, slice_get, refl, subst, inl, inr, arith}
use Rattle.std.proofs.lemmas.Option.{none-some, same_Some}
use Rattle.vs_design.specs.Parts.{Parts}
use Rattle.vs_design.specs.WellFormed.{WellFormed}
use Rattle.vs_rules.specs.Limits.{IsCertificate, IsWideCertificate}
use Rattle.vs_independence.proofs.Ruled.{rules_make_independent}
use Rattle.vs_laws.specs.Kept.{KeepsRules, KeepsWideRules}
use Rattle.vs_rules.specs.Claims.{Name, Claims, all_names}
use Rattle.vs_rules.specs.Drivers.{Driver}
use Rattle.vs_rules.specs.Drivers as x
use Rattle.vs_rules.specs.Rules.{K1_Signal, K1_Assign, K1_Process, K1_Name, K2, K3, K4, K6, K7, K8, K9, K10_Signal, K10_Process}
use Rattle.vs_rules.specs.Blocks.{K5, K11}
use Rattle.vs_rules.specs.Verdict.{KeepsAll, Rule, number, k1, k2, k3, k4, k5, k6, k7, k8, k9, k10, k11, Subject, signal, assign, process, listed, OfSignal, OfProcess, OfDriver, OfFirstSlot, numbers, subjects, Disciplined, Keeping}

-- ---- a name among the subjects is one of a list of the certificate

abbrev At : {A : Type 0} → List A → A → Type 0
At xs x = (n : ℕ) × (slice_get xs n ≡ Some x)

at_either : {A : Type 0} (xs ys : List A) (n : ℕ) (x : A) → slice_get (xs ++ ys) n ≡ Some x → At xs x ⊎ At ys x
at_either [] ys n x is = inr (n, is)
at_either (z ∷ xs) ys zero x is = inl (0, is)
at_either (z ∷ xs) ys (suc n) x is = elim (at_either xs ys n x is) [
  | inl left ↦ inl (suc left.0, left.1)
  | inr right ↦ inr right
]

at_source : {A B : Type 0} (f : A → B) (xs : List A) (n : ℕ) (y : B) → slice_get (map f xs) n ≡ Some y → (x : A) × At xs x × (f x ≡ y)
at_source f [] n y is = absurd (none-some y is)
at_source f (x ∷ xs) zero y is = (x, (0, refl), same_Some (f x) y is)
at_source f (x ∷ xs) (suc n) y is = let there = at_source f xs n y is in (there.0, (suc there.1.0, there.1.1), there.2)

same_name : (a b : Name) → listed a ≡ listed b → a ≡ b
same_name a b e = cc

no_signal : (v : ℕ) (name : Name) → signal v ≡ listed name → ⊥
no_signal v name e = cc

no_assign : (j : ℕ) (name : Name) → assign j ≡ listed name → ⊥
no_assign j name e = cc

no_process : (i : ℕ) (name : Name) → process i ≡ listed name → ⊥
no_process i name e = cc

no_number : (f : ℕ → Subject) (xs : List ℕ) (name : Name) → ((n : ℕ) → f n ≡ listed name → ⊥) → At (map f xs) (listed name) → ⊥
no_number f xs name differ at = let there = at_source f xs at.0 (listed name) at.1 in differ there.0 there.2

name_of : (d : Parts) (c : Claims) (n : ℕ) (name : Name) → slice_get (subjects d c) n ≡ Some (listed name) → At (all_names c) name
name_of d c n name is = elim (at_either (signals ++ assigns ++ processes) (map listed (all_names c)) n (listed name) is) [
  | inl design ↦ absurd (no_subject design)
  | inr there ↦ let found = at_source listed (all_names c) there.0 (listed name) there.1 in subst (At (all_names c)) (same_name found.0 name found.2) found.1
]
  where
    signals : List Subject
    signals = map signal (numbers 0 (length d.signals))

    assigns : List Subject
    assigns = map assign (numbers 0 (length d.assigns))

    processes : List Subject
    processes = map process (numbers 0 (length d.processes))

    no_driver : At (signals ++ assigns) (listed name) → ⊥
    no_driver at = elim (at_either signals assigns at.0 (listed name) at.1) [
      | inl there ↦ no_number signal (numbers 0 (length d.signals)) name (λ v. no_signal v name) there
      | inr there ↦ no_number assign (numbers 0 (length d.assigns)) name (λ j. no_assign j name) there
    ]

    no_subject : At (signals ++ assigns ++ processes) (listed name) → ⊥
    no_subject at = elim (at_either (signals ++ assigns) processes at.0 (listed name) at.1) [
      | inl there ↦ no_driver there
      | inr there ↦ no_number process (numbers 0 (length d.processes)) name (λ i. no_process i name) there
    ]

-- ---- each rule at each subject

of_signal : (P : ℕ → Type 0) → ((v : ℕ) → P v) → (s : Subject) → OfSignal P s
of_signal P h (signal v) = h v
of_signal P h (assign j) = tt
of_signal P h (process i) = tt
of_signal P h (listed name) = tt

of_process : (P : ℕ → Type 0) → ((i : ℕ) → P i) → (s : Subject) → OfProcess P s
of_process P h (signal v) = tt
of_process P h (assign j) = tt
of_process P h (process i) = h i
of_process P h (listed name) = tt

of_driver : (P : Driver → Type 0) → ((y : Driver) → P y) → (s : Subject) → OfDriver P s
of_driver P h (signal v) = tt
of_driver P h (assign j) = h (x.assign j)
of_driver P h (process i) = h (x.block i)
of_driver P h (listed name) = tt

-- the first rule at each subject, and the second
pub names_kept : (d : Parts) (c : Claims) → ((v : ℕ) → K1_Signal d c v) → ((j : ℕ) → K1_Assign d c j) → ((i : ℕ) → K1_Process d c i) →
    ((n : ℕ) (name : Name) → slice_get (all_names c) n ≡ Some name → K1_Name d c name) → KeepsAll d c k1
names_kept d c signals assigns processes known n (signal v) is = signals v
names_kept d c signals assigns processes known n (assign j) is = assigns j
names_kept d c signals assigns processes known n (process i) is = processes i
names_kept d c signals assigns processes known n (listed name) is = let there = name_of d c n name is in known there.0 name there.1

pub writers_kept : (d : Parts) (c : Claims) → ((v : ℕ) → K2 d c v) → KeepsAll d c k2
writers_kept d c writers n s is = of_signal (K2 d c) writers s

of_first : (d : Parts) (c : Claims) → Keeping d c → (s : Subject) → OfFirstSlot d c s
of_first d c h (signal v) = h.first_roots v
of_first d c h (assign j) = tt
of_first d c h (process i) = h.first_slot i
of_first d c h (listed name) = tt

disciplined : (d : Parts) (c : Claims) → Keeping d c → Disciplined d c
disciplined d c h k1 n s is = names_kept d c h.names_signals h.names_assigns h.names_processes h.names_known n s is
disciplined d c h k2 n s is = writers_kept d c h.writers n s is
disciplined d c h k3 n s is = of_signal (K3 d c) h.modes s
disciplined d c h k4 n s is = of_driver (K4 d c) h.order s
disciplined d c h k5 n s is = of_process (K5 d c) h.blocks s
disciplined d c h k6 n s is = of_signal (K6 d c) h.roots s
disciplined d c h k7 n s is = of_process (K7 d c) h.edges s
disciplined d c h k8 n s is = of_process (K8 d c) h.residues s
disciplined d c h k9 n s is = of_process (K9 d c) h.readings s
disciplined d c h k10 n s is = of_first d c h s
disciplined d c h k11 n s is = of_process (K11 d c) h.starts s

-- and so its traces do not depend on the order of its steps
pub keeps_rules : (d : Parts) (c : Claims) → WellFormed d → IsCertificate c → Keeping d c → KeepsRules d c
keeps_rules d c formed certificate h =
    (formed, record { certificate = certificate; rules = disciplined d c h }, rules_make_independent d c formed (disciplined d c h))

-- the rules before that of the first slot, of all numbers
pub record Before (d : Parts) (c : Claims) : Type 0 where
  pub names_signals : (v : ℕ) → K1_Signal d c v
  pub names_assigns : (j : ℕ) → K1_Assign d c j
  pub names_processes : (i : ℕ) → K1_Process d c i
  pub names_known : (n : ℕ) (name : Name) → slice_get (all_names c) n ≡ Some name → K1_Name d c name
  pub writers : (v : ℕ) → K2 d c v
  pub modes : (v : ℕ) → K3 d c v
  pub order : (y : Driver) → K4 d c y
  pub blocks : (i : ℕ) → K5 d c i
  pub roots : (v : ℕ) → K6 d c v
  pub edges : (i : ℕ) → K7 d c i
  pub residues : (i : ℕ) → K8 d c i
  pub readings : (i : ℕ) → K9 d c i

pub before_kept : (d : Parts) (c : Claims) → Before d c → (k : Rule) → number k < 10 → KeepsAll d c k
before_kept d c h k1 less = names_kept d c h.names_signals h.names_assigns h.names_processes h.names_known
before_kept d c h k2 less = writers_kept d c h.writers
before_kept d c h k3 less = λ n s is. of_signal (K3 d c) h.modes s
before_kept d c h k4 less = λ n s is. of_driver (K4 d c) h.order s
before_kept d c h k5 less = λ n s is. of_process (K5 d c) h.blocks s
before_kept d c h k6 less = λ n s is. of_signal (K6 d c) h.roots s
before_kept d c h k7 less = λ n s is. of_process (K7 d c) h.edges s
before_kept d c h k8 less = λ n s is. of_process (K8 d c) h.residues s
before_kept d c h k9 less = λ n s is. of_process (K9 d c) h.readings s
before_kept d c h k10 less = absurd (omega (arith, less))
before_kept d c h k11 less = absurd (omega (arith, less))

pub with_first_slot : (d : Parts) (c : Claims) → Before d c → ((v : ℕ) → K10_Signal d c v) → ((i : ℕ) → K10_Process d c i) → ((i : ℕ) → K11 d c i) → Keeping d c
with_first_slot d c h signals processes starts = record {
  names_signals = h.names_signals;
  names_assigns = h.names_assigns;
  names_processes = h.names_processes;
  names_known = h.names_known;
  writers = h.writers;
  modes = h.modes;
  order = h.order;
  blocks = h.blocks;
  roots = h.roots;
  edges = h.edges;
  residues = h.residues;
  readings = h.readings;
  first_roots = signals;
  first_slot = processes;
  starts = starts;
}

-- alike where the certificate may be one of version 3
pub keeps_wide_rules : (d : Parts) (c : Claims) → WellFormed d → IsWideCertificate c → Keeping d c → KeepsWideRules d c
keeps_wide_rules d c formed certificate h = (formed, certificate, disciplined d c h, rules_make_independent d c formed (disciplined d c h))
