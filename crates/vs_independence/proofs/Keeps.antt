-- A well formed design that keeps the rules at each subject keeps them at all numbers: nothing is asked of a number past the end.
use Rattle.std.proofs.Common.{◌≡◌, ℕ, zero, suc, ◌+◌, ◌<◌, Option, Some, None, List, [], ◌∷◌, ◌++◌, length, map, slice_get, refl, sym, ◌∙◌, ap, subst, inl, inr, arith}
use Rattle.std.proofs.lemmas.Bool.{false≢true}
use Rattle.std.proofs.lemmas.Option.{none-some, slice_get_within}
use Rattle.vs_design.specs.declared.design.Assign.{Assign}
use Rattle.vs_design.specs.declared.design.Process.{Process}
use Rattle.vs_design.specs.declared.signal.Signal.{Signal}
use Rattle.vs_design.specs.Parts.{Parts}
use Rattle.vs_design.specs.WellFormed.{WellFormed}
use Rattle.vs_rules.specs.Claims.{Name, names_process, writer_in, second_in}
use Rattle.vs_rules.specs.Points as p
use Rattle.vs_rules.specs.Claims.{Claims, Kind, IsSignalNamed, IsAssignNamed, IsProcessNamed, signal_name, assign_name, process_name, claim_for, claim_of, kind_for, kind_of, mode_in, all_names, IsRootOf, IsSecond, WaitsForEdges, WaitsForTimes, IsSequential, is_wide}
use Rattle.vs_rules.specs.Paths.{is_plain, Writes}
use Rattle.vs_rules.specs.Drivers.{Driver}
use Rattle.vs_rules.specs.Drivers as x
use Rattle.vs_rules.specs.Rules.{K1_Signal, K1_Assign, K1_Process, K2, K3, K4, K6, K7, K8, K9, K10_Signal, K10_Process}
use Rattle.vs_rules.specs.Blocks.{K5, K11}
use Rattle.vs_rules.specs.Verdict.{Rule, k1, k2, k3, k4, k5, k6, k7, k8, k9, k10, k11, signal, assign, process, listed, numbers, subjects, Keeps, KeepsAll, Disciplined, Keeping}
use Rattle.vs_design.specs.vs_logic4.proofs.Basics.{none_in, map_at}
use Rattle.vs_independence.proofs.Beginning.{path_point}
use Rattle.vs_rules.proofs.Texts.{writes_now}
use Rattle.vs_independence.proofs.Variables.{writes_variable}

-- ---- the subjects

abbrev At : {A : Type 0} → List A → A → Type 0
At xs x = (n : ℕ) × (slice_get xs n ≡ Some x)

at_left : {A : Type 0} (xs ys : List A) (x : A) → At xs x → At (xs ++ ys) x
at_left [] ys x h = absurd (none-some x h.1)
at_left (z ∷ xs) ys x (zero, is) = (0, is)
at_left (z ∷ xs) ys x (suc n, is) = let r = at_left xs ys x (n, is) in (suc r.0, r.1)

at_right : {A : Type 0} (xs ys : List A) (x : A) → At ys x → At (xs ++ ys) x
at_right [] ys x h = h
at_right (z ∷ xs) ys x h = let r = at_right xs ys x h in (suc r.0, r.1)

at_map : {A B : Type 0} (f : A → B) (xs : List A) (x : A) → At xs x → At (map f xs) (f x)
at_map f xs x h = (h.0, map_at f xs h.0 x h.1)

at_number : (first n i : ℕ) → i < n → At (numbers first n) (first + i)
at_number first zero i h = absurd (omega (arith, h))
at_number first (suc n) zero h = (0, ap Some (omega (arith)))
at_number first (suc n) (suc i) h =
    let r = at_number (suc first) n i (omega (arith, h)) in
    (suc r.0, r.1 ∙ ap Some (omega (arith)))

at_place : {A : Type 0} (xs : List A) (i : ℕ) (x : A) → slice_get xs i ≡ Some x → At (numbers 0 (length xs)) i
at_place xs i x h = let same : 0 + i ≡ i = omega (arith) in subst (At (numbers 0 (length xs))) same (at_number 0 (length xs) i (slice_get_within xs i x h))

signal_at : (d : Parts) (c : Claims) (v : ℕ) (s : Signal) → slice_get d.signals v ≡ Some s → At (subjects d c) (signal v)
signal_at d c v s is =
    at_left (map signal (numbers 0 (length d.signals)) ++ map assign (numbers 0 (length d.assigns)) ++ map process (numbers 0 (length d.processes))) (map listed (all_names c)) (signal v)
    (at_left (map signal (numbers 0 (length d.signals)) ++ map assign (numbers 0 (length d.assigns))) (map process (numbers 0 (length d.processes))) (signal v)
    (at_left (map signal (numbers 0 (length d.signals))) (map assign (numbers 0 (length d.assigns))) (signal v)
    (at_map signal (numbers 0 (length d.signals)) v (at_place d.signals v s is))))

assign_at : (d : Parts) (c : Claims) (j : ℕ) (a : Assign) → slice_get d.assigns j ≡ Some a → At (subjects d c) (assign j)
assign_at d c j a is =
    at_left (map signal (numbers 0 (length d.signals)) ++ map assign (numbers 0 (length d.assigns)) ++ map process (numbers 0 (length d.processes))) (map listed (all_names c)) (assign j)
    (at_left (map signal (numbers 0 (length d.signals)) ++ map assign (numbers 0 (length d.assigns))) (map process (numbers 0 (length d.processes))) (assign j)
    (at_right (map signal (numbers 0 (length d.signals))) (map assign (numbers 0 (length d.assigns))) (assign j)
    (at_map assign (numbers 0 (length d.assigns)) j (at_place d.assigns j a is))))

process_at : (d : Parts) (c : Claims) (i : ℕ) (p : Process) → slice_get d.processes i ≡ Some p → At (subjects d c) (process i)
process_at d c i p is =
    at_left (map signal (numbers 0 (length d.signals)) ++ map assign (numbers 0 (length d.assigns)) ++ map process (numbers 0 (length d.processes))) (map listed (all_names c)) (process i)
    (at_right (map signal (numbers 0 (length d.signals)) ++ map assign (numbers 0 (length d.assigns))) (map process (numbers 0 (length d.processes))) (process i)
    (at_map process (numbers 0 (length d.processes)) i (at_place d.processes i p is)))

name_at : (d : Parts) (c : Claims) (n : ℕ) (name : Name) → slice_get (all_names c) n ≡ Some name → At (subjects d c) (listed name)
name_at d c n name is =
    at_right (map signal (numbers 0 (length d.signals)) ++ map assign (numbers 0 (length d.assigns)) ++ map process (numbers 0 (length d.processes))) (map listed (all_names c)) (listed name)
    (at_map listed (all_names c) name (n, is))

-- ---- numbers past the end

abbrev Past : {A : Type 0} → List A → ℕ → Type 0
Past xs i = slice_get xs i ≡ None

no_signal : (d : Parts) (v : ℕ) (name : Name) → Past d.signals v → IsSignalNamed d v name → ⊥
no_signal d v name none is = none-some name (sym (ap signal_name none) ∙ is)

no_assign : (d : Parts) (j : ℕ) (name : Name) → Past d.assigns j → IsAssignNamed d j name → ⊥
no_assign d j name none is = none-some name (sym (ap assign_name none) ∙ is)

no_process : (d : Parts) (i : ℕ) (name : Name) → Past d.processes i → IsProcessNamed d i name → ⊥
no_process d i name none is = none-some name (sym (ap process_name none) ∙ is)

no_kind : (d : Parts) (c : Claims) (i : ℕ) (kind : Kind) → Past d.processes i → kind_of d c i ≡ Some kind → ⊥
no_kind d c i kind none is = none-some kind (sym (ap (kind_for c) none) ∙ is)

no_sequential : (d : Parts) (c : Claims) (i : ℕ) → Past d.processes i → IsSequential d c i → ⊥
no_sequential d c i none (inl edge) = no_kind d c i Kind.edges none edge
no_sequential d c i none (inr (inl delay)) = no_kind d c i (Kind.delays delay.0) none delay.1
no_sequential d c i none (inr (inr mix)) = no_kind d c i (Kind.mixed mix.0) none mix.1

no_edges : (d : Parts) (c : Claims) (i : ℕ) → Past d.processes i → WaitsForEdges d c i → ⊥
no_edges d c i none (inl edge) = no_kind d c i Kind.edges none edge
no_edges d c i none (inr mix) = no_kind d c i (Kind.mixed mix.0) none mix.1

no_times : (d : Parts) (c : Claims) (i : ℕ) (lists : List (List ℕ)) → Past d.processes i → WaitsForTimes d c i lists → ⊥
no_times d c i lists none (inl delay) = no_kind d c i (Kind.delays lists) none delay
no_times d c i lists none (inr mix) = no_kind d c i (Kind.mixed lists) none mix

no_writes : (d : Parts) → WellFormed d → (i v : ℕ) → Past d.signals v → Writes d i v → ⊥
no_writes d formed i v none w = let there = writes_variable d formed i v w in none-some there.0 (sym none ∙ there.1)

no_text : (d : Parts) (i v : ℕ) → Past d.processes i → Writes d i v → ⊥
no_text d i v none w = none_in w.range (subst (λ (o : Option Process). Rattle.std.specs.List.Contains (Rattle.vs_rules.specs.vs_process.specs.BlockDrivers.outputs_for o) w.range) none w.listed.0)

past_claim : (d : Parts) (c : Claims) (v : ℕ) → Past d.signals v → claim_of d c v ≡ None
past_claim d c v none = ap (claim_for c) none

past_2 : (d : Parts) (c : Claims) → WellFormed d → (v : ℕ) → Past d.signals v → K2 d c v
past_2 d c formed v none = record {
  named = λ i w. absurd (no_writes d formed i v none w);
  writer_writes = λ name is. absurd (none-some name (sym (ap writer_in (past_claim d c v none)) ∙ is));
  second_writes = λ name is. absurd (none-some name (sym (ap second_in (past_claim d c v none)) ∙ is));
  no_block = λ i j is blk w. no_writes d formed j v none w;
  early = λ i k is point w late. no_second i is;
  first_alone = λ i j l is writer slot w. no_second i is;
  first_alone_later = λ i j k l is point w writer slot now. no_second i is;
}
  where
    no_second : (i : ℕ) → IsSecond d c v i → ⊥
    no_second i is = false≢true (sym (ap (λ o. names_process (second_in o) (slice_get d.processes i)) (past_claim d c v none)) ∙ is)

past_6 : (d : Parts) (c : Claims) (v : ℕ) → Past d.signals v → K6 d c v
past_6 d c v none = record {
  one_entry = λ name is edge. absurd (no_signal d v name none is);
  no_entry = λ name is edge. absurd (no_signal d v name none is);
  copies = λ root is. absurd (no_signal d v is.entry.signal none is.signal);
  root = λ root is. absurd (no_signal d v is.entry.signal none is.signal);
}

past_10 : (d : Parts) (c : Claims) (v : ℕ) → Past d.signals v → K10_Signal d c v
past_10 d c v none = record {
  once = λ i j k l root s w t u. absurd (no_root root);
  now = λ i k root s w. no_root root;
  constant = λ i k root s w. absurd (no_root root);
}
  where
    no_root : (w : ℕ) × IsRootOf d c v w → ⊥
    no_root h = no_signal d v h.1.entry.root none h.1.root_is

past_5 : (d : Parts) (c : Claims) (i : ℕ) → Past d.processes i → K5 d c i
past_5 d c i none = record {
  grain = λ blk. absurd (no_kind d c i (Kind.block blk.0) none blk.1);
  shape = λ q blk is. absurd (no_kind d c i (Kind.block blk.0) none blk.1);
  quiet = λ k blk point. absurd (no_kind d c i (Kind.block blk.0) none blk.1);
  covered = λ r b blk l s h. absurd (no_kind d c i (Kind.block blk.0) none blk.1);
  before_reads = λ b k r blk is w u n e. no_kind d c i (Kind.block blk.0) none blk.1;
  before_end = λ b k next blk is w u g e. no_kind d c i (Kind.block blk.0) none blk.1;
}

past_7 : (d : Parts) (c : Claims) (i : ℕ) → Past d.processes i → K7 d c i
past_7 d c i none = record {
  events = λ k l number terms edge point go. absurd (no_edges d c i none edge);
  no_delay = λ k l number ticks edge point go. no_kind d c i Kind.edges none edge;
  one_signal = λ t u root edge has hus a b. absurd (no_edges d c i none edge);
  apart = λ one other r edge a b. absurd (no_edges d c i none edge);
  arrives = λ lists delay event r is a b e. no_kind d c i (Kind.mixed lists) none is;
}

past_8 : (d : Parts) (c : Claims) (i : ℕ) → Past d.processes i → K8 d c i
past_8 d c i none = record {
  no_event = λ k l number terms delay point go. no_kind d c i (Kind.delays delay.0) none delay.1;
  one_each = λ lists is. absurd (no_times d c i lists none is);
  from_start = λ lists k l number ticks is s g up. absurd (no_times d c i lists none is);
  from_residue = λ lists k l number ticks r is s g. absurd (no_times d c i lists none is);
  from_edge = λ lists k l number ticks r is s g. absurd (no_kind d c i (Kind.mixed lists) none is);
}

past_10p : (d : Parts) (c : Claims) (i : ℕ) → Past d.processes i → K10_Process d c i
past_10p d c i none = record {
  variable = λ k r seq s reads. absurd (no_sequential d c i none seq);
  written = λ k r seq s reads. absurd (no_sequential d c i none seq);
  alone = λ k r j seq s reads w. absurd (no_sequential d c i none seq);
  first = λ k l r j wide seq slot reads there now. absurd (no_sequential d c i none seq);
  untouched = λ k u r pro now needs cone. no_text d i u none (writes_now d i k u (path_point d (is_wide c) i is_plain (p.first_todo d i) k p.begins pro) now);
}

past_1p : (d : Parts) (c : Claims) (i : ℕ) → Past d.processes i → K1_Process d c i
past_1p d c i none = record {
  listed = λ name is. absurd (no_process d i name none is);
  block_ordered = λ name is blk. absurd (no_process d i name none is);
  not_ordered = λ name is blk. absurd (no_process d i name none is);
}

past_4a : (d : Parts) (c : Claims) (j : ℕ) → Past d.assigns j → K4 d c (x.assign j)
past_4a d c j none = record {
  known = λ r is reads. absurd (none-some reads.0 (sym none ∙ reads.1));
  earlier = λ r b y is reads. absurd (none-some reads.0 (sym none ∙ reads.1));
}

past_4b : (d : Parts) (c : Claims) (i : ℕ) → Past d.processes i → K4 d c (x.block i)
past_4b d c i none = record {
  known = λ r is reads. absurd (no_kind d c i (Kind.block is.0) none is.1);
  earlier = λ r b y is reads. absurd (no_kind d c i (Kind.block is.0) none is.1);
}

-- ---- all numbers

-- by whether the number is one of a list
by_place : {A : Type 0} (P : Type 0) (xs : List A) (i : ℕ) → ((x : A) → slice_get xs i ≡ Some x → P) → (Past xs i → P) → P
by_place P xs i there past = by (slice_get xs i) refl
  where
    by : (o : Option _) → slice_get xs i ≡ o → P
    by None is = past is
    by (Some x) is = there x is

-- a rule of continuous assignments, of drivers and of processes, of all numbers
pub assigns_named : (d : Parts) (c : Claims) → KeepsAll d c k1 → (j : ℕ) → K1_Assign d c j
assigns_named d c all j =
    by_place (K1_Assign d c j) d.assigns j (λ a is. let at = assign_at d c j a is in all at.0 (assign j) at.1)
    (λ none. record { listed = λ name is. absurd (no_assign d j name none is); no_edge = λ name is. absurd (no_assign d j name none is) })

pub order_kept : (d : Parts) (c : Claims) → KeepsAll d c k4 → (y : Driver) → K4 d c y
order_kept d c all (x.assign j) =
    by_place (K4 d c (x.assign j)) d.assigns j (λ a is. let at = assign_at d c j a is in all at.0 (assign j) at.1) (past_4a d c j)
order_kept d c all (x.block i) =
    by_place (K4 d c (x.block i)) d.processes i (λ p is. let at = process_at d c i p is in all at.0 (process i) at.1) (past_4b d c i)

pub blocks_kept : (d : Parts) (c : Claims) → KeepsAll d c k5 → (i : ℕ) → K5 d c i
blocks_kept d c all i = by_place (K5 d c i) d.processes i (λ p is. let at = process_at d c i p is in all at.0 (process i) at.1) (past_5 d c i)

pub keeping : (d : Parts) (c : Claims) → WellFormed d → Disciplined d c → Keeping d c
keeping d c formed dis = record {
  names_signals = λ v. by_place (K1_Signal d c v) d.signals v (of_signal k1 v) (λ none name is. absurd (no_signal d v name none is));
  names_assigns = assigns_named d c (dis k1);
  names_processes = λ i. by_place (K1_Process d c i) d.processes i (of_process k1 i) (past_1p d c i);
  names_known = λ n name is. let a = name_at d c n name is in dis k1 a.0 (listed name) a.1;
  writers = λ v. by_place (K2 d c v) d.signals v (of_signal k2 v) (past_2 d c formed v);
  modes = λ v. by_place (K3 d c v) d.signals v (of_signal k3 v) (λ none mode is. absurd (none-some mode (sym (ap mode_in (past_claim d c v none)) ∙ is)));
  order = order_kept d c (dis k4);
  blocks = blocks_kept d c (dis k5);
  roots = λ v. by_place (K6 d c v) d.signals v (of_signal k6 v) (past_6 d c v);
  edges = λ i. by_place (K7 d c i) d.processes i (of_process k7 i) (past_7 d c i);
  residues = λ i. by_place (K8 d c i) d.processes i (of_process k8 i) (past_8 d c i);
  readings = λ i. by_place (K9 d c i) d.processes i (of_process k9 i) (λ none. record { fixed = λ k r u seq point reads block cone. absurd (no_sequential d c i none seq) });
  first_roots = λ v. by_place (K10_Signal d c v) d.signals v (of_signal k10 v) (past_10 d c v);
  first_slot = λ i. by_place (K10_Process d c i) d.processes i (of_process k10 i) (past_10p d c i);
  starts = λ i. by_place (K11 d c i) d.processes i (of_process k11 i) (λ none start is. absurd (no_kind d c i (Kind.block start) none is));
}
  where
    of_signal : (k : Rule) (v : ℕ) (s : Signal) → slice_get d.signals v ≡ Some s → Keeps d c k (signal v)
    of_signal k v s is = let a = signal_at d c v s is in dis k a.0 (signal v) a.1

    of_process : (k : Rule) (i : ℕ) (p : Process) → slice_get d.processes i ≡ Some p → Keeps d c k (process i)
    of_process k i s is = let a = process_at d c i s is in dis k a.0 (process i) a.1
