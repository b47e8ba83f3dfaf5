-- What a certificate says of designs that say the same.
use Rattle.std.proofs.Common.{◌≡◌, ℕ, Bool, Option, Some, None, List, slice_get, refl, ap, sym, ◌∙◌, inl, inr}
use Rattle.std.specs.Str.{bytes_eq}
use Rattle.vs_syntax.specs.Same.{SameOption, both_absent, both_there}
use Rattle.vs_design.specs.declared.design.Assign.{Assign}
use Rattle.vs_design.specs.declared.design.Process.{Process}
use Rattle.vs_design.specs.declared.signal.Signal.{Signal}
use Rattle.vs_design.specs.Kinds.{is_variable}
use Rattle.vs_design.specs.Parts.{Parts}
use Rattle.vs_elab_statements.specs.vs_elab_signals.specs.Outlines.{Declared}
use Rattle.vs_elaborate.specs.Same.{SameAssign}
use Rattle.vs_rules.specs.Claims.{Name, Mode, Start, Claims, SignalClaim, signal_name, process_name, assign_name, IsSignalNamed, IsProcessNamed, IsAssignNamed, names_process, signal_claim, claim_for, claim_of, writer_in, second_in, mode_in, IsWriter, IsSecond, HasMode, HasKind, kind_in, kind_for, kind_of, HasStart, IsBlock, IsEdge, HasLists, IsDelay, HasMixedLists, IsMixed, WaitsForEdges, WaitsForTimes, IsSequential, IsRootOf, IsRoot}
use Rattle.vs_laws.proofs.Designs.{SameSignal, AlikeProcess, Twins, signals_alike, assigns_alike, processes_alike, signal_there}

-- ---- names

signal_name_by : (o o' : Option Signal) → SameOption SameSignal o o' → signal_name o ≡ signal_name o'
signal_name_by _ _ both_absent = refl
signal_name_by _ _ (both_there s s' h) = ap (λ (z : Declared). Some z.path) h

process_name_by : (o o' : Option Process) → SameOption AlikeProcess o o' → process_name o ≡ process_name o'
process_name_by _ _ both_absent = refl
process_name_by _ _ (both_there p p' h) = ap (λ (n : Name). Some n) h.name

assign_name_by : (o o' : Option Assign) → SameOption SameAssign o o' → assign_name o ≡ assign_name o'
assign_name_by _ _ both_absent = refl
assign_name_by _ _ (both_there a a' h) = ap (λ (n : Name). Some n) h.name

pub signal_names_same : {d d' : Parts} → Twins d d' → (v : ℕ) → signal_name (slice_get d.signals v) ≡ signal_name (slice_get d'.signals v)
signal_names_same {d} {d'} t v = signal_name_by (slice_get d.signals v) (slice_get d'.signals v) (signals_alike t v)

pub process_names_same : {d d' : Parts} → Twins d d' → (i : ℕ) → process_name (slice_get d.processes i) ≡ process_name (slice_get d'.processes i)
process_names_same {d} {d'} t i = process_name_by (slice_get d.processes i) (slice_get d'.processes i) (processes_alike t i)

pub assign_names_same : {d d' : Parts} → Twins d d' → (j : ℕ) → assign_name (slice_get d.assigns j) ≡ assign_name (slice_get d'.assigns j)
assign_names_same {d} {d'} t j = assign_name_by (slice_get d.assigns j) (slice_get d'.assigns j) (assigns_alike t j)

pub signal_named_as : {d d' : Parts} → Twins d d' → (v : ℕ) (name : Name) → IsSignalNamed d v name → IsSignalNamed d' v name
signal_named_as t v name h = sym (signal_names_same t v) ∙ h

pub process_named_as : {d d' : Parts} → Twins d d' → (i : ℕ) (name : Name) → IsProcessNamed d i name → IsProcessNamed d' i name
process_named_as t i name h = sym (process_names_same t i) ∙ h

pub assign_named_as : {d d' : Parts} → Twins d d' → (j : ℕ) (name : Name) → IsAssignNamed d j name → IsAssignNamed d' j name
assign_named_as t j name h = sym (assign_names_same t j) ∙ h

-- ---- entries of signals

claim_by : (c : Claims) (o o' : Option Signal) → SameOption SameSignal o o' → claim_for c o ≡ claim_for c o'
claim_by c _ _ both_absent = refl
claim_by c _ _ (both_there s s' h) = ap (λ (z : Declared). signal_claim c.signals z.path) h

pub claims_same : {d d' : Parts} → Twins d d' → (c : Claims) (v : ℕ) → claim_of d c v ≡ claim_of d' c v
claims_same {d} {d'} t c v = claim_by c (slice_get d.signals v) (slice_get d'.signals v) (signals_alike t v)

names_by : (n : Option Name) (o o' : Option Process) → SameOption AlikeProcess o o' → names_process n o ≡ names_process n o'
names_by None _ _ both_absent = refl
names_by None _ _ (both_there p p' h) = refl
names_by (Some n) _ _ both_absent = refl
names_by (Some n) _ _ (both_there p p' h) = ap (bytes_eq n) h.name

named_same : {d d' : Parts} → Twins d d' → (n : Option Name) (i : ℕ) → names_process n (slice_get d.processes i) ≡ names_process n (slice_get d'.processes i)
named_same {d} {d'} t n i = names_by n (slice_get d.processes i) (slice_get d'.processes i) (processes_alike t i)

pub writer_as : {d d' : Parts} → Twins d d' → (c : Claims) (v i : ℕ) → IsWriter d c v i → IsWriter d' c v i
writer_as {d} {d'} t c v i h =
    ap (λ (o : Option SignalClaim). names_process (writer_in o) (slice_get d'.processes i)) (sym (claims_same t c v)) ∙ sym (named_same t (writer_in (claim_of d c v)) i) ∙ h

pub second_as : {d d' : Parts} → Twins d d' → (c : Claims) (v i : ℕ) → IsSecond d c v i → IsSecond d' c v i
second_as {d} {d'} t c v i h =
    ap (λ (o : Option SignalClaim). names_process (second_in o) (slice_get d'.processes i)) (sym (claims_same t c v)) ∙ sym (named_same t (second_in (claim_of d c v)) i) ∙ h

pub mode_as : {d d' : Parts} → Twins d d' → (c : Claims) (v : ℕ) (mode : Mode) → HasMode d c v mode → HasMode d' c v mode
mode_as t c v mode h = ap mode_in (sym (claims_same t c v)) ∙ h

pub kind_as : {d d' : Parts} → Twins d d' → (variable : Bool) (v : ℕ) → HasKind variable d v → HasKind variable d' v
kind_as t variable v h =
    let o = signal_there t v h.0 h.1 in
    (o.other, o.is, ap (λ (z : Declared). is_variable z.kind) (sym o.same) ∙ h.2)

-- ---- entries of processes

process_kind_by : (c : Claims) (o o' : Option Process) → SameOption AlikeProcess o o' → kind_for c o ≡ kind_for c o'
process_kind_by c _ _ both_absent = refl
process_kind_by c _ _ (both_there p p' h) = ap (kind_in c.processes) h.name

pub kinds_same : {d d' : Parts} → Twins d d' → (c : Claims) (i : ℕ) → kind_of d c i ≡ kind_of d' c i
kinds_same {d} {d'} t c i = process_kind_by c (slice_get d.processes i) (slice_get d'.processes i) (processes_alike t i)

pub start_as : {d d' : Parts} → Twins d d' → (c : Claims) (i : ℕ) (start : Start) → HasStart d c i start → HasStart d' c i start
start_as t c i start h = sym (kinds_same t c i) ∙ h

pub block_as : {d d' : Parts} → Twins d d' → (c : Claims) (i : ℕ) → IsBlock d c i → IsBlock d' c i
block_as t c i h = (h.0, start_as t c i h.0 h.1)

pub edge_as : {d d' : Parts} → Twins d d' → (c : Claims) (i : ℕ) → IsEdge d c i → IsEdge d' c i
edge_as t c i h = sym (kinds_same t c i) ∙ h

pub lists_as : {d d' : Parts} → Twins d d' → (c : Claims) (i : ℕ) (lists : List (List ℕ)) → HasLists d c i lists → HasLists d' c i lists
lists_as t c i lists h = sym (kinds_same t c i) ∙ h

pub delay_as : {d d' : Parts} → Twins d d' → (c : Claims) (i : ℕ) → IsDelay d c i → IsDelay d' c i
delay_as t c i h = (h.0, lists_as t c i h.0 h.1)

pub mixed_lists_as : {d d' : Parts} → Twins d d' → (c : Claims) (i : ℕ) (lists : List (List ℕ)) → HasMixedLists d c i lists → HasMixedLists d' c i lists
mixed_lists_as t c i lists h = sym (kinds_same t c i) ∙ h

pub mixed_as : {d d' : Parts} → Twins d d' → (c : Claims) (i : ℕ) → IsMixed d c i → IsMixed d' c i
mixed_as t c i h = (h.0, mixed_lists_as t c i h.0 h.1)

pub waits_for_edges_as : {d d' : Parts} → Twins d d' → (c : Claims) (i : ℕ) → WaitsForEdges d c i → WaitsForEdges d' c i
waits_for_edges_as t c i (inl h) = inl (edge_as t c i h)
waits_for_edges_as t c i (inr h) = inr (mixed_as t c i h)

pub waits_for_times_as : {d d' : Parts} → Twins d d' → (c : Claims) (i : ℕ) (lists : List (List ℕ)) → WaitsForTimes d c i lists → WaitsForTimes d' c i lists
waits_for_times_as t c i lists (inl h) = inl (lists_as t c i lists h)
waits_for_times_as t c i lists (inr h) = inr (mixed_lists_as t c i lists h)

pub sequential_as : {d d' : Parts} → Twins d d' → (c : Claims) (i : ℕ) → IsSequential d c i → IsSequential d' c i
sequential_as t c i (inl h) = inl (edge_as t c i h)
sequential_as t c i (inr (inl h)) = inr (inl (delay_as t c i h))
sequential_as t c i (inr (inr h)) = inr (inr (mixed_as t c i h))

-- ---- entries of edge terms

pub root_of_as : {d d' : Parts} → Twins d d' → (c : Claims) (root v : ℕ) → IsRootOf d c root v → IsRootOf d' c root v
root_of_as t c root v h = record {
  place = h.place;
  entry = h.entry;
  is = h.is;
  signal = signal_named_as t v h.entry.signal h.signal;
  root_is = signal_named_as t root h.entry.root h.root_is;
}

pub root_as : {d d' : Parts} → Twins d d' → (c : Claims) (root : ℕ) → IsRoot d c root → IsRoot d' c root
root_as t c root h = (h.0, root_of_as t c root h.0 h.1)
