-- What the names of a design and the entries of a certificate say, by numbers.
use Rattle.std.proofs.Common.{◌≡◌, ℕ, suc, ◌+◌, ◌<◌, ◌↔◌, Bool, true, false, Option, Some, None, List, [], ◌∷◌, length, map, slice_get, slice_index_or, option_map, refl, sym, ◌∙◌, ap, subst, arith, if◌then◌else◌}
use Rattle.std.specs.List.{flat_map}
use Rattle.std.specs.Str.{bytes_eq}
use Rattle.std.proofs.lemmas.Bool.{false≢true}
use Rattle.std.proofs.lemmas.List.{length-map}
use Rattle.std.proofs.lemmas.Option.{none-some, same_Some, slice_get-map}
use Rattle.std.proofs.lemmas.Slice.Eq.{bytes_eq-Decides}
use Rattle.vs_certificate.specs.declared.members.Certificate.{Certificate}
use Rattle.vs_certificate.specs.declared.members.EdgeSignal.{EdgeSignal}
use Rattle.vs_certificate.specs.declared.members.ProcessEntry.{ProcessEntry}
use Rattle.vs_certificate.specs.declared.members.SignalEntry.{SignalEntry}
use Rattle.vs_design.specs.declared.design.Assign.{Assign}
use Rattle.vs_design.specs.declared.design.Process.{Process}
use Rattle.vs_design.specs.declared.signal.Signal.{Signal}
use Rattle.vs_design.specs.Parts.{Parts}
use Rattle.vs_claims.specs.vs_rules.specs.Certificates.{claims_of, kind_from, name_from, edge_claim, process_claim, process_from}
use Rattle.vs_claims.specs.vs_rules.specs.Certificates as from
use Rattle.vs_claims.specs.vs_rules.specs.Claims.{Name, Claims, Kind, SignalClaim, ProcessClaim, EdgeClaim, times_in, signal_names, process_names, edge_signals, edge_names, names_of_edge, signal_claim, kind_in, claim_of, claim_for, kind_of, kind_for, place_of}
use Rattle.vs_claims.specs.vs_rules.specs.Claims.{IsSignalNamed, IsProcessNamed, IsAssignNamed, IsWriter, IsSecond, names_process, writer_in, second_in, signal_name, process_name, assign_name}
use Rattle.vs_maps.specs.Reaches.{Chart}
use Rattle.vs_maps.specs.Texts.{Texts}
use Rattle.vs_claims.specs.declared.names.Names.{Names}
use Rattle.vs_claims.specs.Places.{place_for, place_in}
use Rattle.vs_claims.specs.Facts.{Case, case_of}
use Rattle.vs_claims.specs.facts_passes.Kept.{AreFacts, paths, named_processes, named_assigns, signal_entries, process_entries, edge_roots, writers_of}
use Rattle.vs_claims.specs.facts_passes.Kept as kept
use Rattle.vs_claims.proofs.PlaceLemmas.{for_within, named_is, none_rest, places_at}

-- ---- entries by name

-- what is said of the element of a place that may be there
abbrev pub read_by : {A B : Type 0} → (A → B) → List A → Option ℕ → Option B
read_by f xs None = None
read_by f xs (Some i) = option_map f (slice_get xs i)

-- what a first entry says, or else the others
head_or : {A B : Type 0} (f : A → B) (e : A) (es : List A) (rest : Option B) (b : Bool) (o : Option ℕ) → rest ≡ read_by f es o →
    (if b then Some (f e) else rest) ≡ read_by f (e ∷ es) (if b then Some 0 else option_map suc o)
head_or f e es rest true o h = refl
head_or f e es rest false None h = h
head_or f e es rest false (Some k) h = h

claim_at : (es : List SignalEntry) (name : Name) →
    signal_claim (map from.signal_claim es) name ≡ read_by from.signal_claim es (place_in (signal_entries es) name)
claim_at [] name = refl
claim_at (e ∷ es) name =
    head_or from.signal_claim e es (signal_claim (map from.signal_claim es) name) (bytes_eq (name_from e.name) name) (place_in (signal_entries es) name)
    (claim_at es name)

claim_by : (c : Certificate) (o : Option Signal) →
    claim_for (claims_of c) o ≡ read_by from.signal_claim c.signals.items (place_for (signal_entries c.signals.items) (signal_name o))
claim_by c None = refl
claim_by c (Some s) = claim_at c.signals.items s.path.items

abbrev pub kind_told : ProcessEntry → Kind
kind_told p = kind_from p.kind

kind_at : (ps : List ProcessEntry) (name : Name) → kind_in (map process_claim ps) name ≡ read_by kind_told ps (place_in (process_entries ps) name)
kind_at [] name = refl
kind_at (p ∷ ps) name =
    head_or kind_told p ps (kind_in (map process_claim ps) name) (bytes_eq (name_from p.name) name) (place_in (process_entries ps) name) (kind_at ps name)

kind_by : (c : Certificate) (o : Option Process) →
    kind_for (claims_of c) o ≡ read_by kind_told c.processes.items (place_for (process_entries c.processes.items) (process_name o))
kind_by c None = refl
kind_by c (Some p) = kind_at c.processes.items p.name.items

place_head : (b : Bool) (o : Option ℕ) (i rest : ℕ) → (if b then Some 0 else option_map suc o) ≡ Some i → ((k : ℕ) → o ≡ Some k → k ≡ rest) →
    i ≡ (if b then 0 else suc rest)
place_head true o i rest h r = sym (same_Some 0 i h)
place_head false None i rest h r = absurd (cc)
place_head false (Some k) i rest h r = sym (same_Some (suc k) i h) ∙ ap suc (r k refl)

-- ---- places of names

pub past_all : (ns : List Name) (name : Name) → place_in ns name ≡ None → length ns ≡ place_of name ns
past_all [] name h = refl
past_all (n ∷ ns) name h =
    let r = none_rest (bytes_eq n name) (place_in ns name) h in
    ap suc (past_all ns name r.1) ∙ sym (ap (λ (b : Bool). if b then 0 else suc (place_of name ns)) r.0)

pub placed : (ns : List Name) (name : Name) (i : ℕ) → place_in ns name ≡ Some i → i ≡ place_of name ns
placed [] name i h = absurd (cc)
placed (n ∷ ns) name i h = place_head (bytes_eq n name) (place_in ns name) i (place_of name ns) h (λ k e. placed ns name k e)

-- ---- names by number

signal_name_is : (o : Option Signal) → signal_name o ≡ option_map (λ (s : Signal). s.path.items) o
signal_name_is None = refl
signal_name_is (Some s) = refl

process_name_is : (o : Option Process) → process_name o ≡ option_map (λ (p : Process). p.name.items) o
process_name_is None = refl
process_name_is (Some p) = refl

assign_name_is : (o : Option Assign) → assign_name o ≡ option_map (λ (a : Assign). a.name.items) o
assign_name_is None = refl
assign_name_is (Some a) = refl

pub path_at : (d : Parts) (v : ℕ) → signal_name (slice_get d.signals v) ≡ slice_get (paths d.signals) v
path_at d v = signal_name_is (slice_get d.signals v) ∙ sym (slice_get-map (λ (s : Signal). s.path.items) d.signals v)

pub process_at : (d : Parts) (i : ℕ) → process_name (slice_get d.processes i) ≡ slice_get (named_processes d.processes) i
process_at d i = process_name_is (slice_get d.processes i) ∙ sym (slice_get-map (λ (p : Process). p.name.items) d.processes i)

pub assign_at : (d : Parts) (j : ℕ) → assign_name (slice_get d.assigns j) ≡ slice_get (named_assigns d.assigns) j
assign_at d j = assign_name_is (slice_get d.assigns j) ∙ sym (slice_get-map (λ (a : Assign). a.name.items) d.assigns j)

claimed_signals : (es : List SignalEntry) → signal_entries es ≡ map (λ (s : SignalClaim). s.name) (map from.signal_claim es)
claimed_signals [] = refl
claimed_signals (e ∷ es) = ap (λ (ns : List Name). name_from e.name ∷ ns) (claimed_signals es)

claimed_processes : (es : List ProcessEntry) → process_entries es ≡ map (λ (p : ProcessClaim). p.name) (map process_claim es)
claimed_processes [] = refl
claimed_processes (e ∷ es) = ap (λ (ns : List Name). name_from e.name ∷ ns) (claimed_processes es)

claimed_edge_signals : (es : List EdgeSignal) → kept.edge_signals es ≡ map (λ (y : EdgeClaim). y.signal) (map edge_claim es)
claimed_edge_signals [] = refl
claimed_edge_signals (e ∷ es) = ap (λ (ns : List Name). name_from e.signal ∷ ns) (claimed_edge_signals es)

claimed_edge_roots : (es : List EdgeSignal) → edge_roots es ≡ map (λ (y : EdgeClaim). y.root) (map edge_claim es)
claimed_edge_roots [] = refl
claimed_edge_roots (e ∷ es) = ap (λ (ns : List Name). name_from e.root ∷ ns) (claimed_edge_roots es)

both_times : (a b : Bool) (t r s : ℕ) → t ≡ r + s →
    (if a then suc (if b then suc t else t) else (if b then suc t else t)) ≡ (if a then suc r else r) + (if b then suc s else s)
both_times true true t r s h = omega (arith, h)
both_times true false t r s h = omega (arith, h)
both_times false true t r s h = omega (arith, h)
both_times false false t r s h = omega (arith, h)

-- a name stands among those of entries as often as among the roots and the signals together
times_in_edges : (ys : List EdgeClaim) (name : Name) → times_in name (flat_map names_of_edge ys) ≡
    times_in name (map (λ (y : EdgeClaim). y.root) ys) + times_in name (map (λ (y : EdgeClaim). y.signal) ys)
times_in_edges [] name = refl
times_in_edges (y ∷ ys) name =
    both_times (bytes_eq y.root name) (bytes_eq y.signal name) (times_in name (flat_map names_of_edge ys)) (times_in name (map (λ (y : EdgeClaim). y.root) ys))
    (times_in name (map (λ (y : EdgeClaim). y.signal) ys)) (times_in_edges ys name)

-- ---- numbers of names

process_for : (d : Parts) (ps : List Name) → ((name : Name) (i : ℕ) → (IsProcessNamed d i name ↔ place_in ps name ≡ Some i)) → (w : Option Name) (i : ℕ) →
    (names_process w (slice_get d.processes i) ≡ true ↔ place_for ps w ≡ Some i)
process_for d ps named None i = (λ e. absurd (false≢true e), λ e. absurd (none-some i e))
process_for d ps named (Some name) i = by (slice_get d.processes i) (named name i) where
  by : (o : Option Process) → (process_name o ≡ Some name ↔ place_in ps name ≡ Some i) → (names_process (Some name) o ≡ true ↔ place_in ps name ≡ Some i)
  by None k = (λ e. absurd (false≢true e), λ e. absurd (none-some name (k.1 e)))
  by (Some p) k =
      let same = bytes_eq-Decides name p.name.items in
      (λ e. k.0 (ap Some (sym (same.0 e))), λ e. same.1 (sym (same_Some p.name.items name (k.1 e))))

-- the processes that an entry names, which may be there
writers_by : (d : Parts) (ps : List Name) → ((name : Name) (i : ℕ) → (IsProcessNamed d i name ↔ place_in ps name ≡ Some i)) → (o : Option SignalEntry)
    (claim : Option SignalClaim) (w : Option ℕ × Option ℕ) (i : ℕ) → claim ≡ option_map from.signal_claim o → option_map (writers_of ps) o ≡ Some w →
    (names_process (writer_in claim) (slice_get d.processes i) ≡ true ↔ w.0 ≡ Some i) × (names_process (second_in claim) (slice_get d.processes i) ≡ true ↔ w.1 ≡ Some i)
writers_by d ps named None claim w i e is = absurd (none-some w is)
writers_by d ps named (Some t) claim w i e is =
    let p = slice_get d.processes i in
    subst (λ (y : Option ℕ × Option ℕ). (names_process (writer_in claim) p ≡ true ↔ y.0 ≡ Some i) × (names_process (second_in claim) p ≡ true ↔ y.1 ≡ Some i))
    (same_Some (writers_of ps t) w is)
    (subst (λ (y : Option SignalClaim). (names_process (writer_in y) p ≡ true ↔ place_for ps (process_from t.writer) ≡ Some i)
    × (names_process (second_in y) p ≡ true ↔ place_for ps (process_from t.second) ≡ Some i)) (sym e)
    (process_for d ps named (process_from t.writer) i, process_for d ps named (process_from t.second) i))

-- the places in the order of names that may be there
order_place : (order order' names names' : List Name) (ps : List ℕ) → order ≡ order' → names ≡ names' → ps ≡ map (λ (m : Name). place_of m order) names →
    (j : ℕ) (o : Option Name) → o ≡ slice_get names' j → slice_get ps j ≡ option_map (λ (m : Name). place_of m order') o
order_place order order' names names' ps a b is j o at =
    ap (λ (qs : List ℕ). slice_get qs j) is ∙ slice_get-map (λ (m : Name). place_of m order) names j
    ∙ ap (λ (ns : List Name). option_map (λ (m : Name). place_of m ns) (slice_get names j)) a
    ∙ ap (λ (ns : List Name). option_map (λ (m : Name). place_of m order') (slice_get ns j)) b ∙ ap (option_map (λ (m : Name). place_of m order')) (sym at)

module _ {d : Parts} {c : Certificate} {charts : List Chart} {u : Texts} {n : Names} where
  signal_is : AreFacts d c charts u n → (name : Name) (o : Option ℕ) → o ≡ place_in n.design.signals name →
      (v : ℕ) → (IsSignalNamed d v name ↔ o ≡ Some v)
  signal_is h name o is v =
      let at : o ≡ place_in (paths d.signals) name = is ∙ ap (λ (ns : List Name). place_in ns name) h.names.design.signals_are in
      let is_at = named_is (paths d.signals) name v h.well_formed.paths in
      (λ e. at ∙ is_at.0 (sym (path_at d v) ∙ e), λ e. path_at d v ∙ is_at.1 (sym at ∙ e))

  process_is : AreFacts d c charts u n → (name : Name) (o : Option ℕ) → o ≡ place_in n.design.processes name →
      (i : ℕ) → (IsProcessNamed d i name ↔ o ≡ Some i)
  process_is h name o is i =
      let at : o ≡ place_in (named_processes d.processes) name = is ∙ ap (λ (ns : List Name). place_in ns name) h.names.design.processes_are in
      let is_at = named_is (named_processes d.processes) name i h.well_formed.names in
      (λ e. at ∙ is_at.0 (sym (process_at d i) ∙ e), λ e. process_at d i ∙ is_at.1 (sym at ∙ e))

  assign_is : AreFacts d c charts u n → (name : Name) (o : Option ℕ) → o ≡ place_in n.design.assigns name →
      (j : ℕ) → (IsAssignNamed d j name ↔ o ≡ Some j)
  assign_is h name o is j =
      let at : o ≡ place_in (named_assigns d.assigns) name = is ∙ ap (λ (ns : List Name). place_in ns name) h.names.design.assigns_are in
      let is_at = named_is (named_assigns d.assigns) name j h.well_formed.assign_names in
      (λ e. at ∙ is_at.0 (sym (assign_at d j) ∙ e), λ e. assign_at d j ∙ is_at.1 (sym at ∙ e))

  pub signal_named_is : AreFacts d c charts u n → (x : Case) → case_of d c charts ≡ x → (name : Name) (o : Option ℕ) →
      o ≡ place_in n.design.signals name → (v : ℕ) → (IsSignalNamed x.design v name ↔ o ≡ Some v)
  signal_named_is h x e name o is v = subst (λ (x : Case). IsSignalNamed x.design v name ↔ o ≡ Some v) e (signal_is h name o is v)

  pub process_named_is : AreFacts d c charts u n → (x : Case) → case_of d c charts ≡ x → (name : Name) (o : Option ℕ) →
      o ≡ place_in n.design.processes name → (i : ℕ) → (IsProcessNamed x.design i name ↔ o ≡ Some i)
  process_named_is h x e name o is i = subst (λ (x : Case). IsProcessNamed x.design i name ↔ o ≡ Some i) e (process_is h name o is i)

  pub assign_named_is : AreFacts d c charts u n → (x : Case) → case_of d c charts ≡ x → (name : Name) (o : Option ℕ) →
      o ≡ place_in n.design.assigns name → (j : ℕ) → (IsAssignNamed x.design j name ↔ o ≡ Some j)
  assign_named_is h x e name o is j = subst (λ (x : Case). IsAssignNamed x.design j name ↔ o ≡ Some j) e (assign_is h name o is j)

  -- ---- names of entries

  pub signal_names_are : AreFacts d c charts u n → (x : Case) → case_of d c charts ≡ x → n.claims.signals ≡ signal_names x.claims
  signal_names_are h x e =
      subst (λ (x : Case). n.claims.signals ≡ signal_names x.claims) e (h.names.claims.signals_are ∙ claimed_signals c.signals.items)

  pub process_names_are : AreFacts d c charts u n → (x : Case) → case_of d c charts ≡ x → n.claims.processes ≡ process_names x.claims
  process_names_are h x e =
      subst (λ (x : Case). n.claims.processes ≡ process_names x.claims) e (h.names.claims.processes_are ∙ claimed_processes c.processes.items)

  pub edge_signals_are : AreFacts d c charts u n → (x : Case) → case_of d c charts ≡ x → n.edges.signals ≡ edge_signals x.claims
  edge_signals_are h x e =
      subst (λ (x : Case). n.edges.signals ≡ edge_signals x.claims) e (h.names.edges.signals_are ∙ claimed_edge_signals c.edges.items)

  pub edge_roots_are : AreFacts d c charts u n → (x : Case) → case_of d c charts ≡ x → n.edges.roots ≡ map (λ (y : EdgeClaim). y.root) x.claims.edges
  edge_roots_are h x e =
      subst (λ (x : Case). n.edges.roots ≡ map (λ (y : EdgeClaim). y.root) x.claims.edges) e (h.names.edges.roots_are ∙ claimed_edge_roots c.edges.items)

  pub edge_times_are : AreFacts d c charts u n → (x : Case) → case_of d c charts ≡ x → (name : Name) →
      times_in name (edge_names x.claims) ≡ times_in name n.edges.roots + times_in name n.edges.signals
  edge_times_are h x e name =
      let sum = times_in_edges x.claims.edges name in
      sum ∙ ap (λ (ns : List Name). times_in name ns + times_in name (edge_signals x.claims)) (sym (edge_roots_are h x e))
      ∙ ap (λ (ns : List Name). times_in name n.edges.roots + times_in name ns) (sym (edge_signals_are h x e))

  -- ---- entries by number

  signal_place : AreFacts d c charts u n → (v : ℕ) →
      slice_index_or n.places.signals.items v None ≡ place_for (signal_entries c.signals.items) (signal_name (slice_get d.signals v))
  signal_place h v =
      ap (λ (ps : List (Option ℕ)). slice_index_or ps v None) h.names.places.signals_are ∙ places_at n.claims.signals n.design.signals v
      ∙ ap (λ (ns : List Name). place_for ns (slice_get n.design.signals v)) h.names.claims.signals_are
      ∙ ap (λ (ns : List Name). place_for (signal_entries c.signals.items) (slice_get ns v)) h.names.design.signals_are
      ∙ ap (place_for (signal_entries c.signals.items)) (sym (path_at d v))

  process_place : AreFacts d c charts u n → (i : ℕ) →
      slice_index_or n.places.processes.items i None ≡ place_for (process_entries c.processes.items) (process_name (slice_get d.processes i))
  process_place h i =
      ap (λ (ps : List (Option ℕ)). slice_index_or ps i None) h.names.places.processes_are ∙ places_at n.claims.processes n.design.processes i
      ∙ ap (λ (ns : List Name). place_for ns (slice_get n.design.processes i)) h.names.claims.processes_are
      ∙ ap (λ (ns : List Name). place_for (process_entries c.processes.items) (slice_get ns i)) h.names.design.processes_are
      ∙ ap (place_for (process_entries c.processes.items)) (sym (process_at d i))

  pub entry_within : AreFacts d c charts u n → (v i : ℕ) → slice_index_or n.places.signals.items v None ≡ Some i → i < length c.signals.items
  entry_within h v i is =
      let l = for_within (signal_entries c.signals.items) (signal_name (slice_get d.signals v)) i (sym (signal_place h v) ∙ is) in
      let len = length-map c.signals.items (λ (e : SignalEntry). name_from e.name) in
      omega arith

  pub kind_within : AreFacts d c charts u n → (i k : ℕ) → slice_index_or n.places.processes.items i None ≡ Some k → k < length c.processes.items
  kind_within h i k is =
      let l = for_within (process_entries c.processes.items) (process_name (slice_get d.processes i)) k (sym (process_place h i) ∙ is) in
      let len = length-map c.processes.items (λ (e : ProcessEntry). name_from e.name) in
      omega arith

  pub claims_are : AreFacts d c charts u n → (x : Case) → case_of d c charts ≡ x → (v : ℕ) →
      claim_of x.design x.claims v ≡ read_by from.signal_claim c.signals.items (slice_index_or n.places.signals.items v None)
  claims_are h x e v =
      subst (λ (x : Case). claim_of x.design x.claims v ≡ read_by from.signal_claim c.signals.items (slice_index_or n.places.signals.items v None)) e
      (claim_by c (slice_get d.signals v) ∙ ap (read_by from.signal_claim c.signals.items) (sym (signal_place h v)))

  pub kinds_are : AreFacts d c charts u n → (x : Case) → case_of d c charts ≡ x → (i : ℕ) →
      kind_of x.design x.claims i ≡ read_by kind_told c.processes.items (slice_index_or n.places.processes.items i None)
  kinds_are h x e i =
      subst (λ (x : Case). kind_of x.design x.claims i ≡ read_by kind_told c.processes.items (slice_index_or n.places.processes.items i None)) e
      (kind_by c (slice_get d.processes i) ∙ ap (read_by kind_told c.processes.items) (sym (process_place h i)))

  pub writers_long : AreFacts d c charts u n → length n.places.writers.items ≡ length c.signals.items
  writers_long h = ap length h.names.places.writers_are ∙ length-map c.signals.items (writers_of n.design.processes)

  pub writers_are : AreFacts d c charts u n → (x : Case) → case_of d c charts ≡ x → (v k : ℕ) (w : Option ℕ × Option ℕ) →
      slice_index_or n.places.signals.items v None ≡ Some k → slice_get n.places.writers.items k ≡ Some w →
      (i : ℕ) → (IsWriter x.design x.claims v i ↔ w.0 ≡ Some i) × (IsSecond x.design x.claims v i ↔ w.1 ≡ Some i)
  writers_are h x e v k w at is i =
      writers_by x.design n.design.processes (λ name j. process_named_is h x e name (place_in n.design.processes name) refl j) (slice_get c.signals.items k)
      (claim_of x.design x.claims v) w i (claims_are h x e v ∙ ap (read_by from.signal_claim c.signals.items) at)
      (sym (slice_get-map (writers_of n.design.processes) c.signals.items k)
      ∙ ap (λ (ws : List (Option ℕ × Option ℕ)). slice_get ws k) (sym h.names.places.writers_are) ∙ is)

  -- ---- the order

  pub assign_place_is : AreFacts d c charts u n → (x : Case) → case_of d c charts ≡ x → (j : ℕ) →
      slice_get n.places.assigns.items j ≡ option_map (λ (m : Name). place_of m x.claims.order) (assign_name (slice_get x.design.assigns j))
  assign_place_is h x e j =
      subst (λ (x : Case). slice_get n.places.assigns.items j ≡ option_map (λ (m : Name). place_of m x.claims.order) (assign_name (slice_get x.design.assigns j))) e
      (order_place n.claims.order (map name_from c.order.items) n.design.assigns (named_assigns d.assigns) n.places.assigns.items h.names.claims.order_is
      h.names.design.assigns_are h.names.places.assigns_are j (assign_name (slice_get d.assigns j)) (assign_at d j))

  pub process_place_is : AreFacts d c charts u n → (x : Case) → case_of d c charts ≡ x → (i : ℕ) →
      slice_get n.places.blocks.items i ≡ option_map (λ (m : Name). place_of m x.claims.order) (process_name (slice_get x.design.processes i))
  process_place_is h x e i =
      subst (λ (x : Case). slice_get n.places.blocks.items i ≡ option_map (λ (m : Name). place_of m x.claims.order) (process_name (slice_get x.design.processes i))) e
      (order_place n.claims.order (map name_from c.order.items) n.design.processes (named_processes d.processes) n.places.blocks.items h.names.claims.order_is
      h.names.design.processes_are h.names.places.blocks_are i (process_name (slice_get d.processes i)) (process_at d i))
