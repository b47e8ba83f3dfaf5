-- The members of a certificate are read off its JSON value.
use Rattle.std.proofs.Common.{◌≡◌, ℕ, Bool, if◌then◌else◌, List, [], ◌∷◌, map, codes, String, string_bytes, Vec, Global, Option, Some, None, true≢false, refl, ap, ap₂, sym, ◌∙◌}
use Rattle.serde_json.specs.Data.{Data, boolean, string, array, object, Members, Items, member}
use Rattle.serde_json.specs.View.{items_of}
use Rattle.vs_certificate.specs.declared.members.Certificate.{Certificate}
use Rattle.vs_certificate.specs.declared.members.EdgeSignal.{EdgeSignal}
use Rattle.vs_certificate.specs.declared.members.ClaimedGrain.{ClaimedGrain}
use Rattle.vs_certificate.specs.declared.members.ClaimedGrain.TheVariants as grains
use Rattle.vs_certificate.specs.declared.members.ProcessEntry.{ProcessEntry}
use Rattle.vs_certificate.specs.declared.members.ClaimedKind.{ClaimedKind}
use Rattle.vs_certificate.specs.declared.members.ClaimedKind.TheVariants as kinds
use Rattle.vs_certificate.specs.declared.members.SignalEntry.{SignalEntry}
use Rattle.vs_certificate.specs.declared.members.SignalMode.{SignalMode}
use Rattle.vs_certificate.specs.declared.members.SignalMode.TheVariants as modes
use Rattle.vs_certificate.specs.declared.members.Start.{Start}
use Rattle.vs_certificate.specs.declared.members.Start.TheVariants as starts
use Rattle.vs_certificate.specs.declared.members.Version.{Version}
use Rattle.vs_certificate.specs.declared.members.Version.TheVariants as versions
use Rattle.vs_certificate.specs.JsonValue.{kind_word, grain_value, mode_value, text_value, list_value, whole_value, residues_value, slots_value, start_word_value, start_value, edge_value, process_value, signal_value, members_with, object_with, shared_members, members_by, value_of}
use Rattle.vs_certificate.specs.Shape.{is_word, is_number, passes_at, has_names, names_of_one}
use Rattle.vs_certificate.specs.Sameness.{start_of, slots_of, residues_of, edge_parts, process_parts, signal_parts, IsSame}

-- ---- lists

-- entries of the same values have the same parts, where one entry does
parts_from_values : {A B : Type 0} (value : A → Data) (parts : A → B) → ((x y : A) → value x ≡ value y → parts x ≡ parts y) → (xs ys : List A) → items_of (map value xs) ≡ items_of (map value ys) → map parts xs ≡ map parts ys
parts_from_values value parts each [] [] h = refl
parts_from_values value parts each [] (y ∷ ys) h = absurd cc
parts_from_values value parts each (x ∷ xs) [] h = absurd cc
parts_from_values value parts each (x ∷ xs) (y ∷ ys) h =
    let first : value x ≡ value y = cc in
    let rest : items_of (map value xs) ≡ items_of (map value ys) = cc in
    ap₂ (λ p ps. p ∷ ps) (each x y first) (parts_from_values value parts each xs ys rest)

-- and the other way round
values_from_parts : {A B : Type 0} (value : A → Data) (parts : A → B) → ((x y : A) → parts x ≡ parts y → value x ≡ value y) → (xs ys : List A) → map parts xs ≡ map parts ys → list_value value xs ≡ list_value value ys
values_from_parts value parts each [] [] h = refl
values_from_parts value parts each [] (y ∷ ys) h = absurd cc
values_from_parts value parts each (x ∷ xs) [] h = absurd cc
values_from_parts value parts each (x ∷ xs) (y ∷ ys) h =
    let first : parts x ≡ parts y = cc in
    let rest : map parts xs ≡ map parts ys = cc in
    let value_of_rest : list_value value xs ≡ list_value value ys = values_from_parts value parts each xs ys rest in
    let same_first = each x y first in
    cc

array_items : {ds es : Items} → array ds ≡ array es → ds ≡ es
array_items h = cc

parts_from_list : {A B : Type 0} (value : A → Data) (parts : A → B) → ((x y : A) → value x ≡ value y → parts x ≡ parts y) → (xs ys : List A) → list_value value xs ≡ list_value value ys → map parts xs ≡ map parts ys
parts_from_list value parts each xs ys h = parts_from_values value parts each xs ys (array_items h)

-- ---- words

abbrev grain_in : Data → Option ClaimedGrain
grain_in d = if is_word (codes "block") d then Some grains.Block else Some grains.Statement

grain_again : (g : ClaimedGrain) → grain_in (grain_value g) ≡ Some g
grain_again grains.Block = refl
grain_again grains.Statement = refl

grain_from_value : (g h : ClaimedGrain) → grain_value g ≡ grain_value h → g ≡ h
grain_from_value g h e = let same : Some g ≡ Some h = sym (grain_again g) ∙ ap grain_in e ∙ grain_again h in cc

abbrev mode_in : Data → Option SignalMode
mode_in d =
    if is_word (codes "net") d then Some modes.Net else if is_word (codes "unwritten") d then Some modes.Unwritten else if is_word (codes "comb") d then Some modes.Combinational
    else if is_word (codes "nonblocking") d then Some modes.Nonblocking else if is_word (codes "blocking") d then Some modes.Blocking
    else if is_word (codes "private") d then Some modes.Private else Some modes.Both

mode_again : (m : SignalMode) → mode_in (mode_value m) ≡ Some m
mode_again modes.Net = refl
mode_again modes.Unwritten = refl
mode_again modes.Combinational = refl
mode_again modes.Nonblocking = refl
mode_again modes.Blocking = refl
mode_again modes.Private = refl
mode_again modes.Both = refl

mode_from_value : (m n : SignalMode) → mode_value m ≡ mode_value n → m ≡ n
mode_from_value m n e = let same : Some m ≡ Some n = sym (mode_again m) ∙ ap mode_in e ∙ mode_again n in cc

abbrev start_in : Data → Option Start
start_in d = if is_word (codes "cold") d then Some starts.Cold else if is_word (codes "sources") d then Some starts.Sources else if is_word (codes "starter") d then Some starts.Starter else None

start_again : (k : ClaimedKind) → start_in (start_value k) ≡ start_of k
start_again (kinds.Combinational starts.Cold) = refl
start_again (kinds.Combinational starts.Sources) = refl
start_again (kinds.Combinational starts.Starter) = refl
start_again kinds.Edge = refl
start_again (kinds.Delay slots) = refl
start_again (kinds.Mixed slots) = refl

start_from_value : (j k : ClaimedKind) → start_value j ≡ start_value k → start_of j ≡ start_of k
start_from_value j k e = sym (start_again j) ∙ ap start_in e ∙ start_again k

-- ---- residues

number_from_value : (m n : ℕ) → whole_value m ≡ whole_value n → m ≡ n
number_from_value m n e = cc

map_itself : (ns : List ℕ) → map (λ n. n) ns ≡ ns
map_itself [] = refl
map_itself (n ∷ ns) = ap (λ ms. n ∷ ms) (map_itself ns)

numbers_from_value : (a b : Vec ℕ Global) → residues_value a ≡ residues_value b → a.items ≡ b.items
numbers_from_value a b e = sym (map_itself a.items) ∙ parts_from_list whole_value (λ n. n) number_from_value a.items b.items e ∙ map_itself b.items

slots_value_of : (k : ClaimedKind) → slots_value k ≡ list_value residues_value (slots_of k)
slots_value_of (kinds.Combinational start) = refl
slots_value_of kinds.Edge = refl
slots_value_of (kinds.Delay slots) = refl
slots_value_of (kinds.Mixed slots) = refl

residues_from_value : (j k : ClaimedKind) → slots_value j ≡ slots_value k → residues_of j ≡ residues_of k
residues_from_value j k e =
    parts_from_list residues_value (λ r. r.items) numbers_from_value (slots_of j) (slots_of k) (sym (slots_value_of j) ∙ e ∙ slots_value_of k)

word_from_value : (v w : List ℕ) → string v ≡ string w → v ≡ w
word_from_value v w h = cc

-- ---- entries

first_member : {k : List ℕ} {d e : Data} {ms ns : Members} → member k d ms ≡ member k e ns → d ≡ e
first_member h = cc

other_members : {k : List ℕ} {d e : Data} {ms ns : Members} → member k d ms ≡ member k e ns → ms ≡ ns
other_members h = cc

members_of : {ms ns : Members} → object ms ≡ object ns → ms ≡ ns
members_of h = cc

text_from_value : (s t : String Global) → text_value s ≡ text_value t → string_bytes s ≡ string_bytes t
text_from_value s t h = cc

edge_from_value : (e f : EdgeSignal) → edge_value e ≡ edge_value f → edge_parts e ≡ edge_parts f
edge_from_value e f h =
    let root = members_of h in
    let signal = other_members root in
    rw (text_from_value e.root f.root (first_member root), text_from_value e.signal f.signal (first_member signal)) refl

process_from_value : (p q : ProcessEntry) → process_value p ≡ process_value q → process_parts p ≡ process_parts q
process_from_value p q h =
    let kind = members_of h in
    let name = other_members kind in
    let slots = other_members name in
    let start = other_members slots in
    let word = word_from_value (kind_word p.kind) (kind_word q.kind) (first_member kind) in
    let residues = residues_from_value p.kind q.kind (first_member slots) in
    rw (text_from_value p.name q.name (first_member name), word, start_from_value p.kind q.kind (first_member start), residues) refl

signal_from_value : (s t : SignalEntry) → signal_value s ≡ signal_value t → signal_parts s ≡ signal_parts t
signal_from_value s t h =
    let mode = members_of h in
    let name = other_members mode in
    let second = other_members name in
    let writer = other_members second in
    rw (mode_from_value s.mode t.mode (first_member mode), text_from_value s.name t.name (first_member name), text_from_value s.second t.second (first_member second), text_from_value s.writer t.writer (first_member writer)) refl

-- ---- the whole

-- the same members, but for those of one version alone
record AreSame (c d : Certificate) : Type 0 where
  pub edges : map edge_parts c.edges.items ≡ map edge_parts d.edges.items
  pub grain : c.grain ≡ d.grain
  pub modulus : c.modulus ≡ d.modulus
  pub order : map string_bytes c.order.items ≡ map string_bytes d.order.items
  pub processes : map process_parts c.processes.items ≡ map process_parts d.processes.items
  pub signals : map signal_parts c.signals.items ≡ map signal_parts d.signals.items

shared_from_value : (m n : ℕ) (c d : Certificate) → members_with (shared_members m c) ≡ members_with (shared_members n d) → AreSame c d
shared_from_value m n c d edges =
    let grain = other_members edges in
    let modulus = other_members grain in
    let order = other_members modulus in
    let processes = other_members order in
    let signals = other_members processes in
    record {
      edges = parts_from_list edge_value edge_parts edge_from_value c.edges.items d.edges.items (first_member edges);
      grain = grain_from_value c.grain d.grain (first_member grain);
      modulus = number_from_value c.modulus d.modulus (first_member modulus);
      order = parts_from_list text_value string_bytes text_from_value c.order.items d.order.items (first_member order);
      processes = parts_from_list process_value process_parts process_from_value c.processes.items d.processes.items (first_member processes);
      signals = parts_from_list signal_value signal_parts signal_from_value c.signals.items d.signals.items (first_member signals);
    }

flag_from_value : (a b : Bool) → boolean a ≡ boolean b → a ≡ b
flag_from_value a b h = cc

same_by : (v w : Version) (c d : Certificate) → object_with (members_by v c) ≡ object_with (members_by w d) → (v ≡ w) × AreSame c d
same_by versions.One versions.One c d h = (refl, shared_from_value 1 1 c d (members_of h))
same_by versions.One (versions.Two b) c d h = absurd (true≢false (ap (has_names names_of_one) h))
same_by versions.One (versions.Three b) c d h = absurd (true≢false (ap (has_names names_of_one) h))
same_by (versions.Two a) versions.One c d h = absurd (true≢false (sym (ap (has_names names_of_one) h)))
same_by (versions.Three a) versions.One c d h = absurd (true≢false (sym (ap (has_names names_of_one) h)))
same_by (versions.Two a) (versions.Three b) c d h = absurd (true≢false (ap (passes_at (is_number 2) (codes "version")) h))
same_by (versions.Three a) (versions.Two b) c d h = absurd (true≢false (sym (ap (passes_at (is_number 2) (codes "version")) h)))
same_by (versions.Three a) (versions.Three b) c d h =
    let displays = members_of h in
    (ap versions.Three (flag_from_value a b (first_member displays)), shared_from_value 3 3 c d (other_members displays))
same_by (versions.Two a) (versions.Two b) c d h =
    let displays = members_of h in
    (ap versions.Two (flag_from_value a b (first_member displays)), shared_from_value 2 2 c d (other_members displays))

pub same_from_value : (c d : Certificate) → value_of c ≡ value_of d → IsSame c d
same_from_value c d h =
    let s = same_by c.version d.version c d h in
    record { version = s.0; edges = s.1.edges; grain = s.1.grain; modulus = s.1.modulus; order = s.1.order; processes = s.1.processes; signals = s.1.signals }

-- ---- the other way round

text_from_parts : (s t : String Global) → string_bytes s ≡ string_bytes t → text_value s ≡ text_value t
text_from_parts s t h = ap string h

edge_from_parts : (e f : EdgeSignal) → edge_parts e ≡ edge_parts f → edge_value e ≡ edge_value f
edge_from_parts e f h =
    let root : string_bytes e.root ≡ string_bytes f.root = ap (λ p. p.0) h in
    let signal : string_bytes e.signal ≡ string_bytes f.signal = ap (λ p. p.1) h in
    rw (root, signal) refl

signal_from_parts : (s t : SignalEntry) → signal_parts s ≡ signal_parts t → signal_value s ≡ signal_value t
signal_from_parts s t h =
    let mode : s.mode ≡ t.mode = ap (λ p. p.0) h in
    let name : string_bytes s.name ≡ string_bytes t.name = ap (λ p. p.1) h in
    let second : string_bytes s.second ≡ string_bytes t.second = ap (λ p. p.2) h in
    let writer : string_bytes s.writer ≡ string_bytes t.writer = ap (λ p. p.3) h in
    rw (mode, name, second, writer) refl

abbrev start_value_by : Option Start → Data
start_value_by (Some start) = start_word_value start
start_value_by None = string (codes "none")

start_value_of : (k : ClaimedKind) → start_value k ≡ start_value_by (start_of k)
start_value_of (kinds.Combinational start) = refl
start_value_of kinds.Edge = refl
start_value_of (kinds.Delay slots) = refl
start_value_of (kinds.Mixed slots) = refl

slots_from_residues : (j k : ClaimedKind) → residues_of j ≡ residues_of k → slots_value j ≡ slots_value k
slots_from_residues j k h =
    slots_value_of j
    ∙ values_from_parts residues_value (λ r. r.items) (λ r s e. ap (list_value whole_value) e) (slots_of j) (slots_of k) h
    ∙ sym (slots_value_of k)

process_from_parts : (p q : ProcessEntry) → process_parts p ≡ process_parts q → process_value p ≡ process_value q
process_from_parts p q h =
    let name : string_bytes p.name ≡ string_bytes q.name = ap (λ r. r.0) h in
    let word : kind_word p.kind ≡ kind_word q.kind = ap (λ r. r.1) h in
    let start : start_of p.kind ≡ start_of q.kind = ap (λ r. r.2) h in
    let residues : residues_of p.kind ≡ residues_of q.kind = ap (λ r. r.3) h in
    let begins : start_value p.kind ≡ start_value q.kind = start_value_of p.kind ∙ ap start_value_by start ∙ sym (start_value_of q.kind) in
    rw (word, name, slots_from_residues p.kind q.kind residues, begins) refl

value_later : (number : ℕ) (displays : Bool) (c d : Certificate) → IsSame c d →
    object_with ((codes "displays", boolean displays) ∷ shared_members number c) ≡ object_with ((codes "displays", boolean displays) ∷ shared_members number d)
value_later number displays c d h =
    rw (
      values_from_parts edge_value edge_parts edge_from_parts c.edges.items d.edges.items h.edges,
      h.grain,
      h.modulus,
      values_from_parts text_value string_bytes text_from_parts c.order.items d.order.items h.order,
      values_from_parts process_value process_parts process_from_parts c.processes.items d.processes.items h.processes,
      values_from_parts signal_value signal_parts signal_from_parts c.signals.items d.signals.items h.signals,
    ) refl

value_by : (v : Version) (c d : Certificate) → IsSame c d → object_with (members_by v c) ≡ object_with (members_by v d)
value_by versions.One c d h =
    rw (
      values_from_parts edge_value edge_parts edge_from_parts c.edges.items d.edges.items h.edges,
      h.grain,
      h.modulus,
      values_from_parts text_value string_bytes text_from_parts c.order.items d.order.items h.order,
      values_from_parts process_value process_parts process_from_parts c.processes.items d.processes.items h.processes,
      values_from_parts signal_value signal_parts signal_from_parts c.signals.items d.signals.items h.signals,
    ) refl
value_by (versions.Two displays) c d h = value_later 2 displays c d h
value_by (versions.Three displays) c d h = value_later 3 displays c d h

pub value_from_same : (c d : Certificate) → IsSame c d → value_of c ≡ value_of d
value_from_same c d h = ap (λ v. object_with (members_by v c)) h.version ∙ value_by d.version c d h
