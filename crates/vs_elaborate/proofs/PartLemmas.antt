-- The printed names of a design's processes differ, and so do those of its continuous assignments.
use Rattle.std.proofs.Common.{◌≡◌, ℕ, suc, ◌+◌, ◌^◌, ◌<◌, ◌≤◌, false, List, [], ◌∷◌, Option, Some, None, length, map, drop, get_or, refl, ap, ap₂, sym, subst, ◌∙◌, arith, true≢false}
use Rattle.std.specs.List.{flat_map, AllZip, AllByRecursion, IsDistinct}
use Rattle.std.specs.Str.{bytes_eq}
use Rattle.std.specs.Str.Parse.{digits_value}
use Rattle.std.specs.Fmt.{decimal}
use Rattle.std.proofs.lemmas.Bool.{false_from_ne_true}
use Rattle.std.proofs.lemmas.Fmt.{decimal_is_IsNumeral}
use Rattle.std.proofs.lemmas.List.{map-append, length-append}
use Rattle.std.proofs.lemmas.Slice.Eq.{bytes_eq-Decides}
use Rattle.std.proofs.lemmas.Slice.Zip.{AllZip-long}
use Rattle.vs_syntax.specs.declared.tree.Expr.{Expr}
use Rattle.vs_design.specs.declared.design.Assign.{Assign}
use Rattle.vs_design.specs.declared.design.Process.{Process}
use Rattle.vs_elab_statements.specs.vs_scopes.specs.vs_widths.specs.Environment.{Environment}
use Rattle.vs_elab_statements.specs.vs_scopes.specs.Printed.{Path, same_path, printed_name, own_name, port_assign_name, part_name}
use Rattle.vs_elab_statements.specs.vs_scopes.specs.Ports.{ModulePort, port_names, names_where, is_joined}
use Rattle.vs_elab_statements.specs.vs_scopes.specs.Declarations.{DeclaredName, declared_by_port, declared_among, not_joined, names_in}
use Rattle.vs_elab_statements.specs.vs_scopes.specs.Scopes.{Scope, all_names_of}
use Rattle.vs_elab_hierarchy.specs.Laws.{HasTurnsThatFit, scope_paths}
use Rattle.vs_elab_hierarchy.proofs.PathsLists.{each_append, distinct_append, distinct_left}
use Rattle.vs_elab_hierarchy.proofs.PathsParts.{IsPartAt, parts_differ}
use Rattle.vs_elab_hierarchy.proofs.PathsPrinted.{name_same}
use Rattle.vs_elab_hierarchy.proofs.TitleLemmas.{signals_differ}
use Rattle.vs_elab_statements.specs.Members.{PortDriver, port_drivers, port_drivers_of, port_of, Driver, of_text, drivers_of, behaviors_of}
use Rattle.vs_elab_statements.specs.Surroundings.{Surroundings}
use Rattle.vs_elaborate.specs.DesignOf.{PartOf, parts_from, port_part, processes_of, assigns_of, IsProcess, IsAssign}
use Rattle.vs_elaborate.proofs.FillingLemmas.{port_of_connected}
use Rattle.vs_elab_hierarchy.proofs.OwnLemmas.{port_names_declared as ports_first}
use Rattle.vs_design.specs.vs_logic4.proofs.Basics.{bytes_apart as not_same}

abbrev pub path_of : {A : Type 0} → PartOf A → Path
path_of q = q.scope.path

abbrev pub name_of : {A : Type 0} → PartOf A → List ℕ
name_of q = q.name

-- ---- names with numbers

-- numbers that differ are printed differently
own_same : (letter m n : ℕ) → m < 2 ^ 64 → n < 2 ^ 64 → own_name letter m ≡ own_name letter n → m ≡ n
own_same letter m n h k e = sym (decimal_is_IsNumeral m h).1 ∙ ap (λ l. digits_value 10 (drop 2 l)) e ∙ (decimal_is_IsNumeral n k).1

-- a name with a number
record IsOwn (letter : ℕ) (n : List ℕ) : Type 0 where
  number : ℕ
  is : n ≡ own_name letter number

module _ {A : Type 0} (letter : ℕ) (s : Scope) where
  parts_counted : (k : ℕ) (xs : List A) → length (parts_from letter s k xs) ≡ length xs
  parts_counted k [] = refl
  parts_counted k (x ∷ xs) = ap suc (parts_counted (suc k) xs)

  parts_at : (k : ℕ) (xs : List A) → AllByRecursion (IsPartAt {A = PartOf A} path_of name_of s.path) (parts_from letter s k xs)
  parts_at k [] = tt
  parts_at k (x ∷ xs) = (record { at = refl; marked = record { rest = letter ∷ decimal k; is = refl } }, parts_at (suc k) xs)

  own_apart : (k j : ℕ) (xs : List A) → k < j → j + length xs ≤ 2 ^ 64 → AllByRecursion (λ n. bytes_eq (own_name letter k) n ≡ false) (map name_of (parts_from letter s j xs))
  own_apart k j [] h l = tt
  own_apart k j (x ∷ xs) h l =
      (not_same (own_name letter k) (own_name letter j) (λ e. (let same = own_same letter k j (omega (arith, h, l)) (omega (arith, l)) e in omega (arith, same, h))), own_apart k (suc j) xs (omega (arith, h)) (omega (arith, l)))

  own_differ : (k : ℕ) (xs : List A) → k + length xs ≤ 2 ^ 64 → IsDistinct bytes_eq (map name_of (parts_from letter s k xs))
  unfolding IsDistinct
  own_differ k [] l = tt
  own_differ k (x ∷ xs) l = (own_apart k (suc k) xs (omega arith) (omega (arith, l)), own_differ (suc k) xs (omega (arith, l)))

  names_own : (k : ℕ) (xs : List A) → AllByRecursion (IsOwn letter) (map name_of (parts_from letter s k xs))
  names_own k [] = tt
  names_own k (x ∷ xs) = (record { number = k; is = refl }, names_own (suc k) xs)

-- ---- names of ports

-- the ports of a scope that declares a name once have names that differ
ports_differ : (s : Scope) → IsDistinct bytes_eq (all_names_of s) → IsDistinct bytes_eq (port_names s.ports)
ports_differ s d =
    let ports = map (declared_by_port s.known) s.ports in
    let others = not_joined (names_where is_joined s.ports) (declared_among s.known s.pieces) in
    let both = subst (IsDistinct bytes_eq) (map-append (λ (z : DeclaredName). z.name) ports others) (signals_differ s d) in
    subst (IsDistinct bytes_eq) (ports_first s.known s.ports) (distinct_left bytes_eq (names_in ports) (names_in others) both)

-- the names of continuous assignments of ports
abbrev port_names_of : List PortDriver → List (List ℕ)
port_names_of ds = map (λ d. port_assign_name (port_of d)) ds

port_name_apart : (m n : List ℕ) → bytes_eq m n ≡ false → bytes_eq (port_assign_name m) (port_assign_name n) ≡ false
port_name_apart m n h = not_same (port_assign_name m) (port_assign_name n) (λ e.
    (let same : printed_name m ≡ printed_name n = ap (drop 4) e in
    true≢false (sym ((bytes_eq-Decides m n).1 (name_same m n same)) ∙ h)))

drivers_apart : (m : List ℕ) (ps : List ModulePort) (es : List (Option Expr)) → AllByRecursion (λ n. bytes_eq m n ≡ false) (port_names ps) → AllByRecursion (λ n. bytes_eq (port_assign_name m) n ≡ false) (port_names_of (port_drivers ps es))
drivers_apart m [] es h = tt
drivers_apart m (p ∷ ps) [] h = tt
drivers_apart m (p ∷ ps) (None ∷ es) h = drivers_apart m ps es h.1
drivers_apart m (p ∷ ps) (Some e ∷ es) h =
    (ap (λ n. bytes_eq (port_assign_name m) (port_assign_name n)) (port_of_connected p.direction p.name e) ∙ port_name_apart m p.name h.0, drivers_apart m ps es h.1)

drivers_differ : (ps : List ModulePort) (es : List (Option Expr)) → IsDistinct bytes_eq (port_names ps) → IsDistinct bytes_eq (port_names_of (port_drivers ps es))
unfolding IsDistinct
drivers_differ [] es d = tt
drivers_differ (p ∷ ps) [] d = tt
drivers_differ (p ∷ ps) (None ∷ es) d = drivers_differ ps es d.1
drivers_differ (p ∷ ps) (Some e ∷ es) d =
    let P : List ℕ → Type 0 = λ n. AllByRecursion (λ z. bytes_eq (port_assign_name n) z ≡ false) (port_names_of (port_drivers ps es)) in
    (subst P (sym (port_of_connected p.direction p.name e)) (drivers_apart p.name ps es d.0), drivers_differ ps es d.1)

port_parts_at : (s : Scope) (ds : List PortDriver) → AllByRecursion (IsPartAt {A = PartOf Driver} path_of name_of s.path) (map (port_part s) ds)
port_parts_at s [] = tt
port_parts_at s (d ∷ ds) = (record { at = refl; marked = record { rest = drop 1 (port_assign_name (port_of d)); is = refl } }, port_parts_at s ds)

port_parts_named : (s : Scope) (ds : List PortDriver) → map name_of (map (port_part s) ds) ≡ port_names_of ds
port_parts_named s [] = refl
port_parts_named s (d ∷ ds) = ap (λ z. port_assign_name (port_of d) ∷ z) (port_parts_named s ds)

-- a name of a port's assignment
record IsOfPort (n : List ℕ) : Type 0 where
  port : List ℕ
  is : n ≡ port_assign_name port

names_of_ports : (ds : List PortDriver) → AllByRecursion IsOfPort (port_names_of ds)
names_of_ports [] = tt
names_of_ports (d ∷ ds) = (record { port = port_of d; is = refl }, names_of_ports ds)

-- ---- a scope

assigns_at : (s : Scope) → AllByRecursion (IsPartAt {A = PartOf Driver} path_of name_of s.path) (assigns_of s)
assigns_at s =
    each_append (IsPartAt {A = PartOf Driver} path_of name_of s.path) (map (port_part s) (port_drivers_of s)) (parts_from 97 s 0 (map of_text (drivers_of s)))
    (port_parts_at s (port_drivers_of s)) (parts_at 97 s 0 (map of_text (drivers_of s)))

sorts_apart : (m n : List ℕ) → IsOfPort m → IsOwn 97 n → bytes_eq m n ≡ false
sorts_apart m n a o = not_same m n (λ e. (let same : 105 ≡ 97 = ap (λ l. get_or l 1 0) (sym a.is ∙ e ∙ o.is) in omega (arith, same)))

assigns_differ : (s : Scope) → IsDistinct bytes_eq (all_names_of s) → length (assigns_of s) ≤ 2 ^ 64 → IsDistinct bytes_eq (map name_of (assigns_of s))
assigns_differ s d l =
    let ports = map (port_part s) (port_drivers_of s) in
    let texts = parts_from 97 s 0 (map of_text (drivers_of s)) in
    let few : 0 + length (map of_text (drivers_of s)) ≤ 2 ^ 64 = omega (arith, l, length-append ports texts, parts_counted 97 s 0 (map of_text (drivers_of s))) in
    let named = port_parts_named s (port_drivers_of s) in
    subst (IsDistinct bytes_eq) (sym (map-append name_of ports texts))
    (distinct_append bytes_eq IsOfPort (IsOwn 97) sorts_apart (map name_of ports) (map name_of texts)
    (subst (IsDistinct bytes_eq) (sym named) (drivers_differ s.ports s.ends (ports_differ s d)))
    (own_differ 97 s 0 (map of_text (drivers_of s)) few)
    (subst (AllByRecursion IsOfPort) (sym named) (names_of_ports (port_drivers_of s)))
    (names_own 97 s 0 (map of_text (drivers_of s))))

-- ---- all scopes

all_assigns : (ss : List Scope) → AllByRecursion (λ s. IsDistinct bytes_eq (all_names_of s)) ss → length (flat_map assigns_of ss) ≤ 2 ^ 64 → AllByRecursion (λ s. IsDistinct bytes_eq (map name_of (assigns_of s))) ss
all_assigns [] h l = tt
all_assigns (s ∷ ss) h l =
    let both = length-append (assigns_of s) (flat_map assigns_of ss) in
    (assigns_differ s h.0 (omega (arith, l, both)), all_assigns ss h.1 (omega (arith, l, both)))

all_processes : (ss : List Scope) → length (flat_map processes_of ss) ≤ 2 ^ 64 → AllByRecursion (λ s. IsDistinct bytes_eq (map name_of (processes_of s))) ss
all_processes [] l = tt
all_processes (s ∷ ss) l =
    let both = length-append (processes_of s) (flat_map processes_of ss) in
    let own = parts_counted 112 s 0 (behaviors_of s) in
    (own_differ 112 s 0 (behaviors_of s) (omega (arith, l, both, own)), all_processes ss (omega (arith, l, both)))

-- names of parts, by what the parts are
zipped : {A P : Type 0} (R : P → PartOf A → Type 0) (name : P → List ℕ) → ((p : P) (q : PartOf A) → R p q → name p ≡ part_name q.scope.path q.name) → (ps : List P) (qs : List (PartOf A)) → AllZip R ps qs → map name ps ≡ map (λ q. part_name (path_of q) (name_of q)) qs
zipped R name f [] [] h = refl
zipped R name f [] (q ∷ qs) h = absurd h
zipped R name f (p ∷ ps) [] h = absurd h
zipped R name f (p ∷ ps) (q ∷ qs) h = ap₂ (λ x xs. x ∷ xs) (f p q h.0) (zipped R name f ps qs h.1)

pub processes_named : (envs : Path → Surroundings) (ss : List Scope) (ps : List Process) → AllByRecursion HasTurnsThatFit (scope_paths ss) → IsDistinct same_path (scope_paths ss) → AllZip (IsProcess envs) ps (flat_map processes_of ss) → length ps ≤ 2 ^ 64 → IsDistinct bytes_eq (map (λ (p : Process). p.name.items) ps)
processes_named envs ss ps fit d h l =
    let few : length (flat_map processes_of ss) ≤ 2 ^ 64 = omega (arith, l, AllZip-long (IsProcess envs) ps (flat_map processes_of ss) h) in
    subst (IsDistinct bytes_eq) (sym (zipped (IsProcess envs) (λ (p : Process). p.name.items) (λ p q r. r.name) ps (flat_map processes_of ss) h))
    (parts_differ path_of name_of processes_of (λ s. parts_at 112 s 0 (behaviors_of s)) ss fit d (all_processes ss few))

pub assigns_named : (ss : List Scope) (ps : List Assign) → AllByRecursion HasTurnsThatFit (scope_paths ss) → IsDistinct same_path (scope_paths ss) → AllByRecursion (λ s. IsDistinct bytes_eq (all_names_of s)) ss → AllZip IsAssign ps (flat_map assigns_of ss) → length ps ≤ 2 ^ 64 → IsDistinct bytes_eq (map (λ (p : Assign). p.name.items) ps)
assigns_named ss ps fit d once h l =
    let few : length (flat_map assigns_of ss) ≤ 2 ^ 64 = omega (arith, l, AllZip-long IsAssign ps (flat_map assigns_of ss) h) in
    subst (IsDistinct bytes_eq) (sym (zipped IsAssign (λ (p : Assign). p.name.items) (λ p q r. r.name) ps (flat_map assigns_of ss) h))
    (parts_differ path_of name_of assigns_of assigns_at ss fit d (all_assigns ss once few))
