-- Parts of a design are sound, where names are bound to its signals.
use Rattle.std.proofs.Common.{◌≡◌, ℕ, suc, ◌<◌, Bool, true, ◌==◌, nat_lt, List, [], ◌∷◌, Option, Some, None, sum, length, map, slice_get, All, refl, ap, sym, ◌∙◌, arith, true≢false}
use Rattle.std.specs.List.{list_all, flat_map, AllZip, AllByRecursion}
use Rattle.vs_design.specs.declared.range.BitRange.{BitRange}
use Rattle.vs_design.specs.Uses.{aim_range}
use Rattle.vs_design.specs.declared.statement.Aim.{Aim}
use Rattle.vs_design.specs.declared.statement.Aim.TheVariants.{Fixed, Chosen}
use Rattle.vs_design.specs.WellFormed.{is_of_net, aim_width, is_net_aim, is_sound_target, is_source, is_sound_assign, driven, is_body_of, is_sound_process}
use Rattle.vs_design.specs.declared.signal.Signal.{Signal}
use Rattle.vs_design.specs.declared.design.Assign.{Assign}
use Rattle.vs_design.specs.declared.design.Process.{Process}
use Rattle.std.proofs.lemmas.Bool.{and_parts}
use Rattle.std.proofs.lemmas.Option.{slice_get_within}
use Rattle.std.proofs.lemmas.List.Elements.{All-nil, All-cons, All-append}
use Rattle.vs_elab_statements.specs.vs_widths.specs.declared.kinds.AssignmentKind.TheVariants.{Continuous}
use Rattle.vs_elab_statements.specs.vs_scopes.specs.vs_widths.specs.Environment.{Environment}
use Rattle.vs_elab_statements.specs.vs_widths.specs.Expressions.{meant, name_meant}
use Rattle.vs_elab_statements.specs.vs_widths.proofs.ReadLemmas.{reads_within}
use Rattle.vs_elab_statements.specs.Statements.{assigned_to}
use Rattle.vs_elab_statements.specs.Members.{Behavior, drivers_of, port_drivers_of, PortDriver, into, out_of, Driver, of_port, of_text}
use Rattle.vs_elab_statements.specs.Surroundings.{Surroundings}
use Rattle.vs_elaborate.specs.Drivers.{port_target, IsDriver}
use Rattle.vs_elaborate.specs.DesignOf.{PartOf, parts_from, port_part, processes_of, assigns_of, IsProcess, IsAssign}
use Rattle.vs_elab_statements.specs.vs_scopes.specs.Printed.{Path}
use Rattle.vs_elab_statements.specs.vs_scopes.specs.Scopes.{Scope, environment}
use Rattle.std.proofs.lemmas.Bool.{and_from as both_true}
use Rattle.vs_elab_hierarchy.proofs.PathsLists.{each_append}
use Rattle.vs_elab_statements.proofs.WellFormedLemmas.{IsGood, in_design, name_within, net_target, source_sound, body_sound}

driver_sound : (ss : List Signal) (own outer : Environment) → IsGood ss own → IsGood ss outer → (d : Driver) (a : Assign) → IsDriver own outer d a.target a.source → is_sound_assign ss a ≡ true
driver_sound ss own outer g h (of_port (into n e)) a k =
    both_true _ _ (net_target ss own g (port_target own outer (into n e)) a.target k.target)
    (source_sound ss (meant outer e) a.target a.source (reads_within outer (λ i. nat_lt i (length ss)) (in_design ss outer h) e) k.source)
driver_sound ss own outer g h (of_port (out_of n e)) a k =
    both_true _ _ (net_target ss outer h (port_target own outer (out_of n e)) a.target k.target)
    (source_sound ss (name_meant (own n)) a.target a.source (name_within ss own g n (own n) refl) k.source)
driver_sound ss own outer g h (of_text x) a k =
    both_true _ _ (net_target ss own g (assigned_to Continuous own x.target) a.target k.target)
    (source_sound ss (meant own x.value) a.target a.source (reads_within own (λ i. nat_lt i (length ss)) (in_design ss own g) x.value) k.source)

-- ---- parts of scopes

-- names of a scope, and those around it, are bound to signals of the design
pub record IsFine (ss : List Signal) (s : Scope) : Type 0 where
  pub inside : IsGood ss (environment s)
  pub around : IsGood ss s.outer

process_sound : (ss : List Signal) (envs : Path → Surroundings) → ((p : Path) → IsGood ss (envs p).names) → (p : Process) (q : PartOf Behavior) → IsProcess envs p q → is_sound_process ss p ≡ true
process_sound ss envs good p q h =
    let body = body_sound ss envs good q.scope.path q.part p.body h.body in
    both_true _ _ (both_true _ _ body.0 h.numbered) (ap (λ z. is_body_of z p.body) h.kind ∙ body.1)

assign_sound : (ss : List Signal) (p : Assign) (q : PartOf Driver) → IsAssign p q → IsFine ss q.scope → is_sound_assign ss p ≡ true
assign_sound ss p q h g = driver_sound ss (environment q.scope) q.scope.outer g.inside g.around q.part p h.sides

module _ {A P : Type 0} (ss : List Signal) (R : P → PartOf A → Type 0) (test : P → Bool) (one : (p : P) (q : PartOf A) → R p q → IsFine ss q.scope → test p ≡ true) where
  zipped_sound : (ps : List P) (qs : List (PartOf A)) → AllZip R ps qs → AllByRecursion (λ q. IsFine ss q.scope) qs → All (λ p. test p ≡ true) ps
  zipped_sound [] qs h g = All-nil (λ p. test p ≡ true)
  zipped_sound (p ∷ ps) [] h g = absurd h
  zipped_sound (p ∷ ps) (q ∷ qs) h g = All-cons (λ p. test p ≡ true) p ps (one p q h.0 g.0) (zipped_sound ps qs h.1 g.1)

numbered_fine : {A : Type 0} (ss : List Signal) (letter : ℕ) (s : Scope) (k : ℕ) (xs : List A) → IsFine ss s → AllByRecursion (λ q. IsFine ss q.scope) (parts_from letter s k xs)
numbered_fine ss letter s k [] h = tt
numbered_fine ss letter s k (x ∷ xs) h = (h, numbered_fine ss letter s (suc k) xs h)

ports_fine : (ss : List Signal) (s : Scope) (ds : List PortDriver) → IsFine ss s → AllByRecursion (λ q. IsFine ss q.scope) (map (port_part s) ds)
ports_fine ss s [] h = tt
ports_fine ss s (d ∷ ds) h = (h, ports_fine ss s ds h)

assigns_fine : (ss : List Signal) (s : Scope) → IsFine ss s → AllByRecursion (λ q. IsFine ss q.scope) (assigns_of s)
assigns_fine ss s h =
    each_append (λ q. IsFine ss q.scope) (map (port_part s) (port_drivers_of s)) (parts_from 97 s 0 (map of_text (drivers_of s)))
    (ports_fine ss s (port_drivers_of s) h) (numbered_fine ss 97 s 0 (map of_text (drivers_of s)) h)

flat_fine : {A : Type 0} (ss : List Signal) (g : Scope → List (PartOf A)) → ((s : Scope) → IsFine ss s → AllByRecursion (λ q. IsFine ss q.scope) (g s)) → (all : List Scope) → AllByRecursion (IsFine ss) all → AllByRecursion (λ q. IsFine ss q.scope) (flat_map g all)
flat_fine ss g one [] h = tt
flat_fine ss g one (s ∷ all) h = each_append (λ q. IsFine ss q.scope) (g s) (flat_map g all) (one s h.0) (flat_fine ss g one all h.1)

processes_each : (ss : List Signal) (envs : Path → Surroundings) → ((p : Path) → IsGood ss (envs p).names) → (ps : List Process) (qs : List (PartOf Behavior)) → AllZip (IsProcess envs) ps qs → All (λ (p : Process). is_sound_process ss p ≡ true) ps
processes_each ss envs good [] qs h = All-nil (λ (p : Process). is_sound_process ss p ≡ true)
processes_each ss envs good (p ∷ ps) [] h = absurd h
processes_each ss envs good (p ∷ ps) (q ∷ qs) h = All-cons (λ (p : Process). is_sound_process ss p ≡ true) p ps (process_sound ss envs good p q h.0) (processes_each ss envs good ps qs h.1)

pub processes_sound : (ss : List Signal) (envs : Path → Surroundings) (all : List Scope) → ((p : Path) → IsGood ss (envs p).names) → (ps : List Process) → AllZip (IsProcess envs) ps (flat_map processes_of all) → All (λ (p : Process). is_sound_process ss p ≡ true) ps
processes_sound ss envs all good ps h = processes_each ss envs good ps (flat_map processes_of all) h

pub assigns_sound : (ss : List Signal) (all : List Scope) (ps : List Assign) → AllByRecursion (IsFine ss) all → AllZip IsAssign ps (flat_map assigns_of all) → All (λ (p : Assign). is_sound_assign ss p ≡ true) ps
assigns_sound ss all ps fine h = zipped_sound ss IsAssign (is_sound_assign ss) (assign_sound ss) ps (flat_map assigns_of all) h (flat_fine ss assigns_of (assigns_fine ss) all fine)

-- ---- what is driven

-- a range of a net of the design
abbrev pub OfNet : List Signal → BitRange → Type 0
OfNet ss r = is_of_net (slice_get ss r.signal) ≡ true

aims_of_nets : (ss : List Signal) (aims : List Aim) → list_all (is_net_aim ss) aims ≡ true → All (OfNet ss) (map aim_range aims)
aims_of_nets ss [] h = All-nil (OfNet ss)
aims_of_nets ss (a ∷ aims) h =
    let parts = and_parts (is_net_aim ss a) (list_all (is_net_aim ss) aims) h in
    All-cons (OfNet ss) (aim_range a) (map aim_range aims) (one a parts.0) (aims_of_nets ss aims parts.1)
  where
    one : (a : Aim) → is_net_aim ss a ≡ true → OfNet ss (aim_range a)
    one (Fixed s) k = (and_parts (is_of_net (slice_get ss s.signal)) (s.word == 0) k).0
    one (Chosen s word low) k = absurd (true≢false (sym k))

-- what sound continuous assignments drive are nets
pub driven_nets : (ss : List Signal) (ps : List Assign) → All (λ (a : Assign). is_sound_assign ss a ≡ true) ps → All (OfNet ss) (driven ps)
driven_nets ss [] h = All-nil (OfNet ss)
driven_nets ss (p ∷ ps) h =
    let sound = and_parts (is_sound_target (is_net_aim ss) p.target) (is_source ss p.target p.source) (h 0 p (omega arith)) in
    let places = and_parts (list_all (is_net_aim ss) p.target.parts.items) (sum (map aim_width p.target.parts.items) == p.target.width) sound.0 in
    All-append (OfNet ss) (map aim_range p.target.parts.items) (driven ps) (aims_of_nets ss p.target.parts.items places.0) (driven_nets ss ps (λ i d l. h (suc i) d (omega (arith, l))))

pub of_net_within : (ss : List Signal) (i : ℕ) → is_of_net (slice_get ss i) ≡ true → i < length ss
of_net_within ss i h = by (slice_get ss i) refl h
  where
    by : (o : Option Signal) → slice_get ss i ≡ o → is_of_net o ≡ true → i < length ss
    by None e k = absurd (true≢false (sym k))
    by (Some x) e k = slice_get_within ss i x e
