-- A scope's own members, from the passes over them.
use Rattle.std.proofs.Common.{◌≡◌, ℕ, zero, suc, ◌+◌, ◌<◌, ◌≤◌, Bool, true, false, ◌||◌, ◌&&◌, not, nat_lt, is_some, cond, List, [], ◌∷◌, ◌++◌, Option, Some, None, inl, inr, ⊎_elim, length, map, take, get_or, refl, ap, ap₂, sym, subst, ◌∙◌, append_assoc, arith, true≢false, option_map}
use Rattle.std.specs.List.{slice_get, list_any, flat_map, AllZip, IsDistinct}
use Rattle.std.specs.Str.{bytes_eq}
use Rattle.std.specs.declared.vec.Vec.{Vec}
use Rattle.std.specs.declared.alloc.Global.{Global}
use Rattle.std.proofs.lemmas.Bool.{ltb-true, ltb-false, or_parts, and_parts}
use Rattle.std.proofs.lemmas.List.{append-nil, map-append, length-append, length-map, take_all}
use Rattle.std.proofs.lemmas.Option.{none-some, slice_get-map, slice_get-get_or}
use Rattle.vs_syntax.specs.declared.tree.Declarator.{Declarator}
use Rattle.vs_syntax.specs.declared.tree.Item.{Item}
use Rattle.vs_syntax.specs.declared.tree.Item.TheVariants as i
use Rattle.vs_syntax.specs.declared.tree.LocalDeclaration.{LocalDeclaration}
use Rattle.vs_syntax.specs.declared.tree.LocalDeclaration.TheVariants as l
use Rattle.vs_syntax.specs.declared.tree.Range.{Range}
use Rattle.vs_design.specs.declared.design.ScopeKind.{ScopeKind}
use Rattle.vs_design.specs.declared.design.ScopeKind.TheVariants as opened_by
use Rattle.vs_design.specs.declared.design.Entry.TheVariants.{Enter}
use Rattle.vs_design.specs.declared.signal.SignalKind.{SignalKind}
use Rattle.vs_design.specs.declared.signal.SignalKind.TheVariants as k
use Rattle.vs_scopes.specs.vs_widths.specs.declared.bindings.Binding.{Binding}
use Rattle.vs_scopes.specs.vs_widths.specs.declared.bindings.Binding.TheVariants as b
use Rattle.vs_scopes.specs.vs_widths.specs.Environment.{Environment}
use Rattle.vs_elab_signals.specs.vs_scopes.specs.Pieces.{Piece, plain, loop, choice, local, inside, net}
use Rattle.vs_scopes.specs.declared.faults.Reason.{Reason}
use Rattle.vs_scopes.specs.declared.faults.Reason.TheVariants.{NoModule, Inside, PortMismatch, ParameterMismatch, DeclaredTwice, DrivenTwice, Limit, Width, Endless, Unnamed, Timescales, Format}
use Rattle.vs_scopes.specs.declared.faults.ElabFault.{ElabFault}
use Rattle.vs_scopes.specs.Printed.{PathName, plainly, Path, printed_part}
use Rattle.vs_scopes.specs.Ranges.{Sized, sized_as, words_as}
use Rattle.vs_scopes.specs.Ports.{ModulePort, PortSource, port_names, names_where, is_joined, without_name, left_over, ports_again, port_names_among, has_stray_port}
use Rattle.vs_scopes.specs.Declarations.{Bindings, DeclaredName, declaration_fault, declared_by_port, declared_by, declared_by_item, declared_local, declared_locally, declared_in, declared_among, names_in, not_joined, bound_to, genvars_in, inner_names_among, is_unlike}
use Rattle.vs_scopes.specs.Scopes.{Scope, environment, is_instance, deepest, bindings_of, keys, all_names_of, constant_names, numbered_names, declarations_of, late_nets, named}
use Rattle.vs_scopes.specs.scopes_passes.Answers.{IsReported, IsFaultAt}
use Rattle.vs_scopes.specs.scopes_passes.Names.{read_title, read_path}
use Rattle.vs_scopes.specs.scopes_passes.Parts.{read_port}
use Rattle.vs_scopes.specs.declared.ports.ModulePort.{ModulePort as FoundPort}
use Rattle.vs_scopes.specs.declared.printed.PathName.{PathName as FoundName}
use Rattle.vs_scopes.proofs.Folds.{any_false_at}
use Rattle.std.proofs.lemmas.Bool.{or_from as both_false}
use Rattle.vs_design.specs.vs_logic4.proofs.Basics.{take_push}
use Rattle.vs_elab_hierarchy.specs.vs_elab_signals.specs.nets_passes.Nets.{IsLate}
use Rattle.vs_scopes.proofs.AnswerLemmas.{told_at, told_by}
use Rattle.vs_elab_signals.specs.passes.Counting.{Counts}
use Rattle.vs_scopes.specs.Generate.{turns_among}
use Rattle.vs_elab_signals.specs.vs_elab_constants.specs.generate_passes.Turns.{CountsTurns}
use Rattle.vs_elab_signals.specs.declared.opened.ElabScope.{ElabScope as FoundScope}
use Rattle.vs_elab_signals.specs.declared.opened.Numbering.{Numbering}
use Rattle.vs_elab_signals.specs.declared.declarations.Declared.{Declared as Declaring}
use Rattle.vs_elab_signals.specs.Outlines.{declared, signal_of, signals_of, declare_from, IsEntry}
use Rattle.vs_elab_signals.specs.ScopeFaults.{Repeated, PassesLimit}
use Rattle.vs_elab_signals.specs.Opened.{IsWithin, HasParentScope, IsScopeOf}
use Rattle.vs_elab_signals.specs.signal_passes.Sites.{outward_place, passes_limit}
use Rattle.vs_elab_signals.specs.signal_passes.Naming.{Bound, BoundNot}
use Rattle.vs_elab_signals.specs.signal_passes.Declaring.{Keeps, KeepsNot, DeclaresPorts, DeclaresPortsNot, Declares, DeclaresNot, joined_names}
use Rattle.vs_elab_signals.proofs.BindLemmas.{place_of_any, repeated_more, numbered_keys}
use Rattle.vs_elab_signals.proofs.DeclareLemmas.{keeps_none}
use Rattle.vs_elab_hierarchy.specs.scope_passes.Own.{AreAlike, HasFewTurns, OpensNames, HoldsOwn, IsFitting, HasFittingPieces, IsAgainNot, DeclaresAll, DeclaresAllNot, Binds, BindsNot, OpensOwn, EntersLast}
use Rattle.vs_elab_hierarchy.proofs.SeatLemmas.{within_front}
use Rattle.vs_elab_hierarchy.proofs.ListLemmas.{slice_push, any_append, any_right, any_none_map}
use Rattle.vs_design.specs.vs_logic4.proofs.Basics.{slice_front, slice_back, any_front as any_left, or_parts as any_either}
use Rattle.vs_design.specs.vs_logic4.proofs.Basics.{any_map, not_false}

-- ---- limits

-- a scope that passes a limit
pub limit_passed : (s : Scope) → passes_limit s.kind s.instances (length s.path) ≡ true → PassesLimit s s.path
limit_passed s h =
    inr (
      ⊎_elim
          (λ e. inr (inr (ltb-true deepest (length s.path) e)))
          (λ e. (let p = and_parts (is_instance s.kind) (nat_lt 16384 s.instances) e in inl (p.0, ltb-true 16384 s.instances p.1)))
          (any_either (nat_lt deepest (length s.path)) (is_instance s.kind && nat_lt 16384 s.instances) h),
      refl,
    )

-- one that passes none
passes_none : (s : Scope) → passes_limit s.kind s.instances (length s.path) ≡ false → (nat_lt deepest (length s.path) ≡ false) × ((is_instance s.kind && nat_lt 16384 s.instances) ≡ false)
passes_none s h = or_parts (nat_lt deepest (length s.path)) (is_instance s.kind && nat_lt 16384 s.instances) h

pub is_deep : (s : Scope) → passes_limit s.kind s.instances (length s.path) ≡ false → length s.path ≤ 16448
is_deep s h = ltb-false 16448 (length s.path) (passes_none s h).0

few_by : (a : Bool) (n : ℕ) → (a && nat_lt 16384 n) ≡ false → a ≡ true → n ≤ 16384
few_by true n h e = ltb-false 16384 n h
few_by false n h e = absurd (true≢false (sym e))

pub is_few : (s : Scope) → passes_limit s.kind s.instances (length s.path) ≡ false → is_instance s.kind ≡ true → s.instances ≤ 16384
is_few s h e = few_by (is_instance s.kind) s.instances (passes_none s h).1 e

-- the limits of what stands for a scope
pub limit_same : (ss : List Scope) (o : FoundScope) (s : Scope) (path : List FoundName) (n : ℕ) → IsScopeOf ss o s → read_path path ≡ s.path → n ≡ length path → passes_limit o.kind o.instances n ≡ passes_limit s.kind s.instances (length s.path)
limit_same ss o s path n e q h =
    ap (λ z. passes_limit z o.instances n) e.kind ∙ ap (λ z. passes_limit s.kind z n) e.instances ∙ ap (passes_limit s.kind s.instances) (h ∙ sym (length-map path read_title) ∙ ap length q)

-- one that stands in too many instances
pub deep_told : (ss : List Scope) (o : FoundScope) (s : Scope) (e : ElabFault) → IsScopeOf ss o s → 64 < o.depth → IsFaultAt Limit s.home e → IsReported (HoldsOwn s) e
deep_told ss o s e h deep f = told_at (HoldsOwn s) Limit s.home e (inl (inl (subst (λ n. 64 < n) h.depth deep, refl))) f

-- ---- the scopes around a scope

pub outward_below : (kind : ScopeKind) (around : Option ℕ) (n : ℕ) → ((place : ℕ) → around ≡ Some place → place < n) → (place : ℕ) → outward_place kind around ≡ Some place → place < n
outward_below opened_by.Module around n h place e = absurd (none-some place e)
outward_below opened_by.Begin around n h place e = h place e

-- the instance that the scope to be listed stands in is listed already
pub home_before : (ss : List Scope) (o : FoundScope) (s : Scope) → EntersLast ss o s → o.home < length ss → (t : Scope) × (slice_get ss o.home ≡ Some t) × (s.home ≡ t.path)
home_before ss o s h small =
    let home = h.entered.home in
    ⊎_elim (λ p. (home.home_scope, p.1, home.path)) (λ p. absurd (omega (arith, p.0, small))) (slice_push ss s home.home_scope o.home home.stands)

-- or it is that itself
pub home_itself : (ss : List Scope) (o : FoundScope) (s : Scope) → EntersLast ss o s → length ss ≤ o.home → s.home ≡ s.path
home_itself ss o s h large =
    let home = h.entered.home in
    ⊎_elim (λ p. absurd (omega (arith, p.0, large))) (λ p. home.path ∙ ap (λ (z : Scope). z.path) (sym p.1)) (slice_push ss s home.home_scope o.home home.stands)

-- ---- names

names_append : (xs ys : List DeclaredName) → names_in (xs ++ ys) ≡ names_in xs ++ names_in ys
names_append xs ys = map-append (λ (d : DeclaredName). d.name) xs ys

keys_append : (xs ys : Bindings) → keys (xs ++ ys) ≡ keys xs ++ keys ys
keys_append xs ys = map-append (λ (x : List ℕ × Binding). x.0) xs ys

-- what the names of a scope are bound to behind its signals
abbrev other_names : Scope → Bindings
other_names s = bound_to b.Genvar (flat_map genvars_in s.pieces) ++ bound_to b.Other (inner_names_among s.pieces)

bindings_whole : (s : Scope) → bindings_of s ≡ constant_names s.constants ++ (numbered_names s.base (declarations_of s) ++ other_names s)
bindings_whole s =
    let signals = numbered_names s.base (declarations_of s) in
    let genvars = bound_to b.Genvar (flat_map genvars_in s.pieces) in
    let inner = bound_to b.Other (inner_names_among s.pieces) in
    append_assoc (constant_names s.constants ++ signals) genvars inner ∙ append_assoc (constant_names s.constants) signals (genvars ++ inner)

bindings_keys : (s : Scope) → keys (bindings_of s) ≡ keys (constant_names s.constants) ++ (names_in (declarations_of s) ++ keys (other_names s))
bindings_keys s =
    ap keys (bindings_whole s) ∙ keys_append (constant_names s.constants) (numbered_names s.base (declarations_of s) ++ other_names s)
    ∙ ap (λ z. keys (constant_names s.constants) ++ z) (keys_append (numbered_names s.base (declarations_of s)) (other_names s) ∙ ap (λ z. z ++ keys (other_names s)) (numbered_keys s.base (declarations_of s)))

-- a name that is repeated among the first names of a scope
abbrev pub Twice : Scope → Path → Type 0
Twice s p = (n : List ℕ) × (p ≡ named s n) × Repeated (keys (bindings_of s)) n

twice_in : (s : Scope) (p : Path) (n : List ℕ) (ns rest : List (List ℕ)) → ns ++ rest ≡ keys (bindings_of s) → p ≡ named s n → Repeated ns n → Twice s p
twice_in s p n ns rest e path h = (n, path, subst (λ z. Repeated z n) e (repeated_more ns rest n h))

bound_twice : (s : Scope) (at p : Path) (before bs rest : Bindings) → at ≡ s.path → keys ((before ++ bs) ++ rest) ≡ keys (bindings_of s) → BoundNot at before bs DeclaredTwice p → Twice s p
bound_twice s at p before bs rest a e h =
    twice_in s p h.0 (keys (before ++ bs)) (keys rest) (sym (keys_append (before ++ bs) rest) ∙ e) (h.1 ∙ ap (λ z. z ++ plainly h.0 ∷ []) a) h.2

kept_twice : (s : Scope) (start : Numbering) (p : Path) (ds more : List DeclaredName) → ds ++ more ≡ declarations_of s → KeepsNot s start ds DeclaredTwice p → Twice s p
kept_twice s start p ds more e h =
    let cs = keys (constant_names s.constants) in
    let others = keys (other_names s) in
    let all : (cs ++ names_in ds) ++ (names_in more ++ others) ≡ keys (bindings_of s) =
    append_assoc cs (names_in ds) (names_in more ++ others) ∙ ap (λ z. cs ++ z) (sym (append_assoc (names_in ds) (names_in more) others) ∙ ap (λ z. z ++ others) (sym (names_append ds more) ∙ ap names_in e)) ∙ sym (bindings_keys s) in
    twice_in s p h.0 (cs ++ names_in ds) (names_in more ++ others) all h.1 h.2

-- ---- ranges

-- a reason that isn't one of a range
abbrev Apart : Reason → Type 0
Apart Limit = ⊥
Apart (Width w) = ⊥
Apart r = Unit {0}

fault_apart : (r : Reason) → Apart r → (env : Environment) (kind : SignalKind) (z : Sized) (range : Option Range) (n : List ℕ) → declaration_fault r (record { kind = kind; size = z; words = words_as env kind range; name = n }) ≡ false
fault_apart NoModule a env kind z range n = refl
fault_apart Inside a env kind z range n = refl
fault_apart PortMismatch a env kind z range n = refl
fault_apart ParameterMismatch a env kind z range n = refl
fault_apart DeclaredTwice a env kind z range n = refl
fault_apart DrivenTwice a env kind z range n = refl
fault_apart Limit a env kind z range n = absurd a
fault_apart (Width w) a env kind z range n = absurd a
fault_apart Endless a env kind z range n = refl
fault_apart Unnamed a env kind z range n = refl
fault_apart Timescales a env kind z range n = refl
fault_apart (Format wrong) a env kind z range n = refl

module _ (r : Reason) (a : Apart r) (env : Environment) where
  none_of : (kind : SignalKind) (z : Sized) (ds : List Declarator) → list_any (declaration_fault r) (map (declared_by env kind z) ds) ≡ false
  none_of kind z ds = any_none_map (declaration_fault r) (declared_by env kind z) ds (λ d. fault_apart r a env kind z d.words d.name.items)

  none_by_item : (x : Item) → list_any (declaration_fault r) (declared_by_item env x) ≡ false
  none_by_item (i.Wire f ds) = none_of k.Wire (sized_as env f.signed 0 f.range) ds.items
  none_by_item (i.Reg f ds) = none_of k.Reg (sized_as env f.signed 0 f.range) ds.items
  none_by_item (i.Integer ds) = none_of k.Integer (sized_as env true 31 None) ds.items
  none_by_item (i.Port f ns) = refl
  none_by_item (i.Genvar ns) = refl
  none_by_item (i.Parameter f xs) = refl
  none_by_item (i.Localparam f xs) = refl
  none_by_item (i.Instances n o xs) = refl
  none_by_item (i.Assign xs) = refl
  none_by_item (i.Initial x) = refl
  none_by_item (i.Always x) = refl

  none_locally : (x : LocalDeclaration) → list_any (declaration_fault r) (declared_locally env x) ≡ false
  none_locally (l.Reg f xs) = any_none_map (declaration_fault r) (declared_local env k.Reg (sized_as env f.signed 0 f.range)) xs.items (λ x. fault_apart r a env k.Reg (sized_as env f.signed 0 f.range) x.words x.name.items)
  none_locally (l.Integer xs) = any_none_map (declaration_fault r) (declared_local env k.Integer (sized_as env true 31 None)) xs.items (λ x. fault_apart r a env k.Integer (sized_as env true 31 None) x.words x.name.items)

  none_in : (x : Piece) → list_any (declaration_fault r) (declared_in env x) ≡ false
  none_in (plain x) = none_by_item x
  none_in (local x) = none_locally x
  none_in (loop h x) = refl
  none_in (choice e x o) = refl
  none_in (inside x) = refl
  none_in (net n) = both_false _ _ (fault_apart r a env k.Wire (sized_as env false 0 None) None n) refl

  none_among : (ps : List Piece) → list_any (declaration_fault r) (declared_among env ps) ≡ false
  none_among [] = refl
  none_among (p ∷ ps) = any_append (declaration_fault r) (declared_in env p) (declared_among env ps) (none_in p) (none_among ps)

  none_by_ports : (ports : List ModulePort) → list_any (declaration_fault r) (map (declared_by_port env) ports) ≡ false
  none_by_ports ports = any_none_map (declaration_fault r) (declared_by_port env) ports (λ p. fault_apart r a env p.kind (declared_by_port env p).size None p.name)

-- ---- names that get signals

pub declares_ports_none : (s : Scope) (names : Bindings) (plan : Numbering) → Bound names (constant_names s.constants) → length plan.signals.items ≤ 65536 → DeclaresPorts s names plan plan []
declares_ports_none s names plan h room = record { keeps = keeps_none s names plan h room; sized = λ r. refl }

pub declares_none : (s : Scope) (to : Declaring) (plan start : Numbering) → DeclaresPorts s to.names plan start (map (declared_by_port s.known) s.ports) → Counts (joined_names s) to.joined → Declares s to plan start []
declares_none s to plan start h k = record {
  keeps = subst (Keeps s to.names plan start) (sym (append-nil (map (declared_by_port s.known) s.ports))) h.keeps;
  counts = k;
  sized = λ r. refl;
}

pub declares_all : (s : Scope) (to : Declaring) (names : Bindings) (middle plan start : Numbering) → DeclaresPorts s names middle start (map (declared_by_port s.known) s.ports) → Declares s to plan start (declared_among s.known s.pieces) → DeclaresAll s to.names plan start
declares_all s to names middle plan start h k = record {
  keeps = k.keeps;
  sized = λ r. any_append (declaration_fault r) (map (declared_by_port s.known) s.ports) (declared_among s.known s.pieces) (h.sized r) (k.sized r);
}

module _ (s : Scope) (start : Numbering) (e : ElabFault) where
  -- a parameter's name that is declared twice
  pub constants_told : (at : Path) (cs : Bindings) → at ≡ s.path → cs ≡ constant_names s.constants → IsReported (BoundNot at [] cs) e → IsReported (DeclaresAllNot s start) e
  constants_told at cs a q h = told_by (BoundNot at [] cs) (DeclaresAllNot s start) e by h
    where
      by : (r : Reason) (p : Path) → BoundNot at [] cs r p → DeclaresAllNot s start r p
      by DeclaredTwice p h = bound_twice s at p [] cs (numbered_names s.base (declarations_of s) ++ other_names s) a (ap (λ z. keys (z ++ (numbered_names s.base (declarations_of s) ++ other_names s))) q ∙ ap keys (sym (bindings_whole s))) h
      by NoModule p h = absurd h
      by Inside p h = absurd h
      by PortMismatch p h = absurd h
      by ParameterMismatch p h = absurd h
      by DrivenTwice p h = absurd h
      by Limit p h = absurd h
      by (Width w) p h = absurd h
      by Endless p h = absurd h
      by Unnamed p h = absurd h
      by Timescales p h = absurd h
      by (Format wrong) p h = absurd h

  -- a port's name that can't be declared
  pub ports_told : IsReported (DeclaresPortsNot s start (map (declared_by_port s.known) s.ports)) e → IsReported (DeclaresAllNot s start) e
  ports_told h = told_by (DeclaresPortsNot s start ds) (DeclaresAllNot s start) e by h
    where
      ds : List DeclaredName
      ds = map (declared_by_port s.known) s.ports

      more : List DeclaredName
      more = not_joined (joined_names s) (declared_among s.known s.pieces)

      none : (r : Reason) → Apart r → list_any (declaration_fault r) ds ≡ true → ⊥
      none r a h = true≢false (sym h ∙ none_by_ports r a s.known s.ports)

      by : (r : Reason) (p : Path) → DeclaresPortsNot s start ds r p → DeclaresAllNot s start r p
      by DeclaredTwice p (inl h) = kept_twice s start p ds more refl h
      by DeclaredTwice p (inr h) = absurd (none DeclaredTwice tt h.0)
      by Limit p (inl h) = inl (omega (arith, h.0, length-append ds more), h.1)
      by Limit p (inr h) = inr (any_left (declaration_fault Limit) ds (declared_among s.known s.pieces) h.0, h.1)
      by (Width w) p (inl h) = absurd h
      by (Width w) p (inr h) = (any_left (declaration_fault (Width w)) ds (declared_among s.known s.pieces) h.0, h.1)
      by NoModule p (inl h) = absurd h
      by NoModule p (inr h) = none NoModule tt h.0
      by Inside p (inl h) = absurd h
      by Inside p (inr h) = none Inside tt h.0
      by PortMismatch p (inl h) = absurd h
      by PortMismatch p (inr h) = none PortMismatch tt h.0
      by ParameterMismatch p (inl h) = absurd h
      by ParameterMismatch p (inr h) = none ParameterMismatch tt h.0
      by DrivenTwice p (inl h) = absurd h
      by DrivenTwice p (inr h) = none DrivenTwice tt h.0
      by Endless p (inl h) = absurd h
      by Endless p (inr h) = none Endless tt h.0
      by Unnamed p (inl h) = absurd h
      by Unnamed p (inr h) = none Unnamed tt h.0
      by Timescales p (inl h) = absurd h
      by Timescales p (inr h) = none Timescales tt h.0
      by (Format wrong) p (inl h) = absurd h
      by (Format wrong) p (inr h) = none (Format wrong) tt h.0

  -- a name of a piece that can't be declared
  pub pieces_told : IsReported (DeclaresNot s start (declared_among s.known s.pieces)) e → IsReported (DeclaresAllNot s start) e
  pieces_told h = told_by (DeclaresNot s start ds) (DeclaresAllNot s start) e by h
    where
      ports : List DeclaredName
      ports = map (declared_by_port s.known) s.ports

      ds : List DeclaredName
      ds = declared_among s.known s.pieces

      none : (r : Reason) → Apart r → list_any (declaration_fault r) ds ≡ true → ⊥
      none r a h = true≢false (sym h ∙ none_among r a s.known s.pieces)

      by : (r : Reason) (p : Path) → DeclaresNot s start ds r p → DeclaresAllNot s start r p
      by DeclaredTwice p (inl h) = kept_twice s start p (declarations_of s) [] (append-nil (declarations_of s)) h
      by DeclaredTwice p (inr h) = absurd (none DeclaredTwice tt h.0)
      by Limit p (inl h) = inl h
      by Limit p (inr h) = inr (any_right (declaration_fault Limit) ports ds h.0, h.1)
      by (Width w) p (inl h) = absurd h
      by (Width w) p (inr h) = (any_right (declaration_fault (Width w)) ports ds h.0, h.1)
      by NoModule p (inl h) = absurd h
      by NoModule p (inr h) = none NoModule tt h.0
      by Inside p (inl h) = absurd h
      by Inside p (inr h) = none Inside tt h.0
      by PortMismatch p (inl h) = absurd h
      by PortMismatch p (inr h) = none PortMismatch tt h.0
      by ParameterMismatch p (inl h) = absurd h
      by ParameterMismatch p (inr h) = none ParameterMismatch tt h.0
      by DrivenTwice p (inl h) = absurd h
      by DrivenTwice p (inr h) = none DrivenTwice tt h.0
      by Endless p (inl h) = absurd h
      by Endless p (inr h) = none Endless tt h.0
      by Unnamed p (inl h) = absurd h
      by Unnamed p (inr h) = none Unnamed tt h.0
      by Timescales p (inl h) = absurd h
      by Timescales p (inr h) = none Timescales tt h.0
      by (Format wrong) p (inl h) = absurd h
      by (Format wrong) p (inr h) = none (Format wrong) tt h.0

-- ---- the names of a scope, all of them

-- constants and signals
abbrev pub front_names : Scope → ℕ → Bindings
front_names s base = constant_names s.constants ++ numbered_names base (declarations_of s)

module _ (s : Scope) (base : ℕ) (same : base ≡ s.base) (gs os : Bindings) (g : gs ≡ bound_to b.Genvar (flat_map genvars_in s.pieces)) (o : os ≡ bound_to b.Other (inner_names_among s.pieces)) where
  pub all_bindings : (front_names s base ++ gs) ++ os ≡ bindings_of s
  all_bindings =
      ap (λ n. (front_names s n ++ gs) ++ os) same ∙ ap (λ z. (front_names s s.base ++ z) ++ os) g
      ∙ ap (λ z. (front_names s s.base ++ bound_to b.Genvar (flat_map genvars_in s.pieces)) ++ z) o

  module _ (e : ElabFault) (at : Path) (a : at ≡ s.path) where
    pub genvars_told : IsReported (BoundNot at [] (front_names s base ++ gs)) e → IsReported (BindsNot s) e
    genvars_told h = told_by (BoundNot at [] (front_names s base ++ gs)) (BindsNot s) e by h
      where
        by : (r : Reason) (p : Path) → BoundNot at [] (front_names s base ++ gs) r p → BindsNot s r p
        by DeclaredTwice p h = bound_twice s at p [] (front_names s base ++ gs) os a (ap keys all_bindings) h
        by NoModule p h = absurd h
        by Inside p h = absurd h
        by PortMismatch p h = absurd h
        by ParameterMismatch p h = absurd h
        by DrivenTwice p h = absurd h
        by Limit p h = absurd h
        by (Width w) p h = absurd h
        by Endless p h = absurd h
        by Unnamed p h = absurd h
        by Timescales p h = absurd h
        by (Format wrong) p h = absurd h

    pub others_told : IsReported (BoundNot at [] ((front_names s base ++ gs) ++ os)) e → IsReported (BindsNot s) e
    others_told h = told_by (BoundNot at [] ((front_names s base ++ gs) ++ os)) (BindsNot s) e by h
      where
        by : (r : Reason) (p : Path) → BoundNot at [] ((front_names s base ++ gs) ++ os) r p → BindsNot s r p
        by DeclaredTwice p h = bound_twice s at p [] ((front_names s base ++ gs) ++ os) [] a (ap keys (append-nil ((front_names s base ++ gs) ++ os) ∙ all_bindings)) h
        by NoModule p h = absurd h
        by Inside p h = absurd h
        by PortMismatch p h = absurd h
        by ParameterMismatch p h = absurd h
        by DrivenTwice p h = absurd h
        by Limit p h = absurd h
        by (Width w) p h = absurd h
        by Endless p h = absurd h
        by Unnamed p h = absurd h
        by Timescales p h = absurd h
        by (Format wrong) p h = absurd h

pub declares_told : (s : Scope) (start : Numbering) (e : ElabFault) → s.base ≡ length start.signals.items → IsReported (DeclaresAllNot s start) e → IsReported (BindsNot s) e
declares_told s start e base h = told_by (DeclaresAllNot s start) (BindsNot s) e by h
  where
    by : (r : Reason) (p : Path) → DeclaresAllNot s start r p → BindsNot s r p
    by DeclaredTwice p h = h
    by Limit p (inl h) = inl (subst (λ n. 65536 < n + length (declarations_of s)) (sym base) h.0, h.1)
    by Limit p (inr h) = inr h
    by (Width w) p h = h
    by NoModule p h = absurd h
    by Inside p h = absurd h
    by PortMismatch p h = absurd h
    by ParameterMismatch p h = absurd h
    by DrivenTwice p h = absurd h
    by Endless p h = absurd h
    by Unnamed p h = absurd h
    by Timescales p h = absurd h
    by (Format wrong) p h = absurd h

-- a scope whose names are bound
pub binds : (s : Scope) (names two : Bindings) (old start new : Numbering) (title : Vec ℕ Global) (gs os : Bindings) → s.base ≡ length old.signals.items → title.items ≡ printed_part s.title →
    start.instances ≡ old.instances → start.turns ≡ old.turns → start.signals.items ≡ old.signals.items → start.outline.items ≡ old.outline.items ++ Enter s.kind title ∷ [] →
    gs ≡ bound_to b.Genvar (flat_map genvars_in s.pieces) → os ≡ bound_to b.Other (inner_names_among s.pieces) →
    DeclaresAll s two new start → Bound names ((front_names s (length start.signals.items) ++ gs) ++ os) → Binds s names old new
binds s names two old start new title gs os base t ni nt ns nl g o h k =
    let same : length start.signals.items ≡ s.base = ap length ns ∙ sym base in
    let d = h.keeps in
    record {
      bound = subst (Bound names) (all_bindings s (length start.signals.items) same gs os g o) k;
      sized = h.sized;
      shown = d.shown ∙ ap (λ z. map declared z ++ signals_of s) ns;
      room = d.room;
      lines = record {
        added = Enter s.kind title ∷ d.lines;
        outline = d.outline ∙ ap (λ z. z ++ d.lines) nl ∙ append_assoc old.outline.items (Enter s.kind title ∷ []) d.lines;
        mean = ((refl, t), subst (λ n. AllZip IsEntry d.lines (declare_from n (declarations_of s))) same d.lines_mean);
      };
      same = record { instances = d.same.instances ∙ ni; turns = d.same.turns ∙ nt };
    }

-- ---- ports that are declared once more

left_over_any : (n : List ℕ) (ns ms : List (List ℕ)) → list_any (bytes_eq n) (left_over ns ms) ≡ true → list_any (bytes_eq n) ms ≡ true
left_over_any n ns [] h = h
left_over_any n ns (m ∷ ms) h = by (list_any (bytes_eq m) ns) (left_over_any n (without_name m ns) ms) (left_over_any n ns ms) h
  where
    rest : (c : Bool) → list_any (bytes_eq n) ms ≡ true → (c || list_any (bytes_eq n) ms) ≡ true
    rest true e = refl
    rest false e = e

    head : (c : Bool) → (list_any (bytes_eq n) (left_over ns ms) ≡ true → list_any (bytes_eq n) ms ≡ true) → (c || list_any (bytes_eq n) (left_over ns ms)) ≡ true → (c || list_any (bytes_eq n) ms) ≡ true
    head true f e = refl
    head false f e = f e

    by : (c : Bool) → (list_any (bytes_eq n) (left_over (without_name m ns) ms) ≡ true → list_any (bytes_eq n) ms ≡ true) → (list_any (bytes_eq n) (left_over ns ms) ≡ true → list_any (bytes_eq n) ms ≡ true) →
        list_any (bytes_eq n) (cond c (left_over (without_name m ns) ms) (m ∷ left_over ns ms)) ≡ true → (bytes_eq n m || list_any (bytes_eq n) ms) ≡ true
    by true f g e = rest (bytes_eq n m) (f e)
    by false f g e = head (bytes_eq n m) g e

pub port_names_declared : (env : Environment) (ps : List ModulePort) → names_in (map (declared_by_port env) ps) ≡ port_names ps
port_names_declared env [] = refl
port_names_declared env (p ∷ ps) = ap (λ z. p.name ∷ z) (port_names_declared env ps)

-- a port's name is one that is bound
port_is_key : (s : Scope) (n : List ℕ) → list_any (bytes_eq n) (port_names s.ports) ≡ true → list_any (bytes_eq n) (keys (bindings_of s)) ≡ true
port_is_key s n h =
    let ports = map (declared_by_port s.known) s.ports in
    let more = not_joined (joined_names s) (declared_among s.known s.pieces) in
    let one : list_any (bytes_eq n) (names_in ports) ≡ true = ap (list_any (bytes_eq n)) (port_names_declared s.known s.ports) ∙ h in
    let two : list_any (bytes_eq n) (names_in (declarations_of s)) ≡ true = ap (list_any (bytes_eq n)) (names_append ports more) ∙ any_left (bytes_eq n) (names_in ports) (names_in more) one in
    ap (list_any (bytes_eq n)) (bindings_keys s) ∙ any_right (bytes_eq n) (keys (constant_names s.constants)) _ (any_left (bytes_eq n) (names_in (declarations_of s)) (keys (other_names s)) two)

again_repeated : (s : Scope) (n : List ℕ) → has_stray_port s.ports s.pieces ≡ false → list_any (bytes_eq n) (ports_again s.ports s.pieces) ≡ true → Repeated (all_names_of s) n
again_repeated s n stray h =
    let again = ports_again s.ports s.pieces in
    let among = place_of_any (port_names_among s.pieces) n (left_over_any n _ (port_names_among s.pieces) h) in
    let port : list_any (bytes_eq n) (port_names s.ports) ≡ true = not_false _ (any_false_at (λ (m : List ℕ). not (list_any (bytes_eq m) (port_names s.ports))) (port_names_among s.pieces) among.0 n stray among.1) in
    let one = place_of_any (keys (bindings_of s)) n (port_is_key s n port) in
    let other = place_of_any again n h in
    record {
      first = one.0;
      second = length (keys (bindings_of s)) + other.0;
      before = (let small = slice_within (keys (bindings_of s)) one.0 n one.1 in omega (arith, small));
      one = slice_front (keys (bindings_of s)) again one.0 n one.1;
      other = slice_back (keys (bindings_of s)) again other.0 ∙ other.1;
    }
  where
    slice_within : (xs : List (List ℕ)) (k : ℕ) (x : List ℕ) → slice_get xs k ≡ Some x → k < length xs
    slice_within [] k x e = absurd (none-some x e)
    slice_within (y ∷ ys) zero x e = omega arith
    slice_within (y ∷ ys) (suc k) x e = let rest = slice_within ys k x e in omega (arith, rest)

pub again_told : (s : Scope) (at : Path) (e : ElabFault) → at ≡ s.path → has_stray_port s.ports s.pieces ≡ false → IsReported (IsAgainNot at s.ports s.pieces) e → IsReported (HoldsOwn s) e
again_told s at e a stray h = told_by (IsAgainNot at s.ports s.pieces) (HoldsOwn s) e by h
  where
    by : (r : Reason) (p : Path) → IsAgainNot at s.ports s.pieces r p → HoldsOwn s r p
    by DeclaredTwice p h = inl (record { name = h.0; repeated = again_repeated s h.0 stray h.2; path = h.1 ∙ ap (λ z. z ++ plainly h.0 ∷ []) a })
    by NoModule p h = absurd h
    by Inside p h = absurd h
    by PortMismatch p h = absurd h
    by ParameterMismatch p h = absurd h
    by DrivenTwice p h = absurd h
    by Limit p h = absurd h
    by (Width w) p h = absurd h
    by Endless p h = absurd h
    by Unnamed p h = absurd h
    by Timescales p h = absurd h
    by (Format wrong) p h = absurd h

-- a name that can't be bound
pub binds_told : (s : Scope) (e : ElabFault) → IsReported (BindsNot s) e → IsReported (HoldsOwn s) e
binds_told s e h = told_by (BindsNot s) (HoldsOwn s) e by h
  where
    by : (r : Reason) (p : Path) → BindsNot s r p → HoldsOwn s r p
    by DeclaredTwice p h = inl (record { name = h.0; repeated = repeated_more (keys (bindings_of s)) (ports_again s.ports s.pieces) h.0 h.2; path = h.1 })
    by Limit p (inl h) = inl (inr (inr (inl h.0), h.1))
    by Limit p (inr h) = inr (inr h)
    by (Width w) p h = h
    by NoModule p h = absurd h
    by Inside p h = absurd h
    by PortMismatch p h = absurd h
    by ParameterMismatch p h = absurd h
    by DrivenTwice p h = absurd h
    by Endless p h = absurd h
    by Unnamed p h = absurd h
    by Timescales p h = absurd h
    by (Format wrong) p h = absurd h

-- how many signals there are behind a scope's own
pub binds_count : (s : Scope) (names : Bindings) (old new : Numbering) → Binds s names old new → length new.signals.items ≡ length old.signals.items + length (declarations_of s)
binds_count s names old new h =
    sym (length-map new.signals.items declared) ∙ ap length h.shown ∙ length-append (map declared old.signals.items) (signals_of s)
    ∙ ap (λ n. n + length (signals_of s)) (length-map old.signals.items declared) ∙ ap (λ n. length old.signals.items + n) (length-map (declarations_of s) (signal_of s))

-- a scope's own members, which have no fault
pub opens_own : (s : Scope) (names : Bindings) (old new : Numbering) → s.base ≡ length old.signals.items → IsFitting s → HasFittingPieces s → late_nets s ≡ [] → list_any (is_unlike s.known s.pieces) s.ports ≡ false → Binds s names old new → ports_again s.ports s.pieces ≡ [] → OpensOwn s names old new
opens_own s names old new base fits pieces nets alike h again =
    let all : keys (bindings_of s) ≡ all_names_of s = sym (append-nil (keys (bindings_of s))) ∙ ap (λ z. keys (bindings_of s) ++ z) (sym again) in
    record {
      sound = λ turns. record {
        distinct = subst (IsDistinct bytes_eq) all h.bound.distinct;
        again = again;
        sized = h.sized;
        ports = fits.ports;
        stray = pieces.stray;
        parameters = pieces.parameters;
        alike = alike;
        shallow = fits.shallow;
        few = fits.few;
        turns = turns;
        nets = nets;
        room = omega (arith, binds_count s names old new h, h.room, base);
      };
      binds = h;
    }

pub opens_names : (s : Scope) (names : Bindings) (old new : Numbering) → s.base ≡ length old.signals.items → IsFitting s → HasFittingPieces s → late_nets s ≡ [] → OpensNames s names old new → OpensOwn s names old new
opens_names s names old new base fits pieces nets h = opens_own s names old new base fits pieces nets h.alike h.binds h.again

-- ---- turns

-- the turns that are counted of a scope
pub turns_counted : (s : Scope) (env : Environment) (ps : List Piece) (before n : ℕ) → env ≡ environment s → ps ≡ s.pieces → before ≡ s.turns → CountsTurns before (turns_among env ps) (Some n) → HasFewTurns s n
turns_counted s env ps before n e p b h = record { count = h.0 ∙ ap₂ (λ m k. m + k) b (ap₂ turns_among e p); few = h.1 }

pub turns_told : (s : Scope) (env : Environment) (ps : List Piece) (before : ℕ) (e : ElabFault) → env ≡ environment s → ps ≡ s.pieces → before ≡ s.turns → CountsTurns before (turns_among env ps) None → IsFaultAt Limit s.path e → IsReported (HoldsOwn s) e
turns_told s env ps before e i p b h f = told_at (HoldsOwn s) Limit s.path e (inr (inl (subst (λ n. 65536 < n) (ap₂ (λ m k. m + k) b (ap₂ turns_among i p)) h, refl))) f

-- ---- nets

-- a net that is declared behind its use
pub nets_told : (s : Scope) (e : ElabFault) → IsReported (IsLate (late_nets s)) e → IsReported (HoldsOwn s) e
nets_told s e h = told_by (IsLate (late_nets s)) (HoldsOwn s) e by h
  where
    by : (r : Reason) (p : Path) → IsLate (late_nets s) r p → HoldsOwn s r p
    by DeclaredTwice p h = inr (inr (record { place = h.0; stands = h.1 }))
    by NoModule p h = absurd h
    by Inside p h = absurd h
    by PortMismatch p h = absurd h
    by ParameterMismatch p h = absurd h
    by DrivenTwice p h = absurd h
    by Limit p h = absurd h
    by (Width w) p h = absurd h
    by Endless p h = absurd h
    by Unnamed p h = absurd h
    by Timescales p h = absurd h
    by (Format wrong) p h = absurd h

-- ---- ports, one after another

joined_append : (test : PortSource → Bool) (xs ys : List ModulePort) → names_where test (xs ++ ys) ≡ names_where test xs ++ names_where test ys
joined_append test [] ys = refl
joined_append test (x ∷ xs) ys = by (test x.source) (joined_append test xs ys)
  where
    by : (c : Bool) → names_where test (xs ++ ys) ≡ names_where test xs ++ names_where test ys → cond c (x.name ∷ names_where test (xs ++ ys)) (names_where test (xs ++ ys)) ≡ cond c (x.name ∷ names_where test xs) (names_where test xs) ++ names_where test ys
    by true h = ap (λ z. x.name ∷ z) h
    by false h = h

read_more : (xs : List FoundPort) (i : ℕ) (x : FoundPort) → i < length xs → x ≡ get_or xs i x → map read_port (take (i + 1) xs) ≡ map read_port (take i xs) ++ read_port x ∷ []
read_more xs i x h e = ap (map read_port) (take_push xs i x h e) ∙ map-append read_port (take i xs) (x ∷ [])

pub joined_more : (xs : List FoundPort) (i : ℕ) (x : FoundPort) (old new : List (List ℕ)) → i < length xs → x ≡ get_or xs i x → old ≡ names_where is_joined (map read_port (take i xs)) → new ≡ old ++ names_where is_joined (read_port x ∷ []) → new ≡ names_where is_joined (map read_port (take (i + 1) xs))
joined_more xs i x old new h e o n =
    n ∙ ap (λ z. z ++ names_where is_joined (read_port x ∷ [])) o ∙ sym (joined_append is_joined (map read_port (take i xs)) (read_port x ∷ [])) ∙ ap (names_where is_joined) (sym (read_more xs i x h e))

module _ (env : Environment) (ps : List Piece) (ports : List FoundPort) where
  pub alike_more : (i : ℕ) (x : FoundPort) → i < length ports → x ≡ get_or ports i x → is_unlike env ps (read_port x) ≡ false → list_any (is_unlike env ps) (map read_port (take i ports)) ≡ false → list_any (is_unlike env ps) (map read_port (take (i + 1) ports)) ≡ false
  alike_more i x h e u k = ap (list_any (is_unlike env ps)) (read_more ports i x h e) ∙ any_append (is_unlike env ps) (map read_port (take i ports)) (read_port x ∷ []) k (one u)
    where
      one : is_unlike env ps (read_port x) ≡ false → list_any (is_unlike env ps) (read_port x ∷ []) ≡ false
      one u = by (is_unlike env ps (read_port x)) u
        where
          by : (c : Bool) → c ≡ false → (c || false) ≡ false
          by true e = e
          by false e = refl

  module _ (s : Scope) (known : env ≡ s.known) (same : map read_port ports ≡ s.ports) (pieces : ps ≡ s.pieces) where
    unlike_same : (p : ModulePort) → is_unlike env ps p ≡ is_unlike s.known s.pieces p
    unlike_same p = ap (λ z. is_unlike z ps p) known ∙ ap (λ z. is_unlike s.known z p) pieces

    pub alike_all : (i : ℕ) → length ports ≤ i → list_any (is_unlike env ps) (map read_port (take i ports)) ≡ false → AreAlike s
    alike_all i h k =
        ap (λ z. list_any (is_unlike z s.pieces) s.ports) (sym known) ∙ ap (λ z. list_any (is_unlike env z) s.ports) (sym pieces) ∙ ap (list_any (is_unlike env ps)) (sym same)
        ∙ ap (λ z. list_any (is_unlike env ps) (map read_port z)) (sym (take_all i ports h)) ∙ k

    pub unlike_told : (at : Path) (i : ℕ) (x : FoundPort) (e : ElabFault) → at ≡ s.path → i < length ports → x ≡ get_or ports i x → is_unlike env ps (read_port x) ≡ true → IsFaultAt DeclaredTwice (at ++ plainly x.name.now ∷ []) e → IsReported (HoldsOwn s) e
    unlike_told at i x e path h g u f =
        let stands : slice_get s.ports i ≡ Some (read_port x) = ap (λ z. slice_get z i) (sym same) ∙ slice_get-map read_port ports i ∙ ap (option_map read_port) (slice_get-get_or ports i x h ∙ ap Some (sym g)) in
        told_at (HoldsOwn s) DeclaredTwice (named s x.name.now) e (inr (inl (record { place = i; port = read_port x; stands = stands; unlike = sym (unlike_same (read_port x)) ∙ u; path = refl }))) (subst (λ z. IsFaultAt DeclaredTwice (z ++ plainly x.name.now ∷ []) e) path f)
