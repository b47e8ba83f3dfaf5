-- The names of a design are printed forms of names that pass, where those of its modules do.
use Rattle.std.proofs.Common.{◌≡◌, ℕ, zero, suc, Bool, true, false, ◌||◌, cond, List, [], ◌∷◌, ◌++◌, Option, Some, None, map, refl, ap, sym, subst, ◌∙◌}
use Rattle.std.specs.Prelude.{is_none}
use Rattle.std.specs.List.{list_all, list_any, flat_map, AllZip, AllByRecursion}
use Rattle.std.specs.Str.{bytes_eq}
use Rattle.std.proofs.lemmas.Bool.{and_parts, and_from, cond_both}
use Rattle.std.proofs.lemmas.List.{map-append}
use Rattle.std.proofs.lemmas.List.Elements.{All-from_recursion}
use Rattle.std.specs.declared.vec.Vec.{Vec}
use Rattle.std.specs.declared.alloc.Global.{Global}
use Rattle.vs_syntax.specs.declared.tree.Declarator.{Declarator}
use Rattle.vs_syntax.specs.declared.tree.Expr.{Expr}
use Rattle.vs_syntax.specs.declared.tree.Item.{Item}
use Rattle.vs_syntax.specs.declared.tree.Item.TheVariants as i
use Rattle.vs_syntax.specs.declared.tree.Local.{Local}
use Rattle.vs_syntax.specs.declared.tree.LocalDeclaration.{LocalDeclaration}
use Rattle.vs_syntax.specs.declared.tree.LocalDeclaration.TheVariants as l
use Rattle.vs_syntax.specs.declared.tree.Module.{Module}
use Rattle.vs_syntax.specs.declared.tree.Port.{Port}
use Rattle.vs_syntax.specs.declared.tree.PortForm.{PortForm}
use Rattle.vs_syntax.specs.SourceNames.{declarator_names, header_parameter_names, port_names as names_of_ports, local_names, item_names, module_item_names, module_names, declared_names as all_declared_names}
use Rattle.vs_scopes.specs.Pieces.{Piece, plain, loop, choice, local, inside, net, pieces_of, block_pieces}
use Rattle.vs_scopes.specs.Uses.{names_used_by, names_used_in, names_used_among}
use Rattle.vs_design.specs.declared.signal.SignalKind.{SignalKind}
use Rattle.vs_design.specs.declared.design.Entry.{Entry}
use Rattle.vs_design.specs.declared.design.Entry.TheVariants.{Enter, Declare, Leave}
use Rattle.vs_design.specs.declared.design.ScopeKind.{ScopeKind}
use Rattle.vs_design.specs.declared.signal.Signal.{Signal}
use Rattle.vs_design.specs.Parts.{Parts}
use Rattle.vs_elab_statements.specs.vs_widths.specs.declared.constants.Const.{Const}
use Rattle.vs_elab_statements.specs.vs_widths.specs.Environment.{Environment}
use Rattle.vs_elaborate.specs.vs_scopes.specs.Printed.{PathName, plainly}
use Rattle.vs_elaborate.specs.vs_scopes.specs.Parameters.{said, any_fault}
use Rattle.vs_elaborate.specs.vs_scopes.specs.Ports.{ModulePort, KindSaid, port_as, ports_from, port_said, kind_said, joined_port, port_of_items, port_by_items, is_name_list, ports_of_header, ports_of, port_names, names_where, is_joined, without_name}
use Rattle.vs_elaborate.specs.vs_scopes.specs.Ranges.{Sized}
use Rattle.vs_elaborate.specs.vs_scopes.specs.Declarations.{Use, DeclaredName, declared_by_port, declared_as, declared_by_item, declared_local, declared_locally, declared_in, not_joined, declared_among, names_in}
use Rattle.vs_elaborate.specs.vs_scopes.specs.Nets.{permits_nets, nothing_seen}
use Rattle.vs_elaborate.specs.vs_scopes.specs.Generate.{Inner, instance, generated, named}
use Rattle.vs_elaborate.specs.vs_scopes.specs.Scopes.{Scope, nowhere, declarations_of, names_of, environment, text_names, inner_of, sight_in, module_named, Before, before_following, text_of, module_pieces, block_text, top_scope, instance_scope, block_scope, is_inside, has_no_values, block_fault, opened_instance, opened_block, opened, of_opened, below, within_first, scopes_within, deepest, opened_top, scopes_of}
use Rattle.vs_elab_statements.specs.vs_elab_signals.specs.Outlines.{Declared, declared, signal_of, signals_of, Line, enter, declare, leave, declare_from, outline_around, outline_below, outline_within, outline_of, IsEntry}
use Rattle.vs_design.specs.declared.timescale.Timescale.{Timescale}
use Rattle.vs_elaborate.specs.DesignOf.{Represents}
use Rattle.vs_elaborate.specs.vs_elab_hierarchy.specs.Laws.{FitsTurn}
use Rattle.vs_elaborate.specs.Named.{IsTurnOf, HasName, HasPart, IsNamedEntry, HasNames, HasGoodModules, NumberedPass}
use Rattle.vs_elaborate.proofs.GoodTextLemmas.{both, halves, each_append}
use Rattle.vs_elaborate.proofs.GoodNameLemmas.{all_module_item_names, all_join}
use Rattle.vs_elaborate.proofs.GoodPieceLemmas.{AreGoodPieces, IsGoodPiece, pieces_good, block_pieces_good, nets_good, IsGoodInner, AreGoodInner, inner_good}
use Rattle.vs_elab_hierarchy.proofs.OwnLemmas.{port_names_declared as names_of_declared}

module _ (good : List ℕ → Bool) (numbered : NumberedPass good) where
  -- names that pass
  abbrev AreGood : List (List ℕ) → Type 0
  AreGood ns = list_all good ns ≡ true

  -- ---- names that pieces declare

  names_of_declarators : (env : Environment) (k : SignalKind) (z : Sized) (ds : List Declarator) → names_in (declared_as env k z ds) ≡ declarator_names ds
  names_of_declarators env k z [] = refl
  names_of_declarators env k z (d ∷ ds) = ap (λ ns. d.name.items ∷ ns) (names_of_declarators env k z ds)

  declarators_good : (env : Environment) (k : SignalKind) (z : Sized) (ds : List Declarator) → AreGood (declarator_names ds) → AreGood (names_in (declared_as env k z ds))
  declarators_good env k z ds h = ap (list_all good) (names_of_declarators env k z ds) ∙ h

  -- the names of signals that an item declares
  item_good : (env : Environment) (x : Item) → AreGood (item_names x) → AreGood (names_in (declared_by_item env x))
  item_good env (i.Port f ns) h = refl
  item_good env (i.Genvar ns) h = refl
  item_good env (i.Wire f ds) h = declarators_good env _ _ ds.items h
  item_good env (i.Reg f ds) h = declarators_good env _ _ ds.items h
  item_good env (i.Integer ds) h = declarators_good env _ _ ds.items h
  item_good env (i.Parameter f xs) h = refl
  item_good env (i.Localparam f xs) h = refl
  item_good env (i.Instances n o xs) h = refl
  item_good env (i.Assign xs) h = refl
  item_good env (i.Initial x) h = refl
  item_good env (i.Always x) h = refl

  names_of_locals : (env : Environment) (k : SignalKind) (z : Sized) (xs : List Local) → names_in (map (declared_local env k z) xs) ≡ map (λ (x : Local). x.name.items) xs
  names_of_locals env k z [] = refl
  names_of_locals env k z (x ∷ xs) = ap (λ ns. x.name.items ∷ ns) (names_of_locals env k z xs)

  local_good : (env : Environment) (x : LocalDeclaration) → AreGood (local_names x) → AreGood (names_in (declared_locally env x))
  local_good env (l.Reg f xs) h = ap (list_all good) (names_of_locals env _ _ xs.items) ∙ h
  local_good env (l.Integer xs) h = ap (list_all good) (names_of_locals env _ _ xs.items) ∙ h

  piece_good : (env : Environment) (p : Piece) → IsGoodPiece good p → AreGood (names_in (declared_in env p))
  piece_good env (plain x) h = item_good env x (halves good (item_names x) (names_used_by x) h).0
  piece_good env (loop g x) h = refl
  piece_good env (choice e x o) h = refl
  piece_good env (local x) h = local_good env x h
  piece_good env (inside b) h = refl
  piece_good env (net n) h = and_from (good n) true h refl

  among_good : (env : Environment) (ps : List Piece) → AreGoodPieces good ps → AreGood (names_in (declared_among env ps))
  among_good env [] h = refl
  among_good env (p ∷ ps) h =
      ap (list_all good) (map-append (λ (d : DeclaredName). d.name) (declared_in env p) (declared_among env ps))
      ∙ both good (names_in (declared_in env p)) (names_in (declared_among env ps)) (piece_good env p h.0) (among_good env ps h.1)

  -- some of the declared names
  left_good : (ns : List (List ℕ)) (ds : List DeclaredName) → AreGood (names_in ds) → AreGood (names_in (not_joined ns ds))
  left_good ns [] h = refl
  left_good ns (d ∷ ds) h =
      let parts = and_parts (good d.name) (list_all good (names_in ds)) h in
      cond_both (list_any (bytes_eq d.name) ns) (not_joined (without_name d.name ns) ds) (d ∷ not_joined ns ds) (λ z. AreGood (names_in z)) (λ e. left_good (without_name d.name ns) ds parts.1)
      (λ e. and_from (good d.name) (list_all good (names_in (not_joined ns ds))) parts.0 (left_good ns ds parts.1))

  -- ---- the names of ports

  port_named : (f : Option PortForm) (n : List ℕ) (v : Option Expr) → (port_as f n v).name ≡ n
  port_named None n v = refl
  port_named (Some f) n v = refl

  names_from : (before : Option PortForm) (ps : List Port) → port_names (ports_from before ps) ≡ map (λ (p : Port). p.name.items) ps
  names_from before [] = refl
  names_from before (p ∷ ps) =
      ap (λ n. n ∷ port_names (ports_from (said before p.form) ps)) (port_named (said before p.form) p.name.items p.value) ∙ ap (λ ns. p.name.items ∷ ns) (names_from (said before p.form) ps)

  joined_named : (f : PortForm) (n : List ℕ) (x : Option KindSaid) → (joined_port f n x).name ≡ n
  joined_named f n None = refl
  joined_named f n (Some x) = refl

  item_port_named : (o : Option PortForm) (n : List ℕ) (x : Option KindSaid) → (port_of_items o n x).name ≡ n
  item_port_named None n x = refl
  item_port_named (Some f) n x = cond_both (is_none f.kind) (joined_port f n x) _ (λ (z : ModulePort). z.name ≡ n) (λ e. joined_named f n x) (λ e. refl)

  names_by_items : (xs : List Piece) (ps : List Port) → port_names (map (port_by_items xs) ps) ≡ map (λ (p : Port). p.name.items) ps
  names_by_items xs [] = refl
  names_by_items xs (p ∷ ps) =
      ap (λ n. n ∷ port_names (map (port_by_items xs) ps)) (item_port_named (port_said xs p.name.items) p.name.items (kind_said xs p.name.items)) ∙ ap (λ ns. p.name.items ∷ ns) (names_by_items xs ps)

  names_listed : (xs : List Piece) (o : Option (Vec Port Global)) → port_names (ports_of_header xs o) ≡ names_of_ports o
  names_listed xs None = refl
  names_listed xs (Some ps) =
      cond_both (is_name_list ps.items) (map (port_by_items xs) ps.items) (ports_from None ps.items) (λ z. port_names z ≡ map (λ (p : Port). p.name.items) ps.items) (λ e. names_by_items xs ps.items)
      (λ e. names_from None ps.items)

  -- ---- a module

  -- a module whose own name and declared names pass
  record IsGoodModule (m : Module) : Type 0 where
    own : good m.name.items ≡ true
    ports : AreGood (names_of_ports m.ports)
    items : AreGood (flat_map all_module_item_names m.items.items)

  -- such a module, where there is one
  abbrev HasGoodModule : Option Module → Type 0
  HasGoodModule None = Unit {0}
  HasGoodModule (Some m) = IsGoodModule m

  module_good : (m : Module) → AreGood (module_names m) → AreGood (flat_map names_used_in m.items.items) → IsGoodModule m
  module_good m h k =
      let header = header_parameter_names m.parameters.items in
      let ports = names_of_ports m.ports in
      let items = flat_map module_item_names m.items.items in
      let first = and_parts (good m.name.items) (list_all good (header ++ (ports ++ items))) h in
      let second = halves good header (ports ++ items) first.1 in
      let third = halves good ports items second.1 in
      record { own = first.0; ports = third.0; items = all_join good m.items.items third.1 k }

  found_good : (ms : List Module) (n : List ℕ) → AreGood (all_declared_names ms) → AreGood (names_used_among ms) → HasGoodModule (module_named ms n)
  found_good [] n h k = tt
  found_good (x ∷ xs) n h k =
      let parts = halves good (module_names x) (all_declared_names xs) h in
      let used = halves good (flat_map names_used_in x.items.items) (names_used_among xs) k in
      cond_both (bytes_eq n x.name.items) (Some x) (module_named xs n) HasGoodModule (λ e. module_good x parts.0 used.0) (λ e. found_good xs n parts.1 used.1)

  -- ---- a scope

  -- a scope whose own name and the names that are declared in it pass
  record IsGoodScope (s : Scope) : Type 0 where
    own : good s.title.name ≡ true
    turn : IsTurnOf s.kind s.title.turn
    ports : AreGood (port_names s.ports)
    pieces : AreGoodPieces good s.pieces

  -- such a scope, where there is one
  abbrev HasGoodScope : Option Scope → Type 0
  HasGoodScope None = Unit {0}
  HasGoodScope (Some s) = IsGoodScope s

  either_good : (c : Bool) (s : Scope) → IsGoodScope s → HasGoodScope (cond c None (Some s))
  either_good true s h = tt
  either_good false s h = h

  ports_good : (m : Module) → IsGoodModule m → AreGood (port_names (ports_of m))
  ports_good m h = ap (list_all good) (names_listed (pieces_of m.items.items) m.ports) ∙ h.ports

  -- what stands in such a module, with its implicit nets
  with_nets_of : (nets : Bool) (m : Module) → IsGoodModule m → AreGoodPieces good (module_pieces nets m)
  with_nets_of nets m h = nets_good good nets (text_of m) nothing_seen (pieces_of m.items.items) (pieces_good good m.items.items h.items)

  -- the names of the signals of a scope
  names_good : (s : Scope) → IsGoodScope s → AreGood (names_of s)
  names_good s h =
      let ports = map (declared_by_port s.known) s.ports in
      let others = not_joined (names_where is_joined s.ports) (declared_among s.known s.pieces) in
      ap (list_all good) (map-append (λ (d : DeclaredName). d.name) ports others)
      ∙ both good (names_in ports) (names_in others) (ap (list_all good) (names_of_declared s.known s.ports) ∙ h.ports)
      (left_good (names_where is_joined s.ports) (declared_among s.known s.pieces) (among_good s.known s.pieces h.pieces))

  inside_good : (s : Scope) → IsGoodScope s → AreGoodInner good (inner_of s)
  inside_good s h = inner_good good numbered 0 (environment s) (text_names s) 1 s.pieces h.pieces

  -- a line of an outline that opens a scope under a name that passes
  abbrev IsGoodLine : Line → Type 0
  IsGoodLine (enter k n) = HasPart good k n
  IsGoodLine (declare p) = Unit {0}
  IsGoodLine leave = Unit {0}

  abbrev AreGoodLines : List Line → Type 0
  AreGoodLines = AllByRecursion IsGoodLine

  declares_good : {A : Type 0} (base : ℕ) (xs : List A) → AreGoodLines (declare_from base xs)
  declares_good base [] = tt
  declares_good base (x ∷ xs) = (tt, declares_good (suc base) xs)

  around_good : (s : Scope) (ls : List Line) → IsGoodScope s → AreGoodLines ls → AreGoodLines (outline_around s ls)
  around_good s ls h k =
      let own = declare_from s.base (declarations_of s) in
      let inside : AreGoodLines ((own ++ ls) ++ leave ∷ []) =
      each_append IsGoodLine (own ++ ls) (leave ∷ []) (each_append IsGoodLine own ls (declares_good s.base (declarations_of s)) k) (tt, tt) in
      (record { part = s.title; passes = h.own; turn = h.turn; printed = refl }, inside)

  -- ---- the scopes that instances and blocks open

  module _ (ms : List Module) (names : AreGood (all_declared_names ms)) (used : AreGood (names_used_among ms)) where
    opened_instance_good : (nets : Bool) (s : Scope) (at : Before) (u : Use) (o : Option Module) → good u.name ≡ true → HasGoodModule o → HasGoodScope (opened_instance nets s at u o)
    opened_instance_good nets s at u None own h = tt
    opened_instance_good nets s at u (Some m) own h =
        either_good (is_inside s m || has_no_values (environment s) u.overrides m) (instance_scope nets s at u m) (record { own = own; turn = refl; ports = ports_good m h; pieces = with_nets_of nets m h })

    opened_block_good : (place : ℕ) (s : Scope) (at : Before) (n : PathName) (cs : List (List ℕ × Const)) (ps : List Piece) → good n.name ≡ true → FitsTurn n.turn → AreGoodPieces good ps →
        HasGoodScope (opened_block place s at n cs ps)
    opened_block_good place s at n cs ps own turn h =
        either_good (any_fault (block_fault s cs ps)) (block_scope place s at n cs ps) (record { own = own; turn = turn; ports = refl; pieces = nets_good good s.nets (block_text cs ps) (sight_in s place) ps h })

    opened_good : (s : Scope) (at : Before) (x : Inner) → IsGoodInner good x → HasGoodScope (opened ms s at x)
    opened_good s at (instance u) h = opened_instance_good (permits_nets ms u.of) s at u (module_named ms u.of) h (found_good ms u.of names used)
    opened_good s at (generated place n cs xs) h = opened_block_good place s at n cs (pieces_of xs) h.0 h.1 (pieces_good good xs h.2)
    opened_good s at (named x) h = opened_block_good 0 s at (plainly x.name) [] (block_pieces x) h.name tt (block_pieces_good good x h)

    module _ (f : Scope → List Scope) (inside : (t : Scope) → IsGoodScope t → AllByRecursion IsGoodScope (f t)) (s : Scope) where
      listed_scopes : (o : Option Scope) → HasGoodScope o → AllByRecursion IsGoodScope (of_opened f o)
      listed_scopes None h = tt
      listed_scopes (Some t) h = inside t h

      below_scopes : (at : Before) (xs : List Inner) → AreGoodInner good xs → AllByRecursion IsGoodScope (below ms f s at xs)
      below_scopes at [] h = tt
      below_scopes at (x ∷ xs) h =
          let inner = of_opened f (opened ms s at x) in
          each_append IsGoodScope inner (below ms f s (before_following at inner) xs) (listed_scopes (opened ms s at x) (opened_good s at x h.0)) (below_scopes (before_following at inner) xs h.1)

    within_scopes : (n : ℕ) (s : Scope) → IsGoodScope s → AllByRecursion IsGoodScope (scopes_within n ms s)
    unfolding scopes_within
    within_scopes zero s h = (h, tt)
    within_scopes (suc n) s h = (h, below_scopes (scopes_within n ms) (within_scopes n) s (within_first s) (inner_of s) (inside_good s h))

    -- ---- lines

    module _ (f : Scope → List Scope) (g : Scope → List Line) (shown : (t : Scope) → IsGoodScope t → AreGoodLines (g t)) (s : Scope) where
      listed_lines : (o : Option Scope) → HasGoodScope o → AreGoodLines (of_opened g o)
      listed_lines None h = tt
      listed_lines (Some t) h = shown t h

      below_lines : (at : Before) (xs : List Inner) → AreGoodInner good xs → AreGoodLines (outline_below ms f g s at xs)
      below_lines at [] h = tt
      below_lines at (x ∷ xs) h =
          let scope = opened ms s at x in
          each_append IsGoodLine (of_opened g scope) (outline_below ms f g s (before_following at (of_opened f scope)) xs) (listed_lines scope (opened_good s at x h.0))
          (below_lines (before_following at (of_opened f scope)) xs h.1)

    within_lines : (n : ℕ) (s : Scope) → IsGoodScope s → AreGoodLines (outline_within n ms s)
    within_lines zero s h = around_good s [] h tt
    within_lines (suc n) s h =
        around_good s (outline_below ms (scopes_within n ms) (outline_within n ms) s (within_first s) (inner_of s)) h
        (below_lines (scopes_within n ms) (outline_within n ms) (within_lines n) s (within_first s) (inner_of s) (inside_good s h))

    -- ---- from the top on

    top_good : (nets : Bool) (o : Option Module) → HasGoodModule o → HasGoodScope (opened_top nets o)
    top_good nets None h = tt
    top_good nets (Some m) h =
        either_good (has_no_values nowhere None m) (top_scope nets m)
        (record { own = h.own; turn = refl; ports = ports_good m h; pieces = with_nets_of nets m h })

    top_scopes : (n : ℕ) (o : Option Scope) → HasGoodScope o → AllByRecursion IsGoodScope (of_opened (scopes_within n ms) o)
    top_scopes n None h = tt
    top_scopes n (Some t) h = within_scopes n t h

    top_lines : (n : ℕ) (o : Option Scope) → HasGoodScope o → AreGoodLines (of_opened (outline_within n ms) o)
    top_lines n None h = tt
    top_lines n (Some t) h = within_lines n t h

  -- ---- a design

  -- what a signal shows has a name that passes, printed
  abbrev IsGoodSignal : Declared → Type 0
  IsGoodSignal x = HasName good x.name

  signals_good : (s : Scope) (ds : List DeclaredName) → AreGood (names_in ds) → AllByRecursion IsGoodSignal (map (signal_of s) ds)
  signals_good s [] h = tt
  signals_good s (d ∷ ds) h =
      let parts = and_parts (good d.name) (list_all good (names_in ds)) h in
      (record { name = d.name; passes = parts.0; printed = refl }, signals_good s ds parts.1)

  signals_of_scopes : (ss : List Scope) → AllByRecursion IsGoodScope ss → AllByRecursion IsGoodSignal (flat_map signals_of ss)
  signals_of_scopes [] h = tt
  signals_of_scopes (s ∷ ss) h =
      each_append IsGoodSignal (signals_of s) (flat_map signals_of ss) (signals_good s (declarations_of s) (names_good s h.0)) (signals_of_scopes ss h.1)

  signals_declared : (xs : List Signal) → AllByRecursion IsGoodSignal (map declared xs) → AllByRecursion (λ (x : Signal). HasName good x.name.items) xs
  signals_declared [] h = tt
  signals_declared (x ∷ xs) h = (h.0, signals_declared xs h.1)

  entry_good : (kind k : ScopeKind) (name n : List ℕ) → kind ≡ k → name ≡ n → HasPart good k n → HasPart good kind name
  entry_good kind k name n e f h = record { part = h.part; passes = h.passes; turn = subst (λ x. IsTurnOf x h.part.turn) (sym e) h.turn; printed = f ∙ h.printed }

  entries_good : (es : List Entry) (ls : List Line) → AllZip IsEntry es ls → AllByRecursion IsGoodLine ls → AllByRecursion (IsNamedEntry good) es
  entries_good [] ls h k = tt
  entries_good (e ∷ es) [] h k = absurd h
  entries_good (Enter kind name ∷ es) (enter t n ∷ ls) h k = (entry_good kind t name.items n h.0.0 h.0.1 k.0, entries_good es ls h.1 k.1)
  entries_good (Enter kind name ∷ es) (declare p ∷ ls) h k = absurd h.0
  entries_good (Enter kind name ∷ es) (leave ∷ ls) h k = absurd h.0
  entries_good (Declare j ∷ es) (enter t n ∷ ls) h k = absurd h.0
  entries_good (Declare j ∷ es) (declare p ∷ ls) h k = (tt, entries_good es ls h.1 k.1)
  entries_good (Declare j ∷ es) (leave ∷ ls) h k = absurd h.0
  entries_good (Leave ∷ es) (enter t n ∷ ls) h k = absurd h.0
  entries_good (Leave ∷ es) (declare p ∷ ls) h k = absurd h.0
  entries_good (Leave ∷ es) (leave ∷ ls) h k = (tt, entries_good es ls h.1 k.1)

  pub design_named : (ms : List Module) (top : List ℕ) (scale : Timescale) (d : Parts) → HasGoodModules good ms →
      Represents d scale (scopes_of ms top) (outline_of ms top) → HasNames good d
  design_named ms top scale d h r =
      let parts = halves good (all_declared_names ms) (names_used_among ms) h in
      let nets = permits_nets ms top in
      let opens = opened_top nets (module_named ms top) in
      let first : HasGoodScope opens = top_good ms parts.0 parts.1 nets (module_named ms top) (found_good ms top parts.0 parts.1) in
      let signals : AllByRecursion IsGoodSignal (map declared d.signals) =
      subst (AllByRecursion IsGoodSignal) (sym r.signals) (signals_of_scopes (scopes_of ms top) (top_scopes ms parts.0 parts.1 deepest opens first)) in
      record {
        signals = All-from_recursion (λ (x : Signal). HasName good x.name.items) d.signals (signals_declared d.signals signals);
        scopes = All-from_recursion (IsNamedEntry good) d.outline
            (entries_good d.outline (outline_of ms top) r.outline (top_lines ms parts.0 parts.1 deepest opens first));
      }
