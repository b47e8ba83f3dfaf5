-- A source and a top define one design.
use Rattle.std.proofs.Common.{◌≡◌, ℕ, suc, List, [], ◌∷◌, ◌++◌, Option, map, refl, ap, ap₂, sym, subst, ◌∙◌}
use Rattle.std.specs.List.{flat_map, AllZip}
use Rattle.vs_syntax.specs.declared.tree.Declarator.{Declarator}
use Rattle.vs_syntax.specs.declared.tree.Direction.{Direction}
use Rattle.vs_syntax.specs.declared.tree.Direction.TheVariants.{Input, Output}
use Rattle.vs_syntax.specs.declared.tree.Expr.{Expr}
use Rattle.vs_syntax.specs.declared.tree.Item.{Item}
use Rattle.vs_syntax.specs.declared.tree.Module.{Module}
use Rattle.vs_syntax.specs.declared.tree.Source.{Source}
use Rattle.vs_syntax.specs.Same.{SameExpr, SameStmt, Pairwise, no_pair, pair_more, SameValue, same_no_value, same_value, SameDeclarator, SameAssignment, SameItem, same_port_item, same_genvars, same_wire, same_reg, same_integer, same_parameters, same_localparams, same_instances, same_assigns, same_initial, same_always, SameModule, SameSource}
use Rattle.vs_design.specs.declared.expression.Typed.{Typed}
use Rattle.vs_design.specs.declared.statement.Target.{Target}
use Rattle.vs_design.specs.declared.statement.Statement.{Statement}
use Rattle.vs_design.specs.declared.design.Assign.{Assign}
use Rattle.vs_design.specs.declared.design.Process.{Process}
use Rattle.vs_design.specs.declared.timescale.Timescale.{Timescale}
use Rattle.vs_design.specs.declared.design.Entry.{Entry}
use Rattle.vs_design.specs.declared.design.Entry.TheVariants.{Enter, Declare, Leave}
use Rattle.vs_design.specs.Parts.{Parts}
use Rattle.vs_design.specs.WellFormed.{numbers}
use Rattle.vs_elab_statements.specs.vs_widths.specs.Environment.{Environment}
use Rattle.vs_elab_statements.specs.vs_widths.specs.Expressions.{meant, name_meant}
use Rattle.vs_elab_statements.specs.vs_widths.specs.Lefts.{name_aimed, expr_aimed}
use Rattle.vs_elab_statements.specs.vs_widths.specs.declared.kinds.AssignmentKind.TheVariants.{Procedural, Continuous}
use Rattle.vs_scopes.specs.Pieces.{Piece}
use Rattle.vs_elaborate.specs.vs_scopes.specs.Printed.{Path, port_assign_name, part_name}
use Rattle.vs_elaborate.specs.vs_scopes.specs.Ports.{ModulePort}
use Rattle.vs_elaborate.specs.vs_scopes.specs.Scopes.{Scope, environment, scopes_of}
use Rattle.vs_elab_statements.specs.Members.{Assignment, Behavior, sets, runs, repeats, assignment_of, net_assignment, setting, drivers_by_item, drivers_in, behaviors_by_item, behaviors_in, port_setting, drivers_of, behaviors_of, PortDriver, into, out_of, connected, port_drivers, port_drivers_of, port_of, Driver, of_port, of_text}
use Rattle.vs_elab_statements.specs.Surroundings.{Surroundings, surroundings_at}
use Rattle.vs_elaborate.specs.Timescales.{ratio_of, scales_in, first_or_default, timescale_of}
use Rattle.vs_elaborate.specs.Drivers.{IsDriver}
use Rattle.vs_elab_statements.specs.Processes.{kind_of, IsBody, is_set, is_run, is_repeat}
use Rattle.vs_elab_statements.specs.vs_elab_signals.specs.Outlines.{signals_of, Line, enter, declare, leave, IsEntry, outline_of}
use Rattle.vs_elaborate.specs.DesignOf.{PartOf, parts_from, port_part, assigns_of, processes_of, IsProcess, IsAssign, Represents, DesignOf}
use Rattle.vs_elaborate.specs.Same.{SameSides, SameStatement, assign_same, forever_same, SameAssign, SameProcess, SameEntry, SameDesign}
use Rattle.vs_elaborate.proofs.SameTypedLemmas.{same_meant, same_expr_aimed}
use Rattle.vs_elaborate.proofs.SameStatementLemmas.{one_statement, same_count, one_count}
use Rattle.vs_elaborate.proofs.SameTargetLemmas.{SameAssignee, one_pair, one_sides}
use Rattle.vs_elaborate.proofs.PairLemmas.{pair_append, pair_map, pair_flat, flat_one}
use Rattle.vs_elaborate.proofs.SamePieceLemmas.{SamePiece, plain_same, loop_same, choice_same, local_same, inside_same, net_same, one_pair as one_more}
use Rattle.vs_elaborate.proofs.SamePortLemmas.{SameModulePort}
use Rattle.vs_elaborate.proofs.SameScopeLemmas.{SameScope, environment_same, environments_same, signals_same, scopes_same, outlines_same}

-- ---- parts of scopes that say the same

abbrev SameText : Assignment → Assignment → Type 0
SameText a b = SameAssignee a.target b.target × SameExpr a.value b.value

abbrev SamePortDriver : PortDriver → PortDriver → Type 0
SamePortDriver (into n e) (into n' e') = (n ≡ n') × SameExpr e e'
SamePortDriver (out_of n e) (out_of n' e') = (n ≡ n') × SameExpr e e'
SamePortDriver _ _ = ⊥

abbrev SameDriver : Driver → Driver → Type 0
SameDriver (of_port d) (of_port d') = SamePortDriver d d'
SameDriver (of_text a) (of_text a') = SameText a a'
SameDriver _ _ = ⊥

abbrev SameBehavior : Behavior → Behavior → Type 0
SameBehavior (sets a) (sets b) = SameText a b
SameBehavior (runs x) (runs y) = SameStmt x y
SameBehavior (repeats x) (repeats y) = SameStmt x y
SameBehavior _ _ = ⊥

assignment_same : (n n' : List ℕ) (o o' : Option Expr) → n ≡ n' → SameValue o o' → Pairwise SameText (assignment_of n o) (assignment_of n' o')
assignment_same n n' _ _ i same_no_value = no_pair
assignment_same n n' _ _ i (same_value x x' h) = one_more SameText _ _ (i, h)

setting_same : (n n' : List ℕ) (o o' : Option Expr) → n ≡ n' → SameValue o o' → Pairwise SameBehavior (setting n o) (setting n' o')
setting_same n n' _ _ i same_no_value = no_pair
setting_same n n' _ _ i (same_value x x' h) = one_more SameBehavior _ _ (i, h)

settings_same : (ds ds' : List Declarator) → Pairwise SameDeclarator ds ds' → Pairwise SameBehavior (flat_map (λ (d : Declarator). setting d.name.items d.value) ds) (flat_map (λ (d : Declarator). setting d.name.items d.value) ds')
settings_same ds ds' p =
    pair_flat SameDeclarator SameBehavior (λ (d : Declarator). setting d.name.items d.value) (λ d d' h. setting_same d.name.items d'.name.items d.value d'.value h.name h.value) ds ds' p

item_drives : (x x' : Item) → SameItem x x' → Pairwise SameText (drivers_by_item x) (drivers_by_item x')
item_drives _ _ (same_port_item f f' ns ns' g p) = no_pair
item_drives _ _ (same_genvars ns ns' p) = no_pair
item_drives _ _ (same_wire f f' ds ds' g p) =
    pair_flat SameDeclarator SameText (λ (d : Declarator). assignment_of d.name.items d.value) (λ d d' h. assignment_same d.name.items d'.name.items d.value d'.value h.name h.value) ds.items ds'.items p
item_drives _ _ (same_reg f f' ds ds' g p) = no_pair
item_drives _ _ (same_integer ds ds' p) = no_pair
item_drives _ _ (same_parameters f f' xs xs' g p) = no_pair
item_drives _ _ (same_localparams f f' xs xs' g p) = no_pair
item_drives _ _ (same_instances n n' o o' xs xs' i g p) = no_pair
item_drives _ _ (same_assigns xs xs' p) = pair_map SameAssignment SameText net_assignment net_assignment (λ a a' h. (h.target, h.value)) xs.items xs'.items p
item_drives _ _ (same_initial x x' p) = no_pair
item_drives _ _ (same_always x x' p) = no_pair

piece_drives : (x x' : Piece) → SamePiece x x' → Pairwise SameText (drivers_in x) (drivers_in x')
piece_drives _ _ (plain_same x x' m) = item_drives x x' m
piece_drives _ _ (loop_same h h' x x' i m) = no_pair
piece_drives _ _ (choice_same e e' x x' o o' i m r) = no_pair
piece_drives _ _ (local_same x x' m) = no_pair
piece_drives _ _ (inside_same b b' m) = no_pair
piece_drives _ _ (net_same x) = no_pair

item_behaves : (x x' : Item) → SameItem x x' → Pairwise SameBehavior (behaviors_by_item x) (behaviors_by_item x')
item_behaves _ _ (same_port_item f f' ns ns' g p) = no_pair
item_behaves _ _ (same_genvars ns ns' p) = no_pair
item_behaves _ _ (same_wire f f' ds ds' g p) = no_pair
item_behaves _ _ (same_reg f f' ds ds' g p) = settings_same ds.items ds'.items p
item_behaves _ _ (same_integer ds ds' p) = settings_same ds.items ds'.items p
item_behaves _ _ (same_parameters f f' xs xs' g p) = no_pair
item_behaves _ _ (same_localparams f f' xs xs' g p) = no_pair
item_behaves _ _ (same_instances n n' o o' xs xs' i g p) = no_pair
item_behaves _ _ (same_assigns xs xs' p) = no_pair
item_behaves _ _ (same_initial x x' p) = one_more SameBehavior _ _ p
item_behaves _ _ (same_always x x' p) = one_more SameBehavior _ _ p

piece_behaves : (x x' : Piece) → SamePiece x x' → Pairwise SameBehavior (behaviors_in x) (behaviors_in x')
piece_behaves _ _ (plain_same x x' m) = item_behaves x x' m
piece_behaves _ _ (loop_same h h' x x' i m) = no_pair
piece_behaves _ _ (choice_same e e' x x' o o' i m r) = no_pair
piece_behaves _ _ (local_same x x' m) = no_pair
piece_behaves _ _ (inside_same b b' m) = no_pair
piece_behaves _ _ (net_same x) = no_pair

behaviors_same : (s s' : Scope) → SameScope s s' → Pairwise SameBehavior (behaviors_of s) (behaviors_of s')
behaviors_same s s' h =
    pair_append SameBehavior (flat_map port_setting s.ports) (flat_map port_setting s'.ports) (flat_map behaviors_in s.pieces) (flat_map behaviors_in s'.pieces)
    (pair_flat SameModulePort SameBehavior port_setting (λ p p' i. setting_same p.name p'.name p.value p'.value i.name i.value) s.ports s'.ports h.ports)
    (pair_flat SamePiece SameBehavior behaviors_in piece_behaves s.pieces s'.pieces h.pieces)

connected_one : (d : Direction) (n n' : List ℕ) (e e' : Expr) → n ≡ n' → SameExpr e e' → SamePortDriver (connected d n e) (connected d n' e')
connected_one Input n n' e e' i h = (i, h)
connected_one Output n n' e e' i h = (i, h)

ports_same : (ps ps' : List ModulePort) (es es' : List (Option Expr)) → Pairwise SameModulePort ps ps' → Pairwise SameValue es es' → Pairwise SamePortDriver (port_drivers ps es) (port_drivers ps' es')
ports_same _ _ es es' no_pair r = no_pair
ports_same _ _ _ _ (pair_more p p' ps ps' h k) no_pair = no_pair
ports_same _ _ _ _ (pair_more p p' ps ps' h k) (pair_more _ _ es es' same_no_value r) = ports_same ps ps' es es' k r
ports_same _ _ _ _ (pair_more p p' ps ps' h k) (pair_more _ _ es es' (same_value e e' m) r) =
    pair_more (connected p.direction p.name e) (connected p'.direction p'.name e') (port_drivers ps es) (port_drivers ps' es')
    (subst (λ d. SamePortDriver (connected p.direction p.name e) (connected d p'.name e')) h.direction (connected_one p.direction p.name p'.name e e' h.name m)) (ports_same ps ps' es es' k r)

-- ---- parts with their scopes

record SamePart {A : Type 0} (Q : A → A → Type 0) (q q' : PartOf A) : Type 0 where
  scope : SameScope q.scope q'.scope
  name : q.name ≡ q'.name
  part : Q q.part q'.part

numbered_same : {A : Type 0} (Q : A → A → Type 0) (letter : ℕ) (s s' : Scope) → SameScope s s' → (k : ℕ) (xs xs' : List A) → Pairwise Q xs xs' → Pairwise (SamePart Q) (parts_from letter s k xs) (parts_from letter s' k xs')
numbered_same Q letter s s' h k _ _ no_pair = no_pair
numbered_same Q letter s s' h k _ _ (pair_more x x' xs xs' m r) =
    pair_more _ _ (parts_from letter s (suc k) xs) (parts_from letter s' (suc k) xs') (record { scope = h; name = refl; part = m }) (numbered_same Q letter s s' h (suc k) xs xs' r)

port_of_same : (d d' : PortDriver) → SamePortDriver d d' → port_of d ≡ port_of d'
port_of_same (into n e) (into n' e') m = m.0
port_of_same (into n e) (out_of n' e') m = absurd m
port_of_same (out_of n e) (into n' e') m = absurd m
port_of_same (out_of n e) (out_of n' e') m = m.0

processes_same : (s s' : Scope) → SameScope s s' → Pairwise (SamePart SameBehavior) (processes_of s) (processes_of s')
processes_same s s' h = numbered_same SameBehavior 112 s s' h 0 (behaviors_of s) (behaviors_of s') (behaviors_same s s' h)

assigns_same : (s s' : Scope) → SameScope s s' → Pairwise (SamePart SameDriver) (assigns_of s) (assigns_of s')
assigns_same s s' h =
    let texts = pair_flat SamePiece SameText drivers_in piece_drives s.pieces s'.pieces h.pieces in
    pair_append (SamePart SameDriver) (map (port_part s) (port_drivers_of s)) (map (port_part s') (port_drivers_of s')) (parts_from 97 s 0 (map of_text (drivers_of s))) (parts_from 97 s' 0 (map of_text (drivers_of s')))
    (pair_map SamePortDriver (SamePart SameDriver) (port_part s) (port_part s') (λ d d' m. record { scope = h; name = ap port_assign_name (port_of_same d d' m); part = m }) (port_drivers_of s) (port_drivers_of s') (ports_same s.ports s'.ports s.ends s'.ends h.ports h.ends))
    (numbered_same SameDriver 97 s s' h 0 (map of_text (drivers_of s)) (map of_text (drivers_of s')) (pair_map SameText SameDriver of_text of_text (λ a a' m. m) (drivers_of s) (drivers_of s') texts))

-- ---- parts of a design

one_body : (envs : Path → Surroundings) (at : Path) (b b' : Behavior) (y y' : Statement) → SameBehavior b b' → IsBody envs at b y → IsBody envs at b' y' → SameStatement y y'
one_body envs at _ _ _ _ m (is_set a k u x h) (is_set a' k' u' x' h') = assign_same k k' u u' x x' (one_sides Procedural (envs at).names a.target a'.target a.value a'.value u u' x x' m.0 m.1 h h')
one_body envs at _ _ _ _ m (is_set a k u x h) (is_run z y' h') = absurd m
one_body envs at _ _ _ _ m (is_set a k u x h) (is_repeat z k' y' h') = absurd m
one_body envs at _ _ _ _ m (is_run x y h) (is_set a' k' u' x' h') = absurd m
one_body envs at _ _ _ _ m (is_run x y h) (is_run x' y' h') = one_statement envs at x x' y y' m h h'
one_body envs at _ _ _ _ m (is_run x y h) (is_repeat x' k' y' h') = absurd m
one_body envs at _ _ _ _ m (is_repeat x k y h) (is_set a' k' u' x' h') = absurd m
one_body envs at _ _ _ _ m (is_repeat x k y h) (is_run x' y' h') = absurd m
one_body envs at _ _ _ _ m (is_repeat x k y h) (is_repeat x' k' y' h') = forever_same k k' y y' (one_statement envs at x x' y.value y'.value m h h')

kind_same : (b b' : Behavior) → SameBehavior b b' → kind_of b ≡ kind_of b'
kind_same (sets a) (sets a') m = refl
kind_same (sets a) (runs x) m = absurd m
kind_same (sets a) (repeats x) m = absurd m
kind_same (runs x) (sets a) m = absurd m
kind_same (runs x) (runs x') m = refl
kind_same (runs x) (repeats x') m = absurd m
kind_same (repeats x) (sets a) m = absurd m
kind_same (repeats x) (runs x') m = absurd m
kind_same (repeats x) (repeats x') m = refl

one_driver : (own outer : Environment) (d d' : Driver) (u u' : Target) (x x' : Typed) → SameDriver d d' → IsDriver own outer d u x → IsDriver own outer d' u' x' → SameSides u u' x x'
one_driver own outer (of_port (into n e)) (of_port (into n' e')) u u' x x' m h k =
    one_pair Continuous own (name_aimed Continuous (own n) []) (name_aimed Continuous (own n') []) (meant outer e) (meant outer e') u u' x x' (ap (λ z. name_aimed Continuous (own z) []) m.0) (same_meant outer e e' m.1) h.target h.source k.target k.source
one_driver own outer (of_port (out_of n e)) (of_port (out_of n' e')) u u' x x' m h k =
    one_pair Continuous outer (expr_aimed Continuous outer e) (expr_aimed Continuous outer e') (name_meant (own n)) (name_meant (own n')) u u' x x' (same_expr_aimed outer Continuous e e' m.1) (ap (λ z. name_meant (own z)) m.0) h.target h.source k.target k.source
one_driver own outer (of_text a) (of_text a') u u' x x' m h k = one_sides Continuous own a.target a'.target a.value a'.value u u' x x' m.0 m.1 h k
one_driver own outer (of_port (into n e)) (of_port (out_of n' e')) u u' x x' m h k = absurd m
one_driver own outer (of_port (out_of n e)) (of_port (into n' e')) u u' x x' m h k = absurd m
one_driver own outer (of_port d) (of_text a') u u' x x' m h k = absurd m
one_driver own outer (of_text a) (of_port d') u u' x x' m h k = absurd m

same_text : {A : Type 0} (Q : A → A → Type 0) (q q' : PartOf A) → SamePart Q q q' → (a b : List ℕ) → a ≡ part_name q.scope.path q.name → b ≡ part_name q'.scope.path q'.name → a ≡ b
same_text Q q q' m a b h k = h ∙ ap₂ part_name m.scope.path m.name ∙ sym k

one_assign : (p p' : Assign) (q q' : PartOf Driver) → SamePart SameDriver q q' → IsAssign p q → IsAssign p' q' → SameAssign p p'
one_assign p p' q q' m h k =
    let own : environment q.scope ≡ environment q'.scope = environment_same q.scope q'.scope m.scope in
    let inside : IsDriver (environment q.scope) q'.scope.outer q'.part p'.target p'.source = subst (λ env. IsDriver env q'.scope.outer q'.part p'.target p'.source) (sym own) k.sides in
    let sides : IsDriver (environment q.scope) q.scope.outer q'.part p'.target p'.source = subst (λ env. IsDriver (environment q.scope) env q'.part p'.target p'.source) (sym m.scope.outer) inside in
    record {
      name = same_text SameDriver q q' m p.name.items p'.name.items h.name k.name;
      sides = one_driver (environment q.scope) q.scope.outer q.part q'.part p.target p'.target p.source p'.source m.part h.sides sides;
    }

one_process : (envs envs' : Path → Surroundings) → envs ≡ envs' → (p p' : Process) (q q' : PartOf Behavior) → SamePart SameBehavior q q' → IsProcess envs p q → IsProcess envs' p' q' → SameProcess p p'
one_process envs envs' same p p' q q' m h k =
    let moved : IsBody envs q'.scope.path q'.part p'.body = subst (λ env. IsBody env q'.scope.path q'.part p'.body) (sym same) k.body in
    let other : IsBody envs q.scope.path q'.part p'.body = subst (λ at. IsBody envs at q'.part p'.body) (sym m.scope.path) moved in
    let body = one_body envs q.scope.path q.part q'.part p.body p'.body m.part h.body other in
    record {
      name = same_text SameBehavior q q' m p.name.items p'.name.items h.name k.name;
      kind = h.kind ∙ kind_same q.part q'.part m.part ∙ sym k.kind;
      body = body;
      numbered = one_count 0 (numbers p.body) (numbers p'.body) (same_count p.body p'.body body) h.numbered k.numbered;
    }

-- parts of two designs in step
module _ {A P : Type 0} (R R' : P → PartOf A → Type 0) (S : P → P → Type 0) (Q : A → A → Type 0) (step : (p p' : P) (q q' : PartOf A) → SamePart Q q q' → R p q → R' p' q' → S p p') where
  parts_same : (ps ps' : List P) (qs qs' : List (PartOf A)) → Pairwise (SamePart Q) qs qs' → AllZip R ps qs → AllZip R' ps' qs' → AllZip S ps ps'
  parts_same [] [] _ _ no_pair h k = tt
  parts_same [] (p' ∷ ps') _ _ no_pair h k = absurd k
  parts_same (p ∷ ps) ps' _ _ no_pair h k = absurd h
  parts_same [] ps' _ _ (pair_more q q' qs qs' m r) h k = absurd h
  parts_same (p ∷ ps) [] _ _ (pair_more q q' qs qs' m r) h k = absurd k
  parts_same (p ∷ ps) (p' ∷ ps') _ _ (pair_more q q' qs qs' m r) h k = (step p p' q q' m h.0 k.0, parts_same ps ps' qs qs' r h.1 k.1)

one_entry : (a b : Entry) (l : Line) → IsEntry a l → IsEntry b l → SameEntry a b
one_entry (Enter k n) (Enter k' n') (enter c t) h h' = (h.0 ∙ sym h'.0, h.1 ∙ sym h'.1)
one_entry (Enter k n) (Declare j) (enter c t) h h' = absurd h'
one_entry (Enter k n) Leave (enter c t) h h' = absurd h'
one_entry (Enter k n) b (declare p) h h' = absurd h
one_entry (Enter k n) b leave h h' = absurd h
one_entry (Declare i) (Enter k' n') (declare p) h h' = absurd h'
one_entry (Declare i) (Declare j) (declare p) h h' = h ∙ sym h'
one_entry (Declare i) Leave (declare p) h h' = absurd h'
one_entry (Declare i) b (enter c t) h h' = absurd h
one_entry (Declare i) b leave h h' = absurd h
one_entry Leave (Enter k' n') leave h h' = absurd h'
one_entry Leave (Declare j) leave h h' = absurd h'
one_entry Leave Leave leave h h' = tt
one_entry Leave b (enter c t) h h' = absurd h
one_entry Leave b (declare p) h h' = absurd h

one_outline : (es fs : List Entry) (ls : List Line) → AllZip IsEntry es ls → AllZip IsEntry fs ls → AllZip SameEntry es fs
one_outline [] [] ls h h' = tt
one_outline [] (b ∷ fs) [] h h' = absurd h'
one_outline [] (b ∷ fs) (l ∷ ls) h h' = absurd h
one_outline (a ∷ es) fs [] h h' = absurd h
one_outline (a ∷ es) [] (l ∷ ls) h h' = absurd h'
one_outline (a ∷ es) (b ∷ fs) (l ∷ ls) h h' = (one_entry a b l h.0 h'.0, one_outline es fs ls h.1 h'.1)

-- ---- designs

-- scopes that say the same have the same surroundings
surroundings_same : (n n' : ℕ) (ss ss' : List Scope) → n ≡ n' → Pairwise SameScope ss ss' → surroundings_at n ss ≡ surroundings_at n' ss'
surroundings_same n n' ss ss' e same =
    let make : ℕ → (Path → Environment) → Path → Surroundings = λ k envs p. record { names = envs p; ratio = k } in
    ap₂ make e (environments_same ss ss' same)

-- the designs of scopes that say the same, with one time scale
designs_same : (scale scale' : Timescale) (ss ss' : List Scope) (ls ls' : List Line) (d d' : Parts) → scale ≡ scale' → Pairwise SameScope ss ss' → ls ≡ ls' → Represents d scale ss ls → Represents d' scale' ss' ls' → SameDesign d d'
designs_same scale scale' ss ss' ls ls' d d' scaled same lines h k =
    let envs = surroundings_same (ratio_of scale) (ratio_of scale') ss ss' (ap ratio_of scaled) same in
    record {
      timescale = h.timescale ∙ scaled ∙ sym k.timescale;
      signals = h.signals ∙ flat_one SameScope signals_of signals_same ss ss' same ∙ sym k.signals;
      assigns = parts_same IsAssign IsAssign SameAssign SameDriver one_assign d.assigns d'.assigns (flat_map assigns_of ss) (flat_map assigns_of ss') (pair_flat SameScope (SamePart SameDriver) assigns_of assigns_same ss ss' same) h.assigns k.assigns;
      processes = parts_same (IsProcess (surroundings_at (ratio_of scale) ss)) (IsProcess (surroundings_at (ratio_of scale') ss')) SameProcess SameBehavior (one_process (surroundings_at (ratio_of scale) ss) (surroundings_at (ratio_of scale') ss') envs) d.processes d'.processes (flat_map processes_of ss) (flat_map processes_of ss')
          (pair_flat SameScope (SamePart SameBehavior) processes_of processes_same ss ss' same) h.processes k.processes;
      outline = one_outline d.outline d'.outline ls h.outline (subst (AllZip IsEntry d'.outline) (sym lines) k.outline);
    }

-- the time scales of modules that say the same
scales_same : (ms ms' : List Module) → Pairwise SameModule ms ms' → flat_map (λ (m : Module). scales_in m.directives.items) ms ≡ flat_map (λ (m : Module). scales_in m.directives.items) ms'
scales_same ms ms' same = flat_one SameModule (λ (m : Module). scales_in m.directives.items) (λ m m' h. ap scales_in h.directives) ms ms' same

pub one_design : (s s' : Source) (top : List ℕ) (d d' : Parts) → SameSource s s' → DesignOf s top d → DesignOf s' top d' → SameDesign d d'
one_design s s' top d d' same h k =
    let ms = s.modules.items in
    let ms' = s'.modules.items in
    let scaled : timescale_of s ≡ timescale_of s' = ap₂ (λ xs ys. first_or_default (xs ++ ys)) (scales_same ms ms' same.modules) (ap scales_in same.directives) in
    designs_same (timescale_of s) (timescale_of s') (scopes_of ms top) (scopes_of ms' top) (outline_of ms top) (outline_of ms' top) d d' scaled (scopes_same ms ms' same.modules top) (outlines_same ms ms' same.modules top) h.found k.found
