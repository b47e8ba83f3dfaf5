-- The faults of a source: those that are told while scopes are opened, those of continuous assignments and processes, and nets that are driven twice.
use Rattle.std.proofs.Common.{◌≡◌, ℕ, suc, zero, ◌⊎◌, inl, inr, Bool, true, false, List, [], ◌∷◌, Option, Some, None, map, slice_get, refl, sym, subst, ◌∙◌, true≢false}
use Rattle.std.specs.List.{list_any}
use Rattle.std.proofs.lemmas.Option.{none-some, same_Some}
use Rattle.vs_syntax.specs.declared.tree.Expr.{Expr}
use Rattle.vs_syntax.specs.declared.tree.CaseLabel.{CaseLabel}
use Rattle.vs_syntax.specs.declared.tree.DelayValue.{DelayValue}
use Rattle.vs_syntax.specs.declared.tree.EventControl.{EventControl}
use Rattle.vs_syntax.specs.declared.tree.Module.{Module}
use Rattle.vs_syntax.specs.declared.tree.PrintArguments.{PrintArguments}
use Rattle.vs_syntax.specs.declared.tree.Source.{Source}
use Rattle.vs_syntax.specs.declared.tree.Stmt.{Stmt, Stmt-F, roll-Stmt, ind-Stmt, map-Stmt}
use Rattle.vs_syntax.specs.declared.tree.Stmt.TheFolds.{fold-roll-Stmt}
use Rattle.vs_syntax.specs.declared.tree.Stmt.TheOpen as f
use Rattle.vs_elab_statements.specs.vs_scopes.specs.vs_widths.specs.Environment.{Environment}
use Rattle.vs_elab_statements.specs.vs_widths.specs.declared.kinds.AssignmentKind.{AssignmentKind}
use Rattle.vs_elab_statements.specs.vs_widths.specs.declared.kinds.AssignmentKind.TheVariants.{Procedural, Continuous}
use Rattle.vs_elab_statements.specs.vs_scopes.specs.declared.faults.Reason.{Reason}
use Rattle.vs_elab_statements.specs.vs_scopes.specs.declared.faults.Reason.TheVariants.{NoModule, Inside, PortMismatch, ParameterMismatch, DeclaredTwice, DrivenTwice, Limit, Width, Endless, Unnamed, Timescales, Format}
use Rattle.vs_elab_statements.specs.vs_scopes.specs.declared.faults.ElabFault.{ElabFault}
use Rattle.vs_elab_statements.specs.vs_scopes.specs.declared.faults.ElabFault.TheVariants.{Memory, At}
use Rattle.vs_elab_statements.specs.vs_scopes.specs.Printed.{plainly, Path}
use Rattle.vs_elab_statements.specs.vs_scopes.specs.Scopes.{Scope, environment, scopes_of}
use Rattle.vs_elab_statements.specs.vs_scopes.specs.scopes_passes.Answers.{IsFaultAt, IsReported}
use Rattle.std.proofs.lemmas.Bool.{or_from as both_false}
use Rattle.vs_elab_statements.specs.vs_scopes.proofs.AnswerLemmas.{told_at, told_by}
use Rattle.vs_elab_statements.specs.vs_elab_signals.specs.ScopeFaults.{HoldsOpening, HoldsOpeningIn, HoldsOpeningAbove, HasOpeningFault}
use Rattle.vs_elab_statements.specs.Statements.{assign_fault, operand_fault, case_fault, delay_fault, due_fault, print_fault, event_fault, fault_step, has_fault, is_overfull, HasFaultAt, in_statement, in_block}
use Rattle.vs_elab_statements.specs.Surroundings.{Surroundings}
use Rattle.vs_elab_statements.specs.Members.{Assignee, places, Assignment, PortDriver, Behavior, sets, runs, repeats, drivers_of, port_drivers_of}
use Rattle.vs_elab_statements.specs.Processes.{statements_of, HasBehaviorFault}
use Rattle.vs_elaborate.specs.Drivers.{driver_fault, port_driver_fault}
use Rattle.vs_elaborate.specs.Timescales.{has_other_timescale}
use Rattle.vs_elaborate.specs.Faults.{Holds, HoldsIn, HoldsAbove, surroundings_of, HoldsFault, DrivesTwice, Faults}
use Rattle.vs_elaborate.specs.passes.Filling.{FillsNot, FillsOneNot}

-- ---- faults that no statement has

-- a reason that isn't one of a statement
pub record IsApart (r : Reason) (env : Environment) : Type 0 where
  pub assign : (how : AssignmentKind) (a : Assignee) (e : Expr) → assign_fault r how env a e ≡ false
  pub operand : (e : Expr) → operand_fault r env e ≡ false
  pub cases : (e : Expr) (ls : List CaseLabel) → case_fault r env e ls ≡ false
  pub delay : (n : ℕ) (d : DelayValue) → delay_fault r env n d ≡ false
  pub print : (xs : PrintArguments) → print_fault r env xs ≡ false
  pub event : (e : EventControl) → event_fault r env e ≡ false

module _ (r : Reason) (env : Surroundings) (apart : IsApart r env.names) where
  abbrev Sound : Stmt → Type 0
  Sound x = has_fault r env x ≡ false

  abbrev Inner : Type 0
  Inner = (x : Stmt) × (has_fault r env x ≡ false)

  abbrev bare : Stmt-F Inner → Stmt-F Stmt
  bare y = map-Stmt Inner Stmt (λ p. p.0) y

  none_in : (xs : List Inner) → list_any (λ b. b) (map (has_fault r env) (map (λ p. p.0) xs)) ≡ false
  none_in [] = refl
  none_in (x ∷ xs) = both_false (has_fault r env x.0) _ x.1 (none_in xs)

  none_item : (xs : List (CaseLabel × Inner)) → list_any (λ (x : CaseLabel × Bool). x.1) (map (λ (x : CaseLabel × Stmt). (x.0, has_fault r env x.1)) (map (λ (x : CaseLabel × Inner). (x.0, x.1.0)) xs)) ≡ false
  none_item [] = refl
  none_item (x ∷ xs) = both_false (has_fault r env x.1.0) _ x.1.1 (none_item xs)

  none_due : (v : Option DelayValue) → due_fault r env.names env.ratio v ≡ false
  none_due None = refl
  none_due (Some d) = apart.delay env.ratio d

  step : (y : Stmt-F Inner) → fault_step r env (map-Stmt Stmt Bool (has_fault r env) (bare y)) ≡ false
  step f.Null = refl
  step (f.Assign l e) = apart.assign Procedural (places l.value) e
  step (f.Later l v e) = both_false _ _ (apart.assign Procedural (places l.value) e.value) (none_due v)
  step (f.Block xs) = none_in xs.items
  step (f.Named n ls xs) = refl
  step (f.If e x None) = both_false _ _ (both_false _ _ (apart.operand e.value) x.value.1) refl
  step (f.If e x (Some o)) = both_false _ _ (both_false _ _ (apart.operand e.value) x.value.1) o.value.1
  step (f.Case kind e xs) = both_false _ _ (apart.cases e.value _) (none_item xs.items)
  step (f.For head x) =
      both_false _ _
      (both_false _ _ (both_false _ _ (apart.assign Procedural (places head.value.first.0) head.value.first.1) (apart.operand head.value.condition)) (apart.assign Procedural (places head.value.step.0) head.value.step.1))
      x.value.1
  step (f.While e x) = both_false _ _ (apart.operand e) x.value.1
  step (f.Repeat e x) = both_false _ _ (apart.operand e) x.value.1
  step (f.Forever x) = x.value.1
  step (f.Delay d x) = both_false _ _ (apart.delay env.ratio d) x.value.1
  step (f.Event e x) = both_false _ _ (apart.event e) x.value.1
  step (f.Print task xs) = apart.print xs
  step (f.Finish n) = refl
  step (f.Dump task xs) = refl

  layer : (y : Stmt-F Inner) → Sound (roll-Stmt (bare y))
  layer y = fold-roll-Stmt Bool (fault_step r env) (bare y) ∙ step y

  settled : (x : Stmt-F Stmt) (y : Stmt-F Inner) → bare y ≡ x → Sound (roll-Stmt x)
  settled x y is = subst (λ (u : Stmt-F Stmt). Sound (roll-Stmt u)) is (layer y)

  no_statement : (x : Stmt) → has_fault r env x ≡ false
  no_statement = ind-Stmt Sound settled

any_none : {A : Type 0} (p : A → Bool) (xs : List A) → ((x : A) → p x ≡ false) → list_any p xs ≡ false
any_none p [] h = refl
any_none p (x ∷ xs) h = both_false (p x) _ (h x) (any_none p xs h)

-- a reason that isn't one of a continuous assignment or a process
pub record IsOutside (r : Reason) : Type 0 where
  pub apart : (env : Environment) → IsApart r env
  pub port : (own outer : Environment) (d : PortDriver) → port_driver_fault r own outer d ≡ false
  pub full : (n : ℕ) → is_overfull r n ≡ false

module _ (r : Reason) (o : IsOutside r) (envs : Path → Surroundings) (at : Path) where
  no_fault_at : (p : Path) (x : Stmt) → HasFaultAt envs r at p x → ⊥
  no_fault_at _ _ (in_statement p x h e) = true≢false (sym h ∙ no_statement r (envs p) (o.apart (envs p).names) x)
  no_fault_at _ _ (in_block p x y i j b k l h) = no_fault_at _ _ h

  no_behavior : (p : Path) (b : Behavior) → HasBehaviorFault envs r at p b → ⊥
  no_behavior p (sets a) (inl h) = true≢false (sym h.0 ∙ (o.apart (envs p).names).assign Procedural a.target a.value)
  no_behavior p (sets a) (inr h) = true≢false (sym h.0 ∙ o.full 1)
  no_behavior p (runs x) (inl h) = no_fault_at p x h
  no_behavior p (runs x) (inr h) = true≢false (sym h.0 ∙ o.full (statements_of (runs x)))
  no_behavior p (repeats x) (inl h) = no_fault_at p x h
  no_behavior p (repeats x) (inr h) = true≢false (sym h.0 ∙ o.full (statements_of (repeats x)))

nothing_fills : (envs : Path → Surroundings) (s : Scope) (r : Reason) (p : Path) → IsOutside r → FillsNot envs s r p → ⊥
nothing_fills envs s r p o (inl h) = true≢false (sym h.0 ∙ any_none (port_driver_fault r (environment s) s.outer) (port_drivers_of s) (o.port (environment s) s.outer))
nothing_fills envs s r p o (inr (inl h)) = no_behavior r o envs p s.path h.behavior h.fault
nothing_fills envs s r p o (inr (inr h)) = true≢false (sym h.0 ∙ any_none (driver_fault r (environment s)) (drivers_of s) (λ (a : Assignment). (o.apart (environment s)).assign Continuous a.target a.value))

-- ---- faults of a scope

module _ (ms : List Module) (envs : Path → Surroundings) (s : Scope) where
  -- a fault that is told while the scope is opened
  pub opening_holds : (r : Reason) (p : Path) → HoldsOpening ms s r p → Holds ms envs s r p
  opening_holds NoModule p h = h
  opening_holds Inside p h = h
  opening_holds PortMismatch p h = h
  opening_holds ParameterMismatch p h = h
  opening_holds DeclaredTwice p (inl h) = inl h
  opening_holds DeclaredTwice p (inr (inl h)) = inr (inl h)
  opening_holds DeclaredTwice p (inr (inr (inl h))) = inr (inr (inl h))
  opening_holds DeclaredTwice p (inr (inr (inr h))) = inr (inr (inr (inl h)))
  opening_holds DrivenTwice p h = h
  opening_holds Limit p (inl h) = inl h
  opening_holds Limit p (inr (inl h)) = inr (inl h)
  opening_holds Limit p (inr (inr h)) = inr (inr (inl h))
  opening_holds (Width w) p (inl h) = inl h
  opening_holds (Width w) p (inr (inl h)) = inr (inl h)
  opening_holds (Width w) p (inr (inr (inl h))) = inr (inr (inl h))
  opening_holds (Width w) p (inr (inr (inr (inl h)))) = inr (inr (inr (inl h)))
  opening_holds (Width w) p (inr (inr (inr (inr h)))) = inr (inr (inr (inr (inl h))))
  opening_holds Endless p h = h
  opening_holds Unnamed p h = h
  opening_holds Timescales p h = h
  opening_holds (Format wrong) p h = absurd h

  no_port : (r : Reason) (p : Path) → ((d : PortDriver) → port_driver_fault r (environment s) s.outer d ≡ false) → list_any (port_driver_fault r (environment s) s.outer) (port_drivers_of s) ≡ true → ⊥
  no_port r p none h = true≢false (sym h ∙ any_none (port_driver_fault r (environment s) s.outer) (port_drivers_of s) none)

  -- a fault of a continuous assignment or a process
  pub fills_holds : (r : Reason) (p : Path) → FillsNot envs s r p → Holds ms envs s r p
  fills_holds (Width w) p (inl h) = inr (inr (inr (inr (inr (inl h)))))
  fills_holds (Width w) p (inr h) = inr (inr (inr (inr (inr (inr h)))))
  fills_holds Limit p (inl h) = absurd (no_port Limit p (λ d. refl) h.0)
  fills_holds Limit p (inr h) = inr (inr (inr h))
  fills_holds DeclaredTwice p (inl h) = absurd (no_port DeclaredTwice p (λ d. refl) h.0)
  fills_holds DeclaredTwice p (inr h) = inr (inr (inr (inr h)))
  fills_holds NoModule p h = absurd (nothing_fills envs s NoModule p (record { apart = λ env. record { assign = λ how a e. refl; operand = λ e. refl; cases = λ e ls. refl; delay = λ n d. refl; print = λ xs. refl; event = λ e. refl }; port = λ own outer d. refl; full = λ n. refl }) h)
  fills_holds Inside p h = absurd (nothing_fills envs s Inside p (record { apart = λ env. record { assign = λ how a e. refl; operand = λ e. refl; cases = λ e ls. refl; delay = λ n d. refl; print = λ xs. refl; event = λ e. refl }; port = λ own outer d. refl; full = λ n. refl }) h)
  fills_holds PortMismatch p h = absurd (nothing_fills envs s PortMismatch p (record { apart = λ env. record { assign = λ how a e. refl; operand = λ e. refl; cases = λ e ls. refl; delay = λ n d. refl; print = λ xs. refl; event = λ e. refl }; port = λ own outer d. refl; full = λ n. refl }) h)
  fills_holds ParameterMismatch p h = absurd (nothing_fills envs s ParameterMismatch p (record { apart = λ env. record { assign = λ how a e. refl; operand = λ e. refl; cases = λ e ls. refl; delay = λ n d. refl; print = λ xs. refl; event = λ e. refl }; port = λ own outer d. refl; full = λ n. refl }) h)
  fills_holds DrivenTwice p h = absurd (nothing_fills envs s DrivenTwice p (record { apart = λ env. record { assign = λ how a e. refl; operand = λ e. refl; cases = λ e ls. refl; delay = λ n d. refl; print = λ xs. refl; event = λ e. refl }; port = λ own outer d. refl; full = λ n. refl }) h)
  fills_holds Endless p h = absurd (nothing_fills envs s Endless p (record { apart = λ env. record { assign = λ how a e. refl; operand = λ e. refl; cases = λ e ls. refl; delay = λ n d. refl; print = λ xs. refl; event = λ e. refl }; port = λ own outer d. refl; full = λ n. refl }) h)
  fills_holds Unnamed p h = absurd (nothing_fills envs s Unnamed p (record { apart = λ env. record { assign = λ how a e. refl; operand = λ e. refl; cases = λ e ls. refl; delay = λ n d. refl; print = λ xs. refl; event = λ e. refl }; port = λ own outer d. refl; full = λ n. refl }) h)
  fills_holds Timescales p h = absurd (nothing_fills envs s Timescales p (record { apart = λ env. record { assign = λ how a e. refl; operand = λ e. refl; cases = λ e ls. refl; delay = λ n d. refl; print = λ xs. refl; event = λ e. refl }; port = λ own outer d. refl; full = λ n. refl }) h)
  fills_holds (Format wrong) p (inl h) = absurd (no_port (Format wrong) p (λ d. refl) h.0)
  fills_holds (Format wrong) p (inr h) = h

  -- each fault is one of these
  holds_split : (r : Reason) (p : Path) → Holds ms envs s r p → HoldsOpening ms s r p ⊎ FillsNot envs s r p
  holds_split NoModule p h = inl h
  holds_split Inside p h = inl h
  holds_split PortMismatch p h = inl h
  holds_split ParameterMismatch p h = inl h
  holds_split DeclaredTwice p (inl h) = inl (inl h)
  holds_split DeclaredTwice p (inr (inl h)) = inl (inr (inl h))
  holds_split DeclaredTwice p (inr (inr (inl h))) = inl (inr (inr (inl h)))
  holds_split DeclaredTwice p (inr (inr (inr (inl h)))) = inl (inr (inr (inr h)))
  holds_split DeclaredTwice p (inr (inr (inr (inr h)))) = inr (inr h)
  holds_split DrivenTwice p h = absurd h
  holds_split Limit p (inl h) = inl (inl h)
  holds_split Limit p (inr (inl h)) = inl (inr (inl h))
  holds_split Limit p (inr (inr (inl h))) = inl (inr (inr h))
  holds_split Limit p (inr (inr (inr h))) = inr (inr h)
  holds_split (Width w) p (inl h) = inl (inl h)
  holds_split (Width w) p (inr (inl h)) = inl (inr (inl h))
  holds_split (Width w) p (inr (inr (inl h))) = inl (inr (inr (inl h)))
  holds_split (Width w) p (inr (inr (inr (inl h)))) = inl (inr (inr (inr (inl h))))
  holds_split (Width w) p (inr (inr (inr (inr (inl h))))) = inl (inr (inr (inr (inr h))))
  holds_split (Width w) p (inr (inr (inr (inr (inr (inl h)))))) = inr (inl h)
  holds_split (Width w) p (inr (inr (inr (inr (inr (inr h)))))) = inr (inr h)
  holds_split Endless p h = inl h
  holds_split Unnamed p h = inl h
  holds_split Timescales p h = inl h
  holds_split (Format wrong) p h = inr (inr h)

-- ---- faults of scopes

module _ (ms : List Module) (envs : Path → Surroundings) (r : Reason) (p : Path) where
  in_opening : (ss : List Scope) → HoldsOpeningIn ms ss r p → HoldsIn ms envs ss r p
  in_opening [] h = h
  in_opening (s ∷ ss) (inl h) = inl (opening_holds ms envs s r p h)
  in_opening (s ∷ ss) (inr h) = inr (in_opening ss h)

  in_at : (ss : List Scope) (k : ℕ) (s : Scope) → slice_get ss k ≡ Some s → Holds ms envs s r p → HoldsIn ms envs ss r p
  in_at [] k s e h = absurd (none-some s e)
  in_at (x ∷ ss) zero s e h = inl (subst (λ z. Holds ms envs z r p) (sym (same_Some x s e)) h)
  in_at (x ∷ ss) (suc k) s e h = inr (in_at ss k s e h)

  -- no fault of these kinds stands in scopes
  none_within : (ss : List Scope) → (HoldsOpeningIn ms ss r p → ⊥) → ((k : ℕ) (s : Scope) → slice_get ss k ≡ Some s → FillsNot envs s r p → ⊥) → HoldsIn ms envs ss r p → ⊥
  none_within [] none fills h = h
  none_within (s ∷ ss) none fills (inl h) = by (holds_split ms envs s r p h)
    where
      by : HoldsOpening ms s r p ⊎ FillsNot envs s r p → ⊥
      by (inl u) = none (inl u)
      by (inr u) = fills 0 s refl u
  none_within (s ∷ ss) none fills (inr h) = none_within ss (λ u. none (inr u)) (λ k t e u. fills (suc k) t e u) h

-- a fault of one of several scopes, that is told while they are opened
pub opening_at : (ms : List Module) (ss : List Scope) (k : ℕ) (s : Scope) (r : Reason) (p : Path) → slice_get ss k ≡ Some s → HoldsOpening ms s r p → HoldsOpeningIn ms ss r p
opening_at ms [] k s r p e h = absurd (none-some s e)
opening_at ms (x ∷ ss) zero s r p e h = inl (subst (λ z. HoldsOpening ms z r p) (sym (same_Some x s e)) h)
opening_at ms (x ∷ ss) (suc k) s r p e h = inr (opening_at ms ss k s r p e h)

-- ---- faults of a source

module _ (source : Source) (top : List ℕ) where
  above_opening : (r : Reason) (p : Path) → HoldsOpeningAbove source.modules.items top r p → HoldsAbove source top r p
  above_opening NoModule p h = h
  above_opening Inside p h = h
  above_opening PortMismatch p h = h
  above_opening ParameterMismatch p h = h
  above_opening DeclaredTwice p h = h
  above_opening DrivenTwice p h = absurd h
  above_opening Limit p h = h
  above_opening (Width w) p h = h
  above_opening Endless p h = h
  above_opening Unnamed p h = h
  above_opening Timescales p h = absurd h
  above_opening (Format wrong) p h = h

  stands_opening : (r : Reason) (p : Path) → HasOpeningFault source.modules.items top r p → HoldsFault source top r p
  stands_opening r p (inl h) = inl (above_opening r p h)
  stands_opening r p (inr h) = inr (in_opening source.modules.items (surroundings_of source top) r p (scopes_of source.modules.items top) h)

  stands_filling : (r : Reason) (p : Path) → FillsOneNot (surroundings_of source top) (scopes_of source.modules.items top) r p → HoldsFault source top r p
  stands_filling r p h = inr (in_at source.modules.items (surroundings_of source top) r p (scopes_of source.modules.items top) h.place h.scope h.stands (fills_holds source.modules.items (surroundings_of source top) h.scope r p h.fault))

  told_stands : (e : ElabFault) → IsReported (HoldsFault source top) e → Faults source top e
  told_stands Memory h = tt
  told_stands (At r bytes) h = record { path = h.0; text = h.1; stands = h.2 }

  -- time scales that differ stand
  pub timescales_told : (e : ElabFault) → has_other_timescale source ≡ true → IsFaultAt Timescales (plainly top ∷ []) e → Faults source top e
  timescales_told e h f = told_stands e (told_at (HoldsFault source top) Timescales (plainly top ∷ []) e (inl (h, refl)) f)

  -- a fault that is told while scopes are opened stands
  pub opening_told : (e : ElabFault) → IsReported (HasOpeningFault source.modules.items top) e → Faults source top e
  opening_told e h = told_stands e (told_by (HasOpeningFault source.modules.items top) (HoldsFault source top) e stands_opening h)

  -- a fault of a continuous assignment or a process stands
  pub filling_told : (e : ElabFault) → IsReported (FillsOneNot (surroundings_of source top) (scopes_of source.modules.items top)) e → Faults source top e
  filling_told e h = told_stands e (told_by (FillsOneNot (surroundings_of source top) (scopes_of source.modules.items top)) (HoldsFault source top) e stands_filling h)

  -- where no fault of these kinds stands, none does
  module _ (none : (r : Reason) (p : Path) → HasOpeningFault source.modules.items top r p → ⊥) (fills : (k : ℕ) (s : Scope) → slice_get (scopes_of source.modules.items top) k ≡ Some s → (r : Reason) (p : Path) → FillsNot (surroundings_of source top) s r p → ⊥)
      (once : (p : Path) → DrivesTwice (scopes_of source.modules.items top) p → ⊥) (same : has_other_timescale source ≡ false) where
    none_above : (r : Reason) (p : Path) → HoldsAbove source top r p → ⊥
    none_above NoModule p h = none NoModule p (inl h)
    none_above Inside p h = h
    none_above PortMismatch p h = h
    none_above ParameterMismatch p h = h
    none_above DeclaredTwice p h = none DeclaredTwice p (inl h)
    none_above DrivenTwice p h = once p h
    none_above Limit p h = h
    none_above (Width w) p h = none (Width w) p (inl h)
    none_above Endless p h = h
    none_above Unnamed p h = h
    none_above Timescales p h = true≢false (sym h.0 ∙ same)
    none_above (Format wrong) p h = h

    pub none_stands : (r : Reason) (p : Path) → HoldsFault source top r p → ⊥
    none_stands r p (inl h) = none_above r p h
    none_stands r p (inr h) = none_within source.modules.items (surroundings_of source top) r p (scopes_of source.modules.items top) (λ u. none r p (inr u)) (λ k s e u. fills k s e r p u) h
