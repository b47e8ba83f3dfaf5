-- Continuous assignments and processes that are added to a design, a part at a time.
use Rattle.std.proofs.Common.{◌≡◌, ℕ, zero, suc, ◌+◌, ◌-◌, ◌<◌, ◌⊎◌, Bool, true, false, List, [], ◌∷◌, ◌++◌, Option, Some, Result, Ok, Err, IfOk, MatchResult, length, map, take, slice_get, refl, ap, ap₂, sym, subst, ◌∙◌, append_assoc, inl, inr, arith, true≢false, eq-eqb}
use Rattle.std.proofs.Math.Path.{fun_ext}
use Rattle.std.specs.List.{list_any, flat_map, AllZip}
use Rattle.std.proofs.lemmas.List.{map-append, length-map, length-append, append-nil}
use Rattle.std.proofs.lemmas.List.Concat.{flat_map-append}
use Rattle.std.proofs.lemmas.Slice.Zip.{all_zipped_more, AllZip-long}
use Rattle.std.proofs.lemmas.List.Folds.{list_any-append}
use Rattle.std.proofs.lemmas.Option.{none-some, same_Some, slice_get_within, get_or_from_slice_get}
use Rattle.vs_syntax.specs.declared.tree.Expr.{Expr}
use Rattle.vs_syntax.specs.declared.tree.Declarator.{Declarator}
use Rattle.vs_syntax.specs.declared.tree.Form.{Form}
use Rattle.vs_syntax.specs.declared.tree.Item.{Item}
use Rattle.vs_syntax.specs.declared.tree.Item.TheVariants as t
use Rattle.vs_syntax.specs.declared.tree.Stmt.{Stmt}
use Rattle.vs_syntax.specs.declared.tree.Direction.{Direction}
use Rattle.vs_syntax.specs.declared.tree.Direction.TheVariants.{Input, Output}
use Rattle.vs_design.specs.WellFormed.{counts_from}
use Rattle.vs_design.specs.declared.design.Assign.{Assign}
use Rattle.vs_design.specs.declared.design.Process.{Process}
use Rattle.vs_elab_statements.specs.vs_scopes.specs.declared.faults.Reason.{Reason}
use Rattle.vs_elab_statements.specs.vs_scopes.specs.declared.faults.ElabFault.{ElabFault}
use Rattle.vs_elab_statements.specs.vs_widths.specs.declared.kinds.AssignmentKind.TheVariants.{Continuous}
use Rattle.vs_elab_statements.specs.vs_scopes.specs.Printed.{Path, own_name, port_assign_name, part_name}
use Rattle.std.specs.declared.vec.Vec.{Vec}
use Rattle.std.specs.declared.alloc.Global.{Global}
use Rattle.std.specs.Borrow.{Bor}
use Rattle.vs_elab_statements.specs.vs_scopes.specs.vs_widths.specs.Environment.{Environment}
use Rattle.vs_elab_statements.specs.vs_widths.specs.Names.{meaning_of, nested_names}
use Rattle.vs_elab_statements.specs.vs_scopes.specs.Declarations.{Bindings}
use Rattle.vs_elab_hierarchy.specs.vs_scopes.specs.Reads.{read_piece}
use Rattle.vs_elab_hierarchy.specs.vs_scopes.specs.declared.scope.ScopePiece.{ScopePiece as FoundPiece}
use Rattle.vs_elab_hierarchy.specs.vs_scopes.specs.declared.scope.ScopePiece.TheVariants as p
use Rattle.vs_elab_statements.specs.vs_scopes.specs.declared.ports.ModulePort.{ModulePort as FoundPort}
use Rattle.vs_elab_statements.specs.vs_scopes.specs.scopes_passes.Parts.{read_port, read_ends}
use Rattle.vs_elab_statements.specs.vs_elab_signals.specs.declared.opened.ElabScope.{ElabScope as FoundScope}
use Rattle.vs_elab_statements.specs.vs_elab_signals.specs.Opened.{IsWithin, IsOutermost}
use Rattle.vs_elab_statements.specs.vs_scopes.specs.Scopes.{Scope, environment}
use Rattle.vs_elab_statements.specs.vs_scopes.specs.scopes_passes.Answers.{IsReported}
use Rattle.vs_elab_statements.specs.vs_scopes.proofs.Folds.{any_push}
use Rattle.std.proofs.lemmas.Bool.{or_left as left_true, or_right as right_true}
use Rattle.vs_design.specs.vs_logic4.proofs.Basics.{take_push}
use Rattle.vs_elab_statements.specs.vs_scopes.proofs.AnswerLemmas.{told_by}
use Rattle.vs_elab_statements.specs.Statements.{IsAssignment}
use Rattle.vs_elab_statements.specs.Members.{Assignment, named_signal, assignment_of, PortDriver, connected, port_of, of_text, Behavior, setting, port_drivers, drivers_in, behaviors_by_item, behaviors_in, port_setting, drivers_of, port_drivers_of, behaviors_of}
use Rattle.vs_elab_statements.specs.Processes.{kind_of, statements_of, HasBehaviorFault}
use Rattle.vs_elab_statements.specs.Surroundings.{Surroundings}
use Rattle.vs_elab_statements.specs.passes.Bodies.{counting, MeansBody}
use Rattle.vs_elaborate.specs.declared.contents.Contents.{Contents}
use Rattle.vs_elaborate.specs.Drivers.{IsPortAssign}
use Rattle.vs_elaborate.specs.DesignOf.{PartOf, port_part, parts_from, assigns_of, processes_of, IsProcess, IsAssign}
use Rattle.vs_elaborate.specs.passes.Filling.{Adds, AreSound, AddsNot, port_faults, text_faults, Connects, ConnectsNot, text_parts, Drives, DrivesNot, RunSoundly, Runs, RunsNot, HasMembers, FillsNot, DrivesScope, FillsScope, Fills, FillsOneNot}
use Rattle.vs_elab_statements.specs.vs_elab_signals.proofs.DeclareLemmas.{any_last}
use Rattle.vs_design.specs.vs_logic4.proofs.Basics.{any_front, at_end, slice_front as at_first, there, zip_append as zipped_append}

-- ---- parts with their names

pub length_parts : {A : Type 0} (letter : ℕ) (s : Scope) (k : ℕ) (xs : List A) → length (parts_from letter s k xs) ≡ length xs
length_parts letter s k [] = refl
length_parts letter s k (x ∷ xs) = ap suc (length_parts letter s (suc k) xs)

parts_more : {A : Type 0} (letter : ℕ) (s : Scope) (k : ℕ) (xs : List A) (x : A) → parts_from letter s k (xs ++ x ∷ []) ≡ parts_from letter s k xs ++ record { scope = s; name = own_name letter (k + length xs); part = x } ∷ []
parts_more {A} letter s k [] x =
    let P : ℕ → List (PartOf A) = λ n. record { scope = s; name = own_name letter n; part = x } ∷ [] in
    let e : k ≡ k + 0 = omega arith in ap P e
parts_more {A} letter s k (y ∷ ys) x =
    let Q : List (PartOf A) → List (PartOf A) = λ z. record { scope = s; name = own_name letter k; part = y } ∷ z in
    let P : ℕ → List (PartOf A) = λ n. Q (parts_from letter s (suc k) ys ++ record { scope = s; name = own_name letter n; part = x } ∷ []) in
    let e : suc k + length ys ≡ k + suc (length ys) = omega arith in
    ap Q (parts_more letter s (suc k) ys x) ∙ ap P e

parts_push : {A : Type 0} (letter : ℕ) (s : Scope) (xs : List A) (x : A) (number : ℕ) → number ≡ length xs → parts_from letter s 0 (xs ++ x ∷ []) ≡ parts_from letter s 0 xs ++ record { scope = s; name = own_name letter number; part = x } ∷ []
parts_push {A} letter s xs x number n =
    let P : ℕ → List (PartOf A) = λ k. parts_from letter s 0 xs ++ record { scope = s; name = own_name letter k; part = x } ∷ [] in
    let e : 0 + length xs ≡ number = omega (arith, n) in
    parts_more letter s 0 xs x ∙ ap P e

text_push : (s : Scope) (xs : List Assignment) (x : Assignment) (number : ℕ) → number ≡ length xs → text_parts s (xs ++ x ∷ []) ≡ text_parts s xs ++ record { scope = s; name = own_name 97 number; part = of_text x } ∷ []
text_push s xs x number n = ap (parts_from 97 s 0) (map-append of_text xs (x ∷ [])) ∙ parts_push 97 s (map of_text xs) (of_text x) number (n ∙ sym (length-map xs of_text))

length_texts : (s : Scope) (xs : List Assignment) → length (text_parts s xs) ≡ length xs
length_texts s xs = length_parts 97 s 0 (map of_text xs) ∙ length-map xs of_text

-- ---- one more

counts_counting : (a n : ℕ) → counts_from a (counting a n) ≡ true
counts_counting a zero = refl
counts_counting a (suc n) = rw (eq-eqb a a refl) (counts_counting (suc a) n)

module _ {A B P : Type 0} (Sound : List A → Type 0) (R : P → PartOf B → Type 0) (parts : List A → List (PartOf B)) (first : ℕ) where
  -- one more part
  adds_push : (all new start : List P) (done : List A) (x : A) (p : P) (q : PartOf B) → new ≡ all ++ p ∷ [] → (Sound done → Sound (done ++ x ∷ [])) → parts (done ++ x ∷ []) ≡ parts done ++ q ∷ [] → R p q →
      Adds Sound R parts first all start done → Adds Sound R parts first new start (done ++ x ∷ [])
  adds_push all new start done x p q h sound e one r = record {
    begun = r.begun;
    sound = sound r.sound;
    added = r.added ++ p ∷ [];
    grown = h ∙ ap (λ z. z ++ p ∷ []) r.grown ∙ append_assoc start r.added (p ∷ []);
    means = subst (AllZip R (r.added ++ p ∷ [])) (sym e) (all_zipped_more R r.added (parts done) p q r.means one);
  }

  -- how many parts there are
  adds_count : (all start : List P) (done : List A) (number : ℕ) → length (parts done) ≡ length done → number ≡ length all - first → Adds Sound R parts first all start done → number ≡ length done
  adds_count all start done number k n r =
      let long : length all ≡ length start + length r.added = ap length r.grown ∙ length-append start r.added in
      let zipped : length (parts done) ≡ length r.added = AllZip-long R r.added (parts done) r.means in
      omega (arith, n, long, r.begun, zipped, k)

  adds_none : (all : List P) → parts [] ≡ [] → Sound [] → length all ≡ first → Adds Sound R parts first all all []
  adds_none all e s h = record { begun = h; sound = s; added = []; grown = sym (append-nil all); means = subst (AllZip R []) (sym e) tt }

  -- all that was added from nothing on
  adds_all : (all : List P) (done : List A) → Adds Sound R parts first all [] done → AllZip R all (parts done)
  adds_all all done r = subst (λ z. AllZip R z (parts done)) (sym r.grown) r.means

sound_push : {A : Type 0} (fault : Reason → A → Bool) (xs : List A) (x : A) → ((r : Reason) → fault r x ≡ false) → AreSound fault xs → AreSound fault (xs ++ x ∷ [])
sound_push fault xs x one all r = any_push (fault r) xs x (all r) (one r)

at_last : {A : Type 0} (xs : List A) (x y : A) (i : ℕ) → slice_get (xs ++ x ∷ []) i ≡ Some y → (slice_get xs i ≡ Some y) ⊎ (x ≡ y)
at_last [] x y zero h = inr (same_Some x y h)
at_last [] x y (suc i) h = absurd (none-some y h)
at_last (z ∷ zs) x y zero h = inl h
at_last (z ∷ zs) x y (suc i) h = at_last zs x y i h

runs_sound : (envs : Path → Surroundings) (s : Scope) (xs : List Behavior) (x : Behavior) → ((r : Reason) (at : Path) → HasBehaviorFault envs r at s.path x → ⊥) → RunSoundly envs s xs → RunSoundly envs s (xs ++ x ∷ [])
runs_sound envs s xs x one all r p h = by (at_last xs x h.behavior h.place h.stands)
  where
    by : (slice_get xs h.place ≡ Some h.behavior) ⊎ (x ≡ h.behavior) → ⊥
    by (inl e) = all r p (record { place = h.place; behavior = h.behavior; stands = e; fault = h.fault })
    by (inr e) = one r p (subst (λ z. HasBehaviorFault envs r p s.path z) (sym e) h.fault)

pub runs_push : (envs : Path → Surroundings) (s : Scope) (first number : ℕ) (contents new start : Contents) (done : List Behavior) (x : Behavior) (p : Process) → new.processes.items ≡ contents.processes.items ++ p ∷ [] → new.assigns.items ≡ contents.assigns.items → number ≡ length contents.processes.items - first → p.name.items ≡ part_name s.path (own_name 112 number) → p.kind ≡ kind_of x →
    ((r : Reason) (at : Path) → HasBehaviorFault envs r at s.path x → ⊥) × MeansBody envs s.path x p.body → Runs envs s first contents start done → Runs envs s first new start (done ++ x ∷ [])
runs_push envs s first number contents new start done x p h a n text kind body r =
    let parts : List Behavior → List (PartOf Behavior) = parts_from 112 s 0 in
    let count = adds_count (RunSoundly envs s) (IsProcess envs) parts first contents.processes.items start.processes.items done number (length_parts 112 s 0 done) n r.adds in
    let one : IsProcess envs p (record { scope = s; name = own_name 112 number; part = x }) = record { name = text; kind = kind; body = body.1.means; numbered = ap (counts_from 0) body.1.numbered ∙ counts_counting 0 (statements_of x) } in
    record {
      adds = adds_push (RunSoundly envs s) (IsProcess envs) parts first contents.processes.items new.processes.items start.processes.items done x p _ h (runs_sound envs s done x body.0) (parts_push 112 s done x number count) one r.adds;
      assigns = a ∙ r.assigns;
    }

pub drives_push : (s : Scope) (number : ℕ) (assigns new start : List Assign) (done : List Assignment) (x : Assignment) (p : Assign) → new ≡ assigns ++ p ∷ [] → number ≡ length assigns - 0 → p.name.items ≡ part_name s.path (own_name 97 number) →
    ((r : Reason) → text_faults s r x ≡ false) × IsAssignment Continuous (environment s) x.target x.value p.target p.source → Drives s assigns start done → Drives s new start (done ++ x ∷ [])
drives_push s number assigns new start done x p h n text body r =
    let count = adds_count (AreSound (text_faults s)) IsAssign (text_parts s) 0 assigns start done number (length_texts s done) n r in
    let one : IsAssign p (record { scope = s; name = own_name 97 number; part = of_text x }) = record { name = text; sides = body.1 } in
    adds_push (AreSound (text_faults s)) IsAssign (text_parts s) 0 assigns new start done x p _ h (sound_push (text_faults s) done x body.0) (text_push s done x number count) one r

pub port_of_connected : (d : Direction) (n : List ℕ) (e : Expr) → port_of (connected d n e) ≡ n
port_of_connected Input n e = refl
port_of_connected Output n e = refl

pub connects_push : (s : Scope) (assigns new start : List Assign) (done : List PortDriver) (x : PortDriver) (n : List ℕ) (p : Assign) → new ≡ assigns ++ p ∷ [] → port_of x ≡ n → p.name.items ≡ part_name s.path (port_assign_name n) →
    ((r : Reason) → port_faults s r x ≡ false) × IsPortAssign (environment s) s.outer x p.target p.source → Connects s assigns start done → Connects s new start (done ++ x ∷ [])
connects_push s assigns new start done x n p h k text body r =
    let one : IsAssign p (port_part s x) = record { name = text ∙ ap (λ z. part_name s.path (port_assign_name z)) (sym k); sides = body.1 } in
    adds_push (AreSound (port_faults s)) IsAssign (map (port_part s)) (length start) assigns new start done x p _ h (sound_push (port_faults s) done x body.0) (map-append (port_part s) done (x ∷ [])) one r

-- before a pass
pub connects_none : (s : Scope) → Connects s [] [] []
connects_none s = adds_none (AreSound (port_faults s)) IsAssign (map (port_part s)) 0 [] refl (λ r. refl) refl

pub drives_none : (s : Scope) → Drives s [] [] []
drives_none s = adds_none (AreSound (text_faults s)) IsAssign (text_parts s) 0 [] refl (λ r. refl) refl

pub runs_none : (envs : Path → Surroundings) (s : Scope) (first : ℕ) (contents : Contents) → length contents.processes.items ≡ first → Runs envs s first contents contents []
runs_none envs s first contents h = record {
  adds = adds_none (RunSoundly envs s) (IsProcess envs) (parts_from 112 s 0) first contents.processes.items refl (λ r p u. none-some u.behavior u.stands) h;
  assigns = refl;
}

-- ---- a fault among more

adds_not_more : {A : Type 0} (fault : Reason → A → Bool) (at : Path) (xs ys : List A) (r : Reason) (p : Path) → AddsNot fault at xs r p → AddsNot fault at (xs ++ ys) r p
adds_not_more fault at xs ys r p h = (any_front (fault r) xs ys h.0, h.1)

pub runs_not_more : (envs : Path → Surroundings) (s : Scope) (start : Contents) (xs ys : List Behavior) (r : Reason) (p : Path) → RunsNot envs s start xs r p → RunsNot envs s start (xs ++ ys) r p
runs_not_more envs s start xs ys r p h = record { place = h.place; behavior = h.behavior; stands = at_first xs ys h.place h.behavior h.stands; fault = h.fault }

pub drives_not_more : (s : Scope) (start : List Assign) (xs ys : List Assignment) (r : Reason) (p : Path) → DrivesNot s start xs r p → DrivesNot s start (xs ++ ys) r p
drives_not_more s start = adds_not_more (text_faults s) s.path

pub connects_not_more : (s : Scope) (start : List Assign) (xs ys : List PortDriver) (r : Reason) (p : Path) → ConnectsNot s start xs r p → ConnectsNot s start (xs ++ ys) r p
connects_not_more s start = adds_not_more (port_faults s) s.around

pub runs_last : (envs : Path → Surroundings) (s : Scope) (start : Contents) (done : List Behavior) (x : Behavior) (e : ElabFault) → IsReported (λ r at. HasBehaviorFault envs r at s.path x) e → IsReported (RunsNot envs s start (done ++ x ∷ [])) e
runs_last envs s start done x e h =
    told_by (λ r at. HasBehaviorFault envs r at s.path x) (RunsNot envs s start (done ++ x ∷ [])) e (λ r p u. record { place = length done; behavior = x; stands = at_end done x; fault = u }) h

-- a declaration assignment, where there is one
pub setting_some : (n m : List ℕ) (o : Option Expr) (e : Expr) → m ≡ n → o ≡ Some e → setting m (Some e) ≡ setting n o
setting_some n m o e h k = ap (λ z. setting z (Some e)) h ∙ ap (setting n) (sym k)

pub assignment_some : (n m : List ℕ) (o : Option Expr) (e : Expr) → m ≡ n → o ≡ Some e → record { target = named_signal m; value = e } ∷ [] ≡ assignment_of n o
assignment_some n m o e h k = (let P : List ℕ → List Assignment = λ z. record { target = named_signal z; value = e } ∷ [] in ap P h) ∙ ap (assignment_of n) (sym k)

-- ---- a scope

pub fills : (envs : Path → Surroundings) (s : Scope) (n : ℕ) (a c d : Contents) → DrivesScope s a c → Runs envs s n d c (behaviors_of s) → FillsScope envs s a d
fills envs s n a c d p r = record {
  sound = sound;
  assigns_added = p.ports ++ p.text;
  assigns = r.assigns ∙ p.assigns;
  drivers_mean = zipped_append IsAssign p.ports (map (port_part s) (port_drivers_of s)) p.text (text_parts s (drivers_of s)) (adds_all (AreSound (port_faults s)) IsAssign (map (port_part s)) 0 p.ports (port_drivers_of s) p.ports_added) (adds_all (AreSound (text_faults s)) IsAssign (text_parts s) 0 p.text (drivers_of s) p.text_added);
  processes_added = r.adds.added;
  processes = r.adds.grown ∙ ap (λ (z : Vec Process Global). z.items ++ r.adds.added) p.processes;
  behaviors_mean = r.adds.means;
}
  where
    sound : (w : Reason) (at : Path) → FillsNot envs s w at → ⊥
    sound w at (inl h) = true≢false (sym h.0 ∙ p.ports_added.sound w)
    sound w at (inr (inl h)) = r.adds.sound w at (record { place = h.place; behavior = h.behavior; stands = h.stands; fault = h.fault })
    sound w at (inr (inr h)) = true≢false (sym h.0 ∙ p.text_added.sound w)

module _ (envs : Path → Surroundings) (s : Scope) (start : List Assign) (e : ElabFault) where
  pub connects_told : IsReported (ConnectsNot s start (port_drivers_of s)) e → IsReported (FillsNot envs s) e
  connects_told h = told_by (ConnectsNot s start (port_drivers_of s)) (FillsNot envs s) e (λ r p k. inl k) h

  pub drives_told : IsReported (DrivesNot s start (drivers_of s)) e → IsReported (FillsNot envs s) e
  drives_told h = told_by (DrivesNot s start (drivers_of s)) (FillsNot envs s) e (λ r p k. inr (inr k)) h

module _ (envs : Path → Surroundings) (s : Scope) (start : Contents) (e : ElabFault) where
  pub runs_told : IsReported (RunsNot envs s start (behaviors_of s)) e → IsReported (FillsNot envs s) e
  runs_told h = told_by (RunsNot envs s start (behaviors_of s)) (FillsNot envs s) e (λ r p k. inr (inl (record { place = k.place; behavior = k.behavior; stands = k.stands; fault = k.fault }))) h

-- ---- several scopes

pub fills_none : (envs : Path → Surroundings) (contents : Contents) → contents.assigns.items ≡ [] → contents.processes.items ≡ [] → Fills envs [] contents
fills_none envs contents a p = record {
  sound = λ k s e. absurd (none-some s e);
  drivers = subst (λ z. AllZip IsAssign z []) (sym a) tt;
  behaviors = subst (λ z. AllZip (IsProcess envs) z []) (sym p) tt;
}

flat_push : {A B : Type 0} (f : A → List B) (xs : List A) (x : A) → flat_map f (xs ++ x ∷ []) ≡ flat_map f xs ++ f x
flat_push f xs x = flat_map-append f xs (x ∷ []) ∙ ap (λ l. flat_map f xs ++ l) (append-nil (f x))

pub fills_more : (envs : Path → Surroundings) (more : List Scope) (s : Scope) (old new : Contents) → Fills envs more old → FillsScope envs s old new → Fills envs (more ++ s ∷ []) new
fills_more envs more s old new h k = record {
  sound = sound;
  drivers = subst (λ z. AllZip IsAssign z (flat_map assigns_of (more ++ s ∷ []))) (sym k.assigns)
      (subst (AllZip IsAssign (old.assigns.items ++ k.assigns_added)) (sym (flat_push assigns_of more s)) (zipped_append IsAssign old.assigns.items (flat_map assigns_of more) k.assigns_added (assigns_of s) h.drivers k.drivers_mean));
  behaviors = subst (λ z. AllZip (IsProcess envs) z (flat_map processes_of (more ++ s ∷ []))) (sym k.processes)
      (subst (AllZip (IsProcess envs) (old.processes.items ++ k.processes_added)) (sym (flat_push processes_of more s)) (zipped_append (IsProcess envs) old.processes.items (flat_map processes_of more) k.processes_added (processes_of s) h.behaviors k.behaviors_mean));
}
  where
    by : (t : Scope) (i : ℕ) → (slice_get more i ≡ Some t) ⊎ (s ≡ t) → (r : Reason) (p : Path) → FillsNot envs t r p → ⊥
    by t i (inl e) r p u = h.sound i t e r p u
    by t i (inr e) r p u = k.sound r p (subst (λ z. FillsNot envs z r p) (sym e) u)

    sound : (i : ℕ) (t : Scope) → slice_get (more ++ s ∷ []) i ≡ Some t → (r : Reason) (p : Path) → FillsNot envs t r p → ⊥
    sound i t e r p u = by t i (at_last more s t i e) r p u

-- ---- what is around a scope

pub outside_some : {A : Type 0} (ss : List Scope) (s : Scope) (place : ℕ) (r : Result (Vec (Bor Bindings) Global) A) → IsWithin ss place s →
    ((t : Scope) → slice_get ss place ≡ Some t → IfOk r (λ v. (n : List ℕ) → meaning_of (nested_names v.items) n ≡ environment t n)) → IfOk r (λ v. (n : List ℕ) → meaning_of (nested_names v.items) n ≡ s.outer n)
outside_some ss s place (Ok v) h g = λ n. g h.outer_scope h.stands n ∙ ap (λ (z : Environment). z n) (sym h.outer)
outside_some ss s place (Err e) h g = tt

pub outside_none : (ss : List Scope) (s : Scope) (names : List (Bor Bindings)) → names ≡ [] → IsOutermost s → (n : List ℕ) → meaning_of (nested_names names) n ≡ s.outer n
outside_none ss s names e h n = ap (λ z. meaning_of (nested_names z) n) e ∙ ap (λ (z : Environment). z n) (sym h.outer)

-- ---- what a scope of a list has

flat_each : {A B C : Type 0} (f : B → List C) (g : A → B) (xs : List A) → flat_map (λ x. f (g x)) xs ≡ flat_map f (map g xs)
flat_each f g [] = refl
flat_each f g (x ∷ xs) = ap (λ z. f (g x) ++ z) (flat_each f g xs)

pub flat_read : {A B C : Type 0} (f : B → List C) (g : A → B) (xs : List A) (ys : List B) → map g xs ≡ ys → flat_map (λ x. f (g x)) xs ≡ flat_map f ys
flat_read f g xs ys h = flat_each f g xs ∙ ap (flat_map f) h

module _ (envs : Path → Surroundings) (s : Scope) (o : FoundScope) (m : HasMembers o s) where
  pub ports_are : port_drivers (map read_port o.ports.items) (read_ends o.ends.items) ≡ port_drivers_of s
  ports_are = ap₂ port_drivers m.ports m.ends

  pub texts_are : flat_map (λ (x : FoundPiece). drivers_in (read_piece x)) o.pieces.items ≡ drivers_of s
  texts_are = flat_read drivers_in read_piece o.pieces.items s.pieces m.pieces

  pub runs_are : flat_map (λ (x : FoundPort). port_setting (read_port x)) o.ports.items ++ flat_map (λ (x : FoundPiece). behaviors_in (read_piece x)) o.pieces.items ≡ behaviors_of s
  runs_are = ap₂ (λ x y. x ++ y) (flat_read port_setting read_port o.ports.items s.ports m.ports) (flat_read behaviors_in read_piece o.pieces.items s.pieces m.pieces)

  pub fills_ports_not : (start : List Assign) (e : ElabFault) → IsReported (ConnectsNot s start (port_drivers (map read_port o.ports.items) (read_ends o.ends.items))) e → IsReported (FillsNot envs s) e
  fills_ports_not start e h = connects_told envs s start e (subst (λ z. IsReported (ConnectsNot s start z) e) ports_are h)

  pub fills_texts_not : (start : List Assign) (e : ElabFault) → IsReported (DrivesNot s start (flat_map (λ (x : FoundPiece). drivers_in (read_piece x)) o.pieces.items)) e → IsReported (FillsNot envs s) e
  fills_texts_not start e h = drives_told envs s start e (subst (λ z. IsReported (DrivesNot s start z) e) texts_are h)

  pub fills_settings_not : (start : Contents) (e : ElabFault) → IsReported (RunsNot envs s start (flat_map (λ (x : FoundPort). port_setting (read_port x)) o.ports.items)) e → IsReported (FillsNot envs s) e
  fills_settings_not start e h =
      let front = flat_map (λ (x : FoundPort). port_setting (read_port x)) o.ports.items in
      let rest = flat_map (λ (x : FoundPiece). behaviors_in (read_piece x)) o.pieces.items in
      let all : IsReported (RunsNot envs s start (front ++ rest)) e = told_by (RunsNot envs s start front) (RunsNot envs s start (front ++ rest)) e (λ r p k. runs_not_more envs s start front rest r p k) h in
      runs_told envs s start e (subst (λ z. IsReported (RunsNot envs s start z) e) runs_are all)

  pub drives_scope : (a c : Contents) (ports text : List Assign) → c.assigns.items ≡ a.assigns.items ++ (ports ++ text) → c.processes ≡ a.processes → Connects s ports [] (port_drivers (map read_port o.ports.items) (read_ends o.ends.items)) →
      Drives s text [] (flat_map (λ (x : FoundPiece). drivers_in (read_piece x)) o.pieces.items) → DrivesScope s a c
  drives_scope a c ports text h k p q = record {
    ports = ports;
    text = text;
    ports_added = subst (Connects s ports []) ports_are p;
    text_added = subst (Drives s text []) texts_are q;
    assigns = h;
    processes = k;
  }

  pub fills_all : (k : ℕ) (a c d : Contents) (r : Result Unit ElabFault) → DrivesScope s a c →
      MatchResult r
      (λ _. Runs envs s k d c (flat_map (λ (x : FoundPort). port_setting (read_port x)) o.ports.items ++ flat_map (λ (x : FoundPiece). behaviors_in (read_piece x)) o.pieces.items))
      (IsReported (RunsNot envs s c (flat_map (λ (x : FoundPort). port_setting (read_port x)) o.ports.items ++ flat_map (λ (x : FoundPiece). behaviors_in (read_piece x)) o.pieces.items))) →
      MatchResult r (λ _. FillsScope envs s a d) (IsReported (FillsNot envs s))
  fills_all k a c d (Ok u) p h = fills envs s k a c d p (subst (Runs envs s k d c) runs_are h)
  fills_all k a c d (Err e) p h = runs_told envs s c e (subst (λ z. IsReported (RunsNot envs s c z) e) runs_are h)

-- one of several scopes has a fault
pub fills_one_not : (envs : Path → Surroundings) (ss : List Scope) (k : ℕ) (s : Scope) (e : ElabFault) → slice_get ss k ≡ Some s → IsReported (FillsNot envs s) e → IsReported (FillsOneNot envs ss) e
fills_one_not envs ss k s e h g = told_by (FillsNot envs s) (FillsOneNot envs ss) e (λ r p f. record { place = k; scope = s; stands = h; fault = f }) g

-- a scope at a place, and those before it
pub take_next : {A : Type 0} (xs : List A) (k : ℕ) (x : A) → slice_get xs k ≡ Some x → take (k + 1) xs ≡ take k xs ++ x ∷ []
take_next xs k x h = take_push xs k x (slice_get_within xs k x h) (sym (get_or_from_slice_get xs k x x h))

-- names that are bound around a scope alone
pub outer_names_are : (names nothing outside : Bindings) (env : Environment) → names ≡ nothing ++ outside → nothing ≡ [] → ((n : List ℕ) → meaning_of outside n ≡ env n) → meaning_of names ≡ env
outer_names_are names nothing outside env e k h = fun_ext (λ n. ap (λ z. meaning_of z n) (e ∙ ap (λ z. z ++ outside) k) ∙ h n)

-- ---- what has no process

pub quiet_item : (x : Item) → ((f : Form) (ds : Vec Declarator Global) → x ≡ t.Reg f ds → ⊥) → ((ds : Vec Declarator Global) → x ≡ t.Integer ds → ⊥) → ((y : Stmt) → x ≡ t.Initial y → ⊥) → ((y : Stmt) → x ≡ t.Always y → ⊥) → behaviors_by_item x ≡ []
quiet_item (t.Reg f ds) a b c d = absurd (a f ds refl)
quiet_item (t.Integer ds) a b c d = absurd (b ds refl)
quiet_item (t.Initial y) a b c d = absurd (c y refl)
quiet_item (t.Always y) a b c d = absurd (d y refl)
quiet_item _ a b c d = refl

pub quiet_piece : (x : FoundPiece) → ((i : Bor Item) → x ≡ p.Plain i → ⊥) → behaviors_in (read_piece x) ≡ []
quiet_piece (p.Plain i) a = absurd (a i refl)
quiet_piece _ a = refl

-- nothing more
pub runs_still : (envs : Path → Surroundings) (s : Scope) (first : ℕ) (contents start : Contents) (done xs : List Behavior) → xs ≡ [] → Runs envs s first contents start done → Runs envs s first contents start (done ++ xs)
runs_still envs s first contents start done xs e h = subst (Runs envs s first contents start) (sym (ap (λ z. done ++ z) e ∙ append-nil done)) h
