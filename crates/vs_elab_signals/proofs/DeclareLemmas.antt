-- Names of a scope that get their signals.
use Rattle.std.proofs.Common.{◌≡◌, ℕ, suc, ◌+◌, ◌<◌, ◌≤◌, ◌||◌, Bool, true, false, cond, List, [], ◌∷◌, ◌++◌, Option, None, IsSome, length, map, refl, ap, sym, subst, ◌∙◌, append_assoc, inl, inr, ⊎_elim, arith, true≢false}
use Rattle.std.specs.Prelude.{Result, Ok, Err, MatchResult}
use Rattle.std.specs.List.{list_any, flat_map, AllZip}
use Rattle.std.specs.Str.{bytes_eq}
use Rattle.std.proofs.lemmas.List.{map-append, length-map, length-append, append-nil}
use Rattle.std.proofs.lemmas.List.Folds.{list_any-append}
use Rattle.std.proofs.lemmas.Slice.Zip.{all_zipped_more}
use Rattle.std.specs.Borrow.{Bor}
use Rattle.std.specs.declared.vec.Vec.{Vec}
use Rattle.std.specs.declared.alloc.Global.{Global}
use Rattle.vs_syntax.specs.declared.tree.Declarator.{Declarator}
use Rattle.vs_syntax.specs.declared.tree.Item.{Item}
use Rattle.vs_syntax.specs.declared.tree.Item.TheVariants as t
use Rattle.vs_syntax.specs.declared.tree.LocalDeclaration.{LocalDeclaration}
use Rattle.vs_elab_signals.specs.vs_scopes.specs.declared.scope.ScopePiece.{ScopePiece as FoundPiece}
use Rattle.vs_elab_signals.specs.vs_scopes.specs.declared.scope.ScopePiece.TheVariants as p
use Rattle.vs_elab_signals.specs.vs_scopes.specs.Reads.{read_piece}
use Rattle.vs_syntax.specs.declared.tree.Form.{Form}
use Rattle.vs_syntax.specs.declared.tree.Range.{Range}
use Rattle.vs_scopes.specs.declared.sizes.Size.{Size}
use Rattle.vs_scopes.specs.declared.words.WordCount.{WordCount}
use Rattle.vs_scopes.specs.vs_widths.specs.Environment.{Environment}
use Rattle.vs_design.specs.declared.signal.Signal.{Signal}
use Rattle.vs_design.specs.declared.signal.SignalKind.{SignalKind}
use Rattle.vs_design.specs.declared.design.Entry.TheVariants.{Declare}
use Rattle.vs_scopes.specs.vs_widths.specs.declared.bindings.Meaning.{Meaning}
use Rattle.vs_scopes.specs.vs_widths.specs.declared.bindings.Binding.{Binding}
use Rattle.vs_scopes.specs.vs_widths.specs.declared.bindings.Binding.TheVariants as b
use Rattle.vs_scopes.specs.declared.faults.Reason.{Reason}
use Rattle.vs_scopes.specs.declared.faults.Reason.TheVariants.{NoModule, Inside, PortMismatch, ParameterMismatch, DeclaredTwice, DrivenTwice, Limit, Width, Endless, Unnamed, Timescales, Format}
use Rattle.vs_scopes.specs.declared.faults.BodyFault.{BodyFault}
use Rattle.vs_scopes.specs.declared.faults.ElabFault.{ElabFault}
use Rattle.vs_elab_signals.specs.vs_widths.specs.Names.{meaning_of, Declares as NamesDeclare}
use Rattle.vs_scopes.specs.Printed.{Path}
use Rattle.vs_scopes.specs.Ranges.{Sized, shape_with, sized_as, words_as}
use Rattle.vs_scopes.specs.Ports.{without_name}
use Rattle.vs_scopes.specs.Declarations.{Bindings, DeclaredName, declaration_fault, names_in, meaning_as, size_of_kind, declared_by_port, declared_by_item, declared_in, not_joined}
use Rattle.vs_scopes.specs.Scopes.{Scope, keys, constant_names, numbered_names, named}
use Rattle.vs_scopes.specs.scopes_passes.Answers.{Refuses, Elaborates, IsReported, IsFaultAt, IsRefusal, Grows}
use Rattle.vs_scopes.specs.scopes_passes.Sizes.{width_faults, IsSize, AreWords}
use Rattle.vs_elab_signals.specs.passes.Counting.{Counts, TakesOne}
use Rattle.vs_elab_signals.specs.declared.opened.Numbering.{Numbering}
use Rattle.vs_elab_signals.specs.declared.declarations.Declared.{Declared as Names}
use Rattle.vs_elab_signals.specs.Outlines.{declared, signal_of, Line, declare, declare_from, IsEntry}
use Rattle.vs_elab_signals.specs.ScopeFaults.{Repeated}
use Rattle.vs_elab_signals.specs.signal_passes.Naming.{Bound}
use Rattle.vs_elab_signals.specs.signal_passes.Declaring.{declared_so, SameCounts, Keeps, KeepsNot, DeclaresPorts, DeclaresPortsNot, joined_names, still_joined, kept, Declares, DeclaresNot}
use Rattle.vs_scopes.proofs.SizeLemmas.{shape_is, no_faults}
use Rattle.vs_scopes.proofs.Folds.{any_push}
use Rattle.std.proofs.lemmas.Bool.{or_from as both_false, or_left as left_true, or_right as right_true}
use Rattle.vs_scopes.proofs.AnswerLemmas.{told_at, told_by, told_part, refused_by, Kept, kept_none}
use Rattle.vs_elab_signals.proofs.BindLemmas.{bound_push, bound_twice, numbered_push, numbered_keys, repeated_more}
use Rattle.vs_design.specs.vs_logic4.proofs.Basics.{any_front, any_map, map_twice}

-- ---- signals

names_push : (ds : List DeclaredName) (d : DeclaredName) → names_in (ds ++ d ∷ []) ≡ names_in ds ++ d.name ∷ []
names_push ds d = map-append (λ (z : DeclaredName). z.name) ds (d ∷ [])

declare_push : (base : ℕ) (ds : List DeclaredName) (d : DeclaredName) → declare_from base (ds ++ d ∷ []) ≡ declare_from base ds ++ declare (base + length ds) ∷ []
declare_push base [] d =
    let P : ℕ → List Line = λ k. declare k ∷ [] in
    let e : base ≡ base + 0 = omega arith in ap P e
declare_push base (c ∷ ds) d =
    let Q : List Line → List Line = λ z. declare base ∷ z in
    let P : ℕ → List Line = λ k. Q (declare_from (suc base) ds ++ declare k ∷ []) in
    let e : suc base + length ds ≡ base + suc (length ds) = omega arith in
    ap Q (declare_push (suc base) ds d) ∙ ap P e

-- a name that is declared already
pub declared_twice : (s : Scope) (names : Bindings) (plan start : Numbering) (done : List DeclaredName) (d : DeclaredName) (e : ElabFault) → IsFaultAt DeclaredTwice (named s d.name) e → IsSome (meaning_of names d.name) → Keeps s names plan start done → IsReported (KeepsNot s start (done ++ d ∷ [])) e
declared_twice s names plan start done d e f k h =
    let base = length start.signals.items in
    let cs = constant_names s.constants in
    let all : keys (cs ++ numbered_names base done) ++ d.name ∷ [] ≡ keys cs ++ names_in (done ++ d ∷ []) =
    ap (λ z. z ++ d.name ∷ []) (map-append (λ (x : List ℕ × Binding). x.0) cs (numbered_names base done) ∙ ap (λ z. keys cs ++ z) (numbered_keys base done))
    ∙ append_assoc (keys cs) (names_in done) (d.name ∷ []) ∙ ap (λ z. keys cs ++ z) (sym (names_push done d)) in
    told_at (KeepsNot s start (done ++ d ∷ [])) DeclaredTwice (named s d.name) e (d.name, refl, subst (λ z. Repeated z d.name) all (bound_twice names (cs ++ numbered_names base done) d.name h.bound k)) f

count_signals : (s : Scope) (names : Bindings) (plan start : Numbering) (done : List DeclaredName) → Keeps s names plan start done → length plan.signals.items ≡ length start.signals.items + length done
count_signals s names plan start done h =
    sym (length-map plan.signals.items declared) ∙ ap length h.shown ∙ length-append (map declared start.signals.items) (map (signal_of s) done) ∙ ap (λ n. n + length (map (signal_of s) done)) (length-map start.signals.items declared) ∙ ap (λ n. length start.signals.items + n) (length-map done (signal_of s))

-- too many signals
pub declared_over : (s : Scope) (names : Bindings) (plan start : Numbering) (done : List DeclaredName) (d : DeclaredName) (e : ElabFault) → 65536 ≤ length plan.signals.items → IsFaultAt Limit s.path e → Keeps s names plan start done → IsReported (KeepsNot s start (done ++ d ∷ [])) e
declared_over s names plan start done d e o f h =
    let count = count_signals s names plan start done h in
    told_at (KeepsNot s start (done ++ d ∷ [])) Limit s.path e (omega (arith, o, count, length-append done (d ∷ [])), refl) f

module _ (env : Environment) (kind : SignalKind) (z : Sized) (range : Option Range) (name : List ℕ) where
  -- a fault of the range of bits
  pub size_wrong : (f : BodyFault) → Refuses (width_faults z.faults) f → Refuses (λ r. declaration_fault r (declared_so env kind z range name)) f
  size_wrong f h = refused_by (width_faults z.faults) (λ r. declaration_fault r (declared_so env kind z range name)) f by h
    where
      by : (r : Reason) → width_faults z.faults r ≡ true → declaration_fault r (declared_so env kind z range name) ≡ true
      by (Width w) k = left_true (z.faults w) _ k
      by Limit k = absurd (true≢false (sym k))
      by NoModule k = k
      by Inside k = k
      by PortMismatch k = k
      by ParameterMismatch k = k
      by DeclaredTwice k = k
      by DrivenTwice k = k
      by Endless k = k
      by Unnamed k = k
      by Timescales k = k
      by (Format wrong) k = k

  -- a fault of the range of words
  pub words_wrong : (f : BodyFault) → Refuses (words_as env kind range).faults f → Refuses (λ r. declaration_fault r (declared_so env kind z range name)) f
  words_wrong f h = refused_by (words_as env kind range).faults (λ r. declaration_fault r (declared_so env kind z range name)) f by h
    where
      by : (r : Reason) → (words_as env kind range).faults r ≡ true → declaration_fault r (declared_so env kind z range name) ≡ true
      by (Width w) k = right_true (z.faults w) _ k
      by Limit k = k
      by NoModule k = k
      by Inside k = k
      by PortMismatch k = k
      by ParameterMismatch k = k
      by DeclaredTwice k = k
      by DrivenTwice k = k
      by Endless k = k
      by Unnamed k = k
      by Timescales k = k
      by (Format wrong) k = k

  -- ranges that have no fault
  pub declared_right : ((r : Reason) → width_faults z.faults r ≡ false) → ((r : Reason) → (words_as env kind range).faults r ≡ false) → (r : Reason) → declaration_fault r (declared_so env kind z range name) ≡ false
  declared_right h k (Width w) = both_false (z.faults w) _ (h (Width w)) (k (Width w))
  declared_right h k Limit = k Limit
  declared_right h k NoModule = k NoModule
  declared_right h k Inside = k Inside
  declared_right h k PortMismatch = k PortMismatch
  declared_right h k ParameterMismatch = k ParameterMismatch
  declared_right h k DeclaredTwice = k DeclaredTwice
  declared_right h k DrivenTwice = k DrivenTwice
  declared_right h k Endless = k Endless
  declared_right h k Unnamed = k Unnamed
  declared_right h k Timescales = k Timescales
  declared_right h k (Format wrong) = k (Format wrong)

-- a fresh name
pub keeps_push : (s : Scope) (names new : Bindings) (plan after start : Numbering) (done : List DeclaredName) (d : DeclaredName) (m : Meaning) (number : ℕ) (x : Signal) → NamesDeclare true names new d.name (b.Signal m number) → m ≡ meaning_as d → number ≡ length plan.signals.items → number < 65536 → after.signals.items ≡ plan.signals.items ++ x ∷ [] → declared x ≡ signal_of s d → after.outline.items ≡ plan.outline.items ++ Declare number ∷ [] → SameCounts plan after → Keeps s names plan start done → Keeps s new after start (done ++ d ∷ [])
keeps_push s names new plan after start done d m number x fresh e k room sig shown line same h =
    let base = length start.signals.items in
    let cs = constant_names s.constants in
    let count = count_signals s names plan start done h in
    let at : number ≡ base + length done = k ∙ count in
    let made : b.Signal m number ≡ b.Signal (meaning_as d) (base + length done) = ap (λ z. b.Signal z number) e ∙ ap (b.Signal (meaning_as d)) at in
    let push = bound_push names new (cs ++ numbered_names base done) d.name (b.Signal m number) fresh h.bound in
    let P : Binding → Bindings = λ z. cs ++ (numbered_names base done ++ (d.name, z) ∷ []) in
    let all : (cs ++ numbered_names base done) ++ (d.name, b.Signal m number) ∷ [] ≡ cs ++ numbered_names base (done ++ d ∷ []) =
    append_assoc cs (numbered_names base done) ((d.name, b.Signal m number) ∷ []) ∙ ap P made ∙ ap (λ z. cs ++ z) (sym (numbered_push base done d)) in
    record {
      bound = subst (Bound new) all push;
      shown = ap (map declared) sig ∙ map-append declared plan.signals.items (x ∷ []) ∙ ap (λ z. z ++ declared x ∷ []) h.shown ∙ ap (λ z. (map declared start.signals.items ++ map (signal_of s) done) ++ z ∷ []) shown
          ∙ append_assoc (map declared start.signals.items) (map (signal_of s) done) (signal_of s d ∷ []) ∙ ap (λ z. map declared start.signals.items ++ z) (sym (map-append (signal_of s) done (d ∷ [])));
      lines = h.lines ++ Declare number ∷ [];
      outline = line ∙ ap (λ z. z ++ Declare number ∷ []) h.outline ∙ append_assoc start.outline.items h.lines (Declare number ∷ []);
      lines_mean = subst (AllZip IsEntry (h.lines ++ Declare number ∷ [])) (sym (declare_push base done d)) (all_zipped_more IsEntry h.lines (declare_from base done) (Declare number) (declare (base + length done)) h.lines_mean at);
      room = omega (arith, ap length sig, length-append plan.signals.items (x ∷ []), room);
      same = record { instances = same.instances ∙ h.same.instances; turns = same.turns ∙ h.same.turns };
    }

pub keeps_not_more : (s : Scope) (start : Numbering) (xs ys : List DeclaredName) (r : Reason) (p : Path) → KeepsNot s start xs r p → KeepsNot s start (xs ++ ys) r p
keeps_not_more s start xs ys DeclaredTwice p h =
    let cs = keys (constant_names s.constants) in
    let all : (cs ++ names_in xs) ++ names_in ys ≡ cs ++ names_in (xs ++ ys) = append_assoc cs (names_in xs) (names_in ys) ∙ ap (λ z. cs ++ z) (sym (map-append (λ (z : DeclaredName). z.name) xs ys)) in
    (h.0, h.1, subst (λ z. Repeated z h.0) all (repeated_more (cs ++ names_in xs) (names_in ys) h.0 h.2))
keeps_not_more s start xs ys Limit p h = (omega (arith, h.0, length-append xs ys), h.1)
keeps_not_more s start xs ys NoModule p h = h
keeps_not_more s start xs ys Inside p h = h
keeps_not_more s start xs ys PortMismatch p h = h
keeps_not_more s start xs ys ParameterMismatch p h = h
keeps_not_more s start xs ys DrivenTwice p h = h
keeps_not_more s start xs ys (Width w) p h = h
keeps_not_more s start xs ys Endless p h = h
keeps_not_more s start xs ys Unnamed p h = h
keeps_not_more s start xs ys Timescales p h = h
keeps_not_more s start xs ys (Format wrong) p h = h

-- before a pass over declarations
pub keeps_none : (s : Scope) (names : Bindings) (plan : Numbering) → Bound names (constant_names s.constants) → length plan.signals.items ≤ 65536 → Keeps s names plan plan []
keeps_none s names plan h room = record {
  bound = subst (Bound names) (sym (append-nil (constant_names s.constants))) h;
  shown = sym (append-nil (map declared plan.signals.items));
  lines = [];
  outline = sym (append-nil plan.outline.items);
  lines_mean = tt;
  room = room;
  same = record { instances = refl; turns = refl };
}

-- two passes one after the other
pub grows_then : {A C : Type 0} (Old Mid New : C → List A → Type 0) (start : C) (done xs ys : List A) → Kept Old Mid xs → Kept Mid New ys → Old start done → New start (done ++ (xs ++ ys))
grows_then Old Mid New start done xs ys h k o = subst (New start) (append_assoc done xs ys) (k start (done ++ xs) (h start done o))

-- ---- names of ports that other items declare too

-- the names that are still to come, with one more
pub still_joined_push : (ns : List (List ℕ)) (ds : List DeclaredName) (d : DeclaredName) →
    still_joined ns (ds ++ d ∷ []) ≡ cond (list_any (bytes_eq d.name) (still_joined ns ds)) (without_name d.name (still_joined ns ds)) (still_joined ns ds)
still_joined_push ns [] d = refl
still_joined_push ns (x ∷ ds) d = by (list_any (bytes_eq x.name) ns) (still_joined_push (without_name x.name ns) ds d) (still_joined_push ns ds d)
  where
    after : List (List ℕ) → List (List ℕ)
    after ms = cond (list_any (bytes_eq d.name) ms) (without_name d.name ms) ms

    by : (t : Bool) → still_joined (without_name x.name ns) (ds ++ d ∷ []) ≡ after (still_joined (without_name x.name ns) ds) →
        still_joined ns (ds ++ d ∷ []) ≡ after (still_joined ns ds) →
        cond t (still_joined (without_name x.name ns) (ds ++ d ∷ [])) (still_joined ns (ds ++ d ∷ [])) ≡ after (cond t (still_joined (without_name x.name ns) ds) (still_joined ns ds))
    by true h k = h
    by false h k = k

-- the names that get signals, with more behind them
not_joined_append : (ns : List (List ℕ)) (xs ys : List DeclaredName) → not_joined ns (xs ++ ys) ≡ not_joined ns xs ++ not_joined (still_joined ns xs) ys
not_joined_append ns [] ys = refl
not_joined_append ns (x ∷ xs) ys = by (list_any (bytes_eq x.name) ns) (not_joined_append (without_name x.name ns) xs ys) (not_joined_append ns xs ys)
  where
    by : (t : Bool) → not_joined (without_name x.name ns) (xs ++ ys) ≡ not_joined (without_name x.name ns) xs ++ not_joined (still_joined (without_name x.name ns) xs) ys →
        not_joined ns (xs ++ ys) ≡ not_joined ns xs ++ not_joined (still_joined ns xs) ys →
        cond t (not_joined (without_name x.name ns) (xs ++ ys)) (x ∷ not_joined ns (xs ++ ys))
        ≡ cond t (not_joined (without_name x.name ns) xs) (x ∷ not_joined ns xs) ++ not_joined (cond t (still_joined (without_name x.name ns) xs) (still_joined ns xs)) ys
    by true h k = h
    by false h k = ap (λ z. x ∷ z) k

module _ (s : Scope) where
  kept_append : (xs ys : List DeclaredName) → kept s (xs ++ ys) ≡ kept s xs ++ not_joined (still_joined (joined_names s) xs) ys
  kept_append xs ys = ap (λ z. map (declared_by_port s.known) s.ports ++ z) (not_joined_append (joined_names s) xs ys) ∙ sym (append_assoc (map (declared_by_port s.known) s.ports) (not_joined (joined_names s) xs) (not_joined (still_joined (joined_names s) xs) ys))

  -- a name of a port that another item declares too
  kept_taken : (done : List DeclaredName) (d : DeclaredName) → list_any (bytes_eq d.name) (still_joined (joined_names s) done) ≡ true → kept s (done ++ d ∷ []) ≡ kept s done
  kept_taken done d h = kept_append done (d ∷ []) ∙ ap (λ t. kept s done ++ cond t [] (d ∷ [])) h ∙ append-nil (kept s done)

  kept_pushed : (done : List DeclaredName) (d : DeclaredName) → list_any (bytes_eq d.name) (still_joined (joined_names s) done) ≡ false → kept s (done ++ d ∷ []) ≡ kept s done ++ d ∷ []
  kept_pushed done d h = kept_append done (d ∷ []) ∙ ap (λ t. kept s done ++ cond t [] (d ∷ [])) h

-- ---- tests of more names

pub any_last : {A : Type 0} (p : A → Bool) (xs : List A) (x : A) → p x ≡ true → list_any p (xs ++ x ∷ []) ≡ true
any_last p xs x h = list_any-append p xs (x ∷ []) ∙ right_true (list_any p xs) _ (left_true (p x) false h)

-- ---- ports

module _ {B : Type 0} (s : Scope) (names new : Bindings) (plan after : Numbering) (d : DeclaredName) where
  -- the signal of a port whose range has no fault
  pub ports_push : (r : Result B ElabFault) → ((q : Reason) → declaration_fault q d ≡ false) → Grows (Keeps s names plan) (Keeps s new after) (KeepsNot s) (d ∷ []) r → Grows (DeclaresPorts s names plan) (DeclaresPorts s new after) (DeclaresPortsNot s) (d ∷ []) r
  ports_push (Ok x) right g start done h = record { keeps = g start done h.keeps; sized = λ q. any_push (declaration_fault q) done d (h.sized q) (right q) }
  ports_push (Err e) right g start done h = told_by (KeepsNot s start (done ++ d ∷ [])) (DeclaresPortsNot s start (done ++ d ∷ [])) e (λ q p k. inl k) (g start done h.keeps)

-- a range that has a fault
pub ports_wrong : (s : Scope) (start : Numbering) (done : List DeclaredName) (d : DeclaredName) (f : BodyFault) (e : ElabFault) → Refuses (λ r. declaration_fault r d) f → IsRefusal s.path f e → IsReported (DeclaresPortsNot s start (done ++ d ∷ [])) e
ports_wrong s start done d f e h k = told_part (DeclaresPortsNot s start (done ++ d ∷ [])) (λ r. declaration_fault r d) s.path f e (λ r u. inr (any_last (declaration_fault r) done d u, refl)) h k

pub ports_not_more : (s : Scope) (start : Numbering) (xs ys : List DeclaredName) (r : Reason) (p : Path) → DeclaresPortsNot s start xs r p → DeclaresPortsNot s start (xs ++ ys) r p
ports_not_more s start xs ys r p h = ⊎_elim (λ k. inl (keeps_not_more s start xs ys r p k)) (λ k. inr (any_front (declaration_fault r) xs ys k.0, k.1)) h

-- ---- names of pieces

-- a name that declares a port once more
pub declares_taken : (s : Scope) (to new : Names) (plan start : Numbering) (done : List DeclaredName) (d : DeclaredName) → new.names ≡ to.names → TakesOne (still_joined (joined_names s) done) d.name new.joined true → ((q : Reason) → declaration_fault q d ≡ false) →
    Declares s to plan start done → Declares s new plan start (done ++ d ∷ [])
declares_taken s to new plan start done d e t right h =
    let ns = still_joined (joined_names s) done in
    record {
      keeps = subst (λ z. Keeps s new.names plan start z) (sym (kept_taken s done d t.0)) (subst (λ z. Keeps s z plan start (kept s done)) (sym e) h.keeps);
      counts = subst (λ z. Counts z new.joined) (sym (still_joined_push (joined_names s) done d ∙ ap (λ b. cond b (without_name d.name ns) ns) t.0)) t.1;
      sized = λ q. any_push (declaration_fault q) done d (h.sized q) (right q);
    }

-- one that doesn't
pub declares_pushed : {B : Type 0} (s : Scope) (to new : Names) (plan after start : Numbering) (done : List DeclaredName) (d : DeclaredName) (r : Result B ElabFault) → TakesOne (still_joined (joined_names s) done) d.name new.joined false → ((q : Reason) → declaration_fault q d ≡ false) →
    Grows (Keeps s to.names plan) (Keeps s new.names after) (KeepsNot s) (d ∷ []) r → Declares s to plan start done → MatchResult r (λ _. Declares s new after start (done ++ d ∷ [])) (IsReported (DeclaresNot s start (done ++ d ∷ [])))
declares_pushed s to new plan after start done d (Ok x) t right g h =
    let ns = still_joined (joined_names s) done in
    record {
      keeps = subst (λ z. Keeps s new.names after start z) (sym (kept_pushed s done d t.0)) (g start (kept s done) h.keeps);
      counts = subst (λ z. Counts z new.joined) (sym (still_joined_push (joined_names s) done d ∙ ap (λ b. cond b (without_name d.name ns) ns) t.0)) t.1;
      sized = λ q. any_push (declaration_fault q) done d (h.sized q) (right q);
    }
declares_pushed s to new plan after start done d (Err e) t right g h =
    told_by (KeepsNot s start (kept s done ++ d ∷ [])) (DeclaresNot s start (done ++ d ∷ [])) e (λ q p k. inl (subst (λ z. KeepsNot s start z q p) (sym (kept_pushed s done d t.0)) k)) (g start (kept s done) h.keeps)

pub declares_wrong : (s : Scope) (start : Numbering) (done : List DeclaredName) (d : DeclaredName) (f : BodyFault) (e : ElabFault) → Refuses (λ r. declaration_fault r d) f → IsRefusal s.path f e → IsReported (DeclaresNot s start (done ++ d ∷ [])) e
declares_wrong s start done d f e h k = told_part (DeclaresNot s start (done ++ d ∷ [])) (λ r. declaration_fault r d) s.path f e (λ r u. inr (any_last (declaration_fault r) done d u, refl)) h k

pub declares_not_more : (s : Scope) (start : Numbering) (xs ys : List DeclaredName) (r : Reason) (p : Path) → DeclaresNot s start xs r p → DeclaresNot s start (xs ++ ys) r p
declares_not_more s start xs ys r p h =
    ⊎_elim (λ k. inl (subst (λ z. KeepsNot s start z r p) (sym (kept_append s xs ys)) (keeps_not_more s start (kept s xs) (not_joined (still_joined (joined_names s) xs) ys) r p k)))
    (λ k. inr (any_front (declaration_fault r) xs ys k.0, k.1)) h

-- pieces of what was read
pub flat_twice : {A B C : Type 0} (f : B → List C) (g : A → B) (xs : List A) → flat_map f (map g xs) ≡ flat_map (λ x. f (g x)) xs
flat_twice f g [] = refl
flat_twice f g (x ∷ xs) = ap (λ z. f (g x) ++ z) (flat_twice f g xs)

-- ---- ranges in which names are bound as in a scope

pub words_at : (env : Environment) (kind : SignalKind) (range : Option Range) (known : Environment) (r : Result WordCount BodyFault) → known ≡ env → Elaborates (words_as known kind range).faults (AreWords (words_as known kind range)) r → Elaborates (words_as env kind range).faults (AreWords (words_as env kind range)) r
words_at env kind range known r e h = subst (λ z. Elaborates (words_as z kind range).faults (AreWords (words_as z kind range)) r) e h

pub size_at : (env : Environment) (signed : Bool) (n : ℕ) (range : Option Range) (known : Environment) (r : Result Size BodyFault) → known ≡ env → Elaborates (width_faults (sized_as known signed n range).faults) (IsSize (sized_as known signed n range)) r → Elaborates (width_faults (sized_as env signed n range).faults) (IsSize (sized_as env signed n range)) r
size_at env signed n range known r e h = subst (λ z. Elaborates (width_faults (sized_as z signed n range).faults) (IsSize (sized_as z signed n range)) r) e h

pub port_size_at : (env : Environment) (kind : SignalKind) (form : Form) (known : Environment) (r : Result Size BodyFault) → known ≡ env → Elaborates (width_faults (size_of_kind known kind form).faults) (IsSize (size_of_kind known kind form)) r → Elaborates (width_faults (size_of_kind env kind form).faults) (IsSize (size_of_kind env kind form)) r
port_size_at env kind form known r e h = subst (λ z. Elaborates (width_faults (size_of_kind z kind form).faults) (IsSize (size_of_kind z kind form)) r) e h

-- a name without a range of words
pub port_words : (env : Environment) (kind : SignalKind) (r : Reason) → (words_as env kind None).faults r ≡ false
port_words env kind (Width w) = refl
port_words env kind Limit = refl
port_words env kind NoModule = refl
port_words env kind Inside = refl
port_words env kind PortMismatch = refl
port_words env kind ParameterMismatch = refl
port_words env kind DeclaredTwice = refl
port_words env kind DrivenTwice = refl
port_words env kind Endless = refl
port_words env kind Unnamed = refl
port_words env kind Timescales = refl
port_words env kind (Format wrong) = refl

-- the size of an `integer`
pub size_integer : (env : Environment) (s : Size) → s.shape.width ≡ 32 → s.shape.signed ≡ true → s.bounds ≡ None → ((q : Reason) → width_faults (sized_as env true 31 None).faults q ≡ false) × IsSize (sized_as env true 31 None) s
size_integer env s k m n = (
  no_faults (sized_as env true 31 None).faults (λ w. refl),
  record { shape = shape_is s.shape.width 32 s.shape.signed s.shape.sized (shape_with 31 true).sized k ∙ ap (shape_with 31) m; bounds = n },
)

-- the size of an implicit net, and that it has no words
pub size_scalar : (env : Environment) (s : Size) → s.shape.width ≡ 1 → s.shape.signed ≡ false → s.bounds ≡ None → ((q : Reason) → width_faults (sized_as env false 0 None).faults q ≡ false) × IsSize (sized_as env false 0 None) s
size_scalar env s k m n = (
  no_faults (sized_as env false 0 None).faults (λ w. refl),
  record { shape = shape_is s.shape.width 1 s.shape.signed s.shape.sized (shape_with 0 false).sized k ∙ ap (shape_with 0) m; bounds = n },
)

pub words_none : (env : Environment) (kind : SignalKind) (w : WordCount) → w.bounds ≡ None → w.count ≡ 1 → ((q : Reason) → (words_as env kind None).faults q ≡ false) × AreWords (words_as env kind None) w
words_none env kind w h k = (port_words env kind, record { bounds = h; count = k })

-- ---- what declares nothing

-- nothing more
pub kept_still : {A C : Type 0} (Old : C → List A → Type 0) (xs : List A) → xs ≡ [] → Kept Old Old xs
kept_still Old xs e = subst (Kept Old Old) (sym e) (kept_none Old)

pub quiet_item : (env : Environment) (x : Item) → ((f : Form) (ds : Vec Declarator Global) → x ≡ t.Wire f ds → ⊥) → ((f : Form) (ds : Vec Declarator Global) → x ≡ t.Reg f ds → ⊥) → ((ds : Vec Declarator Global) → x ≡ t.Integer ds → ⊥) → declared_by_item env x ≡ []
quiet_item env (t.Wire f ds) a b c = absurd (a f ds refl)
quiet_item env (t.Reg f ds) a b c = absurd (b f ds refl)
quiet_item env (t.Integer ds) a b c = absurd (c ds refl)
quiet_item env _ a b c = refl

pub quiet_piece : (env : Environment) (x : FoundPiece) → ((i : Bor Item) → x ≡ p.Plain i → ⊥) → ((d : Bor LocalDeclaration) → x ≡ p.Local d → ⊥) → ((n : Bor (List ℕ)) → x ≡ p.Net n → ⊥) → declared_in env (read_piece x) ≡ []
quiet_piece env (p.Plain i) a b c = absurd (a i refl)
quiet_piece env (p.Local d) a b c = absurd (b d refl)
quiet_piece env (p.Net n) a b c = absurd (c n refl)
quiet_piece env _ a b c = refl
