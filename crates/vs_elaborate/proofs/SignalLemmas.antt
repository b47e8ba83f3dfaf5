-- The signals of scopes by their numbers, and what names of a scope are bound to.
use Rattle.std.proofs.Common.{◌≡◌, ℕ, zero, suc, ◌+◌, ◌-◌, ◌<◌, Bool, true, false, ◌||◌, not, cond, inl, inr, ◌⊎◌, if◌then◌else◌, List, [], ◌∷◌, ◌++◌, Option, Some, None, ⊎_elim, append_assoc, length, map, take, slice_get, All, refl, ap, sym, subst, ◌∙◌, zero-add, add-zero, arith, true≢false, option_map}
use Rattle.std.specs.List.{list_any, flat_map, AllByRecursion}
use Rattle.std.specs.Str.{bytes_eq}
use Rattle.std.proofs.lemmas.Bool.{cases_lt}
use Rattle.std.proofs.lemmas.Option.{none-some, same_Some, slice_get-map, slice_get_within, get_or_from_slice_get}
use Rattle.std.proofs.lemmas.List.{length-map, length-append, append-nil}
use Rattle.vs_syntax.specs.declared.tree.Declarator.{Declarator}
use Rattle.vs_syntax.specs.declared.tree.Local.{Local}
use Rattle.vs_syntax.specs.declared.tree.LocalDeclaration.TheVariants as l
use Rattle.vs_syntax.specs.declared.tree.Range.{Range}
use Rattle.vs_syntax.specs.declared.tree.Item.{Item}
use Rattle.vs_syntax.specs.declared.tree.Item.TheVariants as t
use Rattle.vs_design.specs.Kinds.{is_variable}
use Rattle.vs_design.specs.declared.signal.Signal.{Signal}
use Rattle.vs_design.specs.declared.signal.SignalKind.{SignalKind}
use Rattle.vs_design.specs.declared.design.ScopeKind.{ScopeKind}
use Rattle.vs_design.specs.declared.design.ScopeKind.TheVariants as opened_by
use Rattle.vs_elab_statements.specs.vs_scopes.specs.vs_widths.specs.declared.bindings.Meaning.{Meaning}
use Rattle.vs_elab_statements.specs.vs_scopes.specs.vs_widths.specs.declared.bindings.Binding.{Binding}
use Rattle.vs_elab_statements.specs.vs_scopes.specs.vs_widths.specs.declared.bindings.Binding.TheVariants as b
use Rattle.vs_elab_statements.specs.vs_scopes.specs.vs_widths.specs.declared.constants.Const.{Const}
use Rattle.vs_elab_statements.specs.vs_scopes.specs.vs_widths.specs.declared.faults.WidthReason.{WidthReason}
use Rattle.vs_elab_statements.specs.vs_scopes.specs.vs_widths.specs.declared.faults.WidthReason.TheVariants.{WrongKind}
use Rattle.vs_elab_statements.specs.vs_scopes.specs.vs_widths.specs.Environment.{Environment}
use Rattle.vs_elab_statements.specs.vs_widths.specs.Names.{meaning_of}
use Rattle.vs_elab_hierarchy.specs.vs_scopes.specs.Pieces.{Piece, plain, loop, choice, local, inside, net}
use Rattle.vs_elab_statements.specs.vs_scopes.specs.declared.faults.Reason.TheVariants.{Width}
use Rattle.vs_elab_statements.specs.vs_scopes.specs.Ranges.{Sized, bounds_fault, Words, words_fault, words_as, word_count}
use Rattle.vs_elab_statements.specs.vs_scopes.specs.Parameters.{said}
use Rattle.vs_elab_statements.specs.vs_scopes.specs.Ports.{ModulePort, names_where, is_joined, without_name}
use Rattle.vs_elab_statements.specs.vs_scopes.specs.Declarations.{Bindings, DeclaredName, declared_by_port, declared_as, declared_by_item, declared_local, declared_in, declared_among, not_joined, declaration_fault, meaning_as, genvars_in, inner_names_among, bound_to}
use Rattle.vs_elab_statements.specs.vs_scopes.specs.Scopes.{Scope, declarations_of, names_of, named, numbered_names, constant_names, bindings_of, environment, seen_from, signal_count, signal_paths}
use Rattle.vs_elab_statements.specs.vs_scopes.proofs.Folds.{any_false_at}
use Rattle.vs_elab_hierarchy.proofs.PathsLists.{each_append}
use Rattle.vs_elab_statements.specs.vs_elab_signals.specs.Outlines.{Declared, declared, signal_of, signals_of}
use Rattle.vs_elab_statements.specs.vs_elab_signals.specs.Opened.{IsWithin, IsOutermost}
use Rattle.vs_elab_statements.proofs.WellFormedLemmas.{IsMeant, IsGood}
use Rattle.vs_elab_hierarchy.proofs.AddLemmas.{signals_shown as signals_counted}
use Rattle.vs_design.specs.vs_logic4.proofs.Basics.{right_false, slice_back as at_behind, slice_front as at_front, there}

-- ---- lists that are joined

-- an element of what a function lists of one of many
pub flat_at : {A B : Type 0} (f : A → List B) (xs : List A) (i j : ℕ) (x : A) (y : B) → slice_get xs i ≡ Some x → slice_get (f x) j ≡ Some y → slice_get (flat_map f xs) (length (flat_map f (take i xs)) + j) ≡ Some y
flat_at f [] i j x y h k = absurd (none-some x h)
flat_at f (z ∷ xs) zero j x y h k =
    ap (slice_get (f z ++ flat_map f xs)) (zero-add j) ∙ at_front (f z) (flat_map f xs) j y (ap (λ q. slice_get (f q) j) (same_Some z x h) ∙ k)
flat_at f (z ∷ xs) (suc i) j x y h k =
    let e : length (flat_map f (take (suc i) (z ∷ xs))) + j ≡ length (f z) + (length (flat_map f (take i xs)) + j) = omega (arith, length-append (f z) (flat_map f (take i xs))) in
    ap (slice_get (f z ++ flat_map f xs)) e ∙ at_behind (f z) (flat_map f xs) (length (flat_map f (take i xs)) + j) ∙ flat_at f xs i j x y h k

pub each_at : {A : Type 0} (P : A → Type 0) (xs : List A) (i : ℕ) (x : A) → AllByRecursion P xs → slice_get xs i ≡ Some x → P x
each_at P [] i x h k = absurd (none-some x k)
each_at P (y ∷ ys) zero x h k = subst P (same_Some y x k) h.0
each_at P (y ∷ ys) (suc i) x h k = each_at P ys i x h.1 k

pub all_at : {A : Type 0} (P : A → Type 0) (xs : List A) (i : ℕ) (x : A) → All P xs → slice_get xs i ≡ Some x → P x
all_at P xs i x h k = subst P (get_or_from_slice_get xs i x x k) (h i x (slice_get_within xs i x k))

-- ---- signals by their numbers

-- the declaration at a number among those of scopes, with its scope
pub record IsLocated (ss : List Scope) (k : ℕ) : Type 0 where
  pub scope : Scope
  pub name : DeclaredName
  pub declares : slice_get (flat_map declarations_of ss) k ≡ Some name
  pub signal : slice_get (flat_map signals_of ss) k ≡ Some (signal_of scope name)
  pub path : slice_get (signal_paths ss) k ≡ Some (named scope name.name)

located_first : (s : Scope) (ss : List Scope) (k : ℕ) (d : DeclaredName) → slice_get (declarations_of s) k ≡ Some d → IsLocated (s ∷ ss) k
located_first s ss k d h = record {
  scope = s;
  name = d;
  declares = at_front (declarations_of s) (flat_map declarations_of ss) k d h;
  signal = at_front (signals_of s) (flat_map signals_of ss) k (signal_of s d) (slice_get-map (signal_of s) (declarations_of s) k ∙ ap (option_map (signal_of s)) h);
  path = at_front (map (named s) (names_of s)) (signal_paths ss) k (named s d.name) (
      slice_get-map (named s) (names_of s) k ∙ ap (option_map (named s)) (slice_get-map (λ (z : DeclaredName). z.name) (declarations_of s) k ∙ ap (option_map (λ (z : DeclaredName). z.name)) h)
      );
}

located_later : (s : Scope) (ss : List Scope) (k : ℕ) → IsLocated ss k → IsLocated (s ∷ ss) (length (declarations_of s) + k)
located_later s ss k l =
    let paths : length (declarations_of s) + k ≡ length (map (named s) (names_of s)) + k =
    omega (arith, length-map (declarations_of s) (λ (z : DeclaredName). z.name), length-map (names_of s) (named s)) in
    let shown : length (declarations_of s) + k ≡ length (signals_of s) + k = omega (arith, length-map (declarations_of s) (signal_of s)) in
    record {
      scope = l.scope;
      name = l.name;
      declares = at_behind (declarations_of s) (flat_map declarations_of ss) k ∙ l.declares;
      signal = ap (slice_get (signals_of s ++ flat_map signals_of ss)) shown ∙ at_behind (signals_of s) (flat_map signals_of ss) k ∙ l.signal;
      path = ap (slice_get (map (named s) (names_of s) ++ signal_paths ss)) paths ∙ at_behind (map (named s) (names_of s)) (signal_paths ss) k ∙ l.path;
    }

pub located : (ss : List Scope) (k : ℕ) → k < signal_count ss → IsLocated ss k
located [] k h = absurd (omega arith)
located (s ∷ ss) k h = ⊎_elim
    (λ below. (let d = there (declarations_of s) k below in located_first s ss k d.0 d.1))
    (λ above.
    (let j = k - length (declarations_of s) in
    let e : length (declarations_of s) + j ≡ k = omega (arith, above) in
    let inside : j < signal_count ss = omega (arith, above, h, length-append (declarations_of s) (flat_map declarations_of ss)) in
    subst (IsLocated (s ∷ ss)) e (located_later s ss j (located ss j inside))))
    (cases_lt k (length (declarations_of s)))

-- ---- what names are bound to

abbrev is_signal : Binding → Bool
is_signal (b.Signal m k) = true
is_signal _ = false

abbrev number_in : Binding → ℕ
number_in (b.Signal m k) = k
number_in _ = 0

abbrev meaning_in : Meaning → Binding → Meaning
meaning_in d (b.Signal m k) = m
meaning_in d _ = d

-- the declaration of a signal that a name is bound to
pub record IsBound (base : ℕ) (ds : List DeclaredName) (m : Meaning) (k : ℕ) : Type 0 where
  pub place : ℕ
  pub name : DeclaredName
  pub stands : slice_get ds place ≡ Some name
  pub number : k ≡ base + place
  pub meaning : m ≡ meaning_as name

-- what isn't a signal
abbrev IsNone : Binding → Type 0
IsNone x = is_signal x ≡ false

no_bound : (x : Binding) (ns : List (List ℕ)) (rest : Bindings) (n : List ℕ) (m : Meaning) (k : ℕ) → IsNone x → meaning_of (bound_to x ns ++ rest) n ≡ Some (b.Signal m k) → meaning_of rest n ≡ Some (b.Signal m k)
no_bound x [] rest n m k i h = h
no_bound x (a ∷ ns) rest n m k i h = by (bytes_eq n a) (no_bound x ns rest n m k i) h
  where
    by : (c : Bool) → (meaning_of (bound_to x ns ++ rest) n ≡ Some (b.Signal m k) → meaning_of rest n ≡ Some (b.Signal m k)) → cond c (Some x) (meaning_of (bound_to x ns ++ rest) n) ≡ Some (b.Signal m k) → meaning_of rest n ≡ Some (b.Signal m k)
    by true others e = absurd (true≢false (sym (ap is_signal (same_Some x (b.Signal m k) e)) ∙ i))
    by false others e = others e

no_constant : (cs : List (List ℕ × Const)) (rest : Bindings) (n : List ℕ) (m : Meaning) (k : ℕ) → meaning_of (constant_names cs ++ rest) n ≡ Some (b.Signal m k) → meaning_of rest n ≡ Some (b.Signal m k)
no_constant [] rest n m k h = h
no_constant (c ∷ cs) rest n m k h = by (bytes_eq n c.0) (no_constant cs rest n m k) h
  where
    by : (a : Bool) → (meaning_of (constant_names cs ++ rest) n ≡ Some (b.Signal m k) → meaning_of rest n ≡ Some (b.Signal m k)) → cond a (Some (b.Constant c.1)) (meaning_of (constant_names cs ++ rest) n) ≡ Some (b.Signal m k) → meaning_of rest n ≡ Some (b.Signal m k)
    by true others e = absurd (true≢false (sym (ap is_signal (same_Some (b.Constant c.1) (b.Signal m k) e))))
    by false others e = others e

numbered_at : (base : ℕ) (ds : List DeclaredName) (rest : Bindings) (n : List ℕ) (m : Meaning) (k : ℕ) → (meaning_of rest n ≡ Some (b.Signal m k) → ⊥) → meaning_of (numbered_names base ds ++ rest) n ≡ Some (b.Signal m k) → IsBound base ds m k
numbered_at base [] rest n m k none h = absurd (none h)
numbered_at base (d ∷ ds) rest n m k none h = by (bytes_eq n d.name) (numbered_at (suc base) ds rest n m k none) h
  where
    by : (c : Bool) → (meaning_of (numbered_names (suc base) ds ++ rest) n ≡ Some (b.Signal m k) → IsBound (suc base) ds m k) → cond c (Some (b.Signal (meaning_as d) base)) (meaning_of (numbered_names (suc base) ds ++ rest) n) ≡ Some (b.Signal m k) → IsBound base (d ∷ ds) m k
    by true others e =
        let same = same_Some (b.Signal (meaning_as d) base) (b.Signal m k) e in
        record { place = 0; name = d; stands = refl; number = sym (ap number_in same) ∙ sym (add-zero base); meaning = sym (ap (meaning_in m) same) }
    by false others e =
        let p = others e in
        record { place = suc p.place; name = p.name; stands = p.stands; number = omega (arith, p.number); meaning = p.meaning }

-- a name that the scope itself binds to a signal
own_at : (s : Scope) (n : List ℕ) (m : Meaning) (k : ℕ) → meaning_of (bindings_of s) n ≡ Some (b.Signal m k) → IsBound s.base (declarations_of s) m k
own_at s n m k h =
    let others = bound_to b.Other (inner_names_among s.pieces) in
    let genvars = bound_to b.Genvar (flat_map genvars_in s.pieces) in
    let constants = constant_names s.constants in
    let signals = numbered_names s.base (declarations_of s) in
    let joined : bindings_of s ≡ constants ++ (signals ++ (genvars ++ others)) = append_assoc (constants ++ signals) genvars others ∙ append_assoc constants signals (genvars ++ others) in
    let none : meaning_of (genvars ++ others) n ≡ Some (b.Signal m k) → ⊥ = λ e.
    none-some (b.Signal m k) (no_bound b.Other (inner_names_among s.pieces) [] n m k refl (ap (λ z. meaning_of z n) (append-nil others) ∙ no_bound b.Genvar (flat_map genvars_in s.pieces) others n m k refl e)) in
    numbered_at s.base (declarations_of s) (genvars ++ others) n m k none (no_constant s.constants (numbered_names s.base (declarations_of s) ++ (genvars ++ others)) n m k (ap (λ z. meaning_of z n) (sym joined) ∙ h))

-- ---- nets are no arrays

-- the words of a declared name, by a range
abbrev IsWorded : Environment → DeclaredName → Type 0
IsWorded env d = (o : Option Range) × (d.words ≡ words_as env d.kind o)

ports_worded : (env : Environment) (ps : List ModulePort) → AllByRecursion (IsWorded env) (map (declared_by_port env) ps)
ports_worded env [] = tt
ports_worded env (p ∷ ps) = ((None, refl), ports_worded env ps)

declarators_worded : (env : Environment) (kind : SignalKind) (z : Sized) (ds : List Declarator) → AllByRecursion (IsWorded env) (declared_as env kind z ds)
declarators_worded env kind z [] = tt
declarators_worded env kind z (d ∷ ds) = ((d.words, refl), declarators_worded env kind z ds)

locals_worded : (env : Environment) (kind : SignalKind) (z : Sized) (xs : List Local) → AllByRecursion (IsWorded env) (map (declared_local env kind z) xs)
locals_worded env kind z [] = tt
locals_worded env kind z (x ∷ xs) = ((x.words, refl), locals_worded env kind z xs)

item_worded : (env : Environment) (x : Item) → AllByRecursion (IsWorded env) (declared_by_item env x)
item_worded env (t.Wire f ds) = declarators_worded env _ _ ds.items
item_worded env (t.Reg f ds) = declarators_worded env _ _ ds.items
item_worded env (t.Integer ds) = declarators_worded env _ _ ds.items
item_worded env (t.Port f ns) = tt
item_worded env (t.Genvar ns) = tt
item_worded env (t.Parameter f xs) = tt
item_worded env (t.Localparam f xs) = tt
item_worded env (t.Instances n o xs) = tt
item_worded env (t.Assign xs) = tt
item_worded env (t.Initial x) = tt
item_worded env (t.Always x) = tt

piece_worded : (env : Environment) (x : Piece) → AllByRecursion (IsWorded env) (declared_in env x)
piece_worded env (plain x) = item_worded env x
piece_worded env (loop h x) = tt
piece_worded env (choice e x o) = tt
piece_worded env (local (l.Reg f xs)) = locals_worded env _ _ xs.items
piece_worded env (local (l.Integer xs)) = locals_worded env _ _ xs.items
piece_worded env (inside x) = tt
piece_worded env (net n) = ((None, refl), tt)

pieces_worded : (env : Environment) (xs : List Piece) → AllByRecursion (IsWorded env) (declared_among env xs)
pieces_worded env [] = tt
pieces_worded env (x ∷ xs) = each_append (IsWorded env) (declared_in env x) (declared_among env xs) (piece_worded env x) (pieces_worded env xs)

-- those that are left
left_worded : (env : Environment) (ns : List (List ℕ)) (ds : List DeclaredName) → AllByRecursion (IsWorded env) ds → AllByRecursion (IsWorded env) (not_joined ns ds)
left_worded env ns [] h = tt
left_worded env ns (d ∷ ds) h = by (list_any (bytes_eq d.name) ns) (left_worded env (without_name d.name ns) ds h.1) (left_worded env ns ds h.1)
  where
    by : (c : Bool) → AllByRecursion (IsWorded env) (not_joined (without_name d.name ns) ds) → AllByRecursion (IsWorded env) (not_joined ns ds) → AllByRecursion (IsWorded env) (if c then not_joined (without_name d.name ns) ds else d ∷ not_joined ns ds)
    by true fewer others = fewer
    by false fewer others = (h.0, others)

worded : (s : Scope) → AllByRecursion (IsWorded s.known) (declarations_of s)
worded s =
    let ns = names_where is_joined s.ports in
    each_append (IsWorded s.known) (map (declared_by_port s.known) s.ports) (not_joined ns (declared_among s.known s.pieces)) (ports_worded s.known s.ports) (left_worded s.known ns (declared_among s.known s.pieces) (pieces_worded s.known s.pieces))

-- a net without faults is no array
no_words : (env : Environment) (d : DeclaredName) → IsWorded env d → declaration_fault (Width WrongKind) d ≡ false → is_variable d.kind ≡ false → d.words.bounds ≡ None
no_words env d (None, e) h k = ap (λ (z : Words). z.bounds) e
no_words env d (Some r, e) h k =
    let fault : words_fault (Width WrongKind) env d.kind (Some r) ≡ false = ap (λ (z : Words). z.faults (Width WrongKind)) (sym e) ∙ right_false (d.size.faults WrongKind) _ h in
    absurd (true≢false (sym (ap not k) ∙ right_false (bounds_fault WrongKind env r) _ fault))

-- ---- names are signals of the design

pub signal_shown : (d : Declared) (o : Option Signal) → option_map declared o ≡ Some d → (x : Signal) × (o ≡ Some x) × (declared x ≡ d)
signal_shown d None h = absurd (none-some d h)
signal_shown d (Some x) h = (x, refl, same_Some _ _ h)

-- the signal at a number, by what it shows
pub signal_at : (now : List Signal) (all : List Declared) (k : ℕ) (d : Declared) → map declared now ≡ all → slice_get all k ≡ Some d → (x : Signal) × (slice_get now k ≡ Some x) × (declared x ≡ d)
signal_at now all k d shown h = signal_shown d (slice_get now k) (sym (slice_get-map declared now k) ∙ ap (λ l. slice_get l k) shown ∙ h)

-- scopes whose ranges have no faults
abbrev pub AreSized : List Scope → Type 0
AreSized ss = (i : ℕ) (s : Scope) → slice_get ss i ≡ Some s → (w : WidthReason) → list_any (declaration_fault (Width w)) (declarations_of s) ≡ false

-- scopes that stand in ones before them
abbrev pub AreInside : List Scope → Type 0
AreInside ss = (i : ℕ) (s : Scope) → slice_get ss i ≡ Some s → IsOutermost s ⊎ ((j : ℕ) × ((j < i) × IsWithin ss j s))

-- scopes whose signals are numbered in their order
abbrev pub AreBased : List Scope → Type 0
AreBased ss = (i : ℕ) (s : Scope) → slice_get ss i ≡ Some s → s.base ≡ signal_count (take i ss)

module _ (ss : List Scope) (now : List Signal) (shown : map declared now ≡ flat_map signals_of ss) (sized : AreSized ss) (based : AreBased ss) (within : AreInside ss) where
  -- a name that a scope itself binds
  own_good : (i : ℕ) (s : Scope) → slice_get ss i ≡ Some s → (n : List ℕ) (m : Meaning) (k : ℕ) → meaning_of (bindings_of s) n ≡ Some (b.Signal m k) → IsMeant now m k
  own_good i s h n m k e =
      let bound = own_at s n m k e in
      let d = bound.name in
      let base : s.base ≡ signal_count (take i ss) = based i s h in
      let at : k ≡ length (flat_map signals_of (take i ss)) + bound.place = omega (arith, bound.number, base, signals_counted (take i ss)) in
      let own : slice_get (signals_of s) bound.place ≡ Some (signal_of s d) = slice_get-map (signal_of s) (declarations_of s) bound.place ∙ ap (option_map (signal_of s)) bound.stands in
      let found = signal_at now (flat_map signals_of ss) k (signal_of s d) shown (ap (slice_get (flat_map signals_of ss)) at ∙ flat_at signals_of ss i bound.place s (signal_of s d) h own) in
      record {
        signal = found.0;
        stands = found.1;
        kind = ap (λ (z : Declared). z.kind) found.2 ∙ ap (λ (z : Meaning). z.kind) (sym bound.meaning);
        of_net = λ v.
            (let none : d.words.bounds ≡ None =
            no_words s.known d (each_at (IsWorded s.known) (declarations_of s) bound.place d (worded s) bound.stands) (any_false_at (declaration_fault (Width WrongKind)) (declarations_of s) bound.place d (sized i s h WrongKind) bound.stands) (ap (λ (z : Meaning). is_variable z.kind) (sym bound.meaning) ∙ v) in
            (ap (λ (z : Meaning). z.words) bound.meaning ∙ none, ap (λ (z : Declared). z.count) found.2 ∙ ap word_count none));
      }

  -- what a scope sees outward of it
  seen_good : (kind : ScopeKind) (outer : Environment) → IsGood now outer → IsGood now (seen_from kind outer)
  seen_good opened_by.Module outer g n m k e = absurd (none-some (b.Signal m k) e)
  seen_good opened_by.Begin outer g n m k e = g n m k e

  good_by : (i : ℕ) (s : Scope) → slice_get ss i ≡ Some s → IsGood now (seen_from s.kind s.outer) → IsGood now (environment s)
  good_by i s h outward n m k e = by (meaning_of (bindings_of s) n) refl e
    where
      by : (o : Option Binding) → meaning_of (bindings_of s) n ≡ o → said (seen_from s.kind s.outer n) o ≡ Some (b.Signal m k) → IsMeant now m k
      by None q u = outward n m k u
      by (Some x) q u = own_good i s h n m k (q ∙ u)

  good_below : (bound i : ℕ) (s : Scope) → i < bound → slice_get ss i ≡ Some s → IsGood now (environment s) × IsGood now s.outer
  good_below zero i s l h = absurd (omega (arith, l))
  good_below (suc bound) i s l h = by (λ j t q u. good_below bound j t q u) (within i s h)
    where
      by : ((j : ℕ) (t : Scope) → j < bound → slice_get ss j ≡ Some t → IsGood now (environment t) × IsGood now t.outer) → IsOutermost s ⊎ ((j : ℕ) × ((j < i) × IsWithin ss j s)) → IsGood now (environment s) × IsGood now s.outer
      by before (inl top) =
          let around : IsGood now s.outer = λ n m k e. absurd (none-some (b.Signal m k) (sym (ap (λ (z : Environment). z n) top.outer) ∙ e)) in
          (good_by i s h (seen_good s.kind s.outer around), around)
      by before (inr w) =
          let j : w.0 < i = w.1.0 in
          let outer : IsGood now (environment w.1.1.outer_scope) = (before w.0 w.1.1.outer_scope (omega (arith, l, j)) w.1.1.stands).0 in
          let around : IsGood now s.outer = subst (IsGood now) (sym w.1.1.outer) outer in
          (good_by i s h (seen_good s.kind s.outer around), around)

  -- names of a scope, and of what is around it, are bound to signals of the design
  pub good_inside : (i : ℕ) (s : Scope) → slice_get ss i ≡ Some s → IsGood now (environment s)
  good_inside i s h = (good_below (suc i) i s (omega arith) h).0

  pub good_around : (i : ℕ) (s : Scope) → slice_get ss i ≡ Some s → IsGood now s.outer
  good_around i s h = (good_below (suc i) i s (omega arith) h).1
