-- A source: its modules, its top, and its scopes.
use Rattle.std.proofs.Common.{◌≡◌, ℕ, zero, suc, ◌+◌, ◌<◌, ◌≤◌, ◌||◌, Bool, true, false, cond, List, [], ◌∷◌, ◌++◌, Option, Some, None, IsSome, is_some, inl, inr, length, map, take, slice_get, get_or, option_map, All, refl, ap, sym, subst, ◌∙◌, arith, true≢false}
use Rattle.std.specs.List.{list_any, AllZip, IsDistinct}
use Rattle.std.specs.Str.{bytes_eq}
use Rattle.std.specs.Borrow.{Bor}
use Rattle.std.specs.declared.vec.Vec.{Vec}
use Rattle.std.specs.declared.alloc.Global.{Global}
use Rattle.std.proofs.lemmas.Option.{none-some, same_Some, slice_get-map, slice_get-get_or}
use Rattle.std.proofs.lemmas.List.{map-append, length-map}
use Rattle.std.proofs.lemmas.List.Elements.{All-nil}
use Rattle.std.proofs.lemmas.Map.Keys.{IsDistinct-push}
use Rattle.std.proofs.lemmas.Slice.Eq.{bytes_eq-Decides}
use Rattle.vs_syntax.specs.declared.tree.Module.{Module}
use Rattle.vs_design.specs.declared.design.ScopeKind.TheVariants as opened_by
use Rattle.vs_scopes.specs.vs_widths.specs.declared.constants.Const.{Const}
use Rattle.vs_scopes.specs.vs_widths.specs.declared.faults.WidthReason.{WidthReason}
use Rattle.vs_scopes.specs.vs_widths.specs.declared.faults.WidthReason.TheVariants.{TooWide, Unknown, NotConstant, WrongKind}
use Rattle.vs_elab_constants.specs.vs_widths.specs.Names.{meaning_of, by_bytes, Declares as NamesDeclare}
use Rattle.vs_elab_constants.proofs.ValueLemmas.{none_outer}
use Rattle.vs_elab_signals.specs.vs_scopes.specs.Pieces.{pieces_of}
use Rattle.vs_elab_signals.specs.vs_scopes.specs.Reads.{read_piece}
use Rattle.vs_elab_signals.specs.vs_scopes.specs.declared.scope.ScopePiece.{ScopePiece as FoundPiece}
use Rattle.vs_scopes.specs.declared.faults.Reason.{Reason}
use Rattle.vs_scopes.specs.declared.faults.Reason.TheVariants.{NoModule, Inside, PortMismatch, ParameterMismatch, DeclaredTwice, DrivenTwice, Limit, Width, Endless, Unnamed, Timescales, Format}
use Rattle.vs_scopes.specs.declared.faults.ElabFault.{ElabFault}
use Rattle.vs_scopes.specs.Printed.{plainly, Path}
use Rattle.vs_scopes.specs.Parameters.{given_to, own_faults, outer_faults, parameters_of}
use Rattle.vs_scopes.specs.Ports.{ModulePort, ports_of}
use Rattle.vs_scopes.specs.Declarations.{Bindings}
use Rattle.vs_scopes.specs.Nets.{nothing_seen, permits_after, permits_from, permits_nets}
use Rattle.vs_scopes.specs.Scopes.{nowhere, text_of, early, has_no_values, has_wrong_end, module_named, top_scope, opened_top, of_opened, scopes_within, scopes_of, deepest}
use Rattle.vs_scopes.specs.scopes_passes.Answers.{borrowed, IsReported, IsFaultAt}
use Rattle.vs_scopes.specs.scopes_passes.Names.{read_title}
use Rattle.vs_scopes.specs.scopes_passes.Parts.{read_port, read_ends}
use Rattle.std.proofs.lemmas.Bool.{or_from as both_false}
use Rattle.vs_design.specs.vs_logic4.proofs.Basics.{take_push}
use Rattle.vs_scopes.proofs.AnswerLemmas.{told_at, told_by}
use Rattle.vs_elab_constants.specs.declared.evaluating.ParameterValues.{ParameterValues}
use Rattle.vs_elab_constants.specs.passes.Values.{AreValues}
use Rattle.vs_elab_signals.specs.declared.opened.ElabScope.{ElabScope as FoundScope}
use Rattle.vs_elab_signals.specs.declared.opened.Numbering.{Numbering}
use Rattle.vs_elab_signals.specs.Opened.{IsHome, HasParentScope, HasSight, AreOpened}
use Rattle.vs_elab_signals.specs.Outlines.{declared, outline_within, outline_of, IsEntry}
use Rattle.vs_elab_signals.specs.ScopeFaults.{Repeated, of_module, top_fault, HoldsOpeningIn, HasOpeningFault}
use Rattle.vs_elab_signals.proofs.BindLemmas.{bytes_eq_equiv, place_of_any}
use Rattle.vs_design.specs.vs_logic4.proofs.Basics.{left_false, right_false}
use Rattle.vs_elab_hierarchy.specs.vs_elab_signals.specs.declared.members.Members.{Members}
use Rattle.vs_elab_hierarchy.specs.vs_elab_signals.specs.nets_passes.Nets.{AreMembers}
use Rattle.vs_elab_hierarchy.specs.declared.entering.NamedModule.{NamedModule}
use Rattle.vs_elab_hierarchy.specs.passes.Blocks.{AreNamed}
use Rattle.vs_elab_hierarchy.specs.passes.Entering.{module_names, Lists, ListsNot}
use Rattle.vs_elab_hierarchy.specs.scope_passes.Own.{IsSoundOwn, HoldsOwn, own_lines}
use Rattle.vs_elab_hierarchy.specs.scope_passes.Adding.{IsPlanned, IsNext, AddsScope}
use Rattle.vs_elab_hierarchy.specs.hierarchy_passes.Opens.{IsReady, IsSoundInside, scopes_inside, lines_inside, OpensInside, IsTop, TopNot, Made}
use Rattle.vs_elab_hierarchy.proofs.SeatLemmas.{seated_none}
use Rattle.vs_elab_hierarchy.proofs.EnterLemmas.{said_none}
use Rattle.vs_elab_hierarchy.proofs.OpenLemmas.{within_inside, outline_inside, lines_join}
use Rattle.vs_elab_hierarchy.proofs.FaultLemmas.{own_told, none_in, not_repeated}

-- ---- modules

-- an element of a front is one of the whole
slice_get-take : {A : Type 0} (xs : List A) (i k : ℕ) (x : A) → slice_get (take i xs) k ≡ Some x → (k < i) × (slice_get xs k ≡ Some x)
slice_get-take xs zero k x h = absurd (none-some x h)
slice_get-take [] (suc i) k x h = absurd (none-some x h)
slice_get-take (y ∷ ys) (suc i) zero x h = (omega arith, h)
slice_get-take (y ∷ ys) (suc i) (suc k) x h = let p = slice_get-take ys i k x h in (omega (arith, p.0), p.1)

map-take : {A B : Type 0} (f : A → B) (i : ℕ) (xs : List A) → map f (take i xs) ≡ take i (map f xs)
map-take f zero xs = refl
map-take f (suc i) [] = refl
map-take f (suc i) (x ∷ xs) = ap (λ l. f x ∷ l) (map-take f i xs)

-- an element that stands before a place and at it
repeated_at : {A X : Type 0} (f : X → A) (xs : List X) (i : ℕ) (x : X) (k : ℕ) → i < length xs → x ≡ get_or xs i x → slice_get (map f (take i xs)) k ≡ Some (f x) → Repeated (map f xs) (f x)
repeated_at f xs i x k h e g =
    let first = slice_get-take (map f xs) i k (f x) (ap (λ z. slice_get z k) (sym (map-take f i xs)) ∙ g) in
    record { first = k; second = i; before = first.0; one = first.1; other = slice_get-map f xs i ∙ ap (option_map f) (slice_get-get_or xs i x h ∙ ap Some (sym e)) }

names_none : IsDistinct bytes_eq []
unfolding IsDistinct
names_none = tt

pub lists_none : (names : List (List ℕ × NamedModule)) → names ≡ [] → Lists [] names
lists_none names h = record {
  found = λ n. ap (λ (z : List (List ℕ × NamedModule)). option_map (λ (m : NamedModule). m.«module».now) (meaning_of z n)) h;
  nets = λ n x e. absurd (none-some x (sym (ap (λ (z : List (List ℕ × NamedModule)). meaning_of z n) h) ∙ e));
  distinct = names_none;
}

some_now : (o : Option NamedModule) → is_some (option_map (λ (m : NamedModule). m.«module».now) o) ≡ is_some o
some_now None = refl
some_now (Some m) = refl

is_named : (ms : List Module) (n : List ℕ) → is_some (module_named ms n) ≡ list_any (bytes_eq n) (module_names ms)
is_named [] n = refl
is_named (m ∷ ms) n = by (bytes_eq n m.name.items) (is_named ms n)
  where
    by : (b : Bool) → is_some (module_named ms n) ≡ list_any (bytes_eq n) (module_names ms) → is_some (cond b (Some m) (module_named ms n)) ≡ (b || list_any (bytes_eq n) (module_names ms))
    by true rest = refl
    by false rest = rest

named_push : (ms : List Module) (m : Module) (k : List ℕ) → list_any (bytes_eq m.name.items) (module_names ms) ≡ false → module_named (ms ++ m ∷ []) k ≡ cond (bytes_eq m.name.items k) (Some m) (module_named ms k)
named_push [] m k h = ap (λ b. cond b (Some m) None) (bytes_eq_equiv.symm k m.name.items)
named_push (x ∷ ms) m k h = ap (cond (bytes_eq k x.name.items) (Some x)) (named_push ms m k (right_false (bytes_eq m.name.items x.name.items) _ h)) ∙ swap (bytes_eq k x.name.items) (bytes_eq m.name.items k) refl refl
  where
    swap : (a b : Bool) → bytes_eq k x.name.items ≡ a → bytes_eq m.name.items k ≡ b → cond a (Some x) (cond b (Some m) (module_named ms k)) ≡ cond b (Some m) (cond a (Some x) (module_named ms k))
    swap true true p q =
        let same : m.name.items ≡ x.name.items = (bytes_eq-Decides m.name.items k).0 q ∙ (bytes_eq-Decides k x.name.items).0 p in
        absurd (true≢false (sym ((bytes_eq-Decides m.name.items x.name.items).1 same) ∙ left_false (bytes_eq m.name.items x.name.items) _ h))
    swap true false p q = refl
    swap false true p q = refl
    swap false false p q = refl

known_is_named : (ms : List Module) (names : List (List ℕ × NamedModule)) (n : List ℕ) → Lists ms names → is_some (meaning_of names n) ≡ list_any (bytes_eq n) (module_names ms)
known_is_named ms names n l = sym (some_now (meaning_of names n)) ∙ ap is_some (l.found n) ∙ is_named ms n

-- whether undeclared names are nets behind these modules
abbrev pub permits_all : Bool → List Module → Bool
permits_all before [] = before
permits_all before (m ∷ ms) = permits_all (permits_after before m.directives.items) ms

pub permits_push : (before : Bool) (ms : List Module) (m : Module) → permits_all before (ms ++ m ∷ []) ≡ permits_after (permits_all before ms) m.directives.items
permits_push before [] m = refl
permits_push before (x ∷ ms) m = permits_push (permits_after before x.directives.items) ms m

pub permits_more : (ms : List Module) (i : ℕ) (m : Module) (b : Bool) → i < length ms → m ≡ get_or ms i m → b ≡ permits_after (permits_all true (take i ms)) m.directives.items → b ≡ permits_all true (take (i + 1) ms)
permits_more ms i m b h k e = e ∙ sym (permits_push true (take i ms) m) ∙ ap (permits_all true) (sym (take_push ms i m h k))

-- in a module that is the last, and in one before it
permits_last : (before : Bool) (ms : List Module) (m : Module) (n : List ℕ) → list_any (bytes_eq n) (module_names ms) ≡ false → permits_from before (ms ++ m ∷ []) n ≡ permits_all before (ms ++ m ∷ [])
permits_last before [] m n h = by (bytes_eq n m.name.items)
  where
    by : (t : Bool) → cond t (permits_after before m.directives.items) (permits_after before m.directives.items) ≡ permits_after before m.directives.items
    by true = refl
    by false = refl
permits_last before (x ∷ ms) m n h =
    ap (λ t. cond t (permits_after before x.directives.items) (permits_from (permits_after before x.directives.items) (ms ++ m ∷ []) n)) (left_false (bytes_eq n x.name.items) _ h)
    ∙ permits_last (permits_after before x.directives.items) ms m n (right_false (bytes_eq n x.name.items) _ h)

permits_known : (before : Bool) (ms : List Module) (m : Module) (n : List ℕ) → list_any (bytes_eq n) (module_names ms) ≡ true → permits_from before (ms ++ m ∷ []) n ≡ permits_from before ms n
permits_known before [] m n h = absurd (true≢false (sym h))
permits_known before (x ∷ ms) m n h = by (bytes_eq n x.name.items) h (permits_known (permits_after before x.directives.items) ms m n)
  where
    now : Bool
    now = permits_after before x.directives.items

    by : (t : Bool) → (t || list_any (bytes_eq n) (module_names ms)) ≡ true → (list_any (bytes_eq n) (module_names ms) ≡ true → permits_from now (ms ++ m ∷ []) n ≡ permits_from now ms n) →
        cond t now (permits_from now (ms ++ m ∷ []) n) ≡ cond t now (permits_from now ms n)
    by true k rest = refl
    by false k rest = rest k

pub lists_more : (ms : List Module) (i : ℕ) (m : Module) (n : List ℕ) (b : NamedModule) (names new : List (List ℕ × NamedModule)) → i < length ms → m ≡ get_or ms i m → n ≡ m.name.items → b.«module».now ≡ m → b.nets ≡ permits_all true (take (i + 1) ms) → Lists (take i ms) names →
    NamesDeclare true names new n b → Lists (take (i + 1) ms) new
lists_more ms i m n b names new h k e w v l d =
    let front = take i ms in
    let apart : list_any (bytes_eq n) (module_names front) ≡ false = sym (known_is_named front names n l) ∙ ap is_some d.0 in
    let apart' : list_any (bytes_eq m.name.items) (module_names front) ≡ false = ap (λ z. list_any (bytes_eq z) (module_names front)) (sym e) ∙ apart in
    let push : (c : Bool) (o : Option NamedModule) → option_map (λ (z : NamedModule). z.«module».now) (cond c (Some b) o) ≡ cond c (Some m) (option_map (λ (z : NamedModule). z.«module».now) o) = mapped b m w in
    let all = take_push ms i m h k in
    let done : Lists (front ++ m ∷ []) new = record {
      found = λ q. ap (option_map (λ (z : NamedModule). z.«module».now)) (d.1 q) ∙ push (bytes_eq n q) (meaning_of names q) ∙ ap (cond (bytes_eq n q) (Some m)) (l.found q) ∙ ap (λ z. cond (bytes_eq z q) (Some m) (module_named front q)) e ∙ sym (named_push front m q apart');
      nets = λ q x g. by front q x apart (bytes_eq n q) refl (sym (d.1 q) ∙ g) (ap (permits_all true) all);
      distinct = subst (IsDistinct bytes_eq) (sym (map-append (λ (z : Module). z.name.items) front (m ∷ []))) (IsDistinct-push bytes_eq_equiv (module_names front) m.name.items l.distinct apart');
    } in
    subst (λ z. Lists z new) (sym all) done
  where
    mapped : (b : NamedModule) (m : Module) → b.«module».now ≡ m → (c : Bool) (o : Option NamedModule) → option_map (λ (z : NamedModule). z.«module».now) (cond c (Some b) o) ≡ cond c (Some m) (option_map (λ (z : NamedModule). z.«module».now) o)
    mapped b m w true o = ap Some w
    mapped b m w false o = refl

    by : (front : List Module) (q : List ℕ) (x : NamedModule) → list_any (bytes_eq n) (module_names (take i ms)) ≡ false → (c : Bool) → bytes_eq n q ≡ c → cond c (Some b) (meaning_of names q) ≡ Some x → permits_all true (take (i + 1) ms) ≡ permits_all true (take i ms ++ m ∷ []) →
        x.nets ≡ permits_nets (take i ms ++ m ∷ []) q
    by front q x a true g f u =
        let same : q ≡ n = sym ((bytes_eq-Decides n q).0 g) in
        ap (λ (z : NamedModule). z.nets) (sym (same_Some b x f)) ∙ v ∙ u ∙ sym (permits_last true (take i ms) m q (ap (λ z. list_any (bytes_eq z) (module_names (take i ms))) same ∙ a))
    by front q x a false g f u =
        l.nets q x f ∙ sym (permits_known true (take i ms) m q (sym (known_is_named (take i ms) names q l) ∙ ap is_some f))

-- a module whose name another has
pub listed_twice : (ms : List Module) (i : ℕ) (m : Module) (n : List ℕ) (names : List (List ℕ × NamedModule)) (e : ElabFault) → i < length ms → m ≡ get_or ms i m → n ≡ m.name.items → Lists (take i ms) names → IsSome (meaning_of names n) →
    IsFaultAt DeclaredTwice (plainly m.name.items ∷ []) e → IsReported (ListsNot ms) e
listed_twice ms i m n names e h k q l s f =
    let found = place_of_any (module_names (take i ms)) n (sym (known_is_named (take i ms) names n l) ∙ s) in
    let repeated = repeated_at (λ (z : Module). z.name.items) ms i m found.0 h k (found.1 ∙ ap Some q) in
    told_at (ListsNot ms) DeclaredTwice (plainly m.name.items ∷ []) e (record { name = m.name.items; repeated = repeated; path = refl }) f

-- ---- the top

pub opened_none : AreOpened [] []
opened_none = record { each = tt; places = λ place t e. absurd (none-some t e) }

pub entered_top : (nets : Bool) (m : Module) (o : FoundScope) (v : ParameterValues) (x : Members) → read_title o.title ≡ plainly m.name.items → o.kind ≡ opened_by.Module → o.number ≡ 0 → o.base ≡ 0 → o.instances ≡ 0 → o.turns ≡ 0 → o.depth ≡ 1 → o.nets ≡ nets →
    map read_port o.ports.items ≡ ports_of m → o.text ≡ x.text → o.pieces ≡ x.pieces → o.told ≡ x.told → AreMembers nets (text_of m) nothing_seen (pieces_of m.items.items) x → o.constants ≡ v.constants → o.known ≡ v.known → AreValues nowhere None m v →
    borrowed o.within.items ≡ m.name.items ∷ [] → o.home ≡ 0 → o.around ≡ None → o.ends.items ≡ [] → o.blocks ≡ [] → IsTop nets m o
entered_top nets m o v x title kind number base instances turns depth net ports text pieces told members constants known values within home around ends blocks =
    let s = top_scope nets m in
    record {
      entered = record {
        title = title;
        kind = kind;
        number = number;
        base = base;
        instances = instances;
        turns = turns;
        depth = depth;
        nets = net;
        text = λ n. ap (λ (z : Bindings). meaning_of z n) text ∙ members.text n;
        told = λ n. ap (λ (z : List (List ℕ × ℕ)). meaning_of z n) told ∙ members.told n;
        ports = ports;
        pieces = ap (λ (z : Vec FoundPiece Global). map read_piece z.items) pieces ∙ members.pieces;
        constants = ap (λ (z : Vec (Bor (List ℕ) × Const) Global). by_bytes z.items) constants ∙ values.constants;
        known = λ n. said_none (meaning_of o.known n) ∙ ap (λ (z : Bindings). meaning_of z n) known ∙ values.known n;
        within = within;
        home = subst (λ k. IsHome (s ∷ []) k s) (sym home) (record { home_scope = s; stands = refl; kind = refl; path = refl; within = refl });
        around = subst (λ k. HasParentScope (s ∷ []) k s) (sym around) (record { kind = refl; path = refl; around = refl; outer = refl });
        sight = subst (λ k. HasSight (s ∷ []) k o.piece s) (sym around) refl;
        ends = ap read_ends ends;
        lefts = none (ports_of m);
      };
      blocks = blocks;
      parameters = values.own;
    }
  where
    none : (ps : List ModulePort) → has_wrong_end ps [] ≡ false
    none [] = refl
    none (p ∷ ps) = refl

-- the top scope is opened where its parameters have values
pub top_opens : (nets : Bool) (m : Module) → ((w : WidthReason) → top_fault w m ≡ false) → opened_top nets (Some m) ≡ Some (top_scope nets m)
top_opens nets m h =
    let own = λ (w : WidthReason). own_faults w nowhere (early m) (given_to None m) in
    let outer = λ (w : WidthReason). outer_faults w nowhere (given_to None m) in
    let each : (w : WidthReason) → (own w || outer w) ≡ false = λ w. both_false _ _ (h w) (none_outer w nowhere (parameters_of m)) in
    let none : has_no_values nowhere None m ≡ false = both_false _ _ refl (both_false _ _ (both_false _ _ (both_false _ _ (each TooWide) (each Unknown)) (each NotConstant)) (each WrongKind)) in
    ap (λ (z : Bool). cond z None (Some (top_scope nets m))) none

-- before anything is listed
pub planned_none : (list : List FoundScope) (plan : Numbering) → list ≡ [] → plan.signals.items ≡ [] → plan.instances ≡ 0 → plan.turns ≡ 0 → IsPlanned list plan []
planned_none list plan e s i t = subst (λ z. IsPlanned z plan []) (sym e) (record {
  opened = opened_none;
  seated = seated_none;
  blocks = All-nil (λ (o : FoundScope). o.blocks ≡ []);
  sound = All-nil IsSoundOwn;
  instances = i;
  turns = t;
  shown = ap (map declared) s;
  room = subst (λ z. length z ≤ 65536) (sym s) (omega arith);
  few_instances = omega (arith, i);
  few_turns = omega (arith, t);
})

-- the top is the first scope
pub top_next : (nets : Bool) (m : Module) (list : List FoundScope) (plan : Numbering) (o : FoundScope) → list ≡ [] → IsPlanned list plan [] → IsTop nets m o → IsNext [] plan o (top_scope nets m)
top_next nets m list plan o e p h = record {
  last = record { entered = h.entered; number = refl; instances = refl; turns = refl };
  base = (let none : length plan.signals.items ≡ 0 = sym (length-map plan.signals.items declared) ∙ ap length p.shown in sym none);
  blocks = h.blocks;
}

module _ (ms : List Module) (top : List ℕ) (m : Module) (found : module_named ms top ≡ Some m) (nets : Bool) (permits : nets ≡ permits_nets ms top) (fine : (w : WidthReason) → top_fault w m ≡ false) where
  is_opened : opened_top (permits_nets ms top) (module_named ms top) ≡ Some (top_scope nets m)
  is_opened = ap (λ z. opened_top z (module_named ms top)) (sym permits) ∙ ap (opened_top nets) found ∙ top_opens nets m fine

  pub all_scopes : scopes_of ms top ≡ scopes_within deepest ms (top_scope nets m)
  all_scopes = ap (of_opened (scopes_within deepest ms)) is_opened

  all_lines : outline_of ms top ≡ outline_within deepest ms (top_scope nets m)
  all_lines = ap (of_opened (outline_within deepest ms)) is_opened

  -- the top is about to be opened
  pub top_ready : (names : List (List ℕ × NamedModule)) (list0 list : List FoundScope) (p0 p1 : Numbering) (o : FoundScope) → Lists ms names → AddsScope [] (top_scope nets m) o list0 list p0 p1 → IsReady ms (top_scope nets m ∷ []) (top_scope nets m) names list p1 0 16448
  top_ready names list0 list p0 p1 o l h = record {
    lists = l;
    planned = h.planned;
    stands = refl;
    last = refl;
    next = h.next;
    levels = refl;
  }

  pub top_made : (names : List (List ℕ × NamedModule)) (list0 list1 list : List FoundScope) (p0 p1 plan : Numbering) (o : FoundScope) → Lists ms names → p0.outline.items ≡ [] → AddsScope [] (top_scope nets m) o list0 list1 p0 p1 →
      OpensInside deepest ms (top_scope nets m ∷ []) (top_scope nets m) 0 list1 list p1 plan → Made ms top list plan
  top_made names list0 list1 list p0 p1 plan o l empty a h =
      let s = top_scope nets m in
      let whole : s ∷ scopes_inside deepest ms s ≡ scopes_of ms top = sym (within_inside deepest ms s) ∙ sym all_scopes in
      let text : own_lines s ++ lines_inside deepest ms s ≡ outline_of ms top = sym (outline_inside deepest ms s) ∙ sym all_lines in
      let lines = lines_join (own_lines s) (lines_inside deepest ms s) p0 p1 plan a.lines h.lines in
      let entries : plan.outline.items ≡ lines.added = lines.outline ∙ ap (λ z. z ++ lines.added) empty in
      record {
        modules = l.distinct;
        body = m;
        found = found;
        parameters = fine;
        planned = subst (IsPlanned list plan) whole h.planned;
        sound = subst (All (IsSoundInside ms)) whole h.sound;
        named = subst (AreNamed list 0) whole h.named;
        outline = subst (λ z. AllZip IsEntry z (outline_of ms top)) (sym entries) (subst (AllZip IsEntry lines.added) text lines.mean);
      }

  -- a fault of the top's scope, or of one inside it, is one of the source
  pub opening_told : (e : ElabFault) → IsReported (HoldsOpeningIn ms (scopes_within deepest ms (top_scope nets m))) e → IsReported (HasOpeningFault ms top) e
  opening_told e h = told_by (HoldsOpeningIn ms (scopes_within deepest ms (top_scope nets m))) (HasOpeningFault ms top) e (λ r p k. inr (subst (λ z. HoldsOpeningIn ms z r p) (sym all_scopes) k)) h

  pub top_own_told : (e : ElabFault) → IsReported (HoldsOwn (top_scope nets m)) e → IsReported (HasOpeningFault ms top) e
  top_own_told e h = opening_told e (own_told deepest ms (top_scope nets m) e h)

-- ---- faults above scopes

pub modules_told : (ms : List Module) (top : List ℕ) (e : ElabFault) → IsReported (ListsNot ms) e → IsReported (HasOpeningFault ms top) e
modules_told ms top e h = told_by (ListsNot ms) (HasOpeningFault ms top) e by h
  where
    by : (r : Reason) (p : Path) → ListsNot ms r p → HasOpeningFault ms top r p
    by DeclaredTwice p h = inl h
    by NoModule p h = absurd h
    by Inside p h = absurd h
    by PortMismatch p h = absurd h
    by ParameterMismatch p h = absurd h
    by DrivenTwice p h = absurd h
    by Limit p h = absurd h
    by (Width w) p h = absurd h
    by Endless p h = absurd h
    by Unnamed p h = absurd h
    by Timescales p h = absurd h
    by (Format wrong) p h = absurd h

pub nothing_told : (ms : List Module) (top : List ℕ) (e : ElabFault) → module_named ms top ≡ None → IsFaultAt NoModule (plainly top ∷ []) e → IsReported (HasOpeningFault ms top) e
nothing_told ms top e h f = told_at (HasOpeningFault ms top) NoModule (plainly top ∷ []) e (inl (h, refl)) f

-- the module that was found has the name that was looked for
found_named : (ms : List Module) (n : List ℕ) (m : Module) → module_named ms n ≡ Some m → m.name.items ≡ n
found_named [] n m h = absurd (none-some m h)
found_named (x ∷ ms) n m h = by (bytes_eq n x.name.items) refl (found_named ms n m) h
  where
    by : (b : Bool) → bytes_eq n x.name.items ≡ b → (module_named ms n ≡ Some m → m.name.items ≡ n) → cond b (Some x) (module_named ms n) ≡ Some m → m.name.items ≡ n
    by true e rest g = ap (λ (z : Module). z.name.items) (sym (same_Some x m g)) ∙ sym ((bytes_eq-Decides n x.name.items).0 e)
    by false e rest g = rest g

pub top_told : (ms : List Module) (top : List ℕ) (m : Module) (e : ElabFault) → module_named ms top ≡ Some m → IsReported (TopNot m) e → IsReported (HasOpeningFault ms top) e
top_told ms top m e f h = told_by (TopNot m) (HasOpeningFault ms top) e by h
  where
    by : (r : Reason) (p : Path) → TopNot m r p → HasOpeningFault ms top r p
    by (Width w) p h = inl (ap (of_module (top_fault w)) f ∙ h.0, h.1 ∙ ap (λ z. plainly z ∷ []) (found_named ms top m f))
    by NoModule p h = absurd h
    by Inside p h = absurd h
    by PortMismatch p h = absurd h
    by ParameterMismatch p h = absurd h
    by DeclaredTwice p h = absurd h
    by DrivenTwice p h = absurd h
    by Limit p h = absurd h
    by Endless p h = absurd h
    by Unnamed p h = absurd h
    by Timescales p h = absurd h
    by (Format wrong) p h = absurd h

-- no fault stands in a source whose scopes were listed
pub none_stands : (ms : List Module) (top : List ℕ) (list : List FoundScope) (plan : Numbering) → Made ms top list plan → (r : Reason) (p : Path) → HasOpeningFault ms top r p → ⊥
none_stands ms top list plan h r p (inr k) = none_in ms (scopes_of ms top) h.planned.sound h.sound r p k
none_stands ms top list plan h NoModule p (inl k) = none-some h.body (sym k.0 ∙ h.found)
none_stands ms top list plan h DeclaredTwice p (inl k) = not_repeated (module_names ms) k.name h.modules k.repeated
none_stands ms top list plan h (Width w) p (inl k) = true≢false (sym k.0 ∙ ap (of_module (top_fault w)) h.found ∙ h.parameters w)
none_stands ms top list plan h Inside p (inl k) = k
none_stands ms top list plan h PortMismatch p (inl k) = k
none_stands ms top list plan h ParameterMismatch p (inl k) = k
none_stands ms top list plan h DrivenTwice p (inl k) = k
none_stands ms top list plan h Limit p (inl k) = k
none_stands ms top list plan h Endless p (inl k) = k
none_stands ms top list plan h Unnamed p (inl k) = k
none_stands ms top list plan h Timescales p (inl k) = k
none_stands ms top list plan h (Format wrong) p (inl k) = k
