-- Scopes that are listed one after another, with what stands before them.
use Rattle.std.proofs.Common.{◌≡◌, ℕ, suc, ◌+◌, ◌≤◌, Bool, true, false, ◌||◌, cond, List, [], ◌∷◌, ◌++◌, Option, Some, None, length, map, filter, refl, ap, ap₂, sym, subst, ◌∙◌, arith, zero-add, inl, inr}
use Rattle.std.specs.List.{slice_get, flat_map}
use Rattle.std.proofs.lemmas.List.{append-nil, length-map, length-append}
use Rattle.std.proofs.lemmas.List.Concat.{flat_map-append}
use Rattle.std.proofs.lemmas.List.Sums.{sum-map, sum_by-append}
use Rattle.std.proofs.lemmas.List.Elements.{All-append, All-nil, All-cons}
use Rattle.std.proofs.lemmas.Option.{none-some, same_Some}
use Rattle.vs_syntax.specs.declared.tree.Module.{Module}
use Rattle.vs_scopes.specs.vs_widths.specs.declared.constants.Const.{Const}
use Rattle.vs_elab_signals.specs.vs_scopes.specs.Pieces.{Piece, block_pieces, pieces_of}
use Rattle.vs_scopes.specs.Printed.{PathName, plainly, Path}
use Rattle.vs_scopes.specs.Parameters.{any_fault}
use Rattle.vs_scopes.specs.Declarations.{Use, Bindings}
use Rattle.vs_scopes.specs.Generate.{Inner, instance, generated}
use Rattle.vs_scopes.specs.Generate as g
use Rattle.vs_scopes.specs.Nets.{permits_nets}
use Rattle.vs_scopes.specs.Scopes.{Scope, Before, before, before_following, is_instance, environment, declarations_of, turns_in, signal_count, instance_count, turn_count, module_named, opened, opened_instance, instance_scope, block_scope, is_inside, has_no_values, block_fault}
use Rattle.vs_elab_signals.specs.declared.opened.ElabScope.{ElabScope as FoundScope}
use Rattle.vs_elab_signals.specs.declared.opened.Numbering.{Numbering}
use Rattle.vs_elab_signals.specs.Opened.{IsScopeOf}
use Rattle.vs_elab_signals.specs.Outlines.{declared, signal_of, signals_of}
use Rattle.vs_elab_hierarchy.specs.passes.Entering.{before_next, Enters, IsShallow, EntersNot}
use Rattle.vs_elab_hierarchy.specs.scope_passes.Adding.{with_names, IsPlanned, IsNext, CountsOne, AddsScope, AddsInner, AddsInnerNot}
use Rattle.vs_elab_hierarchy.specs.scope_passes.Own.{IsSoundOwn, HasFewTurns, OpensOwn, HoldsOwn}
use Rattle.vs_elab_hierarchy.proofs.ListLemmas.{all_at}
use Rattle.vs_design.specs.vs_logic4.proofs.Basics.{filter_append as count_append}
use Rattle.vs_elab_hierarchy.proofs.SeatLemmas.{opened_many, opened_push, seated_push, entered_around, entered_home, opened_here}
use Rattle.vs_elab_hierarchy.proofs.OwnLemmas.{is_few}
use Rattle.vs_scopes.specs.declared.faults.ElabFault.{ElabFault}
use Rattle.vs_scopes.specs.scopes_passes.Answers.{IsReported}
use Rattle.vs_scopes.proofs.AnswerLemmas.{told_by}

-- ---- what stands before scopes

pub same_before : (a b : Before) → a.scopes ≡ b.scopes → a.signals ≡ b.signals → a.instances ≡ b.instances → a.turns ≡ b.turns → a ≡ b
same_before a b h k l m =
    ap₂ (λ x y. record { scopes = x; signals = y; instances = a.instances; turns = a.turns }) h k
    ∙ ap₂ (λ x y. record { scopes = b.scopes; signals = b.signals; instances = x; turns = y }) l m

pub signals_append : (xs ys : List Scope) → signal_count (xs ++ ys) ≡ signal_count xs + signal_count ys
signals_append xs ys = ap length (flat_map-append declarations_of xs ys) ∙ length-append (flat_map declarations_of xs) (flat_map declarations_of ys)

pub turns_append : (xs ys : List Scope) → turn_count (xs ++ ys) ≡ turn_count xs + turn_count ys
turns_append xs ys = sum-map turns_in (xs ++ ys) ∙ sum_by-append turns_in xs ys ∙ ap₂ (λ m n. m + n) (sym (sum-map turns_in xs)) (sym (sum-map turns_in ys))

-- what stands behind some scopes and others behind them
pub behind_append : (at : Before) (xs ys : List Scope) → before_following at (xs ++ ys) ≡ before_following (before_following at xs) ys
behind_append at xs ys =
    same_before (before_following at (xs ++ ys)) (before_following (before_following at xs) ys)
    (omega (arith, length-append xs ys))
    (omega (arith, signals_append xs ys))
    (omega (arith, count_append (λ (s : Scope). is_instance s.kind) xs ys))
    (omega (arith, turns_append xs ys))

pub behind_none : (at : Before) → before_following at [] ≡ at
behind_none at = same_before (before_following at []) at (omega arith) (omega arith) (omega arith) (omega arith)

-- nothing stands before it
abbrev nothing_before : Before
nothing_before = record { scopes = 0; signals = 0; instances = 0; turns = 0 }

-- how many signals scopes have
pub signals_shown : (ss : List Scope) → length (flat_map signals_of ss) ≡ signal_count ss
signals_shown [] = refl
signals_shown (s ∷ ss) =
    length-append (signals_of s) (flat_map signals_of ss) ∙ ap (λ n. n + length (flat_map signals_of ss)) (length-map (declarations_of s) (signal_of s)) ∙ ap (λ n. length (declarations_of s) + n) (signals_shown ss)
    ∙ sym (length-append (declarations_of s) (flat_map declarations_of ss))

-- what stands before the next scope of a list
pub planned_before : (list : List FoundScope) (plan : Numbering) (ss : List Scope) → IsPlanned list plan ss → before_next list plan ≡ before_following nothing_before ss
planned_before list plan ss h =
    same_before (before_next list plan) (before_following nothing_before ss)
    (opened_many list ss h.opened ∙ sym (zero-add (length ss)))
    (sym (length-map plan.signals.items declared) ∙ ap length h.shown ∙ signals_shown ss ∙ sym (zero-add (signal_count ss)))
    (h.instances ∙ sym (zero-add (instance_count ss)))
    (h.turns ∙ sym (zero-add (turn_count ss)))

-- the same, behind more scopes
pub planned_behind : (list new : List FoundScope) (old plan : Numbering) (ss more : List Scope) (at : Before) → IsPlanned list old ss → before_next list old ≡ at → IsPlanned new plan (ss ++ more) → before_next new plan ≡ before_following at more
planned_behind list new old plan ss more at h e k =
    planned_before new plan (ss ++ more) k ∙ behind_append nothing_before ss more ∙ ap (λ z. before_following z more) (sym (planned_before list old ss h) ∙ e)

-- ---- a scope that is listed

with_names_entered : (ss : List Scope) (o : FoundScope) (s : Scope) (ns : Bindings) → IsScopeOf ss o s → IsScopeOf ss (with_names o ns) s
with_names_entered ss o s ns h = record {
  title = h.title;
  kind = h.kind;
  number = h.number;
  base = h.base;
  instances = h.instances;
  turns = h.turns;
  depth = h.depth;
  nets = h.nets;
  text = h.text;
  told = h.told;
  ports = h.ports;
  pieces = h.pieces;
  constants = h.constants;
  known = h.known;
  within = h.within;
  home = h.home;
  around = h.around;
  sight = h.sight;
  ends = h.ends;
  lefts = h.lefts;
}

one_more : {A : Type 0} (p : A → Bool) (xs : List A) (x : A) (b : Bool) → p x ≡ b → length (filter p (xs ++ x ∷ [])) ≡ length (filter p xs) + cond b 1 0
one_more p xs x b e = count_append p xs (x ∷ []) ∙ ap (λ n. length (filter p xs) + n) (by (p x) refl ∙ ap (λ c. cond c 1 0) e)
  where
    by : (c : Bool) → p x ≡ c → length (filter p (x ∷ [])) ≡ cond (p x) 1 0
    by true h = rw h refl
    by false h = rw h refl

few_more : (a : Bool) (n m k : ℕ) → n ≡ m + cond a 1 0 → m ≤ suc k → (a ≡ true → m ≤ k) → n ≤ suc k
few_more true n m k e h f = (let small = f refl in omega (arith, e, small))
few_more false n m k e h f = omega (arith, e, h)

pub planned_push : (list : List FoundScope) (old middle new : Numbering) (ss : List Scope) (o : FoundScope) (s : Scope) (names : Bindings) (n : ℕ) → IsPlanned list old ss → IsNext ss old o s → OpensOwn s names old middle → HasFewTurns s n →
    CountsOne o.kind n middle new → IsPlanned (list ++ with_names o names ∷ []) new (ss ++ s ∷ [])
planned_push list old middle new ss o s names n h k own t c =
    let added = with_names o names in
    let entered = k.last.entered in
    let many = opened_many list ss h.opened in
    let sound = own.sound (subst (λ m. m ≤ 65536) t.count t.few) in
    let kind : is_instance s.kind ≡ is_instance o.kind = ap is_instance (sym entered.kind) in
    let instances : new.instances ≡ old.instances + cond (is_instance o.kind) 1 0 = c.instances ∙ ap (λ n. n + cond (is_instance o.kind) 1 0) own.binds.same.instances in
    let here : old.instances ≡ s.instances = h.instances ∙ sym k.last.instances in
    let turns : turn_count (ss ++ s ∷ []) ≡ turn_count ss + turn_count (s ∷ []) = turns_append ss (s ∷ []) in
    record {
      opened = opened_push list ss added s h.opened (record { entered = with_names_entered (ss ++ s ∷ []) o s names entered; names = own.binds.bound.means }) k.last.number;
      seated = seated_push list added h.seated (λ place e. (let l = entered_around (ss ++ s ∷ []) o s place entered e in omega (arith, l, k.last.number, many))) (let l = entered_home ss o s entered in omega (arith, l, many));
      blocks = All-append (λ (z : FoundScope). z.blocks ≡ []) list (added ∷ []) h.blocks (All-cons (λ (z : FoundScope). z.blocks ≡ []) added [] k.blocks (All-nil (λ (z : FoundScope). z.blocks ≡ [])));
      sound = All-append IsSoundOwn ss (s ∷ []) h.sound (All-cons IsSoundOwn s [] sound (All-nil IsSoundOwn));
      instances = instances ∙ ap (λ n. n + cond (is_instance o.kind) 1 0) h.instances ∙ sym (one_more (λ (z : Scope). is_instance z.kind) ss s (is_instance o.kind) kind);
      turns = omega (arith, c.all_turns, t.count, k.last.turns, turns);
      shown = ap (λ z. map declared z.items) c.signals ∙ own.binds.shown ∙ ap (λ z. z ++ signals_of s) h.shown ∙ ap (λ z. flat_map signals_of ss ++ z) (sym (append-nil (signals_of s))) ∙ sym (flat_map-append signals_of ss (s ∷ []));
      room = subst (λ z. length z.items ≤ 65536) (sym c.signals) own.binds.room;
      few_instances = few_more (is_instance o.kind) new.instances old.instances 16384 instances h.few_instances (λ e. subst (λ n. n ≤ 16384) (sym here) (is_few s sound.few (kind ∙ e)));
      few_turns = subst (λ m. m ≤ 65536) (sym c.all_turns) t.few;
    }

next_before : (list : List FoundScope) (old : Numbering) (ss : List Scope) (o : FoundScope) (s : Scope) → IsPlanned list old ss → IsNext ss old o s → before_next list old ≡ before s
next_before list old ss o s h k =
    same_before (before_next list old) (before s) (opened_many list ss h.opened ∙ sym k.last.number) (sym k.base) (h.instances ∙ sym k.last.instances) (h.turns ∙ sym k.last.turns)

-- the turns of generate loops before a scope whose own members were opened
pub turns_before : (list : List FoundScope) (old middle : Numbering) (ss : List Scope) (o : FoundScope) (s : Scope) (names : Bindings) → IsPlanned list old ss → IsNext ss old o s → OpensOwn s names old middle → middle.turns ≡ s.turns
turns_before list old middle ss o s names h k own = own.binds.same.turns ∙ h.turns ∙ sym k.last.turns

pub adds_scope : (list : List FoundScope) (old middle new : Numbering) (ss : List Scope) (o : FoundScope) (s : Scope) (names : Bindings) (n : ℕ) → IsPlanned list old ss → IsNext ss old o s → OpensOwn s names old middle → HasFewTurns s n →
    CountsOne o.kind n middle new → AddsScope ss s o list (list ++ with_names o names ∷ []) old new
adds_scope list old middle new ss o s names n h k own t c =
    let planned = planned_push list old middle new ss o s names n h k own t c in
    record {
      planned = planned;
      lines = record {
        added = own.binds.lines.added;
        outline = ap (λ z. z.items) c.outline ∙ own.binds.lines.outline;
        mean = own.binds.lines.mean;
      };
      next = planned_behind list (list ++ with_names o names ∷ []) old new ss (s ∷ []) (before s) h (next_before list old ss o s h k) planned;
      added = with_names o names;
      grown = refl;
      around = refl;
      title = refl;
    }

-- ---- what is opened

instance_before : (a nets : Bool) (s : Scope) (at : Before) (u : Use) (m : Module) (t : Scope) → cond a None (Some (instance_scope nets s at u m)) ≡ Some t → (before t ≡ at) × (length t.path ≡ suc (length s.path))
instance_before true nets s at u m t e = absurd (none-some t e)
instance_before false nets s at u m t e = subst (λ z. (before z ≡ at) × (length z.path ≡ suc (length s.path))) (same_Some (instance_scope nets s at u m) t e) (refl, one_longer s.path (plainly u.name))
  where
    one_longer : (p : Path) (n : PathName) → length (p ++ n ∷ []) ≡ suc (length p)
    one_longer p n = omega (arith, length-append p (n ∷ []))

use_before : (nets : Bool) (s : Scope) (at : Before) (u : Use) (o : Option Module) (t : Scope) → opened_instance nets s at u o ≡ Some t → (before t ≡ at) × (length t.path ≡ suc (length s.path))
use_before nets s at u None t e = absurd (none-some t e)
use_before nets s at u (Some m) t e = instance_before (is_inside s m || has_no_values (environment s) u.overrides m) nets s at u m t e

block_before : (a : Bool) (i : ℕ) (s : Scope) (at : Before) (n : PathName) (cs : List (List ℕ × Const)) (ps : List Piece) (t : Scope) → cond a None (Some (block_scope i s at n cs ps)) ≡ Some t → (before t ≡ at) × (length t.path ≡ suc (length s.path))
block_before true i s at n cs ps t e = absurd (none-some t e)
block_before false i s at n cs ps t e = subst (λ z. (before z ≡ at) × (length z.path ≡ suc (length s.path))) (same_Some (block_scope i s at n cs ps) t e) (refl, omega (arith, length-append s.path (n ∷ [])))

pub opened_before : (ms : List Module) (s : Scope) (at : Before) (x : Inner) (t : Scope) → opened ms s at x ≡ Some t → (before t ≡ at) × (length t.path ≡ suc (length s.path))
opened_before ms s at (instance u) t e = use_before (permits_nets ms u.of) s at u (module_named ms u.of) t e
opened_before ms s at (generated i n cs xs) t e = block_before (any_fault (block_fault s cs (pieces_of xs))) i s at n cs (pieces_of xs) t e
opened_before ms s at (g.named x) t e = block_before (any_fault (block_fault s [] (block_pieces x))) 0 s at (plainly x.name) [] (block_pieces x) t e

-- a scope that was entered is the next
pub enters_next : (ms : List Module) (list : List FoundScope) (plan : Numbering) (ss : List Scope) (s : Scope) (place : ℕ) (x : Inner) (o : FoundScope) → IsPlanned list plan ss → (h : Enters ms ss s place (before_next list plan) x o) → IsNext ss plan o h.inner
enters_next ms list plan ss s place x o p h =
    let at = (opened_before ms s (before_next list plan) x h.inner h.opens).0 in
    record {
      last = record {
        entered = h.entered;
        number = ap (λ (z : Before). z.scopes) at ∙ opened_many list ss p.opened;
        instances = ap (λ (z : Before). z.instances) at ∙ p.instances;
        turns = ap (λ (z : Before). z.turns) at ∙ p.turns;
      };
      base = ap (λ (z : Before). z.signals) at;
      blocks = h.blocks;
    }

pub adds_inner : (ms : List Module) (start list : List FoundScope) (old new : Numbering) (ss : List Scope) (s : Scope) (place : ℕ) (x : Inner) (o : FoundScope) (h : Enters ms ss s place (before_next start old) x o) → AddsScope ss h.inner o start list old new →
    AddsInner ms ss s place (before_next start old) x start list old new
adds_inner ms start list old new ss s place x o h k = record {
  sound = h.sound;
  inner = h.inner;
  opens = h.opens;
  o = o;
  around = h.around;
  title = h.title;
  adds = k;
}

-- ---- a scope that is added in another

-- it stands in no more instances than one may
pub shallow : (list : List FoundScope) (plan : Numbering) (ss : List Scope) (place : ℕ) (s : Scope) → IsPlanned list plan ss → slice_get ss place ≡ Some s → IsShallow list place
shallow list plan ss place s h e o f =
    let depth = (opened_here list ss place o s h.opened f e).entered.depth in
    let small = (all_at IsSoundOwn ss place s h.sound e).shallow in
    omega (arith, depth, small)

pub enters_told : (ms : List Module) (s : Scope) (at : Before) (x : Inner) (e : ElabFault) → IsReported (EntersNot ms s x) e → IsReported (AddsInnerNot ms s at x) e
enters_told ms s at x e h = told_by (EntersNot ms s x) (AddsInnerNot ms s at x) e (λ r p k. inl k) h

pub added_told : (ms : List Module) (s : Scope) (at : Before) (x : Inner) (inner : Scope) (e : ElabFault) → opened ms s at x ≡ Some inner → IsReported (HoldsOwn inner) e → IsReported (AddsInnerNot ms s at x) e
added_told ms s at x inner e o h = told_by (HoldsOwn inner) (AddsInnerNot ms s at x) e (λ r p k. inr (inner, o, k)) h
