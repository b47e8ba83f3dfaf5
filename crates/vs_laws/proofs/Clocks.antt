-- Copies and clocks of designs that say the same.
use Rattle.std.proofs.Common.{◌≡◌, ℕ, ◌⊎◌, Bool, true, false, List, [], ◌∷◌, refl, ap, sym, subst, ◌∙◌, inl, inr}
use Rattle.std.specs.declared.vec.Vec.{Vec}
use Rattle.std.specs.declared.boxed.Box.{Box}
use Rattle.std.specs.declared.alloc.Global.{Global}
use Rattle.vs_design.specs.vs_logic4.specs.declared.digit.Digit.{Digit}
use Rattle.vs_design.specs.declared.design.ProcessKind.{ProcessKind}
use Rattle.vs_design.specs.declared.design.ProcessKind.TheVariants.{Initial}
use Rattle.vs_design.specs.declared.expression.Typed.{Typed}
use Rattle.vs_design.specs.declared.statement.Statement.{Statement}
use Rattle.vs_design.specs.declared.statement.Statement.TheOpen.{Statement-F}
use Rattle.vs_design.specs.declared.statement.Statement.TheOpen as f
use Rattle.vs_design.specs.declared.statement.Statement.TheViews.{out-Statement}
use Rattle.vs_design.specs.declared.statement.Target.{Target}
use Rattle.vs_design.specs.declared.statement.Ticks.{Ticks}
use Rattle.vs_design.specs.Parts.{Parts}
use Rattle.vs_elab_statements.specs.vs_elab_signals.specs.Outlines.{Declared}
use Rattle.vs_elaborate.specs.Same.{SameSides}
use Rattle.vs_rules.specs.Claims.{Claims, is_wide}
use Rattle.vs_rules.specs.Constants.{bit_of, IsBare, itself, inside, Sets, Turns, SetsAfter, TurnsForever, SetsAndTurns, HasBody, SetsAlike, SetsFirst, IsClock}
use Rattle.vs_laws.proofs.Alike.{Alike, alike, AlikeLayer, of_assign, of_delay, of_block, of_forever, AlikeAll, all_end, all_more}
use Rattle.vs_laws.proofs.Cones.{writes_as}
use Rattle.vs_laws.proofs.Designs.{Twins, back, signal_there, process_there}
use Rattle.vs_laws.proofs.Done.{gives_digit_as, writes_later_as, writes_now_as}
use Rattle.vs_laws.proofs.Named.{writer_as}
use Rattle.vs_laws.proofs.Todos.{todo_turned}
use Rattle.vs_laws.proofs.Trees.{SameSizes, turn_as, whole_target_as, given_as}
use Rattle.vs_laws.proofs.Walks.{point_as}

-- twins have signals of one size
pub sizes : {d d' : Parts} → Twins d d' → SameSizes d d'
sizes t v s e =
    let o = signal_there t v s e in
    (o.other, o.is, ap (λ (z : Declared). z.words) o.same, ap (λ (z : Declared). z.count) o.same, ap (λ (z : Declared). z.width) o.same)

-- ---- the outermost layer of statements that say the same

pub layers : (s s' : Statement) → Alike s s' → AlikeLayer (out-Statement s) (out-Statement s')
layers _ _ (alike s s' l) = l

record AssignAs (k : ℕ) (t : Target) (x : Typed) (y : Statement-F Statement) : Type 0 where
  target : Target
  value : Typed
  is : y ≡ f.Assign k target value
  same : SameSides t target x value

assign_layer : (k : ℕ) (t : Target) (x : Typed) (y : Statement-F Statement) → AlikeLayer (f.Assign k t x) y → AssignAs k t x y
assign_layer _ _ _ _ (of_assign k t t' x x' m) = record { target = t'; value = x'; is = refl; same = m }

record DelayAs (k : ℕ) (n : Ticks) (x : Box Statement Global) (y : Statement-F Statement) : Type 0 where
  ticks : Ticks
  body : Box Statement Global
  is : y ≡ f.Delay k ticks body
  count : n.count ≡ ticks.count
  same : Alike x.value body.value

delay_layer : (k : ℕ) (n : Ticks) (x : Box Statement Global) (y : Statement-F Statement) → AlikeLayer (f.Delay k n x) y → DelayAs k n x y
delay_layer _ _ _ _ (of_delay k n n' x x' c m) = record { ticks = n'; body = x'; is = refl; count = c; same = m }

pub record ForeverAs (k : ℕ) (x : Box Statement Global) (y : Statement-F Statement) : Type 0 where
  pub body : Box Statement Global
  pub is : y ≡ f.Forever k body
  pub same : Alike x.value body.value

pub forever_layer : (k : ℕ) (x : Box Statement Global) (y : Statement-F Statement) → AlikeLayer (f.Forever k x) y → ForeverAs k x y
forever_layer _ _ _ (of_forever k x x' m) = record { body = x'; is = refl; same = m }

record BlockAs (xs : Vec Statement Global) (y : Statement-F Statement) : Type 0 where
  all : Vec Statement Global
  is : y ≡ f.Block all
  same : AlikeAll xs.items all.items

block_layer : (xs : Vec Statement Global) (y : Statement-F Statement) → AlikeLayer (f.Block xs) y → BlockAs xs y
block_layer _ _ (of_block xs xs' m) = record { all = xs'; is = refl; same = m }

one_inside : (x : Statement) (ys : List Statement) → AlikeAll (x ∷ []) ys → (y : Statement) × (ys ≡ y ∷ []) × Alike x y
one_inside _ _ (all_more x x' _ _ m all_end) = (x', refl, m)

two_inside : (x z : Statement) (ys : List Statement) → AlikeAll (x ∷ z ∷ []) ys → (y : Statement) × (w : Statement) × (ys ≡ y ∷ w ∷ []) × Alike x y × Alike z w
two_inside _ _ _ (all_more x x' _ _ m (all_more z z' _ _ n all_end)) = (x', z', refl, m, n)

-- ---- statements but for `begin` and `end` round one

record BareAs (s : Statement) (x : Statement-F Statement) : Type 0 where
  layer : Statement-F Statement
  is : IsBare s layer
  same : AlikeLayer x layer

bare_as : (s s' : Statement) (x : Statement-F Statement) → Alike s s' → IsBare s x → BareAs s' x
bare_as _ s' _ m (itself s x e) =
    record { layer = out-Statement s'; is = itself s' (out-Statement s') refl; same = subst (λ (y : Statement-F Statement). AlikeLayer y (out-Statement s')) e (layers s s' m) }
bare_as _ s' _ m (inside s all inner x e only b) =
    let l = block_layer all (out-Statement s') (subst (λ (y : Statement-F Statement). AlikeLayer y (out-Statement s')) e (layers s s' m)) in
    let one = one_inside inner l.all.items (subst (λ (xs : List Statement). AlikeAll xs l.all.items) only l.same) in
    let r = bare_as inner one.0 x one.2 b in
    record { layer = r.layer; is = inside s' l.all one.0 r.layer l.is one.1 r.is; same = r.same }

-- ---- clocks

module _ (d d' : Parts) (t : Twins d d') where
  sets_as : (v : ℕ) (digit : Digit) (s s' : Statement) → Alike s s' → Sets d v digit s → Sets d' v digit s'
  sets_as v digit s s' m h =
      let b = bare_as s s' (f.Assign h.number h.target h.value) m h.is in
      let a = assign_layer h.number h.target h.value b.layer b.same in
      record {
        number = h.number;
        target = a.target;
        value = a.value;
        is = subst (IsBare s') a.is b.is;
        whole = whole_target_as d d' (sizes t) v h.target a.target a.same.target h.whole;
        known = h.known;
        gives = sym (given_as h.target a.target h.value a.value (bit_of v) a.same) ∙ h.gives;
      }

  turns_as : (wide : Bool) (v half : ℕ) (s s' : Statement) → Alike s s' → Turns d wide v half s → Turns d' wide v half s'
  turns_as wide v half s s' m h =
      let b = bare_as s s' (f.Delay h.number h.ticks h.inner) m h.is in
      let l = delay_layer h.number h.ticks h.inner b.layer b.same in
      let i = bare_as h.inner.value l.body.value (f.Assign h.assigns h.target h.value) l.same h.body in
      let a = assign_layer h.assigns h.target h.value i.layer i.same in
      record {
        number = h.number;
        ticks = l.ticks;
        inner = l.body;
        is = subst (IsBare s') l.is b.is;
        half_is = sym l.count ∙ h.half_is;
        above = h.above;
        assigns = h.assigns;
        target = a.target;
        value = a.value;
        body = subst (IsBare l.body.value) a.is i.is;
        whole = whole_target_as d d' (sizes t) v h.target a.target a.same.target h.whole;
        inverse = turn_as d d' (sizes t) wide v h.value a.value a.same.source.layer h.inverse;
      }

  sets_after_as : (v offset : ℕ) (digit : Digit) (s s' : Statement) → Alike s s' → SetsAfter d v offset digit s → SetsAfter d' v offset digit s'
  sets_after_as v offset digit s s' m h =
      let b = bare_as s s' (f.Delay h.number h.ticks h.inner) m h.is in
      let l = delay_layer h.number h.ticks h.inner b.layer b.same in
      record {
        number = h.number;
        ticks = l.ticks;
        inner = l.body;
        is = subst (IsBare s') l.is b.is;
        offset_is = sym l.count ∙ h.offset_is;
        sets = sets_as v digit h.inner.value l.body.value l.same h.sets;
      }

  turns_forever_as : (wide : Bool) (v half : ℕ) (s s' : Statement) → Alike s s' → TurnsForever d wide v half s → TurnsForever d' wide v half s'
  turns_forever_as wide v half s s' m h =
      let b = bare_as s s' (f.Forever h.number h.inner) m h.is in
      let l = forever_layer h.number h.inner b.layer b.same in
      record {
        number = h.number;
        inner = l.body;
        is = subst (IsBare s') l.is b.is;
        turns = turns_as wide v half h.inner.value l.body.value l.same h.turns;
      }

  first_as : (v offset : ℕ) (digit : Digit) (s s' : Statement) → Alike s s' → ((offset ≡ 0) × Sets d v digit s) ⊎ SetsAfter d v offset digit s →
      ((offset ≡ 0) × Sets d' v digit s') ⊎ SetsAfter d' v offset digit s'
  first_as v offset digit s s' m (inl h) = inl (h.0, sets_as v digit s s' m h.1)
  first_as v offset digit s s' m (inr h) = inr (sets_after_as v offset digit s s' m h)

  sets_and_turns_as : (wide : Bool) (v offset half : ℕ) (digit : Digit) (s s' : Statement) → Alike s s' → SetsAndTurns d wide v offset half digit s → SetsAndTurns d' wide v offset half digit s'
  sets_and_turns_as wide v offset half digit s s' m h =
      let b = bare_as s s' (f.Block h.all) m h.is in
      let l = block_layer h.all b.layer b.same in
      let two = two_inside h.first h.second l.all.items (subst (λ (xs : List Statement). AlikeAll xs l.all.items) h.two l.same) in
      record {
        all = l.all;
        is = subst (IsBare s') l.is b.is;
        first = two.0;
        second = two.1;
        two = two.2;
        sets = first_as v offset digit h.first two.0 two.3 h.sets;
        turns = turns_forever_as wide v half h.second two.1 two.4 h.turns;
      }

  has_body_as : (i : ℕ) (kind : ProcessKind) (P P' : Statement → Type 0) → ((s s' : Statement) → Alike s s' → P s → P' s') → HasBody d i kind P → HasBody d' i kind P'
  has_body_as i kind P P' passes h =
      let o = process_there t i h.process h.is in
      record { process = o.other; is = o.is; kind_is = sym o.same.kind ∙ h.kind_is; body = passes h.process.body o.other.body o.same.body h.body }

  sets_alike_as : (v : ℕ) (digit : Digit) (j : ℕ) → SetsAlike d v digit j → SetsAlike d' v digit j
  sets_alike_as v digit j h =
      let u = back t in
      let p = point_as t j h.at h.point in
      record {
        known = h.known;
        at = p.to;
        point = p.is;
        writes = writes_now_as d d' h.at p.to v p.same h.writes;
        now = λ k is w. let q = point_as u j k is in h.now q.to q.is (writes_later_as d' d k q.to v q.same w);
        gives = λ k is w.
            let q = point_as u j k is in
            gives_digit_as (bit_of v) digit q.to k (todo_turned k q.to q.same) (h.gives q.to q.is (writes_now_as d' d k q.to v q.same w));
      }

  sets_first_as : (wide : Bool) (v : ℕ) (digit : Digit) (j : ℕ) → SetsFirst d wide v digit j → SetsFirst d' wide v digit j
  sets_first_as false v digit j h = has_body_as j Initial (Sets d v digit) (Sets d' v digit) (sets_as v digit) h
  sets_first_as true v digit j h = sets_alike_as v digit j h

pub clock_as : {d d' : Parts} → Twins d d' → (c : Claims) (v : ℕ) (digit : Digit) (offset half : ℕ) → IsClock d c v digit offset half → IsClock d' c v digit offset half
clock_as {d} {d'} t c v digit offset half (IsClock.alone i w b) =
    let wide = is_wide c in
    IsClock.alone i (writer_as t c v i w)
    (has_body_as d d' t i Initial (SetsAndTurns d wide v offset half digit) (SetsAndTurns d' wide v offset half digit) (sets_and_turns_as d d' t wide v offset half digit) b)
clock_as {d} {d'} t c v digit offset half (IsClock.two i j kind w may b a e others) =
    let wide = is_wide c in
    IsClock.two i j kind (writer_as t c v i w) may (has_body_as d d' t i kind (TurnsForever d wide v half) (TurnsForever d' wide v half) (turns_forever_as d d' t wide v half) b)
    (sets_first_as d d' t wide v digit j a) e (λ k w. others k (writes_as (back t) k v w))
