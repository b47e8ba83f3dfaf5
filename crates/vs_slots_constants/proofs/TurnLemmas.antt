-- A process that turns a signal for ever writes it at a point, and gives it no constant there.
use Rattle.std.proofs.Common.{◌≡◌, ℕ, ◌++◌, Bool, true, false, Option, Some, None, List, [], ◌∷◌, map, if◌then◌else◌, slice_get, refl, sym, ◌∙◌, ap, subst, arith}
use Rattle.std.specs.List.{Contains}
use Rattle.std.specs.declared.vec.Vec.{Vec}
use Rattle.std.specs.declared.alloc.Global.{Global}
use Rattle.std.proofs.lemmas.List.{append-nil}
use Rattle.vs_design.specs.vs_logic4.specs.declared.digit.Digit.{Digit}
use Rattle.vs_design.specs.vs_logic4.specs.declared.operators.Unary.TheVariants as op
use Rattle.vs_design.specs.declared.design.Process.{Process}
use Rattle.vs_design.specs.declared.expression.Typed.{Typed, Typed-F}
use Rattle.vs_design.specs.declared.expression.Typed.TheOpen as t
use Rattle.vs_design.specs.declared.expression.Typed.TheFolds.{fold_out-Typed, map-Typed}
use Rattle.vs_design.specs.declared.expression.Typed.TheViews.{out-Typed}
use Rattle.vs_design.specs.declared.range.BitRange.{BitRange}
use Rattle.vs_design.specs.declared.statement.Statement.{Statement}
use Rattle.vs_design.specs.declared.statement.Statement.TheOpen.{Statement-F}
use Rattle.vs_design.specs.declared.statement.Statement.TheVariants.{rolls-Block}
use Rattle.vs_design.specs.declared.statement.Statement.TheViews.{out-Statement, roll-Statement, roll-out-Statement}
use Rattle.vs_design.specs.declared.statement.Target.{Target}
use Rattle.vs_design.specs.Uses.{aim_range, reads, reads_step, slice_range}
use Rattle.vs_design.specs.Parts.{Parts}
use Rattle.vs_process.specs.Drafts.{flat_all, is_block}
use Rattle.vs_process.specs.Nexts.{statement_nexts}
use Rattle.vs_process.specs.Places.{perform, Todo, flat}
use Rattle.vs_process.specs.Steps.{on, after}
use Rattle.vs_process.proofs.Shapes.{flat-Block, flat-single}
use Rattle.vs_rules.specs.Points.{Among, Point, first_todo}
use Rattle.vs_rules.specs.Paths.{Bit, IsPoint, Writes, WritesNow, statement_now}
use Rattle.vs_rules.specs.Constants.{bit_of, given, given_by, is_nothing, statement_assigns, Gives, IsBare, itself, inside, IsInverseLayer, IsNegationLayer, InvertsLayer, IsTurn, IsWhole, IsWholeLayer, IsWholeSelect, SetsAlike, Turns, TurnsForever}
use Rattle.vs_slots_constants.specs.Clocks.{IsBodyOf}
use Rattle.vs_rules.proofs.Texts.{begins_with, writes_now, writer_there}

-- ---- an inverse reads

select_reads : (d : Parts) (v width : ℕ) (e : Typed) → IsWholeSelect d v width (out-Typed e) → is_nothing (reads e) ≡ false
select_reads d v width e h = by_layer (out-Typed e) h (fold_out-Typed (List BitRange) reads_step e)
  where
    by_layer : (x : Typed-F Typed) → IsWholeSelect d v width x → reads e ≡ reads_step (map-Typed Typed (List BitRange) reads x) → is_nothing (reads e) ≡ false
    by_layer (t.Slice s) w is = ap is_nothing is
    by_layer _ w is = absurd w

whole_reads : (d : Parts) (v : ℕ) (e : Typed) → IsWhole d v e → is_nothing (reads e) ≡ false
whole_reads d v e h = by_layer (out-Typed e) h (fold_out-Typed (List BitRange) reads_step e)
  where
    by_layer : (x : Typed-F Typed) → IsWholeLayer d v x → reads e ≡ reads_step (map-Typed Typed (List BitRange) reads x) → is_nothing (reads e) ≡ false
    by_layer (t.Signal o) w is = ap is_nothing is
    by_layer (t.Slice s) w is = ap is_nothing is
    by_layer (t.Resized size x) w is = ap is_nothing is ∙ select_reads d v size.width x.value w
    by_layer _ w is = absurd w

negation_reads : (d : Parts) (v : ℕ) (e : Typed) → IsNegationLayer d v (out-Typed e) → is_nothing (reads e) ≡ false
negation_reads d v e h = by_layer (out-Typed e) h (fold_out-Typed (List BitRange) reads_step e)
  where
    by_layer : (x : Typed-F Typed) → IsNegationLayer d v x → reads e ≡ reads_step (map-Typed Typed (List BitRange) reads x) → is_nothing (reads e) ≡ false
    by_layer (t.Unary op.LogicalNot x) w is = ap is_nothing is ∙ whole_reads d v x.value w
    by_layer _ w is = absurd w

inverse_reads : (d : Parts) (v : ℕ) (e : Typed) → IsInverseLayer d v (out-Typed e) → is_nothing (reads e) ≡ false
inverse_reads d v e h = by_layer (out-Typed e) h (fold_out-Typed (List BitRange) reads_step e)
  where
    by_layer : (x : Typed-F Typed) → IsInverseLayer d v x → reads e ≡ reads_step (map-Typed Typed (List BitRange) reads x) → is_nothing (reads e) ≡ false
    by_layer (t.Unary op.Not x) w is = ap is_nothing is ∙ whole_reads d v x.value w
    by_layer _ w is = absurd w

inverts_reads : (d : Parts) (v : ℕ) (e : Typed) → InvertsLayer d v (out-Typed e) → is_nothing (reads e) ≡ false
inverts_reads d v e h = by_layer (out-Typed e) h (fold_out-Typed (List BitRange) reads_step e)
  where
    by_layer : (x : Typed-F Typed) → InvertsLayer d v x → reads e ≡ reads_step (map-Typed Typed (List BitRange) reads x) → is_nothing (reads e) ≡ false
    by_layer (t.Unary op.Not x) w is = ap is_nothing is ∙ whole_reads d v x.value w
    by_layer (t.Resized size x) w is = ap is_nothing is ∙ negation_reads d v x.value w.1
    by_layer _ w is = absurd w

turn_reads : (d : Parts) (wide : Bool) (v : ℕ) (e : Typed) → IsTurn d wide v e → is_nothing (reads e) ≡ false
turn_reads d false v e h = inverse_reads d v e h
turn_reads d true v e h = inverts_reads d v e h

none_chosen : (b : Bool) (o : Option Digit) (digit : Digit) → b ≡ false → (if b then o else None) ≡ Some digit → ⊥
none_chosen true o digit e h = cc
none_chosen false o digit e h = cc

gives_none : (target : Target) (value : Typed) (b : Bit) (digit : Digit) → is_nothing (reads value) ≡ false → given target value b ≡ Some digit → ⊥
gives_none target value b digit e h = none_chosen (is_nothing (reads value)) _ digit e h

-- ---- `begin` and `end` round one statement are nothing

record Bared (s : Statement) (x : Statement-F Statement) : Type 0 where
  bare : Statement
  is : out-Statement bare ≡ x
  flat_is : flat s ≡ perform bare ∷ []

flat_inside : (s : Statement) (all : Vec Statement Global) (inner : Statement) → out-Statement s ≡ Statement-F.Block all → all.items ≡ inner ∷ [] → flat s ≡ flat inner
flat_inside s all inner is one =
    ap flat (sym (roll-out-Statement s) ∙ ap roll-Statement is ∙ rolls-Block all) ∙ flat-Block all ∙ ap flat_all one ∙ append-nil (flat inner)

bare_flat : (s : Statement) (x : Statement-F Statement) → IsBare s x → is_block x ≡ false → Bared s x
bare_flat _ _ (itself s x is) single = record { bare = s; is = is; flat_is = flat-single s (ap is_block is ∙ single) }
bare_flat _ _ (inside s all inner x is one deep) single =
    let b = bare_flat inner x deep single in
    record { bare = b.bare; is = b.is; flat_is = flat_inside s all inner is one ∙ b.flat_is }

-- ---- the point where it is turned

-- a point of a process that writes a signal, and gives it no constant
record GivesNone (d : Parts) (i v : ℕ) : Type 0 where
  at : Todo
  point : IsPoint d i at
  writes : WritesNow d at v
  none : (digit : Digit) → Gives at (bit_of v) digit → ⊥

turned_point : (d : Parts) (wide : Bool) (v i half : ℕ) (p : Process) → slice_get d.processes i ≡ Some p → TurnsForever d wide v half p.body → GivesNone d i v
turned_point d wide v i half p is h = record {
  at = perform three.bare ∷ perform one.bare ∷ [];
  point = at_turn;
  writes = record {
    range = range;
    listed = (subst (λ (f : Statement-F Statement). Contains (statement_now f) range) (sym three.is) (subst (λ (l : List BitRange). Contains l range) (sym (ap (map aim_range) turn.whole.only)) (0, omega arith, refl)), tt);
    of = turn.whole.whole.of;
  };
  none = λ digit g. gives_none turn.target turn.value (bit_of v) digit (turn_reads d wide v turn.value turn.inverse)
      (sym (ap (λ f. given_by (statement_assigns f) (bit_of v)) three.is) ∙ g);
}
  where
    turn : Turns d wide v half h.inner.value
    turn = h.turns

    range : BitRange
    range = slice_range turn.whole.slice

    one : Bared p.body (Statement-F.Forever h.number h.inner)
    one = bare_flat p.body (Statement-F.Forever h.number h.inner) h.is refl

    two : Bared h.inner.value (Statement-F.Delay turn.number turn.ticks turn.inner)
    two = bare_flat h.inner.value (Statement-F.Delay turn.number turn.ticks turn.inner) turn.is refl

    three : Bared turn.inner.value (Statement-F.Assign turn.assigns turn.target turn.value)
    three = bare_flat turn.inner.value (Statement-F.Assign turn.assigns turn.target turn.value) turn.body refl

    at_loop : IsPoint d i (perform one.bare ∷ [])
    at_loop = subst (Point (first_todo d i)) (begins_with d i p is ∙ one.flat_is) Point.begins

    at_delay : IsPoint d i (perform two.bare ∷ perform one.bare ∷ [])
    at_delay = subst (IsPoint d i) (ap (λ (todo : Todo). todo ++ perform one.bare ∷ []) two.flat_is)
        (Point.goes_on (perform one.bare ∷ []) (flat h.inner.value ++ perform one.bare ∷ []) at_loop
        (subst (λ f. Among (on (flat h.inner.value ++ perform one.bare ∷ [])) (statement_nexts one.bare f [])) (sym one.is) (Among.first [])))

    at_turn : IsPoint d i (perform three.bare ∷ perform one.bare ∷ [])
    at_turn = subst (IsPoint d i) (ap (λ (todo : Todo). todo ++ perform one.bare ∷ []) three.flat_is)
        (Point.waits (perform two.bare ∷ perform one.bare ∷ []) (flat turn.inner.value ++ perform one.bare ∷ []) turn.number turn.ticks.count at_delay
        (subst (λ f. Among (after turn.number turn.ticks.count (flat turn.inner.value ++ perform one.bare ∷ [])) (statement_nexts two.bare f (perform one.bare ∷ []))) (sym two.is) (Among.first [])))

-- ---- what sets a signal alike

-- what sets a signal alike writes it
pub alike_writes : (d : Parts) (v j : ℕ) (digit : Digit) → SetsAlike d v digit j → Writes d j v
alike_writes d v j digit h = writes_now d j h.at v h.point h.writes

-- and doesn't turn it
pub alike_apart : (d : Parts) (wide : Bool) (v i half : ℕ) (digit : Digit) (body : Statement) → IsBodyOf d i body → TurnsForever d wide v half body → SetsAlike d v digit i → ⊥
alike_apart d wide v i half digit body its turns sets =
    let p = writer_there d i v (alike_writes d v i digit sets) in
    let g = turned_point d wide v i half p.0 p.1 (subst (TurnsForever d wide v half) (sym (its p.0 p.1)) turns) in
    g.none digit (sets.gives g.at g.point g.writes)
