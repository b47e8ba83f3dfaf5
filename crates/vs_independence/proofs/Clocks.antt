-- The text of a clock as what is to be done, and what its turn makes of a bit.
use Rattle.std.proofs.Common.{◌≡◌, ℕ, ◌<◌, ◌++◌, Bool, true, false, Some, [], ◌∷◌, map, refl, sym, ◌∙◌, ap}
use Rattle.std.proofs.lemmas.Bool.{false≢true}
use Rattle.std.proofs.lemmas.List.{append-nil}
use Rattle.std.specs.Prelude.{sum}
use Rattle.std.specs.declared.vec.Vec.{Vec}
use Rattle.vs_design.specs.WellFormed.{aim_width}
use Rattle.std.specs.declared.alloc.Global.{Global}
use Rattle.vs_design.specs.vs_logic4.specs.declared.digit.Digit.{Digit}
use Rattle.vs_design.specs.declared.expression.Typed.{Typed}
use Rattle.vs_design.specs.declared.statement.Statement.{Statement}
use Rattle.vs_design.specs.declared.statement.Statement.TheVariants.{rolls-Block}
use Rattle.vs_design.specs.declared.statement.Statement.TheOpen.{Statement-F}
use Rattle.vs_design.specs.declared.statement.Statement.TheViews.{out-Statement, roll-Statement, roll-out-Statement}
use Rattle.vs_design.specs.declared.statement.Target.{Target}
use Rattle.vs_design.specs.Parts.{Parts}
use Rattle.vs_design.specs.Stores.{Store}
use Rattle.vs_process.specs.Drafts.{flat_all, is_block}
use Rattle.vs_process.specs.Places.{perform, Todo, flat}
use Rattle.vs_process.specs.Steps.{goes, on, after, assignment, statement_step, step}
use Rattle.vs_process.proofs.Shapes.{flat-Block, flat-single}
use Rattle.vs_rules.specs.Constants.{IsBare, itself, inside, IsTurn, IsWholeTarget, Sets, TurnsForever}

-- ---- `begin` and `end` round one statement are nothing

pub record Bared (s : Statement) (x : Statement-F Statement) : Type 0 where
  pub bare : Statement
  pub is : out-Statement bare ≡ x
  pub flat_is : flat s ≡ perform bare ∷ []

pub flat_inside : (s : Statement) (all : Vec Statement Global) (inner : Statement) → out-Statement s ≡ Statement-F.Block all → all.items ≡ inner ∷ [] → flat s ≡ flat inner
flat_inside s all inner is one =
    ap flat (sym (roll-out-Statement s) ∙ ap roll-Statement is ∙ rolls-Block all) ∙ flat-Block all ∙ ap flat_all one ∙ append-nil (flat inner)

pub bare_flat : (s : Statement) (x : Statement-F Statement) → IsBare s x → is_block x ≡ false → Bared s x
bare_flat _ _ (itself s x is) single = record { bare = s; is = is; flat_is = flat-single s (ap is_block is ∙ single) }
bare_flat _ _ (inside s all inner x is one deep) single =
    let b = bare_flat inner x deep single in
    record { bare = b.bare; is = b.is; flat_is = flat_inside s all inner is one ∙ b.flat_is }

-- whether what is to be done begins with a loop without an end
abbrev is_endless : Statement-F Statement → Bool
is_endless (Statement-F.Forever number inner) = true
is_endless _ = false

abbrev begins_endless : Todo → Bool
begins_endless (perform s ∷ rest) = is_endless (out-Statement s)
begins_endless _ = false

-- no statement both turns a clock for ever and sets it
pub not_both : (d : Parts) (wide : Bool) (v half : ℕ) (digit : Digit) (s : Statement) → TurnsForever d wide v half s → Sets d v digit s → ⊥
not_both d wide v half digit s turns sets =
    let one = bare_flat s (Statement-F.Forever turns.number turns.inner) turns.is refl in
    let other = bare_flat s (Statement-F.Assign sets.number sets.target sets.value) sets.is refl in
    false≢true (sym (ap begins_endless other.flat_is ∙ ap is_endless other.is) ∙ ap begins_endless one.flat_is ∙ ap is_endless one.is)

-- ---- the loop of a clock: three statements, `forever`, `#h` and `u = ~u`

pub record Loop (d : Parts) (wide : Bool) (v half : ℕ) (s : Statement) : Type 0 where
  pub forever : Statement
  pub delay : Statement
  pub turn : Statement
  pub number : ℕ
  pub target : Target
  pub value : Typed
  pub above : 0 < half
  pub whole : IsWholeTarget d v target
  pub inverse : IsTurn d wide v value
  pub sized : sum (map aim_width target.parts.items) ≡ target.width
  -- as what is to be done
  pub first : flat s ≡ perform forever ∷ []
  -- the steps
  pub begins : (rest : Todo) (store : Store) (time : ℕ) → step (perform forever ∷ rest) store time ≡ goes (on (perform delay ∷ perform forever ∷ rest))
  pub pauses : (rest : Todo) (store : Store) (time : ℕ) → step (perform delay ∷ rest) store time ≡ goes (after number half (perform turn ∷ rest))
  pub writes : (rest : Todo) (store : Store) (time : ℕ) → step (perform turn ∷ rest) store time ≡ record (goes (on rest)) { write = Some (assignment target value store time) }

pub loop_of : (d : Parts) (wide : Bool) (v half : ℕ) (s : Statement) (h : TurnsForever d wide v half s) → sum (map aim_width h.turns.target.parts.items) ≡ h.turns.target.width → Loop d wide v half s
loop_of d wide v half s h sized = record {
  forever = one.bare;
  delay = two.bare;
  turn = three.bare;
  number = h.turns.number;
  target = h.turns.target;
  value = h.turns.value;
  above = h.turns.above;
  whole = h.turns.whole;
  inverse = h.turns.inverse;
  sized = sized;
  first = one.flat_is;
  begins = λ rest store time. ap (λ x. statement_step one.bare x rest store time) one.is ∙ ap (λ l. goes (on (l ++ perform one.bare ∷ rest))) two.flat_is;
  pauses = λ rest store time.
      ap (λ x. statement_step two.bare x rest store time) two.is
      ∙ ap (λ l. goes (after h.turns.number h.turns.ticks.count (l ++ rest))) three.flat_is
      ∙ ap (λ n. goes (after h.turns.number n (perform three.bare ∷ rest))) h.turns.half_is;
  writes = λ rest store time. ap (λ x. statement_step three.bare x rest store time) three.is;
}
  where
    one : Bared s (Statement-F.Forever h.number h.inner)
    one = bare_flat s (Statement-F.Forever h.number h.inner) h.is refl

    two : Bared h.inner.value (Statement-F.Delay h.turns.number h.turns.ticks h.turns.inner)
    two = bare_flat h.inner.value (Statement-F.Delay h.turns.number h.turns.ticks h.turns.inner) h.turns.is refl

    three : Bared h.turns.inner.value (Statement-F.Assign h.turns.assigns h.turns.target h.turns.value)
    three = bare_flat h.turns.inner.value (Statement-F.Assign h.turns.assigns h.turns.target h.turns.value) h.turns.body refl
