-- What says the same says the same the other way round.
use Rattle.std.proofs.Common.{List, [], ◌∷◌, sym}
use Rattle.std.specs.List.{AllZip}
use Rattle.vs_design.specs.declared.expression.Typed.{Typed}
use Rattle.vs_design.specs.declared.statement.Aim.{Aim}
use Rattle.vs_design.specs.declared.statement.Call.{Call}
use Rattle.vs_design.specs.declared.statement.FormatArg.{FormatArg}
use Rattle.vs_design.specs.declared.statement.FormatArg.TheVariants as a
use Rattle.vs_design.specs.declared.statement.Statement.{Statement}
use Rattle.vs_design.specs.declared.statement.Statement.TheOpen.{Statement-F}
use Rattle.vs_design.specs.declared.statement.Statement.TheViews.{out-Statement}
use Rattle.vs_design.specs.declared.statement.Target.{Target}
use Rattle.vs_elaborate.specs.Same.{SameTyped, SameAim, SameTarget, SameSides, SameFormatArg, SameCall}
use Rattle.vs_laws.proofs.Alike.{Choice, Alike, alike, AlikeLayer, of_null, of_assign, of_later, of_call, of_finish, of_block, of_delay, of_event, of_if, of_case, of_while, of_repeat, of_forever, AlikeAll, all_end, all_more, AlikeChoices, choices_end, choices_more}

pub zip_turned : {A : Type 0} (R : A → A → Type 0) → ((x x' : A) → R x x' → R x' x) → (xs xs' : List A) → AllZip R xs xs' → AllZip R xs' xs
zip_turned R turn [] [] h = tt
zip_turned R turn [] (x' ∷ xs') h = absurd h
zip_turned R turn (x ∷ xs) [] h = absurd h
zip_turned R turn (x ∷ xs) (x' ∷ xs') h = (turn x x' h.0, zip_turned R turn xs xs' h.1)

pub typed_turned : (x x' : Typed) → SameTyped x x' → SameTyped x' x
typed_turned x x' h = record { size = sym h.size; value = λ store time. sym (h.value store time); ranges = sym h.ranges; layer = sym h.layer }

aim_turned : (x x' : Aim) → SameAim x x' → SameAim x' x
aim_turned x x' h = record { width = sym h.width; fixed = sym h.fixed; range = sym h.range; part = λ digits store time. sym (h.part digits store time) }

target_turned : (t t' : Target) → SameTarget t t' → SameTarget t' t
target_turned t t' h = record {
  width = sym h.width;
  places = zip_turned SameAim aim_turned t.parts.items t'.parts.items h.places;
  ranges = sym h.ranges;
  indices = sym h.indices;
  write = λ digits store time. sym (h.write digits store time);
}

pub sides_turned : (t t' : Target) (x x' : Typed) → SameSides t t' x x' → SameSides t' t x' x
sides_turned t t' x x' h = record { target = target_turned t t' h.target; source = typed_turned x x' h.source }

format_turned : (x x' : FormatArg) → SameFormatArg x x' → SameFormatArg x' x
format_turned (a.Value signed x) (a.Value signed' x') h = (sym h.0, typed_turned x x' h.1)
format_turned (a.Value signed x) a.Time h = absurd h
format_turned a.Time (a.Value signed' x') h = absurd h
format_turned a.Time a.Time h = tt

call_turned : (c c' : Call) → SameCall c c' → SameCall c' c
call_turned c c' h = record {
  kind = sym h.kind;
  text = sym h.text;
  args = zip_turned SameFormatArg format_turned c.args.items c'.args.items h.args;
  path = sym h.path;
  ratio = sym h.ratio;
}

mutual
  pub turned : (s s' : Statement) → Alike s s' → Alike s' s
  turned _ _ (alike s s' l) = alike s' s (layer_turned (out-Statement s) (out-Statement s') l)

  layer_turned : (x x' : Statement-F Statement) → AlikeLayer x x' → AlikeLayer x' x
  layer_turned _ _ (of_null k) = of_null k
  layer_turned _ _ (of_assign k t t' x x' m) = of_assign k t' t x' x (sides_turned t t' x x' m)
  layer_turned _ _ (of_later k n n' t t' x x' c m) = of_later k n' n t' t x' x (sym c) (sides_turned t t' x x' m)
  layer_turned _ _ (of_call k c c' m) = of_call k c' c (call_turned c c' m)
  layer_turned _ _ (of_finish k) = of_finish k
  layer_turned _ _ (of_block xs xs' m) = of_block xs' xs (all_turned xs.items xs'.items m)
  layer_turned _ _ (of_delay k n n' x x' c m) = of_delay k n' n x' x (sym c) (turned x.value x'.value m)
  layer_turned _ _ (of_event k ts ts' x x' c m) = of_event k ts' ts x' x (sym c) (turned x.value x'.value m)
  layer_turned _ _ (of_if k e e' x x' z z' h m r) = of_if k e' e x' x z' z (typed_turned e e' h) (turned x.value x'.value m) (turned z.value z'.value r)
  layer_turned _ _ (of_case k kind e e' xs xs' h m) = of_case k kind e' e xs' xs (typed_turned e e' h) (choices_turned xs.items xs'.items m)
  layer_turned _ _ (of_while k e e' x x' h m) = of_while k e' e x' x (typed_turned e e' h) (turned x.value x'.value m)
  layer_turned _ _ (of_repeat k signed e e' x x' h m) = of_repeat k signed e' e x' x (typed_turned e e' h) (turned x.value x'.value m)
  layer_turned _ _ (of_forever k x x' m) = of_forever k x' x (turned x.value x'.value m)

  all_turned : (xs xs' : List Statement) → AlikeAll xs xs' → AlikeAll xs' xs
  all_turned _ _ all_end = all_end
  all_turned _ _ (all_more x x' xs xs' m r) = all_more x' x xs' xs (turned x x' m) (all_turned xs xs' r)

  choices_turned : (xs xs' : List Choice) → AlikeChoices xs xs' → AlikeChoices xs' xs
  choices_turned _ _ choices_end = choices_end
  choices_turned _ _ (choices_more x x' xs xs' h m r) =
      choices_more x' x xs' xs (zip_turned SameTyped typed_turned x.0.items x'.0.items h) (turned x.1 x'.1 m) (choices_turned xs xs' r)
