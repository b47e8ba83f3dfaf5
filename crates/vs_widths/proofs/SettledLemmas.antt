-- An expression that is a constant means the same where more constants are known.
use Rattle.std.proofs.Common.{◌≡◌, ℕ, Bool, true, false, ◌||◌, ◌⊎◌, inl, inr, List, [], ◌∷◌, Option, Some, None, map, refl, ap, ap₂, sym, subst, ◌∙◌, ⊎_elim}
use Rattle.std.specs.List.{list_any}
use Rattle.vs_design.specs.vs_logic4.specs.declared.operators.Binary.{Binary}
use Rattle.vs_design.specs.vs_logic4.specs.Operators.{gives_bit, sizing_of}
use Rattle.vs_syntax.specs.declared.tree.Expr.{Expr, Expr-F, roll-Expr, map-Expr, ind-Expr, fold-roll-Expr}
use Rattle.vs_syntax.specs.declared.tree.Expr.TheShapes.{former-Expr-Select-1-at-5}
use Rattle.vs_syntax.specs.declared.tree.Expr.TheOpen as f
use Rattle.vs_syntax.specs.declared.tree.PartSelect.{PartSelect}
use Rattle.vs_widths.specs.declared.bindings.Binding.{Binding}
use Rattle.vs_widths.specs.declared.bindings.Binding.TheVariants.{Pending}
use Rattle.vs_widths.specs.declared.faults.WidthReason.TheVariants.{NotConstant}
use Rattle.vs_widths.specs.Environment.{Environment}
use Rattle.vs_widths.specs.Findings.{Finding, Has, has_width_fault, together, alone, alike, linked_shape, second, beside, repeated}
use Rattle.vs_widths.specs.Meants.{Meant}
use Rattle.vs_widths.specs.Constants.{where_none, where_some, constant_finding, count_finding, natural_of, positive}
use Rattle.vs_widths.specs.Selects.{Select, select_has_fault, select_meant}
use Rattle.vs_widths.specs.Expressions.{meant, meant_step, name_meant, unary_meant, linked_meant, chain_meant, choice_finding, choice_meant, sum_finding, concat_meant, repeat_meant, cast_meant}
use Rattle.vs_widths.proofs.MeasuringLemmas.{stands_unary, stands_choice, stands_sum}
use Rattle.std.proofs.lemmas.Bool.{or_right}
use Rattle.vs_widths.proofs.SelectLemmas.{operand_stands}
use Rattle.vs_widths.proofs.AimLemmas.{stands_left, stands_right, stands_alone}

-- an expression that names what has no value yet
abbrev Waits : Meant → Type 0
Waits m = has_width_fault NotConstant m.finding ≡ true

-- two meanings that are one, or the first names what has no value yet
abbrev pub Settles : Meant → Meant → Type 0
Settles m n = (m ≡ n) ⊎ (has_width_fault NotConstant m.finding ≡ true)

one_settles : (g : Meant → Meant) (m n : Meant) → (Waits m → Waits (g m)) → Settles m n → Settles (g m) (g n)
one_settles g m n w (inl e) = inl (ap g e)
one_settles g m n w (inr k) = inr (w k)

both_settle : (g : Meant → Meant → Meant) (m n k l : Meant) → (Waits m → Waits (g m k)) → (Waits k → Waits (g m k)) → Settles m n → Settles k l → Settles (g m k) (g n l)
both_settle g m n k l w v (inr h) p = inr (w h)
both_settle g m n k l w v (inl e) (inr h) = inr (v h)
both_settle g m n k l w v (inl e) (inl h) = inl (ap₂ g e h)

-- a list of which each element means the same, or one waits
abbrev AllSettle : {A : Type 0} → List A → List A → Type 0 → Type 0
AllSettle xs ys w = (xs ≡ ys) ⊎ w

with_list : {A : Type 0} (g : Meant → List A → Meant) (m n : Meant) (xs ys : List A) (w : Type 0) → (Waits m → Waits (g m xs)) → (w → Waits (g m xs)) → Settles m n → AllSettle xs ys w → Settles (g m xs) (g n ys)
with_list g m n xs ys w p q (inr h) k = inr (p h)
with_list g m n xs ys w p q (inl e) (inr k) = inr (q k)
with_list g m n xs ys w p q (inl e) (inl k) = inl (ap₂ g e k)

count_waits : (m : Meant) → Waits m → has_width_fault NotConstant (count_finding m) ≡ true
count_waits m h =
    stands_alone (where_some (positive (natural_of m))) (constant_finding m) NotConstant (stands_alone (where_none m.reads) m.finding NotConstant h)

linked_settles : (op : Binary) (m n k l : Meant) → Settles m n → Settles k l → Settles (linked_meant m (op, k)) (linked_meant n (op, l))
linked_settles op m n k l =
    both_settle (λ x y. linked_meant x (op, y)) m n k l (λ h. stands_left (linked_shape (sizing_of op)) m.finding k.finding NotConstant h)
    (λ h. stands_right (linked_shape (sizing_of op)) m.finding k.finding NotConstant h)

first_waits : (m : Meant) (ms : List Meant) → Waits m → Waits (concat_meant m ms)
first_waits m ms h = stands_sum (alone (λ width signed. Has width false) m.finding) ms NotConstant (stands_alone (λ width signed. Has width false) m.finding NotConstant h)

repeat_settles : (c d m n : Meant) (xs ys : List Meant) (w : Type 0) → (w → Waits (concat_meant m xs)) → Settles c d → Settles m n → AllSettle xs ys w → Settles (repeat_meant c m xs) (repeat_meant d n ys)
repeat_settles c d m n xs ys w q p s k = by p (with_list concat_meant m n xs ys w (first_waits m xs) q s k) s k
  where
    times : ℕ → Bool → ℕ → Bool → Finding
    times size sign width signed = repeated (positive (natural_of c)) width

    by : Settles c d → Settles (concat_meant m xs) (concat_meant n ys) → Settles m n → AllSettle xs ys w → Settles (repeat_meant c m xs) (repeat_meant d n ys)
    by (inr h) t s k = inr (stands_left times (count_finding c) (concat_meant m xs).finding NotConstant (count_waits c h))
    by (inl e) (inr h) s k = inr (stands_right times (count_finding c) (concat_meant m xs).finding NotConstant h)
    by (inl e) (inl h) (inr s) k = inr (stands_right times (count_finding c) (concat_meant m xs).finding NotConstant (first_waits m xs s))
    by (inl e) (inl h) (inl s) (inr k) = inr (stands_right times (count_finding c) (concat_meant m xs).finding NotConstant (q k))
    by (inl e) (inl h) (inl s) (inl k) = inl (ap (λ z. repeat_meant z m xs) e ∙ ap₂ (repeat_meant d) s k)

module _ (a b : Environment) (below : (n : List ℕ) → (a n ≡ b n) ⊎ (a n ≡ Some Pending)) where
  abbrev Child : Type 0
  Child = (e : Expr) × Settles (meant a e) (meant b e)

  abbrev bare : Child → Expr
  bare e = e.0

  name_settles : (n : List ℕ) → Settles (name_meant (a n)) (name_meant (b n))
  name_settles n = ⊎_elim (λ e. inl (ap name_meant e)) (λ e. inr (ap (λ z. has_width_fault NotConstant (name_meant z).finding) e)) (below n)

  abbrev links_at : Environment → List (Binary × Child) → List (Binary × Meant)
  links_at env ls = map (λ (l : Binary × Expr). (l.0, meant env l.1)) (map (λ (l : Binary × Child). (l.0, l.1.0)) ls)

  chain_settles : (m n : Meant) (ls : List (Binary × Child)) → Settles m n → Settles (chain_meant m (links_at a ls)) (chain_meant n (links_at b ls))
  chain_settles m n [] h = h
  chain_settles m n (l ∷ ls) h =
      chain_settles (linked_meant m (l.0, meant a l.1.0)) (linked_meant n (l.0, meant b l.1.0)) ls (linked_settles l.0 m n (meant a l.1.0) (meant b l.1.0) h l.1.1)

  abbrev pairs_at : Environment → List (Child × Child) → List (Meant × Meant)
  pairs_at env ps = map (λ (p : Expr × Expr). (meant env p.0, meant env p.1)) (map (λ (p : Child × Child). (p.0.0, p.1.0)) ps)

  -- a fault of operands behind conditions, whatever the last operand is
  abbrev ChoiceWaits : List (Child × Child) → Type 0
  ChoiceWaits ps = (found : Finding) → has_width_fault NotConstant (choice_finding found (pairs_at a ps)) ≡ true

  pairs_settle : (ps : List (Child × Child)) → AllSettle (pairs_at a ps) (pairs_at b ps) (ChoiceWaits ps)
  pairs_settle [] = inl refl
  pairs_settle (p ∷ ps) = by p.0.1 p.1.1 (pairs_settle ps)
    where
      rest : List (Meant × Meant)
      rest = pairs_at a ps

      within : Finding → Finding
      within found = together second (meant a p.0.0).finding (together alike found (meant a p.1.0).finding)

      by : Settles (meant a p.0.0) (meant b p.0.0) → Settles (meant a p.1.0) (meant b p.1.0) → AllSettle (pairs_at a ps) (pairs_at b ps) (ChoiceWaits ps) → AllSettle (pairs_at a (p ∷ ps)) (pairs_at b (p ∷ ps)) (ChoiceWaits (p ∷ ps))
      by (inr h) v r = inr (λ found. stands_choice (within found) rest NotConstant (stands_left second (meant a p.0.0).finding (together alike found (meant a p.1.0).finding) NotConstant h))
      by (inl e) (inr h) r =
          inr (λ found. stands_choice (within found) rest NotConstant (
          stands_right second (meant a p.0.0).finding (together alike found (meant a p.1.0).finding) NotConstant (stands_right alike found (meant a p.1.0).finding NotConstant h)
          ))
      by (inl e) (inl h) (inr r) = inr (λ found. r (within found))
      by (inl e) (inl h) (inl r) = inl (ap₂ (λ x xs. x ∷ xs) (ap₂ (λ x y. (x, y)) e h) r)

  abbrev parts_at : Environment → List Child → List Meant
  parts_at env xs = map (meant env) (map bare xs)

  -- a fault of parts behind others, whatever those are
  abbrev SumWaits : List Child → Type 0
  SumWaits xs = (found : Finding) → has_width_fault NotConstant (sum_finding found (parts_at a xs)) ≡ true

  parts_settle : (xs : List Child) → AllSettle (parts_at a xs) (parts_at b xs) (SumWaits xs)
  parts_settle [] = inl refl
  parts_settle (x ∷ xs) = by x.1 (parts_settle xs)
    where
      by : Settles (meant a x.0) (meant b x.0) → AllSettle (parts_at a xs) (parts_at b xs) (SumWaits xs) → AllSettle (parts_at a (x ∷ xs)) (parts_at b (x ∷ xs)) (SumWaits (x ∷ xs))
      by (inr h) r = inr (λ found. stands_sum (together beside found (meant a x.0).finding) (parts_at a xs) NotConstant (stands_right beside found (meant a x.0).finding NotConstant h))
      by (inl e) (inr r) = inr (λ found. r (together beside found (meant a x.0).finding))
      by (inl e) (inl r) = inl (ap₂ (λ y ys. y ∷ ys) e r)

  abbrev Selected : Type 0
  Selected = Child × Option (PartSelect × Child)

  abbrev selects_at : Environment → List Selected → List Select
  selects_at env xs = map (λ x. former-Expr-Select-1-at-5.map Expr Meant (meant env) x) (map (λ x. former-Expr-Select-1-at-5.map Child Expr bare x) xs)

  selects_settle : (xs : List Selected) → AllSettle (selects_at a xs) (selects_at b xs) (list_any (select_has_fault NotConstant) (selects_at a xs) ≡ true)
  selects_settle [] = inl refl
  selects_settle ((i, None) ∷ xs) = by i.1 (selects_settle xs)
    where
      by : Settles (meant a i.0) (meant b i.0) → AllSettle (selects_at a xs) (selects_at b xs) (list_any (select_has_fault NotConstant) (selects_at a xs) ≡ true) →
          AllSettle (selects_at a ((i, None) ∷ xs)) (selects_at b ((i, None) ∷ xs)) (list_any (select_has_fault NotConstant) (selects_at a ((i, None) ∷ xs)) ≡ true)
      by (inr h) r = inr (ap (λ t. t || list_any (select_has_fault NotConstant) (selects_at a xs)) h)
      by (inl e) (inr r) = inr (or_right (has_width_fault NotConstant (meant a i.0).finding) (list_any (select_has_fault NotConstant) (selects_at a xs)) r)
      by (inl e) (inl r) = inl (ap₂ (λ y ys. y ∷ ys) (ap (λ y. (y, None)) e) r)
  selects_settle ((i, Some (how, m)) ∷ xs) = by i.1 m.1 (selects_settle xs)
    where
      rest : Bool
      rest = list_any (select_has_fault NotConstant) (selects_at a xs)

      by : Settles (meant a i.0) (meant b i.0) → Settles (meant a m.0) (meant b m.0) → AllSettle (selects_at a xs) (selects_at b xs) (list_any (select_has_fault NotConstant) (selects_at a xs) ≡ true) →
          AllSettle (selects_at a ((i, Some (how, m)) ∷ xs)) (selects_at b ((i, Some (how, m)) ∷ xs)) (list_any (select_has_fault NotConstant) (selects_at a ((i, Some (how, m)) ∷ xs)) ≡ true)
      by (inr h) v r = inr (ap (λ t. (t || has_width_fault NotConstant (meant a m.0).finding) || rest) h)
      by (inl e) (inr h) r = inr (ap (λ t. t || rest) (or_right (has_width_fault NotConstant (meant a i.0).finding) (has_width_fault NotConstant (meant a m.0).finding) h))
      by (inl e) (inl h) (inr r) = inr (or_right (has_width_fault NotConstant (meant a i.0).finding || has_width_fault NotConstant (meant a m.0).finding) rest r)
      by (inl e) (inl h) (inl r) = inl (ap₂ (λ y ys. y ∷ ys) (ap₂ (λ x y. (x, Some (how, y))) e h) r)

  select_settles : (n : List ℕ) (xs : List Selected) → Settles (select_meant (a n) (selects_at a xs)) (select_meant (b n) (selects_at b xs))
  select_settles n xs = by (below n) (selects_settle xs)
    where
      by : (a n ≡ b n) ⊎ (a n ≡ Some Pending) → AllSettle (selects_at a xs) (selects_at b xs) (list_any (select_has_fault NotConstant) (selects_at a xs) ≡ true) → Settles (select_meant (a n) (selects_at a xs)) (select_meant (b n) (selects_at b xs))
      by (inr h) r = inr (ap (λ (z : Option Binding). has_width_fault NotConstant (select_meant z (selects_at a xs)).finding) h)
      by (inl e) (inr r) = inr (operand_stands (a n) (selects_at a xs) NotConstant r)
      by (inl e) (inl r) = inl (ap₂ select_meant e r)

  inner : (y : Expr-F Child) → Settles (meant_step a (map-Expr Expr Meant (meant a) (map-Expr Child Expr bare y))) (meant_step b (map-Expr Expr Meant (meant b) (map-Expr Child Expr bare y)))
  inner (f.Number l) = inl refl
  inner (f.Name n) = name_settles n.items
  inner (f.Select n ss) = select_settles n.items ss.items
  inner (f.Group x) = x.value.1
  inner (f.Unary op x) = one_settles (unary_meant op) (meant a x.value.0) (meant b x.value.0) (λ h. stands_unary (gives_bit op) (meant a x.value.0).finding NotConstant h) x.value.1
  inner (f.Chain x links) = chain_settles (meant a x.value.0) (meant b x.value.0) links.items x.value.1
  inner (f.Choice pairs last) =
      with_list (λ m ps. choice_meant ps m) (meant a last.value.0) (meant b last.value.0) (pairs_at a pairs.items) (pairs_at b pairs.items) (ChoiceWaits pairs.items)
      (λ h. stands_choice (meant a last.value.0).finding (pairs_at a pairs.items) NotConstant h) (λ h. h (meant a last.value.0).finding) last.value.1 (pairs_settle pairs.items)
  inner (f.Concat x parts) =
      with_list concat_meant (meant a x.value.0) (meant b x.value.0) (parts_at a parts.items) (parts_at b parts.items) (SumWaits parts.items)
      (first_waits (meant a x.value.0) (parts_at a parts.items)) (λ h. h (alone (λ width signed. Has width false) (meant a x.value.0).finding)) x.value.1 (parts_settle parts.items)
  inner (f.Repeat count x parts) =
      repeat_settles (meant a count.value.0) (meant b count.value.0) (meant a x.value.0) (meant b x.value.0) (parts_at a parts.items) (parts_at b parts.items) (SumWaits parts.items)
      (λ h. h (alone (λ width signed. Has width false) (meant a x.value.0).finding)) count.value.1 x.value.1 (parts_settle parts.items)
  inner (f.Cast sign x) =
      one_settles (cast_meant sign) (meant a x.value.0) (meant b x.value.0) (λ h. stands_alone (λ width signed. Has width sign) (meant a x.value.0).finding NotConstant h) x.value.1

  layer : (y : Expr-F Child) → Settles (meant a (roll-Expr (map-Expr Child Expr bare y))) (meant b (roll-Expr (map-Expr Child Expr bare y)))
  layer y =
      subst (λ (m : Meant). Settles m (meant b (roll-Expr (map-Expr Child Expr bare y)))) (sym (fold-roll-Expr Meant (meant_step a) (map-Expr Child Expr bare y))) (
      subst (λ (m : Meant). Settles (meant_step a (map-Expr Expr Meant (meant a) (map-Expr Child Expr bare y))) m) (sym (fold-roll-Expr Meant (meant_step b) (map-Expr Child Expr bare y))) (inner y)
      )

  -- an expression that names nothing without a value yet means the same where names with no value are bound otherwise
  pub settled : (e : Expr) → Settles (meant a e) (meant b e)
  settled e = ind-Expr (λ x. Settles (meant a x) (meant b x)) (λ x y is. subst (λ z. Settles (meant a (roll-Expr z)) (meant b (roll-Expr z))) is (layer y)) e
