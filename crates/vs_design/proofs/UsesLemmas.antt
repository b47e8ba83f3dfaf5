-- Lemmas on what an expression reads.
use Rattle.std.proofs.Common.{◌≡◌, ◌⊎◌, inl, inr, List, [], ◌∷◌, ◌++◌, map, refl, sym, ◌∙◌, ap, append_assoc}
use Rattle.std.specs.Prelude.{Result, OnOk}
use Rattle.std.proofs.lemmas.Result.{on_ok_weaker}
use Rattle.std.specs.declared.vec.Vec.{Vec}
use Rattle.std.specs.declared.boxed.Box.{Box}
use Rattle.std.specs.declared.alloc.Global.{Global}
use Rattle.vs_logic4.specs.declared.operators.Unary.{Unary}
use Rattle.vs_design.specs.declared.expression.Count.{Count}
use Rattle.vs_design.specs.declared.expression.Excerpt.{Excerpt}
use Rattle.vs_design.specs.declared.expression.Extension.{Extension}
use Rattle.vs_design.specs.declared.expression.Link.{Link}
use Rattle.vs_design.specs.declared.expression.Typed.{Typed}
use Rattle.vs_design.specs.declared.expression.Typed.TheVariants as y
use Rattle.vs_design.specs.declared.expression.Typed.TheVariants.{rolls-Excerpt, rolls-Unary, rolls-Chain, rolls-Choice, rolls-Concat, rolls-Repeat, rolls-Resized}
use Rattle.vs_design.specs.declared.expression.Typed.TheViews.{roll-Typed}
use Rattle.vs_design.specs.declared.expression.Typed.TheOpen as t
use Rattle.vs_design.specs.declared.expression.Typed.TheOpen.{Typed-F}
use Rattle.vs_design.specs.declared.expression.Typed.TheFolds.{fold-roll-Typed, map-Typed}
use Rattle.vs_design.specs.declared.range.BitRange.{BitRange}
use Rattle.vs_design.specs.Uses.{reads, reads_step, joined}

-- lists of images, joined
pub joined_each : {A B C : Type 0} (f : B → List C) (g : A → B) (xs : List A) → joined (map f (map g xs)) ≡ joined (map (λ x. f (g x)) xs)
joined_each f g [] = refl
joined_each f g (x ∷ xs) = ap (λ rs. f (g x) ++ rs) (joined_each f g xs)

-- an expression reads what its outermost layer does
pub reads_layer : (e : Typed) (layer : Typed-F Typed) → roll-Typed layer ≡ e → reads e ≡ reads_step (map-Typed Typed (List BitRange) reads layer)
reads_layer e layer is = ap reads (sym is) ∙ fold-roll-Typed (List BitRange) reads_step layer

-- an excerpt, an operator, a replication and a resized operand read what their one operand does
pub reads_operand : (e : Typed) (x : Box Typed Global) →
    ((n : Excerpt) × (e ≡ y.Excerpt n x)) ⊎ (((n : Unary) × (e ≡ y.Unary n x)) ⊎ (((n : Count) × (e ≡ y.Repeat n x)) ⊎ ((n : Extension) × (e ≡ y.Resized n x)))) →
    reads e ≡ reads x.value
reads_operand e x (inl (n, is)) = reads_layer e (t.Excerpt n x) (rolls-Excerpt n x ∙ sym is)
reads_operand e x (inr (inl (n, is))) = reads_layer e (t.Unary n x) (rolls-Unary n x ∙ sym is)
reads_operand e x (inr (inr (inl (n, is)))) = reads_layer e (t.Repeat n x) (rolls-Repeat n x ∙ sym is)
reads_operand e x (inr (inr (inr (n, is)))) = reads_layer e (t.Resized n x) (rolls-Resized n x ∙ sym is)

-- a chain reads what its operands read
pub reads_Chain : (x : Box Typed Global) (links : Vec (Link × Typed) Global) → reads (y.Chain x links) ≡ reads x.value ++ joined (map (λ (l : Link × Typed). reads l.1) links.items)
reads_Chain x links =
    ap reads (sym (rolls-Chain x links)) ∙ fold-roll-Typed (List BitRange) reads_step (t.Chain x links)
    ∙ ap (λ rs. reads x.value ++ rs) (joined_each (λ (l : Link × List BitRange). l.1) (λ (l : Link × Typed). (l.0, reads l.1)) links.items)

-- a `?:` reads what its conditions and operands read
pub reads_Choice : (pairs : Vec (Typed × Typed) Global) (last : Box Typed Global) →
    reads (y.Choice pairs last) ≡ joined (map (λ (p : Typed × Typed). reads p.0 ++ reads p.1) pairs.items) ++ reads last.value
reads_Choice pairs last =
    ap reads (sym (rolls-Choice pairs last)) ∙ fold-roll-Typed (List BitRange) reads_step (t.Choice pairs last)
    ∙ ap (λ rs. rs ++ reads last.value) (joined_each (λ (p : List BitRange × List BitRange). p.0 ++ p.1) (λ (p : Typed × Typed). (reads p.0, reads p.1)) pairs.items)

-- a concatenation reads what its parts read
pub reads_Concat : (x : Box Typed Global) (others : Vec Typed Global) → reads (y.Concat x others) ≡ reads x.value ++ joined (map reads others.items)
reads_Concat x others = ap reads (sym (rolls-Concat x others)) ∙ fold-roll-Typed (List BitRange) reads_step (t.Concat x others)

-- two lists pushed one after another
pub both_pushed : {A : Type 0} (start front back : List A) {middle end all : List A} → middle ≡ start ++ front → end ≡ middle ++ back → all ≡ front ++ back → end ≡ start ++ all
both_pushed start front back first second is =
    second ∙ ap (λ rs. rs ++ back) first ∙ append_assoc start front back ∙ ap (λ rs. start ++ rs) (sym is)

-- what a call pushed, where it is the same as another list
pub pushed_as : {T E A : Type 0} (r : Result T E) (start end : List A) {front all : List A} → OnOk r (end ≡ start ++ front) → front ≡ all → OnOk r (end ≡ start ++ all)
pushed_as r start end pushed same = on_ok_weaker r (λ is. is ∙ ap (λ xs. start ++ xs) same) pushed
