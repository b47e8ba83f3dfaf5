-- Scopes one after another, with those inside them.
use Rattle.std.proofs.Common.{◌≡◌, ℕ, zero, suc, ◌+◌, ◌≤◌, List, [], ◌∷◌, ◌++◌, Some, ⊎_elim, length, map, refl, ap, sym, subst, ◌∙◌, append_assoc, arith}
use Rattle.std.specs.List.{slice_get, list_any, All}
use Rattle.std.proofs.lemmas.List.{append-nil, length-append}
use Rattle.std.proofs.lemmas.List.Elements.{All-append, All-nil, All-cons}
use Rattle.std.proofs.lemmas.Option.{none-some, same_Some}
use Rattle.vs_syntax.specs.declared.tree.Module.{Module}
use Rattle.vs_design.specs.declared.design.Entry.TheVariants.{Leave}
use Rattle.vs_elab_signals.specs.vs_scopes.specs.Pieces.{NamedBlock}
use Rattle.vs_scopes.specs.Generate.{Inner}
use Rattle.vs_scopes.specs.Generate as g
use Rattle.vs_scopes.specs.Scopes.{Scope, Before, before_following, within_first, inner_of, is_named_as_net, opened, of_opened, below, scopes_within}
use Rattle.vs_elab_signals.specs.declared.opened.ElabScope.{ElabScope as FoundScope}
use Rattle.vs_elab_signals.specs.declared.opened.Numbering.{Numbering}
use Rattle.vs_elab_signals.specs.Outlines.{declared, Line, leave, outline_within, outline_below, IsEntry}
use Rattle.vs_elab_hierarchy.specs.passes.Blocks.{text_name, IsTitled, HasInside, HasEachNamed, AreNamed, Extends}
use Rattle.vs_elab_hierarchy.specs.passes.Entering.{before_next, IsSoundInner}
use Rattle.vs_elab_hierarchy.specs.scope_passes.Adding.{IsPlanned, AddsInner}
use Rattle.vs_elab_hierarchy.specs.scope_passes.Own.{own_lines, AddsLines}
use Rattle.vs_elab_hierarchy.specs.hierarchy_passes.Opens.{HasInner, IsSoundInside, scopes_inside, lines_inside, OpensInside, HoldsInner}
use Rattle.vs_elab_hierarchy.proofs.ListLemmas.{slice_push, slice_either}
use Rattle.vs_design.specs.vs_logic4.proofs.Basics.{slice_front, at_end as slice_end, zip_append}
use Rattle.vs_elab_hierarchy.proofs.AddLemmas.{behind_append, behind_none, planned_behind}

-- ---- the scopes below what opens them

module _ (ms : List Module) (f : Scope → List Scope) (s : Scope) where
  pub below_append : (at : Before) (xs ys : List Inner) → below ms f s at (xs ++ ys) ≡ below ms f s at xs ++ below ms f s (before_following at (below ms f s at xs)) ys
  below_append at [] ys = ap (λ z. below ms f s z ys) (sym (behind_none at))
  below_append at (x ∷ xs) ys =
      let inner = of_opened f (opened ms s at x) in
      let rest = below ms f s (before_following at inner) xs in
      ap (λ z. inner ++ z) (below_append (before_following at inner) xs ys)
      ∙ ap (λ z. inner ++ (rest ++ below ms f s z ys)) (sym (behind_append at inner rest))
      ∙ sym (append_assoc inner rest (below ms f s (before_following at (inner ++ rest)) ys))

  module _ (g : Scope → List Line) where
    pub lines_append : (at : Before) (xs ys : List Inner) → outline_below ms f g s at (xs ++ ys) ≡ outline_below ms f g s at xs ++ outline_below ms f g s (before_following at (below ms f s at xs)) ys
    lines_append at [] ys = ap (λ z. outline_below ms f g s z ys) (sym (behind_none at))
    lines_append at (x ∷ xs) ys =
        let inner = of_opened f (opened ms s at x) in
        let lines = of_opened g (opened ms s at x) in
        let rest = below ms f s (before_following at inner) xs in
        let more = outline_below ms f g s (before_following at inner) xs in
        ap (λ z. lines ++ z) (lines_append (before_following at inner) xs ys)
        ∙ ap (λ z. lines ++ (more ++ outline_below ms f g s z ys)) (sym (behind_append at inner rest))
        ∙ sym (append_assoc lines more (outline_below ms f g s (before_following at (inner ++ rest)) ys))

pub within_inside : (n : ℕ) (ms : List Module) (s : Scope) → scopes_within n ms s ≡ s ∷ scopes_inside n ms s
unfolding scopes_within
within_inside zero ms s = refl
within_inside (suc n) ms s = refl

pub outline_inside : (n : ℕ) (ms : List Module) (s : Scope) → outline_within n ms s ≡ own_lines s ++ lines_inside n ms s
outline_inside zero ms s = append_assoc (own_lines s) [] (leave ∷ [])
outline_inside (suc n) ms s = append_assoc (own_lines s) (outline_below ms (scopes_within n ms) (outline_within n ms) s (within_first s) (inner_of s)) (leave ∷ [])

-- ---- lines

pub lines_join : (xs ys : List Line) (a b c : Numbering) → AddsLines xs a b → AddsLines ys b c → AddsLines (xs ++ ys) a c
lines_join xs ys a b c h k = record {
  added = h.added ++ k.added;
  outline = k.outline ∙ ap (λ z. z ++ k.added) h.outline ∙ append_assoc a.outline.items h.added k.added;
  mean = zip_append IsEntry h.added xs k.added ys h.mean k.mean;
}

lines_none : (a : Numbering) → AddsLines [] a a
lines_none a = record { added = []; outline = sym (append-nil a.outline.items); mean = tt }

-- ---- lists that grow

extends_over : (a b c : List FoundScope) → Extends a b → Extends b c → Extends a c
extends_over a b c h k = record { more = h.more ++ k.more; grown = k.grown ∙ ap (λ z. z ++ k.more) h.grown ∙ append_assoc a h.more k.more }

extends_push : (a b : List FoundScope) (o : FoundScope) → b ≡ a ++ o ∷ [] → Extends a b
extends_push a b o e = record { more = o ∷ []; grown = e }

extends_at : (a b : List FoundScope) (k : ℕ) (o : FoundScope) → Extends a b → slice_get a k ≡ Some o → slice_get b k ≡ Some o
extends_at a b k o h e = ap (λ z. slice_get z k) h.grown ∙ slice_front a h.more k o e

inside_more : (a b : List FoundScope) (place : ℕ) (n : List ℕ) → Extends a b → HasInside a place n → HasInside b place n
inside_more a b place n h k = record { number = k.number; o = k.o; stands = extends_at a b k.number k.o h k.stands; around = k.around; title = k.title }

named_more : (a b : List FoundScope) (place : ℕ) (ss : List Scope) → Extends a b → AreNamed a place ss → AreNamed b place ss
named_more a b place ss h k i s e j x f = inside_more a b (place + i) x.name h (k i s e j x f)

-- ---- the loop over what opens scopes in a scope

planned_same : (list : List FoundScope) (old new : Numbering) (ss : List Scope) → new.instances ≡ old.instances → new.turns ≡ old.turns → new.signals ≡ old.signals → IsPlanned list old ss → IsPlanned list new ss
planned_same list old new ss i t s h = record {
  opened = h.opened;
  seated = h.seated;
  blocks = h.blocks;
  sound = h.sound;
  instances = i ∙ h.instances;
  turns = t ∙ h.turns;
  shown = ap (λ z. map declared z.items) s ∙ h.shown;
  room = subst (λ z. length z.items ≤ 65536) (sym s) h.room;
  few_instances = subst (λ n. n ≤ 16385) (sym i) h.few_instances;
  few_turns = subst (λ n. n ≤ 65536) (sym t) h.few_turns;
}

module _ (n : ℕ) (ms : List Module) (ss : List Scope) (s : Scope) (place : ℕ) where
  -- the scopes below some of them, and their lines
  abbrev pub below_these : List Inner → List Scope
  below_these done = below ms (scopes_within n ms) s (within_first s) done

  abbrev pub lines_below : List Inner → List Line
  lines_below done = outline_below ms (scopes_within n ms) (outline_within n ms) s (within_first s) done

  pub holding_none : (list : List FoundScope) (plan : Numbering) → IsPlanned list plan ss → HoldsInner n ms ss s place [] list list plan plan
  holding_none list plan h = record {
    planned = subst (IsPlanned list plan) (sym (append-nil ss)) h;
    sound_inner = All-nil (IsSoundInner ms s);
    sound = All-nil (IsSoundInside ms);
    named_here = λ k x e. absurd (none-some (g.named x) e);
    named = λ k t e. absurd (none-some t e);
    extends = record { more = []; grown = sym (append-nil list) };
    lines = lines_none plan;
  }

  -- the scopes below one more
  pub below_one : (done : List Inner) (x : Inner) (at : Before) (inner : Scope) → at ≡ before_following (within_first s) (below_these done) → opened ms s at x ≡ Some inner → below_these (done ++ x ∷ []) ≡ below_these done ++ scopes_within n ms inner
  below_one done x at inner e o =
      let F = scopes_within n ms in
      below_append ms F s (within_first s) done (x ∷ [])
      ∙ ap (λ z. below_these done ++ below ms F s z (x ∷ [])) (sym e)
      ∙ ap (λ z. below_these done ++ (of_opened F z ++ [])) o ∙ ap (λ z. below_these done ++ z) (append-nil (scopes_within n ms inner))

  pub lines_one : (done : List Inner) (x : Inner) (at : Before) (inner : Scope) → at ≡ before_following (within_first s) (below_these done) → opened ms s at x ≡ Some inner → lines_below (done ++ x ∷ []) ≡ lines_below done ++ outline_within n ms inner
  lines_one done x at inner e o =
      let F = scopes_within n ms in
      let G = outline_within n ms in
      lines_append ms F s G (within_first s) done (x ∷ [])
      ∙ ap (λ z. lines_below done ++ outline_below ms F G s z (x ∷ [])) (sym e)
      ∙ ap (λ z. lines_below done ++ (of_opened G z ++ [])) o ∙ ap (λ z. lines_below done ++ z) (append-nil (outline_within n ms inner))

  module _ (done : List Inner) (x : Inner) (list0 list1 list2 : List FoundScope) (p0 p1 p2 : Numbering) (long : length ss ≡ suc place) (planned : IsPlanned list0 p0 ss) (first : before_next list0 p0 ≡ within_first s)
      (h : HoldsInner n ms ss s place done list0 list1 p0 p1) (k : AddsInner ms (ss ++ below_these done) s place (before_next list1 p1) x list1 list2 p1 p2) where
    pub behind_these : before_next list1 p1 ≡ before_following (within_first s) (below_these done)
    behind_these = planned_behind list0 list1 p0 p1 ss (below_these done) (within_first s) planned first h.planned

    pub below_more : below_these (done ++ x ∷ []) ≡ below_these done ++ scopes_within n ms k.inner
    below_more = below_one done x (before_next list1 p1) k.inner behind_these k.opens

    module _ (list3 : List FoundScope) (p3 : Numbering) (o : OpensInside n ms ((ss ++ below_these done) ++ k.inner ∷ []) k.inner (length (ss ++ below_these done)) list2 list3 p2 p3) where
      all_below : below_these (done ++ x ∷ []) ≡ below_these done ++ (k.inner ∷ scopes_inside n ms k.inner)
      all_below = below_more ∙ ap (λ z. below_these done ++ z) (within_inside n ms k.inner)

      all_planned : IsPlanned list3 p3 (ss ++ (below_these done ++ (k.inner ∷ scopes_inside n ms k.inner)))
      all_planned = subst (IsPlanned list3 p3) (append_assoc (ss ++ below_these done) (k.inner ∷ []) (scopes_inside n ms k.inner) ∙ append_assoc ss (below_these done) (k.inner ∷ scopes_inside n ms k.inner)) o.planned

      grows : Extends list1 list3
      grows = extends_over list1 list2 list3 (extends_push list1 list2 k.adds.added k.adds.grown) o.extends

      named_one : (y : NamedBlock) → x ≡ g.named y → HasInside list3 place y.name
      named_one y e = record {
        number = length list1;
        o = k.adds.added;
        stands = extends_at list2 list3 (length list1) k.adds.added o.extends (ap (λ z. slice_get z (length list1)) k.adds.grown ∙ slice_end list1 k.adds.added);
        around = k.adds.around ∙ k.around;
        title = ap text_name k.adds.title ∙ subst (λ z. IsTitled z k.o.title) e k.title;
      }

      named_these : HasEachNamed list3 place (done ++ x ∷ [])
      named_these i y e = ⊎_elim (λ p. inside_more list1 list3 place y.name grows (h.named_here i y p.1)) (λ p. named_one y p.1) (slice_push done x (g.named y) i e)

      named_below : AreNamed list3 (suc place) (below_these done ++ (k.inner ∷ scopes_inside n ms k.inner))
      named_below i t e =
          ⊎_elim (λ p. named_more list1 list3 (suc place) (below_these done) grows h.named i t p.1)
          (λ p. (let same : length (ss ++ below_these done) + p.0 ≡ suc place + i = omega (arith, length-append ss (below_these done), long, p.1) in subst (λ z. HasEachNamed list3 z (inner_of t)) same (o.named p.0 t p.2)))
          (slice_either (below_these done) (k.inner ∷ scopes_inside n ms k.inner) i t e)

      lines_more : AddsLines (lines_below (done ++ x ∷ [])) p0 p3
      lines_more =
          let text : lines_below done ++ (own_lines k.inner ++ lines_inside n ms k.inner) ≡ lines_below (done ++ x ∷ []) =
          ap (λ z. lines_below done ++ z) (sym (outline_inside n ms k.inner)) ∙ sym (lines_one done x (before_next list1 p1) k.inner behind_these k.opens) in
          subst (λ z. AddsLines z p0 p3) text
          (lines_join (lines_below done) (own_lines k.inner ++ lines_inside n ms k.inner) p0 p1 p3 h.lines (lines_join (own_lines k.inner) (lines_inside n ms k.inner) p1 p2 p3 k.adds.lines o.lines))

      pub holding_more : HoldsInner n ms ss s place (done ++ x ∷ []) list0 list3 p0 p3
      holding_more = record {
        planned = subst (λ z. IsPlanned list3 p3 (ss ++ z)) (sym all_below) all_planned;
        sound_inner = All-append (IsSoundInner ms s) done (x ∷ []) h.sound_inner (All-cons (IsSoundInner ms s) x [] k.sound (All-nil (IsSoundInner ms s)));
        sound = subst (All (IsSoundInside ms)) (sym all_below) (All-append (IsSoundInside ms) (below_these done) (k.inner ∷ scopes_inside n ms k.inner) h.sound o.sound);
        named_here = named_these;
        named = subst (AreNamed list3 (suc place)) (sym all_below) named_below;
        extends = extends_over list0 list1 list3 h.extends grows;
        lines = lines_more;
      }

  -- all of them
  pub holding_all : (xs : List Inner) (list0 list : List FoundScope) (p0 p1 p2 : Numbering) → HasInner s xs → HoldsInner n ms ss s place xs list0 list p0 p1 → p2.instances ≡ p1.instances → p2.turns ≡ p1.turns → p2.signals ≡ p1.signals → p2.outline.items ≡ p1.outline.items ++ Leave ∷ [] →
      OpensInside (suc n) ms ss s place list0 list p0 p2
  holding_all xs list0 list p0 p1 p2 inner h i t g l =
      let k : HoldsInner n ms ss s place (inner_of s) list0 list p0 p1 = subst (λ z. HoldsInner n ms ss s place z list0 list p0 p1) inner.found.same h in
      let all = below_these (inner_of s) in
      record {
        planned = planned_same list p1 p2 (ss ++ all) i t g k.planned;
        sound = All-cons (IsSoundInside ms) s all (record { constructs = inner.found.sound; inner = k.sound_inner; nets = ap (list_any (is_named_as_net s)) (sym inner.found.same) ∙ inner.nets }) k.sound;
        named = named_all list all k.named_here k.named;
        extends = k.extends;
        lines = lines_join (lines_below (inner_of s)) (leave ∷ []) p0 p1 p2 k.lines (record { added = Leave ∷ []; outline = l; mean = (tt, tt) });
      }
    where
      named_all : (list : List FoundScope) (all : List Scope) → HasEachNamed list place (inner_of s) → AreNamed list (suc place) all → AreNamed list place (s ∷ all)
      named_all list all a b zero u e =
          let same : place ≡ place + 0 = omega arith in
          let one : HasEachNamed list place (inner_of u) = subst (λ z. HasEachNamed list place (inner_of z)) (same_Some s u e) a in
          subst (λ z. HasEachNamed list z (inner_of u)) same one
      named_all list all a b (suc j) u e =
          let same : suc place + j ≡ place + suc j = omega arith in
          subst (λ z. HasEachNamed list z (inner_of u)) same (b j u e)
