-- The scopes that are being opened, one inside another.
use Rattle.std.proofs.Common.{◌≡◌, ℕ, ◌+◌, ◌-◌, ◌<◌, ◌≤◌, nat_lt, ltb-true, ltb-false, true, false, List, [], ◌∷◌, ◌++◌, length, map, get_or, refl, ap, sym, subst, ◌∙◌, arith}
use Rattle.std.proofs.lemmas.List.{length_push}
use Rattle.std.proofs.lemmas.List.{same_from_push}
use Rattle.vs_design.specs.declared.design.Entry.TheVariants.{Leave}
use Rattle.vs_scopes.specs.declared.faults.ElabFault.{ElabFault}
use Rattle.vs_scopes.specs.Scopes.{Scope}
use Rattle.vs_scopes.specs.scopes_passes.Answers.{IsReported}
use Rattle.vs_elab_signals.specs.vs_elab_constants.specs.declared.opening.Inner.{Inner as FoundInner}
use Rattle.vs_elab_signals.specs.vs_elab_constants.specs.Reads.{read_inner}
use Rattle.vs_elab_signals.specs.declared.opened.ElabScope.{ElabScope as FoundScope}
use Rattle.vs_elab_signals.specs.declared.opened.Numbering.{Numbering}
use Rattle.vs_elab_hierarchy.specs.declared.entering.NamedModule.{NamedModule}
use Rattle.vs_elab_hierarchy.specs.passes.Entering.{before_next}
use Rattle.vs_elab_hierarchy.specs.scope_passes.Adding.{AddsInnerAt, AddsInnerNot, IsHolding}
use Rattle.vs_elab_signals.specs.Opened.{AreOpened, AreSeated}
use Rattle.vs_elab_hierarchy.proofs.SeatLemmas.{opened_place}
use Rattle.vs_syntax.specs.declared.tree.Module.{Module}
use Rattle.vs_elab_hierarchy.specs.declared.opening.Opening.{Opening}
use Rattle.vs_elab_hierarchy.specs.hierarchy_passes.Opens.{HasInner, HasInnerNot, IsReady}
use Rattle.vs_elab_hierarchy.specs.hierarchy_passes.InHand.{Asked, HasFault, HasOpened, InHand, IsFor, IsOpenedWhole, Wait, for_none, for_one, none_left, some_left}
use Rattle.vs_elab_hierarchy.proofs.FaultLemmas.{inner_not_told}
use Rattle.vs_elab_hierarchy.proofs.InsideLemmas.{so_far, holding_start, holding_end, holding_here, add_told, room_inside, ready_inside, inside_by_flags, holding_next}

-- the innermost scope, and those that wait for it
pub record Top (call : Asked) (modules : List (List ℕ × NamedModule)) (rest : List Opening) (o : Opening) (list : List FoundScope) (new : Numbering) : Type 0 where
  pub a : Asked
  pub is : IsFor a modules o
  pub has : HasOpened a o list new
  pub waits : Wait call modules rest a

module _ (call : Asked) (modules : List (List ℕ × NamedModule)) where
  pub top_of : (rest : List Opening) (o : Opening) (list : List FoundScope) (new : Numbering) → InHand call modules (rest ++ o ∷ []) list new → Top call modules rest o list new
  top_of rest o list new (none_left e w) = absurd (omega (arith, length_one rest o e))
    where
      length_one : (rest : List Opening) (o : Opening) → rest ++ o ∷ [] ≡ [] → 1 ≤ 0
      length_one [] o e = absurd cc
      length_one (x ∷ xs) o e = absurd cc
  top_of rest o list new (some_left others last a e is has waits) =
      let same = same_from_push rest others o last e in
      record {
        a = a;
        is = subst (IsFor a modules) (sym same.1) is;
        has = subst (λ z. HasOpened a z list new) (sym same.1) has;
        waits = subst (λ z. Wait call modules z a) (sym same.0) waits;
      }

  -- a fault inside the innermost one is one inside what was asked for
  pub fault_told : (rest : List Opening) (b : Asked) → Wait call modules rest b → (f : ElabFault) → HasFault b f → HasFault call f
  fault_told rest b for_none f h = h
  fault_told rest b (for_one others o a e is next told waits) f h = fault_told others a waits f (told f h)

  -- where the innermost one is opened whole, the next one has one more
  pub closed : (rest : List Opening) (b : Asked) (list : List FoundScope) (new : Numbering) → Wait call modules rest b → IsOpenedWhole b list new → InHand call modules rest list new
  closed rest b list new for_none h = none_left refl h
  closed rest b list new (for_one others o a e is next told waits) h = some_left others o a e is (next list new h) waits

  -- nothing is opened before the first one
  pub begun : (o : Opening) → IsFor call modules o → o.opened ≡ 0 → InHand call modules ([] ++ o ∷ []) call.start call.old
  begun o is e =
      some_left [] o call refl is
      (subst (λ z. HasOpened call (record o { opened = z }) call.start call.old) (sym e)
      (holding_start call.depth_left is.some call.ms call.ss call.s call.place modules call.start call.old is.ready))
      for_none

-- ---- one of its inner scopes more

module _ (a : Asked) (modules : List (List ℕ × NamedModule)) (o : Opening) (is : IsFor a modules o) (list1 : List FoundScope) (p1 : Numbering) (has : HasOpened a o list1 p1) where
  -- all of them are opened
  pub whole : (p2 : Numbering) → length o.inner.items ≤ o.opened → p2.instances ≡ p1.instances → p2.turns ≡ p1.turns → p2.signals ≡ p1.signals →
      p2.outline.items ≡ p1.outline.items ++ Leave ∷ [] → IsOpenedWhole a list1 p2
  whole p2 l b c d e =
      holding_end a.depth_left is.some a.ms a.ss a.s a.place modules a.start a.old is.ready o.inner.items is.inner o.opened list1 p1 p2 l has b c d e

  module _ (x : FoundInner) (l : o.opened < length o.inner.items) (e : x ≡ get_or o.inner.items o.opened x) where
    abbrev pub far : List Scope
    far = so_far a.depth_left is.some a.ms a.ss a.s a.place modules a.start a.old is.ready o.inner.items is.inner o.opened x l e list1 p1 has

    pub may_add : IsHolding a.ms far a.s modules list1 p1 o.place
    may_add =
        subst (IsHolding a.ms far a.s modules list1 p1) (sym is.place)
        (holding_here a.depth_left is.some a.ms a.ss a.s a.place modules a.start a.old is.ready o.inner.items is.inner o.opened x l e list1 p1 has)

    -- it has a fault of its own members
    pub not_added : (f : ElabFault) → IsReported (AddsInnerNot a.ms a.s (before_next list1 p1) (read_inner x)) f → HasFault a f
    not_added f h = add_told a.depth_left is.some a.ms a.ss a.s a.place modules a.start a.old is.ready o.inner.items is.inner o.opened x l e list1 p1 has f h

    module _ (list2 : List FoundScope) (p2 : Numbering) (next : ℕ) (adds : AddsInnerAt a.ms far a.s a.place (before_next list1 p1) (read_inner x) list1 list2 p1 p2 next) where
      -- what is asked for then
      abbrev pub inside : Asked
      inside = record { ms = a.ms; ss = far ++ adds.1.inner ∷ []; s = adds.1.inner; place = next; depth_left = a.depth_left - 1; start = list2; old = p2 }

      pub inside_ready : IsReady a.ms (far ++ adds.1.inner ∷ []) adds.1.inner modules list2 p2 next (a.depth_left - 1)
      inside_ready =
          ready_inside a.depth_left is.some a.ms a.ss a.s a.place modules a.start a.old is.ready o.inner.items is.inner o.opened x l e list1 p1 has list2 p2 next adds

      pub inside_fault : (f : ElabFault) → HasFault inside f → HasFault a f
      inside_fault f h =
          inside_by_flags a.depth_left is.some a.ms a.ss a.s a.place modules a.start a.old is.ready o.inner.items is.inner o.opened x l e list1 p1 has list2 p2 next adds f h

      -- what opens scopes in it has a fault
      pub not_found : (f : ElabFault) → IsReported (HasInnerNot adds.1.inner) f → HasFault a f
      not_found f h = inside_fault f (inner_not_told (a.depth_left - 1) a.ms adds.1.inner f h)

      -- it is the innermost one then
      pub goes_in : (call : Asked) (rest : List Opening) (c : Opening) → Wait call modules rest a → c.place ≡ next → c.opened ≡ 0 → HasInner adds.1.inner (map read_inner c.inner.items) →
          InHand call modules ((rest ++ record o { opened = o.opened + 1 } ∷ []) ++ c ∷ []) list2 p2
      goes_in call rest c waits at none inner =
          let is_inside : IsFor inside modules c = record {
            some = room_inside a.depth_left is.some a.ms a.ss a.s a.place modules a.start a.old is.ready o.inner.items is.inner o.opened x l e list1 p1 has list2 p2 next adds;
            place = at;
            ready = inside_ready;
            inner = inner;
          } in
          let again : IsFor a modules (record o { opened = o.opened + 1 }) = record { some = is.some; place = is.place; ready = is.ready; inner = is.inner } in
          some_left (rest ++ record o { opened = o.opened + 1 } ∷ []) c inside refl is_inside
          (subst (λ z. HasOpened inside (record c { opened = z }) list2 p2) (sym none)
          (holding_start inside.depth_left is_inside.some inside.ms inside.ss inside.s inside.place modules inside.start inside.old is_inside.ready))
          (for_one rest (record o { opened = o.opened + 1 }) a refl again
          (λ list new h. holding_next a.depth_left is.some a.ms a.ss a.s a.place modules a.start a.old is.ready o.inner.items is.inner o.opened x l e list1 p1 has list2 p2 next adds list new h)
          inside_fault waits)

-- ---- a turn

-- the next one, where there is one
pub next_is : (xs ys : List FoundInner) (i : ℕ) (x : FoundInner) → ys ≡ xs → true ≡ nat_lt i (length ys) → x ≡ get_or ys i x → (i < length xs) × (x ≡ get_or xs i x)
next_is xs ys i x e l k = subst (λ z. (i < length z) × (x ≡ get_or z i x)) e (ltb-true i (length ys) (sym l), k)

pub none_is : (xs ys : List FoundInner) (i : ℕ) → ys ≡ xs → false ≡ nat_lt i (length ys) → length xs ≤ i
none_is xs ys i e l = subst (λ z. length z ≤ i) e (ltb-false i (length ys) (sym l))

module _ (call : Asked) (modules : List (List ℕ × NamedModule)) (rest : List Opening) (o : Opening) (list1 : List FoundScope) (p1 : Numbering)
    (hand : InHand call modules (rest ++ o ∷ []) list1 p1) where
  abbrev pub top : Top call modules rest o list1 p1
  top = top_of call modules rest o list1 p1 hand

  pub closes : (p2 : Numbering) → length o.inner.items ≤ o.opened → p2.instances ≡ p1.instances → p2.turns ≡ p1.turns → p2.signals ≡ p1.signals →
      p2.outline.items ≡ p1.outline.items ++ Leave ∷ [] → InHand call modules rest list1 p2
  closes p2 l b c d e = closed call modules rest top.a list1 p2 top.waits (whole top.a modules o top.is list1 p1 top.has p2 l b c d e)

  module _ (x : FoundInner) (next : (o.opened < length o.inner.items) × (x ≡ get_or o.inner.items o.opened x)) where
    abbrev pub around : List Scope
    around = far top.a modules o top.is list1 p1 top.has x next.0 next.1

    pub adds_here : IsHolding top.a.ms around top.a.s modules list1 p1 o.place
    adds_here = may_add top.a modules o top.is list1 p1 top.has x next.0 next.1

    pub adds_not : (f : ElabFault) → IsReported (AddsInnerNot top.a.ms top.a.s (before_next list1 p1) (read_inner x)) f → HasFault call f
    adds_not f h = fault_told call modules rest top.a top.waits f (not_added top.a modules o top.is list1 p1 top.has x next.0 next.1 f h)

    module _ (list2 : List FoundScope) (p2 : Numbering) (place : ℕ) (added : AddsInnerAt top.a.ms around top.a.s o.place (before_next list1 p1) (read_inner x) list1 list2 p1 p2 place) where
      abbrev pub adds : AddsInnerAt top.a.ms around top.a.s top.a.place (before_next list1 p1) (read_inner x) list1 list2 p1 p2 place
      adds = subst (λ z. AddsInnerAt top.a.ms around top.a.s z (before_next list1 p1) (read_inner x) list1 list2 p1 p2 place) top.is.place added

      abbrev pub within : Scope
      within = adds.1.inner

      pub within_ready : IsReady top.a.ms (around ++ within ∷ []) within modules list2 p2 place (top.a.depth_left - 1)
      within_ready = inside_ready top.a modules o top.is list1 p1 top.has x next.0 next.1 list2 p2 place adds

      pub within_place : (items : List FoundScope) → items ≡ list2 → (place < length items) × AreSeated items × AreOpened items (around ++ within ∷ [])
      within_place items e =
          subst (λ z. (place < length z) × AreSeated z × AreOpened z (around ++ within ∷ [])) (sym e)
          (opened_place list2 (around ++ within ∷ []) place within within_ready.planned.opened within_ready.stands, within_ready.planned.seated, within_ready.planned.opened)

      pub finds_not : (f : ElabFault) → IsReported (HasInnerNot within) f → HasFault call f
      finds_not f h = fault_told call modules rest top.a top.waits f (not_found top.a modules o top.is list1 p1 top.has x next.0 next.1 list2 p2 place adds f h)

      pub goes_on : (c : Opening) → c.place ≡ place → c.opened ≡ 0 → HasInner within (map read_inner c.inner.items) →
          InHand call modules ((rest ++ record o { opened = o.opened + 1 } ∷ []) ++ c ∷ []) list2 p2
      goes_on c a b h = goes_in top.a modules o top.is list1 p1 top.has x next.0 next.1 list2 p2 place adds call rest c top.waits a b h

      pub one_more : length list2 ≡ length list1 + 1
      one_more = ap length added.1.adds.grown ∙ length_push list1 added.1.adds.added

-- ---- the first and the last turn

-- what a call asks for
abbrev pub asked : List Module → List Scope → Scope → ℕ → ℕ → List FoundScope → Numbering → Asked
asked ms ss s place depth_left start old = record { ms = ms; ss = ss; s = s; place = place; depth_left = depth_left; start = start; old = old }

pub first_in_hand : (call : Asked) (modules : List (List ℕ × NamedModule)) (o : Opening) (stack : List Opening) → 0 < call.depth_left →
    IsReady call.ms call.ss call.s modules call.start call.old call.place call.depth_left → o.place ≡ call.place → o.opened ≡ 0 → HasInner call.s (map read_inner o.inner.items) →
    stack ≡ o ∷ [] → InHand call modules stack call.start call.old
first_in_hand call modules o stack some ready at none inner e =
    subst (λ z. InHand call modules z call.start call.old) (sym e) (begun call modules o (record { some = some; place = at; ready = ready; inner = inner }) none)

pub last_in_hand : (call : Asked) (modules : List (List ℕ × NamedModule)) (stack : List Opening) (list : List FoundScope) (new : Numbering) → length stack ≤ 0 →
    InHand call modules stack list new → IsOpenedWhole call list new
last_in_hand call modules stack list new l (none_left e w) = w
last_in_hand call modules stack list new l (some_left rest o a e is has waits) = absurd (omega (arith, l, ap length e, length_push rest o))
