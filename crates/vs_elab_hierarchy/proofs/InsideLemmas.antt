-- The scopes inside a scope, one after another.
use Rattle.std.proofs.Common.{◌≡◌, ℕ, zero, suc, ◌+◌, ◌-◌, ◌<◌, ◌≤◌, false, List, [], ◌∷◌, ◌++◌, Some, is_some, length, map, take, drop, get_or, refl, ap, sym, subst, ◌∙◌, arith}
use Rattle.std.specs.List.{slice_get}
use Rattle.std.proofs.lemmas.List.{map-append, length-append, take_all}
use Rattle.vs_syntax.specs.declared.tree.Module.{Module}
use Rattle.vs_design.specs.declared.design.Entry.TheVariants.{Leave}
use Rattle.vs_scopes.specs.vs_widths.specs.Environment.{Environment}
use Rattle.vs_elab_constants.specs.vs_widths.specs.Names.{meaning_of}
use Rattle.vs_elab_signals.specs.vs_scopes.specs.Pieces.{Piece}
use Rattle.vs_elab_signals.specs.vs_elab_constants.specs.declared.opening.Inner.{Inner as FoundInner}
use Rattle.vs_elab_signals.specs.vs_elab_constants.specs.Reads.{read_inner}
use Rattle.vs_elab_signals.specs.vs_elab_constants.specs.generate_passes.Numbering.{AreNames}
use Rattle.vs_scopes.specs.declared.faults.Reason.{Reason}
use Rattle.vs_scopes.specs.declared.faults.BodyFault.{BodyFault}
use Rattle.vs_scopes.specs.declared.faults.ElabFault.{ElabFault}
use Rattle.vs_scopes.specs.Parameters.{said}
use Rattle.vs_scopes.specs.Declarations.{Bindings}
use Rattle.vs_scopes.specs.Generate.{Inner, inner_from, constructs_fault}
use Rattle.vs_scopes.specs.Scopes.{Scope, before_following, within_first, text_names, environment, seen_from, inner_of, below, scopes_within}
use Rattle.vs_scopes.specs.scopes_passes.Answers.{IsReported, Refuses, IsRefusal}
use Rattle.vs_design.specs.vs_logic4.proofs.Basics.{take_push}
use Rattle.vs_scopes.proofs.AnswerLemmas.{refused_by}
use Rattle.vs_elab_signals.specs.declared.opened.ElabScope.{ElabScope as FoundScope}
use Rattle.vs_elab_signals.specs.declared.opened.Numbering.{Numbering}
use Rattle.vs_elab_signals.specs.Opened.{IsOpened}
use Rattle.vs_elab_signals.specs.ScopeFaults.{HasConstructFault, HoldsOpeningIn}
use Rattle.vs_elab_signals.proofs.BindLemmas.{is_key}
use Rattle.vs_elab_hierarchy.specs.declared.entering.NamedModule.{NamedModule}
use Rattle.vs_elab_hierarchy.specs.passes.Entering.{before_next}
use Rattle.vs_elab_hierarchy.specs.scope_passes.Own.{IsSoundOwn}
use Rattle.vs_elab_hierarchy.specs.scope_passes.Adding.{AddsInnerAt, AddsInnerNot, IsHolding}
use Rattle.vs_elab_hierarchy.specs.hierarchy_passes.Opens.{FindsInner, HasInner, IsReady, OpensInside, HoldsInner, OpensInsideNot}
use Rattle.vs_elab_hierarchy.proofs.ListLemmas.{all_at}
use Rattle.vs_design.specs.vs_logic4.proofs.Basics.{slice_front, at_end as slice_end}
use Rattle.vs_elab_hierarchy.proofs.EnterLemmas.{known_levels}
use Rattle.vs_elab_hierarchy.proofs.OwnLemmas.{is_deep}
use Rattle.vs_elab_hierarchy.proofs.AddLemmas.{opened_before, planned_behind}
use Rattle.vs_elab_hierarchy.proofs.OpenLemmas.{holding_none, holding_more, holding_all}
use Rattle.vs_elab_hierarchy.proofs.FaultLemmas.{construct_told, adds_told, inner_told}

-- ---- a scope that is listed

-- the names that its text declares, and no others, are bound so
pub names_are : (ss : List Scope) (o : FoundScope) (s : Scope) → IsOpened ss o s → AreNames (text_names s) o.text
names_are ss o s h n = ap is_some (h.entered.text n) ∙ is_key s.text n

-- what its names and those outward are bound to
pub names_mean : (ss : List Scope) (o : FoundScope) (s : Scope) (outer : Bindings) → IsOpened ss o s → ((n : List ℕ) → meaning_of outer n ≡ seen_from s.kind s.outer n) → meaning_of (o.names ++ outer) ≡ environment s
names_mean ss o s outer h e = known_levels o.names outer (seen_from s.kind s.outer) (environment s) e (λ n. ap (said (seen_from s.kind s.outer n)) (h.names n))

module _ (s : Scope) (env : Environment) (ps : List Piece) (e : env ≡ environment s) (p : ps ≡ s.pieces) where
  pub faults_same : (r : Reason) → constructs_fault r env (text_names s) 1 ps ≡ constructs_fault r (environment s) (text_names s) 1 s.pieces
  faults_same r = ap (λ z. constructs_fault r z (text_names s) 1 ps) e ∙ ap (constructs_fault r (environment s) (text_names s) 1) p

  pub inner_found : (xs : List Inner) → ((r : Reason) → constructs_fault r env (text_names s) 1 ps ≡ false) → xs ≡ inner_from 0 env (text_names s) 1 ps → FindsInner s xs
  inner_found xs h k = record {
    sound = λ r. sym (faults_same r) ∙ h r;
    same = k ∙ ap (λ z. inner_from 0 z (text_names s) 1 ps) e ∙ ap (inner_from 0 (environment s) (text_names s) 1) p;
  }

  pub fault_found : (f : BodyFault) (b : ElabFault) → Refuses (λ r. constructs_fault r env (text_names s) 1 ps) f → IsRefusal s.path f b → IsReported (HasConstructFault s) b
  fault_found f b h k = construct_told s f b (refused_by (λ r. constructs_fault r env (text_names s) 1 ps) (λ r. constructs_fault r (environment s) (text_names s) 1 s.pieces) f (λ q g. sym (faults_same q) ∙ g) h) k

-- ---- the loop

front_back : {A : Type 0} (xs : List A) (i : ℕ) → take i xs ++ drop i xs ≡ xs
front_back xs zero = refl
front_back [] (suc i) = refl
front_back (x ∷ xs) (suc i) = ap (λ z. x ∷ z) (front_back xs i)

inner_more : (xs : List FoundInner) (i : ℕ) (x : FoundInner) → i < length xs → x ≡ get_or xs i x → map read_inner (take (i + 1) xs) ≡ map read_inner (take i xs) ++ read_inner x ∷ []
inner_more xs i x h e = ap (map read_inner) (take_push xs i x h e) ∙ map-append read_inner (take i xs) (x ∷ [])

inner_split : (xs : List FoundInner) (i : ℕ) (x : FoundInner) → i < length xs → x ≡ get_or xs i x → (map read_inner (take i xs) ++ read_inner x ∷ []) ++ map read_inner (drop (i + 1) xs) ≡ map read_inner xs
inner_split xs i x h e = ap (λ z. z ++ map read_inner (drop (i + 1) xs)) (sym (inner_more xs i x h e)) ∙ sym (map-append read_inner (take (i + 1) xs) (drop (i + 1) xs)) ∙ ap (map read_inner) (front_back xs (i + 1))

module _ (depth_left : ℕ) (some : 0 < depth_left) (ms : List Module) (ss : List Scope) (s : Scope) (place : ℕ) (modules : List (List ℕ × NamedModule)) (list0 : List FoundScope) (p0 : Numbering) (ready : IsReady ms ss s modules list0 p0 place depth_left) where
  one_level : suc (depth_left - 1) ≡ depth_left
  one_level = omega (arith, some)

  pub holding_start : HoldsInner (depth_left - 1) ms ss s place [] list0 list0 p0 p0
  holding_start = holding_none (depth_left - 1) ms ss s place list0 p0 ready.planned

  module _ (items : List FoundInner) (inner : HasInner s (map read_inner items)) where
    -- all of them
    pub holding_end : (i : ℕ) (list : List FoundScope) (p1 p2 : Numbering) → length items ≤ i → HoldsInner (depth_left - 1) ms ss s place (map read_inner (take i items)) list0 list p0 p1 →
        p2.instances ≡ p1.instances → p2.turns ≡ p1.turns → p2.signals ≡ p1.signals → p2.outline.items ≡ p1.outline.items ++ Leave ∷ [] → OpensInside depth_left ms ss s place list0 list p0 p2
    holding_end i list p1 p2 l h a b c d =
        let all : HoldsInner (depth_left - 1) ms ss s place (map read_inner items) list0 list p0 p1 = subst (λ z. HoldsInner (depth_left - 1) ms ss s place (map read_inner z) list0 list p0 p1) (take_all i items l) h in
        subst (λ r. OpensInside r ms ss s place list0 list p0 p2) one_level (holding_all (depth_left - 1) ms ss s place (map read_inner items) list0 list p0 p1 p2 inner all a b c d)

    module _ (i : ℕ) (x : FoundInner) (l : i < length items) (e : x ≡ get_or items i x) (list1 : List FoundScope) (p1 : Numbering) (holds : HoldsInner (depth_left - 1) ms ss s place (map read_inner (take i items)) list0 list1 p0 p1) where
      -- the scopes that are listed
      abbrev pub so_far : List Scope
      so_far = ss ++ below ms (scopes_within (depth_left - 1) ms) s (within_first s) (map read_inner (take i items))

      pub holding_here : IsHolding ms (ss ++ below ms (scopes_within (depth_left - 1) ms) s (within_first s) (map read_inner (take i items))) s modules list1 p1 place
      holding_here = record {
        lists = ready.lists;
        planned = holds.planned;
        stands = slice_front ss (below ms (scopes_within (depth_left - 1) ms) s (within_first s) (map read_inner (take i items))) place s ready.stands;
      }

      whole : (map read_inner (take i items) ++ read_inner x ∷ []) ++ map read_inner (drop (i + 1) items) ≡ inner_of s
      whole = inner_split items i x l e ∙ inner.found.same

      here : before_next list1 p1 ≡ before_following (within_first s) (below ms (scopes_within (depth_left - 1) ms) s (within_first s) (map read_inner (take i items)))
      here = planned_behind list0 list1 p0 p1 ss (below ms (scopes_within (depth_left - 1) ms) s (within_first s) (map read_inner (take i items))) (within_first s) ready.planned ready.next holds.planned

      -- one that isn't added
      pub add_told : (f : ElabFault) → IsReported (AddsInnerNot ms s (before_next list1 p1) (read_inner x)) f → IsReported (OpensInsideNot depth_left ms s) f
      add_told f h =
          subst (λ r. IsReported (HoldsOpeningIn ms (scopes_within r ms s)) f) one_level
          (adds_told (depth_left - 1) ms s (map read_inner (take i items)) (read_inner x) (map read_inner (drop (i + 1) items)) whole (before_next list1 p1) here f h)

      module _ (list2 : List FoundScope) (p2 : Numbering) (next : ℕ) (adds : AddsInnerAt ms (ss ++ below ms (scopes_within (depth_left - 1) ms) s (within_first s) (map read_inner (take i items))) s place (before_next list1 p1) (read_inner x) list1 list2 p1 p2 next) where
        longer : length adds.1.inner.path ≡ suc (length s.path)
        longer = (opened_before ms s (before_next list1 p1) (read_inner x) adds.1.inner adds.1.opens).1

        pub next_stands : slice_get ((ss ++ below ms (scopes_within (depth_left - 1) ms) s (within_first s) (map read_inner (take i items))) ++ adds.1.inner ∷ []) next ≡ Some adds.1.inner
        next_stands = ap (slice_get ((ss ++ below ms (scopes_within (depth_left - 1) ms) s (within_first s) (map read_inner (take i items))) ++ adds.1.inner ∷ [])) adds.0 ∙ slice_end so_far adds.1.inner

        pub room_inside : 0 < depth_left - 1
        room_inside =
            let own : IsSoundOwn adds.1.inner = all_at IsSoundOwn (so_far ++ adds.1.inner ∷ []) next adds.1.inner adds.1.adds.planned.sound next_stands in
            let small = is_deep adds.1.inner own.few in
            omega (arith, small, longer, ready.levels)

        pub ready_inside : IsReady ms ((ss ++ below ms (scopes_within (depth_left - 1) ms) s (within_first s) (map read_inner (take i items))) ++ adds.1.inner ∷ []) adds.1.inner modules list2 p2 next (depth_left - 1)
        ready_inside = record {
          lists = ready.lists;
          planned = adds.1.adds.planned;
          stands = next_stands;
          last = omega (arith, adds.0, length-append so_far (adds.1.inner ∷ []));
          next = adds.1.adds.next;
          levels = omega (arith, longer, ready.levels, some);
        }

        -- a fault inside it
        pub inside_by_flags : (f : ElabFault) → IsReported (OpensInsideNot (depth_left - 1) ms adds.1.inner) f → IsReported (OpensInsideNot depth_left ms s) f
        inside_by_flags f h =
            subst (λ r. IsReported (HoldsOpeningIn ms (scopes_within r ms s)) f) one_level
            (inner_told (depth_left - 1) ms s (map read_inner (take i items)) (read_inner x) (map read_inner (drop (i + 1) items)) whole (before_next list1 p1) here adds.1.inner f adds.1.opens h)

        -- one more
        pub holding_next : (list3 : List FoundScope) (p3 : Numbering) → OpensInside (depth_left - 1) ms ((ss ++ below ms (scopes_within (depth_left - 1) ms) s (within_first s) (map read_inner (take i items))) ++ adds.1.inner ∷ []) adds.1.inner next list2 list3 p2 p3 →
            HoldsInner (depth_left - 1) ms ss s place (map read_inner (take (i + 1) items)) list0 list3 p0 p3
        holding_next list3 p3 o =
            let at : OpensInside (depth_left - 1) ms (so_far ++ adds.1.inner ∷ []) adds.1.inner (length so_far) list2 list3 p2 p3 = subst (λ z. OpensInside (depth_left - 1) ms (so_far ++ adds.1.inner ∷ []) adds.1.inner z list2 list3 p2 p3) adds.0 o in
            subst (λ z. HoldsInner (depth_left - 1) ms ss s place z list0 list3 p0 p3) (sym (inner_more items i x l e))
            (holding_more (depth_left - 1) ms ss s place (map read_inner (take i items)) (read_inner x) list0 list1 list2 p0 p1 p2 ready.last ready.planned ready.next holds adds.1 list3 p3 at)
