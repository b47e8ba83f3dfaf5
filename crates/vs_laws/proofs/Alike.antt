-- Statements that say the same, with their numbers.
use Rattle.std.proofs.Common.{◌≡◌, ℕ, Bool, List, [], ◌∷◌, ◌++◌, length, map, refl, ap, ap₂, sym, subst, ◌∙◌, arith}
use Rattle.std.specs.List.{AllZip}
use Rattle.std.specs.declared.vec.Vec.{Vec}
use Rattle.std.specs.declared.boxed.Box.{Box}
use Rattle.std.specs.declared.alloc.Global.{Global}
use Rattle.vs_design.specs.vs_logic4.specs.declared.case.CaseKind.{CaseKind}
use Rattle.vs_design.specs.declared.expression.Typed.{Typed}
use Rattle.vs_design.specs.declared.statement.Call.{Call}
use Rattle.vs_design.specs.declared.statement.EventTerm.{EventTerm}
use Rattle.vs_design.specs.declared.statement.Statement.{Statement}
use Rattle.vs_design.specs.declared.statement.Statement.TheOpen.{Statement-F}
use Rattle.vs_design.specs.declared.statement.Statement.TheOpen as f
use Rattle.vs_design.specs.declared.statement.Statement.TheVariants as d
use Rattle.vs_design.specs.declared.statement.Statement.TheViews.{out-Statement, roll-Statement, out-roll-Statement}
use Rattle.vs_design.specs.declared.statement.Target.{Target}
use Rattle.vs_design.specs.declared.statement.Ticks.{Ticks}
use Rattle.vs_design.specs.Uses.{joined}
use Rattle.vs_design.specs.WellFormed.{numbers}
use Rattle.vs_design.proofs.FormLemmas.{numbers_Null, numbers_Assign, numbers_Later, numbers_Call, numbers_Finish, numbers_Block, numbers_Forever, numbers_Event}
use Rattle.vs_elab_statements.proofs.FormLemmas.{numbers_Delay, numbers_If, numbers_Case, numbers_While, numbers_Repeat, item_numbers}
use Rattle.vs_elaborate.specs.Same.{SameTyped, SameSides, SameCall, SameStatement, null_same, assign_same, later_same, call_same, finish_same, block_same, delay_same, event_same, if_same, case_same, while_same, repeat_same, forever_same, SameItems, items_end, item_same, SameStatements, statements_end, statement_same}
use Rattle.vs_elaborate.proofs.SameStatementLemmas.{same_count}

-- an item of a `case`
abbrev pub Choice : Type 0
Choice = Vec Typed Global × Statement

mutual
  -- the statements say the same, and have the same numbers
  pub data Alike : Statement → Statement → Type 0 where
    alike : (s s' : Statement) → AlikeLayer (out-Statement s) (out-Statement s') → Alike s s'

  pub data AlikeLayer : Statement-F Statement → Statement-F Statement → Type 0 where
    of_null : (k : ℕ) → AlikeLayer (f.Null k) (f.Null k)
    of_assign : (k : ℕ) (t t' : Target) (x x' : Typed) → SameSides t t' x x' → AlikeLayer (f.Assign k t x) (f.Assign k t' x')
    of_later : (k : ℕ) (n n' : Ticks) (t t' : Target) (x x' : Typed) → n.count ≡ n'.count → SameSides t t' x x' →
        AlikeLayer (f.Later k n t x) (f.Later k n' t' x')
    of_call : (k : ℕ) (c c' : Call) → SameCall c c' → AlikeLayer (f.Call k c) (f.Call k c')
    of_finish : (k : ℕ) → AlikeLayer (f.Finish k) (f.Finish k)
    of_block : (xs xs' : Vec Statement Global) → AlikeAll xs.items xs'.items → AlikeLayer (f.Block xs) (f.Block xs')
    of_delay : (k : ℕ) (n n' : Ticks) (x x' : Box Statement Global) → n.count ≡ n'.count → Alike x.value x'.value →
        AlikeLayer (f.Delay k n x) (f.Delay k n' x')
    of_event : (k : ℕ) (ts ts' : Vec EventTerm Global) (x x' : Box Statement Global) → ts.items ≡ ts'.items → Alike x.value x'.value →
        AlikeLayer (f.Event k ts x) (f.Event k ts' x')
    of_if : (k : ℕ) (e e' : Typed) (x x' z z' : Box Statement Global) → SameTyped e e' → Alike x.value x'.value → Alike z.value z'.value →
        AlikeLayer (f.If k e x z) (f.If k e' x' z')
    of_case : (k : ℕ) (kind : CaseKind) (e e' : Typed) (xs xs' : Vec Choice Global) → SameTyped e e' → AlikeChoices xs.items xs'.items →
        AlikeLayer (f.Case k kind e xs) (f.Case k kind e' xs')
    of_while : (k : ℕ) (e e' : Typed) (x x' : Box Statement Global) → SameTyped e e' → Alike x.value x'.value →
        AlikeLayer (f.While k e x) (f.While k e' x')
    of_repeat : (k : ℕ) (signed : Bool) (e e' : Typed) (x x' : Box Statement Global) → SameTyped e e' → Alike x.value x'.value →
        AlikeLayer (f.Repeat k signed e x) (f.Repeat k signed e' x')
    of_forever : (k : ℕ) (x x' : Box Statement Global) → Alike x.value x'.value → AlikeLayer (f.Forever k x) (f.Forever k x')

  pub data AlikeAll : List Statement → List Statement → Type 0 where
    all_end : AlikeAll [] []
    all_more : (x x' : Statement) (xs xs' : List Statement) → Alike x x' → AlikeAll xs xs' → AlikeAll (x ∷ xs) (x' ∷ xs')

  pub data AlikeChoices : List Choice → List Choice → Type 0 where
    choices_end : AlikeChoices [] []
    choices_more : (x x' : Choice) (xs xs' : List Choice) → AllZip SameTyped x.0.items x'.0.items → Alike x.1 x'.1 → AlikeChoices xs xs' →
        AlikeChoices (x ∷ xs) (x' ∷ xs')

-- ---- from statements whose numbers are the same in their order

rolled : (x x' : Statement-F Statement) (s s' : Statement) → roll-Statement x ≡ s → roll-Statement x' ≡ s' → AlikeLayer x x' → Alike s s'
rolled x x' s s' h k l =
    alike s s' (subst (λ y. AlikeLayer y (out-Statement s')) (sym (ap out-Statement (sym h) ∙ out-roll-Statement x))
    (subst (AlikeLayer x) (sym (ap out-Statement (sym k) ∙ out-roll-Statement x')) l))

-- ---- lists

abbrev first_or : ℕ → List ℕ → ℕ
first_or n [] = n
first_or n (x ∷ xs) = x

abbrev behind : List ℕ → List ℕ
behind [] = []
behind (x ∷ xs) = xs

-- a number in front of others
one_is : (k k' : ℕ) (ns ns' : List ℕ) → k ∷ ns ≡ k' ∷ ns' → (k ≡ k') × (ns ≡ ns')
one_is k k' ns ns' e = (ap (first_or k) e, ap behind e)

-- lists that are as long, in front of others
front_is : (as' bs cs ds : List ℕ) → length as' ≡ length bs → as' ++ cs ≡ bs ++ ds → (as' ≡ bs) × (cs ≡ ds)
front_is [] [] cs ds h e = (refl, e)
front_is [] (b ∷ bs) cs ds h e = absurd (omega (arith, h))
front_is (a ∷ as') [] cs ds h e = absurd (omega (arith, h))
front_is (a ∷ as') (b ∷ bs) cs ds h e =
    let p = one_is a b (as' ++ cs) (bs ++ ds) e in
    let rest = front_is as' bs cs ds (omega (arith, h)) p.1 in
    (ap₂ (λ x xs. x ∷ xs) p.0 rest.0, rest.1)

-- the number of a statement, and those of what is in it
number_is : (s s' : Statement) (k k' : ℕ) (ns ns' : List ℕ) → numbers s ≡ k ∷ ns → numbers s' ≡ k' ∷ ns' → numbers s ≡ numbers s' → (k ≡ k') × (ns ≡ ns')
number_is s s' k k' ns ns' h h' e = one_is k k' ns ns' (sym h ∙ e ∙ h')

-- ---- statements whose numbers are the same

mutual
  pub alike_of : (s s' : Statement) → SameStatement s s' → numbers s ≡ numbers s' → Alike s s'
  alike_of _ _ (null_same k k') e =
      let p = number_is (d.Null k) (d.Null k') k k' [] [] (numbers_Null k) (numbers_Null k') e in
      rolled (f.Null k) (f.Null k') (d.Null k) (d.Null k') (d.rolls-Null k) (d.rolls-Null k') (subst (λ n. AlikeLayer (f.Null k) (f.Null n)) p.0 (of_null k))
  alike_of _ _ (assign_same k k' t t' x x' m) e =
      let p = number_is (d.Assign k t x) (d.Assign k' t' x') k k' [] [] (numbers_Assign k t x) (numbers_Assign k' t' x') e in
      rolled (f.Assign k t x) (f.Assign k' t' x') (d.Assign k t x) (d.Assign k' t' x') (d.rolls-Assign k t x) (d.rolls-Assign k' t' x')
      (subst (λ n. AlikeLayer (f.Assign k t x) (f.Assign n t' x')) p.0 (of_assign k t t' x x' m))
  alike_of _ _ (later_same k k' n n' t t' x x' c m) e =
      let p = number_is (d.Later k n t x) (d.Later k' n' t' x') k k' [] [] (numbers_Later k n t x) (numbers_Later k' n' t' x') e in
      rolled (f.Later k n t x) (f.Later k' n' t' x') (d.Later k n t x) (d.Later k' n' t' x') (d.rolls-Later k n t x) (d.rolls-Later k' n' t' x')
      (subst (λ z. AlikeLayer (f.Later k n t x) (f.Later z n' t' x')) p.0 (of_later k n n' t t' x x' c m))
  alike_of _ _ (call_same k k' c c' m) e =
      let p = number_is (d.Call k c) (d.Call k' c') k k' [] [] (numbers_Call k c) (numbers_Call k' c') e in
      rolled (f.Call k c) (f.Call k' c') (d.Call k c) (d.Call k' c') (d.rolls-Call k c) (d.rolls-Call k' c') (subst (λ n. AlikeLayer (f.Call k c) (f.Call n c')) p.0 (of_call k c c' m))
  alike_of _ _ (finish_same k k') e =
      let p = number_is (d.Finish k) (d.Finish k') k k' [] [] (numbers_Finish k) (numbers_Finish k') e in
      rolled (f.Finish k) (f.Finish k') (d.Finish k) (d.Finish k') (d.rolls-Finish k) (d.rolls-Finish k') (subst (λ n. AlikeLayer (f.Finish k) (f.Finish n)) p.0 (of_finish k))
  alike_of _ _ (block_same xs xs' m) e =
      rolled (f.Block xs) (f.Block xs') (d.Block xs) (d.Block xs') (d.rolls-Block xs) (d.rolls-Block xs')
      (of_block xs xs' (all_of xs.items xs'.items m (sym (numbers_Block xs) ∙ e ∙ numbers_Block xs')))
  alike_of _ _ (delay_same k k' n n' x x' c m) e =
      let p = number_is (d.Delay k n x) (d.Delay k' n' x') k k' (numbers x.value) (numbers x'.value) (numbers_Delay k n x) (numbers_Delay k' n' x') e in
      rolled (f.Delay k n x) (f.Delay k' n' x') (d.Delay k n x) (d.Delay k' n' x') (d.rolls-Delay k n x) (d.rolls-Delay k' n' x')
      (subst (λ z. AlikeLayer (f.Delay k n x) (f.Delay z n' x')) p.0 (of_delay k n n' x x' c (alike_of x.value x'.value m p.1)))
  alike_of _ _ (event_same k k' ts ts' x x' c m) e =
      let p = number_is (d.Event k ts x) (d.Event k' ts' x') k k' (numbers x.value) (numbers x'.value) (numbers_Event k ts x) (numbers_Event k' ts' x') e in
      rolled (f.Event k ts x) (f.Event k' ts' x') (d.Event k ts x) (d.Event k' ts' x') (d.rolls-Event k ts x) (d.rolls-Event k' ts' x')
      (subst (λ z. AlikeLayer (f.Event k ts x) (f.Event z ts' x')) p.0 (of_event k ts ts' x x' c (alike_of x.value x'.value m p.1)))
  alike_of _ _ (if_same k k' c c' x x' z z' h m r) e =
      let p = number_is (d.If k c x z) (d.If k' c' x' z') k k' (numbers x.value ++ numbers z.value) (numbers x'.value ++ numbers z'.value) (numbers_If k c x z) (numbers_If k' c' x' z') e in
      let q = front_is (numbers x.value) (numbers x'.value) (numbers z.value) (numbers z'.value) (same_count x.value x'.value m) p.1 in
      rolled (f.If k c x z) (f.If k' c' x' z') (d.If k c x z) (d.If k' c' x' z') (d.rolls-If k c x z) (d.rolls-If k' c' x' z')
      (subst (λ n. AlikeLayer (f.If k c x z) (f.If n c' x' z')) p.0 (of_if k c c' x x' z z' h (alike_of x.value x'.value m q.0) (alike_of z.value z'.value r q.1)))
  alike_of _ _ (case_same k k' kind c c' xs xs' h m) e =
      let p = number_is (d.Case k kind c xs) (d.Case k' kind c' xs') k k' (joined (map item_numbers xs.items)) (joined (map item_numbers xs'.items)) (numbers_Case k kind c xs) (numbers_Case k' kind c' xs') e in
      rolled (f.Case k kind c xs) (f.Case k' kind c' xs') (d.Case k kind c xs) (d.Case k' kind c' xs') (d.rolls-Case k kind c xs) (d.rolls-Case k' kind c' xs')
      (subst (λ n. AlikeLayer (f.Case k kind c xs) (f.Case n kind c' xs')) p.0 (of_case k kind c c' xs xs' h (choices_of xs.items xs'.items m p.1)))
  alike_of _ _ (while_same k k' c c' x x' h m) e =
      let p = number_is (d.While k c x) (d.While k' c' x') k k' (numbers x.value) (numbers x'.value) (numbers_While k c x) (numbers_While k' c' x') e in
      rolled (f.While k c x) (f.While k' c' x') (d.While k c x) (d.While k' c' x') (d.rolls-While k c x) (d.rolls-While k' c' x')
      (subst (λ n. AlikeLayer (f.While k c x) (f.While n c' x')) p.0 (of_while k c c' x x' h (alike_of x.value x'.value m p.1)))
  alike_of _ _ (repeat_same k k' signed c c' x x' h m) e =
      let p = number_is (d.Repeat k signed c x) (d.Repeat k' signed c' x') k k' (numbers x.value) (numbers x'.value) (numbers_Repeat k signed c x) (numbers_Repeat k' signed c' x') e in
      rolled (f.Repeat k signed c x) (f.Repeat k' signed c' x') (d.Repeat k signed c x) (d.Repeat k' signed c' x') (d.rolls-Repeat k signed c x) (d.rolls-Repeat k' signed c' x')
      (subst (λ n. AlikeLayer (f.Repeat k signed c x) (f.Repeat n signed c' x')) p.0 (of_repeat k signed c c' x x' h (alike_of x.value x'.value m p.1)))
  alike_of _ _ (forever_same k k' x x' m) e =
      let p = number_is (d.Forever k x) (d.Forever k' x') k k' (numbers x.value) (numbers x'.value) (numbers_Forever k x) (numbers_Forever k' x') e in
      rolled (f.Forever k x) (f.Forever k' x') (d.Forever k x) (d.Forever k' x') (d.rolls-Forever k x) (d.rolls-Forever k' x')
      (subst (λ n. AlikeLayer (f.Forever k x) (f.Forever n x')) p.0 (of_forever k x x' (alike_of x.value x'.value m p.1)))

  all_of : (xs xs' : List Statement) → SameStatements xs xs' → joined (map numbers xs) ≡ joined (map numbers xs') → AlikeAll xs xs'
  all_of _ _ statements_end e = all_end
  all_of _ _ (statement_same x x' xs xs' m r) e =
      let q = front_is (numbers x) (numbers x') (joined (map numbers xs)) (joined (map numbers xs')) (same_count x x' m) e in
      all_more x x' xs xs' (alike_of x x' m q.0) (all_of xs xs' r q.1)

  choices_of : (xs xs' : List Choice) → SameItems xs xs' → joined (map item_numbers xs) ≡ joined (map item_numbers xs') → AlikeChoices xs xs'
  choices_of _ _ items_end e = choices_end
  choices_of _ _ (item_same x x' xs xs' h m r) e =
      let q = front_is (numbers x.1) (numbers x'.1) (joined (map item_numbers xs)) (joined (map item_numbers xs')) (same_count x.1 x'.1 m) e in
      choices_more x x' xs xs' h (alike_of x.1 x'.1 m q.0) (choices_of xs xs' r q.1)
