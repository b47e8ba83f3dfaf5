-- Where a statement of a text stands: a point of the text at which it is next is told by its number.
use Rattle.std.proofs.Common.{◌≡◌, ℕ, suc, ◌≤◌, Bool, true, false, Some, List, [], ◌∷◌, ◌++◌, map, slice_get, refl, ap, sym, subst, ◌∙◌, arith, append_assoc}
use Rattle.std.proofs.lemmas.List.{append-nil}
use Rattle.std.proofs.lemmas.Option.{none-some}
use Rattle.std.specs.List.{list_any}
use Rattle.std.specs.declared.vec.Vec.{Vec}
use Rattle.std.specs.declared.boxed.Box.{Box}
use Rattle.std.specs.declared.alloc.Global.{Global}
use Rattle.vs_design.specs.vs_logic4.specs.declared.case.CaseKind.{CaseKind}
use Rattle.vs_design.specs.declared.expression.Typed.{Typed}
use Rattle.vs_design.specs.declared.statement.EventTerm.{EventTerm}
use Rattle.vs_design.specs.declared.statement.Statement.{Statement}
use Rattle.vs_design.specs.declared.statement.Statement.TheOpen.{Statement-F}
use Rattle.vs_design.specs.declared.statement.Statement.TheOpen as f
use Rattle.vs_design.specs.declared.statement.Statement.TheVariants as d
use Rattle.vs_design.specs.declared.statement.Statement.TheViews.{out-Statement, out-roll-Statement}
use Rattle.vs_design.specs.declared.statement.Ticks.{Ticks}
use Rattle.vs_design.specs.Uses.{joined}
use Rattle.vs_design.specs.WellFormed.{numbers, counts_from}
use Rattle.vs_process.specs.Drafts.{flat_all, numbers_all, numbers_in, numbers_inside}
use Rattle.vs_process.specs.Landings.{todo_after}
use Rattle.vs_process.specs.Nexts.{past, statement_nexts}
use Rattle.vs_process.specs.Numbers.{number_of, number_next, times_in}
use Rattle.vs_process.specs.Places.{Item, perform, turns, Todo, flat}
use Rattle.vs_process.specs.Steps.{Next, on, after, wait, is_default}
use Rattle.vs_process.proofs.ThreadsTodos.{flat_each}
use Rattle.vs_process.proofs.Numbers.{counted_once as once_above, times-append, times_whole, here_once}
use Rattle.vs_rules.specs.Points.{Among, Goes, Point}
use Rattle.vs_laws.proofs.Alike.{Choice}

-- ---- numbers of a statement

in_joined : (xs : List Choice) →
    joined (map (λ (i : Vec Typed Global × List ℕ). i.1) (map (λ (i : Choice). (i.0, numbers i.1)) xs)) ≡ numbers_in xs
in_joined [] = refl
in_joined (i ∷ xs) = ap (λ (ns : List ℕ). numbers i.1 ++ ns) (in_joined xs)

pub counted_once : (n : ℕ) (xs : List ℕ) → counts_from 0 xs ≡ true → times_in n xs ≤ 1
counted_once n xs h = (once_above n 0 xs h).0

-- ---- points of a statement in front of what else is to be done, at which a statement stands next

mutual
  pub data Within : Statement → Todo → Todo → Type 0 where
    here : (s : Statement) (rest : Todo) → Within s rest (perform s ∷ rest)
    inside : (s : Statement) (rest k : Todo) → WithinLayer s (out-Statement s) rest k → Within s rest k

  pub data WithinLayer : Statement → Statement-F Statement → Todo → Todo → Type 0 where
    in_block : (s : Statement) (xs : Vec Statement Global) (rest k : Todo) → WithinAll xs.items rest k → WithinLayer s (f.Block xs) rest k
    in_delay : (s : Statement) (n : ℕ) (ticks : Ticks) (x : Box Statement Global) (rest k : Todo) → Within x.value rest k →
        WithinLayer s (f.Delay n ticks x) rest k
    in_event : (s : Statement) (n : ℕ) (ts : Vec EventTerm Global) (x : Box Statement Global) (rest k : Todo) → Within x.value rest k →
        WithinLayer s (f.Event n ts x) rest k
    in_then : (s : Statement) (n : ℕ) (e : Typed) (x z : Box Statement Global) (rest k : Todo) → Within x.value rest k →
        WithinLayer s (f.If n e x z) rest k
    in_else : (s : Statement) (n : ℕ) (e : Typed) (x z : Box Statement Global) (rest k : Todo) → Within z.value rest k →
        WithinLayer s (f.If n e x z) rest k
    in_case : (s : Statement) (n : ℕ) (kind : CaseKind) (e : Typed) (xs : Vec Choice Global) (rest k : Todo) → WithinChoices xs.items rest k →
        WithinLayer s (f.Case n kind e xs) rest k
    in_while : (s : Statement) (n : ℕ) (e : Typed) (x : Box Statement Global) (rest k : Todo) → Within x.value (perform s ∷ rest) k →
        WithinLayer s (f.While n e x) rest k
    in_repeat : (s : Statement) (n : ℕ) (signed : Bool) (e : Typed) (x : Box Statement Global) (rest k : Todo) →
        Within x.value (turns 0 x.value ∷ rest) k → WithinLayer s (f.Repeat n signed e x) rest k
    in_forever : (s : Statement) (n : ℕ) (x : Box Statement Global) (rest k : Todo) → Within x.value (perform s ∷ rest) k →
        WithinLayer s (f.Forever n x) rest k

  pub data WithinAll : List Statement → Todo → Todo → Type 0 where
    in_first : (x : Statement) (xs : List Statement) (rest k : Todo) → Within x (flat_all xs ++ rest) k → WithinAll (x ∷ xs) rest k
    in_rest : (x : Statement) (xs : List Statement) (rest k : Todo) → WithinAll xs rest k → WithinAll (x ∷ xs) rest k

  pub data WithinChoices : List Choice → Todo → Todo → Type 0 where
    first_choice : (x : Choice) (xs : List Choice) (rest k : Todo) → Within x.1 rest k → WithinChoices (x ∷ xs) rest k
    other_choice : (x : Choice) (xs : List Choice) (rest k : Todo) → WithinChoices xs rest k → WithinChoices (x ∷ xs) rest k

-- its number is one of those of the statement
mutual
  counted : (s : Statement) (rest k : Todo) (n : ℕ) → Within s rest k → number_next k ≡ Some n → 1 ≤ times_in n (numbers s)
  counted _ _ _ n (here s rest) h = omega (arith, times_whole n s, here_once n (number_of (out-Statement s)) h)
  counted _ _ _ n (inside s rest k l) h = omega (arith, times_whole n s, layer_counted s (out-Statement s) rest k n l h)

  layer_counted : (s : Statement) (x : Statement-F Statement) (rest k : Todo) (n : ℕ) → WithinLayer s x rest k → number_next k ≡ Some n → 1 ≤ times_in n (numbers_inside x)
  layer_counted _ _ _ _ n (in_block s xs rest k p) h = all_counted xs.items rest k n p h
  layer_counted _ _ _ _ n (in_delay s m ticks x rest k p) h = counted x.value rest k n p h
  layer_counted _ _ _ _ n (in_event s m ts x rest k p) h = counted x.value rest k n p h
  layer_counted _ _ _ _ n (in_then s m e x z rest k p) h = omega (arith, times-append n (numbers x.value) (numbers z.value), counted x.value rest k n p h)
  layer_counted _ _ _ _ n (in_else s m e x z rest k p) h = omega (arith, times-append n (numbers x.value) (numbers z.value), counted z.value rest k n p h)
  layer_counted _ _ _ _ n (in_case s m kind e xs rest k p) h = choices_counted xs.items rest k n p h
  layer_counted _ _ _ _ n (in_while s m e x rest k p) h = counted x.value (perform s ∷ rest) k n p h
  layer_counted _ _ _ _ n (in_repeat s m signed e x rest k p) h = counted x.value (turns 0 x.value ∷ rest) k n p h
  layer_counted _ _ _ _ n (in_forever s m x rest k p) h = counted x.value (perform s ∷ rest) k n p h

  all_counted : (xs : List Statement) (rest k : Todo) (n : ℕ) → WithinAll xs rest k → number_next k ≡ Some n → 1 ≤ times_in n (numbers_all xs)
  all_counted _ _ _ n (in_first x xs rest k p) h = omega (arith, times-append n (numbers x) (numbers_all xs), counted x (flat_all xs ++ rest) k n p h)
  all_counted _ _ _ n (in_rest x xs rest k p) h = omega (arith, times-append n (numbers x) (numbers_all xs), all_counted xs rest k n p h)

  choices_counted : (xs : List Choice) (rest k : Todo) (n : ℕ) → WithinChoices xs rest k → number_next k ≡ Some n → 1 ≤ times_in n (numbers_in xs)
  choices_counted _ _ _ n (first_choice x xs rest k p) h = omega (arith, times-append n (numbers x.1) (numbers_in xs), counted x.1 rest k n p h)
  choices_counted _ _ _ n (other_choice x xs rest k p) h = omega (arith, times-append n (numbers x.1) (numbers_in xs), choices_counted xs rest k n p h)

-- where the number is there once at most, two points with it are one
mutual
  one_spot : (s : Statement) (rest k l : Todo) (n : ℕ) → times_in n (numbers s) ≤ 1 → Within s rest k → Within s rest l → number_next k ≡ Some n → number_next l ≡ Some n → k ≡ l
  one_spot _ _ _ _ n most (here s rest) (here _ _) h g = refl
  one_spot _ _ _ _ n most (here s rest) (inside _ _ l q) h g =
      absurd (omega (arith, most, times_whole n s, here_once n (number_of (out-Statement s)) h, layer_counted s (out-Statement s) rest l n q g))
  one_spot _ _ _ _ n most (inside s rest k p) (here _ _) h g =
      absurd (omega (arith, most, times_whole n s, here_once n (number_of (out-Statement s)) g, layer_counted s (out-Statement s) rest k n p h))
  one_spot _ _ _ _ n most (inside s rest k p) (inside _ _ l q) h g = one_in_layer s (out-Statement s) rest k l n (omega (arith, most, times_whole n s)) p q h g

  one_in_layer : (s : Statement) (x : Statement-F Statement) (rest k l : Todo) (n : ℕ) → times_in n (numbers_inside x) ≤ 1 → WithinLayer s x rest k → WithinLayer s x rest l →
      number_next k ≡ Some n → number_next l ≡ Some n → k ≡ l
  one_in_layer _ _ _ _ _ n most (in_block s xs rest k p) (in_block _ _ _ l q) h g = one_in_all xs.items rest k l n most p q h g
  one_in_layer _ _ _ _ _ n most (in_delay s m ticks x rest k p) (in_delay _ _ _ _ _ l q) h g = one_spot x.value rest k l n most p q h g
  one_in_layer _ _ _ _ _ n most (in_event s m ts x rest k p) (in_event _ _ _ _ _ l q) h g = one_spot x.value rest k l n most p q h g
  one_in_layer _ _ _ _ _ n most (in_then s m e x z rest k p) (in_then _ _ _ _ _ _ l q) h g =
      one_spot x.value rest k l n (omega (arith, most, times-append n (numbers x.value) (numbers z.value))) p q h g
  one_in_layer _ _ _ _ _ n most (in_then s m e x z rest k p) (in_else _ _ _ _ _ _ l q) h g =
      absurd (omega (arith, most, times-append n (numbers x.value) (numbers z.value), counted x.value rest k n p h, counted z.value rest l n q g))
  one_in_layer _ _ _ _ _ n most (in_else s m e x z rest k p) (in_then _ _ _ _ _ _ l q) h g =
      absurd (omega (arith, most, times-append n (numbers x.value) (numbers z.value), counted z.value rest k n p h, counted x.value rest l n q g))
  one_in_layer _ _ _ _ _ n most (in_else s m e x z rest k p) (in_else _ _ _ _ _ _ l q) h g =
      one_spot z.value rest k l n (omega (arith, most, times-append n (numbers x.value) (numbers z.value))) p q h g
  one_in_layer _ _ _ _ _ n most (in_case s m kind e xs rest k p) (in_case _ _ _ _ _ _ l q) h g = one_in_choices xs.items rest k l n most p q h g
  one_in_layer _ _ _ _ _ n most (in_while s m e x rest k p) (in_while _ _ _ _ _ l q) h g = one_spot x.value (perform s ∷ rest) k l n most p q h g
  one_in_layer _ _ _ _ _ n most (in_repeat s m signed e x rest k p) (in_repeat _ _ _ _ _ _ l q) h g = one_spot x.value (turns 0 x.value ∷ rest) k l n most p q h g
  one_in_layer _ _ _ _ _ n most (in_forever s m x rest k p) (in_forever _ _ _ _ l q) h g = one_spot x.value (perform s ∷ rest) k l n most p q h g

  one_in_all : (xs : List Statement) (rest k l : Todo) (n : ℕ) → times_in n (numbers_all xs) ≤ 1 → WithinAll xs rest k → WithinAll xs rest l → number_next k ≡ Some n → number_next l ≡ Some n → k ≡ l
  one_in_all _ _ _ _ n most (in_first x xs rest k p) (in_first _ _ _ l q) h g =
      one_spot x (flat_all xs ++ rest) k l n (omega (arith, most, times-append n (numbers x) (numbers_all xs))) p q h g
  one_in_all _ _ _ _ n most (in_first x xs rest k p) (in_rest _ _ _ l q) h g =
      absurd (omega (arith, most, times-append n (numbers x) (numbers_all xs), counted x (flat_all xs ++ rest) k n p h, all_counted xs rest l n q g))
  one_in_all _ _ _ _ n most (in_rest x xs rest k p) (in_first _ _ _ l q) h g =
      absurd (omega (arith, most, times-append n (numbers x) (numbers_all xs), all_counted xs rest k n p h, counted x (flat_all xs ++ rest) l n q g))
  one_in_all _ _ _ _ n most (in_rest x xs rest k p) (in_rest _ _ _ l q) h g =
      one_in_all xs rest k l n (omega (arith, most, times-append n (numbers x) (numbers_all xs))) p q h g

  one_in_choices : (xs : List Choice) (rest k l : Todo) (n : ℕ) → times_in n (numbers_in xs) ≤ 1 → WithinChoices xs rest k → WithinChoices xs rest l →
      number_next k ≡ Some n → number_next l ≡ Some n → k ≡ l
  one_in_choices _ _ _ _ n most (first_choice x xs rest k p) (first_choice _ _ _ l q) h g =
      one_spot x.1 rest k l n (omega (arith, most, times-append n (numbers x.1) (numbers_in xs))) p q h g
  one_in_choices _ _ _ _ n most (first_choice x xs rest k p) (other_choice _ _ _ l q) h g =
      absurd (omega (arith, most, times-append n (numbers x.1) (numbers_in xs), counted x.1 rest k n p h, choices_counted xs rest l n q g))
  one_in_choices _ _ _ _ n most (other_choice x xs rest k p) (first_choice _ _ _ l q) h g =
      absurd (omega (arith, most, times-append n (numbers x.1) (numbers_in xs), choices_counted xs rest k n p h, counted x.1 rest l n q g))
  one_in_choices _ _ _ _ n most (other_choice x xs rest k p) (other_choice _ _ _ l q) h g =
      one_in_choices xs rest k l n (omega (arith, most, times-append n (numbers x.1) (numbers_in xs))) p q h g

-- ---- all points of a text

module _ (body : Statement) where
  -- a statement in front of what else is to be done is one of the text
  abbrev Holds : Statement → Todo → Type 0
  Holds s rest = (k : Todo) → Within s rest k → Within body [] k

  -- all that is to be done is of the text
  data Good : Todo → Type 0 where
    good_end : Good []
    good_more : (s : Statement) (rest : Todo) → Holds s rest → Good rest → Good (perform s ∷ rest)
    good_turns : (n : ℕ) (s : Statement) (rest : Todo) → Holds s (turns 0 s ∷ rest) → Good rest → Good (turns n s ∷ rest)

  good_behind : (i : Item) (rest : Todo) → Good (i ∷ rest) → Good rest
  good_behind _ _ (good_more s rest h g) = g
  good_behind _ _ (good_turns n s rest h g) = g

  -- statements of a block
  row : (xs : List Statement) (rest : Todo) → ((k : Todo) → WithinAll xs rest k → Within body [] k) →
      ((i : ℕ) (s : Statement) → slice_get xs i ≡ Some s → (r : Todo) → Holds s r → Good r → Good (flat s ++ r)) → Good rest → Good (flat_all xs ++ rest)
  row [] rest h each g = g
  row (x ∷ xs) rest h each g =
      subst Good (sym (append_assoc (flat x) (flat_all xs) rest))
      (each 0 x refl (flat_all xs ++ rest) (λ k p. h k (in_first x xs rest k p)) (row xs rest (λ k p. h k (in_rest x xs rest k p)) (λ i. each (suc i)) g))

  good_flat : (s : Statement) (r : Todo) → Holds s r → Good r → Good (flat s ++ r)
  good_flat =
      flat_each (λ s todo. (r : Todo) → Holds s r → Good r → Good (todo ++ r)) (λ s r h g. good_more s r h g)
      (λ v each r h g. row v.items r (λ k p. h k (inside (d.Block v) r k (subst (λ x. WithinLayer (d.Block v) x r k) (sym (ap out-Statement (sym (d.rolls-Block v)) ∙ out-roll-Statement (f.Block v))) (in_block (d.Block v) v r k p)))) each g)

  -- what a statement holds, by its outermost layer
  abbrev HoldsLayer : Statement → Statement-F Statement → Todo → Type 0
  HoldsLayer s x rest = (k : Todo) → WithinLayer s x rest k → Within body [] k

  choice_good : (xs : List Choice) (rest : Todo) (next : Next) → ((k : Todo) → WithinChoices xs rest k → Within body [] k) → Good rest →
      Among next (map (λ (i : Choice). on (flat i.1 ++ rest)) xs) → Good (todo_after next)
  choice_good [] rest next h g m = elim m [ ]
  choice_good (x ∷ xs) rest _ h g (Among.first _) = good_flat x.1 rest (λ k p. h k (first_choice x xs rest k p)) g
  choice_good (x ∷ xs) rest next h g (Among.further _ _ m) = choice_good xs rest next (λ k p. h k (other_choice x xs rest k p)) g m

  past_good : (b : Bool) (rest : Todo) (next : Next) → Good rest → Among next (past b rest) → Good (todo_after next)
  past_good true rest next g m = elim m [ ]
  past_good false rest _ g (Among.first _) = g
  past_good false rest next g (Among.further _ _ m) = elim m [ ]

  either : (next : Next) (xs ys : List Next) (P : Next → Type 0) → ((n : Next) → Among n xs → P n) → ((n : Next) → Among n ys → P n) → Among next (xs ++ ys) → P next
  either next [] ys P h k m = k next m
  either _ (x ∷ xs) ys P h k (Among.first _) = h x (Among.first xs)
  either next (x ∷ xs) ys P h k (Among.further _ _ m) = either next xs ys P (λ n i. h n (Among.further x xs i)) k m

  one_good : (a next : Next) → Among next (a ∷ []) → Good (todo_after a) → Good (todo_after next)
  one_good a _ (Among.first _) g = g
  one_good a next (Among.further _ _ m) g = elim m [ ]

  two_good : (a b next : Next) → Among next (a ∷ b ∷ []) → Good (todo_after a) → Good (todo_after b) → Good (todo_after next)
  two_good a b _ (Among.first _) g k = g
  two_good a b next (Among.further _ _ m) g k = one_good b next m k

  layer_good : (s : Statement) (x : Statement-F Statement) (rest : Todo) (next : Next) → Holds s rest → HoldsLayer s x rest → Good rest →
      Among next (statement_nexts s x rest) → Good (todo_after next)
  layer_good s (f.Block xs) rest next w h g m = one_good (on (flat s ++ rest)) next m (good_flat s rest w g)
  layer_good s (f.Delay n ticks x) rest next w h g m =
      one_good (after n ticks.count (flat x.value ++ rest)) next m (good_flat x.value rest (λ k p. h k (in_delay s n ticks x rest k p)) g)
  layer_good s (f.Event n ts x) rest next w h g m =
      one_good (wait n ts.items (flat x.value ++ rest)) next m (good_flat x.value rest (λ k p. h k (in_event s n ts x rest k p)) g)
  layer_good s (f.If n e x z) rest next w h g m =
      two_good (on (flat x.value ++ rest)) (on (flat z.value ++ rest)) next m (good_flat x.value rest (λ k p. h k (in_then s n e x z rest k p)) g)
      (good_flat z.value rest (λ k p. h k (in_else s n e x z rest k p)) g)
  layer_good s (f.Case n kind e xs) rest next w h g m =
      either next (map (λ (i : Choice). on (flat i.1 ++ rest)) xs.items) (past (list_any is_default xs.items) rest) (λ a. Good (todo_after a))
      (λ a i. choice_good xs.items rest a (λ k p. h k (in_case s n kind e xs rest k p)) g i) (λ a i. past_good (list_any is_default xs.items) rest a g i) m
  layer_good s (f.While n e x) rest next w h g m =
      two_good (on (flat x.value ++ perform s ∷ rest)) (on rest) next m
      (good_flat x.value (perform s ∷ rest) (λ k p. h k (in_while s n e x rest k p)) (good_more s rest w g)) g
  layer_good s (f.Repeat n signed e x) rest next w h g m =
      let again : Holds x.value (turns 0 x.value ∷ rest) = λ k p. h k (in_repeat s n signed e x rest k p) in
      two_good (on (flat x.value ++ turns 0 x.value ∷ rest)) (on rest) next m (good_flat x.value (turns 0 x.value ∷ rest) again (good_turns 0 x.value rest again g)) g
  layer_good s (f.Forever n x) rest next w h g m =
      one_good (on (flat x.value ++ perform s ∷ rest)) next m (good_flat x.value (perform s ∷ rest) (λ k p. h k (in_forever s n x rest k p)) (good_more s rest w g))
  layer_good s (f.Null n) rest next w h g m = one_good (on rest) next m g
  layer_good s (f.Assign n t e) rest next w h g m = one_good (on rest) next m g
  layer_good s (f.Later n ticks t e) rest next w h g m = one_good (on rest) next m g
  layer_good s (f.Call n c) rest next w h g m = one_good (on rest) next m g
  layer_good s (f.Finish n) rest next w h g m = one_good (on rest) next m g

  goes_good : (k : Todo) (next : Next) → Good k → Goes k next → Good (todo_after next)
  goes_good _ next good_end m = one_good (on []) next m good_end
  goes_good _ next (good_more s rest h g) m = layer_good s (out-Statement s) rest next h (λ k p. h k (inside s rest k p)) g m
  goes_good _ next (good_turns n s rest h g) m =
      two_good (on (flat s ++ turns 0 s ∷ rest)) (on rest) next m (good_flat s (turns 0 s ∷ rest) h (good_turns 0 s rest h g)) g

  point_good : (first k : Todo) → Good first → Point first k → Good k
  point_good first _ g Point.begins = g
  point_good first _ g (Point.goes_on k l p m) = goes_good k (on l) (point_good first k g p) m
  point_good first _ g (Point.waits k l number ticks p m) = goes_good k (after number ticks l) (point_good first k g p) m
  point_good first _ g (Point.listens k l number terms p m) = goes_good k (wait number terms l) (point_good first k g p) m
  point_good first _ g (Point.skips i rest p) = good_behind i rest (point_good first (i ∷ rest) g p)

  -- the text as a whole
  all_good : Good (flat body)
  all_good = subst Good (append-nil (flat body)) (good_flat body [] (λ k p. p) good_end)

  within : (k : Todo) (n : ℕ) → Good k → number_next k ≡ Some n → Within body [] k
  within _ n good_end h = absurd (none-some n h)
  within _ n (good_more s rest w g) h = w (perform s ∷ rest) (here s rest)
  within _ n (good_turns m s rest w g) h = absurd (none-some n h)

  -- two points of a text with one number are one, where the number is there once at most
  pub one_point : (k l : Todo) (n : ℕ) → times_in n (numbers body) ≤ 1 → Point (flat body) k → Point (flat body) l → number_next k ≡ Some n → number_next l ≡ Some n → k ≡ l
  one_point k l n most p q h g =
      one_spot body [] k l n most (within k n (point_good (flat body) k all_good p) h) (within l n (point_good (flat body) l all_good q) g) h g
