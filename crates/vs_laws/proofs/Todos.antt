-- What is to be done, where it says the same, and where its paths go.
use Rattle.std.proofs.Common.{◌≡◌, ℕ, Bool, true, false, ◌||◌, ◌&&◌, if◌then◌else◌, List, [], ◌∷◌, ◌++◌, map, refl, ap, ap₂, sym, subst, ◌∙◌}
use Rattle.std.specs.List.{AllZip, list_any}
use Rattle.std.specs.declared.vec.Vec.{Vec}
use Rattle.std.specs.declared.alloc.Global.{Global}
use Rattle.vs_syntax.specs.Same.{Pairwise, no_pair, pair_more}
use Rattle.vs_design.specs.declared.expression.Typed.{Typed}
use Rattle.vs_design.specs.declared.statement.EventTerm.{EventTerm}
use Rattle.vs_design.specs.declared.statement.Statement.{Statement}
use Rattle.vs_design.specs.declared.statement.Statement.TheOpen.{Statement-F}
use Rattle.vs_design.specs.declared.statement.Statement.TheOpen as f
use Rattle.vs_design.specs.declared.statement.Statement.TheVariants as d
use Rattle.vs_design.specs.declared.statement.Statement.TheViews.{out-Statement, roll-Statement, roll-out-Statement}
use Rattle.vs_process.specs.Drafts.{flat_all, is_block}
use Rattle.vs_process.specs.Nexts.{past, case_nexts, statement_nexts, nexts}
use Rattle.vs_process.specs.Places.{Item, perform, turns, Todo, flat}
use Rattle.vs_process.specs.Steps.{Next, on, after, wait, has_nothing, is_default, turns_for}
use Rattle.vs_process.proofs.Shapes.{flat-Block, flat-single}
use Rattle.vs_elaborate.specs.Same.{SameTyped}
use Rattle.vs_elaborate.proofs.PairLemmas.{pair_append}
use Rattle.vs_design.specs.Uses.{reads}
use Rattle.vs_process.specs.vs_eval.specs.Values.{value_of}
use Rattle.vs_rules.specs.Points.{Among, Goes, first_alone, has_turn, nexts_by, surely_turns, todo_turns}
use Rattle.vs_laws.proofs.Alike.{Choice, Alike, alike, AlikeLayer, of_null, of_assign, of_later, of_call, of_finish, of_block, of_delay, of_event, of_if, of_case, of_while, of_repeat, of_forever, AlikeAll, all_end, all_more, AlikeChoices, choices_end, choices_more}
use Rattle.vs_laws.proofs.Turned.{turned}

pub data AlikeItem : Item → Item → Type 0 where
  performs : (s s' : Statement) → Alike s s' → AlikeItem (perform s) (perform s')
  turning : (n : ℕ) (s s' : Statement) → Alike s s' → AlikeItem (turns n s) (turns n s')

abbrev pub AlikeTodo : Todo → Todo → Type 0
AlikeTodo = Pairwise AlikeItem

pub data AlikeNext : Next → Next → Type 0 where
  both_on : (l l' : Todo) → AlikeTodo l l' → AlikeNext (on l) (on l')
  both_after : (number ticks : ℕ) (l l' : Todo) → AlikeTodo l l' → AlikeNext (after number ticks l) (after number ticks l')
  both_wait : (number : ℕ) (terms : List EventTerm) (l l' : Todo) → AlikeTodo l l' → AlikeNext (wait number terms l) (wait number terms l')

-- ---- the other way round

pub item_turned : (i i' : Item) → AlikeItem i i' → AlikeItem i' i
item_turned _ _ (performs s s' m) = performs s' s (turned s s' m)
item_turned _ _ (turning n s s' m) = turning n s' s (turned s s' m)

pub todo_turned : (k k' : Todo) → AlikeTodo k k' → AlikeTodo k' k
todo_turned _ _ no_pair = no_pair
todo_turned _ _ (pair_more i i' k k' h r) = pair_more i' i k' k (item_turned i i' h) (todo_turned k k' r)

-- ---- statements, as what is to be done

flat_block : (s : Statement) (xs : Vec Statement Global) → out-Statement s ≡ f.Block xs → flat s ≡ flat_all xs.items
flat_block s xs h = ap flat (sym (roll-out-Statement s) ∙ ap roll-Statement h ∙ d.rolls-Block xs) ∙ flat-Block xs

-- statements that are no blocks
alone : (s s' : Statement) → is_block (out-Statement s) ≡ false → is_block (out-Statement s') ≡ false → Alike s s' → AlikeTodo (flat s) (flat s')
alone s s' h k m =
    subst (λ t. AlikeTodo t (flat s')) (sym (flat-single s h))
    (subst (AlikeTodo (perform s ∷ [])) (sym (flat-single s' k)) (pair_more (perform s) (perform s') [] [] (performs s s' m) no_pair))

mutual
  pub flat_alike : (s s' : Statement) → Alike s s' → AlikeTodo (flat s) (flat s')
  flat_alike _ _ (alike s s' l) = flat_by s s' (out-Statement s) (out-Statement s') refl refl (alike s s' l) l

  flat_by : (s s' : Statement) (x x' : Statement-F Statement) → out-Statement s ≡ x → out-Statement s' ≡ x' → Alike s s' → AlikeLayer x x' → AlikeTodo (flat s) (flat s')
  flat_by s s' _ _ h k m (of_block xs xs' r) =
      subst (λ t. AlikeTodo t (flat s')) (sym (flat_block s xs h)) (subst (AlikeTodo (flat_all xs.items)) (sym (flat_block s' xs' k)) (all_flat xs.items xs'.items r))
  flat_by s s' _ _ h k m _ = alone s s' (ap is_block h) (ap is_block k) m

  all_flat : (xs xs' : List Statement) → AlikeAll xs xs' → AlikeTodo (flat_all xs) (flat_all xs')
  all_flat _ _ all_end = no_pair
  all_flat _ _ (all_more x x' xs xs' m r) = pair_append AlikeItem (flat x) (flat x') (flat_all xs) (flat_all xs') (flat_alike x x' m) (all_flat xs xs' r)

-- a statement in front of what else is to be done
pub in_front : (s s' : Statement) (rest rest' : Todo) → Alike s s' → AlikeTodo rest rest' → AlikeTodo (flat s ++ rest) (flat s' ++ rest')
in_front s s' rest rest' m r = pair_append AlikeItem (flat s) (flat s') rest rest' (flat_alike s s' m) r

-- ---- where paths go

one : (next next' : Next) → AlikeNext next next' → Pairwise AlikeNext (next ∷ []) (next' ∷ [])
one next next' h = pair_more next next' [] [] h no_pair

two : (a a' b b' : Next) → AlikeNext a a' → AlikeNext b b' → Pairwise AlikeNext (a ∷ b ∷ []) (a' ∷ b' ∷ [])
two a a' b b' h k = pair_more a a' (b ∷ []) (b' ∷ []) h (one b b' k)

as_few : (xs xs' : List Typed) → AllZip SameTyped xs xs' → has_nothing xs ≡ has_nothing xs'
as_few [] [] h = refl
as_few [] (x' ∷ xs') h = absurd h
as_few (x ∷ xs) [] h = absurd h
as_few (x ∷ xs) (x' ∷ xs') h = refl

pub defaults : (xs xs' : List Choice) → AlikeChoices xs xs' → list_any is_default xs ≡ list_any is_default xs'
defaults _ _ choices_end = refl
defaults _ _ (choices_more x x' xs xs' h m r) = ap₂ (λ a b. a || b) (as_few x.0.items x'.0.items h) (defaults xs xs' r)

past_alike : (b : Bool) (rest rest' : Todo) → AlikeTodo rest rest' → Pairwise AlikeNext (past b rest) (past b rest')
past_alike true rest rest' r = no_pair
past_alike false rest rest' r = one (on rest) (on rest') (both_on rest rest' r)

choices_go : (xs xs' : List Choice) (rest rest' : Todo) → AlikeChoices xs xs' → AlikeTodo rest rest' →
    Pairwise AlikeNext (map (λ (i : Choice). on (flat i.1 ++ rest)) xs) (map (λ (i : Choice). on (flat i.1 ++ rest')) xs')
choices_go _ _ rest rest' choices_end r = no_pair
choices_go _ _ rest rest' (choices_more x x' xs xs' h m more) r =
    pair_more _ _ _ _ (both_on (flat x.1 ++ rest) (flat x'.1 ++ rest') (in_front x.1 x'.1 rest rest' m r)) (choices_go xs xs' rest rest' more r)

case_go : (xs xs' : List Choice) (rest rest' : Todo) → AlikeChoices xs xs' → AlikeTodo rest rest' → Pairwise AlikeNext (case_nexts xs rest) (case_nexts xs' rest')
case_go xs xs' rest rest' h r =
    pair_append AlikeNext _ _ _ _ (choices_go xs xs' rest rest' h r)
    (subst (λ b. Pairwise AlikeNext (past (list_any is_default xs) rest) (past b rest')) (defaults xs xs' h) (past_alike (list_any is_default xs) rest rest' r))

-- a statement that is done again
again : (s s' b b' : Statement) (rest rest' : Todo) → Alike s s' → Alike b b' → AlikeTodo rest rest' → AlikeNext (on (flat b ++ perform s ∷ rest)) (on (flat b' ++ perform s' ∷ rest'))
again s s' b b' rest rest' m n r = both_on _ _ (in_front b b' (perform s ∷ rest) (perform s' ∷ rest') n (pair_more (perform s) (perform s') rest rest' (performs s s' m) r))

turn_again : (n : ℕ) (b b' : Statement) (rest rest' : Todo) → Alike b b' → AlikeTodo rest rest' → AlikeTodo (flat b ++ turns n b ∷ rest) (flat b' ++ turns n b' ∷ rest')
turn_again n b b' rest rest' m r = in_front b b' (turns n b ∷ rest) (turns n b' ∷ rest') m (pair_more (turns n b) (turns n b') rest rest' (turning n b b' m) r)

statement_goes : (s s' : Statement) (x x' : Statement-F Statement) → Alike s s' → AlikeLayer x x' → (rest rest' : Todo) → AlikeTodo rest rest' →
    Pairwise AlikeNext (statement_nexts s x rest) (statement_nexts s' x' rest')
statement_goes s s' _ _ m (of_null n) rest rest' r = one (on rest) (on rest') (both_on rest rest' r)
statement_goes s s' _ _ m (of_assign n t t' x x' h) rest rest' r = one (on rest) (on rest') (both_on rest rest' r)
statement_goes s s' _ _ m (of_later n i i' t t' x x' c h) rest rest' r = one (on rest) (on rest') (both_on rest rest' r)
statement_goes s s' _ _ m (of_call n c c' h) rest rest' r = one (on rest) (on rest') (both_on rest rest' r)
statement_goes s s' _ _ m (of_finish n) rest rest' r = one (on rest) (on rest') (both_on rest rest' r)
statement_goes s s' _ _ m (of_block xs xs' h) rest rest' r = one _ _ (both_on (flat s ++ rest) (flat s' ++ rest') (in_front s s' rest rest' m r))
statement_goes s s' _ _ m (of_delay n i i' x x' c h) rest rest' r =
    subst (λ z. Pairwise AlikeNext (after n i.count (flat x.value ++ rest) ∷ []) (after n z (flat x'.value ++ rest') ∷ [])) c
    (one _ _ (both_after n i.count (flat x.value ++ rest) (flat x'.value ++ rest') (in_front x.value x'.value rest rest' h r)))
statement_goes s s' _ _ m (of_event n ts ts' x x' c h) rest rest' r =
    subst (λ z. Pairwise AlikeNext (wait n ts.items (flat x.value ++ rest) ∷ []) (wait n z (flat x'.value ++ rest') ∷ [])) c
    (one _ _ (both_wait n ts.items (flat x.value ++ rest) (flat x'.value ++ rest') (in_front x.value x'.value rest rest' h r)))
statement_goes s s' _ _ m (of_if n e e' x x' z z' i h k) rest rest' r =
    two _ _ _ _ (both_on _ _ (in_front x.value x'.value rest rest' h r)) (both_on _ _ (in_front z.value z'.value rest rest' k r))
statement_goes s s' _ _ m (of_case n kind e e' xs xs' i h) rest rest' r = case_go xs.items xs'.items rest rest' h r
statement_goes s s' _ _ m (of_while n e e' x x' i h) rest rest' r =
    two _ _ _ _ (again s s' x.value x'.value rest rest' m h r) (both_on rest rest' r)
statement_goes s s' _ _ m (of_repeat n signed e e' x x' i h) rest rest' r =
    two _ _ _ _ (both_on _ _ (turn_again 0 x.value x'.value rest rest' h r)) (both_on rest rest' r)
statement_goes s s' _ _ m (of_forever n x x' h) rest rest' r = one _ _ (again s s' x.value x'.value rest rest' m h r)

item_goes : (i i' : Item) (rest rest' : Todo) → AlikeItem i i' → AlikeTodo rest rest' → Pairwise AlikeNext (nexts (i ∷ rest)) (nexts (i' ∷ rest'))
item_goes _ _ rest rest' (performs _ _ (alike s s' l)) r = statement_goes s s' (out-Statement s) (out-Statement s') (alike s s' l) l rest rest' r
item_goes _ _ rest rest' (turning n s s' m) r = two _ _ _ _ (both_on _ _ (turn_again 0 s s' rest rest' m r)) (both_on rest rest' r)

nexts_alike : (k k' : Todo) → AlikeTodo k k' → Pairwise AlikeNext (nexts k) (nexts k')
nexts_alike _ _ no_pair = one (on []) (on []) (both_on [] [] no_pair)
nexts_alike _ _ (pair_more i i' rest rest' h r) = item_goes i i' rest rest' h r

-- a path goes somewhere from there too, as this one does
pub record GoesAs (k' : Todo) (next : Next) : Type 0 where
  pub to : Next
  pub goes : Goes k' to
  pub same : AlikeNext next to

among_as : (next : Next) (xs xs' : List Next) → Pairwise AlikeNext xs xs' → Among next xs → (to : Next) × Among to xs' × AlikeNext next to
among_as next _ _ no_pair h = elim h [ ]
among_as next _ _ (pair_more x x' xs xs' h r) (Among.first _) = (x', Among.first xs', h)
among_as next _ _ (pair_more x x' xs xs' h r) (Among.further _ _ k) =
    let m = among_as next xs xs' r k in
    (m.0, Among.further x' xs' m.1, m.2)

-- ---- turns that are sure

sure_layer : (x x' : Statement-F Statement) → AlikeLayer x x' → surely_turns x ≡ surely_turns x'
sure_layer _ _ (of_repeat n signed e e' x x' i h) =
    ap₂ (λ rs ds. has_nothing rs && has_turn (turns_for signed ds)) i.ranges (i.value [] 0)
sure_layer _ _ _ = refl

sure_statement : (s s' : Statement) → Alike s s' → surely_turns (out-Statement s) ≡ surely_turns (out-Statement s')
sure_statement _ _ (alike s s' l) = sure_layer (out-Statement s) (out-Statement s') l

sure_same : (k k' : Todo) → AlikeTodo k k' → todo_turns k ≡ todo_turns k'
sure_same _ _ no_pair = refl
sure_same _ _ (pair_more _ _ rest rest' (performs s s' m) r) = sure_statement s s' m
sure_same _ _ (pair_more _ _ rest rest' (turning n s s' m) r) = refl

first_alike : (xs xs' : List Next) → Pairwise AlikeNext xs xs' → Pairwise AlikeNext (first_alone xs) (first_alone xs')
first_alike _ _ no_pair = no_pair
first_alike _ _ (pair_more x x' xs xs' h r) = one x x' h

pub nexts_by_alike : (wide : Bool) (k k' : Todo) → AlikeTodo k k' → Pairwise AlikeNext (nexts_by wide k) (nexts_by wide k')
nexts_by_alike false k k' h = nexts_alike k k' h
nexts_by_alike true k k' h =
    let same = sure_same k k' h in
    subst (λ b. Pairwise AlikeNext (if todo_turns k then first_alone (nexts k) else nexts k) (if b then first_alone (nexts k') else nexts k')) same
    (by_turns (todo_turns k))
  where
    by_turns : (b : Bool) → Pairwise AlikeNext (if b then first_alone (nexts k) else nexts k) (if b then first_alone (nexts k') else nexts k')
    by_turns true = first_alike (nexts k) (nexts k') (nexts_alike k k' h)
    by_turns false = nexts_alike k k' h

-- a path goes somewhere from there too, by the ways of one version
pub record LeadsAs (wide : Bool) (k' : Todo) (next : Next) : Type 0 where
  pub to : Next
  pub leads : Among to (nexts_by wide k')
  pub same : AlikeNext next to

pub leads_as : (wide : Bool) (k k' : Todo) (next : Next) → AlikeTodo k k' → Among next (nexts_by wide k) → LeadsAs wide k' next
leads_as wide k k' next h g =
    let m = among_as next (nexts_by wide k) (nexts_by wide k') (nexts_by_alike wide k k' h) g in
    record { to = m.0; leads = m.1; same = m.2 }

pub goes_as : (k k' : Todo) (next : Next) → AlikeTodo k k' → Goes k next → GoesAs k' next
goes_as k k' next h g = let m = leads_as false k k' next h g in record { to = m.to; goes = m.leads; same = m.same }
