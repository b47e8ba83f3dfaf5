-- What the statements of a text have, its points have, and the other way round.
use Rattle.std.proofs.Common.{◌≡◌, ℕ, zero, suc, ◌++◌, Bool, true, false, Option, Some, None, List, [], ◌∷◌, map, get_or, slice_get, refl, sym, ◌∙◌, ap, ap₂, subst, inl, inr, append_assoc}
use Rattle.std.proofs.lemmas.List.{append-nil}
use Rattle.std.proofs.lemmas.Option.{none-some, same_Some}
use Rattle.std.specs.List.{Contains, list_any}
use Rattle.std.specs.declared.vec.Vec.{Vec}
use Rattle.std.specs.declared.alloc.Global.{Global}
use Rattle.std.proofs.lemmas.List.Elements.{Contains-append_left, Contains-append_right, Contains-append_cases}
use Rattle.vs_design.specs.declared.expression.Typed.{Typed}
use Rattle.vs_design.specs.declared.statement.Statement.{Statement}
use Rattle.vs_design.specs.declared.statement.Statement.TheVariants.{rolls-Block}
use Rattle.vs_design.specs.declared.statement.Statement.TheOpen.{Statement-F}
use Rattle.vs_design.specs.declared.statement.Statement.TheFolds.{fold-Statement, fold-roll-Statement, fold_out-Statement, ind-Statement, map-Statement}
use Rattle.vs_design.specs.declared.statement.Statement.TheViews.{out-Statement, roll-Statement, out-roll-Statement}
use Rattle.vs_design.specs.Uses.{joined}
use Rattle.vs_process.specs.Drafts.{flat_all, is_block}
use Rattle.vs_process.specs.Landings.{todo_after}
use Rattle.vs_process.specs.Nexts.{past, statement_nexts, nexts}
use Rattle.vs_process.specs.Places.{Item, perform, turns, Todo, flat, ended, active_at, start_place, todo_of}
use Rattle.vs_process.specs.Steps.{Next, on, after, wait, is_default}
use Rattle.vs_process.proofs.Shapes.{flat-Block, flat-rolled}
use Rattle.vs_rules.specs.Points.{Goes, Point, first_todo}
use Rattle.vs_rules.specs.Points as r
use Rattle.vs_rules.proofs.Points.{among_left}
use Rattle.vs_design.specs.declared.design.Process.{Process}
use Rattle.vs_design.specs.declared.range.BitRange.{BitRange}
use Rattle.vs_design.specs.Parts.{Parts}
use Rattle.vs_design.specs.Statements.{all_reads}
use Rattle.vs_design.specs.Uses.{reads, writes}
use Rattle.vs_process.specs.declared.gait.Gait.TheVariants.{Fresh}
use Rattle.vs_process.specs.Writes.{statement_writes_step}
use Rattle.vs_process.specs.Threads.{own_reads, item_reads, todo_reads}
use Rattle.vs_rules.specs.Paths.{inner_step, text_reads, text_reads_step, statement_now, statement_later, todo_now, todo_later, reads_for, reads_of, writes_of, IsPoint, WritesNow, WritesLater, Writes}
use Rattle.vs_process.specs.BlockDrivers.{outputs_for as writes_for}
use Rattle.vs_design.specs.vs_logic4.proofs.Basics.{none_in}

-- all elements of a list are in another one
abbrev pub Sub : {A : Type 0} → List A → List A → Type 0
Sub {A} xs ys = (a : A) → Contains xs a → Contains ys a

pub sub_left : {A : Type 0} (xs ys : List A) → Sub xs (xs ++ ys)
sub_left xs ys a h = Contains-append_left xs ys a h

pub sub_right : {A : Type 0} (xs ys : List A) → Sub ys (xs ++ ys)
sub_right xs ys a h = Contains-append_right xs ys a h

pub sub_both : {A : Type 0} (xs ys all : List A) → Sub xs all → Sub ys all → Sub (xs ++ ys) all
sub_both xs ys all hx hy a h =
    elim (Contains-append_cases xs ys a h) [
      | inl x ↦ hx a x
      | inr y ↦ hy a y
    ]

pub sub_same : {A : Type 0} (xs ys all : List A) → xs ≡ ys → Sub ys all → Sub xs all
sub_same xs ys all e h a c = h a (subst (λ l. Contains l a) e c)

abbrev pub all_of : {A : Type 0} → (Statement-F (List A) → List A) → Statement → List A
all_of {A} layer s = fold-Statement (List A) layer s

-- one layer of a statement, with what each inner statement has
abbrev pub layer_of : {A : Type 0} → (Statement-F (List A) → List A) → Statement-F Statement → Statement-F (List A)
layer_of {A} layer f = map-Statement Statement (List A) (all_of layer) f

-- what the inner statements have
abbrev pub inside : {A : Type 0} → (Statement-F (List A) → List A) → Statement-F Statement → List A
inside layer f = inner_step (layer_of layer f)

-- a layer collects what it has of its own, and what the inner statements have
pub record Collects (A : Type 0) (layer : Statement-F (List A) → List A) : Type 0 where
  pub block : (v : Vec (List A) Global) → layer (Statement-F.Block v) ≡ joined v.items
  pub inner : (f : Statement-F Statement) → Sub (inside layer f) (layer (layer_of layer f))

abbrev pub item_all : {A : Type 0} → (Statement-F (List A) → List A) → Item → List A
item_all layer (perform s) = all_of layer s
item_all layer (turns n s) = all_of layer s

abbrev pub todo_all : {A : Type 0} → (Statement-F (List A) → List A) → Todo → List A
todo_all layer todo = joined (map (item_all layer) todo)

todo_all-append : {A : Type 0} (layer : Statement-F (List A) → List A) (a b : Todo) → todo_all layer (a ++ b) ≡ todo_all layer a ++ todo_all layer b
todo_all-append layer [] b = refl
todo_all-append layer (i ∷ a) b = ap (λ rs. item_all layer i ++ rs) (todo_all-append layer a b) ∙ sym (append_assoc (item_all layer i) (todo_all layer a) (todo_all layer b))

-- ---- what is to be done for a statement

abbrev AreThere : {A : Type 0} → (Statement-F (List A) → List A) → Statement → Type 0
AreThere layer s = todo_all layer (flat s) ≡ all_of layer s

abbrev Known : {A : Type 0} → (Statement-F (List A) → List A) → Type 0
Known layer = (s : Statement) × AreThere layer s

abbrev bare : {A : Type 0} (layer : Statement-F (List A) → List A) → Known layer → Statement
bare layer p = p.0

of_leaf : {A : Type 0} (layer : Statement-F (List A) → List A) (x : Statement-F Statement) → is_block x ≡ false → AreThere layer (roll-Statement x)
of_leaf layer x h = ap (todo_all layer) (flat-rolled x h) ∙ append-nil (all_of layer (roll-Statement x))

of_row : {A : Type 0} (layer : Statement-F (List A) → List A) (ps : List (Known layer)) → todo_all layer (flat_all (map (bare layer) ps)) ≡ joined (map (all_of layer) (map (bare layer) ps))
of_row layer [] = refl
of_row layer (p ∷ ps) = todo_all-append layer (flat p.0) (flat_all (map (bare layer) ps)) ∙ ap₂ (λ a b. a ++ b) p.1 (of_row layer ps)

of_block : {A : Type 0} (layer : Statement-F (List A) → List A) → Collects A layer → (v : Vec Statement Global) → todo_all layer (flat_all v.items) ≡ joined (map (all_of layer) v.items) →
    AreThere layer (roll-Statement (Statement-F.Block v))
of_block {A} layer col v h =
    ap (todo_all layer) (ap flat (rolls-Block v) ∙ flat-Block v) ∙ h
    ∙ sym (fold-roll-Statement (List A) layer (Statement-F.Block v) ∙ col.block _)

layers : {A : Type 0} (layer : Statement-F (List A) → List A) → Collects A layer → (y : Statement-F (Known layer)) → AreThere layer (roll-Statement (map-Statement (Known layer) Statement (bare layer) y))
layers layer col (Statement-F.Block all) = of_block layer col _ (of_row layer all.items)
layers layer col y = of_leaf layer (map-Statement (Known layer) Statement (bare layer) y) refl

pub all_there : {A : Type 0} (layer : Statement-F (List A) → List A) → Collects A layer → (s : Statement) → todo_all layer (flat s) ≡ all_of layer s
all_there layer col s = ind-Statement (AreThere layer) (λ x y is. subst (λ z. AreThere layer (roll-Statement z)) is (layers layer col y)) s

flat_sub : {A : Type 0} (layer : Statement-F (List A) → List A) → Collects A layer → (all : List A) (s : Statement) (rest : Todo) → Sub (all_of layer s) all → Sub (todo_all layer rest) all →
    Sub (todo_all layer (flat s ++ rest)) all
flat_sub layer col all s rest h r =
    sub_same (todo_all layer (flat s ++ rest)) (all_of layer s ++ todo_all layer rest) all
    (todo_all-append layer (flat s) rest ∙ ap (λ rs. rs ++ todo_all layer rest) (all_there layer col s)) (sub_both (all_of layer s) (todo_all layer rest) all h r)

-- ---- a way on

abbrev pub AllBy : (Next → Type 0) → List Next → Type 0
AllBy P [] = Unit {0}
AllBy P (x ∷ xs) = P x × AllBy P xs

pub one_of : (P : Next → Type 0) (n : Next) (xs : List Next) → AllBy P xs → r.Among n xs → P n
one_of P n _ all (r.Among.first xs) = all.0
one_of P n _ all (r.Among.further y xs h) = one_of P n xs all.1 h

pub all_append : (P : Next → Type 0) (xs ys : List Next) → AllBy P xs → AllBy P ys → AllBy P (xs ++ ys)
all_append P [] ys hx hy = hy
all_append P (x ∷ xs) ys hx hy = (hx.0, all_append P xs ys hx.1 hy)

cases_all : {A : Type 0} (layer : Statement-F (List A) → List A) → Collects A layer → (all : List A) (items : List (Vec Typed Global × Statement)) (rest : Todo) →
    Sub (joined (map (λ (i : Vec Typed Global × List A). i.1) (map (λ (i : Vec Typed Global × Statement). (i.0, all_of layer i.1)) items))) all → Sub (todo_all layer rest) all →
    AllBy (λ n. Sub (todo_all layer (todo_after n)) all) (map (λ (i : Vec Typed Global × Statement). on (flat i.1 ++ rest)) items)
cases_all layer col all [] rest h r = tt
cases_all {A} layer col all (i ∷ items) rest h r =
    let more = joined (map (λ (i : Vec Typed Global × List A). i.1) (map (λ (i : Vec Typed Global × Statement). (i.0, all_of layer i.1)) items)) in
    (flat_sub layer col all i.1 rest (λ a c. h a (sub_left (all_of layer i.1) more a c)) r, cases_all layer col all items rest (λ a c. h a (sub_right (all_of layer i.1) more a c)) r)

past_all : {A : Type 0} (layer : Statement-F (List A) → List A) (all : List A) (b : Bool) (rest : Todo) → Sub (todo_all layer rest) all → AllBy (λ n. Sub (todo_all layer (todo_after n)) all) (past b rest)
past_all layer all true rest r = tt
past_all layer all false rest r = (r, tt)

statement_all : {A : Type 0} (layer : Statement-F (List A) → List A) → Collects A layer → (all : List A) (s : Statement) (f : Statement-F Statement) (rest : Todo) →
    Sub (all_of layer s) all → Sub (inside layer f) all → Sub (todo_all layer rest) all → AllBy (λ n. Sub (todo_all layer (todo_after n)) all) (statement_nexts s f rest)
statement_all layer col all s (Statement-F.Null n) rest own h r = (r, tt)
statement_all layer col all s (Statement-F.Assign n t e) rest own h r = (r, tt)
statement_all layer col all s (Statement-F.Later n ticks t e) rest own h r = (r, tt)
statement_all layer col all s (Statement-F.Call n c) rest own h r = (r, tt)
statement_all layer col all s (Statement-F.Finish n) rest own h r = (r, tt)
statement_all layer col all s (Statement-F.Block v) rest own h r = (flat_sub layer col all s rest own r, tt)
statement_all layer col all s (Statement-F.Delay n ticks body) rest own h r = (flat_sub layer col all body.value rest h r, tt)
statement_all layer col all s (Statement-F.Event n terms body) rest own h r = (flat_sub layer col all body.value rest h r, tt)
statement_all layer col all s (Statement-F.If n e a b) rest own h r = (
  flat_sub layer col all a.value rest (λ x c. h x (sub_left (all_of layer a.value) (all_of layer b.value) x c)) r,
  (flat_sub layer col all b.value rest (λ x c. h x (sub_right (all_of layer a.value) (all_of layer b.value) x c)) r, tt),
)
statement_all layer col all s (Statement-F.Case n kind x items) rest own h r =
    all_append (λ n. Sub (todo_all layer (todo_after n)) all) (map (λ (i : Vec Typed Global × Statement). on (flat i.1 ++ rest)) items.items) (past (list_any is_default items.items) rest)
    (cases_all layer col all items.items rest h r) (past_all layer all (list_any is_default items.items) rest r)
statement_all layer col all s (Statement-F.While n e body) rest own h r =
    (flat_sub layer col all body.value (perform s ∷ rest) h (sub_both (all_of layer s) (todo_all layer rest) all own r), (r, tt))
statement_all layer col all s (Statement-F.Repeat n signed e body) rest own h r =
    (flat_sub layer col all body.value (turns 0 body.value ∷ rest) h (sub_both (all_of layer body.value) (todo_all layer rest) all h r), (r, tt))
statement_all layer col all s (Statement-F.Forever n body) rest own h r =
    (flat_sub layer col all body.value (perform s ∷ rest) h (sub_both (all_of layer s) (todo_all layer rest) all own r), tt)

-- a statement has what its outermost layer has
pub layer_is : {A : Type 0} (layer : Statement-F (List A) → List A) (s : Statement) → all_of layer s ≡ layer (layer_of layer (out-Statement s))
layer_is {A} layer s = fold_out-Statement (List A) layer s

-- nothing is added on a way
pub next_sub : {A : Type 0} (layer : Statement-F (List A) → List A) → Collects A layer → (k : Todo) (n : Next) → Goes k n → Sub (todo_all layer (todo_after n)) (todo_all layer k)
next_sub layer col [] n g = one_of (λ n. Sub (todo_all layer (todo_after n)) (todo_all layer [])) n (nexts []) ((λ a c. c), tt) g
next_sub {A} layer col (perform s ∷ rest) n g =
    let all = all_of layer s ++ todo_all layer rest in
    one_of (λ n. Sub (todo_all layer (todo_after n)) all) n (statement_nexts s (out-Statement s) rest)
    (statement_all layer col all s (out-Statement s) rest (sub_left (all_of layer s) (todo_all layer rest))
    (λ a c. sub_left (all_of layer s) (todo_all layer rest) a (subst (λ l. Contains l a) (sym (layer_is layer s)) (col.inner (out-Statement s) a c)))
    (sub_right (all_of layer s) (todo_all layer rest))) g
next_sub layer col (turns m s ∷ rest) n g =
    let all = all_of layer s ++ todo_all layer rest in
    one_of (λ n. Sub (todo_all layer (todo_after n)) all) n (nexts (turns m s ∷ rest))
    (flat_sub layer col all s (turns 0 s ∷ rest) (sub_left (all_of layer s) (todo_all layer rest)) (λ a c. c), (sub_right (all_of layer s) (todo_all layer rest), tt)) g

-- a point has what the text has
pub point_sub : {A : Type 0} (layer : Statement-F (List A) → List A) → Collects A layer → (first k : Todo) → Point first k → Sub (todo_all layer k) (todo_all layer first)
point_sub layer col first _ (Point.begins) = λ a c. c
point_sub layer col first l (Point.goes_on k l' p g) = λ a c. point_sub layer col first k p a (next_sub layer col k (on l) g a c)
point_sub layer col first l (Point.waits k l' number ticks p g) = λ a c. point_sub layer col first k p a (next_sub layer col k (after number ticks l) g a c)
point_sub layer col first l (Point.listens k l' number terms p g) = λ a c. point_sub layer col first k p a (next_sub layer col k (wait number terms l) g a c)
point_sub layer col first l (Point.skips i rest p) = λ a c. point_sub layer col first (i ∷ l) p a (sub_right (item_all layer i) (todo_all layer l) a c)

-- ---- what statements have of their own

-- one layer of a statement has what is its own, and what the inner statements have
abbrev pub Splits : {A : Type 0} → (Statement-F (List A) → List A) → (Statement-F Statement → List A) → Type 0
Splits layer own = (f : Statement-F Statement) → layer (layer_of layer f) ≡ own f ++ inside layer f

inner_of : {A : Type 0} (layer : Statement-F (List A) → List A) (own : Statement-F Statement → List A) → Splits layer own → (f : Statement-F Statement) → Sub (inside layer f) (layer (layer_of layer f))
inner_of layer own splits f a c = subst (λ l. Contains l a) (sym (splits f)) (sub_right (own f) (inside layer f) a c)

-- what the statement that is done next has of its own
abbrev pub own_todo : {A : Type 0} → (Statement-F Statement → List A) → Todo → List A
own_todo own (perform s ∷ rest) = own (out-Statement s)
own_todo own _ = []

own_sub : {A : Type 0} (layer : Statement-F (List A) → List A) (own : Statement-F Statement → List A) → Splits layer own → (k : Todo) → Sub (own_todo own k) (todo_all layer k)
own_sub layer own splits [] = λ a c. absurd (none_in a c)
own_sub layer own splits (perform s ∷ rest) = λ a c.
    sub_left (all_of layer s) (todo_all layer rest) a
    (subst (λ l. Contains l a) (sym (layer_is layer s ∙ splits (out-Statement s))) (sub_left (own (out-Statement s)) (inside layer (out-Statement s)) a c))
own_sub layer own splits (turns n s ∷ rest) = λ a c. absurd (none_in a c)

-- what is the own of the statement at a point, the text has
pub own_text : {A : Type 0} (layer : Statement-F (List A) → List A) (own : Statement-F Statement → List A) → Collects A layer → Splits layer own → (first k : Todo) → Point first k →
    Sub (own_todo own k) (todo_all layer first)
own_text layer own col splits first k p a c = point_sub layer col first k p a (own_sub layer own splits k a c)

-- ---- what a text has is the own of the statement at a point

abbrev pub HasPoint : {A : Type 0} → (Statement-F Statement → List A) → Todo → A → Type 0
HasPoint own first a = (k : Todo) × Point first k × Contains (own_todo own k) a

-- where a statement is done, what it has is found
abbrev IsFound : {A : Type 0} → (Statement-F (List A) → List A) → (Statement-F Statement → List A) → Statement → Type 0
IsFound {A} layer own s = (first rest : Todo) → Point first (flat s ++ rest) → (a : A) → Contains (all_of layer s) a → HasPoint own first a

abbrev Found : {A : Type 0} → (Statement-F (List A) → List A) → (Statement-F Statement → List A) → Type 0
Found layer own = (s : Statement) × IsFound layer own s

abbrev held : {A : Type 0} (layer : Statement-F (List A) → List A) (own : Statement-F Statement → List A) → Found layer own → Statement
held layer own p = p.0

abbrev layer_held : {A : Type 0} (layer : Statement-F (List A) → List A) (own : Statement-F Statement → List A) → Statement-F (Found layer own) → Statement-F Statement
layer_held layer own y = map-Statement (Found layer own) Statement (held layer own) y

skipped : (first l xs : Todo) → Point first (xs ++ l) → Point first l
skipped first l [] p = p
skipped first l (x ∷ xs) p = skipped first l xs (Point.skips x (xs ++ l) p)

found_row : {A : Type 0} (layer : Statement-F (List A) → List A) (own : Statement-F Statement → List A) (ps : List (Found layer own)) (first rest : Todo) →
    Point first (flat_all (map (held layer own) ps) ++ rest) → (a : A) → Contains (joined (map (all_of layer) (map (held layer own) ps))) a → HasPoint own first a
found_row layer own [] first rest p a c = absurd (none_in a c)
found_row layer own (q ∷ qs) first rest p a c =
    let more = flat_all (map (held layer own) qs) ++ rest in
    let at : Point first (flat q.0 ++ more) = subst (Point first) (append_assoc (flat q.0) (flat_all (map (held layer own) qs)) rest) p in
    elim (Contains-append_cases (all_of layer q.0) (joined (map (all_of layer) (map (held layer own) qs))) a c) [
      | inl x ↦ q.1 first more at a x
      | inr y ↦ found_row layer own qs first rest (skipped first more (flat q.0) at) a y
    ]

found_block : {A : Type 0} (layer : Statement-F (List A) → List A) (own : Statement-F Statement → List A) → Collects A layer → (v : Vec Statement Global) →
    ((first rest : Todo) → Point first (flat_all v.items ++ rest) → (a : A) → Contains (joined (map (all_of layer) v.items)) a → HasPoint own first a) →
    IsFound layer own (roll-Statement (Statement-F.Block v))
found_block {A} layer own col v h first rest p a c =
    h first rest (subst (λ (t : Todo). Point first (t ++ rest)) (ap flat (rolls-Block v) ∙ flat-Block v) p) a
    (subst (λ l. Contains l a) (fold-roll-Statement (List A) layer (Statement-F.Block v) ∙ col.block _) c)

-- the item of a `case` that has it
abbrev items_held : {A : Type 0} (layer : Statement-F (List A) → List A) (own : Statement-F Statement → List A) → List (Vec Typed Global × Found layer own) → List (Vec Typed Global × Statement)
items_held layer own items = map (λ (i : Vec Typed Global × Found layer own). (i.0, held layer own i.1)) items

abbrev items_all : {A : Type 0} → (Statement-F (List A) → List A) → List (Vec Typed Global × Statement) → List A
items_all {A} layer items = joined (map (λ (i : Vec Typed Global × List A). i.1) (map (λ (i : Vec Typed Global × Statement). (i.0, all_of layer i.1)) items))

found_item : {A : Type 0} (layer : Statement-F (List A) → List A) (own : Statement-F Statement → List A) (items : List (Vec Typed Global × Found layer own)) (rest : Todo) (a : A) →
    Contains (items_all layer (items_held layer own items)) a →
    (q : Found layer own) × r.Among (on (flat q.0 ++ rest)) (map (λ (i : Vec Typed Global × Statement). on (flat i.1 ++ rest)) (items_held layer own items)) × Contains (all_of layer q.0) a
found_item layer own [] rest a c = absurd (none_in a c)
found_item layer own (i ∷ items) rest a c = elim (Contains-append_cases (all_of layer i.1.0) (items_all layer (items_held layer own items)) a c) [
  | inl x ↦ (i.1, r.Among.first _, x)
  | inr y ↦ let z = found_item layer own items rest a y in (z.0, r.Among.further _ _ z.1, z.2)
]

goes_by : (s : Statement) (f : Statement-F Statement) (rest : Todo) → out-Statement s ≡ f → (n : Next) → r.Among n (statement_nexts s f rest) → Goes (perform s ∷ rest) n
goes_by s f rest e n h = subst (λ x. r.Among n (statement_nexts s x rest)) (sym e) h

-- what the inner statements have
found_inner : {A : Type 0} (layer : Statement-F (List A) → List A) (own : Statement-F Statement → List A) (y : Statement-F (Found layer own)) → is_block (layer_held layer own y) ≡ false → (s : Statement) →
    out-Statement s ≡ layer_held layer own y → (first rest : Todo) → Point first (perform s ∷ rest) → (a : A) → Contains (inside layer (layer_held layer own y)) a → HasPoint own first a
found_inner layer own (Statement-F.Null n) plain s e first rest p a c = absurd (none_in a c)
found_inner layer own (Statement-F.Assign n t x) plain s e first rest p a c = absurd (none_in a c)
found_inner layer own (Statement-F.Later n ticks t x) plain s e first rest p a c = absurd (none_in a c)
found_inner layer own (Statement-F.Call n x) plain s e first rest p a c = absurd (none_in a c)
found_inner layer own (Statement-F.Finish n) plain s e first rest p a c = absurd (none_in a c)
found_inner layer own (Statement-F.Block all) plain s e first rest p a c = absurd (cc)
found_inner layer own (Statement-F.Delay n ticks body) plain s e first rest p a c =
    body.value.1 first rest (Point.waits (perform s ∷ rest) (flat body.value.0 ++ rest) n ticks.count p (goes_by s _ rest e _ (r.Among.first []))) a c
found_inner layer own (Statement-F.Event n terms body) plain s e first rest p a c =
    body.value.1 first rest (Point.listens (perform s ∷ rest) (flat body.value.0 ++ rest) n terms.items p (goes_by s _ rest e _ (r.Among.first []))) a c
found_inner layer own (Statement-F.If n x y z) plain s e first rest p a c = elim (Contains-append_cases (all_of layer y.value.0) (all_of layer z.value.0) a c) [
  | inl h ↦ y.value.1 first rest (Point.goes_on (perform s ∷ rest) (flat y.value.0 ++ rest) p (goes_by s _ rest e _ (r.Among.first _))) a h
  | inr h ↦ z.value.1 first rest (Point.goes_on (perform s ∷ rest) (flat z.value.0 ++ rest) p (goes_by s _ rest e _ (r.Among.further _ _ (r.Among.first [])))) a h
]
found_inner layer own (Statement-F.Case n kind x items) plain s e first rest p a c =
    let q = found_item layer own items.items rest a c in
    q.0.1 first rest (Point.goes_on (perform s ∷ rest) (flat q.0.0 ++ rest) p (goes_by s _ rest e _ (among_left _ _ _ q.1))) a q.2
found_inner layer own (Statement-F.While n x body) plain s e first rest p a c =
    body.value.1 first (perform s ∷ rest) (Point.goes_on (perform s ∷ rest) (flat body.value.0 ++ perform s ∷ rest) p (goes_by s _ rest e _ (r.Among.first _))) a c
found_inner layer own (Statement-F.Repeat n signed x body) plain s e first rest p a c =
    body.value.1 first (turns 0 body.value.0 ∷ rest) (Point.goes_on (perform s ∷ rest) (flat body.value.0 ++ turns 0 body.value.0 ∷ rest) p (goes_by s _ rest e _ (r.Among.first _))) a c
found_inner layer own (Statement-F.Forever n body) plain s e first rest p a c =
    body.value.1 first (perform s ∷ rest) (Point.goes_on (perform s ∷ rest) (flat body.value.0 ++ perform s ∷ rest) p (goes_by s _ rest e _ (r.Among.first []))) a c

found_leaf : {A : Type 0} (layer : Statement-F (List A) → List A) (own : Statement-F Statement → List A) → Splits layer own → (y : Statement-F (Found layer own)) →
    is_block (layer_held layer own y) ≡ false → IsFound layer own (roll-Statement (layer_held layer own y))
found_leaf {A} layer own splits y plain first rest p a c =
    let f = layer_held layer own y in
    let s = roll-Statement f in
    let at : Point first (perform s ∷ rest) = subst (λ (t : Todo). Point first (t ++ rest)) (flat-rolled f plain) p in
    elim (Contains-append_cases (own f) (inside layer f) a (subst (λ l. Contains l a) (fold-roll-Statement (List A) layer f ∙ splits f) c)) [
      | inl h ↦ (perform s ∷ rest, at, subst (λ x. Contains (own x) a) (sym (out-roll-Statement f)) h)
      | inr h ↦ found_inner layer own y plain s (out-roll-Statement f) first rest at a h
    ]

found_layer : {A : Type 0} (layer : Statement-F (List A) → List A) (own : Statement-F Statement → List A) → Collects A layer → Splits layer own → (y : Statement-F (Found layer own)) →
    IsFound layer own (roll-Statement (layer_held layer own y))
found_layer layer own col splits (Statement-F.Block all) = found_block layer own col _ (found_row layer own all.items)
found_layer layer own col splits y = found_leaf layer own splits y refl

pub has_point : {A : Type 0} (layer : Statement-F (List A) → List A) (own : Statement-F Statement → List A) → Collects A layer → Splits layer own → (s : Statement) (first rest : Todo) →
    Point first (flat s ++ rest) → (a : A) → Contains (all_of layer s) a → HasPoint own first a
has_point layer own col splits s = ind-Statement (IsFound layer own) (λ x y is. subst (λ z. IsFound layer own (roll-Statement z)) is (found_layer layer own col splits y)) s

-- ---- what texts write and read

-- what a statement writes, by `=` and by `<=`
abbrev pub own_writes : Statement-F Statement → List BitRange
own_writes f = statement_now f ++ statement_later f

pub writes_split : Splits statement_writes_step own_writes
writes_split (Statement-F.Null n) = refl
writes_split (Statement-F.Assign n t e) = sym (append-nil (writes t ++ []) ∙ append-nil (writes t))
writes_split (Statement-F.Later n ticks t e) = sym (append-nil (writes t))
writes_split (Statement-F.Call n x) = refl
writes_split (Statement-F.Finish n) = refl
writes_split (Statement-F.Block all) = refl
writes_split (Statement-F.Delay n ticks body) = refl
writes_split (Statement-F.Event n terms body) = refl
writes_split (Statement-F.If n e x y) = refl
writes_split (Statement-F.Case n kind x items) = refl
writes_split (Statement-F.While n e body) = refl
writes_split (Statement-F.Repeat n signed e body) = refl
writes_split (Statement-F.Forever n body) = refl

labels : (items : List (Vec Typed Global × Statement)) →
    joined (map (λ (i : Vec Typed Global × List BitRange). all_reads i.0.items) (map (λ (i : Vec Typed Global × Statement). (i.0, text_reads i.1)) items)) ≡ joined (map item_reads items)
labels [] = refl
labels (i ∷ items) = ap (λ rs. all_reads i.0.items ++ rs) (labels items)

pub reads_split : Splits text_reads_step own_reads
reads_split (Statement-F.Null n) = refl
reads_split (Statement-F.Assign n t e) = refl
reads_split (Statement-F.Later n ticks t e) = refl
reads_split (Statement-F.Call n x) = refl
reads_split (Statement-F.Finish n) = refl
reads_split (Statement-F.Block all) = refl
reads_split (Statement-F.Delay n ticks body) = refl
reads_split (Statement-F.Event n terms body) = refl
reads_split (Statement-F.If n e x y) = refl
reads_split (Statement-F.Case n kind x items) = ap (λ rs. (reads x ++ rs) ++ inside text_reads_step (Statement-F.Case n kind x items)) (labels items.items)
reads_split (Statement-F.While n e body) = refl
reads_split (Statement-F.Repeat n signed e body) = refl
reads_split (Statement-F.Forever n body) = refl

pub writes_collects : Collects BitRange statement_writes_step
writes_collects = record { block = λ v. refl; inner = inner_of statement_writes_step own_writes writes_split }

pub reads_collects : Collects BitRange text_reads_step
reads_collects = record { block = λ v. refl; inner = inner_of text_reads_step own_reads reads_split }

-- ---- of a process

active_todo : (k : Todo) → todo_of (active_at Fresh k) ≡ k
active_todo [] = refl
active_todo (x ∷ k) = refl

first_is : (ps : List Process) (i : ℕ) (p : Process) → slice_get ps i ≡ Some p → todo_of (get_or (map (λ (p : Process). start_place p.body) ps) i ended) ≡ flat p.body
first_is [] i p is = absurd (none-some p is)
first_is (q ∷ ps) zero p is = active_todo (flat q.body) ∙ ap (λ (x : Process). flat x.body) (same_Some q p is)
first_is (q ∷ ps) (suc i) p is = first_is ps i p is

-- what a process does first is its text
pub begins_with : (d : Parts) (i : ℕ) (p : Process) → slice_get d.processes i ≡ Some p → first_todo d i ≡ flat p.body
begins_with d i p is = first_is d.processes i p is

abbrev text_of : (Statement-F (List BitRange) → List BitRange) → Option Process → List BitRange
text_of layer None = []
text_of layer (Some p) = all_of layer p.body

-- what is to be done first has what the text has
first_all : (layer : Statement-F (List BitRange) → List BitRange) → Collects BitRange layer → (d : Parts) (i : ℕ) → Sub (todo_all layer (first_todo d i)) (text_of layer (slice_get d.processes i))
first_all layer col d i = by_places d.processes i
  where
    by_places : (ps : List Process) (i : ℕ) → Sub (todo_all layer (todo_of (get_or (map (λ (p : Process). start_place p.body) ps) i ended))) (text_of layer (slice_get ps i))
    by_places [] i = λ a c. absurd (none_in a c)
    by_places (p ∷ ps) zero = λ a c. subst (λ l. Contains l a) (ap (todo_all layer) (active_todo (flat p.body)) ∙ all_there layer col p.body) c
    by_places (p ∷ ps) (suc i) = by_places ps i

writes_are : (o : Option Process) → text_of statement_writes_step o ≡ writes_for o
writes_are None = refl
writes_are (Some p) = refl

reads_are : (o : Option Process) → text_of text_reads_step o ≡ reads_for o
reads_are None = refl
reads_are (Some p) = refl

-- what the statement at a point writes, the text writes
writes_text : (d : Parts) (i : ℕ) (k : Todo) → IsPoint d i k → Sub (own_todo own_writes k) (writes_of d i)
writes_text d i k p a c =
    subst (λ l. Contains l a) (writes_are (slice_get d.processes i))
    (first_all statement_writes_step writes_collects d i a (own_text statement_writes_step own_writes writes_collects writes_split (first_todo d i) k p a c))

now_own : (k : Todo) → Sub (todo_now k) (own_todo own_writes k)
now_own [] = λ a c. c
now_own (perform s ∷ rest) = sub_left (statement_now (out-Statement s)) (statement_later (out-Statement s))
now_own (turns n s ∷ rest) = λ a c. c

later_own : (k : Todo) → Sub (todo_later k) (own_todo own_writes k)
later_own [] = λ a c. c
later_own (perform s ∷ rest) = sub_right (statement_now (out-Statement s)) (statement_later (out-Statement s))
later_own (turns n s ∷ rest) = λ a c. c

reads_own : (k : Todo) → Sub (todo_reads k) (own_todo own_reads k)
reads_own [] = λ a c. c
reads_own (perform s ∷ rest) = λ a c. c
reads_own (turns n s ∷ rest) = λ a c. c

pub now_text : (d : Parts) (i : ℕ) (k : Todo) → IsPoint d i k → Sub (todo_now k) (writes_of d i)
now_text d i k p a c = writes_text d i k p a (now_own k a c)

-- what is read at a point, the text reads
pub reads_text : (d : Parts) (i : ℕ) (k : Todo) → IsPoint d i k → Sub (todo_reads k) (reads_of d i)
reads_text d i k p a c =
    subst (λ l. Contains l a) (reads_are (slice_get d.processes i))
    (first_all text_reads_step reads_collects d i a (own_text text_reads_step own_reads reads_collects reads_split (first_todo d i) k p a (reads_own k a c)))

pub writes_now : (d : Parts) (i : ℕ) (k : Todo) (v : ℕ) → IsPoint d i k → WritesNow d k v → Writes d i v
writes_now d i k v p w = record { range = w.range; listed = (now_text d i k p w.range w.listed.0, w.listed.1); of = w.of }

pub writes_later : (d : Parts) (i : ℕ) (k : Todo) (v : ℕ) → IsPoint d i k → WritesLater d k v → Writes d i v
writes_later d i k v p w = record { range = w.range; listed = (writes_text d i k p w.range (later_own k w.range w.listed.0), w.listed.1); of = w.of }

-- what writes a signal is a process
pub writer_there : (d : Parts) (i v : ℕ) → Writes d i v → (p : Process) × (slice_get d.processes i ≡ Some p)
writer_there d i v w = there (slice_get d.processes i) refl w.range w.listed.0
  where
    there : (o : Option Process) → slice_get d.processes i ≡ o → (q : BitRange) → Contains (writes_for o) q → (p : Process) × (slice_get d.processes i ≡ Some p)
    there None e q h = absurd (none_in q h)
    there (Some p) e q h = (p, e)
