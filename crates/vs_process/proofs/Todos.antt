-- What is to be done for a statement, and what is behind a step, has the ranges of what was to be done.
use Rattle.std.proofs.Common.{◌≡◌, ℕ, zero, suc, Bool, false, Option, Some, None, List, [], ◌∷◌, ◌++◌, map, refl, sym, ◌∙◌, ap, ap₂, subst, append_assoc}
use Rattle.std.specs.Prelude.{find}
use Rattle.std.specs.declared.vec.Vec.{Vec}
use Rattle.std.specs.declared.alloc.Global.{Global}
use Rattle.std.proofs.lemmas.Bool.{cond_both}
use Rattle.std.proofs.lemmas.List.{append-nil}
use Rattle.vs_design.specs.vs_logic4.specs.Comparisons.{truth}
use Rattle.vs_design.specs.declared.expression.Typed.{Typed}
use Rattle.vs_design.specs.declared.range.BitRange.{BitRange}
use Rattle.vs_design.specs.declared.statement.Statement.{Statement}
use Rattle.vs_design.specs.declared.statement.Statement.TheVariants.{rolls-Block}
use Rattle.vs_design.specs.declared.statement.Statement.TheViews.{out-Statement, roll-Statement}
use Rattle.vs_design.specs.declared.statement.Statement.TheOpen.{Statement-F}
use Rattle.vs_design.specs.declared.statement.Statement.TheFolds.{fold-roll-Statement, fold_out-Statement, ind-Statement, map-Statement}
use Rattle.vs_design.specs.Stores.{Store}
use Rattle.vs_design.specs.Uses.{joined}
use Rattle.vs_process.specs.vs_eval.specs.Values.{value_of}
use Rattle.vs_process.specs.Drafts.{flat_all, is_block}
use Rattle.vs_process.specs.Landings.{todo_after}
use Rattle.vs_process.specs.Places.{perform, turns, Todo, flat}
use Rattle.vs_process.specs.Steps.{step, statement_step, first_of, flat_item, is_default, item_matches, repeated, turns_for}
use Rattle.vs_process.proofs.Shapes.{flat-Block, flat-rolled}
use Rattle.vs_process.proofs.WellFormed.{branch_each}
use Rattle.vs_process.specs.Writes.{item_writes, statement_writes, statement_writes_step, todo_writes}
use Rattle.vs_process.proofs.Among.{Among, both_among, left_of, right_of, same_among}

-- ---- a statement, blocks opened

todo_writes-append : (a b : Todo) → todo_writes (a ++ b) ≡ todo_writes a ++ todo_writes b
todo_writes-append [] b = refl
todo_writes-append (i ∷ a) b = ap (λ rs. item_writes i ++ rs) (todo_writes-append a b) ∙ sym (append_assoc (item_writes i) (todo_writes a) (todo_writes b))

abbrev AreThere : Statement → Type 0
AreThere s = todo_writes (flat s) ≡ statement_writes s

abbrev Known : Type 0
Known = (s : Statement) × AreThere s

abbrev bare : Known → Statement
bare p = p.0

of_leaf : (x : Statement-F Statement) → is_block x ≡ false → AreThere (roll-Statement x)
of_leaf x h = ap todo_writes (flat-rolled x h) ∙ append-nil (statement_writes (roll-Statement x))

of_row : (ps : List Known) → todo_writes (flat_all (map bare ps)) ≡ joined (map statement_writes (map bare ps))
of_row [] = refl
of_row (p ∷ ps) = todo_writes-append (flat p.0) (flat_all (map bare ps)) ∙ ap₂ (λ a b. a ++ b) p.1 (of_row ps)

of_block : (v : Vec Statement Global) → todo_writes (flat_all v.items) ≡ joined (map statement_writes v.items) → AreThere (roll-Statement (Statement-F.Block v))
of_block v h =
    ap todo_writes (ap flat (rolls-Block v) ∙ flat-Block v) ∙ h ∙ sym (fold-roll-Statement (List BitRange) statement_writes_step (Statement-F.Block v))

layer : (y : Statement-F Known) → AreThere (roll-Statement (map-Statement Known Statement bare y))
layer (Statement-F.Block all) = of_block _ (of_row all.items)
layer y = of_leaf (map-Statement Known Statement bare y) refl

-- what is to be done for a statement has its ranges, in their order
pub all_there : (s : Statement) → todo_writes (flat s) ≡ statement_writes s
all_there s = ind-Statement AreThere (λ x y is. subst (λ z. AreThere (roll-Statement z)) is (layer y)) s

-- a statement in front of what else is to be done
flat_among : (all : List BitRange) (s : Statement) (rest : Todo) → Among (statement_writes s) all → Among (todo_writes rest) all → Among (todo_writes (flat s ++ rest)) all
flat_among all s rest h r =
    same_among (todo_writes (flat s ++ rest)) (statement_writes s ++ todo_writes rest) all
    (todo_writes-append (flat s) rest ∙ ap (λ rs. rs ++ todo_writes rest) (all_there s)) (both_among (statement_writes s) (todo_writes rest) all h r)

-- the test of a `repeat`
repeated_among : (all : List BitRange) (n : ℕ) (s : Statement) (rest : Todo) → Among (statement_writes s) all → Among (todo_writes rest) all → Among (todo_writes (repeated n s rest)) all
repeated_among all zero s rest h r = r
repeated_among all (suc n) s rest h r = flat_among all s (turns n s ∷ rest) h (both_among (statement_writes s) (todo_writes rest) all h r)

-- the statement of an item in front of what else is to be done
abbrev ItemAmong : List BitRange → Todo → Option (Vec Typed Global × Statement) → Type 0
ItemAmong all rest o = Among (todo_writes (flat_item o ++ rest)) all

-- the ranges of the statements of `case` items
abbrev items_writes : List (Vec Typed Global × Statement) → List BitRange
items_writes items = joined (map (λ (i : Vec Typed Global × List BitRange). i.1) (map (λ (i : Vec Typed Global × Statement). (i.0, statement_writes i.1)) items))

found_among : (all : List BitRange) (rest : Todo) (p : Vec Typed Global × Statement → Bool) (items : List (Vec Typed Global × Statement)) →
    Among (items_writes items) all → Among (todo_writes rest) all → ItemAmong all rest (find p items)
found_among all rest p [] h r = r
found_among all rest p (i ∷ items) h r =
    cond_both (p i) (Some i) (find p items) (ItemAmong all rest)
    (λ e. flat_among all i.1 rest (λ q c. h q (left_of (statement_writes i.1) (items_writes items) q c)) r)
    (λ e. found_among all rest p items (λ q c. h q (right_of (statement_writes i.1) (items_writes items) q c)) r)

first_among : (all : List BitRange) (rest : Todo) (a b : Option (Vec Typed Global × Statement)) → ItemAmong all rest a → ItemAmong all rest b → ItemAmong all rest (first_of a b)
first_among all rest None b x y = y
first_among all rest (Some i) b x y = x

-- ---- a step

-- one layer of a statement: the ranges that it can write
abbrev pub layer_writes : Statement-F Statement → List BitRange
layer_writes f = statement_writes_step (map-Statement Statement (List BitRange) statement_writes f)

pub writes_out : (s : Statement) → statement_writes s ≡ layer_writes (out-Statement s)
writes_out s = fold_out-Statement (List BitRange) statement_writes_step s

statement_among : (all : List BitRange) (s : Statement) (f : Statement-F Statement) (rest : Todo) (store : Store) (time : ℕ) →
    Among (statement_writes s) all → Among (layer_writes f) all → Among (todo_writes rest) all → Among (todo_writes (todo_after (statement_step s f rest store time).next)) all
statement_among all s (Statement-F.Null n) rest store time own h r = r
statement_among all s (Statement-F.Assign n t e) rest store time own h r = r
statement_among all s (Statement-F.Later n ticks t e) rest store time own h r = r
statement_among all s (Statement-F.Call n c) rest store time own h r = r
statement_among all s (Statement-F.Finish n) rest store time own h r = r
statement_among all s (Statement-F.Block v) rest store time own h r = flat_among all s rest own r
statement_among all s (Statement-F.Delay n ticks body) rest store time own h r = flat_among all body.value rest h r
statement_among all s (Statement-F.Event n terms body) rest store time own h r = flat_among all body.value rest h r
statement_among all s (Statement-F.If n e a b) rest store time own h r =
    branch_each (λ (t : Todo). Among (todo_writes (t ++ rest)) all) (truth (value_of e store time)) (flat a.value) (flat b.value)
    (flat_among all a.value rest (λ q c. h q (left_of (statement_writes a.value) (statement_writes b.value) q c)) r)
    (flat_among all b.value rest (λ q c. h q (right_of (statement_writes a.value) (statement_writes b.value) q c)) r)
statement_among all s (Statement-F.Case n kind x items) rest store time own h r =
    first_among all rest (find (item_matches kind (value_of x store time) store time) items.items) (find is_default items.items)
    (found_among all rest (item_matches kind (value_of x store time) store time) items.items h r) (found_among all rest is_default items.items h r)
statement_among all s (Statement-F.While n e body) rest store time own h r =
    branch_each (λ (t : Todo). Among (todo_writes t) all) (truth (value_of e store time)) (flat body.value ++ perform s ∷ rest) rest
    (flat_among all body.value (perform s ∷ rest) h (both_among (statement_writes s) (todo_writes rest) all own r)) r
statement_among all s (Statement-F.Repeat n signed e body) rest store time own h r =
    repeated_among all (turns_for signed (value_of e store time)) body.value rest h r
statement_among all s (Statement-F.Forever n body) rest store time own h r =
    flat_among all body.value (perform s ∷ rest) h (both_among (statement_writes s) (todo_writes rest) all own r)

-- the ranges of what is to be done behind a step are among those of what was to be done before it
pub step_among : (todo : Todo) (store : Store) (time : ℕ) → Among (todo_writes (todo_after (step todo store time).next)) (todo_writes todo)
step_among [] store time = λ r h. h
step_among (perform s ∷ rest) store time =
    let all = statement_writes s ++ todo_writes rest in
    let own = left_of (statement_writes s) (todo_writes rest) in
    statement_among all s (out-Statement s) rest store time own
    (same_among (layer_writes (out-Statement s)) (statement_writes s) all (sym (writes_out s)) own) (right_of (statement_writes s) (todo_writes rest))
step_among (turns n s ∷ rest) store time =
    repeated_among (statement_writes s ++ todo_writes rest) n s rest (left_of (statement_writes s) (todo_writes rest)) (right_of (statement_writes s) (todo_writes rest))
