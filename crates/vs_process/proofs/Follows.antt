-- The code of a process does what the process does.
use Rattle.std.proofs.Common.{Global, ◌≡◌, ℕ, zero, suc, ◌+◌, Bool, true, false, Option, Some, None, List, [], ◌∷◌, ◌++◌, length, refl, sym, ◌∙◌, ap, subst, arith}
use Rattle.std.specs.Prelude.{slice_get, Vec, find, if◌then◌else◌, IfOk, OnOk, OnErr, Result, Ok, Err}
use Rattle.std.specs.declared.alloc.AllocError.{AllocError}
use Rattle.std.proofs.lemmas.List.{length-set}
use Rattle.vs_design.specs.vs_logic4.specs.declared.digit.Digit.{Digit}
use Rattle.vs_design.specs.vs_logic4.specs.declared.digit.Digit.TheVariants.{Zero, One, X, Z}
use Rattle.vs_design.specs.vs_logic4.specs.Comparisons.{truth}
use Rattle.vs_design.specs.declared.expression.Typed.{Typed}
use Rattle.vs_design.specs.declared.statement.Statement.{Statement}
use Rattle.vs_design.specs.declared.statement.Statement.TheOpen.{Statement-F}
use Rattle.vs_design.specs.declared.statement.Statement.TheViews.{roll-Statement, out-Statement}
use Rattle.vs_design.specs.Stores.{Store}
use Rattle.vs_strobe.specs.vs_eval.specs.Values.{value_of}
use Rattle.vs_process.specs.declared.draft.Op.{Op}
use Rattle.vs_process.specs.declared.draft.Task.{Task}
use Rattle.vs_process.specs.declared.draft.Task.TheVariants.{Perform, Turns}
use Rattle.vs_process.specs.declared.halt.Halt.{Halt}
use Rattle.vs_process.specs.Changes.{store_after}
use Rattle.vs_process.specs.Extras.{format_in, starts_in}
use Rattle.vs_process.specs.Places.{Todo, flat, perform}
use Rattle.vs_process.specs.Steps.{Out, step, statement_step, branch, first_of, flat_item, repeated, item_matches, is_default, turns_for}
use Rattle.vs_process.specs.Links.{Link, todo_at, item_of}
use Rattle.vs_process.specs.Codes.{Layout, todo_in, IsCode, IsTurn, LeadAll, FitsStatement, FitsTask, IsFormatOf, IsFormatFor, links_of, link_of, layout_of, job_of}
use Rattle.vs_process.specs.Landings.{Landing, landing, next_of, EndsSo, statement_lands, turned, start_where, place_or, layer_lands, lands, todo_after}
use Rattle.vs_process.proofs.Links.{todo_here}
use Rattle.vs_process.proofs.Drafts.{link_here}
use Rattle.vs_process.proofs.Shapes.{layer_of}

-- what is done from one of two places on
branch_leads : (links : List Link) (cs : List ℕ) (d : Digit) (a b : Todo) (p q : ℕ) → todo_at links cs p ≡ a → todo_at links cs q ≡ b → branch d a b ≡ todo_at links cs (branch d p q)
branch_leads links cs One a b p q h k = sym h
branch_leads links cs Zero a b p q h k = sym k
branch_leads links cs X a b p q h k = sym k
branch_leads links cs Z a b p q h k = sym k

branch_front : (d : Digit) (a b rest : Todo) → branch d a b ++ rest ≡ branch d (a ++ rest) (b ++ rest)
branch_front One a b rest = refl
branch_front Zero a b rest = refl
branch_front X a b rest = refl
branch_front Z a b rest = refl

-- a `repeat` with so many turns left
turned_leads : (c : Layout) (x : Op) (s : Statement) (cs : List ℕ) (left : ℕ) → length cs ≡ c.counters → IsTurn c x.counter s x.first x.behind →
    repeated left s (todo_at c.links cs x.behind) ≡ todo_at c.links (turned left x cs).counters (turned left x cs).place
turned_leads c x s cs zero e h = refl
turned_leads c x s cs (suc left) e h = sym (h.leads cs left (omega (arith, h.below, e)))

-- one item more
found_one : (links : List Link) (cs : List ℕ) (behind : ℕ) (b : Bool) (i : Vec Typed Global × Statement) (p : ℕ) (f : Option (Vec Typed Global × Statement)) (g : Option ℕ) (other : Option (Vec Typed Global × Statement)) (start : Option ℕ) →
    flat i.1 ++ todo_at links cs behind ≡ todo_at links cs p → flat_item (first_of f other) ++ todo_at links cs behind ≡ todo_at links cs (place_or behind (first_of g start)) →
    flat_item (first_of (if b then Some i else f) other) ++ todo_at links cs behind ≡ todo_at links cs (place_or behind (first_of (if b then Some p else g) start))
found_one links cs behind true i p f g other start h e = h
found_one links cs behind false i p f g other start h e = e

-- an item that is found starts where it must
found_leads : (links : List Link) (cs : List ℕ) (test : Vec Typed Global × Statement → Bool) (items : List (Vec Typed Global × Statement)) (starts : List ℕ) (behind : ℕ) →
    LeadAll links items starts behind → (other : Option (Vec Typed Global × Statement)) (start : Option ℕ) → flat_item other ++ todo_at links cs behind ≡ todo_at links cs (place_or behind start) →
    flat_item (first_of (find test items) other) ++ todo_at links cs behind ≡ todo_at links cs (place_or behind (first_of (start_where test items starts) start))
found_leads links cs test [] [] behind h other start e = e
found_leads links cs test [] (p ∷ starts) behind h other start e = absurd h
found_leads links cs test (i ∷ items) [] behind h other start e = absurd h
found_leads links cs test (i ∷ items) (p ∷ starts) behind h other start e =
    found_one links cs behind (test i) i p (find test items) (start_where test items starts) other start (sym (h.0 cs)) (found_leads links cs test items starts behind h.1 other start e)

first_none : {A : Type 0} (o : Option A) → first_of o None ≡ o
first_none None = refl
first_none (Some x) = refl

default_leads : (links : List Link) (cs : List ℕ) (items : List (Vec Typed Global × Statement)) (starts : List ℕ) (behind : ℕ) → LeadAll links items starts behind →
    flat_item (find is_default items) ++ todo_at links cs behind ≡ todo_at links cs (place_or behind (start_where is_default items starts))
default_leads links cs items starts behind h =
    ap (λ (o : Option (Vec Typed Global × Statement)). flat_item o ++ todo_at links cs behind) (sym (first_none (find is_default items)))
    ∙ found_leads links cs is_default items starts behind h None None refl
    ∙ ap (λ (o : Option ℕ). todo_at links cs (place_or behind o)) (first_none (start_where is_default items starts))

follows_statement : (c : Layout) (x : Op) (here : ℕ) (cs : List ℕ) (s : Statement) (f : Statement-F Statement) (store : Store) (time : ℕ) → length cs ≡ c.counters → FitsStatement c x here s f →
    todo_at c.links cs here ≡ perform s ∷ todo_at c.links cs x.behind →
    todo_after (statement_step s f (todo_at c.links cs x.behind) store time).next ≡ todo_at c.links (layer_lands x f cs store time).counters (layer_lands x f cs store time).place
follows_statement c x here cs s (Statement-F.Null n) store time e h at = refl
follows_statement c x here cs s (Statement-F.Assign n t v) store time e h at = refl
follows_statement c x here cs s (Statement-F.Later n ticks t v) store time e h at = refl
follows_statement c x here cs s (Statement-F.Call n call) store time e h at = refl
follows_statement c x here cs s (Statement-F.Finish n) store time e h at = refl
follows_statement c x here cs s (Statement-F.Block all) store time e h at = sym (h cs)
follows_statement c x here cs s (Statement-F.Delay n ticks body) store time e h at = sym (h cs)
follows_statement c x here cs s (Statement-F.Event n terms body) store time e h at = sym (h cs)
follows_statement c x here cs s (Statement-F.If n v a b) store time e h at =
    branch_front (truth (value_of v store time)) (flat a.value) (flat b.value) (todo_at c.links cs x.behind)
    ∙ branch_leads c.links cs (truth (value_of v store time)) (flat a.value ++ todo_at c.links cs x.behind) (flat b.value ++ todo_at c.links cs x.behind) x.first x.second (h.0 cs) (h.1 cs)
follows_statement c x here cs s (Statement-F.Case n kind v items) store time e h at =
    found_leads c.links cs (item_matches kind (value_of v store time) store time) items.items (starts_in x) x.behind h (find is_default items.items) (start_where is_default items.items (starts_in x))
    (default_leads c.links cs items.items (starts_in x) x.behind h)
follows_statement c x here cs s (Statement-F.While n v body) store time e h at =
    branch_leads c.links cs (truth (value_of v store time)) (flat body.value ++ perform s ∷ todo_at c.links cs x.behind) (todo_at c.links cs x.behind) x.first x.behind
    (h cs ∙ ap (λ (t : Todo). flat body.value ++ t) at) refl
follows_statement c x here cs s (Statement-F.Repeat n signed v body) store time e h at = turned_leads c x body.value cs (turns_for signed (value_of v store time)) e h
follows_statement c x here cs s (Statement-F.Forever n body) store time e h at = sym (h cs ∙ ap (λ (t : Todo). flat body.value ++ t) at)

follows_task : (c : Layout) (x : Op) (here : ℕ) (cs : List ℕ) (task : Task) (store : Store) (time : ℕ) → length cs ≡ c.counters → FitsTask c x here task →
    todo_at c.links cs here ≡ item_of cs (job_of x.counter task) ∷ todo_at c.links cs x.behind →
    todo_after (step (item_of cs (job_of x.counter task) ∷ todo_at c.links cs x.behind) store time).next ≡ todo_at c.links (lands x task cs store time).counters (lands x task cs store time).place
follows_task c x here cs (Perform s) store time e h at = follows_statement c x here cs s.now (out-Statement s.now) store time e h at
follows_task c x here cs (Turns s) store time e h at = turned_leads c x s.now cs (Rattle.std.proofs.Common.get_or cs x.counter 0) e h

-- an instruction leads to what the process has to do behind its step
pub follows : (ops : List Op) (cs : List ℕ) (i : ℕ) (x : Op) (store : Store) (time : ℕ) → IsCode ops (length cs) → slice_get ops i ≡ Some x →
    (todo_at (links_of ops) cs (suc i) ≡ item_of cs (job_of x.counter x.task) ∷ todo_at (links_of ops) cs x.behind)
    × (todo_after (step (todo_at (links_of ops) cs (suc i)) store time).next ≡ todo_at (links_of ops) (lands x x.task cs store time).counters (lands x x.task cs store time).place)
follows ops cs i x store time h e =
    let at : todo_at (links_of ops) cs (suc i) ≡ item_of cs (job_of x.counter x.task) ∷ todo_at (links_of ops) cs x.behind =
    todo_here (links_of ops) cs i (link_of x) h.linked (link_here ops i x e) in
    (at, ap (λ (t : Todo). todo_after (step t store time).next) at ∙ follows_task (layout_of ops (length cs)) x (suc i) cs x.task store time refl (h.fits i x e) at)

-- a step of the code ends as the step of the process does, and leads where it leads
stepped : (ops : List Op) (cs : List ℕ) (place i : ℕ) (x : Op) (store behind : Store) (time : ℕ) (halt : Halt) (next : ℕ) (counters : List ℕ) → IsCode ops (length cs) → place ≡ suc i → slice_get ops i ≡ Some x →
    landing next counters ≡ lands x x.task cs store time → EndsSo (item_of cs (job_of x.counter x.task)) store time halt behind →
    let out : Out = step (todo_in ops cs place) store time in (out.next ≡ next_of halt (todo_in ops counters next)) × (behind ≡ store_after store out.write)
stepped ops cs place i x store behind time halt next counters code at e l ends =
    let f = follows ops cs i x store time code e in
    let here : todo_in ops cs place ≡ item_of cs (job_of x.counter x.task) ∷ todo_in ops cs x.behind = ap (todo_in ops cs) at ∙ f.0 in
    let so : ((step (todo_in ops cs place) store time).next ≡ next_of halt (todo_after (step (todo_in ops cs place) store time).next)) × (behind ≡ store_after store (step (todo_in ops cs place) store time).write) =
    subst (λ (t : Todo). ((step t store time).next ≡ next_of halt (todo_after (step t store time).next)) × (behind ≡ store_after store (step t store time).write)) (sym here) (ends (todo_in ops cs x.behind))
    in
    let there : todo_after (step (todo_in ops cs place) store time).next ≡ todo_in ops counters next =
    ap (λ (p : ℕ). todo_after (step (todo_in ops cs p) store time).next) at ∙ f.1 ∙ ap (λ (k : Landing). todo_in ops k.counters k.place) (sym l)
    in
    (so.0 ∙ ap (next_of halt) there, so.1)

-- a step leaves the number of counters
turned_length : (left : ℕ) (x : Op) (cs : List ℕ) → length (turned left x cs).counters ≡ length cs
turned_length zero x cs = refl
turned_length (suc left) x cs = length-set cs x.counter left

layer_length : (x : Op) (f : Statement-F Statement) (cs : List ℕ) (store : Store) (time : ℕ) → length (layer_lands x f cs store time).counters ≡ length cs
layer_length x (Statement-F.Null n) cs store time = refl
layer_length x (Statement-F.Assign n t v) cs store time = refl
layer_length x (Statement-F.Later n ticks t v) cs store time = refl
layer_length x (Statement-F.Call n call) cs store time = refl
layer_length x (Statement-F.Finish n) cs store time = refl
layer_length x (Statement-F.Block all) cs store time = refl
layer_length x (Statement-F.Delay n ticks body) cs store time = refl
layer_length x (Statement-F.Event n terms body) cs store time = refl
layer_length x (Statement-F.If n v a b) cs store time = refl
layer_length x (Statement-F.Case n kind v items) cs store time = refl
layer_length x (Statement-F.While n v body) cs store time = refl
layer_length x (Statement-F.Repeat n signed v body) cs store time = turned_length (turns_for signed (value_of v store time)) x cs
layer_length x (Statement-F.Forever n body) cs store time = refl

task_length : (x : Op) (task : Task) (cs : List ℕ) (store : Store) (time : ℕ) → length (lands x task cs store time).counters ≡ length cs
task_length x (Perform s) cs store time = layer_length x (out-Statement s.now) cs store time
task_length x (Turns s) cs store time = turned_length (Rattle.std.proofs.Common.get_or cs x.counter 0) x cs

pub still_code : (ops : List Op) (x : Op) (cs counters : List ℕ) (place : ℕ) (store : Store) (time : ℕ) → IsCode ops (length cs) → landing place counters ≡ lands x x.task cs store time → IsCode ops (length counters)
still_code ops x cs counters place store time h is =
    subst (IsCode ops) (sym (ap (λ (l : Landing). length l.counters) is ∙ task_length x x.task cs store time)) h

-- the same where there may have been no memory for it
pub ok_step : (ops : List Op) (cs counters : List ℕ) (place i : ℕ) (x : Op) (store behind : Store) (time : ℕ) (r : Result (Halt × ℕ) AllocError) →
    IsCode ops (length cs) → place ≡ suc i → slice_get ops i ≡ Some x → IfOk r (λ v. landing v.1 counters ≡ lands x x.task cs store time) →
    IfOk r (λ v. EndsSo (item_of cs (job_of x.counter x.task)) store time v.0 behind) →
    IfOk r (λ v. (step (todo_in ops cs place) store time).next ≡ next_of v.0 (todo_in ops counters v.1)) × OnOk r (behind ≡ store_after store (step (todo_in ops cs place) store time).write)
ok_step ops cs counters place i x store behind time (Ok v) code at e l ends = stepped ops cs place i x store behind time v.0 v.1 counters code at e l ends
ok_step ops cs counters place i x store behind time (Err y) code at e l ends = (tt, tt)

pub code_next : (ops : List Op) (x : Op) (cs counters : List ℕ) (store : Store) (time : ℕ) (r : Result (Halt × ℕ) AllocError) → IsCode ops (length cs) →
    IfOk r (λ v. landing v.1 counters ≡ lands x x.task cs store time) → OnErr r (counters ≡ cs) → IsCode ops (length counters)
code_next ops x cs counters store time (Ok v) code l kept = still_code ops x cs counters v.1 store time code l
code_next ops x cs counters store time (Err y) code l kept = subst (λ (k : List ℕ). IsCode ops (length k)) (sym kept) code

format_of_statement : (c : Layout) (x : Op) (here : ℕ) (s : Statement) (f : Statement-F Statement) → FitsStatement c x here s f → IsFormatOf (format_in x) f
format_of_statement c x here s (Statement-F.Null n) h = tt
format_of_statement c x here s (Statement-F.Assign n t v) h = tt
format_of_statement c x here s (Statement-F.Later n ticks t v) h = tt
format_of_statement c x here s (Statement-F.Call n call) h = h
format_of_statement c x here s (Statement-F.Finish n) h = tt
format_of_statement c x here s (Statement-F.Block all) h = tt
format_of_statement c x here s (Statement-F.Delay n ticks body) h = tt
format_of_statement c x here s (Statement-F.Event n terms body) h = tt
format_of_statement c x here s (Statement-F.If n v a b) h = tt
format_of_statement c x here s (Statement-F.Case n kind v items) h = tt
format_of_statement c x here s (Statement-F.While n v body) h = tt
format_of_statement c x here s (Statement-F.Repeat n signed v body) h = tt
format_of_statement c x here s (Statement-F.Forever n body) h = tt

format_of_task : (c : Layout) (x : Op) (here : ℕ) (task : Task) → FitsTask c x here task → IsFormatFor (format_in x) task
format_of_task c x here (Perform s) h = format_of_statement c x here s.now (out-Statement s.now) h
format_of_task c x here (Turns s) h = tt

-- an instruction of a code has the format of its call
pub has_format : (ops : List Op) (n i : ℕ) (x : Op) → IsCode ops n → slice_get ops i ≡ Some x → IsFormatFor (format_in x) x.task
has_format ops n i x h e = format_of_task (layout_of ops n) x (suc i) x.task (h.fits i x e)

-- the step of a statement ended so, led there, and left the store so
pub record IsPerformed (x : Op) (s : Statement) (cs counters : List ℕ) (store behind : Store) (time : ℕ) (halt : Halt) (place : ℕ) : Type 0 where
  pub lands : landing place counters ≡ statement_lands x s cs store time
  pub ends : EndsSo (perform s) store time halt behind

-- the same by the statement's outermost layer
pub performed : (x : Op) (s t : Statement) (f : Statement-F Statement) (cs counters : List ℕ) (store behind : Store) (time : ℕ) (halt : Halt) (place : ℕ) →
    s ≡ t → roll-Statement f ≡ t → landing place counters ≡ layer_lands x f cs store time →
    ((rest : Todo) → let out : Out = statement_step s f rest store time in (out.next ≡ next_of halt (todo_after out.next)) × (behind ≡ store_after store out.write)) →
    IsPerformed x s cs counters store behind time halt place
performed x s t f cs counters store behind time halt place is built lands ends =
    let layer : f ≡ out-Statement s = sym (layer_of s t f is built) in
    record {
      lands = lands ∙ ap (λ (g : Statement-F Statement). layer_lands x g cs store time) layer;
      ends =
          subst (λ (g : Statement-F Statement). (rest : Todo) → let out : Out = statement_step s g rest store time in (out.next ≡ next_of halt (todo_after out.next)) × (behind ≡ store_after store out.write))
          layer ends;
    }
