-- Lemmas on scripts: what an instruction does is the step of a process that stands there.
use Rattle.std.proofs.Common.{◌≡◌, ℕ, zero, suc, ◌≤◌, Bool, false, Some, List, [], ◌∷◌, length, get_or, refl, sym, ◌∙◌, ap, ap₂, subst, arith}
use Rattle.std.specs.Prelude.{slice_get, Vec}
use Rattle.std.specs.declared.alloc.Global.{Global}
use Rattle.std.proofs.lemmas.List.{length-map}
use Rattle.std.proofs.lemmas.Option.{none-some, same_Some, slice_get_past}
use Rattle.vs_design.specs.vs_logic4.specs.declared.case.CaseKind.{CaseKind}
use Rattle.vs_design.specs.vs_logic4.specs.declared.digit.Digit.{Digit}
use Rattle.vs_design.specs.vs_logic4.specs.declared.digit.Digit.TheVariants.{Zero, One, X, Z}
use Rattle.vs_design.specs.vs_logic4.specs.Comparisons.{truth}
use Rattle.vs_design.specs.vs_logic4.specs.Vectors.{resized}
use Rattle.vs_design.specs.declared.expression.Typed.{Typed}
use Rattle.vs_design.specs.declared.signal.Signal.{Signal}
use Rattle.vs_design.specs.declared.statement.Call.{Call}
use Rattle.vs_design.specs.declared.statement.CallKind.{CallKind}
use Rattle.vs_design.specs.declared.statement.EventTerm.{EventTerm}
use Rattle.vs_design.specs.declared.statement.Statement.{Statement}
use Rattle.vs_design.specs.declared.statement.Statement.TheOpen.{Statement-F}
use Rattle.vs_design.specs.declared.statement.Statement.TheViews.{out-Statement}
use Rattle.vs_design.specs.declared.statement.Target.{Target}
use Rattle.vs_design.specs.declared.statement.Ticks.{Ticks}
use Rattle.vs_design.specs.Stores.{Store}
use Rattle.vs_design.specs.Writes.{Write}
use Rattle.vs_strobe.specs.vs_eval.specs.Values.{value_of}
use Rattle.vs_strobe.specs.Lines.{Format, format_of_call, full_line}
use Rattle.vs_process.specs.declared.choice.Case.{Case}
use Rattle.vs_process.specs.declared.switch.Switch.{Switch}
use Rattle.std.proofs.lemmas.List.Elements.{All-cons, All-nil}
use Rattle.vs_process.specs.declared.draft.Op.{Op}
use Rattle.vs_process.specs.declared.draft.Task.{Task}
use Rattle.vs_process.specs.declared.draft.Task.TheVariants.{Perform, Turns}
use Rattle.vs_process.specs.declared.script.Action.{Action}
use Rattle.vs_process.specs.declared.script.Action.TheVariants as a
use Rattle.vs_process.specs.declared.script.Instruction.{Instruction}
use Rattle.vs_process.specs.Choices.{index_of, case_index, repeat_lands, turns_lands}
use Rattle.vs_process.specs.ChosenPlaces.{chosen_value, chosen_write}
use Rattle.vs_process.proofs.ChosenLemmas.{chosen_assigned}
use Rattle.vs_process.specs.Codes.{IsCode, IsFormatOf, IsFormatFor, links_of, link_of, job_of}
use Rattle.vs_process.specs.Extras.{format_in, starts_in}
use Rattle.vs_process.specs.Instructions.{IsActionOf, IsAssign, IsBranch, IsCall, IsCase, IsDelay, IsInstructionOf, IsOfTask, IsRepeat, IsTurns, IsUpdate, IsWait, next_place, IsCaseIn}
use Rattle.vs_process.specs.Landings.{Landing, landing, layer_lands, lands, start_taken, todo_after, turned}
use Rattle.vs_process.specs.Links.{Link, item_of, todo_at, todo_within}
use Rattle.vs_process.specs.Links.{todo_from}
use Rattle.vs_eval.specs.Meant.{Meaning}
use Rattle.vs_process.specs.Places.{Todo}
use Rattle.vs_process.specs.Scripts.{Does, IsStep, Steps, index_in, todo_landed, todo_on, spot_value, AreSwitchesOf, led_by}
use Rattle.vs_process.specs.Spots.{spot_write}
use Rattle.vs_process.specs.Steps.{Next, Out, on, after, wait, goes, assignment, branch, called, has_nothing, step, statement_step, turns_for}
use Rattle.vs_process.specs.Texts.{Text}
use Rattle.vs_process.proofs.Follows.{follows, has_format}

-- ---- places and indices

-- after the last place nothing is to be done
pub past_end : (links : List Link) (cs : List ℕ) (i : ℕ) → length links ≤ i → todo_at links cs (suc i) ≡ []
past_end links cs i h = ap (todo_from cs (λ p. todo_within i links cs p)) (slice_get_past links i h)

-- at the index of a place the same is to be done as at the place
pub same_place : (links : List Link) (cs : List ℕ) (count p : ℕ) → length links ≤ count → todo_at links cs (suc (index_of count p)) ≡ todo_at links cs p
same_place links cs count zero h = past_end links cs count h
same_place links cs count (suc i) h = refl

branch_index : (d : Digit) (count p q : ℕ) → index_of count (branch d p q) ≡ branch d (index_of count p) (index_of count q)
branch_index One count p q = refl
branch_index Zero count p q = refl
branch_index X count p q = refl
branch_index Z count p q = refl

-- ---- what comes of a step, by what is to be done after it

abbrev led : Next → Todo → Next
led (on r) t = on t
led (after n k r) t = after n k t
led (wait n ts r) t = wait n ts t

abbrev led_out : Out → Todo → Out
led_out o t = record o { next = led o.next t }

led_same : (n : Next) → led n (todo_after n) ≡ n
led_same (on r) = refl
led_same (after n k r) = refl
led_same (wait n ts r) = refl

led_out_same : (o : Out) → led_out o (todo_after o.next) ≡ o
led_out_same o = ap (λ (n : Next). record o { next = n }) (led_same o.next)

step_as : (todo : Todo) (store : Store) (time : ℕ) (o p : Out) → IsStep todo store time o → o ≡ p → IsStep todo store time p
step_as todo store time o p is same = record { some = is.some; out = is.out ∙ same }

-- the step of an instruction of a code leads to the index where the instruction lands
step_there : (ops : List Op) (cs : List ℕ) (i : ℕ) (x : Op) (store : Store) (time : ℕ) → IsCode ops (length cs) → slice_get ops i ≡ Some x →
    IsStep (todo_at (links_of ops) cs (suc i)) store time
    (led_out (step (item_of cs (job_of x.counter x.task) ∷ todo_at (links_of ops) cs x.behind) store time)
    (todo_at (links_of ops) (lands x x.task cs store time).counters (suc (index_of (length (links_of ops)) (lands x x.task cs store time).place))))
step_there ops cs i x store time code e =
    let f = follows ops cs i x store time code e in
    let l : Landing = lands x x.task cs store time in
    let there : todo_at (links_of ops) l.counters l.place ≡ todo_at (links_of ops) l.counters (suc (index_of (length (links_of ops)) l.place)) =
    sym (same_place (links_of ops) l.counters (length (links_of ops)) l.place (omega arith)) in
    record {
      some = ap (λ (t : Todo). has_nothing t) f.0;
      out =
          sym (led_out_same (step (todo_at (links_of ops) cs (suc i)) store time))
          ∙ ap (λ (t : Todo). led_out (step (todo_at (links_of ops) cs (suc i)) store time) t) (f.1 ∙ there)
          ∙ ap (λ (t : Todo). led_out (step t store time) (todo_at (links_of ops) l.counters (suc (index_of (length (links_of ops)) l.place)))) f.0;
    }

-- ---- what each kind of instruction does

-- from an index on a process takes such steps
abbrev Takes : Text → ℕ → (List ℕ → Store → ℕ → Out) → Type 0
Takes c i out = (cs : List ℕ) (store : Store) (time : ℕ) → length cs ≡ c.counters → IsStep (todo_on c cs i) store time (out cs store time)

steps_as : (c : Text) (i : ℕ) (o p : List ℕ → Store → ℕ → Out) → Takes c i o → ((cs : List ℕ) (store : Store) (time : ℕ) → o cs store time ≡ p cs store time) → Steps c i p
steps_as c i o p takes same = record { takes = λ cs store time long. step_as (todo_on c cs i) store time (o cs store time) (p cs store time) (takes cs store time long) (same cs store time) }

does_assign : (c : Text) (i next : ℕ) (t : Target) (e : Typed) (action : Action) →
    Takes c i (λ cs store time. record (goes (on (todo_on c cs next))) { write = Some (assignment t e store time) }) → IsAssign c.signals t e action → Does c i action next
does_assign c i next t e (a.Assign spot r) takes h = (
  record { inside = h.0.inside; signals = ap (λ (m : Meaning). m.signals) h.1 },
  steps_as c i (λ cs store time. record (goes (on (todo_on c cs next))) { write = Some (assignment t e store time) })
      (λ cs store time. record (goes (on (todo_on c cs next))) { write = Some (spot_write spot (spot_value spot r store time)) }) takes
      (λ cs store time.
      ap (λ (w : Write). record (goes (on (todo_on c cs next))) { write = Some w })
      (h.0.writes (value_of e store time) store time
      ∙ ap (λ (v : Typed). spot_write spot (resized false spot.width (value_of v store time))) (sym (ap (λ (m : Meaning). m.expression) h.1)))),
)
does_assign c i next t e (a.AssignChosen place r) takes h = (
  record { inside = h.0.inside; signals = ap (λ (m : Meaning). m.signals) h.1 },
  steps_as c i (λ cs store time. record (goes (on (todo_on c cs next))) { write = Some (assignment t e store time) })
      (λ cs store time. record (goes (on (todo_on c cs next))) { write = Some (chosen_write place (chosen_value place r store time) store time) }) takes
      (λ cs store time.
      ap (λ (w : Write). record (goes (on (todo_on c cs next))) { write = Some w }) (chosen_assigned c.signals t e place r store time h.0 h.1)),
)
does_assign c i next t e (a.AssignAny target x) takes h =
    steps_as c i (λ cs store time. record (goes (on (todo_on c cs next))) { write = Some (assignment t e store time) })
    (λ cs store time. record (goes (on (todo_on c cs next))) { write = Some (assignment target.now x.now store time) }) takes
    (λ cs store time. ap₂ (λ (u : Target) (v : Typed). record (goes (on (todo_on c cs next))) { write = Some (assignment u v store time) }) (sym h.0) (sym h.1))
does_assign c i next t e _ takes h = absurd h

does_update : (c : Text) (i next : ℕ) (ticks : Ticks) (t : Target) (e : Typed) (action : Action) →
    Takes c i (λ cs store time. record (goes (on (todo_on c cs next))) { update = Some (ticks.count, assignment t e store time) }) → IsUpdate c.signals ticks t e action → Does c i action next
does_update c i next ticks t e (a.Update spot r) takes h = (
  record { inside = h.1.inside; signals = ap (λ (m : Meaning). m.signals) h.2 },
  steps_as c i (λ cs store time. record (goes (on (todo_on c cs next))) { update = Some (ticks.count, assignment t e store time) })
      (λ cs store time. record (goes (on (todo_on c cs next))) { update = Some (0, spot_write spot (spot_value spot r store time)) }) takes
      (λ cs store time.
      ap₂ (λ (n : ℕ) (w : Write). record (goes (on (todo_on c cs next))) { update = Some (n, w) }) h.0
      (h.1.writes (value_of e store time) store time
      ∙ ap (λ (v : Typed). spot_write spot (resized false spot.width (value_of v store time))) (sym (ap (λ (m : Meaning). m.expression) h.2)))),
)
does_update c i next ticks t e (a.UpdateChosen place r) takes h = (
  record { inside = h.1.inside; signals = ap (λ (m : Meaning). m.signals) h.2 },
  steps_as c i (λ cs store time. record (goes (on (todo_on c cs next))) { update = Some (ticks.count, assignment t e store time) })
      (λ cs store time. record (goes (on (todo_on c cs next))) { update = Some (0, chosen_write place (chosen_value place r store time) store time) }) takes
      (λ cs store time.
      ap₂ (λ (n : ℕ) (w : Write). record (goes (on (todo_on c cs next))) { update = Some (n, w) }) h.0
      (chosen_assigned c.signals t e place r store time h.1 h.2)),
)
does_update c i next ticks t e (a.UpdateAny k target x) takes h =
    steps_as c i (λ cs store time. record (goes (on (todo_on c cs next))) { update = Some (ticks.count, assignment t e store time) })
    (λ cs store time. record (goes (on (todo_on c cs next))) { update = Some (k.count, assignment target.now x.now store time) }) takes
    (λ cs store time.
    ap (λ (n : ℕ). record (goes (on (todo_on c cs next))) { update = Some (n, assignment t e store time) }) (sym h.0)
    ∙ ap₂ (λ (u : Target) (v : Typed). record (goes (on (todo_on c cs next))) { update = Some (k.count, assignment u v store time) }) (sym h.1) (sym h.2))
does_update c i next ticks t e _ takes h = absurd h

does_call : (c : Text) (i next : ℕ) (x : Op) (call : Call) (action : Action) → format_in x ≡ Some (format_of_call call) →
    Takes c i (λ cs store time. called call.kind (format_of_call call) (todo_on c cs next) store time) → IsCall x call action → Does c i action next
does_call c i next x call (a.Display format) has takes h =
    let same : format_of_call call ≡ format.now = same_Some (format_of_call call) format.now (sym has ∙ h.1) in
    steps_as c i (λ cs store time. called call.kind (format_of_call call) (todo_on c cs next) store time)
    (λ cs store time. record (goes (on (todo_on c cs next))) { line = Some (full_line format.now store time) }) takes
    (λ cs store time. ap₂ (λ (k : CallKind) (f : Format). called k f (todo_on c cs next) store time) h.0 same)
does_call c i next x call (a.Strobe format) has takes h =
    let same : format_of_call call ≡ format.now = same_Some (format_of_call call) format.now (sym has ∙ h.1) in
    steps_as c i (λ cs store time. called call.kind (format_of_call call) (todo_on c cs next) store time)
    (λ cs store time. record (goes (on (todo_on c cs next))) { call = Some format.now }) takes
    (λ cs store time. ap₂ (λ (k : CallKind) (f : Format). called k f (todo_on c cs next) store time) h.0 same)
does_call c i next x call a.Nothing has takes h = absurd (none-some (format_of_call call) (sym h ∙ has))
does_call c i next x call _ has takes h = absurd h

does_branch : (c : Text) (i next other : ℕ) (e : Typed) (action : Action) →
    Takes c i (λ cs store time. goes (on (todo_on c cs (branch (truth (value_of e store time)) next other)))) → IsBranch c.signals e other action → Does c i action next
does_branch c i next other e (a.Branch r there) takes h = (
  ap (λ (m : Meaning). m.signals) h.0,
  steps_as c i (λ cs store time. goes (on (todo_on c cs (branch (truth (value_of e store time)) next other))))
      (λ cs store time. goes (on (todo_on c cs (branch (truth (value_of r.expression store time)) next there)))) takes
      (λ cs store time.
      ap₂ (λ (v : Typed) (p : ℕ). goes (on (todo_on c cs (branch (truth (value_of v store time)) next p)))) (sym (ap (λ (m : Meaning). m.expression) h.0)) (sym h.1)),
)
does_branch c i next other e _ takes h = absurd h

does_cases : (c : Text) (i next : ℕ) (x : Op) (kind : CaseKind) (e : Typed) (items : List (Vec Typed Global × Statement)) (all : List Switch) →
    Takes c i (λ cs store time. goes (on (todo_on c cs (index_of (length c.links) (start_taken kind (value_of e store time) store time items (starts_in x) x.behind))))) →
    IsCaseIn c.signals (length c.links) x kind e items all →
    AreSwitchesOf c.signals all × Steps c i (λ cs store time. goes (on (todo_on c cs (led_by all next store time))))
does_cases c i next x kind e items [] takes h = absurd h
does_cases c i next x kind e items (s ∷ []) takes h =
    let k : Case = s.case in (
      All-cons (λ (y : Switch). y.subject.signals ≡ c.signals) s [] h.0 (All-nil (λ (y : Switch). y.subject.signals ≡ c.signals)),
      steps_as c i (λ cs store time. goes (on (todo_on c cs (index_of (length c.links) (start_taken kind (value_of e store time) store time items (starts_in x) x.behind)))))
          (λ cs store time. goes (on (todo_on c cs (case_index k store time)))) takes
          (λ cs store time.
          ap (λ (n : ℕ). goes (on (todo_on c cs (index_of n (start_taken kind (value_of e store time) store time items (starts_in x) x.behind))))) (sym h.1.same_count)
          ∙ ap₂ (λ (g : CaseKind) (v : Typed). goes (on (todo_on c cs (index_of k.count (start_taken g (value_of v store time) store time items (starts_in x) x.behind))))) (sym h.1.same_kind) (sym h.1.same_value)
          ∙ ap₂ (λ (l : List (Vec Typed Global × Statement)) (y : Op).
          goes (on (todo_on c cs (index_of k.count (start_taken k.kind (value_of k.e.now store time) store time l (starts_in y) y.behind))))) (sym h.1.same_items) (sym h.1.same_op)),
    )
does_cases c i next x kind e items (s ∷ t ∷ more) takes h = absurd h

does_case : (c : Text) (i next : ℕ) (x : Op) (kind : CaseKind) (e : Typed) (items : List (Vec Typed Global × Statement)) (action : Action) →
    Takes c i (λ cs store time. goes (on (todo_on c cs (index_of (length c.links) (start_taken kind (value_of e store time) store time items (starts_in x) x.behind))))) →
    IsCase c.signals (length c.links) x kind e items action → Does c i action next
does_case c i next x kind e items (a.Case all) takes h = does_cases c i next x kind e items all.items takes h
does_case c i next x kind e items _ takes h = absurd h

does_repeat : (c : Text) (i next : ℕ) (x : Op) (signed : Bool) (e : Typed) (action : Action) →
    Takes c i (λ cs store time. goes (on (todo_landed c (turned (turns_for signed (value_of e store time)) x cs)))) → IsRepeat (length c.links) x signed e action → Does c i action next
does_repeat c i next x signed e (a.Repeat r) takes h = (
  h.same_count,
  steps_as c i (λ cs store time. goes (on (todo_landed c (turned (turns_for signed (value_of e store time)) x cs))))
      (λ cs store time. goes (on (todo_landed c (repeat_lands r cs store time)))) takes
      (λ cs store time.
      ap₂ (λ (b : Bool) (v : Typed). goes (on (todo_landed c (turned (turns_for b (value_of v store time)) x cs)))) (sym h.same_sign) (sym h.same_value)
      ∙ ap (λ (y : Op). goes (on (todo_landed c (turned (turns_for r.signed (value_of r.e.now store time)) y cs)))) (sym h.same_op)),
)
does_repeat c i next x signed e _ takes h = absurd h

does_turns : (c : Text) (i next : ℕ) (x : Op) (action : Action) → Takes c i (λ cs store time. goes (on (todo_landed c (turned (get_or cs x.counter 0) x cs)))) →
    IsTurns (length c.links) x action → Does c i action next
does_turns c i next x (a.Turns t) takes h = (
  h.1,
  steps_as c i (λ cs store time. goes (on (todo_landed c (turned (get_or cs x.counter 0) x cs)))) (λ cs store time. goes (on (todo_landed c (turns_lands t cs)))) takes
      (λ cs store time. ap (λ (y : Op). goes (on (todo_landed c (turned (get_or cs y.counter 0) y cs)))) (sym h.0)),
)
does_turns c i next x _ takes h = absurd h

does_delay : (c : Text) (i next n : ℕ) (ticks : Ticks) (action : Action) → Takes c i (λ cs store time. goes (after n ticks.count (todo_on c cs next))) → IsDelay n ticks action → Does c i action next
does_delay c i next n ticks (a.Delay m k) takes h =
    steps_as c i (λ cs store time. goes (after n ticks.count (todo_on c cs next))) (λ cs store time. goes (after m k.count (todo_on c cs next))) takes
    (λ cs store time. ap₂ (λ (u v : ℕ). goes (after u v (todo_on c cs next))) (sym h.0) (sym h.1))
does_delay c i next n ticks _ takes h = absurd h

does_wait : (c : Text) (i next n : ℕ) (terms : List EventTerm) (action : Action) → Takes c i (λ cs store time. goes (wait n terms (todo_on c cs next))) → IsWait n terms action → Does c i action next
does_wait c i next n terms (a.Wait m ts) takes h =
    steps_as c i (λ cs store time. goes (wait n terms (todo_on c cs next))) (λ cs store time. goes (wait m ts.now (todo_on c cs next))) takes
    (λ cs store time. ap₂ (λ (u : ℕ) (v : List EventTerm). goes (wait u v (todo_on c cs next))) (sym h.0) (sym h.1))
does_wait c i next n terms _ takes h = absurd h

-- ---- a statement, by its outermost layer

-- from an index on a process takes the step of a statement
abbrev TakesLayer : Text → ℕ → Op → Statement → Statement-F Statement → Type 0
TakesLayer c i x s f =
    Takes c i (λ cs store time. led_out (statement_step s f (todo_at c.links cs x.behind) store time) (todo_landed c (layer_lands x f cs store time)))

does_so : (c : Text) (i next : ℕ) (so action : Action) → Does c i so next → action ≡ so → Does c i action next
does_so c i next so action does is = subst (λ (k : Action). Does c i k next) (sym is) does

leads_branch : (c : Text) (i a b : ℕ) (e : Typed) → Takes c i (λ cs store time. goes (on (todo_landed c (landing (branch (truth (value_of e store time)) a b) cs)))) →
    Takes c i (λ cs store time. goes (on (todo_on c cs (branch (truth (value_of e store time)) (index_in c a) (index_in c b)))))
leads_branch c i a b e takes cs store time long =
    step_as (todo_on c cs i) store time (goes (on (todo_landed c (landing (branch (truth (value_of e store time)) a b) cs))))
    (goes (on (todo_on c cs (branch (truth (value_of e store time)) (index_in c a) (index_in c b))))) (takes cs store time long)
    (ap (λ (p : ℕ). goes (on (todo_on c cs p))) (branch_index (truth (value_of e store time)) (length c.links) a b))

does_layer : (c : Text) (i : ℕ) (x : Op) (s : Statement) (f : Statement-F Statement) (action : Action) → IsFormatOf (format_in x) f → TakesLayer c i x s f →
    IsActionOf c.signals (length c.links) x f action → Does c i action (index_in c (next_place x f))
does_layer c i x s (Statement-F.Null n) action format takes h = does_so c i (index_in c x.behind) a.Nothing action (record { takes = takes }) h
does_layer c i x s (Statement-F.Assign n t e) action format takes h = does_assign c i (index_in c x.behind) t e action takes h
does_layer c i x s (Statement-F.Later n ticks t e) action format takes h = does_update c i (index_in c x.behind) ticks t e action takes h
does_layer c i x s (Statement-F.Call n call) action format takes h = does_call c i (index_in c x.behind) x call action format takes h
does_layer c i x s (Statement-F.Finish n) action format takes h = does_so c i (index_in c x.behind) a.Finish action (record { takes = takes }) h
does_layer c i x s (Statement-F.Block all) action format takes h = does_so c i (index_in c x.first) a.Nothing action (record { takes = takes }) h
does_layer c i x s (Statement-F.Delay n ticks body) action format takes h = does_delay c i (index_in c x.first) n ticks action takes h
does_layer c i x s (Statement-F.Event n terms body) action format takes h = does_wait c i (index_in c x.first) n terms.items action takes h
does_layer c i x s (Statement-F.If n e p q) action format takes h =
    does_branch c i (index_in c x.first) (index_in c x.second) e action (leads_branch c i x.first x.second e takes) h
does_layer c i x s (Statement-F.Case n kind e items) action format takes h =
    does_case c i (index_in c x.behind) x kind e items.items action takes h
does_layer c i x s (Statement-F.While n e body) action format takes h =
    does_branch c i (index_in c x.first) (index_in c x.behind) e action (leads_branch c i x.first x.behind e takes) h
does_layer c i x s (Statement-F.Repeat n signed e body) action format takes h =
    does_repeat c i (index_in c x.behind) x signed e action takes h
does_layer c i x s (Statement-F.Forever n body) action format takes h = does_so c i (index_in c x.first) a.Nothing action (record { takes = takes }) h

does_task : (c : Text) (i : ℕ) (x : Op) (task : Task) (ins : Instruction) →
    Takes c i (λ cs store time. led_out (step (item_of cs (job_of x.counter task) ∷ todo_at c.links cs x.behind) store time) (todo_landed c (lands x task cs store time))) →
    IsFormatFor (format_in x) task → IsOfTask c.signals (length c.links) x task ins → Does c i ins.action ins.next
does_task c i x (Perform s) ins takes format h =
    subst (Does c i ins.action) (sym h.1) (does_layer c i x s.now (out-Statement s.now) ins.action format takes h.0)
does_task c i x (Turns s) ins takes format h = does_turns c i ins.next x ins.action takes h

-- the text of a code
abbrev pub text_of : List Signal → List Op → ℕ → ℕ → Text
text_of signals ops counters start = record { signals = signals; links = links_of ops; counters = counters; start = start }

-- an instruction does what the instruction of the code does at its place
pub does_op : (signals : List Signal) (ops : List Op) (counters start i : ℕ) (x : Op) (ins : Instruction) → IsCode ops counters → slice_get ops i ≡ Some x →
    IsInstructionOf signals (length ops) x ins → Does (text_of signals ops counters start) i ins.action ins.next
does_op signals ops counters start i x ins code at h =
    let many : length ops ≡ length (links_of ops) = sym (length-map ops link_of) in
    does_task (text_of signals ops counters start) i x x.task ins
    (λ cs store time long. step_there ops cs i x store time (subst (IsCode ops) (sym long) code) at)
    (has_format ops counters i x code at)
    (subst (λ (n : ℕ). IsInstructionOf signals n x ins) many h)
