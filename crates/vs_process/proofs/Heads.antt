-- Lemmas on instructions that stand behind what is written in front of them.
use Rattle.std.proofs.Common.{false, ◌≡◌, ◌≢◌, ℕ, suc, ◌<◌, ◌≤◌, Some, List, [], ◌∷◌, length, refl, sym, ◌∙◌, ap, ap₂, subst, arith, ◌⊎◌, inl, inr, ⊎_elim, Global}
use Rattle.std.specs.Prelude.{slice_get, Vec}
use Rattle.std.specs.declared.boxed.Box.{Box}
use Rattle.std.proofs.lemmas.List.{length-map}
use Rattle.std.proofs.lemmas.Option.{same_Some}
use denote.Ref.{Bor}
use Rattle.std.proofs.lemmas.Bool.{cases_lt as below_or}
use Rattle.vs_design.specs.WellFormed.{numbers}
use Rattle.vs_design.specs.declared.expression.Typed.{Typed}
use Rattle.vs_design.specs.declared.statement.EventTerm.{EventTerm}
use Rattle.vs_design.specs.declared.statement.Target.{Target}
use Rattle.vs_design.specs.declared.statement.Ticks.{Ticks}
use Rattle.vs_design.specs.declared.statement.Statement.{Statement}
use Rattle.vs_design.specs.declared.statement.Statement.TheVariants as d
use Rattle.vs_design.specs.declared.statement.Statement.TheOpen.{Statement-F}
use Rattle.vs_design.specs.declared.statement.Statement.TheViews.{out-Statement, roll-Statement}
use Rattle.vs_process.specs.declared.draft.Op.{Op}
use Rattle.vs_process.specs.declared.draft.Task.{Task}
use Rattle.vs_process.specs.declared.draft.Task.TheVariants.{Perform, Turns}
use Rattle.vs_process.specs.declared.draft.Draft.{Draft}
use Rattle.vs_process.specs.Places.{Todo, flat, perform}
use Rattle.vs_process.specs.Links.{Link, Job, performs, tests, AreLinked, Leads}
use Rattle.vs_process.specs.Codes.{Layout, links_of, link_of, job_of, Fits, FitsStatement, FitsTask}
use Rattle.vs_process.specs.Drafts.{is_block, numbers_inside, IsNext, Grows, Always, AlwaysLeads, AlwaysFree, AlwaysTurn, drafted, IsLonger, Written, IsReady, IsEmitted, IsHead, IsLoop}
use Rattle.vs_process.proofs.Shapes.{flat-single, layer_of}
use Rattle.vs_process.proofs.Drafts.{always_later, link_here, leads_here, free_then, free_test, turn_here, longer_then, ready_more}

-- the place of a head
head_link : (old new : Draft) (task : Task) (next depth p : ℕ) (h : IsHead old new task next depth p) → slice_get (links_of new.ops.items) (length old.ops.items) ≡ Some (record { job = job_of depth task; behind = next })
head_link old new task next depth p h =
    link_here new.ops.items (length old.ops.items) h.op h.is
    ∙ ap (λ (j : Job). Some (record { job = j; behind = h.op.behind })) (ap (job_of h.op.counter) h.does ∙ ap (λ (k : ℕ). job_of k task) h.counter)
    ∙ ap (λ (b : ℕ). Some (record { job = job_of depth task; behind = b })) h.behind

pub head_leads : (old new : Draft) (s : Bor Statement) (next depth p : ℕ) → IsHead old new (Perform s) next depth p → AlwaysLeads (drafted new) (perform s.now ∷ []) p next
head_leads old new s next depth p h =
    subst (λ (q : ℕ). AlwaysLeads (drafted new) (perform s.now ∷ []) q next) (sym h.here)
    (leads_here (drafted new) (length old.ops.items) (record { job = performs s.now; behind = next }) s.now (head_link old new (Perform s) next depth p h) refl)

pub head_ready : (old new : Draft) (s : Bor Statement) (next depth p : ℕ) → IsReady old next depth → IsHead old new (Perform s) next depth p → IsReady new p depth
head_ready old new s next depth p r h = record {
  linked = h.more.linked;
  within = omega (arith, h.here, h.last);
  deep = omega (arith, r.deep, h.last);
  free = free_then (drafted new) depth (perform s.now ∷ []) p next (head_leads old new s next depth p h) (ready_more old new next depth r h.more).free;
}

pub test_ready : (old new : Draft) (s : Bor Statement) (next depth p : ℕ) → IsReady old next depth → IsHead old new (Turns s) next depth p → IsReady new p (suc depth)
test_ready old new s next depth p r h = record {
  linked = h.more.linked;
  within = omega (arith, h.here, h.last);
  deep = omega (arith, r.deep, h.last);
  free = subst (λ (q : ℕ). AlwaysFree (drafted new) (suc depth) q) (sym h.here)
      (free_test (drafted new) depth (length old.ops.items) (record { job = tests depth s.now; behind = next }) s.now (head_link old new (Turns s) next depth p h) refl (ready_more old new next depth r h.more).free);
}

-- code in front of a head, where the head has been told where that code starts
pub written_patched : (a b c d : Draft) (task : Task) (next depth p : ℕ) (y : Op) → IsHead a b task next depth p → Written b c → links_of d.ops.items ≡ links_of c.ops.items → d.counters ≡ c.counters →
    ((j : ℕ) → j ≢ length a.ops.items → slice_get d.ops.items j ≡ slice_get c.ops.items j) → slice_get d.ops.items (length a.ops.items) ≡ Some y →
    Always (drafted d) (λ later. Fits later y (suc (length a.ops.items))) → Written a d
written_patched a b c d task next depth p y h w links counters others here fits =
    let same : drafted d ≡ drafted c = ap₂ (λ (k : List Link) (n : ℕ). record { links = k; counters = n }) links counters in
    let long : length d.ops.items ≡ length c.ops.items = sym (length-map d.ops.items link_of) ∙ ap length links ∙ length-map c.ops.items link_of in
    let ac : IsLonger a c = longer_then a b c h.more w.more in
    record {
      more = record {
        grows = subst (λ (k : Layout). Grows (drafted a) k) (sym same) ac.grows;
        longer = omega (arith, ac.longer, long);
        kept = λ i lt. others i (λ e. absurd (omega (arith, e, lt))) ∙ ac.kept i lt;
        linked = subst AreLinked (sym links) ac.linked;
      };
      fits = λ i x ge e. ⊎_elim
          (λ (lt : i < suc (length a.ops.items)).
          let at : i ≡ length a.ops.items = omega arith in
          let is : y ≡ x = same_Some y x (sym here ∙ ap (slice_get d.ops.items) (sym at) ∙ e) in
          subst (λ (k : ℕ). Always (drafted d) (λ later. Fits later x (suc k))) (sym at)
          (subst (λ (z : Op). Always (drafted d) (λ later. Fits later z (suc (length a.ops.items)))) is fits))
          (λ (le : suc (length a.ops.items) ≤ i).
          let ne : i ≢ length a.ops.items = λ q. absurd (omega (arith, q)) in
          subst (λ (k : Layout). Always k (λ later. Fits later x (suc i))) (sym same)
          (w.fits i x (omega (arith, h.last)) (sym (others i ne) ∙ e)))
          (below_or i (suc (length a.ops.items)));
    }

-- a head that has been told where the code in front of it starts
patched_here : (a b c d : Draft) (task : Task) (next depth p first : ℕ) (h : IsHead a b task next depth p) → Written b c →
    ((x : Op) → slice_get c.ops.items (length a.ops.items) ≡ Some x → slice_get d.ops.items (length a.ops.items) ≡ Some (record x { first = first })) →
    slice_get d.ops.items (length a.ops.items) ≡ Some (record h.op { first = first })
patched_here a b c d task next depth p first h w here = here h.op (w.more.kept (length a.ops.items) (omega (arith, h.last)) ∙ h.is)

pub emitted_loop : (a b c d : Draft) (s : Bor Statement) (body : Statement) (next depth p first : ℕ) → IsLoop s.now body → IsHead a b (Perform s) next depth p → IsEmitted b c (flat body) p first →
    links_of d.ops.items ≡ links_of c.ops.items → d.counters ≡ c.counters → ((j : ℕ) → j ≢ length a.ops.items → slice_get d.ops.items j ≡ slice_get c.ops.items j) →
    ((x : Op) → slice_get c.ops.items (length a.ops.items) ≡ Some x → slice_get d.ops.items (length a.ops.items) ≡ Some (record x { first = first })) →
    IsEmitted a d (flat s.now) next p
emitted_loop a b c d s body next depth p first loops h w links counters others here =
    let same : drafted d ≡ drafted c = ap₂ (λ (k : List Link) (n : ℕ). record { links = k; counters = n }) links counters in
    let long : length d.ops.items ≡ length c.ops.items = sym (length-map d.ops.items link_of) ∙ ap length links ∙ length-map c.ops.items link_of in
    let y : Op = record h.op { first = first } in
    let body_leads : AlwaysLeads (drafted d) (flat body) first (suc (length a.ops.items)) =
    subst (λ (k : Layout). AlwaysLeads k (flat body) first (suc (length a.ops.items))) (sym same)
    (subst (λ (q : ℕ). AlwaysLeads (drafted c) (flat body) first q) h.here w.leads) in
    let fits : Always (drafted d) (λ later. Fits later y (suc (length a.ops.items))) =
    λ later linked more. subst (λ (t : Task). FitsTask later y (suc (length a.ops.items)) t) (sym h.does)
    (loops.fits later y (suc (length a.ops.items)) (body_leads later linked more)) in
    record {
      written = written_patched a b c d (Perform s) next depth p y h w.written links counters others (patched_here a b c d (Perform s) next depth p first h w.written here) fits;
      within = omega (arith, h.here, h.last, w.written.more.longer, long);
      leads = subst (λ (k : Layout). AlwaysLeads k (flat s.now) p next) (sym same)
          (subst (λ (t : Todo). AlwaysLeads (drafted c) t p next) (sym (flat-single s.now loops.single))
          (always_later (λ later. Leads later.links (perform s.now ∷ []) p next) (drafted b) (drafted c) w.written.more.grows (head_leads a b s next depth p h)));
    }

-- the statement of a `repeat` in front of its test
pub emitted_turns : (a b c d : Draft) (s : Bor Statement) (next depth p first : ℕ) → IsReady a next depth → depth < a.counters → IsHead a b (Turns s) next depth p → IsEmitted b c (flat s.now) p first →
    links_of d.ops.items ≡ links_of c.ops.items → d.counters ≡ c.counters → ((j : ℕ) → j ≢ length a.ops.items → slice_get d.ops.items j ≡ slice_get c.ops.items j) →
    ((x : Op) → slice_get c.ops.items (length a.ops.items) ≡ Some x → slice_get d.ops.items (length a.ops.items) ≡ Some (record x { first = first })) →
    Written a d × AlwaysTurn (drafted d) depth s.now first next
emitted_turns a b c d s next depth p first ready below h w links counters others here =
    let same : drafted d ≡ drafted c = ap₂ (λ (k : List Link) (n : ℕ). record { links = k; counters = n }) links counters in
    let l : Link = record { job = tests depth s.now; behind = next } in
    let ac : IsLonger a c = longer_then a b c h.more w.written.more in
    let turn : AlwaysTurn (drafted c) depth s.now first next =
    turn_here (drafted c) depth (length a.ops.items) first l s.now
    (w.written.more.grows.links (length a.ops.items) l (head_link a b (Turns s) next depth p h)) refl
    (omega (arith, ac.grows.counters, below)) (ready_more a c next depth ready ac).free
    (subst (λ (q : ℕ). AlwaysLeads (drafted c) (flat s.now) first q) h.here w.leads) in
    let turned : AlwaysTurn (drafted d) depth s.now first next = subst (λ (k : Layout). AlwaysTurn k depth s.now first next) (sym same) turn in
    let y : Op = record h.op { first = first } in
    let fits : Always (drafted d) (λ later. Fits later y (suc (length a.ops.items))) =
    λ later linked more. subst (λ (t : Task). FitsTask later y (suc (length a.ops.items)) t) (sym h.does)
    (subst (λ (k : ℕ). Rattle.vs_process.specs.Codes.IsTurn later k s.now first h.op.behind) (sym h.counter)
    (subst (λ (b : ℕ). Rattle.vs_process.specs.Codes.IsTurn later depth s.now first b) (sym h.behind) (turned later linked more))) in
    (written_patched a b c d (Turns s) next depth p y h w.written links counters others (patched_here a b c d (Turns s) next depth p first h w.written here) fits, turned)

-- an instruction of a statement goes on where its outermost layer must
pub next_of_layer : (d : Draft) (x : Op) (s : Statement) (f : Statement-F Statement) → out-Statement s ≡ f → is_block f ≡ false →
    Always (drafted d) (λ later. FitsStatement later x (suc (length d.ops.items)) s f) → IsNext d x s
next_of_layer d x s f is single fits = record {
  single = ap (λ (g : Statement-F Statement). is_block g) is ∙ single;
  fits = λ later linked more. subst (FitsStatement later x (suc (length d.ops.items)) s) (sym is) (fits later linked more);
}

-- a statement goes on where it must where this holds, and has these numbers inside
pub record IsKnown (s : Statement) (need : Layout → Op → ℕ → Type 0) (ns : List ℕ) : Type 0 where
  pub single : is_block (out-Statement s) ≡ false
  pub fits : (c : Layout) (x : Op) (here : ℕ) → need c x here → FitsStatement c x here s (out-Statement s)
  pub inside : numbers_inside (out-Statement s) ≡ ns

pub known_by : (s t : Statement) (f : Statement-F Statement) → s ≡ t → roll-Statement f ≡ t → is_block f ≡ false → IsKnown s (λ c x here. FitsStatement c x here s f) (numbers_inside f)
known_by s t f is built single =
    let layer : out-Statement s ≡ f = layer_of s t f is built in
    record {
      single = ap (λ (g : Statement-F Statement). is_block g) layer ∙ single;
      fits = λ c x here h. subst (FitsStatement c x here s) (sym layer) h;
      inside = ap (λ (g : Statement-F Statement). numbers_inside g) layer;
    }

-- a statement with none in it that goes on behind it
pub plain_known : (s : Statement) →
    ((n : ℕ) × (s ≡ d.Null n)) ⊎ ((n : ℕ) × (t : Target) × (e : Typed) × (s ≡ d.Assign n t e)) ⊎ ((n : ℕ) × (ticks : Ticks) × (t : Target) × (e : Typed) × (s ≡ d.Later n ticks t e)) ⊎ ((n : ℕ) × (s ≡ d.Finish n)) →
    IsKnown s (λ c x here. Unit {0}) []
plain_known s (inl w) = known_by s (d.Null w.0) (Statement-F.Null w.0) w.1 (d.rolls-Null w.0) refl
plain_known s (inr (inl w)) = known_by s (d.Assign w.0 w.1 w.2) (Statement-F.Assign w.0 w.1 w.2) w.3 (d.rolls-Assign w.0 w.1 w.2) refl
plain_known s (inr (inr (inl w))) = known_by s (d.Later w.0 w.1 w.2 w.3) (Statement-F.Later w.0 w.1 w.2 w.3) w.4 (d.rolls-Later w.0 w.1 w.2 w.3) refl
plain_known s (inr (inr (inr w))) = known_by s (d.Finish w.0) (Statement-F.Finish w.0) w.1 (d.rolls-Finish w.0) refl

-- a timing control
pub control_known : (s : Statement) (b : Box Statement Global) → ((n : ℕ) × (ticks : Ticks) × (s ≡ d.Delay n ticks b)) ⊎ ((n : ℕ) × (terms : Vec EventTerm Global) × (s ≡ d.Event n terms b)) →
    IsKnown s (λ c x here. Leads c.links (flat b.value) x.first x.behind) (numbers b.value)
control_known s b (inl w) = known_by s (d.Delay w.0 w.1 b) (Statement-F.Delay w.0 w.1 b) w.2 (d.rolls-Delay w.0 w.1 b) refl
control_known s b (inr w) = known_by s (d.Event w.0 w.1 b) (Statement-F.Event w.0 w.1 b) w.2 (d.rolls-Event w.0 w.1 b) refl

loop_known : (s : Statement) (b : Box Statement Global) → ((n : ℕ) × (e : Typed) × (s ≡ d.While n e b)) ⊎ ((n : ℕ) × (s ≡ d.Forever n b)) →
    IsKnown s (λ c x here. Leads c.links (flat b.value) x.first here) (numbers b.value)
loop_known s b (inl w) = known_by s (d.While w.0 w.1 b) (Statement-F.While w.0 w.1 b) w.2 (d.rolls-While w.0 w.1 b) refl
loop_known s b (inr w) = known_by s (d.Forever w.0 b) (Statement-F.Forever w.0 b) w.1 (d.rolls-Forever w.0 b) refl

pub loop_of : (s : Statement) (b : Box Statement Global) (body : Statement) → body ≡ b.value → ((n : ℕ) × (e : Typed) × (s ≡ d.While n e b)) ⊎ ((n : ℕ) × (s ≡ d.Forever n b)) → IsLoop s body
loop_of s b body same is =
    let known : IsKnown s (λ c x here. Leads c.links (flat b.value) x.first here) (numbers b.value) = loop_known s b is in
    subst (IsLoop s) (sym same) (record { single = known.single; fits = known.fits; inside = known.inside })

pub known_next : (d : Draft) (x : Op) (s : Statement) (need : Layout → Op → ℕ → Type 0) (ns : List ℕ) → IsKnown s need ns → Always (drafted d) (λ later. need later x (suc (length d.ops.items))) → IsNext d x s
known_next d x s need ns known goes = record {
  single = known.single;
  fits = λ later linked more. known.fits later x (suc (length d.ops.items)) (goes later linked more);
}
