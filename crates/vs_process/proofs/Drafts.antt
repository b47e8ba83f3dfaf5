-- Lemmas on code that is being written.
use Rattle.std.proofs.Common.{Global, ◌≡◌, ℕ, suc, ◌<◌, ◌≤◌, false, Some, List, [], ◌∷◌, ◌++◌, ◌+◌, length, get_or, refl, sym, ◌∙◌, ap, subst, arith, ⊎_elim, append_assoc}
use Rattle.std.specs.Prelude.{slice_get, slice_set, Vec, option_map, IfOk, OnErr, Result, Ok, Err}
use Rattle.std.specs.Result.{IsErrAnd}
use Rattle.std.specs.declared.alloc.AllocError.{AllocError}
use Rattle.vs_design.specs.declared.statement.Statement.TheViews.{out-Statement}
use Rattle.std.proofs.lemmas.List.{get_or-set_same, get_or-set_other, length-append, length-map, map-append}
use Rattle.std.proofs.lemmas.Option.{slice_get-map, slice_get_within}
use Rattle.std.proofs.lemmas.Bool.{cases_lt}
use Rattle.vs_design.specs.declared.statement.Statement.{Statement}
use Rattle.vs_design.specs.declared.expression.Typed.{Typed}
use Rattle.vs_process.specs.declared.draft.Op.{Op}
use Rattle.vs_process.specs.declared.draft.Draft.{Draft}
use Rattle.vs_process.specs.Places.{Todo, flat, perform, turns}
use Rattle.vs_process.specs.Links.{Link, Job, performs, tests, todo_at, AreLinked, Leads}
use Rattle.vs_process.specs.Codes.{Layout, links_of, link_of, Fits, LeadAll}
use Rattle.vs_process.specs.Drafts.{Grows, Always, IsFree, AlwaysLeads, AlwaysFree, AlwaysTurn, drafted, IsLonger, Written, IsReady, IsEmitted, is_block}
use Rattle.vs_process.proofs.Links.{todo_here}
use Rattle.vs_process.proofs.Shapes.{flat-single}
use Rattle.vs_process.proofs.Lists.{at_front, of_pushed}
use Rattle.vs_design.specs.vs_logic4.proofs.Basics.{at_end as at_seam}

-- ---- growth

pub grows_self : (c : Layout) → Grows c c
grows_self c = record { links = λ i l e. e; counters = omega arith }

pub grows_then : (a b c : Layout) → Grows a b → Grows b c → Grows a c
grows_then a b c h k = record { links = λ i l e. k.links i l (h.links i l e); counters = omega (arith, h.counters, k.counters) }

pub always_later : (P : Layout → Type 0) (a b : Layout) → Grows a b → Always a P → Always b P
always_later P a b g h = λ later linked more. h later linked (grows_then a b later g more)

-- a place of the code by its instruction
pub link_here : (ops : List Op) (i : ℕ) (x : Op) → slice_get ops i ≡ Some x → slice_get (links_of ops) i ≡ Some (link_of x)
link_here ops i x e = slice_get-map link_of ops i ∙ ap (option_map link_of) e

-- ---- what is done from a place on

pub leads_here : (c : Layout) (i : ℕ) (l : Link) (s : Statement) → slice_get c.links i ≡ Some l → l.job ≡ performs s → AlwaysLeads c (perform s ∷ []) (suc i) l.behind
leads_here c i l s e j = λ later linked more counters.
    todo_here later.links counters i l linked (more.links i l e)
    ∙ ap (λ (k : Job). Rattle.vs_process.specs.Links.item_of counters k ∷ todo_at later.links counters l.behind) j

pub leads_then : (c : Layout) (a b : Todo) (p q r : ℕ) → AlwaysLeads c a p q → AlwaysLeads c b q r → AlwaysLeads c (a ++ b) p r
leads_then c a b p q r h k = λ later linked more counters.
    h later linked more counters ∙ ap (λ (t : Todo). a ++ t) (k later linked more counters)
    ∙ sym (append_assoc a b (todo_at later.links counters r))

pub free_then : (c : Layout) (depth : ℕ) (todo : Todo) (p q : ℕ) → AlwaysLeads c todo p q → AlwaysFree c depth q → AlwaysFree c depth p
free_then c depth todo p q h f = λ later linked more counters k left le.
    h later linked more (slice_set counters k left) ∙ ap (λ (t : Todo). todo ++ t) (f later linked more counters k left le)
    ∙ sym (h later linked more counters)

-- a test of a `repeat` reads its counter, and none above it
pub free_test : (c : Layout) (depth i : ℕ) (l : Link) (s : Statement) → slice_get c.links i ≡ Some l → l.job ≡ tests depth s → AlwaysFree c depth l.behind → AlwaysFree c (suc depth) (suc i)
free_test c depth i l s e j f = λ later linked more counters k left le.
    let here = λ (cs : List ℕ). todo_here later.links cs i l linked (more.links i l e)
    ∙ ap (λ (m : Job). Rattle.vs_process.specs.Links.item_of cs m ∷ todo_at later.links cs l.behind) j in
    here (slice_set counters k left)
    ∙ ap (λ (n : ℕ). turns n s ∷ todo_at later.links (slice_set counters k left) l.behind) (get_or-set_other counters k depth left 0 (omega arith))
    ∙ ap (λ (t : Todo). turns (get_or counters depth 0) s ∷ t) (f later linked more counters k left (omega arith))
    ∙ sym (here counters)

-- from where the statement of a `repeat` starts, in front of its test
pub turn_here : (c : Layout) (depth i first : ℕ) (l : Link) (s : Statement) → slice_get c.links i ≡ Some l → l.job ≡ tests depth s → depth < c.counters → AlwaysFree c depth l.behind → AlwaysLeads c (flat s) first (suc i) → AlwaysTurn c depth s first l.behind
turn_here c depth i first l s e j lt f h = λ later linked more. record {
  below = omega (arith, more.counters, lt);
  leads = λ counters left within.
      h later linked more (slice_set counters depth left)
      ∙ ap (λ (t : Todo). flat s ++ t)
      (todo_here later.links (slice_set counters depth left) i l linked (more.links i l e)
      ∙ ap (λ (m : Job). Rattle.vs_process.specs.Links.item_of (slice_set counters depth left) m ∷ todo_at later.links (slice_set counters depth left) l.behind) j
      ∙ ap (λ (n : ℕ). turns n s ∷ todo_at later.links (slice_set counters depth left) l.behind) (get_or-set_same counters depth left 0 within)
      ∙ ap (λ (t : Todo). turns left s ∷ t) (f later linked more counters depth left (omega arith)));
}

-- ---- drafts

pub longer_self : (d : Draft) → AreLinked (links_of d.ops.items) → IsLonger d d
longer_self d h = record { grows = grows_self (drafted d); longer = omega arith; kept = λ i lt. refl; linked = h }

pub longer_then : (a b c : Draft) → IsLonger a b → IsLonger b c → IsLonger a c
longer_then a b c h k = record {
  grows = grows_then (drafted a) (drafted b) (drafted c) h.grows k.grows;
  longer = omega (arith, h.longer, k.longer);
  kept = λ i lt. k.kept i (omega (arith, h.longer, lt)) ∙ h.kept i lt;
  linked = k.linked;
}

pub written_none : (d : Draft) → AreLinked (links_of d.ops.items) → Written d d
written_none d h = record { more = longer_self d h; fits = λ i x le e. absurd (omega (arith, slice_get_within d.ops.items i x e)) }

pub written_then : (a b c : Draft) → Written a b → Written b c → Written a c
written_then a b c h k = record {
  more = longer_then a b c h.more k.more;
  fits = λ i x le e. ⊎_elim
      (λ lt. always_later (λ later. Fits later x (suc i)) (drafted b) (drafted c) k.more.grows (h.fits i x le (sym (k.more.kept i lt) ∙ e)))
      (λ ge. k.fits i x ge e)
      (cases_lt i (length b.ops.items));
}

put_keeps : (old new : Draft) (i : ℕ) (l : Link) → ((k : ℕ) → k < length old.ops.items → slice_get new.ops.items k ≡ slice_get old.ops.items k) → slice_get (links_of old.ops.items) i ≡ Some l → slice_get (links_of new.ops.items) i ≡ Some l
put_keeps old new i l kept at =
    let below : i < length old.ops.items = omega (arith, slice_get_within (links_of old.ops.items) i l at, length-map old.ops.items link_of) in
    slice_get-map link_of new.ops.items i ∙ ap (option_map link_of) (kept i below) ∙ sym (slice_get-map link_of old.ops.items i) ∙ at

put_linked : (old new : Draft) (x : Op) (i : ℕ) (l : Link) → AreLinked (links_of old.ops.items) → new.ops.items ≡ old.ops.items ++ x ∷ [] → x.behind ≤ length old.ops.items → slice_get (links_of new.ops.items) i ≡ Some l → l.behind ≤ i
put_linked old new x i l h e within at =
    let links : links_of new.ops.items ≡ links_of old.ops.items ++ link_of x ∷ [] = ap links_of e ∙ map-append link_of old.ops.items (x ∷ []) in
    let long : length (links_of old.ops.items) ≡ length old.ops.items = length-map old.ops.items link_of in
    let here : slice_get (links_of old.ops.items ++ link_of x ∷ []) i ≡ Some l = ap (λ (k : List Link). slice_get k i) (sym links) ∙ at in
    ⊎_elim
    (λ (lt : i < length (links_of old.ops.items)). h i l (sym (at_front (links_of old.ops.items) (link_of x ∷ []) i lt) ∙ here))
    (λ (w : (i ≡ length (links_of old.ops.items)) × (link_of x ≡ l)).
    let b : x.behind ≡ l.behind = ap (λ (k : Link). k.behind) w.1 in omega (arith, w.0))
    (of_pushed (links_of old.ops.items) (link_of x) l i here)

-- one instruction more
pub longer_put : (old new : Draft) (x : Op) → AreLinked (links_of old.ops.items) → new.ops.items ≡ old.ops.items ++ x ∷ [] → old.counters ≤ new.counters → x.behind ≤ length old.ops.items → IsLonger old new
longer_put old new x h e le within =
    let long : length new.ops.items ≡ length old.ops.items + 1 = ap length e ∙ length-append old.ops.items (x ∷ []) in
    let kept : (i : ℕ) → i < length old.ops.items → slice_get new.ops.items i ≡ slice_get old.ops.items i =
    λ i lt. ap (λ (l : List Op). slice_get l i) e ∙ at_front old.ops.items (x ∷ []) i lt in
    record {
      grows = record { links = λ i l at. put_keeps old new i l kept at; counters = le };
      longer = omega arith;
      kept = kept;
      linked = λ i l at. put_linked old new x i l h e within at;
    }

pub written_put : (old new : Draft) (x : Op) → AreLinked (links_of old.ops.items) → new.ops.items ≡ old.ops.items ++ x ∷ [] → old.counters ≤ new.counters → x.behind ≤ length old.ops.items → Always (drafted old) (λ later. Fits later x (suc (length old.ops.items))) → Written old new
written_put old new x h e le within fits =
    let more = longer_put old new x h e le within in
    record {
      more = more;
      fits = λ i y ge at. ⊎_elim
          (λ (lt : i < length old.ops.items). absurd (omega arith))
          (λ (w : (i ≡ length old.ops.items) × (x ≡ y)).
          subst (λ (k : ℕ). Always (drafted new) (λ later. Fits later y (suc k))) (sym w.0)
          (subst (λ (z : Op). Always (drafted new) (λ later. Fits later z (suc (length old.ops.items)))) w.1
          (always_later (λ later. Fits later x (suc (length old.ops.items))) (drafted old) (drafted new) more.grows fits)))
          (of_pushed old.ops.items x y i (ap (λ (l : List Op). slice_get l i) (sym e) ∙ at));
    }

-- ---- where code may be put

pub ready_more : (a b : Draft) (next depth : ℕ) → IsReady a next depth → IsLonger a b → IsReady b next depth
ready_more a b next depth r h = record {
  linked = h.linked;
  within = omega (arith, r.within, h.longer);
  deep = omega (arith, r.deep, h.longer);
  free = always_later (λ later. IsFree later depth next) (drafted a) (drafted b) h.grows r.free;
}

pub ready_then : (a b : Draft) (todo : Todo) (next place depth : ℕ) → IsReady a next depth → IsEmitted a b todo next place → IsReady b place depth
ready_then a b todo next place depth r h = record {
  linked = h.written.more.linked;
  within = h.within;
  deep = omega (arith, r.deep, h.written.more.longer);
  free = free_then (drafted b) depth todo place next h.leads (ready_more a b next depth r h.written.more).free;
}

pub emitted_none : (d : Draft) (next depth : ℕ) → IsReady d next depth → IsEmitted d d [] next next
emitted_none d next depth r = record { written = written_none d r.linked; within = r.within; leads = λ later linked more counters. refl }

pub emitted_then : (a b c : Draft) (j k : Todo) (next mid place : ℕ) → IsEmitted a b k next mid → IsEmitted b c j mid place → IsEmitted a c (j ++ k) next place
emitted_then a b c j k next mid place h i = record {
  written = written_then a b c h.written i.written;
  within = i.within;
  leads = leads_then (drafted c) j k place mid next i.leads (always_later (λ later. Leads later.links k mid next) (drafted b) (drafted c) i.written.more.grows h.leads);
}

pub emitted_after : (a b c : Draft) (todo : Todo) (next place : ℕ) → Written a b → IsEmitted b c todo next place → IsEmitted a c todo next place
emitted_after a b c todo next place h i = record { written = written_then a b c h i.written; within = i.within; leads = i.leads }

pub ok_after : (a b c : Draft) (todo : Todo) (next : ℕ) (r : Result ℕ AllocError) → Written a b → IfOk r (λ p. IsEmitted b c todo next p) → IfOk r (λ p. IsEmitted a c todo next p)
ok_after a b c todo next (Ok p) h i = emitted_after a b c todo next p h i
ok_after a b c todo next (Err e) h i = tt

pub emitted_put : (old new : Draft) (x : Op) (s : Statement) (next depth place : ℕ) → IsReady old next depth → is_block (out-Statement s) ≡ false → link_of x ≡ record { job = performs s; behind = next } →
    Always (drafted old) (λ later. Fits later x (suc (length old.ops.items))) → new.ops.items ≡ old.ops.items ++ x ∷ [] → new.counters ≡ old.counters → place ≡ suc (length old.ops.items) → IsEmitted old new (flat s) next place
emitted_put old new x s next depth place ready single l fits e same at =
    let behind : x.behind ≡ next = ap (λ (k : Link). k.behind) l in
    let written : Written old new = written_put old new x ready.linked e (omega (arith, same)) (omega (arith, behind, ready.within)) fits in
    let here : slice_get new.ops.items (length old.ops.items) ≡ Some x = ap (λ (k : List Op). slice_get k (length old.ops.items)) e ∙ at_seam old.ops.items x in
    let leads : AlwaysLeads (drafted new) (perform s ∷ []) (suc (length old.ops.items)) next =
    leads_here (drafted new) (length old.ops.items) (record { job = performs s; behind = next }) s (link_here new.ops.items (length old.ops.items) x here ∙ ap Some l) refl in
    record {
      written = written;
      within = omega (arith, at, ap length e, length-append old.ops.items (x ∷ []));
      leads = subst (λ (p : ℕ). AlwaysLeads (drafted new) (flat s) p next) (sym at)
          (subst (λ (t : Todo). AlwaysLeads (drafted new) t (suc (length old.ops.items)) next) (sym (flat-single s single)) leads);
    }

-- ---- the items of a `case`

pub lead_all-snoc : (links : List Link) (items : List (Vec Typed Global × Statement)) (starts : List ℕ) (i : Vec Typed Global × Statement) (p next : ℕ) → LeadAll links items starts next → Leads links (flat i.1) p next → LeadAll links (items ++ i ∷ []) (starts ++ p ∷ []) next
lead_all-snoc links [] [] i p next h k = (k, tt)
lead_all-snoc links (j ∷ items) (q ∷ starts) i p next h k = (h.0, lead_all-snoc links items starts i p next h.1 k)
lead_all-snoc links [] (q ∷ starts) i p next h k = absurd h
lead_all-snoc links (j ∷ items) [] i p next h k = absurd h

-- more counters
pub written_raised : (d : Draft) (n : ℕ) → AreLinked (links_of d.ops.items) → d.counters ≤ n → Written d (record d { counters = n })
written_raised d n h le = record {
  more = record { grows = record { links = λ i l e. e; counters = le }; longer = omega arith; kept = λ i lt. refl; linked = h };
  fits = λ i x ge e. absurd (omega (arith, slice_get_within d.ops.items i x e));
}

-- ---- an error

pub none_ok : {T E : Type 0} (P : T → Type 0) (Q : E → Type 0) (r : Result T E) → IsErrAnd r Q → IfOk r P
none_ok P Q (Ok x) e = absurd e
none_ok P Q (Err y) e = tt

pub on_err : {T E : Type 0} (P : Type 0) (r : Result T E) → P → OnErr r P
on_err P (Ok x) p = tt
on_err P (Err y) p = p
