-- Scopes inside a scope, by their names.
use Rattle.std.proofs.Common.{◌≡◌, ℕ, zero, suc, ◌+◌, ◌<◌, ◌≤◌, ◌⊎◌, inl, inr, ⊎_elim, ℤ, Bool, true, false, cond, List, [], ◌∷◌, Option, Some, None, IsSome, length, map, All, refl, ap, sym, subst, ◌∙◌, arith}
use Rattle.std.proofs.Math.ListN.{set}
use Rattle.std.specs.List.{slice_get, AllZip}
use Rattle.std.specs.Str.{bytes_eq}
use Rattle.std.proofs.lemmas.Option.{none-some, same_Some, slice_get_within}
use Rattle.std.proofs.lemmas.Slice.Eq.{bytes_eq-Decides}
use Rattle.vs_syntax.specs.declared.tree.Module.{Module}
use Rattle.vs_elab_constants.specs.vs_widths.specs.Names.{meaning_of, Binds as NamesBind}
use Rattle.vs_scopes.specs.declared.printed.PartName.{PartName as FoundPart}
use Rattle.vs_scopes.specs.declared.printed.PartName.TheVariants as part
use Rattle.vs_scopes.specs.declared.printed.PathName.{PathName as FoundName}
use Rattle.vs_scopes.specs.Printed.{plainly}
use Rattle.vs_scopes.specs.Scopes.{Scope, named, named_at, scopes_of}
use Rattle.vs_scopes.specs.scopes_passes.Names.{read_part, read_title}
use Rattle.vs_elab_signals.specs.declared.opened.ElabScope.{ElabScope as FoundScope}
use Rattle.vs_elab_signals.specs.declared.opened.Hierarchy.{Hierarchy}
use Rattle.vs_elab_signals.specs.declared.opened.Numbering.{Numbering}
use Rattle.vs_elab_signals.specs.Opened.{HasParentScope, IsScopeOf, IsOpened, AreOpened, AreSeated, HasBlocks, OpensAll}
use Rattle.vs_elab_signals.specs.Outlines.{declared, IsEntry, outline_of}
use Rattle.vs_elab_hierarchy.specs.passes.Blocks.{named_text, text_name, HasIndex, HasNoBlocks, with_blocks, IsIndexed, AreIndexedUpTo, AddsBlock, AreIndexed, HasInside, AreNamed}
use Rattle.vs_elab_hierarchy.specs.hierarchy_passes.Opens.{Made}
use Rattle.vs_elab_hierarchy.proofs.ListLemmas.{same_at, all_at, zip_by}
use Rattle.vs_elab_hierarchy.proofs.SeatLemmas.{opened_many, opened_here, scope_at}
use Rattle.vs_elab_hierarchy.proofs.SourceLemmas.{none_stands}

-- ---- one element that is set

pub set_here : {A : Type 0} (xs : List A) (i : ℕ) (v x : A) → slice_get xs i ≡ Some x → slice_get (set xs i v) i ≡ Some v
set_here [] i v x h = absurd (none-some x h)
set_here (y ∷ ys) zero v x h = refl
set_here (y ∷ ys) (suc i) v x h = set_here ys i v x h

pub set_other : {A : Type 0} (xs : List A) (i k : ℕ) (v : A) → (k ≡ i → ⊥) → slice_get (set xs i v) k ≡ slice_get xs k
set_other [] i k v n = refl
set_other (y ∷ ys) zero zero v n = absurd (n refl)
set_other (y ∷ ys) zero (suc k) v n = refl
set_other (y ∷ ys) (suc i) zero v n = refl
set_other (y ∷ ys) (suc i) (suc k) v n = set_other ys i k v (λ e. n (ap suc e))

pub set_length : {A : Type 0} (xs : List A) (i : ℕ) (v : A) → length (set xs i v) ≡ length xs
set_length [] i v = refl
set_length (y ∷ ys) zero v = refl
set_length (y ∷ ys) (suc i) v = ap suc (set_length ys i v)

same_or_not : (i k : ℕ) → (k ≡ i) ⊎ (k ≡ i → ⊥)
same_or_not zero zero = inl refl
same_or_not zero (suc k) = inr (λ e. (let l : suc k ≡ zero = e in absurd (omega (arith, l))))
same_or_not (suc i) zero = inr (λ e. (let l : zero ≡ suc i = e in absurd (omega (arith, l))))
same_or_not (suc i) (suc k) = ⊎_elim (λ e. inl (ap suc e)) (λ n. inr (λ e. n (omega (arith, e)))) (same_or_not i k)

less_or : (i k : ℕ) → k < suc i → (k ≡ i → ⊥) → k < i
less_or zero zero l n = absurd (n refl)
less_or zero (suc k) l n = absurd (omega (arith, l))
less_or (suc i) zero l n = omega arith
less_or (suc i) (suc k) l n = (let rest = less_or i k (omega (arith, l)) (λ e. n (ap suc e)) in omega (arith, rest))

-- ---- scopes that are told of those in them

pub indexed_none : (list : List FoundScope) → All HasNoBlocks list → AreIndexedUpTo list 0 list
indexed_none list h = record {
  many = refl;
  each = λ place o e. record {
    o = o;
    stands = e;
    same = record { blocks = o.blocks; same = refl };
    found = λ n k f. absurd (none-some k (sym (ap (λ (z : List (List ℕ × ℕ)). meaning_of z n) (all_at HasNoBlocks list place o h e)) ∙ f));
    all = λ n k inner l. absurd (omega (arith, l));
  };
}

-- what another scope is, before it is told of those in it
pub indexed_around : (start : List FoundScope) (count place : ℕ) (list : List FoundScope) (o : FoundScope) → AreIndexedUpTo start count list → slice_get list place ≡ Some o → (x : FoundScope) × (slice_get start place ≡ Some x) × (o.around ≡ x.around) × (o.title ≡ x.title)
indexed_around start count place list o h e =
    let i = h.each place o e in
    (i.o, i.stands, ap (λ (z : FoundScope). z.around) i.same.same, ap (λ (z : FoundScope). z.title) i.same.same)

pub index_place : (start : List FoundScope) (count place : ℕ) (list : List FoundScope) → AreIndexedUpTo start count list → ((k : ℕ) → k < length start → HasIndex start k) → place < length start → HasIndex list place
index_place start count place list h all l = (
  omega (arith, l, h.many),
  λ o k e a.
      (let x = indexed_around start count place list o h e in
      let small : k < length start = (all place l).1 x.0 k x.1 (sym x.2 ∙ a) in omega (arith, small, h.many)),
)

-- a scope that isn't named
pub adds_none : (place : ℕ) (list : List FoundScope) (one : FoundScope) → slice_get list place ≡ Some one → ((k : ℕ) (n : List ℕ) → one.around ≡ Some k → text_name one.title ≡ Some n → ⊥) → AddsBlock place list list
adds_none place list one e none start h = record {
  many = h.many;
  each = λ k o f. (let i = h.each k o f in record {
    o = i.o;
    stands = i.stands;
    same = i.same;
    found = λ n j q. (let x = i.found n j q in (x.0, (let small : j < suc place = omega (arith, x.1) in small), x.2, x.3, x.4));
    all = λ n j inner l s a t. ⊎_elim (λ q. absurd (other n j inner k q s a t)) (λ q. i.all n j inner (less_or place j l q) s a t) (same_or_not place j);
  });
}
  where
    other : (n : List ℕ) (j : ℕ) (inner : FoundScope) (k : ℕ) → j ≡ place → slice_get start j ≡ Some inner → inner.around ≡ Some k → text_name inner.title ≡ Some n → ⊥
    other n j inner k q s a t =
        let x = indexed_around start place place list one h e in
        let same : x.0 ≡ inner = same_at start place x.0 inner x.1 (ap (slice_get start) (sym q) ∙ s) in
        none k n (x.2 ∙ ap (λ (z : FoundScope). z.around) same ∙ a) (ap text_name x.3 ∙ ap (λ (z : FoundScope). text_name z.title) same ∙ t)

module _ (place around : ℕ) (list : List FoundScope) (o one : FoundScope) (n : List ℕ) (bs : List (List ℕ × ℕ)) (here : slice_get list place ≡ Some one) (inside : one.around ≡ Some around) (title : text_name one.title ≡ Some n) (there : slice_get list around ≡ Some o) (binds : NamesBind o.blocks bs n place)
    (start : List FoundScope) (h : AreIndexedUpTo start place list) where
  -- the scope that is told of
  one_there : (x : FoundScope) × (slice_get start place ≡ Some x) × (x.around ≡ Some around) × (text_name x.title ≡ Some n)
  one_there = let x = indexed_around start place place list one h here in (x.0, x.1, sym x.2 ∙ inside, ap text_name (sym x.3) ∙ title)

  same_one : (j : ℕ) (inner : FoundScope) → j ≡ place → slice_get start j ≡ Some inner → one_there.0 ≡ inner
  same_one j inner q s = same_at start place one_there.0 inner one_there.1 (ap (slice_get start) (sym q) ∙ s)

  found_by : (m : List ℕ) (c : Bool) → bytes_eq n m ≡ c → (k : ℕ) → cond c (Some place) (meaning_of o.blocks m) ≡ Some k →
      (inner : FoundScope) × (k < suc place) × (slice_get start k ≡ Some inner) × (inner.around ≡ Some around) × (text_name inner.title ≡ Some m)
  found_by m true e k f =
      let same : place ≡ k = same_Some place k f in
      let name : n ≡ m = (bytes_eq-Decides n m).0 e in
      (one_there.0, (let small : k < suc place = omega (arith, same) in small), ap (slice_get start) (sym same) ∙ one_there.1, one_there.2, one_there.3 ∙ ap Some name)
  found_by m false e k f = let x = (h.each around o there).found m k f in (x.0, (let small : k < suc place = omega (arith, x.1) in small), x.2, x.3, x.4)

  all_by : (m : List ℕ) (c : Bool) → bytes_eq n m ≡ c → (k : ℕ) (inner : FoundScope) → k < suc place → slice_get start k ≡ Some inner → inner.around ≡ Some around → text_name inner.title ≡ Some m →
      (j : ℕ) × (cond c (Some place) (meaning_of o.blocks m) ≡ Some j)
  all_by m true e k inner l s a t = (place, refl)
  all_by m false e k inner l s a t = (h.each around o there).all m k inner (less_or place k l other) s a t
    where
      other : k ≡ place → ⊥
      other q =
          let name : n ≡ m = same_Some n m (sym one_there.3 ∙ ap (λ (z : FoundScope). text_name z.title) (same_one k inner q s) ∙ t) in
          wrong (sym ((bytes_eq-Decides n m).1 name) ∙ e)
        where
          wrong : true ≡ false → ⊥
          wrong z = cc

  told_here : IsIndexed start (suc place) around (with_blocks o bs)
  told_here =
      let i = h.each around o there in
      record {
        o = i.o;
        stands = i.stands;
        same = record { blocks = bs; same = ap (λ (z : FoundScope). with_blocks z bs) i.same.same };
        found = λ m k f. found_by m (bytes_eq n m) refl k (sym (binds m) ∙ f);
        all = λ m k inner l s a t. (let x = all_by m (bytes_eq n m) refl k inner l s a t in (x.0, binds m ∙ x.1));
      }

  told_other : (k : ℕ) (x : FoundScope) → (k ≡ around → ⊥) → slice_get list k ≡ Some x → IsIndexed start (suc place) k x
  told_other k x apart e =
      let i = h.each k x e in
      record {
        o = i.o;
        stands = i.stands;
        same = i.same;
        found = λ m j q. (let y = i.found m j q in (y.0, (let small : j < suc place = omega (arith, y.1) in small), y.2, y.3, y.4));
        all = λ m j inner l s a t. i.all m j inner (less_or place j l (λ q. apart (same_Some k around (sym a ∙ ap (λ (z : FoundScope). z.around) (sym (same_one j inner q s)) ∙ one_there.2)))) s a t;
      }

  pub adds_one : (new : List FoundScope) → new ≡ set list around (with_blocks o bs) → AreIndexedUpTo start (suc place) new
  adds_one new e = record {
    many = ap length e ∙ set_length list around (with_blocks o bs) ∙ h.many;
    each = λ k x f.
        (let g = ap (λ z. slice_get z k) (sym e) ∙ f in
        ⊎_elim (λ q. (let same : with_blocks o bs ≡ x = same_Some (with_blocks o bs) x (sym (set_here list around (with_blocks o bs) o there) ∙ ap (slice_get (set list around (with_blocks o bs))) (sym q) ∙ g) in
        subst (λ z. IsIndexed start (suc place) z x) (sym q) (subst (IsIndexed start (suc place) around) same told_here)))
        (λ q. told_other k x q (sym (set_other list around k (with_blocks o bs) q) ∙ g)) (same_or_not around k));
  }

-- ---- what all of them are told

with_blocks_entered : (ss : List Scope) (o : FoundScope) (s : Scope) (bs : List (List ℕ × ℕ)) → IsScopeOf ss o s → IsScopeOf ss (with_blocks o bs) s
with_blocks_entered ss o s bs h = record {
  title = h.title;
  kind = h.kind;
  number = h.number;
  base = h.base;
  instances = h.instances;
  turns = h.turns;
  depth = h.depth;
  nets = h.nets;
  text = h.text;
  told = h.told;
  ports = h.ports;
  pieces = h.pieces;
  constants = h.constants;
  known = h.known;
  within = h.within;
  home = h.home;
  around = h.around;
  sight = h.sight;
  ends = h.ends;
  lefts = h.lefts;
}

module _ (list new : List FoundScope) (indexed : AreIndexed list new) where
  pub indexed_opened : (ss : List Scope) → AreOpened list ss → AreOpened new ss
  indexed_opened ss h = record {
    each = zip_by (IsOpened ss) new ss (indexed.many ∙ opened_many list ss h) (λ k o s e f.
        (let i = indexed.each k o e in
        let was = opened_here list ss k i.o s h i.stands f in
        let now : IsOpened ss (with_blocks i.o i.same.blocks) s = record { entered = with_blocks_entered ss i.o s i.same.blocks was.entered; names = was.names } in
        subst (λ z. IsOpened ss z s) (sym i.same.same) now));
    places = h.places;
  }

  pub indexed_seated : AreSeated list → AreSeated new
  indexed_seated h = record {
    around = λ place k o e a. (let i = indexed.each place o e in h.around place k i.o i.stands (sym (ap (λ (z : FoundScope). z.around) i.same.same) ∙ a));
    home = λ place o e. (let i = indexed.each place o e in let l = h.home place i.o i.stands in let same : o.home ≡ i.o.home = ap (λ (z : FoundScope). z.home) i.same.same in omega (arith, l, same));
  }

-- a title that is a name of the text
title_plain : (p : FoundPart) (t : Option ℤ) (n : List ℕ) → named_text t p ≡ Some n → record { name = read_part p; turn = t } ≡ plainly n
title_plain (part.Text m) None n e = ap plainly (same_Some m.now n e)
title_plain (part.Unnamed z k) None n e = absurd (none-some n e)
title_plain p (Some v) n e = absurd (none-some n e)

plain_read : (x : FoundName) (n : List ℕ) → text_name x ≡ Some n → read_title x ≡ plainly n
plain_read x n h = title_plain x.name x.turn n h

within_named : (ss : List Scope) (place : ℕ) (o : Option ℕ) (s t : Scope) (n : List ℕ) → o ≡ Some place → slice_get ss place ≡ Some s → t.title ≡ plainly n → HasParentScope ss o t → t.path ≡ named s n
within_named ss place None s t n e f p h = absurd (none-some place e)
within_named ss place (Some k) s t n e f p h =
    let same : k ≡ place = same_Some k place e in
    let outer : h.outer_scope ≡ s = same_at ss place h.outer_scope s (ap (slice_get ss) (sym same) ∙ h.stands) f in
    h.path ∙ ap (λ (z : Scope). named_at z t.title) outer ∙ ap (named_at s) p

pub has_blocks : (list new : List FoundScope) (ss : List Scope) → AreIndexed list new → AreOpened list ss → AreNamed list 0 ss → AllZip (HasBlocks ss) new ss
has_blocks list new ss indexed h apart = zip_by (HasBlocks ss) new ss (indexed.many ∙ opened_many list ss h) by
  where
    by : (k : ℕ) (o : FoundScope) (s : Scope) → slice_get new k ≡ Some o → slice_get ss k ≡ Some s → HasBlocks ss o s
    by k o s e f = record {
      found = λ n place q.
          (let x = (indexed.each k o e).found n place q in
          let t = scope_at list ss place x.0 h x.2 in
          let entered = t.2.entered in
          record { inner = t.0; stands = t.1; path = within_named ss k x.0.around s t.0 n x.3 f (sym entered.title ∙ plain_read x.0.title n x.4) entered.around });
      all = λ j x q.
          (let z : 0 + k ≡ k = omega arith in
          let y : HasInside list k x.name = subst (λ i. HasInside list i x.name) z (apart k s f j x q) in
          let found = (indexed.each k o e).all x.name y.number y.o (slice_get_within list y.number y.o y.stands) y.stands y.around y.title in
          is_some_of (meaning_of o.blocks x.name) found.0 found.1);
    }
      where
        is_some_of : (m : Option ℕ) (v : ℕ) → m ≡ Some v → IsSome m
        is_some_of None v g = absurd (none-some v g)
        is_some_of (Some w) v g = refl

pub opens_all : (ms : List Module) (top : List ℕ) (list : List FoundScope) (plan : Numbering) (x : Hierarchy) → Made ms top list plan → AreIndexed list x.scopes.items → x.signals ≡ plan.signals → x.outline ≡ plan.outline → OpensAll ms top x
opens_all ms top list plan x made indexed signals outline =
    let ss = scopes_of ms top in
    record {
      none = none_stands ms top list plan made;
      scopes = indexed_opened list x.scopes.items indexed ss made.planned.opened;
      blocks = has_blocks list x.scopes.items ss indexed made.planned.opened made.named;
      signals = ap (λ z. map declared z.items) signals ∙ made.planned.shown;
      room = subst (λ z. length z.items ≤ 65536) (sym signals) made.planned.room;
      outline = subst (λ z. AllZip IsEntry z.items (outline_of ms top)) (sym outline) made.outline;
    }
