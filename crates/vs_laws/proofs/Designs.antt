-- Designs that say the same, with the same numbers in their texts.
use Rattle.std.proofs.Common.{◌≡◌, ℕ, zero, suc, ◌==◌, ◌&&◌, ◌||◌, Bool, true, Option, Some, None, List, [], ◌∷◌, length, map, replicate, slice_get, nat_lt, refl, ap, ap₂, sym, subst, ◌∙◌}
use Rattle.std.proofs.lemmas.List.{length-map}
use Rattle.std.proofs.lemmas.Option.{none-some, same_Some}
use Rattle.std.specs.List.{AllZip, list_any}
use Rattle.vs_syntax.specs.Same.{SameOption, both_absent, both_there}
use Rattle.vs_design.specs.vs_logic4.specs.declared.digit.Digit.{Digit}
use Rattle.vs_design.specs.declared.design.Assign.{Assign}
use Rattle.vs_design.specs.declared.design.Process.{Process}
use Rattle.vs_design.specs.declared.range.BitRange.{BitRange}
use Rattle.vs_design.specs.declared.signal.Signal.{Signal}
use Rattle.vs_design.specs.Parts.{Parts}
use Rattle.vs_design.specs.Stores.{start_digits, start_words, start_store, drives_bit}
use Rattle.vs_design.specs.Uses.{covers}
use Rattle.vs_design.specs.WellFormed.{numbers, counts_from, width_at}
use Rattle.vs_elab_statements.specs.vs_elab_signals.specs.Outlines.{Declared, declared}
use Rattle.vs_elaborate.specs.Same.{SameAssign, SameProcess, SameDesign}
use Rattle.vs_process.specs.Bits.{common_word, common_place, meet_in}
use Rattle.vs_laws.proofs.Alike.{Alike, alike_of}
use Rattle.vs_laws.proofs.Turned.{zip_turned, turned, sides_turned}

abbrev pub SameSignal : Signal → Signal → Type 0
SameSignal s s' = declared s ≡ declared s'

pub record AlikeProcess (p p' : Process) : Type 0 where
  pub name : p.name.items ≡ p'.name.items
  pub kind : p.kind ≡ p'.kind
  pub body : Alike p.body p'.body

-- the numbers of the texts of a design count up
abbrev pub AreNumbered : Parts → Type 0
AreNumbered d = (i : ℕ) (p : Process) → slice_get d.processes i ≡ Some p → counts_from 0 (numbers p.body) ≡ true

pub record Twins (d d' : Parts) : Type 0 where
  pub signals : map declared d.signals ≡ map declared d'.signals
  pub assigns : AllZip SameAssign d.assigns d'.assigns
  pub processes : AllZip AlikeProcess d.processes d'.processes
  pub numbered : AreNumbered d
  pub numbered_too : AreNumbered d'

-- ---- elements of lists in step

zip_at : {A : Type 0} (R : A → A → Type 0) (xs xs' : List A) → AllZip R xs xs' → (i : ℕ) → SameOption R (slice_get xs i) (slice_get xs' i)
zip_at R [] [] h i = both_absent
zip_at R [] (x' ∷ xs') h i = absurd h
zip_at R (x ∷ xs) [] h i = absurd h
zip_at R (x ∷ xs) (x' ∷ xs') h zero = both_there x x' h.0
zip_at R (x ∷ xs) (x' ∷ xs') h (suc i) = zip_at R xs xs' h.1 i

zip_long : {A : Type 0} (R : A → A → Type 0) (xs xs' : List A) → AllZip R xs xs' → length xs ≡ length xs'
zip_long R [] [] h = refl
zip_long R [] (x' ∷ xs') h = absurd h
zip_long R (x ∷ xs) [] h = absurd h
zip_long R (x ∷ xs) (x' ∷ xs') h = ap suc (zip_long R xs xs' h.1)

zip_as : {A : Type 0} (R S : A → A → Type 0) → ((x x' : A) → R x x' → S x x') → (xs xs' : List A) → AllZip R xs xs' → AllZip S xs xs'
zip_as R S f [] [] h = tt
zip_as R S f [] (x' ∷ xs') h = absurd h
zip_as R S f (x ∷ xs) [] h = absurd h
zip_as R S f (x ∷ xs) (x' ∷ xs') h = (f x x' h.0, zip_as R S f xs xs' h.1)

abbrev first_in : Declared → List Declared → Declared
first_in s [] = s
first_in s (x ∷ xs) = x

abbrev rest_in : List Declared → List Declared
rest_in [] = []
rest_in (x ∷ xs) = xs

signals_at : (ss ss' : List Signal) → map declared ss ≡ map declared ss' → (v : ℕ) → SameOption SameSignal (slice_get ss v) (slice_get ss' v)
signals_at [] [] e v = both_absent
signals_at [] (s' ∷ ss') e v = cc
signals_at (s ∷ ss) [] e v = cc
signals_at (s ∷ ss) (s' ∷ ss') e zero = both_there s s' (ap (first_in (declared s)) e)
signals_at (s ∷ ss) (s' ∷ ss') e (suc v) = signals_at ss ss' (ap rest_in e) v

-- what one list has at a place, the other has too
pub record Other {A : Type 0} (R : A → A → Type 0) (x : A) (o : Option A) : Type 0 where
  pub other : A
  pub is : o ≡ Some other
  pub same : R x other

there : {A : Type 0} (R : A → A → Type 0) (o o' : Option A) (x : A) → SameOption R o o' → o ≡ Some x → Other R x o'
there R _ _ x both_absent e = absurd (none-some x e)
there R _ _ x (both_there y y' h) e = record { other = y'; is = refl; same = subst (λ z. R z y') (same_Some y x e) h }

-- ---- twins

assign_turned : (a a' : Assign) → SameAssign a a' → SameAssign a' a
assign_turned a a' h = record { name = sym h.name; sides = sides_turned a.target a'.target a.source a'.source h.sides }

process_turned : (p p' : Process) → AlikeProcess p p' → AlikeProcess p' p
process_turned p p' h = record { name = sym h.name; kind = sym h.kind; body = turned p.body p'.body h.body }

pub back : {d d' : Parts} → Twins d d' → Twins d' d
back {d} {d'} t = record {
  signals = sym t.signals;
  assigns = zip_turned SameAssign assign_turned d.assigns d'.assigns t.assigns;
  processes = zip_turned AlikeProcess process_turned d.processes d'.processes t.processes;
  numbered = t.numbered_too;
  numbered_too = t.numbered;
}

process_as : (p p' : Process) → SameProcess p p' → AlikeProcess p p'
process_as p p' h = record { name = h.name; kind = h.kind; body = alike_of p.body p'.body h.body h.numbered }

pub twins : (d d' : Parts) → SameDesign d d' → AreNumbered d → AreNumbered d' → Twins d d'
twins d d' h n n' = record {
  signals = h.signals;
  assigns = h.assigns;
  processes = zip_as SameProcess AlikeProcess process_as d.processes d'.processes h.processes;
  numbered = n;
  numbered_too = n';
}

-- ---- their parts by numbers

pub signals_alike : {d d' : Parts} → Twins d d' → (v : ℕ) → SameOption SameSignal (slice_get d.signals v) (slice_get d'.signals v)
signals_alike {d} {d'} t v = signals_at d.signals d'.signals t.signals v

pub assigns_alike : {d d' : Parts} → Twins d d' → (j : ℕ) → SameOption SameAssign (slice_get d.assigns j) (slice_get d'.assigns j)
assigns_alike {d} {d'} t j = zip_at SameAssign d.assigns d'.assigns t.assigns j

pub processes_alike : {d d' : Parts} → Twins d d' → (i : ℕ) → SameOption AlikeProcess (slice_get d.processes i) (slice_get d'.processes i)
processes_alike {d} {d'} t i = zip_at AlikeProcess d.processes d'.processes t.processes i

pub signal_there : {d d' : Parts} → Twins d d' → (v : ℕ) (s : Signal) → slice_get d.signals v ≡ Some s → Other SameSignal s (slice_get d'.signals v)
signal_there {d} {d'} t v s e = there SameSignal (slice_get d.signals v) (slice_get d'.signals v) s (signals_alike t v) e

pub assign_there : {d d' : Parts} → Twins d d' → (j : ℕ) (a : Assign) → slice_get d.assigns j ≡ Some a → Other SameAssign a (slice_get d'.assigns j)
assign_there {d} {d'} t j a e = there SameAssign (slice_get d.assigns j) (slice_get d'.assigns j) a (assigns_alike t j) e

pub process_there : {d d' : Parts} → Twins d d' → (i : ℕ) (p : Process) → slice_get d.processes i ≡ Some p → Other AlikeProcess p (slice_get d'.processes i)
process_there {d} {d'} t i p e = there AlikeProcess (slice_get d.processes i) (slice_get d'.processes i) p (processes_alike t i) e

pub as_many_signals : {d d' : Parts} → Twins d d' → length d.signals ≡ length d'.signals
as_many_signals {d} {d'} t = sym (length-map d.signals declared) ∙ ap length t.signals ∙ length-map d'.signals declared

pub as_many_assigns : {d d' : Parts} → Twins d d' → length d.assigns ≡ length d'.assigns
as_many_assigns {d} {d'} t = zip_long SameAssign d.assigns d'.assigns t.assigns

pub as_many_processes : {d d' : Parts} → Twins d d' → length d.processes ≡ length d'.processes
as_many_processes {d} {d'} t = zip_long AlikeProcess d.processes d'.processes t.processes

-- ---- ranges that meet

words_by : (o o' : Option Signal) (p q : Option ℕ) → SameOption SameSignal o o' → common_word o p q ≡ common_word o' p q
words_by _ _ p q both_absent = refl
words_by _ _ None None (both_there s s' h) = refl
words_by _ _ None (Some x) (both_there s s' h) = ap (λ (z : Declared). nat_lt x z.count) h
words_by _ _ (Some w) None (both_there s s' h) = ap (λ (z : Declared). nat_lt w z.count) h
words_by _ _ (Some w) (Some x) (both_there s s' h) = refl

width_by : (o o' : Option Signal) → SameOption SameSignal o o' → width_at o ≡ width_at o'
width_by _ _ both_absent = refl
width_by _ _ (both_there s s' h) = ap (λ (z : Declared). z.width) h

pub meets_same : {d d' : Parts} → Twins d d' → (r q : BitRange) → meet_in d r q ≡ meet_in d' r q
meets_same {d} {d'} t r q =
    let same = signals_alike t r.signal in
    ap₂ (λ (a : Bool) (w : ℕ). (r.signal == q.signal) && a && common_place w r.bits q.bits)
    (words_by (slice_get d.signals r.signal) (slice_get d'.signals r.signal) r.word q.word same)
    (width_by (slice_get d.signals r.signal) (slice_get d'.signals r.signal) same)

-- ---- the store at the start

drives_same : (as' bs : List Assign) → AllZip SameAssign as' bs → (v place : ℕ) → drives_bit as' v place ≡ drives_bit bs v place
drives_same [] [] h v place = refl
drives_same [] (b ∷ bs) h v place = absurd h
drives_same (a ∷ as') [] h v place = absurd h
drives_same (a ∷ as') (b ∷ bs) h v place = ap₂ (λ x y. x || y) (ap (list_any (covers v 0 place)) h.0.sides.target.ranges) (drives_same as' bs h.1 v place)

-- what each word of such a signal holds before the first step
abbrev words_of : (ℕ → Bool) → Declared → List (List Digit)
words_of driven s = replicate s.count (start_digits driven s.kind 0 s.width)

words_same : (as' bs : List Assign) → AllZip SameAssign as' bs → (first : ℕ) (ss ss' : List Signal) → map declared ss ≡ map declared ss' → start_words as' first ss ≡ start_words bs first ss'
words_same as' bs h first [] [] e = refl
words_same as' bs h first [] (s' ∷ ss') e = cc
words_same as' bs h first (s ∷ ss) [] e = cc
words_same as' bs h first (s ∷ ss) (s' ∷ ss') e =
    let driven : drives_bit as' first ≡ drives_bit bs first = λ i place. drives_same as' bs h first place i in
    ap₂ (λ x xs. x ∷ xs) (ap₂ words_of driven (ap (first_in (declared s)) e)) (words_same as' bs h (suc first) ss ss' (ap rest_in e))

pub start_same : {d d' : Parts} → Twins d d' → start_store d ≡ start_store d'
start_same {d} {d'} t = words_same d.assigns d'.assigns t.assigns 0 d.signals d'.signals t.signals
