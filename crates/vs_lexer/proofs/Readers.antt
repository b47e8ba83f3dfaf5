-- Readers of parts stop at the same place, whatever follows.
use Rattle.std.proofs.Common.{◌≡◌, ℕ, Bool, true, false, nat_eq, nat_lt, if◌then◌else◌, List, [], ◌∷◌, ◌++◌, Option, Some, None, refl, sym, ap, ◌∙◌, subst, append_assoc, eq-eqb}
use Rattle.std.specs.List.{list_all}
use Rattle.std.specs.Prelude.{codes}
use Rattle.std.proofs.lemmas.List.{append-nil}
use borrow.Author.Tests.{eqb-true}
use Rattle.vs_lexer.specs.declared.token.Directive.{Directive}
use Rattle.vs_lexer.specs.declared.token.Directive.TheVariants as d
use Rattle.vs_lexer.specs.declared.token.ImplicitNet.TheVariants as i
use Rattle.vs_lexer.specs.declared.token.TextMagnitude.{TextMagnitude}
use Rattle.vs_lexer.specs.declared.token.TextMagnitude.TheVariants as m
use Rattle.vs_lexer.specs.declared.token.Time.{Time}
use Rattle.vs_lexer.specs.declared.token.TextUnit.{TextUnit}
use Rattle.vs_lexer.specs.declared.token.TextUnit.TheVariants as t
use Rattle.vs_lexer.specs.declared.refusal.Refusal.TheVariants as r
use Rattle.vs_lexer.specs.declared.piece.Piece.TheVariants.{Token, Refused}
use Rattle.vs_lexer.specs.declared.piece.Lexed.{Lexed}
use Rattle.vs_lexer.specs.declared.token.Kind.TheVariants as k
use Rattle.vs_lexer.specs.Bytes.{is_white, after_run}
use Rattle.vs_lexer.specs.Directives.{Reader, done, nowhere, with_rest, after_prefix, text, skip_white, white, next_is, next_is_white, by_next, some_white, follow, ◌then◌, number_at, unit_at, time_at, timescale_of, timescale_at, nettype_at, directive_at}
use Rattle.vs_lexer.specs.Times.{exponent}
use Rattle.vs_lexer.specs.Pieces.{directive_piece, directive_form}
use Rattle.vs_lexer.specs.Forms.{Longest}
use Rattle.vs_lexer.specs.Reading.{Reads}
use Rattle.vs_lexer.proofs.LongestRuns.{after_all}
use Rattle.vs_lexer.proofs.Openings.{alone_reads}

-- the bytes that were read, which are read so whatever follows them
record ReadFront {A : Type 0} (p : Reader A) (xs : List ℕ) (v : A) (rest : List ℕ) : Type 0 where
  front : List ℕ
  splits : xs ≡ front ++ rest
  again : (others : List ℕ) → p (front ++ others) ≡ Some (v, others)

-- whatever is read is read so whatever follows
record Strong {A : Type 0} (p : Reader A) : Type 0 where
  part : (xs : List ℕ) (v : A) (rest : List ℕ) → p xs ≡ Some (v, rest) → ReadFront p xs v rest

-- something is read
record Firm {A : Type 0} (p : Reader A) : Type 0 where
  none : p [] ≡ None

-- by what an answer is known
strong_done : {A : Type 0} (x : A) → Strong (done x)
strong_done {A} x = record {
  part = λ xs v rest e.
      let pair : ◌≡◌ {A = A × List ℕ} (x, xs) (v, rest) = cc in
      record { front = []; splits = ap (λ (y : A × List ℕ). y.1) pair; again = λ others. ap (λ (y : A × List ℕ). Some (y.0, others)) pair };
}

-- behind a text
behind_splits : (cs xs rest : List ℕ) → after_prefix cs xs ≡ Some rest → xs ≡ cs ++ rest
unfolding after_prefix
behind_splits [] xs rest e = cc
behind_splits (c ∷ cs) [] rest e = absurd cc
behind_splits (c ∷ cs) (b ∷ bs) rest e = split (behind_splits cs bs rest) (nat_eq b c) refl
  where
    split : (after_prefix cs bs ≡ Some rest → bs ≡ cs ++ rest) → (t : Bool) → nat_eq b c ≡ t → b ∷ bs ≡ c ∷ (cs ++ rest)
    split more true h =
        let found : after_prefix cs bs ≡ Some rest = rw h at e in
        let heads : b ≡ c = eqb-true b c h in
        let tails = more found in
        cc
    split more false h = let none : None ≡ Some rest = rw h at e in absurd cc

behind_again : (cs others : List ℕ) → after_prefix cs (cs ++ others) ≡ Some others
unfolding after_prefix
behind_again [] others = refl
behind_again (c ∷ cs) others = rw (eq-eqb c c refl) (behind_again cs others)

module _ {A : Type 0} where
  strong_text : (cs : List ℕ) (p : Reader A) → Strong p → Strong (text cs p)
  strong_text cs p strong = record { part = λ xs v rest e. at xs v rest (after_prefix cs xs) refl e }
    where
      at : (xs : List ℕ) (v : A) (rest : List ℕ) (o : Option (List ℕ)) → after_prefix cs xs ≡ o → with_rest o p ≡ Some (v, rest) → ReadFront (text cs p) xs v rest
      at xs v rest None h e = absurd cc
      at xs v rest (Some mid) h e =
          let inner = strong.part mid v rest e in
          record {
            front = cs ++ inner.front;
            splits = behind_splits cs xs mid h ∙ ap (λ (u : List ℕ). cs ++ u) inner.splits ∙ sym (append_assoc cs inner.front rest);
            again = λ others. ap (λ (u : List ℕ). with_rest (after_prefix cs u) p) (append_assoc cs inner.front others) ∙ ap (λ (o : Option (List ℕ)). with_rest o p) (behind_again cs (inner.front ++ others)) ∙ inner.again others;
          }

  firm_text : (c : ℕ) (cs : List ℕ) (p : Reader A) → Firm (text (c ∷ cs) p)
  unfolding after_prefix
  firm_text c cs p = record { none = refl }

  firm_white : (p : Reader A) → Firm p → Firm (white p)
  unfolding skip_white
  firm_white p firm = record { none = firm.none }

  -- where a test looks at the first byte alone
  module _ (test : List ℕ → Bool) (local : (b : ℕ) (xs ys : List ℕ) → test (b ∷ xs) ≡ test (b ∷ ys)) (p q : Reader A) (firm_p : Firm p) (firm_q : Firm q) where
    firm_by_next : Firm (by_next test p q)
    firm_by_next = record { none = elim (test []) as (λ v. (if v then p [] else q []) ≡ None) [ true ↦ firm_p.none | false ↦ firm_q.none ] }

    strong_by_next : Strong p → Strong q → Strong (by_next test p q)
    strong_by_next strong_p strong_q = record { part = at }
      where
        same_front : (r : Reader A) (firm : Firm r) (xs : List ℕ) (v : A) (rest : List ℕ) (t : Bool) → ((ys : List ℕ) → test ys ≡ t → by_next test p q ys ≡ r ys) → test xs ≡ t → ReadFront r xs v rest → ReadFront (by_next test p q) xs v rest
        same_front r firm xs v rest t pick h inner = record { front = inner.front; splits = inner.splits; again = λ others. pick (inner.front ++ others) (same inner.front inner.splits inner.again others) ∙ inner.again others }
          where
            same : (front : List ℕ) → xs ≡ front ++ rest → ((others : List ℕ) → r (front ++ others) ≡ Some (v, others)) → (others : List ℕ) → test (front ++ others) ≡ t
            same [] e again others = let some = again [] in let none = firm.none in absurd (cc (some, none))
            same (b ∷ front) e again others = local b (front ++ others) (front ++ rest) ∙ ap test (sym e) ∙ h

        choose : (xs : List ℕ) (v : A) (rest : List ℕ) (t : Bool) → test xs ≡ t → by_next test p q xs ≡ Some (v, rest) → ReadFront (by_next test p q) xs v rest
        choose xs v rest true h e = same_front p firm_p xs v rest true (λ ys f. rw f refl) h (strong_p.part xs v rest (rw h at e))
        choose xs v rest false h e = same_front q firm_q xs v rest false (λ ys f. rw f refl) h (strong_q.part xs v rest (rw h at e))

        at : (xs : List ℕ) (v : A) (rest : List ℕ) → by_next test p q xs ≡ Some (v, rest) → ReadFront (by_next test p q) xs v rest
        at xs v rest e = choose xs v rest (test xs) refl e

next_is_local : (c b : ℕ) (xs ys : List ℕ) → next_is c (b ∷ xs) ≡ next_is c (b ∷ ys)
unfolding next_is
next_is_local c b xs ys = refl

next_is_white_local : (b : ℕ) (xs ys : List ℕ) → next_is_white (b ∷ xs) ≡ next_is_white (b ∷ ys)
unfolding next_is_white
next_is_white_local b xs ys = refl

-- white space at the front, and what follows it
record Whites (xs : List ℕ) (y : ℕ) (ys : List ℕ) : Type 0 where
  whites : List ℕ
  splits : xs ≡ whites ++ y ∷ ys
  all : list_all is_white whites ≡ true
  black : is_white y ≡ false

whites : (xs : List ℕ) (y : ℕ) (ys : List ℕ) → after_run is_white xs ≡ y ∷ ys → Whites xs y ys
whites [] y ys e = absurd cc
whites (x ∷ xs) y ys e = split (whites xs y ys) (is_white x) refl
  where
    split : (after_run is_white xs ≡ y ∷ ys → Whites xs y ys) → (t : Bool) → is_white x ≡ t → Whites (x ∷ xs) y ys
    split more true h =
        let inner = more (rw h at e) in
        record { whites = x ∷ inner.whites; splits = ap (λ (u : List ℕ). x ∷ u) inner.splits; all = rw h inner.all; black = inner.black }
    split more false h =
        let same : x ∷ xs ≡ y ∷ ys = rw h at e in
        let heads : x ≡ y = cc in
        record { whites = []; splits = same; all = refl; black = rw heads at h }

module _ {A : Type 0} (p : Reader A) (firm : Firm p) (strong : Strong p) where
  strong_white : Strong (white p)
  unfolding skip_white
  strong_white = record { part = λ xs v rest e. at xs v rest (after_run is_white xs) refl e }
    where
      inside : (xs : List ℕ) (v : A) (rest : List ℕ) (y : ℕ) (ys : List ℕ) (w : Whites xs y ys) (front : List ℕ) → y ∷ ys ≡ front ++ rest → ((others : List ℕ) → p (front ++ others) ≡ Some (v, others)) → ReadFront (white p) xs v rest
      inside xs v rest y ys w [] e again = let some = again [] in let none = firm.none in absurd (cc (some, none))
      inside xs v rest y ys w (z ∷ front) e again =
          let heads : y ≡ z = cc in
          let black : is_white z ≡ false = rw heads at w.black in
          record {
            front = w.whites ++ z ∷ front;
            splits = w.splits ∙ ap (λ (u : List ℕ). w.whites ++ u) e ∙ sym (append_assoc w.whites (z ∷ front) rest);
            again = λ others. ap p (ap (after_run is_white) (append_assoc w.whites (z ∷ front) others) ∙ after_all is_white w.whites (z ∷ (front ++ others)) w.all black) ∙ again others;
          }

      at : (xs : List ℕ) (v : A) (rest : List ℕ) (mid : List ℕ) → after_run is_white xs ≡ mid → p mid ≡ Some (v, rest) → ReadFront (white p) xs v rest
      at xs v rest [] h e = let none = firm.none in absurd (cc (none, e))
      at xs v rest (y ∷ ys) h e = let inner = strong.part (y ∷ ys) v rest e in inside xs v rest y ys (whites xs y ys h) inner.front inner.splits inner.again

module _ {A B : Type 0} (p : Reader A) (q : A → Reader B) where
  strong_then : Strong p → ((a : A) → Strong (q a)) → Strong (p then q)
  strong_then strong each = record { part = λ xs v rest e. at xs v rest (p xs) refl e }
    where
      at : (xs : List ℕ) (v : B) (rest : List ℕ) (o : Option (A × List ℕ)) → p xs ≡ o → follow o q ≡ Some (v, rest) → ReadFront (p then q) xs v rest
      at xs v rest None h e = absurd cc
      at xs v rest (Some x) h e =
          let first = strong.part xs x.0 x.1 h in
          let second = (each x.0).part x.1 v rest e in
          record {
            front = first.front ++ second.front;
            splits = first.splits ∙ ap (λ (u : List ℕ). first.front ++ u) second.splits ∙ sym (append_assoc first.front second.front rest);
            again = λ others. ap (λ (u : List ℕ). follow (p u) q) (append_assoc first.front second.front others) ∙ ap (λ (o : Option (A × List ℕ)). follow o q) (first.again (second.front ++ others)) ∙ second.again others;
          }

  firm_then : Firm p → Firm (p then q)
  firm_then firm = record { none = ap (λ (o : Option (A × List ℕ)). follow o q) firm.none }

-- the bytes that were read, which are read so where the next byte is the same
record WeakReadFront {A : Type 0} (p : Reader A) (xs : List ℕ) (v : A) (y : ℕ) (rest : List ℕ) : Type 0 where
  front : List ℕ
  splits : xs ≡ front ++ y ∷ rest
  again : (others : List ℕ) → p (front ++ y ∷ others) ≡ Some (v, y ∷ others)

record Weak {A : Type 0} (p : Reader A) : Type 0 where
  part : (xs : List ℕ) (v : A) (y : ℕ) (rest : List ℕ) → p xs ≡ Some (v, y ∷ rest) → WeakReadFront p xs v y rest

weak_done : {A : Type 0} (x : A) → Weak (done x)
weak_done {A} x = record {
  part = λ xs v y rest e.
      let pair : ◌≡◌ {A = A × List ℕ} (x, xs) (v, y ∷ rest) = cc in
      record { front = []; splits = ap (λ (z : A × List ℕ). z.1) pair; again = λ others. ap (λ (z : A × List ℕ). Some (z.0, y ∷ others)) pair };
}

module _ {A : Type 0} where
  weak_text : (cs : List ℕ) (p : Reader A) → Weak p → Weak (text cs p)
  weak_text cs p weak = record { part = λ xs v y rest e. at xs v y rest (after_prefix cs xs) refl e }
    where
      at : (xs : List ℕ) (v : A) (y : ℕ) (rest : List ℕ) (o : Option (List ℕ)) → after_prefix cs xs ≡ o → with_rest o p ≡ Some (v, y ∷ rest) → WeakReadFront (text cs p) xs v y rest
      at xs v y rest None h e = absurd cc
      at xs v y rest (Some mid) h e =
          let inner = weak.part mid v y rest e in
          record {
            front = cs ++ inner.front;
            splits = behind_splits cs xs mid h ∙ ap (λ (u : List ℕ). cs ++ u) inner.splits ∙ sym (append_assoc cs inner.front (y ∷ rest));
            again = λ others. ap (λ (u : List ℕ). with_rest (after_prefix cs u) p) (append_assoc cs inner.front (y ∷ others)) ∙ ap (λ (o : Option (List ℕ)). with_rest o p) (behind_again cs (inner.front ++ y ∷ others)) ∙ inner.again others;
          }

  module _ (test : List ℕ → Bool) (local : (b : ℕ) (xs ys : List ℕ) → test (b ∷ xs) ≡ test (b ∷ ys)) (p q : Reader A) where
    weak_by_next : Weak p → Weak q → Weak (by_next test p q)
    weak_by_next weak_p weak_q = record { part = λ xs v y rest e. choose xs v y rest (test xs) refl e }
      where
        same : (xs front : List ℕ) (y : ℕ) (rest others : List ℕ) → xs ≡ front ++ y ∷ rest → test (front ++ y ∷ others) ≡ test xs
        same xs [] y rest others e = local y others rest ∙ ap test (sym e)
        same xs (b ∷ front) y rest others e = local b (front ++ y ∷ others) (front ++ y ∷ rest) ∙ ap test (sym e)

        same_front : (r : Reader A) (xs : List ℕ) (v : A) (y : ℕ) (rest : List ℕ) (t : Bool) → ((ys : List ℕ) → test ys ≡ t → by_next test p q ys ≡ r ys) → test xs ≡ t → WeakReadFront r xs v y rest → WeakReadFront (by_next test p q) xs v y rest
        same_front r xs v y rest t pick h inner = record {
          front = inner.front;
          splits = inner.splits;
          again = λ others. pick (inner.front ++ y ∷ others) (same xs inner.front y rest others inner.splits ∙ h) ∙ inner.again others;
        }

        choose : (xs : List ℕ) (v : A) (y : ℕ) (rest : List ℕ) (t : Bool) → test xs ≡ t → by_next test p q xs ≡ Some (v, y ∷ rest) → WeakReadFront (by_next test p q) xs v y rest
        choose xs v y rest true h e = same_front p xs v y rest true (λ ys f. rw f refl) h (weak_p.part xs v y rest (rw h at e))
        choose xs v y rest false h e = same_front q xs v y rest false (λ ys f. rw f refl) h (weak_q.part xs v y rest (rw h at e))

module _ {A B : Type 0} (p : Reader A) (q : A → Reader B) (weak : Weak p) (each : (a : A) → Strong (q a)) (firm : (a : A) → Firm (q a)) where
  weak_then : Strong (p then q)
  weak_then = record { part = λ xs v rest e. at xs v rest (p xs) refl e }
    where
      join : (xs : List ℕ) (v : B) (rest : List ℕ) (a : A) (y : ℕ) (ys : List ℕ) → WeakReadFront p xs a y ys → (front : List ℕ) → y ∷ ys ≡ front ++ rest → ((others : List ℕ) → q a (front ++ others) ≡ Some (v, others)) → ReadFront (p then q) xs v rest
      join xs v rest a y ys first [] e again = let some = again [] in let none = (firm a).none in absurd (cc (some, none))
      join xs v rest a y ys first (z ∷ front) e again =
          let heads : y ≡ z = cc in
          record {
            front = first.front ++ z ∷ front;
            splits = first.splits ∙ ap (λ (u : List ℕ). first.front ++ u) e ∙ sym (append_assoc first.front (z ∷ front) rest);
            again = λ others.
                let here : p (first.front ++ z ∷ (front ++ others)) ≡ Some (a, z ∷ (front ++ others)) = subst (λ (c : ℕ). p (first.front ++ c ∷ (front ++ others)) ≡ Some (a, c ∷ (front ++ others))) heads (first.again (front ++ others)) in
                ap (λ (u : List ℕ). follow (p u) q) (append_assoc first.front (z ∷ front) others) ∙ ap (λ (o : Option (A × List ℕ)). follow o q) here ∙ again others;
          }

      behind_first : (xs : List ℕ) (v : B) (rest : List ℕ) (a : A) (mid : List ℕ) → p xs ≡ Some (a, mid) → q a mid ≡ Some (v, rest) → ReadFront (p then q) xs v rest
      behind_first xs v rest a [] h e = let none = (firm a).none in absurd (cc (none, e))
      behind_first xs v rest a (y ∷ ys) h e =
          let second = (each a).part (y ∷ ys) v rest e in
          join xs v rest a y ys (weak.part xs a y ys h) second.front second.splits second.again

      at : (xs : List ℕ) (v : B) (rest : List ℕ) (o : Option (A × List ℕ)) → p xs ≡ o → follow o q ≡ Some (v, rest) → ReadFront (p then q) xs v rest
      at xs v rest None h e = absurd cc
      at xs v rest (Some x) h e = behind_first xs v rest x.0 x.1 h e

strong_nowhere : {A : Type 0} → Strong (nowhere {A = A})
strong_nowhere = record { part = λ xs v rest e. absurd cc }

firm_nowhere : {A : Type 0} → Firm (nowhere {A = A})
firm_nowhere = record { none = refl }

weak_number : Weak number_at
unfolding number_at
weak_number =
    weak_text (codes "1") _ (weak_by_next (next_is 48) (next_is_local 48) (text (codes "0") (by_next (next_is 48) (text (codes "0") (done m.Hundred)) (done m.Ten))) (done m.One)
    (weak_text (codes "0") _ (weak_by_next (next_is 48) (next_is_local 48) (text (codes "0") (done m.Hundred)) (done m.Ten) (weak_text (codes "0") (done m.Hundred) (weak_done m.Hundred)) (weak_done m.Ten)))
    (weak_done m.One))

firm_number : Firm number_at
unfolding number_at
firm_number = firm_text 49 [] _

-- a word, or else another reader
module _ {A : Type 0} (b c : ℕ) (cs : List ℕ) (x : A) (q : Reader A) (strong_q : Strong q) (firm_q : Firm q) where
  strong_word : Strong (by_next (next_is b) (text (c ∷ cs) (done x)) q)
  strong_word = strong_by_next (next_is b) (next_is_local b) (text (c ∷ cs) (done x)) q (firm_text c cs (done x)) firm_q (strong_text (c ∷ cs) (done x) (strong_done x)) strong_q

  firm_word : Firm (by_next (next_is b) (text (c ∷ cs) (done x)) q)
  firm_word = firm_by_next (next_is b) (next_is_local b) (text (c ∷ cs) (done x)) q (firm_text c cs (done x)) firm_q

abbrev from_pico : Reader TextUnit
from_pico = by_next (next_is 112) (text (codes "ps") (done t.Picoseconds)) (text (codes "fs") (done t.Femtoseconds))

abbrev from_nano : Reader TextUnit
from_nano = by_next (next_is 110) (text (codes "ns") (done t.Nanoseconds)) from_pico

abbrev from_micro : Reader TextUnit
from_micro = by_next (next_is 117) (text (codes "us") (done t.Microseconds)) from_nano

abbrev from_milli : Reader TextUnit
from_milli = by_next (next_is 109) (text (codes "ms") (done t.Milliseconds)) from_micro

strong_femto : Strong (text (codes "fs") (done t.Femtoseconds))
strong_femto = strong_text (codes "fs") (done t.Femtoseconds) (strong_done t.Femtoseconds)

firm_femto : Firm (text (codes "fs") (done t.Femtoseconds))
firm_femto = firm_text 102 (codes "s") (done t.Femtoseconds)

strong_pico : Strong from_pico
strong_pico = strong_word 112 112 (codes "s") t.Picoseconds (text (codes "fs") (done t.Femtoseconds)) strong_femto firm_femto

firm_pico : Firm from_pico
firm_pico = firm_word 112 112 (codes "s") t.Picoseconds (text (codes "fs") (done t.Femtoseconds)) strong_femto firm_femto

strong_nano : Strong from_nano
strong_nano = strong_word 110 110 (codes "s") t.Nanoseconds from_pico strong_pico firm_pico

firm_nano : Firm from_nano
firm_nano = firm_word 110 110 (codes "s") t.Nanoseconds from_pico strong_pico firm_pico

strong_micro : Strong from_micro
strong_micro = strong_word 117 117 (codes "s") t.Microseconds from_nano strong_nano firm_nano

firm_micro : Firm from_micro
firm_micro = firm_word 117 117 (codes "s") t.Microseconds from_nano strong_nano firm_nano

strong_milli : Strong from_milli
strong_milli = strong_word 109 109 (codes "s") t.Milliseconds from_micro strong_micro firm_micro

firm_milli : Firm from_milli
firm_milli = firm_word 109 109 (codes "s") t.Milliseconds from_micro strong_micro firm_micro

strong_unit : Strong unit_at
unfolding unit_at
strong_unit = strong_word 115 115 [] t.Seconds from_milli strong_milli firm_milli

firm_unit : Firm unit_at
unfolding unit_at
firm_unit = firm_word 115 115 [] t.Seconds from_milli strong_milli firm_milli

abbrev unit_behind : TextMagnitude → Reader Time
unit_behind number = white unit_at then λ unit. done (record { number = number; unit = unit })

strong_time : Strong time_at
unfolding time_at
strong_time =
    weak_then number_at unit_behind weak_number
    (λ number. strong_then (white unit_at) (λ unit. done (record { number = number; unit = unit })) (strong_white unit_at firm_unit strong_unit) (λ unit. strong_done (record { number = number; unit = unit })))
    (λ number. firm_then (white unit_at) (λ unit. done (record { number = number; unit = unit })) (firm_white unit_at firm_unit))

firm_time : Firm time_at
unfolding time_at
firm_time = firm_then number_at unit_behind firm_number

strong_timescale_of : (unit precision : Time) → Strong (timescale_of unit precision)
strong_timescale_of unit precision = record { part = λ xs v rest e. at xs v rest (nat_lt (exponent unit) (exponent precision)) refl e }
  where
    at : (xs : List ℕ) (v : Directive) (rest : List ℕ) (t : Bool) → nat_lt (exponent unit) (exponent precision) ≡ t → timescale_of unit precision xs ≡ Some (v, rest) → ReadFront (timescale_of unit precision) xs v rest
    at xs v rest true h e = let none : ◌≡◌ {A = Option (Directive × List ℕ)} None (Some (v, rest)) = rw h at e in absurd cc
    at xs v rest false h e =
        let inner = (strong_done (d.Timescale unit precision)).part xs v rest (rw h at e) in
        record { front = inner.front; splits = inner.splits; again = λ others. rw h (inner.again others) }

module _ {A : Type 0} (p : Reader A) (firm : Firm p) (strong : Strong p) where
  strong_some_white : Strong (some_white p)
  strong_some_white = strong_by_next next_is_white next_is_white_local (white p) nowhere (firm_white p firm) firm_nowhere (strong_white p firm strong) strong_nowhere

abbrev precision_behind : Time → Reader Directive
precision_behind unit = white (text (codes "/") (white (time_at then λ precision. timescale_of unit precision)))

strong_precision : (unit : Time) → Strong (precision_behind unit)
strong_precision unit =
    let firm = firm_then time_at (λ precision. timescale_of unit precision) firm_time in
    let strong = strong_then time_at (λ precision. timescale_of unit precision) strong_time (λ precision. strong_timescale_of unit precision) in
    strong_white (text (codes "/") (white (time_at then λ precision. timescale_of unit precision))) (firm_text 47 [] _) (strong_text (codes "/") (white (time_at then λ precision. timescale_of unit precision)) (strong_white (time_at then λ precision. timescale_of unit precision) firm strong))

strong_timescale : Strong timescale_at
unfolding timescale_at
strong_timescale =
    strong_text (codes "timescale") (some_white (time_at then precision_behind)) (strong_some_white (time_at then precision_behind) (firm_then time_at precision_behind firm_time) (strong_then time_at precision_behind strong_time strong_precision))

firm_timescale : Firm timescale_at
unfolding timescale_at
firm_timescale = firm_text 116 (codes "imescale") _

abbrev net : Reader Directive
net = by_next (next_is 119) (text (codes "wire") (done (d.DefaultNettype i.Wire))) (text (codes "none") (done (d.DefaultNettype i.Forbidden)))

strong_nettype : Strong nettype_at
unfolding nettype_at
strong_nettype =
    let none = strong_text (codes "none") (done (d.DefaultNettype i.Forbidden)) (strong_done (d.DefaultNettype i.Forbidden)) in
    let firm_none = firm_text 110 (codes "one") (done (d.DefaultNettype i.Forbidden)) in
    strong_text (codes "default_nettype") (some_white net) (strong_some_white net
    (firm_word 119 119 (codes "ire") (d.DefaultNettype i.Wire) (text (codes "none") (done (d.DefaultNettype i.Forbidden))) none firm_none)
    (strong_word 119 119 (codes "ire") (d.DefaultNettype i.Wire) (text (codes "none") (done (d.DefaultNettype i.Forbidden))) none firm_none))

firm_nettype : Firm nettype_at
unfolding nettype_at
firm_nettype = firm_text 100 (codes "efault_nettype") _

strong_directive : Strong directive_at
unfolding directive_at
strong_directive = strong_by_next (next_is 116) (next_is_local 116) timescale_at nettype_at firm_timescale firm_nettype strong_timescale strong_nettype

firm_directive : Firm directive_at
unfolding directive_at
firm_directive = firm_by_next (next_is 116) (next_is_local 116) timescale_at nettype_at firm_timescale firm_nettype

-- a directive that has been read
pub directive_reads : (backquote : ℕ) (after : List ℕ) (directive : Directive) (read : Lexed) → directive_at after ≡ Some (directive, read.rest.now) → read.piece ≡ Token (k.Directive directive) → Reads directive_form (backquote ∷ after) read
unfolding directive_form
directive_reads backquote after directive read e is =
    let part = strong_directive.part after directive read.rest.now e in
    record { text = backquote ∷ part.front; begins = record { splits = ap (λ (u : List ℕ). backquote ∷ u) part.splits; reads = at part.front part.again } }
  where
    at : (front : List ℕ) → ((others : List ℕ) → directive_at (front ++ others) ≡ Some (directive, others)) → Longest directive_form read.piece (backquote ∷ front) read.rest.now
    at [] again = let some = again [] in let none = firm_directive.none in absurd (cc (some, none))
    at (c ∷ front) again = record {
      is = ap directive_piece (ap directive_at (sym (append-nil (c ∷ front))) ∙ again []) ∙ ap Some (sym is);
      longest = λ b more tail f. ap directive_piece (again (b ∷ more));
    }

-- a backquote without a directive
pub lone_backquote : (backquote : ℕ) (after : List ℕ) (read : Lexed) → directive_at after ≡ None → read.rest.now ≡ after → read.piece ≡ Refused r.BadDirective → Reads directive_form (backquote ∷ after) read
unfolding directive_form
lone_backquote backquote after read none at is =
    alone_reads directive_form backquote after read at (ap Some (sym is)) (λ b more rest e. ap directive_piece (nothing b more rest e (directive_at (b ∷ more)) refl))
  where
    nothing : (b : ℕ) (more rest : List ℕ) → after ≡ b ∷ more ++ rest → (o : Option (Directive × List ℕ)) → directive_at (b ∷ more) ≡ o → o ≡ None
    nothing b more rest e None h = refl
    nothing b more rest e (Some x) h =
        let part = strong_directive.part (b ∷ more) x.0 x.1 h in
        let whole : after ≡ part.front ++ (x.1 ++ rest) = e ∙ ap (λ (u : List ℕ). u ++ rest) part.splits ∙ append_assoc part.front x.1 rest in
        let found : directive_at after ≡ Some (x.0, x.1 ++ rest) = ap directive_at whole ∙ part.again (x.1 ++ rest) in
        absurd (cc (none, found))
