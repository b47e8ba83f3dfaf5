-- Beginnings of names.
use Rattle.std.proofs.Common.{◌≡◌, inl, inr, ℕ, suc, ◌-◌, ◌<◌, ◌≤◌, Bool, true, false, ◌||◌, Option, Some, None, MatchOption, Bor, List, [], ◌∷◌, ◌++◌, codes, drop, get_or, length, take, take_all, length-drop, length-take, refl, sym, ap, ◌∙◌, append_assoc, arith}
use Rattle.std.specs.Prelude.{◌==◌}
use Rattle.std.proofs.Math.Seq.{drop-cons}
use Rattle.std.specs.List.{list_all}
use Rattle.std.proofs.lemmas.Bool.{and_from, cases_lt, false≢true, and_parts as and_true}
use Rattle.std.proofs.lemmas.List.{append-nil, get_or-take, take-append-drop}
use Rattle.vs_vcd_lines.specs.Cuts.{lacks, IsCut}
use Rattle.vs_vcd_lines.specs.Names.{is_between, is_body, is_first, is_further, is_printable, is_simple, IsName}
use Rattle.vs_vcd_lines.proofs.CutLemmas.{cut_once, lacks_of_all}
use Rattle.vs_vcd_lines.specs.Beginnings.{Begins}
use Rattle.vs_vcd_lines.specs.BeginningsParts.{BeginsSome, IsAfterName, IsBody, IsEscapedRest, IsFixed, IsFurtherCut, IsTail, IsWithinName}
use Rattle.vs_vcd_lines.proofs.PartLemmas.{AllLack}
use Rattle.vs_vcd_lines.proofs.TextLemmas.{begins_before, begins_nil, nil_before, Tells}

-- a text has no backslash at its head
abbrev pub IsPlain : List ℕ → Type 0
IsPlain text = (rest : List ℕ) → text ≡ codes "\\" ++ rest → ⊥

-- ---- bytes that go on in a simple identifier

first_further : (b : ℕ) → is_first b ≡ true → is_further b ≡ true
first_further b h = ap (λ x. x || is_between 48 57 b || b == 36) h

tail_other : (text rest : List ℕ) (b : ℕ) → IsTail text → text ≡ b ∷ rest → is_further b ≡ false
tail_other text rest b h e =
    let whole : h.first ∷ h.rest ≡ b ∷ rest = sym h.are ∙ e in
    let same : h.first ≡ b = cc in
    ap is_further (sym same) ∙ h.other

tail_more : (text more : List ℕ) → IsTail text → IsTail (text ++ more)
tail_more text more h = record { first = h.first; rest = h.rest ++ more; are = ap (λ l. l ++ more) h.are; other = h.other }

-- a text is cut at the first byte that can't go on in one way
further_once : (a b r t : List ℕ) → list_all is_further a ≡ true → list_all is_further b ≡ true → IsTail r → IsTail t → a ++ r ≡ b ++ t → (a ≡ b) × (r ≡ t)
further_once [] [] r t p q h k e = (refl, e)
further_once [] (b ∷ bs) r t p q h k e =
    absurd (false≢true (sym (tail_other r (bs ++ t) b h e) ∙ (and_true (is_further b) (list_all is_further bs) q).0))
further_once (a ∷ cs) [] r t p q h k e =
    absurd (false≢true (sym (tail_other t (cs ++ r) a k (sym e)) ∙ (and_true (is_further a) (list_all is_further cs) p).0))
further_once (a ∷ cs) (b ∷ bs) r t p q h k e =
    let same : a ≡ b = cc in
    let tails : cs ++ r ≡ bs ++ t = cc in
    let rest = further_once cs bs r t (and_true (is_further a) (list_all is_further cs) p).1 (and_true (is_further b) (list_all is_further bs) q).1 h k tails in
    (ap (λ x. x ∷ cs) same ∙ ap (λ l. b ∷ l) rest.0, rest.1)

-- bytes that go on end within what stands before a tail
further_within : (text n tail more : List ℕ) → list_all is_further text ≡ true → IsTail tail → text ++ more ≡ n ++ tail → Begins text n
further_within [] n tail more p h e = (n, refl)
further_within (b ∷ bs) [] tail more p h e =
    absurd (false≢true (sym (tail_other tail (bs ++ more) b h (sym e)) ∙ (and_true (is_further b) (list_all is_further bs) p).0))
further_within (b ∷ bs) (c ∷ cs) tail more p h e =
    let same : b ≡ c = cc in
    let tails : bs ++ more ≡ cs ++ tail = cc in
    let k = further_within bs cs tail more (and_true (is_further b) (list_all is_further bs) p).1 h tails in
    (k.0, ap (λ l. c ∷ l) k.1 ∙ ap (λ x. x ∷ (bs ++ k.0)) (sym same))

simple_further : (n : List ℕ) → is_simple n ≡ true → list_all is_further n ≡ true
simple_further [] h = refl
simple_further (b ∷ bs) h =
    let parts = and_true (is_first b) (list_all is_further bs) h in
    and_from (is_further b) (list_all is_further bs) (first_further b parts.0) parts.1

simple_first : (n tail rest : List ℕ) (b : ℕ) → is_simple n ≡ true → n ++ tail ≡ b ∷ rest → is_first b ≡ true
simple_first [] tail rest b h e = absurd (false≢true h)
simple_first (c ∷ cs) tail rest b h e =
    let same : c ≡ b = cc in
    ap is_first (sym same) ∙ (and_true (is_first c) (list_all is_further cs) h).0

-- ---- a text, byte by byte

pub all_by_index : (p : ℕ → Bool) (bs : List ℕ) → ((j : ℕ) → j < length bs → p (get_or bs j 0) ≡ true) → list_all p bs ≡ true
all_by_index p [] h = refl
all_by_index p (b ∷ bs) h =
    and_from (p b) (list_all p bs) (h 0 (omega arith)) (all_by_index p bs (λ j within. h (suc j) (omega (arith, within))))

pub further_next : (text : List ℕ) (place j : ℕ) → ((i : ℕ) → i < place → is_further (get_or text i 0) ≡ true) → is_further (get_or text place 0) ≡ true
    → j ≤ place → is_further (get_or text j 0) ≡ true
further_next text place j before here most =
    elim (cases_lt j place) [
      | inl less ↦ before j less
      | inr more ↦ let same : j ≡ place = omega (arith, most, more) in ap (λ k. is_further (get_or text k 0)) same ∙ here
    ]

pub further_cut : (text : List ℕ) (place : ℕ) → place < length text → ((j : ℕ) → j < place → is_further (get_or text j 0) ≡ true)
    → is_further (get_or text place 0) ≡ false → IsFurtherCut text (take (length text - place) (drop place text))
further_cut text place within before other =
    let size : length (drop place text) ≡ length text - place = length-drop place text in
    let rest : take (length text - place) (drop place text) ≡ drop place text = take_all _ _ (omega (arith, size)) in
    record {
      front = take place text;
      is = sym (take-append-drop place text) ∙ ap (λ l. take place text ++ l) (sym rest);
      further = all_by_index is_further (take place text) (λ j below.
          let taken = length-take place text in
          let less : j < place = omega (arith, below, taken, within) in
          ap is_further (get_or-take place text j 0 less) ∙ before j less);
      tail = record { first = get_or text place 0; rest = drop (suc place) text; are = rest ∙ drop-cons text place 0 within; other = other };
    }

-- ---- simple identifiers

plain_name : (text n tail more : List ℕ) → IsPlain text → (text ≡ [] → ⊥) → IsName n → text ++ more ≡ n ++ tail → is_simple n ≡ true
plain_name text n tail more plain some (inl simple) e = simple
plain_name [] n tail more plain some (inr h) e = absurd (some refl)
plain_name (b ∷ bs) n tail more plain some (inr h) e =
    let whole : b ∷ (bs ++ more) ≡ 92 ∷ ((h.body ++ codes " ") ++ tail) = e ∙ ap (λ l. l ++ tail) h.is in
    let same : b ≡ 92 = cc in
    absurd (plain bs (ap (λ x. x ∷ bs) same))

pub nothing_within : (text : List ℕ) → text ≡ [] → IsWithinName text
nothing_within text none = λ n tail more named h e. begins_nil text n none

headed_some : (text rest : List ℕ) (b : ℕ) → text ≡ b ∷ rest → text ≡ [] → ⊥
headed_some text rest b is none = let e : b ∷ rest ≡ [] = sym is ∙ none in absurd cc

pub other_within : (text rest : List ℕ) (b : ℕ) → IsPlain text → text ≡ b ∷ rest → is_first b ≡ false → IsWithinName text
other_within text rest b plain is other = λ n tail more named h e.
    let simple = plain_name text n tail more plain (headed_some text rest b is) named e in
    absurd (false≢true (sym other ∙ simple_first n tail (rest ++ more) b simple (sym e ∙ ap (λ l. l ++ more) is)))

pub further_all : (text : List ℕ) → list_all is_further text ≡ true → IsWithinName text
further_all text all = λ n tail more named h e. further_within text n tail more all h e

front_simple : (front rest xs : List ℕ) (b : ℕ) → IsTail rest → list_all is_further front ≡ true → front ++ rest ≡ b ∷ xs → is_first b ≡ true → is_simple front ≡ true
front_simple [] rest xs b h p e f = absurd (false≢true (sym (tail_other rest xs b h e) ∙ first_further b f))
front_simple (c ∷ cs) rest xs b h p e f =
    let same : c ≡ b = cc in
    and_from (is_first c) (list_all is_further cs) (ap is_first same ∙ f) (and_true (is_further c) (list_all is_further cs) p).1

pub simple_after : (text xs rest : List ℕ) (b : ℕ) → IsPlain text → text ≡ b ∷ xs → is_first b ≡ true → IsFurtherCut text rest → IsAfterName text rest
simple_after text xs rest b plain is first k = record {
  name = k.front;
  named = inl (front_simple k.front rest xs b k.tail k.further (sym k.is ∙ is) first);
  is = k.is;
  once = λ n tail more named h e.
      let simple = plain_name text n tail more plain (headed_some text xs b is) named e in
      (further_once k.front n (rest ++ more) tail k.further (simple_further n simple) (tail_more rest more k.tail) h
      (sym (append_assoc k.front rest more) ∙ ap (λ l. l ++ more) (sym k.is) ∙ e)).1;
}

pub simple_cut : (text xs : List ℕ) (b : ℕ) (r : Option (Bor (List ℕ))) → IsPlain text → text ≡ b ∷ xs → is_first b ≡ true
    → MatchOption r (list_all is_further text ≡ true) (λ rest. IsFurtherCut text rest.now) → MatchOption r (IsWithinName text) (λ rest. IsAfterName text rest.now)
simple_cut text xs b (Some rest) plain is first h = simple_after text xs rest.now b plain is first h
simple_cut text xs b None plain is first h = further_all text h

-- ---- escaped identifiers

pub body_lacks : (body : List ℕ) → is_body body ≡ true → lacks 32 body ≡ true
body_lacks [] h = refl
body_lacks (b ∷ bs) h = lacks_of_all is_printable 32 (b ∷ bs) refl h

pub bodies_lack : AllLack 32 IsBody
bodies_lack body h = body_lacks body h

pub body_tells : (text : List ℕ) (b : Bool) → b ≡ is_body text → Tells b (IsBody text)
body_tells text b is = (λ e. sym is ∙ e, λ h. is ∙ h)

-- the body of a name that a text with a backslash begins, or that begins it
record IsEscapedOf (escaped n tail more : List ℕ) : Type 0 where
  pub body : List ℕ
  pub printable : is_body body ≡ true
  pub is : n ≡ 92 ∷ (body ++ 32 ∷ [])
  pub are : escaped ++ more ≡ body ++ 32 ∷ tail

escaped_of : (text escaped n tail more : List ℕ) → text ≡ codes "\\" ++ escaped → IsName n → text ++ more ≡ n ++ tail → IsEscapedOf escaped n tail more
escaped_of text escaped n tail more first (inl simple) e =
    absurd (false≢true (simple_first n tail (escaped ++ more) 92 simple (sym e ∙ ap (λ l. l ++ more) first)))
escaped_of text escaped n tail more first (inr h) e =
    let whole : 92 ∷ (escaped ++ more) ≡ 92 ∷ ((h.body ++ codes " ") ++ tail) = ap (λ l. l ++ more) (sym first) ∙ e ∙ ap (λ l. l ++ tail) h.is in
    let tails : escaped ++ more ≡ (h.body ++ codes " ") ++ tail = cc in
    record { body = h.body; printable = h.printable; is = h.is; are = tails ∙ append_assoc h.body (codes " ") tail }

escaped_once : (escaped body rest n tail more : List ℕ) → IsCut 32 escaped body rest → (h : IsEscapedOf escaped n tail more) → (body ≡ h.body) × (rest ++ more ≡ tail)
escaped_once escaped body rest n tail more cut h =
    cut_once 32 body h.body (rest ++ more) tail cut.first (body_lacks h.body h.printable)
    (sym (append_assoc body (32 ∷ rest) more) ∙ ap (λ l. l ++ more) (sym cut.is) ∙ h.are)

pub escaped_after : (text escaped body rest : List ℕ) → text ≡ codes "\\" ++ escaped → IsCut 32 escaped body rest → is_body body ≡ true → IsAfterName text rest
escaped_after text escaped body rest first cut printable = record {
  name = 92 ∷ (body ++ 32 ∷ []);
  named = inr (record { body = body; printable = printable; is = refl });
  is = first ∙ ap (λ l. 92 ∷ l) (cut.is ∙ sym (append_assoc body (32 ∷ []) rest));
  once = λ n tail more named h e. (escaped_once escaped body rest n tail more cut (escaped_of text escaped n tail more first named e)).1;
}

pub escaped_other : (text escaped body rest : List ℕ) → text ≡ codes "\\" ++ escaped → IsCut 32 escaped body rest → is_body body ≡ false → IsWithinName text
escaped_other text escaped body rest first cut other = λ n tail more named h e.
    let k = escaped_of text escaped n tail more first named e in
    absurd (false≢true (sym other ∙ ap is_body (escaped_once escaped body rest n tail more cut k).0 ∙ k.printable))

pub escaped_within : (text escaped : List ℕ) → text ≡ codes "\\" ++ escaped → lacks 32 escaped ≡ true → IsWithinName text
escaped_within text escaped first one = λ n tail more named h e.
    let k = escaped_of text escaped n tail more first named e in
    let m = begins_before 32 escaped more k.body tail one k.are in (
      m.0 ++ 32 ∷ [],
      k.is ∙ ap (λ l. 92 ∷ (l ++ 32 ∷ [])) m.1 ∙ ap (λ l. 92 ∷ l) (append_assoc escaped m.0 (32 ∷ []))
          ∙ ap (λ l. l ++ (m.0 ++ 32 ∷ [])) (sym first),
    )

-- ---- whether a text begins a name

pub nothing_tells : (text : List ℕ) (b : Bool) → Tells b (text ≡ []) → Tells b (BeginsSome (IsFixed []) text)
nothing_tells text b tells = (
  λ e. record { whole = []; is = refl; begins = ([], sym (append-nil text ∙ tells.0 e)) },
  λ g. tells.1 (nil_before text g.begins.0 (sym g.begins.1 ∙ g.is)),
)

printable_whole : (text : List ℕ) → list_all is_printable text ≡ true → BeginsSome IsBody text
printable_whole [] h = record { whole = 97 ∷ []; is = refl; begins = (97 ∷ [], refl) }
printable_whole (b ∷ bs) h = record { whole = b ∷ bs; is = h; begins = ([], sym (append-nil (b ∷ bs))) }

body_all : (text : List ℕ) → is_body text ≡ true → list_all is_printable text ≡ true
body_all [] h = refl
body_all (b ∷ bs) h = h

all_front : (p : ℕ → Bool) (a b : List ℕ) → list_all p (a ++ b) ≡ true → list_all p a ≡ true
all_front p [] b h = refl
all_front p (x ∷ xs) b h =
    let parts = and_true (p x) (list_all p (xs ++ b)) h in
    and_from (p x) (list_all p xs) parts.0 (all_front p xs b parts.1)

pub printable_tells : (text : List ℕ) (b : Bool) → b ≡ list_all is_printable text → Tells b (BeginsSome IsBody text)
printable_tells text b is = (
  λ e. printable_whole text (sym is ∙ e),
  λ g. is ∙ all_front is_printable text g.begins.0 (ap (list_all is_printable) (sym g.begins.1) ∙ body_all g.whole g.is),
)

pub name_empty : (text : List ℕ) → text ≡ [] → Tells true (BeginsSome IsName text)
name_empty text none = (λ e. record { whole = 97 ∷ []; is = inl refl; begins = begins_nil text (97 ∷ []) none }, λ g. refl)

escaped_name : (text rest : List ℕ) → text ≡ codes "\\" ++ rest → BeginsSome IsEscapedRest rest → BeginsSome IsName text
escaped_name text rest first h = record {
  whole = 92 ∷ (h.is.word ++ 32 ∷ []);
  is = inr (record { body = h.is.word; printable = h.is.is_word; is = refl });
  begins = (
    h.begins.0,
    ap (λ l. 92 ∷ l) (ap (λ l. h.is.word ++ 32 ∷ l) (sym h.is.is_rest) ∙ sym h.is.are ∙ h.begins.1) ∙ ap (λ l. l ++ h.begins.0) (sym first),
  );
}

escaped_rest : (text rest n more : List ℕ) → text ≡ codes "\\" ++ rest → IsName n → n ≡ text ++ more → BeginsSome IsEscapedRest rest
escaped_rest text rest n more first named e =
    let k = escaped_of text rest n [] more first named (sym e ∙ sym (append-nil n)) in
    record {
      whole = k.body ++ 32 ∷ [];
      is = record { word = k.body; rest = []; is_word = k.printable; is_rest = refl; are = refl };
      begins = (more, sym k.are);
    }

pub name_escaped : (text rest : List ℕ) (b : Bool) → text ≡ codes "\\" ++ rest → Tells b (BeginsSome IsEscapedRest rest) → Tells b (BeginsSome IsName text)
name_escaped text rest b first tells = (
  λ e. escaped_name text rest first (tells.0 e),
  λ g. tells.1 (escaped_rest text rest g.whole g.begins.0 first g.is g.begins.1),
)

all_back : (p : ℕ → Bool) (a b : List ℕ) → list_all p (a ++ b) ≡ true → list_all p b ≡ true
all_back p [] b h = h
all_back p (x ∷ xs) b h = all_back p xs b (and_true (p x) (list_all p (xs ++ b)) h).1

tail_stops : (text : List ℕ) → IsTail text → list_all is_further text ≡ true → ⊥
tail_stops text h all =
    let parts = and_true (is_further h.first) (list_all is_further h.rest) (ap (list_all is_further) (sym h.are) ∙ all) in
    false≢true (sym h.other ∙ parts.0)

pub name_stopped : (text rest xs : List ℕ) (b : ℕ) → IsPlain text → text ≡ b ∷ xs → IsFurtherCut text rest → Tells false (BeginsSome IsName text)
name_stopped text rest xs b plain is k = (
  λ e. absurd (false≢true e),
  λ g.
      let simple = plain_name text g.whole [] g.begins.0 plain (headed_some text xs b is) g.is (sym g.begins.1 ∙ sym (append-nil g.whole)) in
      let all = all_front is_further text g.begins.0 (ap (list_all is_further) (sym g.begins.1) ∙ simple_further g.whole simple) in
      absurd (tail_stops rest k.tail (all_back is_further k.front rest (ap (list_all is_further) (sym k.is) ∙ all))),
)

pub name_first : (text xs : List ℕ) (b : ℕ) (r : Bool) → IsPlain text → text ≡ b ∷ xs → list_all is_further text ≡ true → r ≡ is_first b
    → Tells r (BeginsSome IsName text)
name_first text xs b r plain is all tells = (
  λ e.
      let rest = and_true (is_further b) (list_all is_further xs) (ap (list_all is_further) (sym is) ∙ all) in
      let simple = and_from (is_first b) (list_all is_further xs) (sym tells ∙ e) rest.1 in
      record { whole = text; is = inl (ap is_simple is ∙ simple); begins = ([], sym (append-nil text)) },
  λ g.
      let simple = plain_name text g.whole [] g.begins.0 plain (headed_some text xs b is) g.is (sym g.begins.1 ∙ sym (append-nil g.whole)) in
      tells ∙ simple_first g.whole [] (xs ++ g.begins.0) b simple (append-nil g.whole ∙ g.begins.1 ∙ ap (λ l. l ++ g.begins.0) is),
)
