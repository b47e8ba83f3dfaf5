-- From where reading stopped to the fault that is answered.
use Rattle.std.specs.Prelude.{◌≡◌, ℕ, ◌+◌, ◌<◌, ◌≤◌, ◌^◌, Bool, true, false, List, [], ◌∷◌, ◌++◌, length, take, drop, refl}
use Rattle.std.proofs.Common.{sym, ◌∙◌, ap, subst, inr, append_assoc, arith}
use Rattle.std.proofs.lemmas.List.{append-nil, length-append, length-map, map-append, take-append-drop}
use Rattle.vs_syntax.specs.vs_lexer.specs.declared.token.Token.{Token}
use Rattle.vs_syntax.specs.vs_lexer.specs.Tokens.{Lexeme, lexeme, lexemes}
use Rattle.vs_syntax.specs.Symbols.{Symbol, a_mark, a_word, a_name, a_number, a_cast, a_text, a_print, a_finish, a_dump, a_time, a_directive, another, no_token, class_of, first, symbol, symbols}
use Rattle.vs_syntax.specs.Grammar.{part, a_source}
use Rattle.vs_syntax.specs.Derivation.{Tree, empty, tokens, Is, is_part, is_stop}
use Rattle.vs_syntax.specs.Reading.{Gets, Stuck}
use Rattle.vs_syntax.specs.Derives.{IsSource, Derives, BeginsSource}
use Rattle.vs_syntax.specs.Views.{source_tree}
use Rattle.vs_syntax.specs.declared.tree.Source.{Source}
use Rattle.vs_syntax.proofs.Fronts.{clash}
use Rattle.vs_syntax.proofs.Unique.{unique, after_same}
use Rattle.vs_syntax.proofs.Ends.{again}
use Rattle.vs_syntax.proofs.Refused.{front_of, front_text, refused}
use Rattle.vs_syntax.proofs.Viable.{viable}
use Rattle.vs_syntax.proofs.Beginnings.{stuck_there}
use Rattle.vs_syntax.proofs.Deeper.{deeper}
use Rattle.vs_parser.specs.vs_parse_expressions.specs.declared.reading.ReadFault.{ReadFault}
use Rattle.vs_parser.specs.vs_parse_expressions.specs.declared.reading.ReadFault.TheVariants as stop
use Rattle.vs_parser.specs.vs_parse_expressions.specs.Answers.{seen, FailsToRead}
use Rattle.vs_parser.specs.declared.fault.ParseFault.{ParseFault}
use Rattle.vs_parser.specs.declared.fault.ParseFault.TheVariants as f
use Rattle.vs_parser.specs.Faults.{Halts, StopsAt, IsWrong, IsTooDeep, IsUnfinished, IsRefused}

-- a symbol is of some class
pub some_class : (s : Symbol) → class_of s ≡ no_token → ⊥
some_class (a_mark m) e = cc
some_class (a_word w) e = cc
some_class (a_name n) e = cc
some_class (a_number l) e = cc
some_class (a_cast s) e = cc
some_class (a_text n) e = cc
some_class (a_print x) e = cc
some_class a_finish e = cc
some_class (a_dump x) e = cc
some_class a_time e = cc
some_class (a_directive x) e = cc
some_class another e = cc

-- where reading a source stopped
pub halts : (deep : Bool) (ts rest : List Symbol) → Stuck (part a_source) 256 deep ts rest → Halts deep ts rest
halts deep ts rest s =
    let v = viable s refl (omega arith) in
    record {
      front = front_of s;
      text = front_text s;
      begins = record { tree = v.tree; tail = v.tail; source = record { is = v.is; nesting = v.fits }; text = v.text };
      ends = λ x r p h e f. refused s x [] r p h (append-nil (tokens x) ∙ e) f;
      there = stuck_there s refl;
      deeper = λ d x xs e.
          let b = deeper s d refl x xs e in
          let v = b.viable in
          (b.depth, record { tree = v.tree; tail = v.tail; source = record { is = v.is; nesting = v.fits }; text = v.text });
    }

pub halts_by : (ts : List Symbol) (e : ReadFault) → FailsToRead (part a_source) 256 ts e → StopsAt ts e
halts_by ts stop.Memory p = tt
halts_by ts (stop.Unexpected at) p = halts false ts (seen at.now) p
halts_by ts (stop.TooDeep at) p = halts true ts (seen at.now) p

-- a source that is all of the symbols
pub derived : (ts : List Symbol) (s : Source) (rest : List Token) → Gets (part a_source) 256 ts (source_tree s) (seen rest) → rest ≡ [] → Derives ts s
derived ts s rest p e = record {
  source = record { is = subst (λ (u : List Token). Is (part a_source) (source_tree s) (seen u)) e p.is; nesting = p.fits };
  text = p.text ∙ ap (λ u. tokens (source_tree s) ++ seen u) e ∙ append-nil (tokens (source_tree s));
}

-- symbols that are left over behind a source
pub left_over : (ts rest : List Symbol) (x : Tree) → Gets (part a_source) 256 ts x rest → (first rest ≡ no_token → ⊥) → Halts false ts rest
left_over ts rest x p f =
    record {
      front = tokens x;
      text = p.text;
      begins = record { tree = x; tail = []; source = record { is = again p.is [] (inr refl); nesting = p.fits }; text = sym (append-nil (tokens x)) };
      ends = λ y r q h e g.
          let i : y ≡ x = unique p.is q r (sym e ∙ sym (append-nil (tokens y))) g in
          f (sym g ∙ ap first (after_same x y r [] i (sym e ∙ sym (append-nil (tokens y)))));
      there = λ h. absurd (clash h refl);
      deeper = λ h. absurd (clash h refl);
    }

same_cons : (p r : Symbol) (ps rs : List Symbol) → p ≡ r → ps ≡ rs → p ∷ ps ≡ r ∷ rs
same_cons p r ps rs e f = cc

same_tail : (p r : Symbol) (ps rs : List Symbol) → p ∷ ps ≡ r ∷ rs → ps ≡ rs
same_tail p r ps rs e = cc

same_head : (p r : Symbol) (ps rs : List Symbol) → p ∷ ps ≡ r ∷ rs → p ≡ r
same_head p r ps rs e = cc

-- two splits of one list at one place
pub same_split : (ps qs rs ss : List Symbol) → ps ++ qs ≡ rs ++ ss → length ps ≡ length rs → (ps ≡ rs) × (qs ≡ ss)
same_split [] qs [] ss e h = (refl, e)
same_split [] qs (r ∷ rs) ss e h = absurd (omega (arith, h))
same_split (p ∷ ps) qs [] ss e h = absurd (omega (arith, h))
same_split (p ∷ ps) qs (r ∷ rs) ss e h =
    let lengths : length ps ≡ length rs = omega (arith, h) in
    let i = same_split ps qs rs ss (same_tail p r (ps ++ qs) (rs ++ ss) e) lengths in
    (same_cons p r ps rs (same_head p r (ps ++ qs) (rs ++ ss) e) i.0, i.1)

seen-length : (ts : List Token) → length (seen ts) ≡ length ts
seen-length ts = length-map (lexemes ts) symbol ∙ length-map ts lexeme

seen-append : (ts us : List Token) → seen (ts ++ us) ≡ seen ts ++ seen us
seen-append ts us = ap symbols (map-append lexeme ts us) ∙ map-append symbol (lexemes ts) (lexemes us)

symbols-append : (xs ys : List Lexeme) → symbols (xs ++ ys) ≡ symbols xs ++ symbols ys
symbols-append xs ys = map-append symbol xs ys

-- there are no more symbols behind the place than there are
pub rest_shorter : (deep : Bool) (ts rest : List Token) → Halts deep (seen ts) (seen rest) → length rest ≤ length ts
rest_shorter deep ts rest h = omega (arith, seen-length ts, seen-length rest, ap length h.text, length-append h.front (seen rest))

-- the tokens before the place, and those from it on
pub split_there : (deep : Bool) (ts before after rest : List Token) → Halts deep (seen ts) (seen rest) → ts ≡ before ++ after → length after ≡ length rest → Halts deep (seen ts) (seen after)
split_there deep ts before after rest h e f =
    let t : seen before ++ seen after ≡ h.front ++ seen rest = sym (ap seen e ∙ seen-append before after) ∙ h.text in
    let l : length (seen before) ≡ length h.front = omega (arith, ap length t, length-append (seen before) (seen after), length-append h.front (seen rest), seen-length after, seen-length rest, f) in
    subst (λ (u : List Symbol). Halts deep (seen ts) u) (sym (same_split (seen before) (seen after) h.front (seen rest) t l).1) h

front_there : (deep : Bool) (ts before after : List Token) → Halts deep (seen ts) (seen after) → ts ≡ before ++ after → (h : Halts deep (seen ts) (seen after)) → seen before ≡ h.front
front_there deep ts before after k e h =
    let t : seen before ++ seen after ≡ h.front ++ seen after = sym (ap seen e ∙ seen-append before after) ∙ h.text in
    let l : length (seen before) ≡ length h.front = omega (arith, ap length t, length-append (seen before) (seen after), length-append h.front (seen after)) in
    (same_split (seen before) (seen after) h.front (seen after) t l).0

-- the symbols of a source that the tokens up to the place begin
up_to : (front : List Lexeme) (x : Lexeme) (symbols_of tail : List Symbol) → symbols_of ≡ symbols (front ++ x ∷ []) ++ tail → symbols_of ≡ symbols front ++ (symbol x ∷ tail)
up_to front x symbols_of tail e = e ∙ ap (λ u. u ++ tail) (symbols-append front (x ∷ [])) ∙ append_assoc (symbols front) (symbol x ∷ []) tail

first_there : (after others : List Token) (t : Token) → after ≡ t ∷ others → first (seen after) ≡ class_of (symbol (lexeme t))
first_there after others t e = ap (λ u. first (seen u)) e

split_text : (ts before after others : List Token) (t : Token) → ts ≡ before ++ after → after ≡ t ∷ others → lexemes ts ≡ lexemes before ++ lexeme t ∷ lexemes others
split_text ts before after others t e f = ap lexemes (e ∙ ap (λ u. before ++ u) f) ∙ map-append lexeme before (t ∷ others)

pub wrong : (ts before after others : List Token) (t : Token) → Halts false (seen ts) (seen after) → ts ≡ before ++ after → after ≡ t ∷ others → IsWrong (lexemes ts) (lexeme t)
wrong ts before after others t h e f = record {
  front = lexemes before;
  after = lexemes others;
  text = split_text ts before after others t e f;
  begins = subst (λ (u : List Symbol). BeginsSource 256 u) (sym (front_there false ts before after h e h)) h.begins;
  ends = λ most b. h.ends b.tree (symbol (lexeme t) ∷ b.tail) b.source.is (λ k. absurd (clash k refl))
      (up_to (lexemes before) (lexeme t) (tokens b.tree) b.tail b.text ∙ ap (λ u. u ++ (symbol (lexeme t) ∷ b.tail)) (front_there false ts before after h e h))
      (sym (first_there after others t f));
}

pub too_deep : (ts before after others : List Token) (t : Token) → Halts true (seen ts) (seen after) → ts ≡ before ++ after → after ≡ t ∷ others → IsTooDeep (lexemes ts) (lexeme t)
too_deep ts before after others t h e f = record {
  front = lexemes before;
  after = lexemes others;
  text = split_text ts before after others t e f;
  begins = subst (λ (u : List Symbol). BeginsSource 256 u) (sym (front_there true ts before after h e h)) h.begins;
  ends = λ b. h.ends b.tree (symbol (lexeme t) ∷ b.tail) b.source.is (λ k. b.source.nesting)
      (up_to (lexemes before) (lexeme t) (tokens b.tree) b.tail b.text ∙ ap (λ u. u ++ (symbol (lexeme t) ∷ b.tail)) (front_there true ts before after h e h))
      (sym (first_there after others t f));
  deeper =
      let b = h.deeper refl (symbol (lexeme t)) (seen others) (ap seen f) in
      let e' : h.front ++ symbol (lexeme t) ∷ [] ≡ symbols (lexemes before ++ lexeme t ∷ []) = ap (λ u. u ++ symbol (lexeme t) ∷ []) (sym (front_there true ts before after h e h)) ∙ sym (symbols-append (lexemes before) (lexeme t ∷ [])) in
      (b.0, subst (λ (u : List Symbol). BeginsSource b.0 u) e' b.1);
}

-- at the end a place that isn't there
pub nothing_there : (ts after : List Token) → Halts true (seen ts) (seen after) → after ≡ [] → ⊥
nothing_there ts after h e = h.there refl (ap (λ u. first (seen u)) e)

-- no tokens are a source
pub no_tokens : (ts : List Token) → Halts false (seen ts) [] → length ts ≡ 0 → ⊥
no_tokens [] h e = h.ends empty [] (is_part (is_stop refl)) (λ k. absurd (clash k refl)) (h.text) refl
no_tokens (t ∷ ts) h e = absurd (omega (arith, e))

pub at_the_end : (ts : List Token) (after : List Token) → Halts false (seen ts) (seen after) → after ≡ [] → Halts false (seen ts) []
at_the_end ts after h e = subst (λ (u : List Token). Halts false (seen ts) (seen u)) e h

pub is_unfinished : (ts before : List Token) (last : Token) (place : ℕ) → Halts false (seen ts) [] → ts ≡ before ++ last ∷ [] → (last.place + length last.bytes.now < 2 ^ 64 → place ≡ last.place + length last.bytes.now) → IsUnfinished (lexemes ts) place
is_unfinished ts before last place h e f = record {
  begins = subst (λ (u : List Symbol). BeginsSource 256 u) (sym (h.text ∙ append-nil h.front)) h.begins;
  ends = λ most x s t. h.ends x [] s.is (λ k. absurd (clash k refl)) (t ∙ h.text) refl;
  front = lexemes before;
  last = lexeme last;
  text = ap lexemes e ∙ map-append lexeme before (last ∷ []);
  at = f;
}

-- what was cut in two
pub cut : (ts before after : List Token) (n : ℕ) → before ≡ take n ts → after ≡ drop n ts → ts ≡ before ++ after
cut ts before after n e f = sym (take-append-drop n ts) ∙ ap (λ u. u ++ drop n ts) (sym e) ∙ ap (λ u. before ++ u) (sym f)

-- a source goes on behind each of its tokens
goes_through : (ts front after : List Lexeme) (t : Lexeme) (x : Tree) → ts ≡ front ++ t ∷ after → IsSource 256 x → symbols ts ≡ tokens x → BeginsSource 256 (symbols (front ++ t ∷ []))
goes_through ts front after t x e s h = record {
  tree = x;
  tail = symbols after;
  source = s;
  text = sym h ∙ ap symbols (e ∙ sym (append_assoc front (t ∷ []) after)) ∙ symbols-append (front ++ t ∷ []) after;
}

-- tokens that are a source are refused for want of memory alone
pub not_refused : (ts : List Lexeme) (e : ParseFault) (x : Tree) → IsRefused ts e → IsSource 256 x → symbols ts ≡ tokens x → e ≡ f.Memory
not_refused ts (f.Unexpected place) x r s h = let w = r.1 in absurd (w.ends 256 (goes_through ts w.front w.after r.0 x w.text s h))
not_refused ts (f.LeftOut place text) x r s h = let w = r.1 in absurd (w.ends 256 (goes_through ts w.front w.after r.0 x w.text s h))
not_refused ts (f.TooDeep place) x r s h = let w = r.1 in absurd (w.ends (goes_through ts w.front w.after r.0 x w.text s h))
not_refused ts (f.UnexpectedEnd place) x r s h = absurd (r.ends 256 x s (sym h))
not_refused ts f.Memory x r s h = refl

-- two trees of one source
pub same_source : (ts : List Symbol) (t : Source) (x : Tree) → Derives ts t → IsSource 256 x → ts ≡ tokens x → source_tree t ≡ x
same_source ts t x d s h = unique s.is d.source.is [] (ap (λ u. u ++ []) (sym h ∙ d.text)) refl
