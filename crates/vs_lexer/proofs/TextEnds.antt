-- Where texts end.
use Rattle.std.proofs.Common.{◌≡◌, ℕ, ◌≤◌, ◌<◌, Bool, true, false, nat_eq, List, [], ◌∷◌, ◌++◌, length, Some, refl, sym, ap, ◌∙◌, subst, arith, eq-eqb}
use Rattle.std.proofs.Math.Bool.{and-false}
use Rattle.std.proofs.lemmas.Bool.{eqb-false, ne_eqb}
use Rattle.std.proofs.lemmas.List.{append-nil}
use borrow.Author.Tests.{eqb-true}
use Rattle.vs_lexer.specs.declared.refusal.Refusal.TheVariants as r
use Rattle.vs_lexer.specs.declared.piece.Piece.{Piece}
use Rattle.vs_lexer.specs.declared.piece.Piece.TheVariants.{Token, Refused}
use Rattle.vs_lexer.specs.declared.piece.Lexed.{Lexed}
use Rattle.vs_lexer.specs.declared.token.Kind.TheVariants as k
use Rattle.vs_lexer.specs.Bytes.{in_comment}
use Rattle.vs_lexer.specs.Texts.{is_escape, is_octal, has_two_octal, is_above_377, TextEnd, ended, open_yet, after_octal, text_end, text_form, text_piece}
use Rattle.vs_lexer.specs.Reading.{Reads, ReadsText, to_end, unclosed}

module _ (b : ℕ) where
  pub text_quote : (after : List ℕ) → b ≡ 34 → text_end (b ∷ after) ≡ ended (Token k.Text) after
  text_quote [] e = rw (eq-eqb _ _ e) refl
  text_quote (c ∷ bs) e = rw (eq-eqb _ _ e) refl

  module _ (no_quote : b ≡ 34 → ⊥) where
    pub text_line_end : (after : List ℕ) → b ≡ 10 → text_end (b ∷ after) ≡ ended (Refused r.Unclosed) after
    text_line_end [] e = rw (ne_eqb _ _ no_quote, eq-eqb _ _ e) refl
    text_line_end (c ∷ bs) e = rw (ne_eqb _ _ no_quote, eq-eqb _ _ e) refl

    module _ (no_line_end : b ≡ 10 → ⊥) (no_backslash : b ≡ 92 → ⊥) where
      pub text_plain : (after : List ℕ) → in_comment b ≡ true → text_end (b ∷ after) ≡ text_end after
      text_plain [] e = rw (e, ne_eqb _ _ no_quote, ne_eqb _ _ no_line_end) refl
      text_plain (c ∷ bs) e = rw (e, ne_eqb _ _ no_quote, ne_eqb _ _ no_line_end, ne_eqb _ _ no_backslash) refl

      pub text_bad_byte : (after : List ℕ) → in_comment b ≡ false → text_end (b ∷ after) ≡ ended (Refused r.BadByte) after
      text_bad_byte [] e = rw (e, ne_eqb _ _ no_quote, ne_eqb _ _ no_line_end) refl
      text_bad_byte (c ∷ bs) e = rw (e, ne_eqb _ _ no_quote, ne_eqb _ _ no_line_end, ne_eqb _ _ no_backslash) refl

-- behind a backslash
module _ (c : ℕ) (bs : List ℕ) where
  pub text_escape : is_escape c ≡ true → text_end (92 ∷ c ∷ bs) ≡ text_end bs
  text_escape e = rw e refl

  module _ (no_escape : is_escape c ≡ false) where
    pub text_bad_escape : is_octal c ≡ false → text_end (92 ∷ c ∷ bs) ≡ ended (Refused r.BadLiteral) bs
    text_bad_escape e = rw (no_escape, e) refl

    module _ (octal : is_octal c ≡ true) where
      pub text_octal : is_above_377 c bs ≡ false → text_end (92 ∷ c ∷ bs) ≡ text_end bs
      text_octal e = rw (no_escape, octal, e) refl

      pub text_above : is_above_377 c bs ≡ true → text_end (92 ∷ c ∷ bs) ≡ after_octal bs
      text_above e = rw (no_escape, octal, e) refl

-- two octal digits do not stand in fewer bytes
pub few_not_above : (c : ℕ) (bs : List ℕ) → length bs < 2 → is_above_377 c bs ≡ false
few_not_above c [] h = and-false _
few_not_above c (x ∷ []) h = and-false _
few_not_above c (x ∷ y ∷ bs) h = absurd (omega arith)

-- what the first byte of a text's rest is
data Head (b : ℕ) : Type 0 where
  a_quote : b ≡ 34 → Head b
  a_line_end : (b ≡ 34 → ⊥) → b ≡ 10 → Head b
  a_backslash : b ≡ 92 → Head b
  a_plain : (b ≡ 34 → ⊥) → (b ≡ 10 → ⊥) → (b ≡ 92 → ⊥) → in_comment b ≡ true → Head b
  a_bad : (b ≡ 34 → ⊥) → (b ≡ 10 → ⊥) → (b ≡ 92 → ⊥) → in_comment b ≡ false → Head b

head : (b : ℕ) → Head b
head b = first (nat_eq b 34) refl
  where
    fourth : (b ≡ 34 → ⊥) → (b ≡ 10 → ⊥) → (b ≡ 92 → ⊥) → (t : Bool) → in_comment b ≡ t → Head b
    fourth p q u true e = a_plain p q u e
    fourth p q u false e = a_bad p q u e

    third : (b ≡ 34 → ⊥) → (b ≡ 10 → ⊥) → (t : Bool) → nat_eq b 92 ≡ t → Head b
    third p q true e = a_backslash (eqb-true b 92 e)
    third p q false e = fourth p q (eqb-false b 92 e) (in_comment b) refl

    second : (b ≡ 34 → ⊥) → (t : Bool) → nat_eq b 10 ≡ t → Head b
    second p true e = a_line_end p (eqb-true b 10 e)
    second p false e = third p (eqb-false b 10 e) (nat_eq b 92) refl

    first : (t : Bool) → nat_eq b 34 ≡ t → Head b
    first true e = a_quote (eqb-true b 34 e)
    first false e = second (eqb-false b 34 e) (nat_eq b 10) refl

-- what stands behind a backslash
data Escape (c : ℕ) (bs : List ℕ) : Type 0 where
  simple : is_escape c ≡ true → Escape c bs
  bad : is_escape c ≡ false → is_octal c ≡ false → Escape c bs
  octal : is_escape c ≡ false → is_octal c ≡ true → is_above_377 c bs ≡ false → Escape c bs
  above : is_escape c ≡ false → is_octal c ≡ true → is_above_377 c bs ≡ true → Escape c bs

escape : (c : ℕ) (bs : List ℕ) → Escape c bs
escape c bs = first (is_escape c) refl
  where
    third : is_escape c ≡ false → is_octal c ≡ true → (t : Bool) → is_above_377 c bs ≡ t → Escape c bs
    third p q true e = above p q e
    third p q false e = octal p q e

    second : is_escape c ≡ false → (t : Bool) → is_octal c ≡ t → Escape c bs
    second p true e = third p e (is_above_377 c bs) refl
    second p false e = bad p e

    first : (t : Bool) → is_escape c ≡ t → Escape c bs
    first true e = simple e
    first false e = second e (is_octal c) refl

ended_here : (q p : Piece) (xs rs zs : List ℕ) (t u : TextEnd) → t ≡ ended q xs → t ≡ ended p rs → u ≡ ended q (xs ++ zs) → u ≡ ended p (rs ++ zs)
ended_here q p xs rs zs t u e f g =
    let pieces : q ≡ p = cc in
    let rests : xs ≡ rs = cc in
    rw (← pieces, ← rests) g

never_ended : (p : Piece) (rs : List ℕ) (t : TextEnd) → t ≡ open_yet → t ≡ ended p rs → ⊥
never_ended p rs t e f = cc

-- an octal digit is a plain byte of a text
octal_plain : (x : ℕ) → is_octal x ≡ true → text_end (x ∷ []) ≡ open_yet
octal_plain x h =
    let low : 48 ≤ x = grind (arith, h) in
    text_plain x (λ e. omega arith) (λ e. omega arith) (λ e. omega (arith, octal_small x h)) [] (plain_from x low)
  where
    octal_small : (x : ℕ) → is_octal x ≡ true → x ≤ 55
    octal_small x h = grind (arith, h)

    plain_from : (x : ℕ) → 48 ≤ x → in_comment x ≡ true
    plain_from x h = grind (arith, h)

-- more bytes make no number of three digits above 377 where the text has ended before
still_not_above : (c : ℕ) (bs zs : List ℕ) (p : Piece) (rs : List ℕ) → is_above_377 c bs ≡ false → text_end bs ≡ ended p rs → is_above_377 c (bs ++ zs) ≡ false
still_not_above c [] zs p rs h e = absurd (never_ended p rs _ refl e)
still_not_above c (x ∷ []) zs p rs h e = by (is_octal x) refl
  where
    short : (ys : List ℕ) → is_octal x ≡ false → has_two_octal (x ∷ ys) ≡ false
    short [] f = refl
    short (y ∷ ys) f = rw f refl

    by : (t : Bool) → is_octal x ≡ t → is_above_377 c (x ∷ zs) ≡ false
    by true f = absurd (never_ended p rs _ (octal_plain x f) e)
    by false f = rw (short zs f) (and-false _)
still_not_above c (x ∷ y ∷ bs) zs p rs h e = h

front_not_above : (c : ℕ) (front rs : List ℕ) → is_above_377 c (front ++ rs) ≡ false → is_above_377 c front ≡ false
front_not_above c [] rs h = and-false _
front_not_above c (x ∷ []) rs h = and-false _
front_not_above c (x ∷ y ∷ front) rs h = h

after_octal-append : (bs rs zs : List ℕ) (p : Piece) → after_octal bs ≡ ended p rs → after_octal (bs ++ zs) ≡ ended p (rs ++ zs)
after_octal-append [] rs zs p e = absurd (never_ended p rs _ refl e)
after_octal-append (x ∷ []) rs zs p e = absurd (never_ended p rs _ refl e)
after_octal-append (x ∷ y ∷ bs) rs zs p e = ended_here _ p bs rs zs _ _ refl e refl

above_more : (c : ℕ) (bs zs : List ℕ) → is_above_377 c bs ≡ true → is_above_377 c (bs ++ zs) ≡ true
above_more c [] zs h = let no : is_above_377 c [] ≡ false = and-false _ in absurd (cc (no, h))
above_more c (x ∷ []) zs h = let no : is_above_377 c (x ∷ []) ≡ false = and-false _ in absurd (cc (no, h))
above_more c (x ∷ y ∷ bs) zs h = h

-- where a text has ended, more bytes stand behind it
pub text_end-append : (xs zs : List ℕ) (p : Piece) (rs : List ℕ) → text_end xs ≡ ended p rs → text_end (xs ++ zs) ≡ ended p (rs ++ zs)
text_end-append [] zs p rs e = absurd (never_ended p rs _ refl e)
text_end-append (b ∷ []) zs p rs e = by (head b)
  where
    by : Head b → text_end (b ∷ zs) ≡ ended p (rs ++ zs)
    by (a_quote h) = ended_here _ p [] rs zs _ _ (text_quote b [] h) e (text_quote b zs h)
    by (a_line_end n h) = ended_here _ p [] rs zs _ _ (text_line_end b n [] h) e (text_line_end b n zs h)
    by (a_backslash h) = absurd (never_ended p rs (text_end (b ∷ [])) (rw h refl) e)
    by (a_plain m n o h) = absurd (never_ended p rs _ (text_plain b m n o [] h) e)
    by (a_bad m n o h) = ended_here _ p [] rs zs _ _ (text_bad_byte b m n o [] h) e (text_bad_byte b m n o zs h)
text_end-append (b ∷ c ∷ bs) zs p rs e = by (head b) (text_end-append (c ∷ bs) zs p rs) (text_end-append bs zs p rs)
  where
    escaped : Escape c bs → text_end (92 ∷ c ∷ bs) ≡ ended p rs → (text_end bs ≡ ended p rs → text_end (bs ++ zs) ≡ ended p (rs ++ zs)) → text_end (92 ∷ c ∷ (bs ++ zs)) ≡ ended p (rs ++ zs)
    escaped (simple h) f more = text_escape c (bs ++ zs) h ∙ more (sym (text_escape c bs h) ∙ f)
    escaped (bad n h) f more = ended_here _ p bs rs zs _ _ (text_bad_escape c bs n h) f (text_bad_escape c (bs ++ zs) n h)
    escaped (octal n o h) f more =
        let inner : text_end bs ≡ ended p rs = sym (text_octal c bs n o h) ∙ f in
        text_octal c (bs ++ zs) n o (still_not_above c bs zs p rs h inner) ∙ more inner
    escaped (above n o h) f more =
        let inner : after_octal bs ≡ ended p rs = sym (text_above c bs n o h) ∙ f in
        text_above c (bs ++ zs) n o (above_more c bs zs h) ∙ after_octal-append bs rs zs p inner

    by : Head b → (text_end (c ∷ bs) ≡ ended p rs → text_end (c ∷ (bs ++ zs)) ≡ ended p (rs ++ zs)) → (text_end bs ≡ ended p rs → text_end (bs ++ zs) ≡ ended p (rs ++ zs)) → text_end (b ∷ c ∷ (bs ++ zs)) ≡ ended p (rs ++ zs)
    by (a_quote h) more after = ended_here _ p (c ∷ bs) rs zs _ _ (text_quote b (c ∷ bs) h) e (text_quote b (c ∷ (bs ++ zs)) h)
    by (a_line_end n h) more after = ended_here _ p (c ∷ bs) rs zs _ _ (text_line_end b n (c ∷ bs) h) e (text_line_end b n (c ∷ (bs ++ zs)) h)
    by (a_backslash h) more after = subst (λ (x : ℕ). text_end (x ∷ c ∷ (bs ++ zs)) ≡ ended p (rs ++ zs)) (sym h) (escaped (escape c bs) (subst (λ (x : ℕ). text_end (x ∷ c ∷ bs) ≡ ended p rs) h e) after)
    by (a_plain m n o h) more after = text_plain b m n o (c ∷ (bs ++ zs)) h ∙ more (sym (text_plain b m n o (c ∷ bs) h) ∙ e)
    by (a_bad m n o h) more after = ended_here _ p (c ∷ bs) rs zs _ _ (text_bad_byte b m n o (c ∷ bs) h) e (text_bad_byte b m n o (c ∷ (bs ++ zs)) h)

-- the bytes up to the end of a text
record Consumed (p : Piece) (rs xs : List ℕ) : Type 0 where
  front : List ℕ
  splits : xs ≡ front ++ rs
  ends : text_end front ≡ ended p []

-- the end is that of the first bytes
one_byte : (q p : Piece) (b : ℕ) (xs rs : List ℕ) → text_end (b ∷ xs) ≡ ended q xs → text_end (b ∷ xs) ≡ ended p rs → text_end (b ∷ []) ≡ ended q [] → Consumed p rs (b ∷ xs)
one_byte q p b xs rs e f g =
    let pieces : q ≡ p = cc in
    let rests : xs ≡ rs = cc in
    record { front = b ∷ []; splits = ap (λ (u : List ℕ). b ∷ u) rests; ends = rw (← pieces) g }

two_bytes : (q p : Piece) (b c : ℕ) (xs rs : List ℕ) → text_end (b ∷ c ∷ xs) ≡ ended q xs → text_end (b ∷ c ∷ xs) ≡ ended p rs → text_end (b ∷ c ∷ []) ≡ ended q [] → Consumed p rs (b ∷ c ∷ xs)
two_bytes q p b c xs rs e f g =
    let pieces : q ≡ p = cc in
    let rests : xs ≡ rs = cc in
    record { front = b ∷ c ∷ []; splits = ap (λ (u : List ℕ). b ∷ c ∷ u) rests; ends = rw (← pieces) g }

consumed : (xs : List ℕ) (p : Piece) (rs : List ℕ) → text_end xs ≡ ended p rs → Consumed p rs xs
consumed [] p rs e = absurd (never_ended p rs _ refl e)
consumed (b ∷ []) p rs e = by (head b)
  where
    by : Head b → Consumed p rs (b ∷ [])
    by (a_quote h) = one_byte _ p b [] rs (text_quote b [] h) e (text_quote b [] h)
    by (a_line_end n h) = one_byte _ p b [] rs (text_line_end b n [] h) e (text_line_end b n [] h)
    by (a_backslash h) = absurd (never_ended p rs (text_end (b ∷ [])) (rw h refl) e)
    by (a_plain m n o h) = absurd (never_ended p rs _ (text_plain b m n o [] h) e)
    by (a_bad m n o h) = one_byte _ p b [] rs (text_bad_byte b m n o [] h) e (text_bad_byte b m n o [] h)
consumed (b ∷ c ∷ bs) p rs e = by (head b) (consumed (c ∷ bs) p rs) (consumed bs p rs)
  where
    above_front : (ys : List ℕ) → is_escape c ≡ false → is_octal c ≡ true → is_above_377 c ys ≡ true → after_octal ys ≡ ended p rs → Consumed p rs (92 ∷ c ∷ ys)
    above_front [] n o h f = absurd (never_ended p rs _ refl f)
    above_front (x ∷ []) n o h f = absurd (never_ended p rs _ refl f)
    above_front (x ∷ y ∷ ys) n o h f =
        let pieces : Refused r.BadLiteral ≡ p = cc in
        let rests : ys ≡ rs = cc in
        record {
          front = 92 ∷ c ∷ x ∷ y ∷ [];
          splits = ap (λ (u : List ℕ). 92 ∷ c ∷ x ∷ y ∷ u) rests;
          ends = text_above c (x ∷ y ∷ []) n o h ∙ ap (λ (q : Piece). ended q []) pieces;
        }

    escaped : Escape c bs → text_end (92 ∷ c ∷ bs) ≡ ended p rs → (text_end bs ≡ ended p rs → Consumed p rs bs) → Consumed p rs (92 ∷ c ∷ bs)
    escaped (simple h) f more =
        let inner = more (sym (text_escape c bs h) ∙ f) in
        record { front = 92 ∷ c ∷ inner.front; splits = ap (λ (u : List ℕ). 92 ∷ c ∷ u) inner.splits; ends = text_escape c inner.front h ∙ inner.ends }
    escaped (bad n h) f more = two_bytes _ p 92 c bs rs (text_bad_escape c bs n h) f (text_bad_escape c [] n h)
    escaped (octal n o h) f more =
        let inner = more (sym (text_octal c bs n o h) ∙ f) in
        let low : is_above_377 c inner.front ≡ false = front_not_above c inner.front rs (subst (λ (u : List ℕ). is_above_377 c u ≡ false) inner.splits h) in
        record { front = 92 ∷ c ∷ inner.front; splits = ap (λ (u : List ℕ). 92 ∷ c ∷ u) inner.splits; ends = text_octal c inner.front n o low ∙ inner.ends }
    escaped (above n o h) f more = above_front bs n o h (sym (text_above c bs n o h) ∙ f)

    by : Head b → (text_end (c ∷ bs) ≡ ended p rs → Consumed p rs (c ∷ bs)) → (text_end bs ≡ ended p rs → Consumed p rs bs) → Consumed p rs (b ∷ c ∷ bs)
    by (a_quote h) more after = one_byte _ p b (c ∷ bs) rs (text_quote b (c ∷ bs) h) e (text_quote b [] h)
    by (a_line_end n h) more after = one_byte _ p b (c ∷ bs) rs (text_line_end b n (c ∷ bs) h) e (text_line_end b n [] h)
    by (a_backslash h) more after = subst (λ (x : ℕ). Consumed p rs (x ∷ c ∷ bs)) (sym h) (escaped (escape c bs) (subst (λ (x : ℕ). text_end (x ∷ c ∷ bs) ≡ ended p rs) h e) after)
    by (a_plain m n o h) more after =
        let inner = more (sym (text_plain b m n o (c ∷ bs) h) ∙ e) in
        record { front = b ∷ inner.front; splits = ap (λ (u : List ℕ). b ∷ u) inner.splits; ends = text_plain b m n o inner.front h ∙ inner.ends }
    by (a_bad m n o h) more after = one_byte _ p b (c ∷ bs) rs (text_bad_byte b m n o (c ∷ bs) h) e (text_bad_byte b m n o [] h)

-- a text that has been read is the longest
pub text_reads : (quote : ℕ) (after : List ℕ) (read : Lexed) → ReadsText after read → Reads text_form (quote ∷ after) read
unfolding text_form
text_reads quote after read (to_end read' e) =
    let front = consumed after read.piece read.rest.now e in
    record {
      text = quote ∷ front.front;
      begins = record {
        splits = ap (λ (u : List ℕ). quote ∷ u) front.splits;
        reads = record {
          is = ap text_piece front.ends;
          longest = λ b more tail f. ap text_piece (text_end-append front.front (b ∷ more) read.piece [] front.ends);
        };
      };
    }
text_reads quote after read (unclosed read' e is at) = record {
  text = quote ∷ after;
  begins = record {
    splits = ap (λ (u : List ℕ). quote ∷ u) (sym (append-nil after) ∙ ap (λ (u : List ℕ). after ++ u) (sym at));
    reads = record { is = ap text_piece e ∙ ap Some (sym is); longest = λ b more tail f. cc };
  };
}

-- the same end from other bytes
pub reads_same : (xs ys : List ℕ) (read : Lexed) → text_end xs ≡ text_end ys → ReadsText xs read → ReadsText ys read
reads_same xs ys read e (to_end read' f) = to_end read (sym e ∙ f)
reads_same xs ys read e (unclosed read' f is at) = unclosed read (sym e ∙ f) is at
