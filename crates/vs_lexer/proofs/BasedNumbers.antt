-- Reading numbers with a base.
use Rattle.std.proofs.Common.{◌≡◌, ℕ, Bool, true, false, nat_eq, ◌==◌, List, [], ◌∷◌, ◌++◌, length, Option, Some, None, refl, sym, ap, ◌∙◌, append_assoc, arith, eq-eqb, length-append}
use Rattle.std.specs.List.{list_all}
use Rattle.std.proofs.lemmas.Bool.{and_parts, or_parts}
use Rattle.vs_lexer.specs.declared.base.Base.{Base}
use Rattle.vs_lexer.specs.declared.refusal.Refusal.TheVariants as r
use Rattle.vs_lexer.specs.declared.piece.Piece.TheVariants.{Refused}
use Rattle.vs_lexer.specs.declared.piece.Lexed.{Lexed}
use Rattle.vs_lexer.specs.Bytes.{is_white, in_decimal, begins, after_run}
use Rattle.vs_lexer.specs.Numbers.{base_of, is_sign, starts_digits, in_digits}
use Rattle.vs_lexer.specs.Forms.{Form, Begins}
use Rattle.vs_lexer.specs.Literals.{decimal_piece, literal_piece, digits_form, base_form, quote_form, after_size, number_form, apostrophe_form}
use Rattle.vs_lexer.specs.Reading.{Reads, HasNone}
use Rattle.vs_lexer.proofs.LongestRuns.{fails_all, after_all, front_all, after_front}

-- a piece behind a beginning that is always the same
module _ (form inner : Form) (prefix : List ℕ) where
  pub behind_prefix : (body bytes : List ℕ) (read : Lexed) → bytes ≡ prefix ++ body → ((bs rest : List ℕ) → form (prefix ++ bs) rest ≡ inner bs rest) → Reads inner body read → Reads form bytes read
  behind_prefix body bytes read splits same reads =
      let inside = reads.begins in
      record {
        text = prefix ++ reads.text;
        begins = record {
          splits = splits ∙ ap (λ (u : List ℕ). prefix ++ u) inside.splits ∙ sym (append_assoc prefix reads.text read.rest.now);
          reads = record {
            is = same reads.text read.rest.now ∙ inside.reads.is;
            longest = λ b more after e. ap (λ (u : List ℕ). form u after) (append_assoc prefix reads.text (b ∷ more)) ∙ same (reads.text ++ b ∷ more) after ∙ inside.reads.longest b more after e;
          };
        };
      }

module _ (size : Option (List ℕ)) (signed : Bool) where
  -- no base stands there
  pub no_base_here : (bytes : List ℕ) → ((b : ℕ) (after : List ℕ) → bytes ≡ b ∷ after → base_of b ≡ None) → HasNone (base_form size signed) bytes
  unfolding base_form
  no_base_here bytes h [] rest e = refl
  no_base_here bytes h (x ∷ xs) rest e = rw (h x (xs ++ rest) e) refl

  -- no digit stands behind the base
  pub no_digit_here : (letter : ℕ) (after white behind bytes : List ℕ) (base : Base) → bytes ≡ letter ∷ after → base_of letter ≡ Some base → after ≡ white ++ behind → list_all is_white white ≡ true → begins is_white behind ≡ false → begins (starts_digits base) behind ≡ false → HasNone (base_form size signed) bytes
  unfolding base_form
  no_digit_here letter after white behind bytes base splits is cut all stops none [] rest e = refl
  no_digit_here letter after white behind bytes base splits is cut all stops none (x ∷ xs) rest e =
      let heads : letter ≡ x = cc in
      let tails : xs ++ rest ≡ white ++ behind = cc in
      let whole : begins (starts_digits base) (after_run is_white (xs ++ rest)) ≡ false = ap (λ (u : List ℕ). begins (starts_digits base) (after_run is_white u)) tails ∙ ap (begins (starts_digits base)) (after_all is_white white behind all stops) ∙ none in
      let part : begins (starts_digits base) (after_run is_white xs) ≡ false = after_front is_white (starts_digits base) xs rest whole in
      let found : base_of x ≡ Some base = rw heads at is in
      rw found (missing (after_run is_white xs) part)
    where
      missing : (ds : List ℕ) → begins (starts_digits base) ds ≡ false → digits_form size signed (Some base) ds ≡ None
      missing [] h = refl
      missing (d ∷ ds) h = rw h refl

  -- a base and its digits
  pub base_reads : (letter : ℕ) (after white digits bytes : List ℕ) (base : Base) (first : ℕ) (more_digits : List ℕ) (read : Lexed) → bytes ≡ letter ∷ after → base_of letter ≡ Some base → after ≡ white ++ (digits ++ read.rest.now) → list_all is_white white ≡ true → begins is_white (digits ++ read.rest.now) ≡ false → digits ≡ first ∷ more_digits → list_all (in_digits base) digits ≡ true → begins (in_digits base) read.rest.now ≡ false → starts_digits base first ≡ true → read.piece ≡ literal_piece size signed base digits → Reads (base_form size signed) bytes read
  unfolding base_form
  base_reads letter after white digits bytes base first more_digits read splits is cut all stops some inside ends starts piece = record {
    text = letter ∷ (white ++ digits);
    begins = record {
      splits = splits ∙ ap (λ (u : List ℕ). letter ∷ u) (cut ∙ sym (append_assoc white digits read.rest.now));
      reads = record {
        is = rw (is, after_all is_white white digits all not_white) (whole digits some (rw some at inside) piece);
        longest = λ b more tail e.
            let stop : in_digits base b ≡ false = sym (ap (begins (in_digits base)) e) ∙ ends in
            rw (is, append_assoc white digits (b ∷ more), after_all is_white white (digits ++ b ∷ more) all (still_not_white (b ∷ more))) (longer b more stop);
      };
    };
  }
    where
      first_black : is_white first ≡ false
      first_black = rw some at stops

      not_white : begins is_white digits ≡ false
      not_white = rw some first_black

      still_not_white : (tail : List ℕ) → begins is_white (digits ++ tail) ≡ false
      still_not_white tail = rw some first_black

      whole : (ds : List ℕ) → ds ≡ first ∷ more_digits → list_all (in_digits base) (first ∷ more_digits) ≡ true → read.piece ≡ literal_piece size signed base ds → digits_form size signed (Some base) ds ≡ Some read.piece
      whole ds e a p =
          let rest_all : list_all (in_digits base) more_digits ≡ true = (and_parts (in_digits base first) (list_all (in_digits base) more_digits) a).1 in
          rw (e, starts, rest_all) (ap Some (sym (p ∙ ap (λ (u : List ℕ). literal_piece size signed base u) e)))

      longer : (b : ℕ) (more : List ℕ) → in_digits base b ≡ false → digits_form size signed (Some base) (digits ++ b ∷ more) ≡ None
      longer b more stop = rw (some, starts, fails_all (in_digits base) more_digits b more stop) refl

module _ (size : Option (List ℕ)) where
  pub signed_reads : (b : ℕ) (after bytes : List ℕ) (read : Lexed) → bytes ≡ b ∷ after → is_sign b ≡ true → Reads (base_form size true) after read → Reads (quote_form size) bytes read
  unfolding quote_form
  signed_reads b after bytes read splits sign reads = behind_prefix (quote_form size) (base_form size true) (b ∷ []) after bytes read splits (λ bs rest. rw sign refl) reads

  pub unsigned_reads : (b : ℕ) (after bytes : List ℕ) (read : Lexed) → bytes ≡ b ∷ after → is_sign b ≡ false → Reads (base_form size false) bytes read → Reads (quote_form size) bytes read
  unfolding quote_form base_form
  unsigned_reads b after bytes read splits no_sign reads = record { text = reads.text; begins = at reads.text reads.begins }
    where
      at : (text : List ℕ) → Begins (base_form size false) read.piece text read.rest.now bytes → Begins (quote_form size) read.piece text read.rest.now bytes
      at [] begins = let none = begins.reads.is in absurd (cc none)
      at (x ∷ xs) begins =
          let e = begins.splits in
          let heads : b ≡ x = cc in
          let other : is_sign x ≡ false = rw heads at no_sign in
          record { splits = begins.splits; reads = record { is = rw other begins.reads.is; longest = λ c more after f. rw other (begins.reads.longest c more after f) } }

  -- a quote with no literal behind it
  pub lone_quote : (bytes : List ℕ) (read : Lexed) → read.rest.now ≡ bytes → read.piece ≡ Refused r.BadLiteral → ((b : ℕ) (more rest : List ℕ) → bytes ≡ b ∷ more ++ rest → quote_form size (b ∷ more) rest ≡ None) → Reads (quote_form size) bytes read
  unfolding quote_form
  lone_quote bytes read at is none = record {
    text = [];
    begins = record { splits = sym at; reads = record { is = rw is refl; longest = λ b more rest e. none b more rest (sym at ∙ e) } };
  }

  pub none_signed : (first : ℕ) (after bytes : List ℕ) → bytes ≡ first ∷ after → is_sign first ≡ true → HasNone (base_form size true) after → (b : ℕ) (more rest : List ℕ) → bytes ≡ b ∷ more ++ rest → quote_form size (b ∷ more) rest ≡ None
  unfolding quote_form
  none_signed first after bytes splits sign none b more rest e =
      let heads : first ≡ b = cc in
      let tails : after ≡ more ++ rest = cc in
      let here : is_sign b ≡ true = rw heads at sign in
      rw here (none more rest tails)

  pub none_unsigned : (first : ℕ) (after bytes : List ℕ) → bytes ≡ first ∷ after → is_sign first ≡ false → HasNone (base_form size false) bytes → (b : ℕ) (more rest : List ℕ) → bytes ≡ b ∷ more ++ rest → quote_form size (b ∷ more) rest ≡ None
  unfolding quote_form
  none_unsigned first after bytes splits no_sign none b more rest e =
      let heads : first ≡ b = cc in
      let here : is_sign b ≡ false = rw heads at no_sign in
      rw here (none (b ∷ more) rest e)

-- no digits behind the base
pub no_digits : (base : Base) (digits rest behind : List ℕ) → behind ≡ digits ++ rest → digits ≡ [] → begins (in_digits base) rest ≡ false → begins (starts_digits base) behind ≡ false
no_digits base digits rest behind splits none stops = rw (splits, none) (weaker rest stops)
  where
    weaker : (bs : List ℕ) → begins (in_digits base) bs ≡ false → begins (starts_digits base) bs ≡ false
    weaker [] h = refl
    weaker (b ∷ bs) h = (or_parts (starts_digits base b) (nat_eq b 95) h).0

-- something else among the digits of the base
pub other_digit : (base : Base) (digits rest behind more : List ℕ) (first : ℕ) → behind ≡ digits ++ rest → digits ≡ first ∷ more → starts_digits base first ≡ false → begins (starts_digits base) behind ≡ false
other_digit base digits rest behind more first splits some h = rw (splits, some) h

-- a number without a base
pub plain_reads : (digits after white behind bytes : List ℕ) (read : Lexed) → bytes ≡ digits ++ after → list_all in_decimal digits ≡ true → begins in_decimal after ≡ false → after ≡ white ++ behind → list_all is_white white ≡ true → begins is_white behind ≡ false → begins (λ b. b == 39) behind ≡ false → read.rest.now ≡ after → read.piece ≡ decimal_piece digits after → Reads number_form bytes read
unfolding number_form after_size
plain_reads digits after white behind bytes read splits all stops cut whites black no_quote at is = record {
  text = digits;
  begins = record {
    splits = rw at splits;
    reads = record {
      is = rw (at, all, is) refl;
      longest = λ b more tail e.
          let whole : after ≡ b ∷ more ++ tail = sym at ∙ e in
          let stop : in_decimal b ≡ false = sym (ap (begins in_decimal) whole) ∙ stops in
          let rest : begins (λ c. c == 39) (after_run is_white (b ∷ more ++ tail)) ≡ false = ap (λ (u : List ℕ). begins (λ c. c == 39) (after_run is_white u)) (sym whole ∙ cut) ∙ ap (begins (λ c. c == 39)) (after_all is_white white behind whites black) ∙ no_quote in
          let part : begins (λ c. c == 39) (after_run is_white (b ∷ more)) ≡ false = after_front is_white (λ c. c == 39) (b ∷ more) tail rest in
          rw (fails_all in_decimal digits b more stop, after_all in_decimal digits (b ∷ more) all stop, front_all in_decimal digits (b ∷ more) all stop) (quoteless (after_run is_white (b ∷ more)) tail part);
    };
  };
}
  where
    quoteless : (bs rest : List ℕ) → begins (λ c. c == 39) bs ≡ false → after_size digits bs rest ≡ None
    quoteless [] rest h = refl
    quoteless (b ∷ bs) rest h = rw h refl

-- a number with a size and a base
pub sized_reads : (digits after white behind body bytes : List ℕ) (quote : ℕ) (read : Lexed) → bytes ≡ digits ++ after → list_all in_decimal digits ≡ true → begins in_decimal after ≡ false → after ≡ white ++ behind → list_all is_white white ≡ true → behind ≡ quote ∷ body → quote ≡ 39 → Reads (quote_form (Some digits)) body read → Reads number_form bytes read
unfolding number_form after_size
sized_reads digits after white behind body bytes quote read splits all stops cut whites some is reads =
    behind_prefix number_form (quote_form (Some digits)) (digits ++ (white ++ quote ∷ [])) body bytes read whole same reads
  where
    whole : bytes ≡ (digits ++ (white ++ quote ∷ [])) ++ body
    whole = splits ∙ ap (λ (u : List ℕ). digits ++ u) (cut ∙ ap (λ (u : List ℕ). white ++ u) some ∙ sym (append_assoc white (quote ∷ []) body)) ∙ sym (append_assoc digits (white ++ quote ∷ []) body)

    no_digit : (ws bs : List ℕ) → ws ++ behind ≡ after → begins in_decimal (ws ++ quote ∷ bs) ≡ false
    no_digit [] bs e = rw is refl
    no_digit (w ∷ ws) bs e = ap (begins in_decimal) e ∙ stops

    black : (bs : List ℕ) → begins is_white (quote ∷ bs) ≡ false
    black bs = rw is refl

    not_all : (ds : List ℕ) → begins in_decimal ds ≡ false → (length ds ≡ 0 → ⊥) → list_all in_decimal (digits ++ ds) ≡ false
    not_all [] h n = absurd (n refl)
    not_all (d ∷ ds) h n = fails_all in_decimal digits d ds h

    some_left : (ws bs : List ℕ) → length (ws ++ quote ∷ bs) ≡ 0 → ⊥
    some_left ws bs e = omega (arith, length-append ws (quote ∷ bs))

    same : (bs rest : List ℕ) → number_form ((digits ++ (white ++ quote ∷ [])) ++ bs) rest ≡ quote_form (Some digits) bs rest
    same bs rest =
        let regroup : (digits ++ (white ++ quote ∷ [])) ++ bs ≡ digits ++ (white ++ quote ∷ bs) = append_assoc digits (white ++ quote ∷ []) bs ∙ ap (λ (u : List ℕ). digits ++ u) (append_assoc white (quote ∷ []) bs) in
        let stop : begins in_decimal (white ++ quote ∷ bs) ≡ false = no_digit white bs (sym cut) in
        rw (regroup, not_all (white ++ quote ∷ bs) stop (some_left white bs), after_all in_decimal digits (white ++ quote ∷ bs) all stop, front_all in_decimal digits (white ++ quote ∷ bs) all stop, after_all is_white white (quote ∷ bs) whites (black bs), eq-eqb _ _ is) refl

-- a number without a size
pub sizeless_reads : (quote : ℕ) (after : List ℕ) (read : Lexed) → Reads (quote_form None) after read → Reads apostrophe_form (quote ∷ after) read
unfolding apostrophe_form
sizeless_reads quote after read reads = behind_prefix apostrophe_form (quote_form None) (quote ∷ []) after (quote ∷ after) read refl (λ bs rest. refl) reads
