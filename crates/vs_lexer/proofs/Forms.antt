-- The form that a first byte chooses.
use Rattle.std.proofs.Common.{◌≡◌, ℕ, Bool, true, false, if◌then◌else◌, ◌==◌, nat_eq, List, [], ◌∷◌, ◌++◌, Some, None, refl, sym, subst, eq-eqb, arith}
use Rattle.std.specs.Char.{is_ascii_digit}
use borrow.Author.Tests.{eqb-true}
use Rattle.vs_lexer.specs.declared.piece.Piece.{Piece}
use Rattle.vs_lexer.specs.declared.piece.Lexed.{Lexed}
use Rattle.vs_lexer.specs.Bytes.{is_white, starts_name, in_name, in_escaped, in_decimal, begins}
use Rattle.vs_lexer.specs.Forms.{Form, run_of, Begins}
use Rattle.vs_lexer.specs.Texts.{text_form}
use Rattle.vs_lexer.specs.Literals.{number_form, apostrophe_form, quote_form, decimal_piece}
use Rattle.vs_lexer.specs.Pieces.{white_piece, name_piece, system_piece, escaped_piece, slash_form, parenthesis_form, mark_form, directive_form, form_of, piece_of}
use Rattle.vs_lexer.specs.Reading.{Reads}
use Rattle.std.proofs.lemmas.Bool.{ne_eqb}

module _ (b : ℕ) where
  pub form_of_white : is_white b ≡ true → form_of b ≡ run_of is_white white_piece
  unfolding form_of
  form_of_white h = rw (h) refl

  module _ (not_white : is_white b ≡ false) where
    pub form_of_name : starts_name b ≡ true → form_of b ≡ run_of in_name name_piece
    unfolding form_of
    form_of_name h = rw (not_white, h) refl

    module _ (no_name : starts_name b ≡ false) where
      pub form_of_digit : is_ascii_digit b ≡ true → form_of b ≡ number_form
      unfolding form_of
      form_of_digit h = rw (not_white, no_name, h) refl

      module _ (no_digit : is_ascii_digit b ≡ false) where
        pub form_of_text : b ≡ 34 → form_of b ≡ text_form
        unfolding form_of
        form_of_text h = rw (not_white, no_name, no_digit, eq-eqb _ _ h) refl

        module _ (no_text : b ≡ 34 → ⊥) where
          pub form_of_system : b ≡ 36 → form_of b ≡ run_of in_name system_piece
          unfolding form_of
          form_of_system h = rw (not_white, no_name, no_digit, ne_eqb _ _ no_text, eq-eqb _ _ h) refl

          module _ (no_system : b ≡ 36 → ⊥) where
            pub form_of_apostrophe : b ≡ 39 → form_of b ≡ apostrophe_form
            unfolding form_of
            form_of_apostrophe h = rw (not_white, no_name, no_digit, ne_eqb _ _ no_text, ne_eqb _ _ no_system, eq-eqb _ _ h) refl

            module _ (no_apostrophe : b ≡ 39 → ⊥) where
              pub form_of_parenthesis : b ≡ 40 → form_of b ≡ parenthesis_form
              unfolding form_of
              form_of_parenthesis h = rw (not_white, no_name, no_digit, ne_eqb _ _ no_text, ne_eqb _ _ no_system, ne_eqb _ _ no_apostrophe, eq-eqb _ _ h) refl

              module _ (no_parenthesis : b ≡ 40 → ⊥) where
                pub form_of_slash : b ≡ 47 → form_of b ≡ slash_form
                unfolding form_of
                form_of_slash h = rw (not_white, no_name, no_digit, ne_eqb _ _ no_text, ne_eqb _ _ no_system, ne_eqb _ _ no_apostrophe, ne_eqb _ _ no_parenthesis, eq-eqb _ _ h) refl

                module _ (no_slash : b ≡ 47 → ⊥) where
                  pub form_of_escaped : b ≡ 92 → form_of b ≡ run_of in_escaped escaped_piece
                  unfolding form_of
                  form_of_escaped h = rw (not_white, no_name, no_digit, ne_eqb _ _ no_text, ne_eqb _ _ no_system, ne_eqb _ _ no_apostrophe, ne_eqb _ _ no_parenthesis, ne_eqb _ _ no_slash, eq-eqb _ _ h) refl

                  module _ (no_escaped : b ≡ 92 → ⊥) where
                    pub form_of_directive : b ≡ 96 → form_of b ≡ directive_form
                    unfolding form_of
                    form_of_directive h = rw (not_white, no_name, no_digit, ne_eqb _ _ no_text, ne_eqb _ _ no_system, ne_eqb _ _ no_apostrophe, ne_eqb _ _ no_parenthesis, ne_eqb _ _ no_slash, ne_eqb _ _ no_escaped, eq-eqb _ _ h) refl

                    pub form_of_mark : (b ≡ 96 → ⊥) → form_of b ≡ mark_form
                    unfolding form_of
                    form_of_mark h = rw (not_white, no_name, no_digit, ne_eqb _ _ no_text, ne_eqb _ _ no_system, ne_eqb _ _ no_apostrophe, ne_eqb _ _ no_parenthesis, ne_eqb _ _ no_slash, ne_eqb _ _ no_escaped, ne_eqb _ _ h) refl

either_form : (P : Form → Type 0) (t : Bool) (f g : Form) → (t ≡ true → P f) → (t ≡ false → P g) → P (if t then f else g)
either_form P true f g x y = x refl
either_form P false f g x y = y refl

-- the forms from a test on
abbrev from_backquote : ℕ → Form
from_backquote b = if b == 96 then directive_form else mark_form

abbrev from_backslash : ℕ → Form
from_backslash b = if b == 92 then run_of in_escaped escaped_piece else from_backquote b

abbrev from_slash : ℕ → Form
from_slash b = if b == 47 then slash_form else from_backslash b

abbrev from_parenthesis : ℕ → Form
from_parenthesis b = if b == 40 then parenthesis_form else from_slash b

abbrev from_apostrophe : ℕ → Form
from_apostrophe b = if b == 39 then apostrophe_form else from_parenthesis b

abbrev from_dollar : ℕ → Form
from_dollar b = if b == 36 then run_of in_name system_piece else from_apostrophe b

abbrev from_text : ℕ → Form
from_text b = if b == 34 then text_form else from_dollar b

abbrev from_digit : ℕ → Form
from_digit b = if is_ascii_digit b then number_form else from_text b

abbrev from_letter : ℕ → Form
from_letter b = if starts_name b then run_of in_name name_piece else from_digit b

-- what holds of each form that a byte can choose holds of the one that it chooses
pub by_form : (P : Form → Type 0) (b : ℕ) → (is_white b ≡ true → P (run_of is_white white_piece)) → (starts_name b ≡ true → P (run_of in_name name_piece)) → (is_ascii_digit b ≡ true → P number_form) → P text_form → (nat_eq b 36 ≡ true → P (run_of in_name system_piece)) → P apostrophe_form → P parenthesis_form → P slash_form → (nat_eq b 92 ≡ true → P (run_of in_escaped escaped_piece)) → P directive_form → P mark_form → P (form_of b)
unfolding form_of
by_form P b white name digit text system apostrophe parenthesis slash escaped directive mark =
    either_form P (is_white b) (run_of is_white white_piece) (from_letter b) white
    (λ _. either_form P (starts_name b) (run_of in_name name_piece) (from_digit b) name
    (λ _. either_form P (is_ascii_digit b) number_form (from_text b) digit
    (λ _. either_form P (nat_eq b 34) text_form (from_dollar b) (λ _. text)
    (λ _. either_form P (nat_eq b 36) (run_of in_name system_piece) (from_apostrophe b) system
    (λ _. either_form P (nat_eq b 39) apostrophe_form (from_parenthesis b) (λ _. apostrophe)
    (λ _. either_form P (nat_eq b 40) parenthesis_form (from_slash b) (λ _. parenthesis)
    (λ _. either_form P (nat_eq b 47) slash_form (from_backslash b) (λ _. slash)
    (λ _. either_form P (nat_eq b 92) (run_of in_escaped escaped_piece) (from_backquote b) escaped
    (λ _. either_form P (nat_eq b 96) directive_form mark_form (λ _. directive) (λ _. mark))))))))))

-- a form by which the byte alone is a piece
record HasFirst (b : ℕ) (form : Form) : Type 0 where
  first : (tail : List ℕ) → (p : Piece) × (form (b ∷ []) tail ≡ Some p)

run_has_first : (b : ℕ) (p : ℕ → Bool) (piece : List ℕ → List ℕ → Piece) → p b ≡ true → HasFirst b (run_of p piece)
run_has_first b p piece h = record { first = λ tail. (piece (b ∷ []) tail, rw h refl) }

starts_name_in_name : (b : ℕ) → starts_name b ≡ true → in_name b ≡ true
starts_name_in_name b h = grind (arith, h)

digit_in_decimal : (b : ℕ) → is_ascii_digit b ≡ true → in_decimal b ≡ true
digit_in_decimal b h = rw h refl

number_has_first : (b : ℕ) → is_ascii_digit b ≡ true → HasFirst b number_form
unfolding number_form
number_has_first b h = record { first = λ tail. (decimal_piece (b ∷ []) tail, rw (digit_in_decimal b h) refl) }

text_has_first : (b : ℕ) → HasFirst b text_form
unfolding text_form
text_has_first b = record { first = λ tail. (_, refl) }

apostrophe_has_first : (b : ℕ) → HasFirst b apostrophe_form
unfolding apostrophe_form quote_form
apostrophe_has_first b = record { first = λ tail. (_, refl) }

parenthesis_has_first : (b : ℕ) → HasFirst b parenthesis_form
unfolding parenthesis_form
parenthesis_has_first b = record { first = λ tail. (_, refl) }

slash_has_first : (b : ℕ) → HasFirst b slash_form
unfolding slash_form
slash_has_first b = record { first = λ tail. (_, refl) }

directive_has_first : (b : ℕ) → HasFirst b directive_form
unfolding directive_form
directive_has_first b = record { first = λ tail. (_, refl) }

mark_has_first : (b : ℕ) → HasFirst b mark_form
unfolding mark_form
mark_has_first b = record { first = λ tail. (_, refl) }

byte_has_first : (b : ℕ) → HasFirst b (form_of b)
byte_has_first b =
    by_form (HasFirst b) b
    (λ h. run_has_first b is_white white_piece h)
    (λ h. run_has_first b in_name name_piece (starts_name_in_name b h))
    (λ h. number_has_first b h)
    (text_has_first b)
    (λ h. run_has_first b in_name system_piece (subst (λ (y : ℕ). in_name y ≡ true) (sym (eqb-true b 36 h)) refl))
    (apostrophe_has_first b)
    (parenthesis_has_first b)
    (slash_has_first b)
    (λ h. run_has_first b in_escaped escaped_piece (subst (λ (y : ℕ). in_escaped y ≡ true) (sym (eqb-true b 92 h)) refl))
    (directive_has_first b)
    (mark_has_first b)

-- what begins by the form of its first byte is a piece
pub piece_by_first : (b : ℕ) (tail : List ℕ) (read : Lexed) → Reads (form_of b) (b ∷ tail) read → Reads piece_of (b ∷ tail) read
piece_by_first b tail read reads = record { text = reads.text; begins = at reads.text reads.begins }
  where
    at : (text : List ℕ) → Begins (form_of b) read.piece text read.rest.now (b ∷ tail) → Begins piece_of read.piece text read.rest.now (b ∷ tail)
    at [] begins =
        let none : form_of b (b ∷ []) tail ≡ None = begins.reads.longest b [] tail (sym begins.splits) in
        let some = (byte_has_first b).first tail in
        absurd (cc (none, some.1))
    at (x ∷ xs) begins =
        let e = begins.splits in
        let same : b ≡ x = cc in
        record {
          splits = begins.splits;
          reads = record {
            is = subst (λ (y : ℕ). form_of y (x ∷ xs) read.rest.now ≡ Some read.piece) same begins.reads.is;
            longest = λ c more after f. subst (λ (y : ℕ). form_of y (x ∷ xs ++ c ∷ more) after ≡ None) same (begins.reads.longest c more after f);
          };
        }
