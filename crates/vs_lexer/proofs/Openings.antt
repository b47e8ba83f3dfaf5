-- What is skipped up to its close, what a slash or a parenthesis begins, and marks.
use Rattle.std.proofs.Common.{◌≡◌, ℕ, ◌+◌, ◌<◌, ◌&&◌, Bool, true, false, not, nat_eq, List, [], ◌∷◌, ◌++◌, length, get_or, drop, Some, None, refl, sym, ap, ◌∙◌, append_assoc}
use Rattle.std.proofs.lemmas.Bool.{ne_eqb}
use Rattle.std.proofs.lemmas.List.{append-nil, drop_more}
use Rattle.vs_lexer.specs.declared.refusal.Refusal.TheVariants as r
use Rattle.vs_lexer.specs.declared.piece.Piece.TheVariants.{Skipped, Token, Refused}
use Rattle.vs_lexer.specs.declared.piece.Lexed.{Lexed}
use Rattle.vs_lexer.specs.declared.token.Kind.{Kind}
use Rattle.vs_lexer.specs.declared.token.Kind.TheVariants as k
use Rattle.vs_lexer.specs.declared.token.Mark.TheVariants as m
use Rattle.vs_lexer.specs.Bytes.{is_white, in_line, in_comment, in_attribute}
use Rattle.vs_lexer.specs.Forms.{Form, run_of}
use Rattle.vs_lexer.specs.Pieces.{line_piece, among, after_pair, closed_by, slash_form, opens_attribute, parenthesis_form, mark_form, token_of, one_byte_piece}
use Rattle.vs_lexer.specs.Reserved.{kind_in, one_byte_marks, two_byte_marks, three_byte_marks}
use Rattle.vs_lexer.specs.Reading.{Reads}
use Rattle.vs_lexer.specs.Taking.{HasNoMarkOfTwo, HasNoMarkOfThree}
use Rattle.vs_lexer.proofs.Pairs.{after_pair-append}

-- one list has one first byte, and one rest
pub heads_differ : (bytes body more : List ℕ) (x b n : ℕ) → bytes ≡ x ∷ body → bytes ≡ b ∷ more → (x ≡ n → ⊥) → nat_eq b n ≡ false
heads_differ bytes body more x b n p q h = let same : x ≡ b = cc in ne_eqb b n (λ t. h (same ∙ t))

pub rests_same : (bytes body more : List ℕ) (x b : ℕ) → bytes ≡ x ∷ body → bytes ≡ b ∷ more → more ≡ body
rests_same bytes body more x b p q = cc

module _ (allowed : ℕ → Bool) (c d : ℕ) where
  -- a close was found
  pub closed_reads : (bytes body : List ℕ) (read : Lexed) → bytes ≡ body ++ read.rest.now → after_pair c d body ≡ Some [] → read.piece ≡ among allowed body Skipped → Reads (closed_by allowed c d) bytes read
  closed_reads bytes body read splits found is = record {
    text = body;
    begins = record {
      splits = splits;
      reads = record {
        is = rw (found, is) refl;
        longest = λ b more after e. rw (after_pair-append c d body [] (b ∷ more) found) refl;
      };
    };
  }

  -- there is no close
  pub open_reads : (bytes : List ℕ) (read : Lexed) → after_pair c d bytes ≡ None → read.rest.now ≡ [] → read.piece ≡ among allowed bytes (Refused r.Unclosed) → Reads (closed_by allowed c d) bytes read
  open_reads bytes read none at_end is = record {
    text = bytes;
    begins = record {
      splits = rw at_end (sym (append-nil bytes));
      reads = record {
        is = rw (none, is) refl;
        longest = λ b more after e. cc;
      };
    };
  }

module _ (form : Form) (a : ℕ) where
  -- one byte that is a piece alone, where nothing longer is
  pub alone_reads : (after : List ℕ) (read : Lexed) → read.rest.now ≡ after → form (a ∷ []) after ≡ Some read.piece → ((b : ℕ) (more rest : List ℕ) → after ≡ b ∷ more ++ rest → form (a ∷ b ∷ more) rest ≡ None) → Reads form (a ∷ after) read
  alone_reads after read at is longer = record {
    text = a ∷ [];
    begins = record {
      splits = ap (λ (u : List ℕ). a ∷ u) (sym at);
      reads = record {
        is = rw at is;
        longest = λ b more rest e. longer b more rest (sym at ∙ e);
      };
    };
  }

  -- two bytes, and behind them a piece of another form
  pub behind_two : (inner : Form) (b : ℕ) (body : List ℕ) (read : Lexed) → ((bs rest : List ℕ) → bs ++ rest ≡ body → form (a ∷ b ∷ bs) rest ≡ inner bs rest) → Reads inner body read → Reads form (a ∷ b ∷ body) read
  behind_two inner b body read same reads =
      let inside = reads.begins in
      record {
        text = a ∷ b ∷ reads.text;
        begins = record {
          splits = ap (λ (u : List ℕ). a ∷ b ∷ u) inside.splits;
          reads = record {
            is = same reads.text read.rest.now (sym inside.splits) ∙ inside.reads.is;
            longest = λ x more after e.
                same (reads.text ++ x ∷ more) after (append_assoc reads.text (x ∷ more) after ∙ ap (λ (u : List ℕ). reads.text ++ u) (sym e) ∙ sym inside.splits) ∙ inside.reads.longest x more after e;
          };
        };
      }

module _ (slash : ℕ) where
  pub slash_alone : (after : List ℕ) (read : Lexed) → read.rest.now ≡ after → read.piece ≡ Token (k.Mark m.Slash) → ((b : ℕ) (more : List ℕ) → after ≡ b ∷ more → (nat_eq b 47 ≡ false) × (nat_eq b 42 ≡ false)) → Reads slash_form (slash ∷ after) read
  unfolding slash_form
  slash_alone after read at is other = alone_reads slash_form slash after read at (ap Some (sym is)) (λ b more rest e. rw ((other b (more ++ rest) e).0, (other b (more ++ rest) e).1) refl)

  pub slash_line : (b : ℕ) (body : List ℕ) (read : Lexed) → b ≡ 47 → Reads (run_of in_line line_piece) body read → Reads slash_form (slash ∷ b ∷ body) read
  unfolding slash_form
  slash_line b body read e reads = behind_two slash_form slash (run_of in_line line_piece) b body read (λ bs rest _. rw e refl) reads

  pub slash_block : (b : ℕ) (body : List ℕ) (read : Lexed) → b ≡ 42 → Reads (closed_by in_comment 42 47) body read → Reads slash_form (slash ∷ b ∷ body) read
  unfolding slash_form
  slash_block b body read e reads = behind_two slash_form slash (closed_by in_comment 42 47) b body read (λ bs rest _. rw e refl) reads

module _ (parenthesis : ℕ) where
  pub parenthesis_alone : (after : List ℕ) (read : Lexed) → read.rest.now ≡ after → read.piece ≡ Token (k.Mark m.Open) → ((b : ℕ) (more : List ℕ) → after ≡ b ∷ more → (nat_eq b 42 && opens_attribute more) ≡ false) → Reads parenthesis_form (parenthesis ∷ after) read
  unfolding parenthesis_form
  parenthesis_alone after read at is other = alone_reads parenthesis_form parenthesis after read at (ap Some (sym is)) (λ b more rest e. rw (other b (more ++ rest) e) refl)

  pub attribute_reads : (b : ℕ) (body : List ℕ) (read : Lexed) → b ≡ 42 → opens_attribute body ≡ true → Reads (closed_by in_attribute 42 41) body read → Reads parenthesis_form (parenthesis ∷ b ∷ body) read
  unfolding parenthesis_form
  attribute_reads b body read e opens reads = behind_two parenthesis_form parenthesis (closed_by in_attribute 42 41) b body read (λ bs rest s. let o : opens_attribute (bs ++ rest) ≡ true = ap opens_attribute s ∙ opens in rw (e, o) refl) reads

-- what follows white space decides
module _ (bytes : List ℕ) (i : ℕ) (within : i < length bytes) where
  pub opens_attribute-white : is_white (get_or bytes i 0) ≡ true → opens_attribute (drop (i + 1) bytes) ≡ opens_attribute (drop i bytes)
  opens_attribute-white e = sym (rw (drop_more bytes i 0 within, e) refl)

  pub opens_attribute-other : is_white (get_or bytes i 0) ≡ false → opens_attribute (drop i bytes) ≡ not (nat_eq (get_or bytes i 0) 41)
  opens_attribute-other e = rw (drop_more bytes i 0 within, e) refl

-- marks, longest first
pub mark_of_three : (a b c : ℕ) (bytes : List ℕ) (read : Lexed) (kind : Kind) → bytes ≡ a ∷ b ∷ c ∷ read.rest.now → kind_in three_byte_marks (a ∷ b ∷ c ∷ []) ≡ Some kind → read.piece ≡ Token kind → Reads mark_form bytes read
unfolding mark_form
mark_of_three a b c bytes read kind splits found is = record {
  text = a ∷ b ∷ c ∷ [];
  begins = record { splits = splits; reads = record { is = rw (found, is) refl; longest = λ x more after e. refl } };
}

pub mark_of_two : (a b : ℕ) (bytes : List ℕ) (read : Lexed) (kind : Kind) → bytes ≡ a ∷ b ∷ read.rest.now → kind_in two_byte_marks (a ∷ b ∷ []) ≡ Some kind → read.piece ≡ Token kind → HasNoMarkOfThree bytes → Reads mark_form bytes read
unfolding mark_form
mark_of_two a b bytes read kind splits found is none = record {
  text = a ∷ b ∷ [];
  begins = record { splits = splits; reads = record { is = rw (found, is) refl; longest = λ x more after e. longer x more after (splits ∙ ap (λ (u : List ℕ). a ∷ b ∷ u) e) } };
}
  where
    longer : (x : ℕ) (more after : List ℕ) → bytes ≡ a ∷ b ∷ x ∷ (more ++ after) → mark_form (a ∷ b ∷ x ∷ more) after ≡ None
    longer x [] after e = ap token_of (none a b x after e)
    longer x (y ∷ more) after e = refl

pub mark_of_one : (a : ℕ) (after bytes : List ℕ) (read : Lexed) → bytes ≡ a ∷ after → read.rest.now ≡ after → one_byte_piece (kind_in one_byte_marks (a ∷ [])) ≡ read.piece → HasNoMarkOfTwo bytes → Reads mark_form bytes read
unfolding mark_form
mark_of_one a after bytes read splits at is none =
    rw splits (alone_reads mark_form a after read at (ap Some is) longer)
  where
    longer : (b : ℕ) (more rest : List ℕ) → after ≡ b ∷ more ++ rest → mark_form (a ∷ b ∷ more) rest ≡ None
    longer b [] rest e = ap token_of (none.1 a b rest (splits ∙ ap (λ (u : List ℕ). a ∷ u) e))
    longer b (x ∷ []) rest e = ap token_of (none.0 a b x rest (splits ∙ ap (λ (u : List ℕ). a ∷ u) e))
    longer b (x ∷ y ∷ more) rest e = refl
