-- How the tokens read so far and those to come make up the tokens of the source.
use Rattle.std.proofs.Common.{◌≡◌, ℕ, ◌+◌, ◌-◌, ◌≤◌, ◌<◌, List, [], ◌∷◌, ◌++◌, length, take, refl, sym, ap, ◌∙◌, subst, append_assoc, arith, length-append}
use Rattle.std.proofs.lemmas.List.{append-nil, take_at}
use Rattle.vs_lexer.specs.declared.fault.LexFault.{LexFault}
use Rattle.vs_lexer.specs.declared.fault.LexFault.TheVariants as f
use Rattle.vs_lexer.specs.declared.refusal.Refusal.TheVariants as r
use Rattle.vs_lexer.specs.declared.piece.Piece.{Piece}
use Rattle.vs_lexer.specs.declared.piece.Piece.TheVariants.{Skipped, Token}
use Rattle.vs_lexer.specs.declared.token.Kind.{Kind}
use Rattle.vs_lexer.specs.Pieces.{piece_of}
use Rattle.vs_lexer.specs.Forms.{Begins}
use Rattle.vs_lexer.specs.Spelling.{Spells, Reaches, ends, skips, reads, stays, passes, takes, source_limit, IsSpelled, IsRefused, at_piece, at_limit, Fails}
use Rattle.vs_lexer.specs.Taking.{Takes, nothing, one, Stops}
use Rattle.vs_lexer.specs.Tokens.{Lexeme}

-- These tokens have been read of the source, and this remains.
pub record ReadSoFar (source : List ℕ) (tokens : List Lexeme) (rest : List ℕ) : Type 0 where
  pub within : length rest ≤ length source
  pub spells : (more : List Lexeme) → Spells (length source - length rest) rest more → Spells 0 source (tokens ++ more)
  pub reaches : (at : ℕ) (others : List ℕ) → Reaches (length source - length rest) rest at others → Reaches 0 source at others

-- nothing has been read at the start
pub nothing_read : (source : List ℕ) → ReadSoFar source [] source
nothing_read source =
    let start : length source - length source ≡ 0 = omega arith in
    record {
      within = omega arith;
      spells = λ more s. subst (λ (n : ℕ). Spells n source more) start s;
      reaches = λ at others s. subst (λ (n : ℕ). Reaches n source at others) start s;
    }

module _ (source : List ℕ) (tokens : List Lexeme) (rest : List ℕ) (so_far : ReadSoFar source tokens rest) (text after : List ℕ) where
  next_place : rest ≡ text ++ after → length source - length rest + length text ≡ length source - length after
  next_place e =
      let whole : length rest ≡ length text + length after = ap length e ∙ length-append text after in
      omega (arith, so_far.within)

  still_within : rest ≡ text ++ after → length after ≤ length source
  still_within e =
      let whole : length rest ≡ length text + length after = ap length e ∙ length-append text after in
      omega (arith, so_far.within)

  -- what is skipped is no token
  pub skipped_read : Begins piece_of Skipped text after rest → ReadSoFar source tokens after
  skipped_read begins = record {
    within = still_within begins.splits;
    spells = λ more s. so_far.spells more (skips text after begins (subst (λ (n : ℕ). Spells n after more) (sym (next_place begins.splits)) s));
    reaches = λ at others s. so_far.reaches at others (passes text after begins (subst (λ (n : ℕ). Reaches n after at others) (sym (next_place begins.splits)) s));
  }

  -- a token goes behind those before it
  pub token_read : (kind : Kind) (bytes : List ℕ) (place : ℕ) → Begins piece_of (Token kind) text after rest → place ≡ length source - length rest → bytes ≡ text → ReadSoFar source (tokens ++ record { kind = kind; place = place; bytes = bytes } ∷ []) after
  token_read kind bytes place begins at same = record {
    within = still_within begins.splits;
    spells = λ more s.
        rw (at, same, append_assoc) (so_far.spells (record { kind = kind; place = length source - length rest; bytes = text } ∷ more) (reads kind text after begins (subst (λ (n : ℕ). Spells n after more) (sym (next_place begins.splits)) s)));
    reaches = λ at others s. so_far.reaches at others (takes kind text after begins (subst (λ (n : ℕ). Reaches n after at others) (sym (next_place begins.splits)) s));
  }

-- one piece more
pub piece_taken : (source : List ℕ) (old new : List Lexeme) (place : ℕ) (bytes rest : List ℕ) → ReadSoFar source old bytes → place ≡ length source - length bytes → Takes place bytes old new rest → ReadSoFar source new rest
piece_taken source old new place bytes rest so_far at (nothing text begins) = skipped_read source old bytes so_far text rest begins
piece_taken source old new place bytes rest so_far at (one kind text begins is) = rw is (token_read source old bytes so_far text rest kind text place begins at refl)

-- what stands before the rest
pub text_cut : (text rest bytes : List ℕ) → bytes ≡ text ++ rest → take (length bytes - length rest) bytes ≡ text
text_cut text rest bytes e =
    let whole : length bytes ≡ length text + length rest = ap length e ∙ length-append text rest in
    let size : length text ≡ length bytes - length rest = omega arith in
    let cut : take (length bytes - length rest) (text ++ rest) ≡ text = take_at text rest _ size in
    ap (λ (u : List ℕ). take (length bytes - length rest) u) e ∙ cut

-- the same token, its bytes as they are in the source
pub token_added : (old new : List Lexeme) (kind : Kind) (place : ℕ) (bytes text : List ℕ) → new ≡ old ++ record { kind = kind; place = place; bytes = bytes } ∷ [] → bytes ≡ text → new ≡ old ++ record { kind = kind; place = place; bytes = text } ∷ []
token_added old new kind place bytes text e same = rw same at e

-- a piece is not empty
shorter : (piece : Piece) (text rest bytes : List ℕ) → Begins piece_of piece text rest bytes → length rest < length bytes
shorter piece [] rest bytes begins = let none = begins.reads.is in absurd (cc none)
shorter piece (x ∷ xs) rest bytes begins =
    let whole : length bytes ≡ length (x ∷ xs) + length rest = ap length begins.splits ∙ length-append (x ∷ xs) rest in
    omega arith

pub piece_shrinks : (place : ℕ) (bytes rest : List ℕ) (old new : List Lexeme) → Takes place bytes old new rest → length rest < length bytes
piece_shrinks place bytes rest old new (nothing text begins) = shorter Skipped text rest bytes begins
piece_shrinks place bytes rest old new (one kind text begins is) = shorter (Token kind) text rest bytes begins

empty : (xs : List ℕ) → length xs ≡ 0 → xs ≡ []
empty [] e = refl
empty (x ∷ xs) e = absurd (omega arith)

module _ (source : List ℕ) (tokens : List Lexeme) (rest : List ℕ) (so_far : ReadSoFar source tokens rest) where
  -- nothing is left
  pub all_read : length rest ≡ 0 → length source ≤ source_limit → IsSpelled source tokens
  all_read done small =
      let none : rest ≡ [] = empty rest done in
      let end : Spells (length source - length rest) rest [] = rw none ends in
      record { small = small; spells = rw append-nil at (so_far.spells [] end) }

  here : Reaches 0 source (length source - length rest) rest
  here = so_far.reaches (length source - length rest) rest stays

  -- a piece begins past the limit
  pub limit_reached : source_limit ≤ length source - length rest → (length rest ≡ 0 → ⊥) → IsRefused source r.TooLong source_limit
  limit_reached past more = at_limit (length source - length rest) rest (omega arith) past here

  -- the last piece ends past the limit
  pub limit_passed : length rest ≡ 0 → source_limit < length source → IsRefused source r.TooLong source_limit
  limit_passed done long = at_limit (length source - length rest) rest long (omega arith) here

  -- the next piece is refused
  pub piece_refused : (place : ℕ) (fault : LexFault) → place ≡ length source - length rest → place < source_limit → Stops place rest fault → Fails source fault
  piece_refused place f.Memory at small stops = tt
  piece_refused place (f.Refused why where_) at small stops =
      let reached : Reaches 0 source where_ rest = rw (stops.0, at) here in
      at_piece rest stops.1.0 stops.1.1 (omega (arith, stops.0)) reached stops.1.2
