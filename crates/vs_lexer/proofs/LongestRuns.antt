-- Runs of bytes of a class are longest pieces.
use Rattle.std.proofs.Common.{◌≡◌, ℕ, Bool, true, false, ◌&&◌, List, [], ◌∷◌, ◌++◌, refl, sym, ap, ◌∙◌}
use Rattle.std.specs.List.{list_all}
use Rattle.vs_lexer.specs.declared.piece.Piece.{Piece}
use Rattle.vs_lexer.specs.declared.piece.Lexed.{Lexed}
use Rattle.vs_lexer.specs.Bytes.{begins, front_run, after_run}
use Rattle.vs_lexer.specs.Forms.{run_of, Longest}
use Rattle.vs_lexer.specs.Reading.{Reads}

-- a byte that fails, anywhere, fails the text
pub fails_all : (p : ℕ → Bool) (text : List ℕ) (b : ℕ) (more : List ℕ) → p b ≡ false → list_all p (text ++ b ∷ more) ≡ false
fails_all p [] b more h = rw h refl
fails_all p (x ∷ xs) b more h =
    let rest : list_all p (xs ++ b ∷ more) ≡ false = fails_all p xs b more h in
    elim (p x) as (λ v. (v && list_all p (xs ++ b ∷ more)) ≡ false) [ true ↦ rest | false ↦ refl ]

module _ (p : ℕ → Bool) (piece : List ℕ → List ℕ → Piece) where
  pub longest_run : (text rest : List ℕ) → list_all p text ≡ true → begins p rest ≡ false → Longest (run_of p piece) (piece text rest) text rest
  longest_run text rest all stops = record {
    is = rw all refl;
    longest = λ b more after e. let stop : p b ≡ false = sym (ap (begins p) e) ∙ stops in rw (fails_all p text b more stop) refl;
  }

  -- a run with the piece that it is has been read
  pub run_reads : (bytes text : List ℕ) (read : Lexed) → bytes ≡ text ++ read.rest.now → list_all p text ≡ true → begins p read.rest.now ≡ false → read.piece ≡ piece text read.rest.now → Reads (run_of p piece) bytes read
  run_reads bytes text read splits all stops is = record {
    text = text;
    begins = record { splits = splits; reads = rw is (longest_run text read.rest.now all stops) };
  }

-- what a run leaves, and the run itself
module _ (p : ℕ → Bool) where
  after_none : (ys : List ℕ) → begins p ys ≡ false → after_run p ys ≡ ys
  after_none [] h = refl
  after_none (y ∷ ys) h = rw h refl

  front_none : (ys : List ℕ) → begins p ys ≡ false → front_run p ys ≡ []
  front_none [] h = refl
  front_none (y ∷ ys) h = rw h refl

  -- what follows a run
  pub after_all : (xs ys : List ℕ) → list_all p xs ≡ true → begins p ys ≡ false → after_run p (xs ++ ys) ≡ ys
  after_all [] ys a h = after_none ys h
  after_all (x ∷ xs) ys a h = split (λ rest. after_all xs ys rest h) (p x) refl
    where
      split : (list_all p xs ≡ true → after_run p (xs ++ ys) ≡ ys) → (t : Bool) → p x ≡ t → after_run p (x ∷ xs ++ ys) ≡ ys
      split more true e = let rest : list_all p xs ≡ true = rw e at a in rw e (more rest)
      split more false e = let no : false ≡ true = rw e at a in absurd cc

  -- the run itself
  pub front_all : (xs ys : List ℕ) → list_all p xs ≡ true → begins p ys ≡ false → front_run p (xs ++ ys) ≡ xs
  front_all [] ys a h = front_none ys h
  front_all (x ∷ xs) ys a h = split (λ rest. front_all xs ys rest h) (p x) refl
    where
      split : (list_all p xs ≡ true → front_run p (xs ++ ys) ≡ xs) → (t : Bool) → p x ≡ t → front_run p (x ∷ xs ++ ys) ≡ x ∷ xs
      split more true e = let rest : list_all p xs ≡ true = rw e at a in rw e (ap (λ (l : List ℕ). x ∷ l) (more rest))
      split more false e = let no : false ≡ true = rw e at a in absurd cc

  -- what a shorter text has behind its run begins as what the longer one has, or is nothing
  pub after_front : (q : ℕ → Bool) (xs ys : List ℕ) → begins q (after_run p (xs ++ ys)) ≡ false → begins q (after_run p xs) ≡ false
  after_front q [] ys h = refl
  after_front q (x ∷ xs) ys h = split (λ rest. after_front q xs ys rest) (p x) refl
    where
      split : (begins q (after_run p (xs ++ ys)) ≡ false → begins q (after_run p xs) ≡ false) → (t : Bool) → p x ≡ t → begins q (after_run p (x ∷ xs)) ≡ false
      split more true e = rw e (more (rw e at h))
      split more false e = rw e (rw e at h)
