-- The tokens of a source, or its first refusal, are the only ones.
use Rattle.std.proofs.Common.{◌≡◌, ℕ, ◌≤◌, List, [], ◌∷◌, ◌++◌, Some, None, refl, sym, ap, ◌∙◌, subst, arith}
use Rattle.vs_lexer.specs.declared.refusal.Refusal.{Refusal}
use Rattle.vs_lexer.specs.declared.piece.Piece.{Piece}
use Rattle.vs_lexer.specs.declared.piece.Piece.TheVariants.{Skipped, Token, Refused}
use Rattle.vs_lexer.specs.declared.token.Kind.{Kind}
use Rattle.vs_lexer.specs.Forms.{Form, Begins}
use Rattle.vs_lexer.specs.Pieces.{piece_of}
use Rattle.vs_lexer.specs.Spelling.{Spells, ends, skips, reads, Reaches, stays, passes, takes, IsSpelled, IsRefused, at_piece, at_limit}
use Rattle.vs_lexer.specs.Tokens.{Lexeme}

-- two ways to cut one list
data Cuts : List ℕ → List ℕ → List ℕ → List ℕ → Type 0 where
  same : {t r u s : List ℕ} → t ≡ u → r ≡ s → Cuts t r u s
  later : {t r u s : List ℕ} (b : ℕ) (more : List ℕ) → u ≡ t ++ b ∷ more → r ≡ b ∷ more ++ s → Cuts t r u s
  earlier : {t r u s : List ℕ} (b : ℕ) (more : List ℕ) → t ≡ u ++ b ∷ more → s ≡ b ∷ more ++ r → Cuts t r u s

put_before : (x : ℕ) {t r u s : List ℕ} → Cuts t r u s → Cuts (x ∷ t) r (x ∷ u) s
put_before x (same p q) = same (ap (λ (l : List ℕ). x ∷ l) p) q
put_before x (later b more p q) = later b more (ap (λ (l : List ℕ). x ∷ l) p) q
put_before x (earlier b more p q) = earlier b more (ap (λ (l : List ℕ). x ∷ l) p) q

cuts : (t r u s : List ℕ) → t ++ r ≡ u ++ s → Cuts t r u s
cuts [] r [] s e = same refl e
cuts [] r (b ∷ more) s e = later b more refl e
cuts (b ∷ more) r [] s e = earlier b more refl (sym e)
cuts (x ∷ t) r (y ∷ u) s e =
    let heads : x ≡ y = cc in
    let tails : t ++ r ≡ u ++ s = cc in
    subst (λ (z : ℕ). Cuts (x ∷ t) r (z ∷ u) s) heads (put_before x (cuts t r u s tails))

-- what two longest pieces at one place agree in
record Agree (p q : Piece) (t r u s : List ℕ) : Type 0 where
  piece : p ≡ q
  text : t ≡ u
  rest : r ≡ s

one_piece : (form : Form) (p q : Piece) (t r u s bytes : List ℕ) → Begins form p t r bytes → Begins form q u s bytes → Agree p q t r u s
one_piece form p q t r u s bytes b c = by (cuts t r u s (sym b.splits ∙ c.splits))
  where
    by : Cuts t r u s → Agree p q t r u s
    by (same x y) =
        let at : form u s ≡ Some p = rw (← x, ← y) b.reads.is in
        let found : form u s ≡ Some q = c.reads.is in
        record { piece = cc; text = x; rest = y }
    by (later d more x y) =
        let none : form (t ++ d ∷ more) s ≡ None = b.reads.longest d more s y in
        let some : form (t ++ d ∷ more) s ≡ Some q = rw (← x) c.reads.is in
        absurd (cc (none, some))
    by (earlier d more x y) =
        let none : form (u ++ d ∷ more) r ≡ None = c.reads.longest d more r y in
        let some : form (u ++ d ∷ more) r ≡ Some p = rw (← x) b.reads.is in
        absurd (cc (none, some))

-- no piece begins where nothing is left
no_piece : (p : Piece) (t r : List ℕ) → Begins piece_of p t r [] → ⊥
no_piece p [] r b = let is = b.reads.is in cc
no_piece p (x ∷ t) r b = let e = b.splits in cc

same_tokens : (k l : Kind) (place : ℕ) (t u : List ℕ) (ts us : List Lexeme) → k ≡ l → t ≡ u → ts ≡ us → ◌≡◌ {A = List Lexeme} (record { kind = k; place = place; bytes = t } ∷ ts) (record { kind = l; place = place; bytes = u } ∷ us)
same_tokens k l place t u ts us p q e = rw (p, q, e) refl

pub one_spelling : {place : ℕ} {bytes : List ℕ} {ts us : List Lexeme} → Spells place bytes ts → Spells place bytes us → ts ≡ us
one_spelling ends ends = refl
one_spelling ends (skips u s c y) = absurd (no_piece _ u s c)
one_spelling ends (reads l u s c y) = absurd (no_piece _ u s c)
one_spelling (skips t r b x) ends = absurd (no_piece _ t r b)
one_spelling (reads k t r b x) ends = absurd (no_piece _ t r b)
one_spelling {place} {bytes} (skips t r b x) (skips u s c y) =
    let a = one_piece piece_of _ _ t r u s bytes b c in
    one_spelling x (rw (a.text, a.rest) y)
one_spelling {place} {bytes} (skips t r b x) (reads l u s c y) =
    let a = one_piece piece_of _ _ t r u s bytes b c in
    let e : Skipped ≡ Token l = a.piece in absurd cc
one_spelling {place} {bytes} (reads k t r b x) (skips u s c y) =
    let a = one_piece piece_of _ _ t r u s bytes b c in
    let e : Token k ≡ Skipped = a.piece in absurd cc
one_spelling {place} {bytes} (reads k t r b x) (reads l u s c y) =
    let a = one_piece piece_of _ _ t r u s bytes b c in
    let kinds : k ≡ l = (let e : Token k ≡ Token l = a.piece in cc) in
    same_tokens k l place t u _ _ kinds a.text (one_spelling x (rw (a.text, a.rest) y))

-- the three kinds of piece are apart
apart : (p q : Piece) (t r u s bytes : List ℕ) → Begins piece_of p t r bytes → Begins piece_of q u s bytes → (p ≡ q → ⊥) → ⊥
apart p q t r u s bytes b c h = h (one_piece piece_of p q t r u s bytes b c).piece

skipped_no_token : (k : Kind) → Skipped ≡ Token k → ⊥
skipped_no_token k e = cc

refused_no_skipped : (w : Refusal) → Refused w ≡ Skipped → ⊥
refused_no_skipped w e = cc

refused_no_token : (w : Refusal) (k : Kind) → Refused w ≡ Token k → ⊥
refused_no_token w k e = cc

-- a refused piece spells nothing
refused_unspelled : {place : ℕ} {bytes : List ℕ} {ts : List Lexeme} (why : Refusal) (t r : List ℕ) → Begins piece_of (Refused why) t r bytes → Spells place bytes ts → ⊥
refused_unspelled why t r b ends = no_piece _ t r b
refused_unspelled {place} {bytes} why t r b (skips u s c y) = apart _ _ t r u s bytes b c (refused_no_skipped why)
refused_unspelled {place} {bytes} why t r b (reads l u s c y) = apart _ _ t r u s bytes b c (refused_no_token why l)

-- what remains of spelled bytes is spelled
rest_spelled : {place at : ℕ} {bytes others : List ℕ} {ts : List Lexeme} → Spells place bytes ts → Reaches place bytes at others → (us : List Lexeme) × Spells at others us
rest_spelled x stays = (_, x)
rest_spelled ends (passes u s c y) = absurd (no_piece _ u s c)
rest_spelled ends (takes l u s c y) = absurd (no_piece _ u s c)
rest_spelled {place} {at} {bytes} (skips t r b x) (passes u s c y) =
    let a = one_piece piece_of _ _ t r u s bytes b c in rest_spelled x (rw (a.text, a.rest) y)
rest_spelled {place} {at} {bytes} (skips t r b x) (takes l u s c y) = absurd (apart _ _ t r u s bytes b c (skipped_no_token l))
rest_spelled {place} {at} {bytes} (reads k t r b x) (passes u s c y) = absurd (apart _ _ u s t r bytes c b (skipped_no_token k))
rest_spelled {place} {at} {bytes} (reads k t r b x) (takes l u s c y) =
    let a = one_piece piece_of _ _ t r u s bytes b c in rest_spelled x (rw (a.text, a.rest) y)

-- places go up
reaches_up : {place at : ℕ} {bytes others : List ℕ} → Reaches place bytes at others → place ≤ at
reaches_up stays = omega arith
reaches_up (passes u s c y) = let up = reaches_up y in omega arith
reaches_up (takes l u s c y) = let up = reaches_up y in omega arith

-- nothing is reached past a refused piece
none_past : {place at to : ℕ} {bytes xs ys : List ℕ} (why : Refusal) (v w : List ℕ) → Begins piece_of (Refused why) v w xs → Reaches place bytes at xs → Reaches place bytes to ys → to ≤ at
none_past why v w z stays stays = omega arith
none_past {place} {at} {to} {bytes} why v w z stays (passes u s c y) = absurd (apart _ _ v w u s bytes z c (refused_no_skipped why))
none_past {place} {at} {to} {bytes} why v w z stays (takes l u s c y) = absurd (apart _ _ v w u s bytes z c (refused_no_token why l))
none_past why v w z (passes t r b x) stays = let up = reaches_up x in omega arith
none_past why v w z (takes k t r b x) stays = let up = reaches_up x in omega arith
none_past {place} {at} {to} {bytes} {xs} {ys} why v w z (passes t r b x) (passes u s c y) =
    let a = one_piece piece_of _ _ t r u s bytes b c in none_past {ys = ys} why v w z x (rw (a.text, a.rest) y)
none_past {place} {at} {to} {bytes} why v w z (passes t r b x) (takes l u s c y) = absurd (apart _ _ t r u s bytes b c (skipped_no_token l))
none_past {place} {at} {to} {bytes} why v w z (takes k t r b x) (passes u s c y) = absurd (apart _ _ u s t r bytes c b (skipped_no_token k))
none_past {place} {at} {to} {bytes} {xs} {ys} why v w z (takes k t r b x) (takes l u s c y) =
    let a = one_piece piece_of _ _ t r u s bytes b c in none_past {ys = ys} why v w z x (rw (a.text, a.rest) y)

-- of two refused pieces that are reached there is one
record Same (why why' : Refusal) (at at' : ℕ) : Type 0 where
  whys : why ≡ why'
  places : at ≡ at'

first_refused : {place at to : ℕ} {bytes xs ys : List ℕ} (why why' : Refusal) (v w v' w' : List ℕ) → Begins piece_of (Refused why) v w xs → Begins piece_of (Refused why') v' w' ys → Reaches place bytes at xs → Reaches place bytes to ys → Same why why' at to
first_refused {place} {at} {to} {bytes} why why' v w v' w' z z' stays stays =
    let a = one_piece piece_of _ _ v w v' w' bytes z z' in
    let e : Refused why ≡ Refused why' = a.piece in
    record { whys = cc; places = refl }
first_refused {place} {at} {to} {bytes} why why' v w v' w' z z' stays (passes u s c y) = absurd (apart _ _ v w u s bytes z c (refused_no_skipped why))
first_refused {place} {at} {to} {bytes} why why' v w v' w' z z' stays (takes l u s c y) = absurd (apart _ _ v w u s bytes z c (refused_no_token why l))
first_refused {place} {at} {to} {bytes} why why' v w v' w' z z' (passes t r b x) stays = absurd (apart _ _ v' w' t r bytes z' b (refused_no_skipped why'))
first_refused {place} {at} {to} {bytes} why why' v w v' w' z z' (takes k t r b x) stays = absurd (apart _ _ v' w' t r bytes z' b (refused_no_token why' k))
first_refused {place} {at} {to} {bytes} why why' v w v' w' z z' (passes t r b x) (passes u s c y) =
    let a = one_piece piece_of _ _ t r u s bytes b c in first_refused why why' v w v' w' z z' x (rw (a.text, a.rest) y)
first_refused {place} {at} {to} {bytes} why why' v w v' w' z z' (passes t r b x) (takes l u s c y) = absurd (apart _ _ t r u s bytes b c (skipped_no_token l))
first_refused {place} {at} {to} {bytes} why why' v w v' w' z z' (takes k t r b x) (passes u s c y) = absurd (apart _ _ u s t r bytes c b (skipped_no_token k))
first_refused {place} {at} {to} {bytes} why why' v w v' w' z z' (takes k t r b x) (takes l u s c y) =
    let a = one_piece piece_of _ _ t r u s bytes b c in first_refused why why' v w v' w' z z' x (rw (a.text, a.rest) y)

pub one_refusal : {source : List ℕ} {why why' : Refusal} {at at' : ℕ} → IsRefused source why at → IsRefused source why' at' → (why ≡ why') × (at ≡ at')
one_refusal (at_piece xs v w h x z) (at_piece ys v' w' h' y z') = let a = first_refused _ _ v w v' w' z z' x y in (a.whys, a.places)
one_refusal (at_piece xs v w h x z) (at_limit to ys long past y) = let up = none_past _ v w z x y in absurd (omega arith)
one_refusal (at_limit to ys long past y) (at_piece xs v w h x z) = let up = none_past _ v w z x y in absurd (omega arith)
one_refusal (at_limit to ys long past y) (at_limit to' ys' long' past' y') = (refl, refl)

pub never_both : {source : List ℕ} {why : Refusal} {at : ℕ} {ts : List Lexeme} → IsSpelled source ts → IsRefused source why at → ⊥
never_both spelled (at_piece xs v w h x z) = let rest = rest_spelled spelled.spells x in refused_unspelled _ v w z rest.1
never_both spelled (at_limit to ys long past y) = let small = spelled.small in omega arith
