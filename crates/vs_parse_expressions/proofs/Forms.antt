-- How what declarations say of their names is made, and where it stops.
use Rattle.std.specs.Prelude.{◌≡◌, ℕ, max, ◌≤◌, Bool, true, false, List, ◌∷◌, refl}
use Rattle.std.proofs.Common.{arith}
use Rattle.vs_syntax.specs.vs_lexer.specs.declared.token.Word.TheVariants as w
use Rattle.vs_syntax.specs.Symbols.{Symbol, a_word, Class, class_of, same_class}
use Rattle.vs_syntax.specs.Grammar.{Grammar, nothing, token, ◌·◌, ◌or◌, word}
use Rattle.vs_syntax.specs.Tables.{low, goes}
use Rattle.vs_syntax.specs.Derivation.{Tree, empty, leaf, both}
use Rattle.vs_syntax.specs.Reading.{Gets, Stuck, stuck_second, stuck_left}
use Rattle.vs_syntax.proofs.Fronts.{same_class-refl}
use Rattle.std.proofs.lemmas.Bool.{or_left}
use Rattle.vs_syntax.proofs.Gets.{gets_nothing, gets_token, gets_seq, gets_left, gets_right}

-- a part behind its token, which may be absent
pub absent : (c : Class) (g : Grammar) (depth : ℕ) (ts : List Symbol) → goes (token c) ts ≡ false → Gets (token c · g or nothing) depth ts empty ts
absent c g depth ts h = gets_right h gets_nothing

goes_present : (s : Symbol) (g : Grammar) (after : List Symbol) → goes (token (class_of s) · g) (s ∷ after) ≡ true
goes_present s g after = or_left (same_class (class_of s) (class_of s)) false (same_class-refl (class_of s))

pub present_stuck : (s : Symbol) (g : Grammar) (depth : ℕ) (deep : Bool) (ts after at : List Symbol) → low g ≡ 0 → ts ≡ s ∷ after → Stuck g depth deep after at → Stuck (token (class_of s) · g or nothing) depth deep ts at
present_stuck s g depth deep ts after at n e p =
    let none : max 0 (low g) ≤ depth = omega (arith, n) in
    rw e (stuck_left (goes_present s g after) none (stuck_second (gets_token refl) p))

pub present_read : (s : Symbol) (g : Grammar) (depth : ℕ) (ts after rest : List Symbol) (y : Tree) → ts ≡ s ∷ after → Gets g depth after y rest → Gets (token (class_of s) · g or nothing) depth ts (both (leaf s) y) rest
present_read s g depth ts after rest y e p = rw e (gets_left (goes_present s g after) (gets_seq (gets_token refl) p))

-- the word of signed names
pub is_signed : (depth : ℕ) (ts after : List Symbol) → ts ≡ a_word w.Signed ∷ after → Gets (word w.Signed or nothing) depth ts (leaf (a_word w.Signed)) after
is_signed depth ts after e = rw e (gets_left refl (gets_token refl))

pub no_sign : (depth : ℕ) (ts : List Symbol) → goes (word w.Signed) ts ≡ false → Gets (word w.Signed or nothing) depth ts empty ts
no_sign depth ts h = gets_right h gets_nothing
