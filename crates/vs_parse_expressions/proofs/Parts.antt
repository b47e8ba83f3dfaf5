-- How what was read makes what stands before a part.
use Rattle.std.specs.Prelude.{◌≡◌, ℕ, true, false, List, ◌∷◌, Result, Ok, Err, IfOk}
use Rattle.vs_syntax.specs.vs_lexer.specs.declared.token.Mark.{Mark}
use Rattle.vs_syntax.specs.vs_lexer.specs.declared.token.Token.{Token}
use Rattle.vs_syntax.specs.Symbols.{Symbol, a_mark}
use Rattle.vs_syntax.specs.Grammar.{Grammar, nothing, ◌·◌, ◌or◌, mark}
use Rattle.vs_syntax.specs.Tables.{low}
use Rattle.vs_syntax.specs.Derivation.{Tree, leaf, both}
use Rattle.vs_syntax.specs.Reading.{Gets, stuck_second}
use Rattle.vs_syntax.proofs.Gets.{gets_seq}
use Rattle.vs_parse_expressions.specs.declared.reading.Parsed.{Parsed}
use Rattle.vs_parse_expressions.specs.declared.reading.ReadFault.{ReadFault}
use Rattle.vs_parse_expressions.specs.declared.reading.ReadFault.TheVariants as stop
use Rattle.vs_parse_expressions.specs.Answers.{seen, Answers, FailsToRead, ReadsTree}
use Rattle.vs_parse_expressions.proofs.Exits.{fails_by}
use Rattle.vs_parse_expressions.specs.Parts.{ReadsWithin, Beyond, Leads, marked}
use Rattle.vs_parse_expressions.proofs.Forms.{present_stuck, present_read}

-- a part, and what stands behind it
pub beyond_part : (a c : Grammar) (depth : ℕ) (ts mid : List Symbol) (x : Tree) → Gets a depth ts x mid → Beyond c (a · c) (both x) depth ts mid
beyond_part a c depth ts mid x p = record { reads = λ y at q. gets_seq p q; stops = λ deep at s. stuck_second p s }

-- one behind the other
pub beyond_behind : (a b g : Grammar) (v w : Tree → Tree) (depth : ℕ) (ts mid rest : List Symbol) → Beyond b g w depth ts mid → Beyond a b v depth mid rest → Beyond a g (λ y. w (v y)) depth ts rest
beyond_behind a b g v w depth ts mid rest p q = record { reads = λ y at r. p.reads (v y) at (q.reads y at r); stops = λ deep at s. p.stops deep at (q.stops deep at s) }

-- where what stands behind fails, the whole fails
pub beyond_fails : (a g : Grammar) (w : Tree → Tree) (depth : ℕ) (ts mid : List Symbol) (e : ReadFault) → Beyond a g w depth ts mid → FailsToRead a depth mid e → FailsToRead g depth ts e
beyond_fails a g w depth ts mid stop.Memory p f = tt
beyond_fails a g w depth ts mid (stop.Unexpected at) p f = p.stops false (seen at.now) f
beyond_fails a g w depth ts mid (stop.TooDeep at) p f = p.stops true (seen at.now) f

-- what leads on from there leads on from the start
pub leads_on : {X : Type 0} (a b g : Grammar) (v : X → Tree → Tree) (w : Tree → Tree) (depth : ℕ) (ts : List Token) (mid : List Token) (r : Result (Parsed X) ReadFault) → Beyond b g w depth (seen ts) (seen mid) → Leads a b v depth mid r → Leads a g (λ x y. w (v x y)) depth ts r
leads_on a b g v w depth ts mid (Ok x) p q = beyond_behind a b g (v x.tree) w depth (seen ts) (seen mid) (seen x.rest.now) p q
leads_on a b g v w depth ts mid (Err e) p q = beyond_fails b g w depth (seen ts) (seen mid) e p q

-- what holds of what was read where the mark is behind it, and of each failure to read the mark, holds of the answer
pub ended_as : {X : Type 0} (P : Result (Parsed X) ReadFault → Type 0) (end : Mark) (depth : ℕ) (x : X) (mid : List Token) (r : Result (Parsed X) ReadFault) →
    ((y : Parsed X) → y.tree ≡ x → Gets (mark end) depth (seen mid) (leaf (a_mark end)) (seen y.rest.now) → P (Ok y)) →
    ((e : ReadFault) → FailsToRead (mark end) depth (seen mid) e → P (Err e)) →
    IfOk r (λ y. y.tree ≡ x) → Answers (mark end) depth (seen mid) (λ _. leaf (a_mark end)) (λ y. seen y.rest.now) r → P r
ended_as P end depth x mid (Ok y) f g e p = f y e p
ended_as P end depth x mid (Err e) f g h p = g e p

-- what stands behind a mark that may be absent, by what reading it answers
pub marked_answers : {X : Type 0} (tree : X → Tree) (sign : Mark) (g : Grammar) (depth : ℕ) (ts us : List Token) (r : Result (Parsed X) ReadFault) → low g ≡ 0 → seen ts ≡ a_mark sign ∷ seen us → ReadsWithin tree (marked sign) g depth us r → ReadsTree (mark sign · g or nothing) depth ts tree r
marked_answers tree sign g depth ts us (Ok x) n e w = rw w.whole (present_read (a_mark sign) g depth _ _ _ _ e w.gets)
marked_answers tree sign g depth ts us (Err f) n e p =
    fails_by g (mark sign · g or nothing) depth depth (seen us) (seen ts) (λ deep at s. present_stuck (a_mark sign) g depth deep _ _ at n e s) f p
