-- How the parts of declarations and net assignments make them, and where they stop.
use Rattle.std.specs.Prelude.{◌≡◌, ℕ, ◌≤◌, Bool, false, List, ◌∷◌, Option, None, Some, Result, Ok, Err, refl}
use Rattle.std.proofs.Common.{sym, subst, arith}
use Rattle.vs_syntax.specs.vs_lexer.specs.declared.token.Token.{Token}
use Rattle.vs_syntax.specs.vs_lexer.specs.declared.token.Mark.TheVariants as m
use Rattle.vs_syntax.specs.vs_lexer.specs.declared.token.Word.TheVariants as w
use Rattle.vs_syntax.specs.Symbols.{Symbol, a_mark, a_word, class_of}
use Rattle.vs_syntax.specs.Grammar.{Nonterminal, Grammar, nothing, token, ◌·◌, ◌or◌, part, mark, word, range, form, parameter_form, an_expr, rule}
use Rattle.vs_syntax.specs.Tables.{low, goes}
use Rattle.vs_syntax.specs.Derivation.{Tree, leaf, both}
use Rattle.vs_syntax.specs.Reading.{Gets, Stuck, stuck_second, stuck_left, stuck_right, stuck_part}
use Rattle.vs_syntax.specs.Views.{range_tree, declarator_rest_tree}
use Rattle.vs_syntax.specs.declared.tree.Range.{Range}
use Rattle.vs_syntax.proofs.Gets.{gets_token, gets_seq, gets_left, gets_right, gets_part}
use Rattle.vs_parse_expressions.specs.declared.reading.Parsed.{Parsed}
use Rattle.vs_parse_expressions.specs.declared.reading.ReadFault.{ReadFault}
use Rattle.vs_parse_expressions.specs.Answers.{seen, ReadsTree}
use Rattle.vs_parse_expressions.proofs.Exits.{fails_by}
use Rattle.vs_parse_expressions.specs.Parts.{ReadsWithin, Beyond}
use Rattle.vs_parse_expressions.proofs.Forms.{present_stuck, present_read}
use Rattle.vs_parse_expressions.proofs.Parts.{beyond_fails}

-- a declaration assignment, the range of words, or neither
abbrev pub declarator_rest : Grammar
declarator_rest = mark m.Assign · part an_expr or range or nothing

pub no_value : (depth : ℕ) (ts rest : List Symbol) (x : Tree) → goes (mark m.Assign) ts ≡ false → Gets (range or nothing) depth ts x rest → Gets declarator_rest depth ts x rest
no_value depth ts rest x h p = gets_right h p

pub range_stuck : (depth : ℕ) (deep : Bool) (ts at : List Symbol) → goes (mark m.Assign) ts ≡ false → Stuck (range or nothing) depth deep ts at → Stuck declarator_rest depth deep ts at
range_stuck depth deep ts at h s =
    let none : 0 ≤ depth = omega arith in
    stuck_right h none s

pub value_stuck : (depth : ℕ) (deep : Bool) (ts after at : List Symbol) → ts ≡ a_mark m.Assign ∷ after → Stuck (part an_expr) depth deep after at → Stuck declarator_rest depth deep ts at
value_stuck depth deep ts after at e s =
    let none : 0 ≤ depth = omega arith in
    rw e (stuck_left refl none (stuck_second (gets_token refl) s))

pub value_read : (depth : ℕ) (ts after rest : List Symbol) (x : Tree) → ts ≡ a_mark m.Assign ∷ after → Gets (part an_expr) depth after x rest → Gets declarator_rest depth ts (both (leaf (a_mark m.Assign)) x) rest
value_read depth ts after rest x e p = rw e (gets_left refl (gets_seq (gets_token refl) p))

-- what stands behind a name without a declaration assignment
pub told_range : (r : Option Range) → range_tree r ≡ declarator_rest_tree r None
told_range None = refl
told_range (Some r) = refl

pub value_beyond : (depth : ℕ) (ts after : List Symbol) → ts ≡ a_mark m.Assign ∷ after → Beyond (part an_expr) declarator_rest (both (leaf (a_mark m.Assign))) depth ts after
value_beyond depth ts after e = record { reads = λ y at p. value_read depth ts after at y e p; stops = λ deep at s. value_stuck depth deep ts after at e s }

-- what stands behind a token that may be absent
pub beyond_present : (s : Symbol) (g : Grammar) (depth : ℕ) (ts after : List Symbol) → low g ≡ 0 → ts ≡ s ∷ after → Beyond g (token (class_of s) · g or nothing) (both (leaf s)) depth ts after
beyond_present s g depth ts after n e = record { reads = λ y at p. present_read s g depth ts after at y e p; stops = λ deep at k. present_stuck s g depth deep ts after at n e k }

-- a whole, by what reading its last part answers
pub within_beyond : {X : Type 0} (a g : Grammar) (tree : X → Tree) (w : Tree → Tree) (depth : ℕ) (ts mid : List Token) (r : Result (Parsed X) ReadFault) → Beyond a g w depth (seen ts) (seen mid) → ReadsWithin tree w a depth mid r → ReadsTree g depth ts tree r
within_beyond a g tree w depth ts mid (Ok x) b p = subst (λ (u : Tree). Gets g depth (seen ts) u (seen x.rest.now)) (sym p.whole) (b.reads p.inner (seen x.rest.now) p.gets)
within_beyond a g tree w depth ts mid (Err e) b f = beyond_fails a g w depth (seen ts) (seen mid) e b f

-- a part, by what reading its rule answers
pub part_answers : {X : Type 0} (p : Nonterminal) (tree : X → Tree) (depth : ℕ) (ts : List Token) (r : Result (Parsed X) ReadFault) → ReadsTree (rule p) depth ts tree r → ReadsTree (part p) depth ts tree r
part_answers p tree depth ts (Ok x) q = gets_part q
part_answers p tree depth ts (Err e) f = fails_by (rule p) (part p) depth depth (seen ts) (seen ts) (λ deep at s. stuck_part s) e f

-- the type of parameters
pub integer_read : (depth : ℕ) (ts after : List Symbol) → ts ≡ a_word w.Integer ∷ after → Gets parameter_form depth ts (leaf (a_word w.Integer)) after
integer_read depth ts after e = rw e (gets_left refl (gets_token refl))

pub vector_read : (depth : ℕ) (ts rest : List Symbol) (x : Tree) → goes (word w.Integer) ts ≡ false → Gets form depth ts x rest → Gets parameter_form depth ts x rest
vector_read depth ts rest x h p = gets_right h p

pub vector_stuck : (depth : ℕ) (deep : Bool) (ts at : List Symbol) → goes (word w.Integer) ts ≡ false → Stuck form depth deep ts at → Stuck parameter_form depth deep ts at
vector_stuck depth deep ts at h s =
    let none : 0 ≤ depth = omega arith in
    stuck_right h none s
