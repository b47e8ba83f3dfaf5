-- How the parts of generate constructs make them, and where they stop.
use Rattle.std.specs.Prelude.{◌≡◌, ℕ, ◌≤◌, Bool, true, false, List, ◌∷◌, Result, Ok, Err, refl}
use Rattle.std.proofs.Common.{subst, sym, ◌∙◌, arith}
use Rattle.vs_syntax.specs.vs_lexer.specs.declared.token.Mark.TheVariants as m
use Rattle.vs_syntax.specs.vs_lexer.specs.declared.token.Token.{Token}
use Rattle.vs_syntax.specs.vs_lexer.specs.declared.token.Word.TheVariants as w
use Rattle.vs_syntax.specs.Symbols.{Symbol, a_mark, a_word, Class, the_mark, the_word, same_class, first}
use Rattle.vs_syntax.specs.Grammar.{Grammar, ◌·◌, many, part, mark, word, optional, named_value, a_generate_block, an_item, an_expr}
use Rattle.vs_syntax.specs.Tables.{among, need, fronts_of, goes}
use Rattle.vs_syntax.specs.Derivation.{Tree, leaf, both}
use Rattle.vs_syntax.specs.Reading.{Gets, Stuck, stuck_here, stuck_deep, stuck_second, stuck_left, stuck_right, stuck_many, stuck_part, stuck_node, stuck_behind}
use Rattle.vs_syntax.specs.Views.{module_item_tree}
use Rattle.vs_syntax.specs.declared.tree.ModuleItem.{ModuleItem}
use Rattle.vs_syntax.proofs.Fronts.{clash}
use Rattle.std.proofs.lemmas.Bool.{or_parts as or_false}
use Rattle.vs_syntax.proofs.Gets.{gets_token, gets_seq, gets_left, gets_right, gets_part, gets_present}
use Rattle.vs_parser.specs.vs_parse_expressions.specs.declared.reading.Parsed.{Parsed}
use Rattle.vs_parser.specs.vs_parse_expressions.specs.declared.reading.ReadFault.{ReadFault}
use Rattle.vs_parser.specs.vs_parse_expressions.specs.Answers.{seen, ReadsTree}
use Rattle.vs_parser.specs.vs_parse_expressions.proofs.Exits.{fails_by}
use Rattle.vs_parser.specs.vs_parse_expressions.specs.Parts.{ReadsWithin, headed}
use Rattle.vs_parser.specs.declared.items_head.GenerateWord.{GenerateWord}
use Rattle.vs_parser.specs.ItemsHeads.{generate_word, construct_of}
use Rattle.vs_parser.specs.Generated.{begun, block_rest}

-- a word that is known
pub construct_is : (k k' : GenerateWord) (depth : ℕ) (ts : List Token) (r : Result (Parsed ModuleItem) ReadFault) → k ≡ k' → ReadsWithin module_item_tree (headed (a_word (generate_word k'))) (construct_of k') depth ts r → ReadsWithin module_item_tree (headed (a_word (generate_word k))) (construct_of k) depth ts r
construct_is k k' depth ts r e p = subst (λ (u : GenerateWord). ReadsWithin module_item_tree (headed (a_word (generate_word u))) (construct_of u) depth ts r) (sym e) p

-- one more item
pub row_stuck : (depth : ℕ) (deep : Bool) (ts at : List Symbol) → goes (part an_item) ts ≡ true → Stuck (part an_item) depth deep ts at → Stuck (many (part an_item)) depth deep ts at
row_stuck depth deep ts at i (stuck_here n j) = absurd (clash i j)
row_stuck depth deep ts at i (stuck_deep j n) = stuck_deep j n
row_stuck depth deep ts at i (stuck_part (stuck_here n j)) = absurd (clash i j)
row_stuck depth deep ts at i (stuck_part (stuck_deep j n)) = stuck_deep j n
row_stuck depth deep ts at i (stuck_part (stuck_node n s)) = stuck_many i (omega (arith, n)) (stuck_part (stuck_node n s))

-- what stands behind the words of a region
abbrev pub region_rest : Grammar
region_rest = many (part an_item) · word w.Endgenerate

-- what stands behind `else`
abbrev pub otherwise : Grammar
otherwise = optional (the_word w.Else) (part a_generate_block)

pub else_stuck : (depth : ℕ) (deep : Bool) (ts after at : List Symbol) → ts ≡ a_word w.Else ∷ after → Stuck (part a_generate_block) depth deep after at → Stuck otherwise depth deep ts at
else_stuck depth deep ts after at e s =
    let none : 0 ≤ depth = omega arith in
    rw e (stuck_behind refl none s)

pub else_read : (depth : ℕ) (ts after rest : List Symbol) (x : Tree) → ts ≡ a_word w.Else ∷ after → Gets (part a_generate_block) depth after x rest → Gets otherwise depth ts (both (leaf (a_word w.Else)) x) rest
else_read depth ts after rest x e p = rw e (gets_present refl p)

-- nothing is generated
pub null_read : (depth : ℕ) (ts after : List Symbol) → ts ≡ a_mark m.Semicolon ∷ after → Gets (part a_generate_block) depth ts (leaf (a_mark m.Semicolon)) after
null_read depth ts after e = rw e (gets_part (gets_left refl (gets_token refl)))

-- a block
block_read : (depth : ℕ) (ts after rest : List Symbol) (x : Tree) → ts ≡ a_word w.Begin ∷ after → Gets block_rest depth after x rest → Gets (part a_generate_block) depth ts (begun x) rest
block_read depth ts after rest x e p = rw e (gets_part (gets_right refl (gets_left refl (gets_seq (gets_token refl) p))))

block_stuck : (depth : ℕ) (deep : Bool) (ts after at : List Symbol) → ts ≡ a_word w.Begin ∷ after → Stuck block_rest depth deep after at → Stuck (part a_generate_block) depth deep ts at
block_stuck depth deep ts after at e s =
    let none : 0 ≤ depth = omega arith in
    rw e (stuck_part (stuck_right refl none (stuck_left refl none (stuck_second (gets_token refl) s))))

pub block_answers : (depth : ℕ) (ts us : List Token) (r : Result (Parsed ModuleItem) ReadFault) → seen ts ≡ a_word w.Begin ∷ seen us → ReadsWithin module_item_tree begun block_rest depth us r → ReadsTree (part a_generate_block) depth ts module_item_tree r
block_answers depth ts us (Ok x) e p = rw p.whole (block_read depth (seen ts) (seen us) (seen x.rest.now) p.inner e p.gets)
block_answers depth ts us (Err f) e p =
    fails_by block_rest (part a_generate_block) depth depth (seen us) (seen ts) (λ deep at s. block_stuck depth deep (seen ts) (seen us) at e s) f p

-- an item: it begins with neither
same_among : (c : Class) → same_class c (the_mark m.Semicolon) ≡ false → same_class c (the_word w.Begin) ≡ false → among c (fronts_of an_item) ≡ among c (fronts_of a_generate_block)
same_among c h i = rw (h, i) refl

same_need : (c : Class) → same_class c (the_mark m.Semicolon) ≡ false → same_class c (the_word w.Begin) ≡ false → need c (fronts_of an_item) ≡ need c (fronts_of a_generate_block)
same_need c h i = rw (h, i) refl

item_stuck : (depth : ℕ) (deep : Bool) (ts at : List Symbol) → goes (mark m.Semicolon) ts ≡ false → goes (word w.Begin) ts ≡ false → Stuck (part an_item) depth deep ts at → Stuck (part a_generate_block) depth deep ts at
item_stuck depth deep ts at h i (stuck_here n j) = stuck_here n (sym (same_among (first ts) (or_false _ false h).0 (or_false _ false i).0) ∙ j)
item_stuck depth deep ts at h i (stuck_deep j n) =
    let k : need (first ts) (fronts_of an_item) ≡ need (first ts) (fronts_of a_generate_block) = same_need (first ts) (or_false _ false h).0 (or_false _ false i).0 in
    stuck_deep (sym (same_among (first ts) (or_false _ false h).0 (or_false _ false i).0) ∙ j) (omega (arith, n, k))
item_stuck depth deep ts at h i (stuck_part (stuck_here n j)) = stuck_here n (sym (same_among (first ts) (or_false _ false h).0 (or_false _ false i).0) ∙ j)
item_stuck depth deep ts at h i (stuck_part (stuck_deep j n)) =
    let k : need (first ts) (fronts_of an_item) ≡ need (first ts) (fronts_of a_generate_block) = same_need (first ts) (or_false _ false h).0 (or_false _ false i).0 in
    stuck_deep (sym (same_among (first ts) (or_false _ false h).0 (or_false _ false i).0) ∙ j) (omega (arith, n, k))
item_stuck depth deep ts at h i (stuck_part (stuck_node n s)) =
    let none : 0 ≤ depth = omega arith in
    stuck_part (stuck_right h none (stuck_right i (omega (arith, n)) (stuck_part (stuck_node n s))))

pub item_answers : (depth : ℕ) (ts : List Token) (r : Result (Parsed ModuleItem) ReadFault) → goes (mark m.Semicolon) (seen ts) ≡ false → goes (word w.Begin) (seen ts) ≡ false → ReadsTree (part an_item) depth ts module_item_tree r → ReadsTree (part a_generate_block) depth ts module_item_tree r
item_answers depth ts (Ok x) h i p = gets_part (gets_right h (gets_right i p))
item_answers depth ts (Err f) h i p =
    fails_by (part an_item) (part a_generate_block) depth depth (seen ts) (seen ts) (λ deep at s. item_stuck depth deep (seen ts) at h i s) f p

-- from the second assignment of a loop's header on
abbrev pub from_step : Grammar
from_step = named_value · mark m.Close · part a_generate_block

-- from the condition on
abbrev pub from_test : Grammar
from_test = part an_expr · mark m.Semicolon · from_step

-- from the first assignment on
abbrev pub from_first : Grammar
from_first = named_value · mark m.Semicolon · from_test
