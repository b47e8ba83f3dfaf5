-- How items are made of what they begin with and what stands behind it, and where they stop.
use Rattle.std.specs.Prelude.{◌≡◌, ℕ, suc, ◌-◌, ◌<◌, ◌≤◌, Bool, true, List, ◌∷◌, Some, Result, Ok, Err, refl}
use Rattle.std.proofs.Common.{ap, sym, subst, ◌∙◌, arith}
use Rattle.vs_syntax.specs.vs_lexer.specs.declared.token.Word.{Word}
use Rattle.vs_syntax.specs.vs_lexer.specs.declared.token.Word.TheVariants as w
use Rattle.vs_syntax.specs.vs_lexer.specs.declared.token.Token.{Token}
use Rattle.vs_syntax.specs.Symbols.{Symbol, a_word, class_of, the_word, first}
use Rattle.vs_syntax.specs.Grammar.{Grammar, part, items, an_item}
use Rattle.vs_syntax.specs.Tables.{low, among, need, fronts_of, goes}
use Rattle.vs_syntax.specs.Derivation.{Tree}
use Rattle.vs_syntax.specs.Reading.{Gets, Stuck, stuck_second, stuck_left, stuck_right, stuck_part, stuck_node}
use Rattle.vs_syntax.specs.Views.{item_symbol, body_tree, module_item_tree}
use Rattle.vs_syntax.specs.declared.tree.Direction.TheVariants as o
use Rattle.vs_syntax.specs.declared.tree.Item.{Item}
use Rattle.vs_syntax.specs.declared.tree.ModuleItem.{ModuleItem}
use Rattle.vs_syntax.specs.declared.tree.ModuleItem.TheVariants as v
use Rattle.vs_syntax.proofs.Gets.{gets_token, gets_seq, gets_left, gets_right, gets_part, gets_node}
use Rattle.vs_parser.specs.declared.items_head.ItemHead.{ItemHead}
use Rattle.vs_parser.specs.declared.items_head.ItemHead.TheVariants as i
use Rattle.vs_parser.specs.declared.items_head.PlainHead.{PlainHead}
use Rattle.vs_parser.specs.declared.items_head.PlainHead.TheVariants as p
use Rattle.vs_parser.specs.declared.items_head.GenerateWord.{GenerateWord}
use Rattle.vs_parser.specs.declared.items_head.GenerateWord.TheVariants as g
use Rattle.vs_parser.specs.declared.items_head.DeclarationWord.{DeclarationWord}
use Rattle.vs_parser.specs.declared.items_head.DeclarationWord.TheVariants as d
use Rattle.vs_parser.specs.vs_parse_expressions.specs.declared.reading.Parsed.{Parsed}
use Rattle.vs_parser.specs.vs_parse_expressions.specs.declared.reading.ReadFault.{ReadFault}
use Rattle.vs_parser.specs.vs_parse_expressions.specs.Answers.{seen, FailsToRead, ReadsTree}
use Rattle.vs_parser.specs.vs_parse_expressions.specs.Parts.{Within, ReadsWithin, headed}
use Rattle.vs_parser.specs.ItemsHeads.{word_of, generate_word, plain_symbol, symbol_of, declaration_of, construct_of, plain_body, body_of}
use Rattle.vs_parser.specs.vs_parse_expressions.proofs.Exits.{deep_at, fails_by, goes_at}
use Rattle.vs_parser.specs.vs_parse_expressions.proofs.Choices.{branch, choice_read, choice_stuck}
use Rattle.vs_parser.proofs.Trees.{tree_Plain}

-- each declaration, by its word
declared_branch : (d : DeclarationWord) → branch (the_word (word_of d)) items ≡ Some (declaration_of d)
declared_branch (d.Port o.Input) = refl
declared_branch (d.Port o.Output) = refl
declared_branch d.Wire = refl
declared_branch _ = refl

declared_need : (d : DeclarationWord) → need (the_word (word_of d)) (fronts_of an_item) ≡ suc (low (declaration_of d))
declared_need (d.Port o.Input) = refl
declared_need (d.Port o.Output) = refl
declared_need d.Wire = refl
declared_need _ = refl

declared_among : (d : DeclarationWord) → among (the_word (word_of d)) (fronts_of an_item) ≡ true
declared_among (d.Port o.Input) = refl
declared_among (d.Port o.Output) = refl
declared_among d.Wire = refl
declared_among _ = refl

-- each generate construct, by its word
construct_branch : (k : GenerateWord) → branch (the_word (generate_word k)) items ≡ Some (construct_of k)
construct_branch g.Region = refl
construct_branch _ = refl

-- each kind of item, by its first symbol
plain_need : (k : PlainHead) → need (class_of (plain_symbol k)) (fronts_of an_item) ≡ suc (low (plain_body k))
plain_need (p.Declaration d) = declared_need d
plain_need _ = refl

item_need : (k : ItemHead) → need (class_of (symbol_of k)) (fronts_of an_item) ≡ suc (low (body_of k))
item_need (i.Plain k) = plain_need k
item_need (i.Generate g.Region) = refl
item_need (i.Generate _) = refl

plain_among : (k : PlainHead) → among (class_of (plain_symbol k)) (fronts_of an_item) ≡ true
plain_among (p.Declaration d) = declared_among d
plain_among _ = refl

item_among : (k : ItemHead) → among (class_of (symbol_of k)) (fronts_of an_item) ≡ true
item_among (i.Plain k) = plain_among k
item_among (i.Generate g.Region) = refl
item_among (i.Generate _) = refl

pub item_goes : (ts after : List Symbol) (k : ItemHead) → ts ≡ symbol_of k ∷ after → goes (part an_item) ts ≡ true
item_goes ts after k e = goes_at (part an_item) ts (class_of (symbol_of k)) true (ap first e) (item_among k)

pub item_deep : (depth : ℕ) (ts after : List Symbol) (k : ItemHead) → ts ≡ symbol_of k ∷ after → depth < need (class_of (symbol_of k)) (fronts_of an_item) → Stuck (part an_item) depth true ts ts
item_deep depth ts after k e h = deep_at an_item depth ts (class_of (symbol_of k)) (ap first e) (item_among k) h

-- there is depth behind the first symbol
pub body_low : (depth : ℕ) (k : ItemHead) → need (class_of (symbol_of k)) (fronts_of an_item) ≤ depth → low (body_of k) < depth
body_low depth k h = omega (arith, item_need k, h)

-- an item with a word of its own
word_read : (g : Grammar) (depth : ℕ) (x : Word) (ts after rest : List Symbol) (t : Tree) → 0 < depth → ts ≡ a_word x ∷ after → branch (the_word x) items ≡ Some g → Gets g (depth - 1) after t rest → Gets (part an_item) depth ts (headed (a_word x) t) rest
word_read g depth x ts after rest t h e b p = rw e (gets_part (gets_node h (gets_right refl (choice_read items g (depth - 1) (a_word x) after rest t b p))))

word_stuck : (g : Grammar) (depth : ℕ) (deep : Bool) (x : Word) (ts after at : List Symbol) → 0 < depth → low g ≤ depth - 1 → ts ≡ a_word x ∷ after → branch (the_word x) items ≡ Some g → Stuck g (depth - 1) deep after at → Stuck (part an_item) depth deep ts at
word_stuck g depth deep x ts after at h n e b s =
    let none : 0 ≤ depth - 1 = omega arith in
    rw e (stuck_part (stuck_node h (stuck_right refl none (choice_stuck items g (depth - 1) deep (a_word x) after at b n s))))

item_read : (depth : ℕ) (ts after rest : List Symbol) (k : ItemHead) (x : Tree) → 0 < depth → ts ≡ symbol_of k ∷ after → Gets (body_of k) (depth - 1) after x rest → Gets (part an_item) depth ts (headed (symbol_of k) x) rest
item_read depth ts after rest (i.Plain (p.Name bytes)) x h e q = rw e (gets_part (gets_node h (gets_left refl (gets_seq (gets_token refl) q))))
item_read depth ts after rest (i.Plain (p.Declaration d)) x h e q = word_read (declaration_of d) depth (word_of d) ts after rest x h e (declared_branch d) q
item_read depth ts after rest (i.Plain p.Assign) x h e q = word_read _ depth w.Assign ts after rest x h e refl q
item_read depth ts after rest (i.Plain p.Initial) x h e q = word_read _ depth w.Initial ts after rest x h e refl q
item_read depth ts after rest (i.Plain p.Always) x h e q = word_read _ depth w.Always ts after rest x h e refl q
item_read depth ts after rest (i.Generate k) x h e q = word_read (construct_of k) depth (generate_word k) ts after rest x h e (construct_branch k) q

item_stuck : (depth : ℕ) (deep : Bool) (ts after at : List Symbol) (k : ItemHead) → 0 < depth → low (body_of k) ≤ depth - 1 → ts ≡ symbol_of k ∷ after → Stuck (body_of k) (depth - 1) deep after at → Stuck (part an_item) depth deep ts at
item_stuck depth deep ts after at (i.Plain (p.Name bytes)) h n e s =
    let none : 0 ≤ depth - 1 = omega arith in
    rw e (stuck_part (stuck_node h (stuck_left refl none (stuck_second (gets_token refl) s))))
item_stuck depth deep ts after at (i.Plain (p.Declaration d)) h n e s = word_stuck (declaration_of d) depth deep (word_of d) ts after at h n e (declared_branch d) s
item_stuck depth deep ts after at (i.Plain p.Assign) h n e s = word_stuck (plain_body p.Assign) depth deep w.Assign ts after at h n e refl s
item_stuck depth deep ts after at (i.Plain p.Initial) h n e s = word_stuck (plain_body p.Initial) depth deep w.Initial ts after at h n e refl s
item_stuck depth deep ts after at (i.Plain p.Always) h n e s = word_stuck (plain_body p.Always) depth deep w.Always ts after at h n e refl s
item_stuck depth deep ts after at (i.Generate k) h n e s = word_stuck (construct_of k) depth deep (generate_word k) ts after at h n e (construct_branch k) s

-- an item, by what was read behind its first symbol
pub item_answers : (depth : ℕ) (ts us : List Token) (k : ItemHead) (r : Result (Parsed ModuleItem) ReadFault) → seen ts ≡ symbol_of k ∷ seen us → need (class_of (symbol_of k)) (fronts_of an_item) ≤ depth → ReadsWithin module_item_tree (headed (symbol_of k)) (body_of k) (depth - 1) us r → ReadsTree (part an_item) depth ts module_item_tree r
item_answers depth ts us k (Ok x) e h q =
    let n : low (body_of k) < depth = body_low depth k h in
    rw q.whole (item_read depth (seen ts) (seen us) (seen x.rest.now) k q.inner (omega (arith, n)) e q.gets)
item_answers depth ts us k (Err s) e h q =
    let n : low (body_of k) < depth = body_low depth k h in
    fails_by (body_of k) (part an_item) (depth - 1) depth (seen us) (seen ts) (λ deep at t. item_stuck depth deep (seen ts) (seen us) at k (omega (arith, n)) (omega (arith, n)) e t) s q

-- a beginning that is known
pub begins_of : (ts after : List Symbol) (k k' : ItemHead) → k ≡ k' → ts ≡ symbol_of k ∷ after → ts ≡ symbol_of k' ∷ after
begins_of ts after k k' e b = subst (λ (u : ItemHead). ts ≡ symbol_of u ∷ after) e b

pub need_of : (k k' : ItemHead) (n depth : ℕ) → k ≡ k' → n ≡ need (class_of (symbol_of k)) (fronts_of an_item) → n ≤ depth → need (class_of (symbol_of k')) (fronts_of an_item) ≤ depth
need_of k k' n depth e i l = omega (arith, l, i, ap (λ u. need (class_of (symbol_of u)) (fronts_of an_item)) e)

-- what was read of an item that is no generate construct
pub plain_within : (k : PlainHead) (depth : ℕ) (ts rest : List Symbol) (x : Item) → Gets (plain_body k) depth ts (body_tree x) rest → item_symbol x ≡ plain_symbol k → Within module_item_tree (headed (plain_symbol k)) (plain_body k) depth ts (v.Plain x) rest
plain_within k depth ts rest x q e = record { inner = body_tree x; whole = tree_Plain x ∙ ap (λ u. headed u (body_tree x)) e; gets = q }

-- a beginning that is known
pub plain_fails : (k k' : PlainHead) (depth : ℕ) (ts : List Symbol) (e : ReadFault) → k ≡ k' → FailsToRead (plain_body k') depth ts e → FailsToRead (plain_body k) depth ts e
plain_fails k k' depth ts e i f = subst (λ (u : PlainHead). FailsToRead (plain_body u) depth ts e) (sym i) f

pub plain_is : (k k' : PlainHead) (depth : ℕ) (ts rest : List Symbol) (x : Item) → k ≡ k' → Gets (plain_body k') depth ts (body_tree x) rest → item_symbol x ≡ plain_symbol k' → Within module_item_tree (headed (plain_symbol k)) (plain_body k) depth ts (v.Plain x) rest
plain_is k k' depth ts rest x i q e = subst (λ (u : PlainHead). Within module_item_tree (headed (plain_symbol u)) (plain_body u) depth ts (v.Plain x) rest) (sym i) (plain_within k' depth ts rest x q e)

pub declared_read : (k k' : DeclarationWord) (depth : ℕ) (ts rest : List Symbol) (x : Tree) → k ≡ k' → Gets (declaration_of k') depth ts x rest → Gets (declaration_of k) depth ts x rest
declared_read k k' depth ts rest x i q = subst (λ (u : DeclarationWord). Gets (declaration_of u) depth ts x rest) (sym i) q
