-- Each event control of a text stands at a point.
use Rattle.std.proofs.Common.{◌≡◌, ℕ, ◌++◌, false, List, [], ◌∷◌, map, refl, sym, ◌∙◌, ap, subst, inl, inr, append_assoc}
use Rattle.std.specs.List.{Contains}
use Rattle.std.specs.declared.vec.Vec.{Vec}
use Rattle.std.specs.declared.alloc.Global.{Global}
use Rattle.std.proofs.lemmas.Bool.{eqb-true}
use Rattle.std.proofs.lemmas.List.{append-nil}
use Rattle.std.proofs.lemmas.List.Elements.{Contains-append_cases}
use Rattle.vs_design.specs.declared.expression.Typed.{Typed}
use Rattle.vs_design.specs.declared.statement.EventTerm.{EventTerm}
use Rattle.vs_design.specs.declared.statement.Statement.{Statement}
use Rattle.vs_design.specs.declared.statement.Statement.TheVariants.{rolls-Block}
use Rattle.vs_design.specs.declared.statement.Statement.TheOpen.{Statement-F}
use Rattle.vs_design.specs.declared.statement.Statement.TheFolds.{fold-roll-Statement, ind-Statement, map-Statement}
use Rattle.vs_design.specs.declared.statement.Statement.TheViews.{roll-Statement, out-roll-Statement}
use Rattle.vs_design.specs.Parts.{Parts}
use Rattle.vs_design.specs.Statements.{event_terms, event_terms_step}
use Rattle.vs_design.specs.Uses.{is_of, joined}
use Rattle.vs_process.specs.Drafts.{flat_all, is_block}
use Rattle.vs_process.specs.Nexts.{statement_nexts}
use Rattle.vs_process.specs.Places.{perform, turns, Todo, flat}
use Rattle.vs_process.specs.Steps.{Next, on, wait}
use Rattle.vs_process.proofs.Shapes.{flat-Block, flat-rolled}
use Rattle.vs_design.specs.vs_logic4.proofs.Basics.{element_of as any_at, none_in}
use Rattle.vs_rules.specs.vs_process.proofs.ThreadLists.{contains_at}
use Rattle.vs_rules.specs.Points.{Goes, Point, first_todo}
use Rattle.vs_rules.specs.Points as r
use Rattle.vs_independence.proofs.Apart.{HeardAtPoints}
use Rattle.vs_independence.proofs.Shapes.{first_is}

-- an event control with this term stands at a point
record TermAt (first : Todo) (t : EventTerm) : Type 0 where
  control : Todo
  number : ℕ
  terms : List EventTerm
  behind : Todo
  point : Point first control
  goes : Goes control (wait number terms behind)
  is : Contains terms t

abbrev AllAt : Todo → Todo → List EventTerm → Type 0
AllAt first k terms = Point first k → (t : EventTerm) → Contains terms t → TermAt first t

-- a statement, where it stands in front of what else is to be done
abbrev TermsStand : Statement → Type 0
TermsStand s = (first rest : Todo) → AllAt first (flat s ++ rest) (event_terms s)

abbrev Known : Type 0
Known = (s : Statement) × TermsStand s

abbrev bare : Known → Statement
bare p = p.0

skip_all : (first xs ys : Todo) → Point first (xs ++ ys) → Point first ys
skip_all first [] ys p = p
skip_all first (x ∷ xs) ys p = skip_all first xs ys (Point.skips x (xs ++ ys) p)

none_at_all : (first k : Todo) → AllAt first k []
none_at_all first k p t c = absurd (none_in t c)

both_at : (first k : Todo) (xs ys : List EventTerm) → AllAt first k xs → AllAt first k ys → AllAt first k (xs ++ ys)
both_at first k xs ys hx hy p t c = elim (Contains-append_cases xs ys t c) [
  | inl x ↦ hx p t x
  | inr y ↦ hy p t y
]

row : (ps : List Known) (first rest : Todo) → AllAt first (flat_all (map bare ps) ++ rest) (joined (map event_terms (map bare ps)))
row [] first rest p t c = absurd (none_in t c)
row (q ∷ ps) first rest p t c =
    let more = flat_all (map bare ps) in
    let point : Point first (flat q.0 ++ more ++ rest) = p in
    let split : Point first (flat q.0 ++ (more ++ rest)) = subst (Point first) (append_assoc (flat q.0) more rest) point in
    elim (Contains-append_cases (event_terms q.0) (joined (map event_terms (map bare ps))) t c) [
      | inl x ↦ q.1 first (more ++ rest) split t x
      | inr y ↦ row ps first rest (skip_all first (flat q.0) (more ++ rest) split) t y
    ]

abbrev item : Vec Typed Global × Known → Vec Typed Global × Statement
item i = (i.0, bare i.1)

among_left : (n : Next) (xs ys : List Next) → r.Among n xs → r.Among n (xs ++ ys)
among_left n _ ys (r.Among.first xs) = r.Among.first (xs ++ ys)
among_left n _ ys (r.Among.further y xs h) = r.Among.further y (xs ++ ys) (among_left n xs ys h)

-- of the items of a `case`, by how the ways to them are ways from it
items_at : (first k rest : Todo) (ps : List (Vec Typed Global × Known)) → ((l : Todo) → r.Among (on l) (map (λ (i : Vec Typed Global × Statement). on (flat i.1 ++ rest)) (map item ps)) → Goes k (on l)) →
    AllAt first k (joined (map (λ (i : Vec Typed Global × List EventTerm). i.1) (map (λ (i : Vec Typed Global × Statement). (i.0, event_terms i.1)) (map item ps))))
items_at first k rest [] ways = none_at_all first k
items_at first k rest (q ∷ ps) ways =
    both_at first k (event_terms q.1.0) (joined (map (λ (i : Vec Typed Global × List EventTerm). i.1) (map (λ (i : Vec Typed Global × Statement). (i.0, event_terms i.1)) (map item ps))))
    (λ p t c. q.1.1 first rest (Point.goes_on k (flat q.1.0 ++ rest) p (ways (flat q.1.0 ++ rest) (r.Among.first _))) t c)
    (items_at first k rest ps (λ l h. ways l (r.Among.further _ _ h)))

-- by the outermost layer, of a statement that is no block
layered : (y : Statement-F Known) → is_block (map-Statement Known Statement bare y) ≡ false → (s : Statement) (first rest : Todo) →
    ((n : Next) → r.Among n (statement_nexts s (map-Statement Known Statement bare y) rest) → Goes (perform s ∷ rest) n) →
    AllAt first (perform s ∷ rest) (event_terms_step (map-Statement Statement (List EventTerm) event_terms (map-Statement Known Statement bare y)))
layered (Statement-F.Null n) h s first rest ways = none_at_all first (perform s ∷ rest)
layered (Statement-F.Assign n t e) h s first rest ways = none_at_all first (perform s ∷ rest)
layered (Statement-F.Later n ticks t e) h s first rest ways = none_at_all first (perform s ∷ rest)
layered (Statement-F.Call n c) h s first rest ways = none_at_all first (perform s ∷ rest)
layered (Statement-F.Finish n) h s first rest ways = none_at_all first (perform s ∷ rest)
layered (Statement-F.Block all) h s first rest ways = absurd (Rattle.std.proofs.lemmas.Bool.true≢false h)
layered (Statement-F.Delay n ticks body) h s first rest ways = λ p t c.
    body.value.1 first rest (Point.waits (perform s ∷ rest) (flat body.value.0 ++ rest) n ticks.count p (ways _ (r.Among.first _))) t c
layered (Statement-F.Event n terms body) h s first rest ways =
    both_at first (perform s ∷ rest) terms.items (event_terms body.value.0)
    (λ p t c. record { control = perform s ∷ rest; number = n; terms = terms.items; behind = flat body.value.0 ++ rest; point = p; goes = ways _ (r.Among.first _); is = c })
    (λ p t c. body.value.1 first rest (Point.listens (perform s ∷ rest) (flat body.value.0 ++ rest) n terms.items p (ways _ (r.Among.first _))) t c)
layered (Statement-F.If n e a b) h s first rest ways =
    both_at first (perform s ∷ rest) (event_terms a.value.0) (event_terms b.value.0)
    (λ p t c. a.value.1 first rest (Point.goes_on (perform s ∷ rest) (flat a.value.0 ++ rest) p (ways _ (r.Among.first _))) t c)
    (λ p t c. b.value.1 first rest (Point.goes_on (perform s ∷ rest) (flat b.value.0 ++ rest) p (ways _ (r.Among.further _ _ (r.Among.first _)))) t c)
layered (Statement-F.Case n kind x items) h s first rest ways =
    items_at first (perform s ∷ rest) rest items.items (λ l a. ways (on l) (among_left (on l) (map (λ (i : Vec Typed Global × Statement). on (flat i.1 ++ rest)) (map item items.items)) _ a))
layered (Statement-F.While n e body) h s first rest ways = λ p t c.
    body.value.1 first (perform s ∷ rest) (Point.goes_on (perform s ∷ rest) (flat body.value.0 ++ perform s ∷ rest) p (ways _ (r.Among.first _))) t c
layered (Statement-F.Repeat n signed e body) h s first rest ways = λ p t c.
    body.value.1 first (turns 0 body.value.0 ∷ rest) (Point.goes_on (perform s ∷ rest) (flat body.value.0 ++ turns 0 body.value.0 ∷ rest) p (ways _ (r.Among.first _))) t c
layered (Statement-F.Forever n body) h s first rest ways = λ p t c.
    body.value.1 first (perform s ∷ rest) (Point.goes_on (perform s ∷ rest) (flat body.value.0 ++ perform s ∷ rest) p (ways _ (r.Among.first _))) t c

leaf : (y : Statement-F Known) → is_block (map-Statement Known Statement bare y) ≡ false → TermsStand (roll-Statement (map-Statement Known Statement bare y))
leaf y h first rest p t c =
    let x = map-Statement Known Statement bare y in
    let s = roll-Statement x in
    layered y h s first rest (λ n a. subst (λ z. r.Among n (statement_nexts s z rest)) (sym (out-roll-Statement x)) a)
    (subst (λ (l : Todo). Point first (l ++ rest)) (flat-rolled x h) p) t (subst (λ ts. Contains ts t) (fold-roll-Statement (List EventTerm) event_terms_step x) c)

block_at : (all : Vec Known Global) → TermsStand (roll-Statement (map-Statement Known Statement bare (Statement-F.Block all)))
block_at all first rest p t c =
    row all.items first rest (subst (λ (l : Todo). Point first (l ++ rest)) (ap flat (rolls-Block _) ∙ flat-Block _) p) t
    (subst (λ ts. Contains ts t) (fold-roll-Statement (List EventTerm) event_terms_step _) c)

layer : (y : Statement-F Known) → TermsStand (roll-Statement (map-Statement Known Statement bare y))
layer (Statement-F.Block all) = block_at all
layer (Statement-F.Null n) = leaf (Statement-F.Null n) refl
layer (Statement-F.Assign n t e) = leaf (Statement-F.Assign n t e) refl
layer (Statement-F.Later n ticks t e) = leaf (Statement-F.Later n ticks t e) refl
layer (Statement-F.Call n c) = leaf (Statement-F.Call n c) refl
layer (Statement-F.Finish n) = leaf (Statement-F.Finish n) refl
layer (Statement-F.Delay n ticks body) = leaf (Statement-F.Delay n ticks body) refl
layer (Statement-F.Event n terms body) = leaf (Statement-F.Event n terms body) refl
layer (Statement-F.If n e a b) = leaf (Statement-F.If n e a b) refl
layer (Statement-F.Case n kind x items) = leaf (Statement-F.Case n kind x items) refl
layer (Statement-F.While n e body) = leaf (Statement-F.While n e body) refl
layer (Statement-F.Repeat n signed e body) = leaf (Statement-F.Repeat n signed e body) refl
layer (Statement-F.Forever n body) = leaf (Statement-F.Forever n body) refl

terms_stand : (s : Statement) → TermsStand s
terms_stand s = ind-Statement TermsStand (λ x y is. subst (λ z. TermsStand (roll-Statement z)) is (layer y)) s

-- what an event control of a process names, an event control at one of its points names
pub heard_stands : (d : Parts) → HeardAtPoints d
heard_stands d i p v is h =
    let found = any_at (λ (t : EventTerm). is_of v t.range) (event_terms p.body) h in
    let at = terms_stand p.body (first_todo d i) []
    (subst (Point (first_todo d i)) (first_is d.processes i p is ∙ sym (append-nil (flat p.body))) Point.begins) found.1 (contains_at (event_terms p.body) found.0 found.1 found.2) in
    (found.1, record { control = at.control; number = at.number; terms = at.terms; behind = at.behind; point = at.point; goes = at.goes; is = at.is }, eqb-true found.1.range.signal v found.3)
