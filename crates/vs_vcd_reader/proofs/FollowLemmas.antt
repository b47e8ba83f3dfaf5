-- Which line a text of the layout can have next.
use Rattle.std.proofs.Common.{◌≡◌, inl, inr, ℕ, true, List, [], ◌∷◌, ◌++◌, map, refl, sym, ap, subst, ◌∙◌, append_assoc}
use Rattle.std.proofs.lemmas.Bool.{and_from}
use Rattle.vs_vcd_lines.specs.Cuts.{lacks}
use Rattle.vs_vcd_lines.proofs.CutLemmas.{cut_once, lacks_head}
use Rattle.vs_vcd_lines.proofs.TextLemmas.{begins_before}
use Rattle.vs_vcd_reader.specs.Faults.{are_lines}
use Rattle.vs_vcd_reader.specs.Steps.{Item, Place, Step, Steps, Follows, line_of, text_from}
use Rattle.vs_vcd_reader.specs.Steps.{Steps as t}
use Rattle.vs_vcd_reader.specs.Stops.{GoesOn}
use Rattle.vs_vcd_reader.proofs.OneLineLemmas.{step_one_line}
use Rattle.vs_vcd_reader.proofs.OnceLemmas.{step_once}

-- ---- ways

pub steps_append : (here middle there : Place) (xs ys : List Item) → Steps here xs middle → Steps middle ys there → Steps here (xs ++ ys) there
steps_append here _ there _ ys (t.stay _) k = k
steps_append here middle there _ ys (t.go _ x next xs _ step more) k =
    t.go here x next (xs ++ ys) there step (steps_append next middle there xs ys more k)

pub steps_more : (here middle there : Place) (xs : List Item) (x : Item) → Steps here xs middle → Step middle x there → Steps here (xs ++ x ∷ []) there
steps_more here middle there xs x h step = steps_append here middle there xs (x ∷ []) h (t.go middle x there [] there step (t.stay there))

pub text_from-append : (xs ys : List Item) → text_from (xs ++ ys) ≡ text_from xs ++ text_from ys
text_from-append [] ys = refl
text_from-append (x ∷ xs) ys =
    ap (λ l. line_of x ++ 10 ∷ l) (text_from-append xs ys) ∙ sym (append_assoc (line_of x) (10 ∷ text_from xs) (text_from ys))

-- a text goes on by one line
pub text_more : (text : List ℕ) (items : List Item) (x : Item) (rest line after : List ℕ) → text ≡ text_from items ++ rest → rest ≡ line ++ 10 ∷ after → line ≡ line_of x
    → text ≡ text_from (items ++ x ∷ []) ++ after
text_more text items x rest line after so_far cut is =
    let last : (line_of x ++ 10 ∷ []) ++ after ≡ line_of x ++ 10 ∷ after = append_assoc (line_of x) (10 ∷ []) after in
    so_far
    ∙ ap (λ l. text_from items ++ l) (cut ∙ ap (λ l. l ++ 10 ∷ after) is ∙ sym last)
    ∙ sym (append_assoc (text_from items) (line_of x ++ 10 ∷ []) after)
    ∙ ap (λ l. l ++ after) (sym (text_from-append items (x ∷ [])))

pub all_lines : (here there : Place) (xs : List Item) → Steps here xs there → are_lines (map line_of xs) ≡ true
all_lines here _ _ (t.stay _) = refl
all_lines here there _ (t.go _ x next xs _ step more) =
    and_from (lacks 10 (line_of x)) (are_lines (map line_of xs)) (step_one_line here x next step) (all_lines next there xs more)

-- ---- what comes next

pub ended_some : (line rest : List ℕ) → line ++ 10 ∷ rest ≡ [] → ⊥
ended_some [] rest e = absurd cc
ended_some (b ∷ bs) rest e = absurd cc

first_follows : (here : Place) (ys : List Item) (r : Place) (line rest : List ℕ) → Steps here ys r → lacks 10 line ≡ true → line ++ 10 ∷ rest ≡ text_from ys → Follows here line
first_follows here _ r line rest (t.stay _) h e = absurd (ended_some line rest e)
first_follows here _ r line rest (t.go _ y next ys _ step more) h e = record {
  item = y;
  next = next;
  step = step;
  is = (cut_once 10 line (line_of y) rest (text_from ys) h (step_one_line here y next step) e).0;
}

-- what stands after the lines of one way stands after them on another way, from the same place
pub record IsAfter (place r : Place) (rest : List ℕ) : Type 0 where
  pub items : List Item
  pub steps : Steps place items r
  pub is : rest ≡ text_from items

pub same_way : (here place : Place) (xs ys : List Item) (r : Place) (rest : List ℕ) → Steps here xs place → Steps here ys r → text_from xs ++ rest ≡ text_from ys → IsAfter place r rest
same_way here _ _ ys r rest (t.stay _) k e = record { items = ys; steps = k; is = e }
same_way here place _ _ r rest (t.go _ x next xs _ step more) (t.stay _) e =
    absurd (ended_some (line_of x) (text_from xs ++ rest) (sym (append_assoc (line_of x) (10 ∷ text_from xs) rest) ∙ e))
same_way here place _ _ r rest (t.go _ x next xs _ step more) (t.go _ y other ys _ jump far) e =
    let parts = cut_once 10 (line_of x) (line_of y) (text_from xs ++ rest) (text_from ys) (step_one_line here x next step) (step_one_line here y other jump)
    (sym (append_assoc (line_of x) (10 ∷ text_from xs) rest) ∙ e) in
    let same = step_once here x y next other step jump parts.0 in
    same_way next place xs ys r rest more (subst (λ q. Steps q ys r) (sym same.1) far) parts.1

pub follows : (here place : Place) (xs ys : List Item) (r : Place) (line rest : List ℕ) → Steps here xs place → Steps here ys r → lacks 10 line ≡ true
    → text_from xs ++ (line ++ 10 ∷ rest) ≡ text_from ys → Follows place line
follows here place xs ys r line rest h k one e =
    let after = same_way here place xs ys r (line ++ 10 ∷ rest) h k e in
    first_follows place after.items r line rest after.steps one after.is

feed_in : (line rest : List ℕ) → lacks 10 (line ++ 10 ∷ rest) ≡ true → ⊥
feed_in [] rest h = (lacks_head 10 10 rest h).0 refl
feed_in (b ∷ bs) rest h = feed_in bs rest (lacks_head 10 b (bs ++ 10 ∷ rest) h).1

-- no text ends in a line without a line feed
no_part : (place r : Place) (ys : List Item) (part : List ℕ) → Steps place ys r → lacks 10 part ≡ true → part ≡ text_from ys → (part ≡ []) × (place ≡ r)
no_part place _ _ part (t.stay _) one e = (e, refl)
no_part place r _ part (t.go _ y next ys _ step more) one e = absurd (feed_in (line_of y) (text_from ys) (ap (lacks 10) (sym e) ∙ one))

pub ends : (here place : Place) (xs ys : List Item) (r : Place) (part : List ℕ) → Steps here xs place → Steps here ys r → lacks 10 part ≡ true
    → text_from xs ++ part ≡ text_from ys → (part ≡ []) × (place ≡ r)
ends here place xs ys r part h k one e =
    let after = same_way here place xs ys r part h k e in no_part place r after.items part after.steps one after.is

-- one text has its lines in one way
pub same_items : (here r q : Place) (xs ys : List Item) → Steps here xs r → Steps here ys q → text_from xs ≡ text_from ys → xs ≡ ys
same_items here _ _ _ _ (t.stay _) (t.stay _) e = refl
same_items here _ q _ _ (t.stay _) (t.go _ y other ys _ jump far) e = absurd (ended_some (line_of y) (text_from ys) (sym e))
same_items here r _ _ _ (t.go _ x next xs _ step more) (t.stay _) e = absurd (ended_some (line_of x) (text_from xs) e)
same_items here r q _ _ (t.go _ x next xs _ step more) (t.go _ y other ys _ jump far) e =
    let parts = cut_once 10 (line_of x) (line_of y) (text_from xs) (text_from ys) (step_one_line here x next step) (step_one_line here y other jump) e in
    let same = step_once here x y next other step jump parts.0 in
    let rest = same_items next r q xs ys more (subst (λ p. Steps p ys q) (sym same.1) far) parts.1 in
    ap (λ a. a ∷ xs) same.0 ∙ ap (λ l. y ∷ l) rest

-- ---- parts of lines

part_follows : (here : Place) (ys : List Item) (r : Place) (part rest : List ℕ) → Steps here ys r → lacks 10 part ≡ true → part ++ rest ≡ text_from ys → GoesOn here part
part_follows here _ r [] rest (t.stay _) one e = inl refl
part_follows here _ r (b ∷ bs) rest (t.stay _) one e = absurd cc
part_follows here _ r part rest (t.go _ y next ys _ step more) one e =
    let begins = begins_before 10 part rest (line_of y) (text_from ys) one e in
    inr (record { rest = begins.0; follows = record { item = y; next = next; step = step; is = sym begins.1 } })

-- what stands after lines of a text of the layout goes on to one there
pub part_goes_on : (here place : Place) (xs ys : List Item) (r : Place) (part rest : List ℕ) → Steps here xs place → Steps here ys r → lacks 10 part ≡ true
    → text_from xs ++ (part ++ rest) ≡ text_from ys → GoesOn place part
part_goes_on here place xs ys r part rest h k one e =
    let after = same_way here place xs ys r (part ++ rest) h k e in part_follows place after.items r part rest after.steps one after.is
