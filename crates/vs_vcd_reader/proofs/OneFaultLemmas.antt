-- A text has one fault.
use Rattle.std.proofs.Common.{◌≡◌, ◌⊎◌, inl, inr, ℕ, true, List, [], ◌∷◌, ◌++◌, refl, sym, ap, subst, ◌∙◌, append_assoc, arith}
use Rattle.std.proofs.lemmas.List.{append-nil}
use Rattle.vs_design.specs.vs_logic4.specs.declared.digit.Digit.{Digit}
use Rattle.vs_design.specs.vs_logic4.specs.declared.digit.Digit.TheVariants.{Zero, One, X, Z}
use Rattle.std.specs.List.{list_all}
use Rattle.std.proofs.lemmas.Bool.{and_parts as and_true}
use Rattle.vs_vcd_writing.specs.Text.{text_of}
use Rattle.vs_vcd_writing.specs.Values.{digit_character}
use Rattle.vs_vcd_reader.specs.vs_vcd_lines.specs.Cuts.{lacks}
use Rattle.vs_vcd_reader.specs.vs_vcd_lines.proofs.CutLemmas.{cut_once}
use Rattle.vs_vcd_reader.specs.declared.fault.VcdFault.{VcdFault}
use Rattle.vs_vcd_reader.specs.declared.fault.VcdFault.TheVariants as f
use Rattle.vs_vcd_reader.specs.Layout.{IsLayout}
use Rattle.vs_vcd_reader.specs.Faults.{are_lines, IsBadLine, IsBeginning, IsBody, IsCutShort, IsFault, IsLineEnd, IsOfNoCode, IsOfTime, IsShaped}
use Rattle.vs_vcd_reader.specs.Faults.{IsLineEnd as z, IsShaped as s}
use Rattle.vs_vcd_reader.specs.OneFault.{FaultsAreOne}

-- ---- beginnings

shorter : (a b : List ℕ) → IsBeginning (a ++ b) → IsBeginning a
shorter a b h = record { rest = b ++ h.rest; dump = h.dump; is = subst (λ l. IsLayout l h.dump) (append_assoc a b h.rest) h.is }

-- a line, and what stands after it
seam : (p line t : List ℕ) → p ++ (line ++ 10 ∷ t) ≡ (p ++ (line ++ 10 ∷ [])) ++ t
seam p line t = ap (λ l. p ++ l) (sym (append_assoc line (10 ∷ []) t)) ∙ sym (append_assoc p (line ++ 10 ∷ []) t)

first_begins : (p line t : List ℕ) → IsBeginning (p ++ (line ++ 10 ∷ t)) → IsBeginning (p ++ (line ++ 10 ∷ []))
first_begins p line t h = shorter (p ++ (line ++ 10 ∷ [])) t (subst IsBeginning (seam p line t) h)

-- ---- bad lines

text_after : (x : List ℕ) (xs : List (List ℕ)) (t : List ℕ) → text_of (x ∷ xs) ++ t ≡ x ++ 10 ∷ (text_of xs ++ t)
text_after x xs t = append_assoc x (10 ∷ text_of xs) t

lines_once : (p : List ℕ) (xs ys : List (List ℕ)) (l m r s : List ℕ) → are_lines xs ≡ true → are_lines ys ≡ true → lacks 10 l ≡ true → lacks 10 m ≡ true
    → text_of xs ++ (l ++ 10 ∷ r) ≡ text_of ys ++ (m ++ 10 ∷ s) → IsBeginning (p ++ text_of xs) → IsBeginning (p ++ text_of ys)
    → (IsBeginning (p ++ (text_of xs ++ (l ++ 10 ∷ []))) → ⊥) → (IsBeginning (p ++ (text_of ys ++ (m ++ 10 ∷ []))) → ⊥) → (xs ≡ ys) × (l ≡ m)
lines_once p [] [] l m r s hx hy hl hm e bx by nx ny = (refl, (cut_once 10 l m r s hl hm e).0)
lines_once p [] (y ∷ ys) l m r s hx hy hl hm e bx by nx ny =
    let head = and_true (lacks 10 y) (list_all (lacks 10) ys) hy in
    let same = (cut_once 10 l y r (text_of ys ++ (m ++ 10 ∷ s)) hl head.0 (e ∙ text_after y ys (m ++ 10 ∷ s))).0 in
    absurd (nx (subst (λ w. IsBeginning (p ++ (w ++ 10 ∷ []))) (sym same) (first_begins p y (text_of ys) by)))
lines_once p (x ∷ xs) [] l m r s hx hy hl hm e bx by nx ny =
    let head = and_true (lacks 10 x) (list_all (lacks 10) xs) hx in
    let same = (cut_once 10 x m (text_of xs ++ (l ++ 10 ∷ r)) s head.0 hm (sym (text_after x xs (l ++ 10 ∷ r)) ∙ e)).0 in
    absurd (ny (subst (λ w. IsBeginning (p ++ (w ++ 10 ∷ []))) same (first_begins p x (text_of xs) bx)))
lines_once p (x ∷ xs) (y ∷ ys) l m r s hx hy hl hm e bx by nx ny =
    let headx = and_true (lacks 10 x) (list_all (lacks 10) xs) hx in
    let heady = and_true (lacks 10 y) (list_all (lacks 10) ys) hy in
    let cut = cut_once 10 x y (text_of xs ++ (l ++ 10 ∷ r)) (text_of ys ++ (m ++ 10 ∷ s)) headx.0 heady.0
    (sym (text_after x xs (l ++ 10 ∷ r)) ∙ e ∙ text_after y ys (m ++ 10 ∷ s)) in
    let same : x ≡ y = cut.0 in
    let q = p ++ (x ++ 10 ∷ []) in
    let as_x : (t : List ℕ) → p ++ (y ++ 10 ∷ t) ≡ q ++ t = λ t. ap (λ w. p ++ (w ++ 10 ∷ t)) (sym same) ∙ seam p x t in
    let rest = lines_once q xs ys l m r s headx.1 heady.1 hl hm cut.1 (subst IsBeginning (seam p x (text_of xs)) bx) (subst IsBeginning (as_x (text_of ys)) by)
    (λ h. nx (subst IsBeginning (sym (ap (λ w. p ++ w) (text_after x xs (l ++ 10 ∷ [])) ∙ seam p x (text_of xs ++ (l ++ 10 ∷ [])))) h))
    (λ h. ny (subst IsBeginning (sym (ap (λ w. p ++ w) (text_after y ys (m ++ 10 ∷ [])) ∙ as_x (text_of ys ++ (m ++ 10 ∷ [])))) h)) in
    (ap (λ w. w ∷ xs) same ∙ ap (λ w. y ∷ w) rest.0, rest.1)

-- a text with a line feed after it has its bad line ended
as_ended : (text b line end rest : List ℕ) → IsLineEnd end rest → text ≡ b ++ line ++ end ++ rest → (r : List ℕ) × (text ++ 10 ∷ [] ≡ b ++ (line ++ 10 ∷ r))
as_ended text b line _ _ (z.feed rest) is = (
  rest ++ 10 ∷ [],
  ap (λ l. l ++ 10 ∷ []) is ∙ append_assoc (b ++ line ++ 10 ∷ []) rest (10 ∷ []) ∙ append_assoc (b ++ line) (10 ∷ []) (rest ++ 10 ∷ [])
      ∙ append_assoc b line (10 ∷ (rest ++ 10 ∷ [])),
)
as_ended text b line _ _ z.last is =
    ([], ap (λ l. l ++ 10 ∷ []) (is ∙ append-nil (b ++ line ++ []) ∙ append-nil (b ++ line)) ∙ append_assoc b line (10 ∷ []))

-- no text of the layout begins with a bad line that is ended
bad_at : (b line end rest : List ℕ) → IsLineEnd end rest → (IsBeginning (b ++ line ++ end) → ⊥) → IsBeginning ([] ++ (b ++ (line ++ 10 ∷ []))) → ⊥
bad_at b line _ _ (z.feed rest) bad h = bad (subst IsBeginning (sym (append_assoc b line (10 ∷ []))) h)
bad_at b line _ _ z.last bad h =
    bad
    (subst IsBeginning (sym (append-nil (b ++ line))) (shorter (b ++ line) (10 ∷ []) (subst IsBeginning (sym (append_assoc b line (10 ∷ []))) h)))

bad_once : (text : List ℕ) (xs ys : List (List ℕ)) (l m : List ℕ) → IsBadLine text xs l → IsBadLine text ys m → (xs ≡ ys) × (l ≡ m)
bad_once text xs ys l m h k =
    let first = as_ended text (text_of xs) l h.end h.rest h.ended h.is in
    let second = as_ended text (text_of ys) m k.end k.rest k.ended k.is in
    lines_once [] xs ys l m first.0 second.0 h.lines k.lines h.one_line k.one_line (sym first.1 ∙ second.1) h.begun k.begun
    (bad_at (text_of xs) l h.end h.rest h.ended h.bad) (bad_at (text_of ys) m k.end k.rest k.ended k.bad)

-- a text that is cut short has no bad line
cut_not_bad : (text : List ℕ) (ys : List (List ℕ)) (m : List ℕ) → IsCutShort text → IsBadLine text ys m → ⊥
cut_not_bad text ys m h k = k.bad (shorter (text_of ys ++ m ++ k.end) k.rest (subst IsBeginning k.is h.begun))

-- ---- kinds of lines

no_hash : (d : Digit) → digit_character d ≡ 35 → ⊥
no_hash Zero e = omega (arith, e)
no_hash One e = omega (arith, e)
no_hash X e = omega (arith, e)
no_hash Z e = omega (arith, e)

head_once : (a b : ℕ) (xs ys : List ℕ) → a ∷ xs ≡ b ∷ ys → a ≡ b
head_once a b xs ys e = cc

shaped_no_time : (n : ℕ) (line rest : List ℕ) → IsShaped n line → line ≡ 35 ∷ rest → ⊥
shaped_no_time n _ rest (s.bit d) e = let first : digit_character d ≡ 35 = cc in no_hash d first
shaped_no_time n _ rest (s.word d ds) e = let first = head_once 98 35 _ rest e in omega (arith, first)

-- of which fault a bad line is
abbrev IsOfKind : List (List ℕ) → List ℕ → VcdFault → Type 0
IsOfKind before line f.Memory = ⊥
IsOfKind before line f.Cut = ⊥
IsOfKind before line f.Header = IsBody before → ⊥
IsOfKind before line f.Time = IsBody before × IsOfTime line
IsOfKind before line f.Code = IsBody before × IsOfNoCode before line
IsOfKind before line f.Line = IsBody before × (IsOfTime line → ⊥) × (IsOfNoCode before line → ⊥)

kind_once : (before : List (List ℕ)) (line : List ℕ) (a b : VcdFault) → IsOfKind before line a → IsOfKind before line b → a ≡ b
kind_once before line f.Memory b h k = absurd h
kind_once before line f.Cut b h k = absurd h
kind_once before line f.Header f.Memory h k = absurd k
kind_once before line f.Header f.Cut h k = absurd k
kind_once before line f.Header f.Header h k = refl
kind_once before line f.Header f.Time h k = absurd (h k.0)
kind_once before line f.Header f.Code h k = absurd (h k.0)
kind_once before line f.Header f.Line h k = absurd (h k.0)
kind_once before line f.Time f.Memory h k = absurd k
kind_once before line f.Time f.Cut h k = absurd k
kind_once before line f.Time f.Header h k = absurd (k h.0)
kind_once before line f.Time f.Time h k = refl
kind_once before line f.Time f.Code h k = absurd (shaped_no_time k.1.number line h.1.0 k.1.shaped h.1.1)
kind_once before line f.Time f.Line h k = absurd (k.1 h.1)
kind_once before line f.Code f.Memory h k = absurd k
kind_once before line f.Code f.Cut h k = absurd k
kind_once before line f.Code f.Header h k = absurd (k h.0)
kind_once before line f.Code f.Time h k = absurd (shaped_no_time h.1.number line k.1.0 h.1.shaped k.1.1)
kind_once before line f.Code f.Code h k = refl
kind_once before line f.Code f.Line h k = absurd (k.2 h.1)
kind_once before line f.Line f.Memory h k = absurd k
kind_once before line f.Line f.Cut h k = absurd k
kind_once before line f.Line f.Header h k = absurd (k h.0)
kind_once before line f.Line f.Time h k = absurd (h.1 k.1)
kind_once before line f.Line f.Code h k = absurd (h.2 k.1)
kind_once before line f.Line f.Line h k = refl

-- ---- faults

-- a bad line of a text, of the kind of a fault
record IsBadLineOf (text : List ℕ) (fault : VcdFault) : Type 0 where
  pub before : List (List ℕ)
  pub line : List ℕ
  pub bad : IsBadLine text before line
  pub kind : IsOfKind before line fault

told_by : (text : List ℕ) (fault : VcdFault) → IsFault text fault → (fault ≡ f.Memory → ⊥) → ((fault ≡ f.Cut) × IsCutShort text) ⊎ IsBadLineOf text fault
told_by text f.Memory h other = absurd (other refl)
told_by text f.Cut h other = inl (refl, h)
told_by text f.Header h other = inr (record { before = h.before; line = h.line; bad = h.bad; kind = h.header })
told_by text f.Time h other = inr (record { before = h.before; line = h.line; bad = h.bad; kind = (h.body, h.kind) })
told_by text f.Code h other = inr (record { before = h.before; line = h.line; bad = h.bad; kind = (h.body, h.kind) })
told_by text f.Line h other = inr (record { before = h.before; line = h.line; bad = h.bad; kind = (h.body, h.kind.0, h.kind.1) })

told_once : (text : List ℕ) (a b : VcdFault) → IsBadLineOf text a → IsBadLineOf text b → a ≡ b
told_once text a b h k =
    let same = bad_once text h.before k.before h.line k.line h.bad k.bad in
    kind_once k.before k.line a b (subst (λ l. IsOfKind k.before l a) same.1 (subst (λ ls. IsOfKind ls h.line a) same.0 h.kind)) k.kind

pub one_fault : FaultsAreOne
one_fault text a b h k no_a no_b =
    elim (told_by text a h no_a) [
      | inl cut ↦ elim (told_by text b k no_b) [
        | inl short ↦ cut.0 ∙ sym short.0
        | inr bad ↦ absurd (cut_not_bad text bad.before bad.line cut.1 bad.bad)
      ]
      | inr bad ↦ elim (told_by text b k no_b) [
        | inl short ↦ absurd (cut_not_bad text bad.before bad.line short.1 bad.bad)
        | inr other ↦ told_once text a b bad other
      ]
    ]
