-- Beginnings of lines that can stand at a place.
use Rattle.std.proofs.Common.{◌≡◌, ◌⊎◌, inl, inr, ℕ, ◌+◌, ◌<◌, ◌≤◌, Bool, true, false, Some, None, List, [], ◌∷◌, ◌++◌, codes, get_or, length, refl, sym, ap, subst, ◌∙◌, arith}
use Rattle.std.specs.Prelude.{replicate, slice_get}
use Rattle.std.proofs.lemmas.Bool.{cases_lt, false≢true}
use Rattle.std.proofs.lemmas.Option.{get_or_from_slice_get, slice_get-get_or, slice_get_within}
use Rattle.vs_design.specs.vs_logic4.specs.declared.digit.Digit.{Digit}
use Rattle.vs_design.specs.vs_logic4.specs.declared.digit.Digit.TheVariants.{X}
use Rattle.vs_design.specs.declared.design.ScopeKind.{ScopeKind}
use Rattle.vs_design.specs.declared.design.ScopeKind.TheVariants.{Begin, Module}
use Rattle.vs_vcd_lines.specs.declared.dump.ValueChange.{ValueChange}
use Rattle.vs_vcd_lines.specs.Lines.{IsSized}
use Rattle.vs_vcd_reader.specs.Plain.{PlainVariable}
use Rattle.vs_vcd_reader.specs.Layout.{IsPlainVariable}
use Rattle.vs_vcd_reader.specs.Bodies.{IsAtTime}
use Rattle.vs_vcd_lines.specs.Beginnings.{Begins, BeginsChange, BeginsScope, BeginsSomeScope, BeginsVariable}
use Rattle.vs_vcd_reader.specs.Steps.{Item, Place, Step, line_of}
use Rattle.vs_vcd_reader.specs.Steps.{Item as i, Place as p, Step as s}
use Rattle.vs_vcd_reader.specs.Stops.{GoesOn}
use Rattle.vs_vcd_reader.proofs.BeginLemmas.{length-replicated}
use Rattle.vs_vcd_reader.proofs.HeaderLemmas.{step_scope, step_upscope, step_variable}
use Rattle.vs_vcd_lines.proofs.TextLemmas.{begins_nil, Tells}

-- a line of an item goes on
on : (here next : Place) (x : Item) (part : List ℕ) → Step here x next → Begins part (line_of x) → GoesOn here part
on here next x part step h = inr (record { rest = h.0; follows = record { item = x; next = next; step = step; is = sym h.1 } })

-- ---- scopes of some kind

pub module_tells : (part : List ℕ) (a : Bool) → a ≡ true → Tells a (BeginsScope Module part) → Tells a (BeginsSomeScope part)
module_tells part a is tells = (λ e. (Module, tells.0 e), λ g. is)

some_scope_by : (part : List ℕ) (kind : ScopeKind) (a b : Bool) → a ≡ false → (BeginsScope Module part → a ≡ true) → (BeginsScope Begin part → b ≡ true)
    → BeginsScope kind part → b ≡ true
some_scope_by part Module a b other first second h = absurd (false≢true (sym other ∙ first h))
some_scope_by part Begin a b other first second h = second h

pub block_tells : (part : List ℕ) (a b : Bool) → a ≡ false → Tells a (BeginsScope Module part) → Tells b (BeginsScope Begin part) → Tells b (BeginsSomeScope part)
block_tells part a b other first second = (λ e. (Begin, second.0 e), λ g. some_scope_by part g.0 a b other first.1 second.1 g.1)

-- ---- the top module

top_by : (part rest : List ℕ) (x : Item) (next : Place) → Step p.Top x next → part ++ rest ≡ line_of x → BeginsScope Module part
top_by part rest _ _ (s.top name named) is = record { name = name; named = named; begins = (rest, sym is) }

top_begins : (part : List ℕ) → GoesOn p.Top part → BeginsScope Module part
top_begins part (inl none) = record { name = codes "t"; named = inl refl; begins = begins_nil part _ none }
top_begins part (inr h) = top_by part h.rest h.follows.item h.follows.next h.follows.step h.follows.is

pub top_tells : (part : List ℕ) (b : Bool) → Tells b (BeginsScope Module part) → Tells b (GoesOn p.Top part)
top_tells part b tells = (
  λ e. let h = tells.0 e in on p.Top (p.Header [] 1 true) (i.Scope Module h.name) part (s.top h.name h.named) h.begins,
  λ g. tells.1 (top_begins part g),
)

-- ---- declarations

pub upscope_tells : (ws : List ℕ) (depth : ℕ) (own : Bool) (part : List ℕ) → 0 < depth → Begins part (codes "$upscope $end") → Tells true (GoesOn (p.Header ws depth own) part)
upscope_tells ws depth own part opened h =
    (λ e. on (p.Header ws depth own) _ i.Upscope part (step_upscope ws ws depth _ own false refl opened refl refl) h, λ g. refl)

pub scope_tells : (ws : List ℕ) (depth : ℕ) (own : Bool) (part : List ℕ) → 0 < depth → BeginsSomeScope part → Tells true (GoesOn (p.Header ws depth own) part)
scope_tells ws depth own part opened h = (
  λ e. on (p.Header ws depth own) _ (i.Scope h.0 h.1.name) part (step_scope ws ws depth _ own true h.0 h.1.name refl opened refl refl h.1.named) h.1.begins,
  λ g. refl,
)

-- the variable whose line a text begins
abbrev variable_of : (number : ℕ) (part : List ℕ) → BeginsVariable number part → PlainVariable
variable_of number part h = record { kind = h.kind; width = h.width; name = h.name; range = h.range }

-- what goes on in the declarations
abbrev IsOneOf : List ℕ → Bool → ℕ → Type 0
IsOneOf part own number = Begins part (codes "$upscope $end") ⊎ (BeginsSomeScope part ⊎ ((own ≡ true) × BeginsVariable number part))

declaration_by : (ws : List ℕ) (depth : ℕ) (own : Bool) (part rest : List ℕ) (x : Item) (next : Place) → 0 < depth → Step (p.Header ws depth own) x next
    → part ++ rest ≡ line_of x → IsOneOf part own (length ws)
declaration_by ws _ own part rest _ _ opened (s.upscope _ above _) is = inl (rest, sym is)
declaration_by ws _ own part rest _ _ opened (s.scope _ above _ kind name named) is =
    inr (inl (kind, record { name = name; named = named; begins = (rest, sym is) }))
declaration_by ws _ _ part rest _ _ opened (s.variable _ above v good) is =
    inr
    (inr (
      refl,
      record {
        kind = v.kind;
        width = v.width;
        name = v.name;
        range = v.range;
        some = good.some;
        most = good.most;
        named = good.named;
        ranged = good.ranged;
        begins = (rest, sym is);
      },
    ))
declaration_by ws _ own part rest _ _ opened (s.definitions _ _) is = absurd (omega (arith, opened))

declaration_is : (ws : List ℕ) (depth : ℕ) (own : Bool) (part : List ℕ) → 0 < depth → GoesOn (p.Header ws depth own) part → IsOneOf part own (length ws)
declaration_is ws depth own part opened (inl none) = inl (begins_nil part (codes "$upscope $end") none)
declaration_is ws depth own part opened (inr h) = declaration_by ws depth own part h.rest h.follows.item h.follows.next opened h.follows.step h.follows.is

pub variable_tells : (ws : List ℕ) (depth number : ℕ) (own b : Bool) (part : List ℕ) → 0 < depth → length ws ≡ number → (Begins part (codes "$upscope $end") → ⊥)
    → (BeginsSomeScope part → ⊥) → own ≡ true → Tells b (BeginsVariable number part) → Tells b (GoesOn (p.Header ws depth own) part)
variable_tells ws depth number own b part opened sized no_end no_scope may tells = (
  λ e.
      let h = subst (λ n. BeginsVariable n part) (sym sized) (tells.0 e) in
      let v = variable_of (length ws) part h in
      let good : IsPlainVariable v = record { named = h.named; some = h.some; most = h.most; ranged = h.ranged } in
      on (p.Header ws depth own) _ (i.Variable v (length ws)) part
      (step_variable ws (ws ++ v.width ∷ []) depth depth own own v refl opened refl may refl good) h.begins,
  λ g. elim (declaration_is ws depth own part opened g) [
    | inl ends ↦ absurd (no_end ends)
    | inr other ↦ elim other [
      | inl scope ↦ absurd (no_scope scope)
      | inr v ↦ tells.1 (subst (λ n. BeginsVariable n part) sized v.1)
    ]
  ],
)

pub no_variable_tells : (ws : List ℕ) (depth : ℕ) (own : Bool) (part : List ℕ) → 0 < depth → (Begins part (codes "$upscope $end") → ⊥) → (BeginsSomeScope part → ⊥)
    → own ≡ false → Tells own (GoesOn (p.Header ws depth own) part)
no_variable_tells ws depth own part opened no_end no_scope outside = (
  λ e. absurd (false≢true (sym outside ∙ e)),
  λ g. absurd
      (elim (declaration_is ws depth own part opened g) [
        | inl ends ↦ no_end ends
        | inr other ↦ elim other [ inl scope ↦ no_scope scope | inr v ↦ false≢true (sym outside ∙ v.0) ]
      ]),
)

-- ---- values

none_some : {A : Type 0} (x : A) → None ≡ Some x → ⊥
none_some x e = absurd cc

value_step_by : (ws : List ℕ) (vs : List (List Digit)) (number : ℕ) (part rest : List ℕ) (x : Item) (next : Place) → number < length ws → length vs ≡ number
    → Step (p.Values ws vs) x next → part ++ rest ≡ line_of x → BeginsChange number (get_or ws number 0) None part
value_step_by ws vs number part rest _ _ within size (s.value _ _ c numbered sized) is =
    let same : c.number ≡ number = numbered ∙ size in
    record {
      change = c;
      numbered = same;
      wide = sym (get_or_from_slice_get ws c.number (length c.value) 0 sized) ∙ ap (λ n. get_or ws n 0) same;
      other = λ o e. absurd (none_some o e);
      begins = (rest, sym is);
    }
value_step_by ws vs number part rest _ _ within size (s.end _ _ full) is = absurd (omega (arith, within, size, full))

value_begins : (ws : List ℕ) (vs : List (List Digit)) (number : ℕ) (part : List ℕ) → number < length ws → length vs ≡ number → GoesOn (p.Values ws vs) part
    → BeginsChange number (get_or ws number 0) None part
value_begins ws vs number part within size (inl none) = record {
  change = record { number = number; value = replicate (get_or ws number 0) X };
  numbered = refl;
  wide = length-replicated (get_or ws number 0);
  other = λ o e. absurd (none_some o e);
  begins = begins_nil part _ none;
}
value_begins ws vs number part within size (inr h) =
    value_step_by ws vs number part h.rest h.follows.item h.follows.next within size h.follows.step h.follows.is

-- a value of the size of its variable
sized_by : (ws : List ℕ) (number : ℕ) (c : ValueChange) → number < length ws → c.number ≡ number → length c.value ≡ get_or ws number 0 → IsSized ws c
sized_by ws number c within numbered wide =
    ap (slice_get ws) numbered ∙ slice_get-get_or ws number 0 within ∙ ap Some (sym wide)

pub value_tells : (ws : List ℕ) (vs : List (List Digit)) (number width : ℕ) (b : Bool) (part : List ℕ) → number < length ws → length vs ≡ number
    → width ≡ get_or ws number 0 → Tells b (BeginsChange number width None part) → Tells b (GoesOn (p.Values ws vs) part)
value_tells ws vs number width b part within size is tells = (
  λ e.
      let h = tells.0 e in
      on (p.Values ws vs) _ (i.Change h.change) part
      (s.value ws vs h.change (h.numbered ∙ sym size) (sized_by ws number h.change within h.numbered (h.wide ∙ is))) h.begins,
  λ g. tells.1 (subst (λ w. BeginsChange number w None part) (sym is) (value_begins ws vs number part within size g)),
)

-- ---- changes

-- no change of the variables from one number to another goes on
abbrev pub AreNone : List ℕ → List (List Digit) → List ℕ → ℕ → ℕ → Type 0
AreNone ws vs part from number =
    (n : ℕ) (v : List Digit) → from ≤ n → n < number → slice_get vs n ≡ Some v → BeginsChange n (get_or ws n 0) (Some v) part → ⊥

pub none_yet : (ws : List ℕ) (vs : List (List Digit)) (part : List ℕ) (from : ℕ) → AreNone ws vs part from from
none_yet ws vs part from n v least most before h = omega (arith, least, most)

pub none_more : (ws : List ℕ) (vs : List (List Digit)) (part : List ℕ) (from number width : ℕ) (old : List Digit) → AreNone ws vs part from number
    → slice_get vs number ≡ Some old → width ≡ get_or ws number 0 → (BeginsChange number width (Some old) part → ⊥) → AreNone ws vs part from (number + 1)
none_more ws vs part from number width old none before is other n v least most at h =
    elim (cases_lt n number) [
      | inl less ↦ none n v least less at h
      | inr more ↦
          let same : n ≡ number = omega (arith, most, more) in
          let olds : Some v ≡ Some old = sym at ∙ ap (slice_get vs) same ∙ before in
          other
          (subst (λ o. BeginsChange number width o part) olds
          (subst (λ w. BeginsChange number w (Some v) part) (sym is) (subst (λ k. BeginsChange k (get_or ws k 0) (Some v) part) same h)))
    ]

pub change_found : (ws : List ℕ) (vs : List (List Digit)) (last from number width : ℕ) (bare : Bool) (old : List Digit) (part : List ℕ) → from ≤ number
    → number < length ws → slice_get vs number ≡ Some old → width ≡ get_or ws number 0 → BeginsChange number width (Some old) part
    → Tells true (GoesOn (p.Later ws vs last from bare) part)
change_found ws vs last from number width bare old part least within before is h =
    let sized = sized_by ws number h.change within h.numbered (h.wide ∙ is) in
    let step = s.change ws vs last from bare h.change (subst (λ n. from ≤ n) (sym h.numbered) least)
    (record {
      old = old;
      sized = sized;
      before = ap (slice_get vs) h.numbered ∙ before;
      differs = h.other old refl;
    }) in
    (λ e. on (p.Later ws vs last from bare) _ (i.Change h.change) part step h.begins, λ g. refl)

none_by : (ws : List ℕ) (vs : List (List Digit)) (last from number : ℕ) (bare : Bool) (part rest : List ℕ) (x : Item) (next : Place) → length ws ≤ number
    → AreNone ws vs part from number → (part ≡ [] → ⊥) → (IsAtTime part → ⊥) → Step (p.Later ws vs last from bare) x next → part ++ rest ≡ line_of x → ⊥
none_by ws vs last from number _ [] rest _ _ all none some away (s.time _ _ _ _ time after small) is = some refl
none_by ws vs last from number _ (b ∷ bs) rest _ _ all none some away (s.time _ _ _ _ time after small) is =
    away (inr (bs, ap (λ x. x ∷ bs) (ap (λ l. get_or l 0 0) is)))
none_by ws vs last from number bare part rest _ _ all none some away (s.change _ _ _ _ _ c least h) is =
    let within = slice_get_within ws c.number (length c.value) h.sized in
    none c.number h.old least (omega (arith, within, all)) h.before
    (record {
      change = c;
      numbered = refl;
      wide = sym (get_or_from_slice_get ws c.number (length c.value) 0 h.sized);
      other = λ o e same. h.differs (let olds : h.old ≡ o = cc in same ∙ sym olds);
      begins = (rest, sym is);
    })

none_on : (ws : List ℕ) (vs : List (List Digit)) (last from number : ℕ) (bare : Bool) (part : List ℕ) → length ws ≤ number → AreNone ws vs part from number
    → (IsAtTime part → ⊥) → GoesOn (p.Later ws vs last from bare) part → ⊥
none_on ws vs last from number bare part all none away (inl nil) = away (inl nil)
none_on ws vs last from number bare part all none away (inr h) =
    none_by ws vs last from number bare part h.rest h.follows.item h.follows.next all none (λ nil. away (inl nil)) away h.follows.step h.follows.is

pub change_lacking : (ws : List ℕ) (vs : List (List Digit)) (last from number : ℕ) (bare : Bool) (part : List ℕ) → length ws ≤ number → AreNone ws vs part from number
    → (IsAtTime part → ⊥) → Tells false (GoesOn (p.Later ws vs last from bare) part)
change_lacking ws vs last from number bare part all none away =
    (λ e. absurd (false≢true e), λ g. absurd (none_on ws vs last from number bare part all none away g))
