-- Statements that are sure to change a bit of a variable that a control names.
use Rattle.std.proofs.Common.{◌≡◌, ◌↔◌, ◌==◌, ℕ, suc, ◌+◌, ◌<◌, ◌≤◌, ◌⊎◌, Bool, true, false, IsTrue, Option, Some, None, List, [], ◌∷◌, length, get_or, slice_get, nat_lt, refl, sym, ◌∙◌, ap, subst, inl, inr, arith, pos, neg_ℤ, ◌+ℤ◌, if◌then◌else◌, eqb-true, lt-ltb, ltb-true}
use Rattle.std.proofs.lemmas.Bool.{cases_lt, cases_Bool, true≢false}
use Rattle.std.proofs.lemmas.Option.{none-some, same_Some, slice_get-get_or, slice_get_within, slice_get_past}
use Rattle.vs_design.specs.vs_logic4.specs.declared.digit.Digit.{Digit}
use Rattle.vs_design.specs.vs_logic4.specs.declared.digit.Digit.TheVariants as dg
use Rattle.vs_design.specs.vs_logic4.specs.Parts.{selected}
use Rattle.vs_design.specs.declared.design.Process.{Process}
use Rattle.vs_design.specs.declared.expression.Typed.{Typed}
use Rattle.vs_design.specs.declared.range.BitRange.{BitRange}
use Rattle.vs_design.specs.declared.signal.Signal.{Signal}
use Rattle.vs_design.specs.declared.statement.Aim.{Aim}
use Rattle.vs_design.specs.declared.statement.Aim.TheVariants.{Fixed, Chosen}
use Rattle.vs_design.specs.declared.statement.Statement.{Statement}
use Rattle.vs_design.specs.declared.statement.Statement.TheOpen.{Statement-F}
use Rattle.vs_design.specs.declared.statement.Statement.TheViews.{out-Statement}
use Rattle.vs_design.specs.declared.statement.Target.{Target}
use Rattle.vs_design.specs.Parts.{Parts}
use Rattle.vs_design.specs.Uses.{aim_range, is_of, reads}
use Rattle.vs_design.specs.WellFormed.{aim_width}
use Rattle.vs_eval.specs.Values.{target_value}
use Rattle.vs_rules_of_starts.specs.vs_process.specs.Places.{perform, turns, Todo}
use Rattle.vs_rules_of_starts.specs.vs_process.specs.Stops.{Stop, next_statement, stop_at, stop_statement, IsText}
use Rattle.vs_rules.specs.vs_process.specs.Bits.{HasBit}
use Rattle.vs_rules.specs.vs_process.proofs.ThreadLists.{contains_at, place_of}
use Rattle.vs_rules.specs.Paths.{Bit, IsBit, WritesAny}
use Rattle.vs_rules.specs.Constants.{GivesDigit, IsKnown, given, is_nothing, places_give, place_gives, any_aims}
use Rattle.vs_rules.specs.Constants as k
use Rattle.vs_rules.specs.Blocks.{Begins, statement_update, todo_update}
use Rattle.vs_drivers.specs.vs_maps.specs.declared.along.Along.TheVariants.{ZeroTime}
use Rattle.vs_drivers.specs.vs_maps.specs.Reaches.{Chart, InSlot0}
use Rattle.vs_drivers.specs.vs_maps.proofs.EachWalk.{writes_now_at, writes_later_at}
use Rattle.vs_drivers.specs.vs_maps.proofs.Texts.{from_on, from_back}
use Rattle.vs_rules_of_starts.specs.Missing.{IsSure}
use Rattle.vs_rules_of_starts.specs.Beginnings.{IsNamed, HasAt, AnyHas, IsKnownOne, GivesBit, GivesInWord, GivesAim, GivesNamed, BeginsLayer, BeginsBy, BeginsAt, WritesAt, StartsSurely, AreNamed}
use Rattle.vs_rules_of_starts.specs.Started.{StartsFor}
use Rattle.vs_rules_of_starts.proofs.MissingLemmas.{sure_ends, same_missing}
use Rattle.vs_rules_of_starts.proofs.StartLemmas.{false_not, true_here}

-- ---- searches

-- none of the first so many elements of a list passes
abbrev pub NoneBelow : {A : Type 0} → (A → Type 0) → List A → ℕ → Type 0
NoneBelow {A} P xs n = (k : ℕ) (x : A) → k < n → slice_get xs k ≡ Some x → P x → ⊥

pub none_more : {A : Type 0} (P : A → Type 0) (xs : List A) (i : ℕ) (x : A) → slice_get xs i ≡ Some x → NoneBelow P xs i → (P x → ⊥) → NoneBelow P xs (i + 1)
none_more P xs i x is before here k y lt at p = elim (cases_lt k i) [
  | inl below ↦ before k y below at p
  | inr above ↦
      let e : k ≡ i = omega (arith, lt, above) in
      here (subst P (same_Some y x (sym at ∙ ap (slice_get xs) e ∙ is)) p)
]

pub no_range : (named : List BitRange) (n : ℕ) (b : Bit) → length named ≤ n → NoneBelow (λ r. HasAt r b) named n → (IsTrue false ↔ AnyHas named b)
no_range named n b past none = (
  λ t. absurd (false_not t),
  λ h. let at = place_of named h.0 h.1 in
      let lt : at.0 < length named = slice_get_within named at.0 h.0 at.1 in
      absurd (none at.0 h.0 (omega (arith, lt, past)) at.1 h.2),
)

pub one_range : (named : List BitRange) (i : ℕ) (r : BitRange) (b : Bit) → slice_get named i ≡ Some r → HasAt r b → (IsTrue true ↔ AnyHas named b)
one_range named i r b is h = (λ t. (r, contains_at named i r is, h), λ x. true_here)

-- an element that a loop is at
pub at_index : {A : Type 0} (xs : List A) (i : ℕ) (d : A) → i < length xs → slice_get xs i ≡ Some (get_or xs i d)
at_index xs i d lt = slice_get-get_or xs i d lt

-- ---- bits

pub word_there : (d : Parts) (v w n : ℕ) (s : Signal) → slice_get d.signals v ≡ Some s → nat_lt w s.count ≡ true → (IsTrue (nat_lt n s.width) ↔ HasBit d v w n)
word_there d v w n s is word = (
  λ t. record { signal = s; is = is; word = ltb-true w s.count word; place = grind (arith, t) },
  λ h. let same : h.signal ≡ s = same_Some h.signal s (sym h.is ∙ is) in
      let lt : n < s.width = subst (λ (x : Signal). n < x.width) same h.place in
      subst IsTrue (sym (lt-ltb n s.width lt)) true_here,
)

pub word_not : (d : Parts) (v w n : ℕ) (s : Signal) → slice_get d.signals v ≡ Some s → nat_lt w s.count ≡ false → (IsTrue (nat_lt w s.count) ↔ HasBit d v w n)
word_not d v w n s is word = (
  λ t. absurd (false_not (subst IsTrue word t)),
  λ h. let same : h.signal ≡ s = same_Some h.signal s (sym h.is ∙ is) in
      let lt : w < s.count = subst (λ (x : Signal). w < x.count) same h.word in
      absurd (true≢false (sym (lt-ltb w s.count lt) ∙ word)),
)

pub no_bit : (d : Parts) (v w n : ℕ) → length d.signals ≤ v → (IsTrue false ↔ HasBit d v w n)
no_bit d v w n past = (λ t. absurd (false_not t), λ h. absurd (none-some h.signal (sym (slice_get_past d.signals v past) ∙ h.is)))

-- ---- known digits

pub known_digit : (digit : Option Digit) (x : Digit) → digit ≡ Some x → (t : Bool) → (IsTrue t ↔ IsKnown x) → (IsTrue t ↔ IsKnownOne digit)
known_digit digit x is t told = (λ h. (x, is, told.0 h), λ k. told.1 (subst IsKnown (sym (same_Some x k.0 (sym is ∙ k.1))) k.2))

known_cases : (x : Digit) → IsKnown x → (x ≡ dg.Zero) ⊎ (x ≡ dg.One)
known_cases _ IsKnown.zero = inl refl
known_cases _ IsKnown.one = inr refl

pub known_zero : (x : Digit) → x ≡ dg.Zero → (IsTrue true ↔ IsKnown x)
known_zero x is = (λ t. subst IsKnown (sym is) IsKnown.zero, λ k. true_here)

pub known_one : (x : Digit) → x ≡ dg.One → (IsTrue true ↔ IsKnown x)
known_one x is = (λ t. subst IsKnown (sym is) IsKnown.one, λ k. true_here)

pub unknown_x : (x : Digit) → x ≡ dg.X → (IsTrue false ↔ IsKnown x)
unknown_x x is = (λ t. absurd (false_not t), λ k. elim (known_cases x k) [ inl e ↦ absurd (let f : dg.X ≡ dg.Zero = sym is ∙ e in cc) | inr e ↦ absurd (let f : dg.X ≡ dg.One = sym is ∙ e in cc) ])

pub unknown_z : (x : Digit) → x ≡ dg.Z → (IsTrue false ↔ IsKnown x)
unknown_z x is = (λ t. absurd (false_not t), λ k. elim (known_cases x k) [ inl e ↦ absurd (let f : dg.Z ≡ dg.Zero = sym is ∙ e in cc) | inr e ↦ absurd (let f : dg.Z ≡ dg.One = sym is ∙ e in cc) ])

-- ---- words and places

-- of the lowest bits of a word
pub no_place : (d : Parts) (named : List BitRange) (target : Target) (value : Typed) (g word width n : ℕ) → width ≤ n →
    ((k : ℕ) → k < n → GivesBit d named target value (record { signal = g; word = word; place = k }) → ⊥) → (IsTrue false ↔ GivesInWord d named target value g word width)
no_place d named target value g word width n past none = (λ t. absurd (false_not t), λ h. let lt = h.1 in absurd (none h.0 (omega (arith, lt, past)) h.2))

-- the place that gives a bit a digit is constant bits of its word
fixed_gives : (a : Aim) (digits : List Digit) (b : Bit) (x : Digit) → place_gives a digits b ≡ Some x → Rattle.vs_design.specs.Uses.is_of b.signal (aim_range a) ≡ true →
    (s : Rattle.vs_design.specs.declared.expression.Slice.Slice) × (a ≡ Fixed s) × (s.signal ≡ b.signal) × (s.word ≡ b.word)
fixed_gives (Chosen s word low) digits b x h of = absurd (none-some x h)
fixed_gives (Fixed s) digits b x h of = (s, refl, eqb-true s.signal b.signal of, by_word (cases_Bool (s.word == b.word)))
  where
    by_word : ((s.word == b.word) ≡ true) ⊎ ((s.word == b.word) ≡ false) → s.word ≡ b.word
    by_word (inl e) = eqb-true s.word b.word e
    by_word (inr e) = absurd (none-some x (sym (ap (λ (t : Bool). if t then k.digit_there (neg_ℤ s.low +ℤ pos b.place) digits else None) e) ∙ h))

record IsGiving (aims : List Aim) (b : Bit) : Type 0 where
  slice : Rattle.vs_design.specs.declared.expression.Slice.Slice
  place : ℕ
  is : slice_get aims place ≡ Some (Fixed slice)
  signal : slice.signal ≡ b.signal
  word : slice.word ≡ b.word

giving : (aims : List Aim) (from : ℕ) (digits : List Digit) (b : Bit) (x : Digit) → places_give from aims digits b ≡ Some x → IsGiving aims b
giving [] from digits b x h = absurd (none-some x h)
giving (a ∷ aims) from digits b x h = by_of (λ e. giving aims (from + aim_width a) digits b x e) (cases_Bool (is_of b.signal (aim_range a)))
  where
    whole : Bool → Option Digit
    whole t = if t then (if any_aims b.signal aims then None else place_gives a (selected (pos from) (aim_width a) digits) b) else places_give (from + aim_width a) aims digits b

    by_rest : is_of b.signal (aim_range a) ≡ true → (t : Bool) → (if t then None else place_gives a (selected (pos from) (aim_width a) digits) b) ≡ Some x → IsGiving (a ∷ aims) b
    by_rest of true e = absurd (none-some x e)
    by_rest of false e =
        let f = fixed_gives a (selected (pos from) (aim_width a) digits) b x e of in
        record { slice = f.0; place = 0; is = ap (λ z. Some z) f.1; signal = f.2; word = f.3 }

    by_of : (places_give (from + aim_width a) aims digits b ≡ Some x → IsGiving aims b) → ((is_of b.signal (aim_range a) ≡ true) ⊎ (is_of b.signal (aim_range a) ≡ false)) → IsGiving (a ∷ aims) b
    by_of further (inl of) =
        by_rest of (any_aims b.signal aims)
        (sym (ap (λ (t : Bool). if t then (if any_aims b.signal aims then None else place_gives a (selected (pos from) (aim_width a) digits) b) else places_give (from + aim_width a) aims digits b) of) ∙ h)
    by_of further (inr not) =
        let g = further (sym (ap (λ (t : Bool). if t then (if any_aims b.signal aims then None else place_gives a (selected (pos from) (aim_width a) digits) b) else places_give (from + aim_width a) aims digits b) not) ∙ h) in
        record { slice = g.slice; place = suc g.place; is = g.is; signal = g.signal; word = g.word }

given_by_one : (target : Target) (value : Typed) (b : Bit) (x : Digit) → given target value b ≡ Some x → IsGiving target.parts.items b
given_by_one target value b x h = by_test (is_nothing (reads value)) refl
  where
    by_test : (t : Bool) → is_nothing (reads value) ≡ t → IsGiving target.parts.items b
    by_test true e =
        giving target.parts.items 0 (target_value target value [] 0) b x
        (sym (ap (λ (t : Bool). if t then places_give 0 target.parts.items (target_value target value [] 0) b else None) e) ∙ h)
    by_test false e = absurd (none-some x (sym (ap (λ (t : Bool). if t then places_give 0 target.parts.items (target_value target value [] 0) b else None) e) ∙ h))

named_bit : (d : Parts) (named : List BitRange) (g : ℕ) (b : Bit) → IsNamed d named g b → AnyHas named b
named_bit d named g b h = (h.range, h.listed, h.has)

-- one of the places
pub one_aim : (d : Parts) (named : List BitRange) (g width : ℕ) (target : Target) (value : Typed) (a : Aim) → GivesAim d named target value g width a → GivesNamed d named g target value
one_aim d named g width target value (Chosen s word low) h = absurd h
one_aim d named g width target value (Fixed s) h =
    let b = h.1 in
    let x = b.2 in
    record {
      bit = record { signal = g; word = s.word; place = b.0 };
      is_named = record { of = refl; is = x.0; range = x.1.0; listed = x.1.1; has = x.1.2 };
      digit = x.2.0;
      known = x.2.2;
      gives = x.2.1;
    }

-- all of them
pub no_aim : (d : Parts) (named : List BitRange) (g : ℕ) (signal : Signal) (target : Target) (value : Typed) (n : ℕ) → slice_get d.signals g ≡ Some signal → length target.parts.items ≤ n →
    NoneBelow (GivesAim d named target value g signal.width) target.parts.items n → (IsTrue false ↔ GivesNamed d named g target value)
no_aim d named g signal target value n there past none = (
  λ t. absurd (false_not t),
  λ h.
      let y = given_by_one target value h.bit h.digit h.gives in
      let within : y.place < length target.parts.items = slice_get_within target.parts.items y.place (Fixed y.slice) y.is in
      let bit = h.is_named.is in
      let same : bit.signal ≡ signal = same_Some bit.signal signal (sym bit.is ∙ ap (slice_get d.signals) h.is_named.of ∙ there) in
      let lt : h.bit.place < signal.width = subst (λ (s : Signal). h.bit.place < s.width) same bit.place in
      let here : GivesBit d named target value h.bit = (bit, named_bit d named g h.bit h.is_named, (h.digit, h.gives, h.known)) in
      absurd (none y.place (Fixed y.slice) (omega (arith, within, past)) y.is (
        y.signal ∙ h.is_named.of,
        (
          h.bit.place,
          lt,
          subst (λ (v : ℕ). GivesBit d named target value (record { signal = v; word = y.slice.word; place = h.bit.place })) h.is_named.of
              (subst (λ (w : ℕ). GivesBit d named target value (record { signal = h.bit.signal; word = w; place = h.bit.place })) (sym y.word) here),
        ),
      )),
)

pub no_variable : (d : Parts) (named : List BitRange) (g : ℕ) (target : Target) (value : Typed) → length d.signals ≤ g → (IsTrue false ↔ GivesNamed d named g target value)
no_variable d named g target value past = (
  λ t. absurd (false_not t),
  λ h. absurd (none-some h.is_named.is.signal (sym (slice_get_past d.signals g past) ∙ ap (slice_get d.signals) (sym h.is_named.of) ∙ h.is_named.is.is)),
)

-- ---- by points

update_of : Option Statement → Option (ℕ × Target × Typed)
update_of None = None
update_of (Some s) = statement_update (out-Statement s)

update_told : (k : Todo) → todo_update k ≡ update_of (next_statement k)
unfolding update_of
update_told [] = refl
update_told (perform s ∷ rest) = refl
update_told (turns n s ∷ rest) = refl

record IsUpdate (d : Parts) (named : List BitRange) (g : ℕ) (update : Option (ℕ × Target × Typed)) : Type 0 where
  target : Target
  value : Typed
  is : update ≡ Some (0, target, value)
  gives : GivesNamed d named g target value

layer_update : (d : Parts) (named : List BitRange) (g : ℕ) (f : Statement-F Statement) → BeginsLayer d named g f → IsUpdate d named g (statement_update f)
layer_update d named g (Statement-F.Later n ticks target value) h = record { target = target; value = value; is = ap (λ (x : ℕ). Some (x, target, value)) h.0; gives = h.1 }
layer_update d named g _ h = absurd h

update_layer : (d : Parts) (named : List BitRange) (g : ℕ) (f : Statement-F Statement) → IsUpdate d named g (statement_update f) → BeginsLayer d named g f
update_layer d named g (Statement-F.Later n ticks target value) u =
    let e = same_Some (ticks.count, target, value) (0, u.target, u.value) u.is in (
      ap (λ (x : ℕ × Target × Typed). x.0) e,
      subst (λ (x : Target). GivesNamed d named g x value) (sym (ap (λ (x : ℕ × Target × Typed). x.1) e)) (subst (λ (x : Typed). GivesNamed d named g u.target x) (sym (ap (λ (x : ℕ × Target × Typed). x.2) e)) u.gives),
    )
update_layer d named g _ u = absurd (none-some (0, u.target, u.value) u.is)

by_statement : (d : Parts) (named : List BitRange) (g : ℕ) (o : Option Statement) → (BeginsBy d named g o ↔ IsUpdate d named g (update_of o))
unfolding update_of
by_statement d named g None = (λ h. absurd h, λ u. absurd (none-some (0, u.target, u.value) u.is))
by_statement d named g (Some s) = (layer_update d named g (out-Statement s), update_layer d named g (out-Statement s))

-- at a place of a map, as at its point
pub begins_here : (d : Parts) (i g : ℕ) (named : List BitRange) → AreNamed d i g named → (body : Statement) (stops : List Stop) (start : ℕ) (t : IsText body stops start) (p : ℕ) →
    (BeginsAt d named g (record { stops = stops; start = start }) p ↔ Begins d i g (t.at p))
begins_here d i g named are body stops start t p = (there, back)
  where
    same : update_of (stop_statement (stop_at stops p)) ≡ todo_update (t.at p)
    same = ap update_of (sym (t.says p)) ∙ sym (update_told (t.at p))

    there : BeginsAt d named g (record { stops = stops; start = start }) p → Begins d i g (t.at p)
    there h =
        let u = (by_statement d named g (stop_statement (stop_at stops p))).0 h in
        let n = u.gives.is_named in
        let listed = (are n.range).0 n.listed in
        record {
          target = u.target;
          value = u.value;
          is = sym same ∙ u.is;
          bit = u.gives.bit;
          named = record { range = n.range; names = listed.0; copies = listed.1; of = n.of; is = n.is; has = n.has };
          digit = u.gives.digit;
          known = u.gives.known;
          gives = u.gives.gives;
        }

    back : Begins d i g (t.at p) → BeginsAt d named g (record { stops = stops; start = start }) p
    back h =
        (by_statement d named g (stop_statement (stop_at stops p))).1 (record {
          target = h.target;
          value = h.value;
          is = same ∙ h.is;
          gives = record {
            bit = h.bit;
            is_named = record { of = h.named.of; is = h.named.is; range = h.named.range; listed = (are h.named.range).1 (h.named.names, h.named.copies); has = h.named.has };
            digit = h.digit;
            known = h.known;
            gives = h.gives;
          };
        })

-- ---- of a process

pub starts_for : (d : Parts) (i g w : ℕ) (named : List BitRange) → AreNamed d i g named → (q : Process) (stops : List Stop) (start : ℕ) → IsText q.body stops start → slice_get d.processes w ≡ Some q →
    (StartsSurely d named g (record { stops = stops; start = start }) ↔ StartsFor d i g w)
starts_for d i g w named are q stops start t is = (there, back)
  where
    begins : (p : ℕ) → (BeginsAt d named g (record { stops = stops; start = start }) p ↔ Begins d i g (t.at p))
    begins = begins_here d i g named are q.body stops start t

    writes : (p : ℕ) → WritesAny d (t.at p) g → WritesAt (record { stops = stops; start = start }) g p
    writes p (inl x) = inl ((writes_now_at d q stops start t g p).1 x)
    writes p (inr x) = inr ((writes_later_at d q stops start t g p).1 x)

    written : (p : ℕ) → WritesAt (record { stops = stops; start = start }) g p → WritesAny d (t.at p) g
    written p (inl x) = inl ((writes_now_at d q stops start t g p).0 x)
    written p (inr x) = inr ((writes_later_at d q stops start t g p).0 x)

    there : StartsSurely d named g (record { stops = stops; start = start }) → StartsFor d i g w
    there s = record {
      only = λ k early any.
          let y = from_on d w q stops start t is (ZeroTime false) k early in
          subst (Begins d i g) y.2 ((begins y.0).0 (s.only y.0 y.1 (writes y.0 (subst (λ (x : Todo). WritesAny d x g) (sym y.2) any))));
      ends = (sure_ends d w i g q stops start t is).0 (λ p m. s.sure p (same_missing _ _ _ (λ p x. (begins p).0 x) p m));
    }

    back : StartsFor d i g w → StartsSurely d named g (record { stops = stops; start = start })
    back s = record {
      only = λ p early any. (begins p).1 (s.only (t.at p) (from_back d w q stops start t is (ZeroTime false) p early) (written p any));
      sure = λ p m. (sure_ends d w i g q stops start t is).1 s.ends p (same_missing _ _ _ (λ p x. (begins p).1 x) p m);
    }

-- ---- as it is told

pub not_told : (f : Bool) (P : Type 0) → f ≡ false → (IsTrue f ↔ P) → P → ⊥
not_told f P is told p = false_not (subst IsTrue is (told.1 p))

pub gives_is : (d : Parts) (named : List BitRange) (target : Target) (value : Typed) (b : Bit) → IsBit d b → AnyHas named b → (digit : Option Digit) → digit ≡ given target value b →
    (t : Bool) → (IsTrue t ↔ IsKnownOne digit) → (IsTrue t ↔ GivesBit d named target value b)
gives_is d named target value b there any digit is t told = (λ h. (there, any, subst IsKnownOne is (told.0 h)), λ h. told.1 (subst IsKnownOne (sym is) h.2))

pub asked : (P Q R : Type 0) → P → Q → (t : Bool) → (IsTrue t ↔ R) → (IsTrue t ↔ (P → Q → R))
asked P Q R p q t told = (λ h x y. told.0 h, λ f. told.1 (f p q))

pub surely_is : (d : Parts) (named : List BitRange) (g : ℕ) (t : Chart) → ((p : ℕ) → InSlot0 false t p → p < Rattle.vs_drivers.specs.vs_maps.specs.Reaches.places t) → IsSure t (BeginsAt d named g t) → (n : ℕ) → n ≡ Rattle.vs_drivers.specs.vs_maps.specs.Reaches.places t →
    (b : Bool) → (IsTrue b ↔ ((p : ℕ) → p < n → InSlot0 false t p → WritesAt t g p → BeginsAt d named g t p)) → (IsTrue b ↔ StartsSurely d named g t)
surely_is d named g t below sure n is b told = (
  λ h. record { only = λ p early any. told.0 h p (subst (λ (m : ℕ). p < m) (sym is) (below p early)) early any; sure = sure },
  λ s. told.1 (λ p lt early any. s.only p early any),
)

pub surely_not : (d : Parts) (named : List BitRange) (g : ℕ) (t : Chart) → (IsSure t (BeginsAt d named g t) → ⊥) → (IsTrue false ↔ StartsSurely d named g t)
surely_not d named g t never = (λ h. absurd (false_not h), λ s. absurd (never s.sure))
