-- Lemmas on what continuous assignments drive.
use Rattle.std.proofs.Common.{◌≡◌, ℕ, zero, suc, ◌+◌, ◌-◌, ◌==◌, ◌<◌, ◌≤◌, ◌&&◌, ◌||◌, ◌++◌, Bool, true, false, if◌then◌else◌, ℤ, pos, negsuc, ◌+ℤ◌, neg_ℤ, nat_le, nat_lt, Some, List, [], ◌∷◌, length, map, take, replicate, slice_get, refl, sym, ◌∙◌, ap, ap₂, subst, ⊎_elim, arith}
use Rattle.std.specs.Prelude.{slice_index_or}
use Rattle.std.specs.List.{list_any}
use Rattle.std.proofs.Math.Bool.{or-true, or-false, or_assoc}
use Rattle.std.proofs.lemmas.Bool.{cases_lt, lt-ltb, le-ltb}
use Rattle.std.proofs.lemmas.Bool.Decides.{eqb_tells, nat_tests}
use Rattle.std.proofs.lemmas.List.{get_or-replicate, get_or_past, length-replicate}
use Rattle.std.proofs.lemmas.Option.{none-some, same_Some}
use Rattle.std.proofs.lemmas.Int.{ints}
use Rattle.vs_logic4.specs.declared.digit.Digit.{Digit}
use Rattle.vs_logic4.specs.declared.digit.Digit.TheVariants.{X, Z}
use Rattle.vs_logic4.specs.Lengths.{length-with_part}
use Rattle.vs_logic4.specs.Parts.{digit_at, replaced_from}
use Rattle.vs_logic4.specs.Vectors.{all_unknown, all_high_impedance}
use Rattle.vs_design.specs.declared.design.Assign.{Assign}
use Rattle.vs_design.specs.declared.signal.Signal.{Signal}
use Rattle.vs_design.specs.declared.signal.SignalKind.{SignalKind}
use Rattle.vs_design.specs.declared.signal.SignalKind.TheVariants.{Wire, Reg, Integer}
use Rattle.vs_design.specs.declared.statement.Aim.{Aim}
use Rattle.vs_design.specs.declared.statement.Aim.TheVariants.{Fixed, Chosen}
use Rattle.vs_design.specs.Drivers.{undriven_word, driven_word, driven_at, driven_by, all_driven, in_copies}
use Rattle.vs_design.specs.Stores.{changed_at, overlaid, start_digit, start_digits, start_word, start_words, drives_bit}
use Rattle.vs_design.specs.Uses.{aim_range, bits_from, has_bit, has_word, covers, writes, is_of}
use Rattle.vs_logic4.proofs.Basics.{same_self as same_signal}

-- ---- digits at the start

-- the digits without a driver are alike
pub net_digits : (place n : ℕ) → all_high_impedance n ≡ start_digits (λ k. false) Wire place n
net_digits place zero = refl
net_digits place (suc n) = ap (λ ds. Z ∷ ds) (net_digits (suc place) n)

pub reg_digits : (place n : ℕ) → all_unknown n ≡ start_digits (λ k. false) Reg place n
reg_digits place zero = refl
reg_digits place (suc n) = ap (λ ds. X ∷ ds) (reg_digits (suc place) n)

pub integer_digits : (place n : ℕ) → all_unknown n ≡ start_digits (λ k. false) Integer place n
integer_digits place zero = refl
integer_digits place (suc n) = ap (λ ds. X ∷ ds) (integer_digits (suc place) n)

driven_digit : (kind : SignalKind) → start_digit true kind ≡ X
driven_digit Wire = refl
driven_digit Reg = refl
driven_digit Integer = refl

pub length-start_digits : (f : ℕ → Bool) (kind : SignalKind) (place n : ℕ) → length (start_digits f kind place n) ≡ n
length-start_digits f kind place zero = refl
length-start_digits f kind place (suc n) = ap suc (length-start_digits f kind (suc place) n)

-- driven bits that agree place by place
same_start : (f g : ℕ → Bool) → ((k : ℕ) → f k ≡ g k) → (kind : SignalKind) (place n : ℕ) → start_digits f kind place n ≡ start_digits g kind place n
same_start f g h kind place zero = refl
same_start f g h kind place (suc n) = ap₂ (λ b ds. start_digit b kind ∷ ds) (h place) (same_start f g h kind (suc place) n)

-- x in each bit
all_driven_digits : (f : ℕ → Bool) (kind : SignalKind) (place n : ℕ) → all_unknown n ≡ start_digits (λ k. f k || true) kind place n
all_driven_digits f kind place zero = refl
all_driven_digits f kind place (suc n) =
    ap₂ (λ d ds. d ∷ ds) (sym (driven_digit kind) ∙ ap (λ b. start_digit b kind) (sym (or-true (f place)))) (all_driven_digits f kind (suc place) n)

-- ---- a place of x in a word

-- a digit of an unknown vector
x_within : (n k : ℕ) (d : Digit) → slice_index_or (all_unknown n) k d ≡ (if nat_lt k n then X else d)
x_within n k d =
    ⊎_elim
    (λ below. get_or-replicate n k X d below ∙ ap (λ b. if b then X else d) (sym (lt-ltb k n below)))
    (λ above. get_or_past (all_unknown n) k d (subst (λ m. m ≤ k) (sym (length-replicate n X)) above) ∙ ap (λ b. if b then X else d) (sym (le-ltb k n above)))
    (cases_lt k n)

within_moved : (l k w : ℕ) → l ≤ k → nat_lt (k - l) w ≡ (nat_le l k && nat_lt k (l + w))
within_moved l k w h = grind (arith, nat_tests)

below_moved : (l k w : ℕ) → k < l → (nat_le l k && nat_lt k (l + w)) ≡ false
below_moved l k w h = grind (arith, nat_tests)

within_cut : (b k w : ℕ) → nat_lt (suc b + k) w ≡ (nat_le 0 k && nat_lt k (0 + (w - suc b)))
within_cut b k w = grind (arith, nat_tests)

-- a digit of x laid over a word
x_at : (low : ℤ) (width k : ℕ) (d : Digit) → digit_at (neg_ℤ low +ℤ pos k) (all_unknown width) d ≡ (if has_bit (Some (bits_from low width)) k then X else d)
x_at (pos l) width k d =
    ⊎_elim
    (λ below.
    let place : neg_ℤ (pos l) +ℤ pos k ≡ negsuc (l - suc k) = omega (arith, ints) in
    ap (λ z. digit_at z (all_unknown width) d) place ∙ ap (λ b. if b then X else d) (sym (below_moved l k width below)))
    (λ above.
    let place : neg_ℤ (pos l) +ℤ pos k ≡ pos (k - l) = omega (arith, ints) in
    ap (λ z. digit_at z (all_unknown width) d) place ∙ x_within width (k - l) d ∙ ap (λ b. if b then X else d) (within_moved l k width above))
    (cases_lt k l)
x_at (negsuc b) width k d =
    let place : neg_ℤ (negsuc b) +ℤ pos k ≡ pos (suc b + k) = omega (arith, ints) in
    ap (λ z. digit_at z (all_unknown width) d) place ∙ x_within width (suc b + k) d ∙ ap (λ c. if c then X else d) (within_cut b k width)

picked_digit : (a b : Bool) (kind : SignalKind) → (if b then X else start_digit a kind) ≡ start_digit (a || b) kind
picked_digit a true kind = sym (ap (λ c. start_digit c kind) (or-true a) ∙ driven_digit kind)
picked_digit a false kind = ap (λ c. start_digit c kind) (sym (or-false a))

-- x laid over the start of a word
x_over : (low : ℤ) (width : ℕ) (f : ℕ → Bool) (kind : SignalKind) (z : ℤ) (k n : ℕ) → z ≡ neg_ℤ low +ℤ pos k →
    replaced_from z (all_unknown width) (start_digits f kind k n) ≡ start_digits (λ p. f p || has_bit (Some (bits_from low width)) p) kind k n
x_over low width f kind z k zero h = refl
x_over low width f kind z k (suc n) h =
    let next : z +ℤ pos 1 ≡ neg_ℤ low +ℤ pos (suc k) = omega (arith, ints) in
    ap₂ (λ d ds. d ∷ ds)
    (ap (λ y. digit_at y (all_unknown width) (start_digit (f k) kind)) h
    ∙ x_at low width k (start_digit (f k) kind)
    ∙ picked_digit (f k) (has_bit (Some (bits_from low width)) k) kind)
    (x_over low width f kind (z +ℤ pos 1) (suc k) n next)

-- whether a place of a target has a bit of the word 0 of its signal
abbrev drives_here : Aim → ℕ → Bool
drives_here a place = has_word (aim_range a).word 0 && has_bit (aim_range a).bits place

driven_start : (a : Aim) (f : ℕ → Bool) (kind : SignalKind) (n : ℕ) → driven_word a (start_digits f kind 0 n) ≡ start_digits (λ p. f p || drives_here a p) kind 0 n
driven_start (Fixed s) f kind n =
    ⊎_elim
    (λ same.
    ap (λ b. if b then replaced_from (neg_ℤ s.low) (all_unknown s.width) (start_digits f kind 0 n) else start_digits f kind 0 n) same.0
    ∙ x_over s.low s.width f kind (neg_ℤ s.low) 0 n (omega (arith, ints))
    ∙ ap (λ b. start_digits (λ p. f p || (b && has_bit (Some (bits_from s.low s.width)) p)) kind 0 n) (sym same.0))
    (λ other.
    ap (λ b. if b then replaced_from (neg_ℤ s.low) (all_unknown s.width) (start_digits f kind 0 n) else start_digits f kind 0 n) other.0
    ∙ same_start f (λ p. f p || false) (λ p. sym (or-false (f p))) kind 0 n
    ∙ ap (λ b. start_digits (λ p. f p || (b && has_bit (Some (bits_from s.low s.width)) p)) kind 0 n) (sym other.0))
    (eqb_tells s.word 0)
driven_start (Chosen s index low) f kind n = ap all_unknown (length-start_digits f kind 0 n) ∙ all_driven_digits f kind 0 n

-- ---- words at the start, where a test tells the driven bits of signals

abbrev words_with : (ℕ → ℕ → Bool) → ℕ → List Signal → List (List Digit)
words_with test first [] = []
words_with test first (s ∷ ss) = start_digits (test first) s.kind 0 s.width ∷ words_with test (suc first) ss

undriven_with : (first : ℕ) (ss : List Signal) → map undriven_word ss ≡ words_with (λ signal place. false) first ss
undriven_with first [] = refl
undriven_with first (s ∷ ss) = ap (λ ws. undriven_word s ∷ ws) (undriven_with (suc first) ss)

same_words_with : (f g : ℕ → ℕ → Bool) (first : ℕ) → ((signal place : ℕ) → first ≤ signal → f signal place ≡ g signal place) → (ss : List Signal) →
    words_with f first ss ≡ words_with g first ss
same_words_with f g first h [] = refl
same_words_with f g first h (s ∷ ss) =
    ap₂ (λ w ws. w ∷ ws)
    (same_start (f first) (g first) (λ k. h first k (omega arith)) s.kind 0 s.width)
    (same_words_with f g (suc first) (λ signal place above. h signal place (omega arith)) ss)

-- the test with one place more
abbrev more : (ℕ → ℕ → Bool) → Aim → ℕ → ℕ → Bool
more test a signal place = test signal place || covers signal 0 place (aim_range a)

more_other : (test : ℕ → ℕ → Bool) (a : Aim) (signal place : ℕ) → is_of signal (aim_range a) ≡ false → test signal place ≡ more test a signal place
more_other test a signal place h = sym (or-false (test signal place)) ∙ ap (λ b. test signal place || (b && (has_word (aim_range a).word 0) && (has_bit (aim_range a).bits place))) (sym h)

more_here : (test : ℕ → ℕ → Bool) (a : Aim) (signal place : ℕ) → is_of signal (aim_range a) ≡ true → (test signal place || drives_here a place) ≡ more test a signal place
more_here test a signal place h = ap (λ b. test signal place || (b && (has_word (aim_range a).word 0) && (has_bit (aim_range a).bits place))) (sym h)

other_signal : (n m : ℕ) → n < m → (n == m) ≡ false
other_signal n m h = grind (arith, nat_tests)

other_below : (n m : ℕ) → m < n → (n == m) ≡ false
other_below n m h = grind (arith, nat_tests)

driven_with : (a : Aim) (test : ℕ → ℕ → Bool) (first i : ℕ) (ss : List Signal) → (aim_range a).signal ≡ first + i →
    changed_at (driven_word a) i (words_with test first ss) ≡ words_with (more test a) first ss
driven_with a test first i [] h = refl
driven_with a test first zero (s ∷ ss) h =
    ap₂ (λ w ws. w ∷ ws)
    (driven_start a (test first) s.kind s.width
    ∙ same_start (λ p. test first p || drives_here a p) (more test a first) (λ p. more_here test a first p (same_signal _ first (omega arith))) s.kind 0 s.width)
    (same_words_with test (more test a) (suc first) (λ signal place above. more_other test a signal place (other_signal _ signal (omega arith))) ss)
driven_with a test first (suc i) (s ∷ ss) h =
    ap₂ (λ w ws. w ∷ ws)
    (same_start (test first) (more test a first) (λ p. more_other test a first p (other_below _ first (omega arith))) s.kind 0 s.width)
    (driven_with a test (suc first) i ss (omega arith))

-- the places of a target, and those of all
by_places : (as' : List Aim) (test : ℕ → ℕ → Bool) (ss : List Signal) →
    driven_by as' (words_with test 0 ss) ≡ words_with (λ signal place. test signal place || list_any (covers signal 0 place) (map aim_range as')) 0 ss
by_places [] test ss = same_words_with test (λ signal place. test signal place || false) 0 (λ signal place h. sym (or-false (test signal place))) ss
by_places (a ∷ as') test ss =
    ap (driven_by as') (driven_with a test 0 (aim_range a).signal ss (omega arith))
    ∙ by_places as' (more test a) ss
    ∙ same_words_with _ _ 0 (λ signal place h. or_assoc (test signal place) (covers signal 0 place (aim_range a)) (list_any (covers signal 0 place) (map aim_range as'))) ss

by_assigns : (assigns : List Assign) (test : ℕ → ℕ → Bool) (ss : List Signal) →
    all_driven assigns (words_with test 0 ss) ≡ words_with (λ signal place. test signal place || drives_bit assigns signal place) 0 ss
by_assigns [] test ss = same_words_with test (λ signal place. test signal place || false) 0 (λ signal place h. sym (or-false (test signal place))) ss
by_assigns (a ∷ rest) test ss =
    ap (all_driven rest) (by_places a.target.parts.items test ss)
    ∙ by_assigns rest (λ signal place. test signal place || list_any (covers signal 0 place) (writes a.target)) ss
    ∙ same_words_with _ _ 0 (λ signal place h. or_assoc (test signal place) (list_any (covers signal 0 place) (writes a.target)) (drives_bit rest signal place)) ss

-- how many words each signal has
abbrev counts : List Signal → List ℕ
counts ss = map (λ (s : Signal). s.count) ss

copies_with : (assigns : List Assign) (first : ℕ) (ss : List Signal) → in_copies (counts ss) (words_with (drives_bit assigns) first ss) ≡ start_words assigns first ss
copies_with assigns first [] = refl
copies_with assigns first (s ∷ ss) = ap (λ ws. replicate s.count (start_word assigns first s) ∷ ws) (copies_with assigns (suc first) ss)

-- the start as it is made
pub start_is : (assigns : List Assign) (ss : List Signal) → in_copies (counts ss) (all_driven assigns (map undriven_word ss)) ≡ start_words assigns 0 ss
start_is assigns ss =
    ap (λ ws. in_copies (counts ss) (all_driven assigns ws)) (undriven_with 0 ss)
    ∙ ap (in_copies (counts ss)) (by_assigns assigns (λ signal place. false) ss)
    ∙ copies_with assigns 0 ss

-- ---- lengths

length-driven_word : (a : Aim) (word : List Digit) → length (driven_word a word) ≡ length word
length-driven_word (Fixed s) word = at (s.word == 0)
  where
    at : (b : Bool) → length (if b then overlaid s.low (all_unknown s.width) word else word) ≡ length word
    at true = length-with_part s.low (all_unknown s.width) word
    at false = refl
length-driven_word (Chosen s index low) word = length-replicate (length word) X

lengths-changed_at : (f : List Digit → List Digit) → ((ds : List Digit) → length (f ds) ≡ length ds) → (i : ℕ) (words : List (List Digit)) →
    map length (changed_at f i words) ≡ map length words
lengths-changed_at f h i [] = refl
lengths-changed_at f h zero (w ∷ ws) = ap (λ n. n ∷ map length ws) (h w)
lengths-changed_at f h (suc i) (w ∷ ws) = ap (λ ns. length w ∷ ns) (lengths-changed_at f h i ws)

lengths-driven_by : (as' : List Aim) (words : List (List Digit)) → map length (driven_by as' words) ≡ map length words
lengths-driven_by [] words = refl
lengths-driven_by (a ∷ as') words = lengths-driven_by as' (driven_at a words) ∙ lengths-changed_at (driven_word a) (length-driven_word a) (aim_range a).signal words

lengths-all_driven : (assigns : List Assign) (words : List (List Digit)) → map length (all_driven assigns words) ≡ map length words
lengths-all_driven [] words = refl
lengths-all_driven (a ∷ rest) words = lengths-all_driven rest (driven_by a.target.parts.items words) ∙ lengths-driven_by a.target.parts.items words

lengths-undriven : (ss : List Signal) → map length (map undriven_word ss) ≡ map (λ (s : Signal). s.width) ss
lengths-undriven [] = refl
lengths-undriven (s ∷ ss) = ap₂ (λ n ns. n ∷ ns) (length-start_digits (λ place. false) s.kind 0 s.width) (lengths-undriven ss)

-- the words at the start have the sizes of their signals
pub lengths-start : (assigns : List Assign) (ss : List Signal) → map length (all_driven assigns (map undriven_word ss)) ≡ map (λ (s : Signal). s.width) ss
lengths-start assigns ss = lengths-all_driven assigns (map undriven_word ss) ∙ lengths-undriven ss

pub length-in_copies : (ns : List ℕ) (words : List (List Digit)) → length words ≡ length ns → length (in_copies ns words) ≡ length ns
length-in_copies [] words h = refl
length-in_copies (n ∷ ns) [] h = absurd (omega arith)
length-in_copies (n ∷ ns) (w ∷ ws) h = ap suc (length-in_copies ns ws (omega arith))

-- the copies of one word more
pub copies-more : (ns : List ℕ) (words : List (List Digit)) (i n : ℕ) (w : List Digit) → slice_get ns i ≡ Some n → slice_get words i ≡ Some w →
    take (suc i) (in_copies ns words) ≡ take i (in_copies ns words) ++ replicate n w ∷ []
copies-more [] words i n w h e = absurd (none-some n h)
copies-more (m ∷ ns) [] i n w h e = absurd (none-some w e)
copies-more (m ∷ ns) (v ∷ words) zero n w h e = ap₂ (λ k u. replicate k u ∷ []) (same_Some m n h) (same_Some v w e)
copies-more (m ∷ ns) (v ∷ words) (suc i) n w h e = ap (λ ws. replicate m v ∷ ws) (copies-more ns words i n w h e)
