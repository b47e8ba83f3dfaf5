-- Where the watchers of a signal stand.
use Rattle.std.proofs.Common.{◌≡◌, ℕ, ◌≤◌, ◌+◌, ◌-◌, List, [], ◌∷◌, ◌++◌, length, take, drop, refl, sym, ◌∙◌, ap, append_assoc, arith}
use Rattle.std.proofs.lemmas.List.{length-append}
use Rattle.vs_design.specs.vs_logic4.specs.declared.edge.Edge.TheVariants.{Any, Posedge, Negedge}
use Rattle.vs_run_active.specs.declared.groups.Groups.{Groups}
use Rattle.vs_run_active.specs.declared.rows.Row.{Row}
use Rattle.vs_run_active.specs.Groups.{Adds}
use Rattle.vs_run_active.specs.declared.watchers.Watcher.{Watcher}
use Rattle.vs_run_active.specs.declared.watchers.ProcessTerm.{ProcessTerm}
use Rattle.vs_run_active.specs.Rows.{row_at, row_watchers, Fits, IsRow, RowAdded}
use Rattle.vs_run_active.specs.Watchers.{between, kind_watchers}

first_ones : {A : Type 0} (ys zs : List A) → take (length ys) (ys ++ zs) ≡ ys
first_ones [] zs = refl
first_ones (y ∷ ys) zs = ap (λ l. y ∷ l) (first_ones ys zs)

-- the elements after some first ones
middle : {A : Type 0} (xs ys zs : List A) → take (length ys) (drop (length xs) (xs ++ (ys ++ zs))) ≡ ys
middle [] ys zs = first_ones ys zs
middle (x ∷ xs) ys zs = middle xs ys zs

-- the same by where they begin and end
pub between_is : {A : Type 0} (from to : ℕ) (all xs ys zs : List A) → from ≡ length xs → to ≡ from + length ys → all ≡ xs ++ (ys ++ zs) → between from to all ≡ ys
between_is {A = A} from to all xs ys zs f t a =
    let long : to - from ≡ length ys = omega (arith, t) in
    ap (λ (n : ℕ). take n (drop from all)) long ∙ ap (λ (n : ℕ). take (length ys) (drop n all)) f
    ∙ ap (λ (l : List A). take (length ys) (drop (length xs) l)) a ∙ middle xs ys zs

-- the parts of a row stand one after another
row_fits : (old rest front : List Watcher) (terms : List ProcessTerm) → Fits (row_at (length old) front terms) (length ((old ++ row_watchers front terms) ++ rest))
row_fits old rest front terms =
    let b = kind_watchers Any terms in
    let r = kind_watchers Posedge terms in
    let f = kind_watchers Negedge terms in
    let n = length old in
    let all : length ((old ++ row_watchers front terms) ++ rest) ≡ length (old ++ row_watchers front terms) + length rest = length-append (old ++ row_watchers front terms) rest in
    let own : length (old ++ row_watchers front terms) ≡ length old + length (row_watchers front terms) = length-append old (row_watchers front terms) in
    let parts : length (row_watchers front terms) ≡ length front + length b + length r + length f =
    length-append ((front ++ b) ++ r) f ∙ ap (λ (k : ℕ). k + length f) (length-append (front ++ b) r ∙ ap (λ (k : ℕ). k + length r) (length-append front b))
    in
    let first : n ≤ n + length front = omega arith in
    let second : n + length front ≤ n + length front + length b = omega arith in
    let third : n + length front + length b ≤ n + length front + length b + length r = omega arith in
    let fourth : n + length front + length b + length r ≤ n + length front + length b + length r + length f = omega arith in
    let last : n + length front + length b + length r + length f ≤ length ((old ++ row_watchers front terms) ++ rest) = omega (arith, all, own, parts) in
    (first, second, third, fourth, last)

-- a row tells where the watchers of its signal stand
pub row_tells : (old rest front : List Watcher) (terms : List ProcessTerm) → IsRow (row_at (length old) front terms) ((old ++ row_watchers front terms) ++ rest) front terms
row_tells old rest front terms =
    let a = front in
    let b = kind_watchers Any terms in
    let r = kind_watchers Posedge terms in
    let f = kind_watchers Negedge terms in
    let n = length old in
    let all = (old ++ (((a ++ b) ++ r) ++ f)) ++ rest in
    let last : all ≡ (old ++ ((a ++ b) ++ r)) ++ (f ++ rest) =
    ap (λ (l : List Watcher). l ++ rest) (sym (append_assoc old ((a ++ b) ++ r) f)) ∙ append_assoc (old ++ ((a ++ b) ++ r)) f rest
    in
    let third : all ≡ (old ++ (a ++ b)) ++ (r ++ (f ++ rest)) =
    last ∙ ap (λ (l : List Watcher). l ++ (f ++ rest)) (sym (append_assoc old (a ++ b) r)) ∙ append_assoc (old ++ (a ++ b)) r (f ++ rest)
    in
    let second : all ≡ (old ++ a) ++ (b ++ (r ++ (f ++ rest))) =
    third ∙ ap (λ (l : List Watcher). l ++ (r ++ (f ++ rest))) (sym (append_assoc old a b)) ∙ append_assoc (old ++ a) b (r ++ (f ++ rest))
    in
    let first : all ≡ old ++ (a ++ (b ++ (r ++ (f ++ rest)))) = second ∙ append_assoc old a (b ++ (r ++ (f ++ rest))) in
    let to_any : n + length a ≡ length (old ++ a) = sym (length-append old a) in
    let to_rising : n + length a + length b ≡ length (old ++ (a ++ b)) = omega (arith, length-append old (a ++ b), length-append a b) in
    let to_falling : n + length a + length b + length r ≡ length (old ++ ((a ++ b) ++ r)) =
    omega (arith, length-append old ((a ++ b) ++ r), length-append (a ++ b) r, length-append a b)
    in
    record {
      readers = between_is n (n + length a) all old a (b ++ (r ++ (f ++ rest))) refl refl first;
      any = between_is (n + length a) (n + length a + length b) all (old ++ a) b (r ++ (f ++ rest)) to_any refl second;
      rising = between_is (n + length a + length b) (n + length a + length b + length r) all (old ++ (a ++ b)) r (f ++ rest) to_rising refl third;
      falling = between_is (n + length a + length b + length r) (n + length a + length b + length r + length f) all (old ++ ((a ++ b) ++ r)) f rest to_falling refl last;
      fits = row_fits old rest front terms;
    }

abbrev row_of : ℕ → ℕ → ℕ → ℕ → ℕ → Row
row_of readers any rising falling end = record { readers = readers; any = any; rising = rising; falling = falling; end = end }

same_row : (a b c d e a2 b2 c2 d2 e2 : ℕ) → a ≡ a2 → b ≡ b2 → c ≡ c2 → d ≡ d2 → e ≡ e2 →
    row_of a b c d e ≡ row_of a2 b2 c2 d2 e2
same_row a b c d e a2 b2 c2 d2 e2 h i j k l = cc

-- what code that adds a row does
pub row_added : (old new : Groups) (before middle third fourth after plain : List Watcher) (terms : List ProcessTerm) (from any rising falling end : ℕ) (row : Row) →
    Adds old new before middle plain → from ≡ length before → any ≡ length middle → rising ≡ length third → falling ≡ length fourth → end ≡ length after →
    third ≡ middle ++ kind_watchers Any terms → fourth ≡ third ++ kind_watchers Posedge terms → after ≡ fourth ++ kind_watchers Negedge terms →
    row ≡ record { readers = from; any = any; rising = rising; falling = falling; end = end } → RowAdded old new before after row plain terms
row_added old new before middle third fourth after plain terms from any rising falling end row adds a b c d e f g h is =
    let ws = adds.watchers in
    let x = kind_watchers Any terms in
    let y = kind_watchers Posedge terms in
    let z = kind_watchers Negedge terms in
    let all : after ≡ before ++ row_watchers ws terms =
    h ∙ ap (λ (l : List Watcher). l ++ z) (g ∙ ap (λ (l : List Watcher). l ++ y) (f ∙ ap (λ (l : List Watcher). l ++ x) adds.watchers_are ∙ append_assoc before ws x)
    ∙ append_assoc before (ws ++ x) y)
    ∙ append_assoc before ((ws ++ x) ++ y) z
    in
    let at_any : any ≡ length before + length ws = b ∙ ap (λ (l : List Watcher). length l) adds.watchers_are ∙ length-append before ws in
    let at_rising : rising ≡ length before + length ws + length x =
    c ∙ ap (λ (l : List Watcher). length l) f ∙ length-append middle x ∙ ap (λ (n : ℕ). n + length x) (sym b ∙ at_any)
    in
    let at_falling : falling ≡ length before + length ws + length x + length y =
    d ∙ ap (λ (l : List Watcher). length l) g ∙ length-append third y ∙ ap (λ (n : ℕ). n + length y) (sym c ∙ at_rising)
    in
    let at_end : end ≡ length before + length ws + length x + length y + length z =
    e ∙ ap (λ (l : List Watcher). length l) h ∙ length-append fourth z ∙ ap (λ (n : ℕ). n + length z) (sym d ∙ at_falling)
    in
    record {
      middle = middle;
      adds = adds;
      after_is = all;
      row_is = is ∙ same_row from any rising falling end (length before) (length before + length ws) (length before + length ws + length x)
          (length before + length ws + length x + length y) (length before + length ws + length x + length y + length z) a at_any at_rising at_falling at_end;
    }
