-- What a writer with a buffer stands for.
use Rattle.std.proofs.Common.{◌≡◌, ℕ, ◌+◌, ◌-◌, ◌≤◌, Bool, true, List, [], ◌∷◌, ◌++◌, length, take, drop, length-drop, Option, Some, None, refl, sym, ap, ◌∙◌, subst, append-nil, take_all, le_refl, arith}
use Rattle.std.specs.Prelude.{Result, Ok, Err, OnOk, nat_eq}
use Rattle.std.specs.Io.KnownBytes.{Appends, Keeps, WriteAppends, append_known}
use Rattle.std.proofs.KnownBytes.{Appends-kept, Keeps-trans, append_known-grown, append_known-kept, append_known-moved, append_known-passed}
use Rattle.std.proofs.lemmas.Bool.{eqb-true}
use Rattle.std.proofs.lemmas.List.{append_assoc, drop-append-le, drop_all, drop-drop, length-take-le, take-append-drop, take_rest}

-- the writer took so many bytes more
pub moved : (a b c : Option (List ℕ)) (bytes : List ℕ) (from written n : ℕ) → Keeps (append_known a (drop from bytes)) (append_known b (drop written bytes))
    → Appends b c (take n (take (length bytes - written) (drop written bytes))) → Keeps (append_known a (drop from bytes)) (append_known c (drop (written + n) bytes))
moved a b c bytes from written n before more =
    let rest : List ℕ = drop written bytes in
    let cut : take n (take (length bytes - written) rest) ≡ take n rest = ap (take n) (take_rest bytes written) in
    let joined : rest ≡ take n rest ++ drop (written + n) bytes =
    sym (take-append-drop n rest) ∙ ap (λ l. take n rest ++ l) (drop-drop n written bytes)
    in
    Keeps-trans (append_known a (drop from bytes)) (append_known b rest) (append_known c (drop (written + n) bytes)) before
    (append_known-moved b c (take n rest) (drop (written + n) bytes) rest (subst (Appends b c) cut more) joined)

-- it took none
pub unmoved : (a b c : Option (List ℕ)) (old rest : List ℕ) → Keeps (append_known a old) (append_known b rest) → Keeps b c → Keeps (append_known a old) (append_known c rest)
unmoved a b c old rest before kept = Keeps-trans (append_known a old) (append_known b rest) (append_known c rest) before (append_known-kept b c rest kept)

-- a piece went to the writer, which was empty
pub passed : {E : Type 0} (a b c : Option (List ℕ)) (gathered : List ℕ) (r : Result ℕ E) (piece : List ℕ) → Keeps a (append_known b gathered) → gathered ≡ [] → WriteAppends b c r piece
    → WriteAppends a (append_known c gathered) r piece
passed a b c gathered (Ok n) piece kept none took =
    subst (Appends a (append_known c gathered)) (append-nil (take n piece))
    (append_known-passed a b c gathered gathered (take n piece) [] kept none took (sym (append-nil gathered)))
passed a b c gathered (Err e) piece kept none took = Keeps-trans a (append_known b gathered) (append_known c gathered) kept (append_known-kept b c gathered took)

-- a piece was gathered
pub gathered_whole : (a b : Option (List ℕ)) (old new piece : List ℕ) → Keeps a (append_known b old) → new ≡ old ++ piece → Appends a (append_known b new) (take (length piece) piece)
gathered_whole a b old new piece kept is =
    subst (Appends a (append_known b new)) (sym (take_all (length piece) piece (le_refl (length piece)))) (append_known-grown a b old new piece kept is)

-- nothing is gathered
unfilled : (xs : List ℕ) (n : ℕ) (r : Bool) → n ≡ length xs → r ≡ nat_eq n 0 → r ≡ true → xs ≡ []
unfilled [] n r size is empty = refl
unfilled (x ∷ xs) n r size is empty = let zero : n ≡ 0 = eqb-true n 0 (sym is ∙ empty) in absurd (omega (arith, size, zero))

pub none_left : (xs : List ℕ) (n k : ℕ) (r : Bool) → n ≡ length xs → r ≡ nat_eq n 0 → r ≡ true → drop k xs ≡ []
none_left xs n k r size is empty = ap (drop k) (unfilled xs n r size is empty) ∙ drop_all k [] (omega arith)

pub none_gathered : (known : Option (List ℕ)) (room : List ℕ) → room ≡ [] → append_known known room ≡ known
none_gathered None room is = refl
none_gathered (Some bytes) room is = ap (λ l. Some (bytes ++ l)) is ∙ ap Some (append-nil bytes)

-- a write, behind which all stayed as it was
pub write_kept : {E : Type 0} (a b c : Option (List ℕ)) (r : Result ℕ E) (piece : List ℕ) → WriteAppends a b r piece → Keeps b c → WriteAppends a c r piece
write_kept a b c (Ok n) piece took kept = Appends-kept a b c (take n piece) took kept
write_kept a b c (Err e) piece took kept = Keeps-trans a b c took kept

-- where nothing is gathered, the writer holds all
pub all_written : (known : Option (List ℕ)) (taken : ℕ) (gathered : List ℕ) → gathered ≡ [] → taken ≡ 0 → Keeps (append_known known (drop taken gathered)) known
all_written None taken gathered none begun = tt
all_written (Some bytes) taken gathered none begun = sym (ap (λ l. bytes ++ l) (ap (λ n. drop n gathered) begun ∙ none) ∙ append-nil bytes)

-- ---- a front of what is gathered

-- what stands behind stays there
behind : (a b : Option (List ℕ)) (xs ys zs : List ℕ) → Keeps (append_known a xs) (append_known b ys) → Keeps (append_known a (xs ++ zs)) (append_known b (ys ++ zs))
behind None b xs ys zs kept = tt
behind (Some a) None xs ys zs kept = absurd kept
behind (Some a) (Some b) xs ys zs kept = sym (append_assoc b ys zs) ∙ ap (λ l. l ++ zs) kept ∙ append_assoc a xs zs

-- the same of a list, of whose front so many bytes were taken
front_behind : (a b : Option (List ℕ)) (xs zs : List ℕ) (i j : ℕ) → i ≤ length xs → j ≤ length xs
    → Keeps (append_known a (drop i xs)) (append_known b (drop j xs)) → Keeps (append_known a (drop i (xs ++ zs))) (append_known b (drop j (xs ++ zs)))
front_behind a b xs zs i j before after kept = rw (drop-append-le i xs zs before, drop-append-le j xs zs after) (behind a b (drop i xs) (drop j xs) zs kept)

-- a write of a front that failed
pub front_taken : (a b : Option (List ℕ)) (all : List ℕ) (count i j : ℕ) → count ≤ length all → i ≤ count → j ≤ length (take count all)
    → Keeps (append_known a (drop i (take count all))) (append_known b (drop j (take count all)))
    → Keeps (append_known a (drop i all)) (append_known b (drop j all))
front_taken a b all count i j within before after kept =
    let size : length (take count all) ≡ count = length-take-le count all within in
    subst (λ l. Keeps (append_known a (drop i l)) (append_known b (drop j l))) (take-append-drop count all)
    (front_behind a b (take count all) (drop count all) i j (omega (arith, size, before)) after kept)

-- and one that was whole
pub front_written : (a b : Option (List ℕ)) (all : List ℕ) (count i j : ℕ) → count ≤ length all → i ≤ count → j ≤ length (take count all) → length (take count all) ≤ j
    → Keeps (append_known a (drop i (take count all))) (append_known b (drop j (take count all)))
    → Keeps (append_known a (drop i all)) (append_known b (drop 0 (drop count all)))
front_written a b all count i j within before after whole kept =
    let size : length (take count all) ≡ count = length-take-le count all within in
    let same : j ≡ count = omega (arith, size, after, whole) in
    subst (λ n. Keeps (append_known a (drop i all)) (append_known b (drop n all))) same (front_taken a b all count i j within before after kept)

-- the same of a text that is the front, where all of it was written and goes, and where a write failed
module _ (a b : Option (List ℕ)) (all front : List ℕ) (count i j : ℕ) (within : count ≤ length all) (before : i ≤ count) (is : front ≡ take count all)
    (bound : i ≤ length front → j ≤ length front) (kept : Keeps (append_known a (drop i front)) (append_known b (drop j front))) where
  reached : j ≤ length (take count all)
  reached = subst (λ (l : List ℕ). j ≤ length l) is (bound (omega (arith, length-take-le count all within, ap length is)))

  kept_there : Keeps (append_known a (drop i (take count all))) (append_known b (drop j (take count all)))
  kept_there = subst (λ (l : List ℕ). Keeps (append_known a (drop i l)) (append_known b (drop j l))) is kept

  pub front_gone : (c : Option (List ℕ)) (new : List ℕ) (k : ℕ) → length front ≤ j → c ≡ b → new ≡ drop count all → k ≡ 0
      → Keeps (append_known a (drop i all)) (append_known c (drop k new))
  front_gone c new k whole same left begun =
      rw (same, left, begun) (front_written a b all count i j within before reached (subst (λ (l : List ℕ). length l ≤ j) is whole) kept_there)

  pub front_left : Keeps (append_known a (drop i all)) (append_known b (drop j all))
  front_left = front_taken a b all count i j within before reached kept_there

-- what holds where a call answered Ok
pub on_ok : {T E : Type 0} (r : Result T E) (x : T) (P : Type 0) → r ≡ Ok x → OnOk r P → P
on_ok (Ok y) x P is h = h
on_ok (Err e) x P is h = absurd (cc)

-- a write took no more than was there
pub within : (bytes : List ℕ) (written n : ℕ) → written ≤ length bytes → n ≤ length (take (length bytes - written) (drop written bytes)) → written + n ≤ length bytes
within bytes written n before more = omega (arith, length-drop written bytes, ap length (take_rest bytes written))

-- all that is gathered is written, where a write answered so
pub whole_out : {T E : Type 0} (r : Result T E) (known : Option (List ℕ)) (taken : ℕ) (gathered : List ℕ) → OnOk r (gathered ≡ []) → OnOk r (taken ≡ 0)
    → OnOk r (Keeps (append_known known (drop taken gathered)) known)
whole_out (Ok x) known taken gathered none begun = all_written known taken gathered none begun
whole_out (Err e) known taken gathered none begun = tt

-- a last line is left out
joined_line : (g line : List ℕ) (taken left : ℕ) → taken ≤ left → left ≤ length g → drop left g ≡ line → drop taken (take left g) ++ line ≡ drop taken g
joined_line g line taken left before within is =
    let size : length (take left g) ≡ left = length-take-le left g within in
    ap (λ (l : List ℕ). drop taken (take left g) ++ l) (sym is) ∙ sym (drop-append-le taken (take left g) (drop left g) (omega (arith, size, before)))
    ∙ ap (drop taken) (take-append-drop left g)

pub line_cut : (known : Option (List ℕ)) (g line : List ℕ) (taken left : ℕ) → taken ≤ left → left ≤ length g → drop left g ≡ line
    → Keeps (append_known known (drop taken g)) (append_known (append_known known (drop taken (take left g))) line)
line_cut None g line taken left before within is = tt
line_cut (Some x) g line taken left before within is =
    append_assoc x (drop taken (take left g)) line ∙ ap (λ (l : List ℕ). x ++ l) (joined_line g line taken left before within is)
