-- Joined vectors, cut to 64 digits.
use Rattle.std.proofs.Common.{◌≡◌, ℕ, zero, suc, ◌+◌, ◌-◌, ◌*◌, ◌/◌, ◌<◌, ◌≤◌, Bool, false, List, ◌++◌, length, take, refl, sym, ap, ◌∙◌, arith}
use Rattle.std.proofs.Math.Nat.{lt-div-mul-add, mul-div-le, lt_of_mul-lt-mul_left}
use Rattle.std.proofs.Math.Seq.{take-append-add}
use Rattle.std.proofs.lemmas.List.{append-nil, append_assoc, length-append, take-append-le, take_all, take_at}
use Rattle.vs_logic4.specs.declared.digit.Digit.{Digit}
use Rattle.vs_logic4.specs.Vectors.{resized}
use Rattle.vs_logic4.specs.Lengths.{length-concatenation, length-replication}
use Rattle.vs_logic4.specs.Parts.{concatenation, replication}

-- a vector resized to no more than its width is cut
resized-cut : (signed : Bool) (n : ℕ) (ds : List Digit) → n ≤ length ds → resized signed n ds ≡ take n ds
resized-cut signed n ds h =
    let none : n - length ds ≡ 0 = omega arith in
    rw none (append-nil (take n ds))

-- both vectors fit
pub concatenation_fits : (high low : List Digit) → length high + length low ≤ 64 → concatenation high low ≡ take 64 (concatenation high low)
concatenation_fits high low h = sym (take_all 64 (concatenation high low) (omega (arith, length-concatenation high low)))

-- the low vector fills all places
pub concatenation_full : (high low : List Digit) → length low ≡ 64 → low ≡ take 64 (concatenation high low)
concatenation_full high low h = sym (take_at low high 64 h)

-- the high vector is cut
pub concatenation_cut : (high low : List Digit) (room : ℕ) → room + length low ≡ 64 → room ≤ length high → concatenation (resized false room high) low ≡ take 64 (concatenation high low)
concatenation_cut high low room h k =
    let whole : 64 ≡ length low + room = omega arith in
    ap (λ ds. low ++ ds) (resized-cut false room high k)
    ∙ sym (ap (λ n. take n (low ++ high)) whole ∙ take-append-add low high room)

replication-add : (m n : ℕ) (ds : List Digit) → replication (m + n) ds ≡ replication m ds ++ replication n ds
replication-add zero n ds =
    let none : zero + n ≡ n = omega arith in
    rw none refl
replication-add (suc m) n ds =
    let step : suc m + n ≡ suc (m + n) = omega arith in
    rw step (ap (λ es. ds ++ es) (replication-add m n ds) ∙ sym (append_assoc ds (replication m ds) (replication n ds)))

-- all turns fit
pub replication_fits : (count : ℕ) (ds : List Digit) → length ds * count ≤ 64 → replication count ds ≡ take 64 (replication count ds)
replication_fits count ds h =
    sym (take_all 64 (replication count ds) (omega (arith, length-replication count ds)))

-- as many turns as fit, and one more, fill all places
pub replication_cut : (count : ℕ) (ds : List Digit) → 0 < length ds → 64 < length ds * count → take 64 (concatenation ds (replication (64 / length ds) ds)) ≡ take 64 (replication count ds)
replication_cut count ds some h =
    let turns = 64 / length ds in
    let rest = count - suc (64 / length ds) in
    let within : length ds * (64 / length ds) ≤ 64 = mul-div-le 64 (length ds) in
    let more : 64 < 64 / length ds * length ds + length ds = lt-div-mul-add some in
    let fewer : 64 / length ds < count = lt_of_mul-lt-mul_left (length ds) (omega (arith, within, h)) in
    let split : count ≡ 64 / length ds + suc (count - suc (64 / length ds)) = omega (arith, fewer) in
    let long : 64 ≤ length (replication (64 / length ds) ds ++ ds) = omega (arith, more, length-append (replication (64 / length ds) ds) ds, length-replication (64 / length ds) ds) in
    sym (ap (λ n. take 64 (replication n ds)) split
    ∙ ap (λ es. take 64 es) (replication-add turns (suc rest) ds ∙ sym (append_assoc (replication turns ds) ds (replication rest ds)))
    ∙ take-append-le 64 (replication turns ds ++ ds) (replication rest ds) long)
