-- Numbers of 64 bits.
use Rattle.std.proofs.Common.{◌≡◌, ℕ, ◌<◌, ◌^◌, ℤ, pos, negsuc, w64, FitsSigned, Ok, Err, List, Result, decimal, subst, sym, ap, ◌∙◌, arith}
use Rattle.std.specs.Fmt.{signed_decimal}
use Rattle.std.specs.Int.Signed.{mag}
use Rattle.std.specs.Str.Parse.{ParsesUnsigned, ParsesSigned}
use Rattle.std.proofs.lemmas.Int.{ints}
use Rattle.std.proofs.lemmas.Fmt.{parse-decimal, parse-signed_decimal}
use Rattle.vs_vcd_lines.specs.Names.{IsShort}
use Rattle.vs_vcd_lines.specs.Names.IsShort.{short, negative}

pub mag_short : (n : ℤ) → IsShort n → mag n < 2 ^ 63
mag_short n (short low h) = h
mag_short n (negative below h) = h

pub fits_short : (n : ℤ) → IsShort n → FitsSigned w64 n
fits_short n (short low h) = omega (arith, ints)
fits_short n (negative below h) = omega (arith, ints)

abbrev IsRead : {A E : Type 0} → Result A E → Type 0
IsRead (Ok x) = Unit {0}
IsRead (Err e) = ⊥

err_is_no_ok : {A E : Type 0} (e : E) (x : A) → Err e ≡ Ok x → ⊥
err_is_no_ok e x h = subst IsRead (sym h) tt

abbrev ok_or : {A E : Type 0} → A → Result A E → A
ok_or d (Ok x) = x
ok_or d (Err e) = d

ok_same : {A E : Type 0} (x y : A) (r : Result A E) → r ≡ Ok x → r ≡ Ok y → x ≡ y
ok_same x y r p q = sym (ap (ok_or x) p) ∙ ap (ok_or x) q

pub unsigned_unread : {E : Type 0} (bs : List ℕ) (r : Result ℕ E) (e : E) (n : ℕ) → n < 2 ^ 64 → bs ≡ decimal n → ParsesUnsigned 64 10 bs r → r ≡ Err e → ⊥
unsigned_unread bs r e n small is h failed = err_is_no_ok e n (sym failed ∙ parse-decimal 64 n bs r small small is h)

pub unsigned_read : {E : Type 0} (bs : List ℕ) (r : Result ℕ E) (m n : ℕ) → n < 2 ^ 64 → bs ≡ decimal n → ParsesUnsigned 64 10 bs r → r ≡ Ok m → m ≡ n
unsigned_read bs r m n small is h read = ok_same m n r read (parse-decimal 64 n bs r small small is h)

pub signed_unread : {E : Type 0} (bs : List ℕ) (r : Result ℤ E) (e : E) (n : ℤ) → IsShort n → bs ≡ signed_decimal n → ParsesSigned w64 10 bs r → r ≡ Err e → ⊥
signed_unread bs r e n small is h failed = err_is_no_ok e n (sym failed ∙ parse-signed_decimal w64 n bs r (fits_short n small) (mag_short n small) is h)

pub signed_read : {E : Type 0} (bs : List ℕ) (r : Result ℤ E) (m n : ℤ) → IsShort n → bs ≡ signed_decimal n → ParsesSigned w64 10 bs r → r ≡ Ok m → m ≡ n
signed_read bs r m n small is h read = ok_same m n r read (parse-signed_decimal w64 n bs r (fits_short n small) (mag_short n small) is h)

pub short_fits : (n : ℤ) → FitsSigned w64 n → IsShort n
short_fits (pos low) h = short low (omega (arith, ints))
short_fits (negsuc below) h = negative below (omega (arith, ints))
