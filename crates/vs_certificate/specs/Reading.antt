-- What bytes are the JSON text of a certificate, and which test fails first where they aren't (profile).
-- The tests go in the order C1, C3, C2, C4.
use Rattle.std.specs.Prelude.{◌≡◌, ◌⊎◌, ◌<◌, ◌≤◌, ℕ, ℤ, List, length, Bool, true, false, ◌||◌, not, IsUtf8, Some, option_and_then, pos, codes}
use Rattle.std.specs.Ordering.{int_eq}
use Rattle.std.specs.Option.{option_map_or}
use Rattle.serde_json.specs.Data.{Data}
use Rattle.serde_json.specs.Find.{get, as_number, as_integer}
use Rattle.serde_json.specs.Read.{read}
use Rattle.serde_json.specs.Written.{compact_text}
use Rattle.vs_certificate.specs.declared.members.Certificate.{Certificate}
use Rattle.vs_certificate.specs.declared.members.Rules.{Rules}
use Rattle.vs_certificate.specs.declared.members.Rules.TheVariants.{Narrow, Wide}
use Rattle.vs_certificate.specs.declared.members.Version.{Version}
use Rattle.vs_certificate.specs.declared.members.Version.TheVariants as versions
use Rattle.vs_certificate.specs.declared.fault.CertFault.{CertFault}
use Rattle.vs_certificate.specs.declared.fault.CertFault.TheVariants as faults
use Rattle.vs_certificate.specs.JsonValue.{value_of}
use Rattle.vs_certificate.specs.Shape.{is_whole, is_certificate}
use Rattle.vs_certificate.specs.Versions.{has_own_words}
use Rattle.vs_certificate.specs.Limits.{is_within_limits}

-- what is printed of a fault (profile)
abbrev pub fault_text : CertFault → List ℕ
fault_text faults.NotJson = codes "C1"
fault_text faults.Shape = codes "C2"
fault_text faults.Version = codes "C3"
fault_text faults.Limit = codes "C4"
fault_text faults.Memory = codes "memory"

-- 16 MiB
abbrev pub max_len : ℕ
max_len = 16777216

-- the bytes are a JSON text of this value
abbrev pub IsReadAs : List ℕ → Data → Type 0
IsReadAs bytes d = IsUtf8 bytes × (read bytes ≡ Some d)

-- C1 fails: too long, or no JSON text
abbrev pub IsNotJson : List ℕ → Type 0
IsNotJson bytes = (max_len < length bytes) ⊎ ((d : Data) → ¬ IsReadAs bytes d)

-- C1 passes: a JSON text of this value, and not too long
pub record IsJson (bytes : List ℕ) (d : Data) : Type 0 where
  pub short : length bytes ≤ max_len
  pub reads : IsReadAs bytes d

abbrev pub is_version : ℤ → Bool
is_version z = int_eq z (pos 1) || int_eq z (pos 2)

abbrev pub is_wide_version : ℤ → Bool
is_wide_version z = is_version z || int_eq z (pos 3)

-- the version is a whole number of 64 bits that the test refuses
abbrev pub has_version_but : (ℤ → Bool) → Data → Bool
has_version_but known d = option_map_or (λ z. not (known z)) (option_and_then as_integer (option_and_then as_number (get (codes "version") d))) false

-- C3 fails: the version is a whole number of 64 bits other than 1 and 2
abbrev pub is_other_version : Data → Bool
is_other_version d = has_version_but is_version d

-- and of a reader of version 3 too: other than 1, 2 and 3
abbrev pub is_unknown_version : Data → Bool
is_unknown_version d = has_version_but is_wide_version d

-- the test of C3 of those who read the versions of these rules
abbrev pub other_by : Rules → Data → Bool
other_by Narrow = is_other_version
other_by Wide = is_unknown_version

-- C3, by this test, C2 and C4 pass of the value
pub record IsSoundBy (is_other : Data → Bool) (d : Data) : Type 0 where
  pub version : is_other d ≡ false
  pub shape : is_certificate is_whole d ≡ true
  pub limits : is_within_limits d ≡ true

abbrev pub IsSound : Data → Type 0
IsSound d = IsSoundBy is_other_version d

abbrev pub IsSoundWide : Data → Type 0
IsSoundWide d = IsSoundBy is_unknown_version d

-- the fault is that of the first of C2 and C4 that fails of the value
abbrev pub FailsForm : Data → CertFault → Type 0
FailsForm d faults.Version = ⊥
FailsForm d faults.Shape = is_certificate is_whole d ≡ false
FailsForm d faults.Limit = (is_certificate is_whole d ≡ true) × (is_within_limits d ≡ false)
FailsForm d faults.NotJson = ⊥
-- a growth may be refused at any time
FailsForm d faults.Memory = Unit {0}

-- it is that of the first of C3, C2 and C4
abbrev pub FailsFirst : (Data → Bool) → Data → CertFault → Type 0
FailsFirst is_other d faults.Version = is_other d ≡ true
FailsFirst is_other d faults.Shape = (is_other d ≡ false) × (is_certificate is_whole d ≡ false)
FailsFirst is_other d faults.Limit = (is_other d ≡ false) × (is_certificate is_whole d ≡ true) × (is_within_limits d ≡ false)
FailsFirst is_other d faults.NotJson = ⊥
FailsFirst is_other d faults.Memory = Unit {0}

-- no test fails of the bytes, which say this value
pub record PassesBy (is_other : Data → Bool) (bytes : List ℕ) (d : Data) : Type 0 where
  pub json : IsJson bytes d
  pub sound : IsSoundBy is_other d

abbrev pub Passes : List ℕ → Data → Type 0
Passes bytes d = PassesBy is_other_version bytes d

abbrev pub PassesWide : List ℕ → Data → Type 0
PassesWide bytes d = PassesBy is_unknown_version bytes d

-- the fault is that of the first test that fails of the bytes
abbrev pub IsFaultBy : (Data → Bool) → List ℕ → CertFault → Type 0
IsFaultBy is_other bytes faults.NotJson = IsNotJson bytes
IsFaultBy is_other bytes faults.Memory = Unit {0}
IsFaultBy is_other bytes faults.Version = (d : Data) × IsJson bytes d × FailsFirst is_other d faults.Version
IsFaultBy is_other bytes faults.Shape = (d : Data) × IsJson bytes d × FailsFirst is_other d faults.Shape
IsFaultBy is_other bytes faults.Limit = (d : Data) × IsJson bytes d × FailsFirst is_other d faults.Limit

abbrev pub IsFaultOf : List ℕ → CertFault → Type 0
IsFaultOf bytes fault = IsFaultBy is_other_version bytes fault

abbrev pub IsWideFaultOf : List ℕ → CertFault → Type 0
IsWideFaultOf bytes fault = IsFaultBy is_unknown_version bytes fault

-- for a private clause: the reader of JSON gives no value
abbrev pub IsUnread : List ℕ → CertFault → Type 0
IsUnread bytes faults.NotJson = IsNotJson bytes
IsUnread bytes faults.Memory = Unit {0}
IsUnread bytes faults.Version = ⊥
IsUnread bytes faults.Shape = ⊥
IsUnread bytes faults.Limit = ⊥

-- the test of C3 by which a certificate of this version is read: version 3 is read by `from_json_wide` alone
abbrev pub is_other_for : Version → Data → Bool
is_other_for versions.One d = is_other_version d
is_other_for (versions.Two displays) d = is_other_version d
is_other_for (versions.Three displays) d = is_unknown_version d

-- the bytes are read as this certificate by the reader of its version
abbrev pub PassesAs : Certificate → List ℕ → Type 0
PassesAs c bytes = PassesBy (is_other_for c.version) bytes (value_of c)

-- what is written of a certificate within its limits reads back, where its version has what it claims and it isn't over 16 MiB
abbrev pub ReadsBack : Certificate → Type 0
ReadsBack c = has_own_words c ≡ true → is_within_limits (value_of c) ≡ true → length (compact_text (value_of c)) ≤ max_len → PassesAs c (compact_text (value_of c))

-- and what passes of the tests of versions 1 and 2 passes of those of version 3 too
abbrev pub NarrowIsWide : Type 0
NarrowIsWide = (bytes : List ℕ) (d : Data) → Passes bytes d → PassesWide bytes d
