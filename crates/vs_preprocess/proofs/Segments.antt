-- Lemmas on segments, and on the files in which they lie.
use Rattle.std.proofs.Common.{append-nil, append_assoc, arith, ◌≡◌, ◌∙◌, ◌+◌, ◌-◌, ◌<◌, ◌≤◌, ap, refl, subst, sym, ℕ, zero, suc, List, [], ◌∷◌, ◌++◌, drop, get_or, length, length-append, map, min, set, take}
use Rattle.std.specs.Prelude.{Option, Some, slice_get}
use Rattle.std.proofs.lemmas.List.{get_or-append-add, get_or-replicate, get_or_append_left, length-replicate, length_push, map-append, take-append-drop}
use Rattle.std.proofs.lemmas.List.Elements.{All-get_or, All-push, All-set, All-weaker}
use Rattle.std.proofs.lemmas.List.Sums.{get_or-le-sum_by, sum_by-cons, sum_by-set, sum_by_push}
use Rattle.std.proofs.lemmas.Option.{get_or_from_slice_get, slice_get_read, slice_get_within}
use Rattle.std.specs.List.{All, sum_by}
use Rattle.vs_prep_macros.specs.declared.fault.Spot.{Spot}
use Rattle.vs_preprocess.specs.declared.places.Form.{Form}
use Rattle.vs_preprocess.specs.declared.places.Form.TheVariants as form
use Rattle.vs_preprocess.specs.declared.places.Origin.{Origin}
use Rattle.vs_preprocess.specs.declared.places.Segment.{Segment}
use Rattle.vs_preprocess.specs.declared.places.SourceFile.{SourceFile}
use Rattle.vs_preprocess.specs.Files.{bytes_of}
use Rattle.vs_preprocess.specs.Limits.{work_limit}
use Rattle.vs_preprocess.specs.Places.{AreFrom, BeginsAtFirst, Copied, Expanded, IsFrom, IsInside, IsSegmentInside, Made, Source, copied_from, origin_of, reach, size_of, sources_in, sources_of}
use Rattle.vs_preprocess.specs.passes.Segments.{AreInLine, BeginsAfter, IsJoined, IsLastAt, IsReached, origin_in}

-- ---- the first segment

-- where there are none
pub no_segments : (offset : ℕ) (ss : List Segment) → length ss ≡ 0 → BeginsAfter offset ss
no_segments offset [] e = tt
no_segments offset (s ∷ ss) e = absurd (omega arith)

-- where the first one was read
pub first_behind : (offset : ℕ) (ss : List Segment) (s : Segment) → s ≡ get_or ss 0 s → offset < s.offset → 0 < length ss → BeginsAfter offset ss
first_behind offset [] s is less some = absurd (omega arith)
first_behind offset (t ∷ ts) s is less some = subst (λ (x : Segment). offset < x.offset) is less

-- the last segment that doesn't begin behind an offset stands before one number and not before the other
pub record Between (offset : ℕ) (ss : List Segment) (low high : ℕ) : Type 0 where
  pub order : low ≤ high
  pub within : high ≤ length ss
  pub none : high ≡ 0 → BeginsAfter offset ss
  pub begun : (k : ℕ) (s : Segment) → k + 1 ≡ low → slice_get ss k ≡ Some s → s.offset ≤ offset
  pub next : (s : Segment) → slice_get ss high ≡ Some s → offset < s.offset

-- a segment that was read is the one of its number
read_is : (ss : List Segment) (i : ℕ) (s t : Segment) → t ≡ get_or ss i t → i < length ss → slice_get ss i ≡ Some s → t ≡ s
read_is ss i s t is less e =
    let found : slice_get ss i ≡ Some t = slice_get_read ss (length ss) i t refl less is in
    cc

pub between_all : (offset : ℕ) (ss : List Segment) (low high : ℕ) → low ≡ 0 → high ≡ length ss → Between offset ss low high
between_all offset ss low high first all =
    record {
      order = omega arith;
      within = omega arith;
      none = λ e. no_segments offset ss (omega arith);
      begun = λ k s e f. absurd (omega arith);
      next = λ s f. let less : high < length ss = slice_get_within ss high s f in absurd (omega arith);
    }

pub between_up : (offset : ℕ) (ss : List Segment) (low high middle new : ℕ) (t : Segment) → Between offset ss low high → middle < high → t ≡ get_or ss middle t → t.offset ≤ offset → new ≡ middle + 1
    → Between offset ss new high
between_up offset ss low high middle new t b less is begun e =
    let within : high ≤ length ss = b.within in
    record {
      order = omega arith;
      within = within;
      none = b.none;
      begun = λ k s f g.
          let same : k ≡ middle = omega arith in
          let here : slice_get ss middle ≡ Some s = subst (λ (i : ℕ). slice_get ss i ≡ Some s) same g in
          subst (λ (x : Segment). x.offset ≤ offset) (read_is ss middle s t is (omega arith) here) begun;
      next = b.next;
    }

pub between_down : (offset : ℕ) (ss : List Segment) (low high middle : ℕ) (t : Segment) → Between offset ss low high → low ≤ middle → middle < high → t ≡ get_or ss middle t → offset < t.offset
    → Between offset ss low middle
between_down offset ss low high middle t b more less is behind =
    let within : high ≤ length ss = b.within in
    record {
      order = more;
      within = omega arith;
      none = λ e. first_behind offset ss t (subst (λ (i : ℕ). t ≡ get_or ss i t) e is) behind (omega arith);
      begun = b.begun;
      next = λ s f. subst (λ (x : Segment). offset < x.offset) (read_is ss middle s t is (omega arith) f) behind;
    }

pub last_between : (offset : ℕ) (ss : List Segment) (low high k : ℕ) → Between offset ss low high → high ≤ low → k + 1 ≡ low → IsLastAt offset ss k
last_between offset ss low high k b met e =
    let order : low ≤ high = b.order in
    let within : high ≤ length ss = b.within in
    let same : k + 1 ≡ high = omega arith in
    record {
      within = omega arith;
      begun = λ s f. b.begun k s e f;
      next = λ s f. b.next s (subst (λ (i : ℕ). slice_get ss i ≡ Some s) same f);
    }

pub none_between : (offset : ℕ) (ss : List Segment) (low high : ℕ) → Between offset ss low high → high ≤ low → low ≡ 0 → BeginsAfter offset ss
none_between offset ss low high b met e = b.none (omega arith)

-- it isn't behind an offset where it is at the beginning
pub none_behind : (offset : ℕ) (ss : List Segment) → BeginsAtFirst ss → BeginsAfter offset ss → ss ≡ []
none_behind offset [] first behind = refl
none_behind offset (s ∷ ss) first behind = absurd (omega arith)

-- a segment that is made longer begins where it did
pub begins_set : (ss : List Segment) (i : ℕ) (last s : Segment) → last ≡ get_or ss i last → i < length ss → s.offset ≡ last.offset → BeginsAtFirst ss → BeginsAtFirst (set ss i s)
begins_set [] i last s is less same first = absurd (omega arith)
begins_set (t ∷ ts) zero last s is less same first = same ∙ ap (λ (x : Segment). x.offset) is ∙ first
begins_set (t ∷ ts) (suc i) last s is less same first = first

-- one that is put behind the others begins where they end
pub begins_push : (ss : List Segment) (s : Segment) → BeginsAtFirst ss → s.offset ≡ sum_by size_of ss → BeginsAtFirst (ss ++ s ∷ [])
begins_push [] s first is = is
begins_push (t ∷ ts) s first is = first

-- ---- segments that stand one behind another

-- a segment that is made longer is still the last one
pub line_set : (from : ℕ) (ss : List Segment) (i : ℕ) (last s : Segment) (n : ℕ) (spot : Spot) → last ≡ get_or ss i last → i + 1 ≡ length ss → IsJoined last n spot s
    → AreInLine from ss → AreInLine from (set ss i s)
line_set from [] i last s n spot is end j h = absurd (omega arith)
line_set from (t ∷ []) zero last s n spot is end j h = (j.offset ∙ ap (λ (x : Segment). x.offset) is ∙ h.0, tt)
line_set from (t ∷ u ∷ us) zero last s n spot is end j h = absurd (omega arith)
line_set from (t ∷ ts) (suc i) last s n spot is end j h =
    let less : i + 1 ≡ length ts = omega arith in
    (h.0, line_set (from + t.size) ts i last s n spot is less j h.1)

-- one that begins where the others end stands behind them
line_push : (from : ℕ) (ss : List Segment) (s : Segment) → s.offset ≡ from + sum_by size_of ss → AreInLine from ss → AreInLine from (ss ++ s ∷ [])
line_push from [] s is h = (omega arith, tt)
line_push from (t ∷ ts) s is h =
    let more : s.offset ≡ (from + t.size) + sum_by size_of ts = omega (arith, sum_by-cons size_of t ts) in
    (h.0, line_push (from + t.size) ts s more h.1)

pub pushed_line : (ss new : List Segment) (s : Segment) → new ≡ ss ++ s ∷ [] → s.offset ≡ sum_by size_of ss → AreInLine 0 ss → AreInLine 0 new
pushed_line ss new s e at h = subst (λ (l : List Segment). AreInLine 0 l) (sym e) (line_push 0 ss s (omega arith) h)

-- a segment of them begins at their beginning or behind it
begins_from : (from : ℕ) (ss : List Segment) (k : ℕ) (s : Segment) → AreInLine from ss → slice_get ss k ≡ Some s → from ≤ s.offset
begins_from from [] k s h e = absurd cc
begins_from from (t ∷ ts) zero s h e =
    let same : t ≡ s = cc in
    let at : t.offset ≡ s.offset = ap (λ (x : Segment). x.offset) same in
    omega (arith, h.0)
begins_from from (t ∷ ts) (suc k) s h e =
    let behind : from + t.size ≤ s.offset = begins_from (from + t.size) ts k s h.1 e in
    omega arith

copied_length : (file place n : ℕ) → length (copied_from file place n) ≡ n
copied_length file place zero = refl
copied_length file place (suc n) = ap suc (copied_length file (suc place) n)

sources_length : (f : Form) (spot : Spot) (n : ℕ) → length (sources_in f spot n) ≡ n
sources_length form.Copied spot n = copied_length spot.file spot.place n
sources_length form.Made spot n = length-replicate n (Made spot)
sources_length (form.Expanded number) spot n = length-replicate n (Expanded spot number)

-- a byte before the second segment is one of the first
at_first : (from : ℕ) (t : Segment) (ts : List Segment) (offset i : ℕ) → t.offset ≡ from → AreInLine (from + t.size) ts → ((u : Segment) → slice_get ts 0 ≡ Some u → offset < u.offset)
    → offset ≡ from + i → i < length (sources_of (t ∷ ts)) → i < t.size
at_first from t [] offset i at h next is less =
    let sizes : length (sources_in t.form t.spot t.size) ≡ t.size = sources_length t.form t.spot t.size in
    omega (arith, less, length-append (sources_in t.form t.spot t.size) [])
at_first from t (u ∷ us) offset i at h next is less =
    let before : offset < u.offset = next u refl in
    let second : u.offset ≡ from + t.size = h.0 in
    omega arith

-- where the byte at an offset comes from is said by the last segment that begins at or before it
pub at_segment : (from : ℕ) (ss : List Segment) (k offset i : ℕ) (s : Segment) (d : Source) → AreInLine from ss → slice_get ss k ≡ Some s → s.offset ≤ offset
    → ((t : Segment) → slice_get ss (k + 1) ≡ Some t → offset < t.offset) → offset ≡ from + i → i < length (sources_of ss)
    → (offset < s.offset + s.size) × (get_or (sources_of ss) i d ≡ get_or (sources_in s.form s.spot s.size) (offset - s.offset) d)
at_segment from [] k offset i s d h e begun next is less = absurd cc
at_segment from (t ∷ ts) zero offset i s d h e begun next is less =
    let same : t ≡ s = cc in
    let within : i < t.size = at_first from t ts offset i h.0 h.1 next is less in
    let first : t.offset ≡ from = h.0 in
    let sizes : length (sources_in t.form t.spot t.size) ≡ t.size = sources_length t.form t.spot t.size in
    let passed : i ≡ offset - t.offset = omega arith in
    let here : get_or (sources_in t.form t.spot t.size ++ sources_of ts) i d ≡ get_or (sources_in t.form t.spot t.size) i d = get_or_append_left (sources_in t.form t.spot t.size) (sources_of ts) d i (omega arith) in
    subst (λ (x : Segment). (offset < x.offset + x.size) × (get_or (sources_of (t ∷ ts)) i d ≡ get_or (sources_in x.form x.spot x.size) (offset - x.offset) d)) same
    (omega arith, here ∙ ap (λ (j : ℕ). get_or (sources_in t.form t.spot t.size) j d) passed)
at_segment from (t ∷ ts) (suc k) offset i s d h e begun next is less =
    let behind : from + t.size ≤ s.offset = begins_from (from + t.size) ts k s h.1 e in
    let sizes : length (sources_in t.form t.spot t.size) ≡ t.size = sources_length t.form t.spot t.size in
    let all : length (sources_in t.form t.spot t.size ++ sources_of ts) ≡ length (sources_in t.form t.spot t.size) + length (sources_of ts) = length-append (sources_in t.form t.spot t.size) (sources_of ts) in
    let more : suc k + 1 ≡ suc (k + 1) = omega arith in
    let later : (u : Segment) → slice_get ts (k + 1) ≡ Some u → offset < u.offset = λ u f. next u (rw more f) in
    let rest : (offset < s.offset + s.size) × (get_or (sources_of ts) (i - t.size) d ≡ get_or (sources_in s.form s.spot s.size) (offset - s.offset) d) =
    at_segment (from + t.size) ts k offset (i - t.size) s d h.1 e begun later (omega arith) (omega (arith, less, all)) in
    let passed : i ≡ length (sources_in t.form t.spot t.size) + (i - t.size) = omega arith in
    (rest.0, ap (λ (j : ℕ). get_or (sources_of (t ∷ ts)) j d) passed ∙ get_or-append-add (sources_in t.form t.spot t.size) (sources_of ts) (i - t.size) d ∙ rest.1)

copied_at : (file place n i : ℕ) (d : Source) → i < n → get_or (copied_from file place n) i d ≡ Copied (record { file = file; place = place + i })
copied_at file place zero i d less = absurd (omega arith)
copied_at file place (suc n) zero d less =
    let same : place ≡ place + 0 = omega arith in
    ap (λ (p : ℕ). Copied (record { file = file; place = p })) same
copied_at file place (suc n) (suc i) d less =
    let same : suc place + i ≡ place + suc i = omega arith in
    copied_at file (suc place) n i d (omega arith) ∙ ap (λ (p : ℕ). Copied (record { file = file; place = p })) same

-- a segment's origin is that of the byte
pub origin_at : (f : Form) (offset : ℕ) (s : Segment) (source : Source) → s.offset ≤ offset → offset < s.offset + s.size → get_or (sources_in f s.spot s.size) (offset - s.offset) source ≡ source
    → origin_in f offset s ≡ origin_of source
origin_at form.Copied offset s source begun less e =
    let is = sym (copied_at s.spot.file s.spot.place s.size (offset - s.offset) source (omega arith)) ∙ e in
    let least : min (offset - s.offset) s.size ≡ offset - s.offset = omega arith in
    subst (λ (x : Source). origin_in form.Copied offset s ≡ origin_of x) is (rw least refl)
origin_at form.Made offset s source begun less e =
    subst (λ (x : Source). origin_in form.Made offset s ≡ origin_of x) (sym (get_or-replicate s.size (offset - s.offset) (Made s.spot) source (omega arith)) ∙ e) refl
origin_at (form.Expanded number) offset s source begun less e =
    subst (λ (x : Source). origin_in (form.Expanded number) offset s ≡ origin_of x) (sym (get_or-replicate s.size (offset - s.offset) (Expanded s.spot number) source (omega arith)) ∙ e) refl

-- what is told of an offset that is the text's, from the last segment that begins at or before it
pub origin_exact : (fs : List SourceFile) (ss : List Segment) (offset k : ℕ) (s : Segment) (origin : Origin) (source : Source) → IsLastAt offset ss k → AreInLine 0 ss
    → All (IsSegmentInside (map bytes_of fs)) ss → sum_by length (map bytes_of fs) ≤ work_limit → s ≡ get_or ss k s
    → (s.spot.place + reach s.form s.size ≤ work_limit → origin ≡ origin_in s.form offset s) → slice_get (sources_of ss) offset ≡ Some source → Some origin ≡ Some (origin_of source)
origin_exact fs ss offset k s origin source last line all small is exact e =
    let files = map bytes_of fs in
    let within : k < length ss = last.within in
    let found : slice_get ss k ≡ Some s = slice_get_read ss (length ss) k s refl within is in
    let inside : IsSegmentInside files s = subst (IsSegmentInside files) (sym is) (All-get_or (IsSegmentInside files) ss k s within all) in
    let bytes : length (get_or files s.spot.file []) ≤ sum_by length files = get_or-le-sum_by length files s.spot.file [] inside.0 in
    let told : origin ≡ origin_in s.form offset s = exact (omega (arith, inside.1)) in
    let got : get_or (sources_of ss) offset source ≡ source = get_or_from_slice_get (sources_of ss) offset source source e in
    let less : offset < length (sources_of ss) = slice_get_within (sources_of ss) offset source e in
    let part = at_segment 0 ss k offset offset s source line found (last.begun s found) last.next (omega arith) less in
    ap (λ (o : Origin). Some o) (told ∙ origin_at s.form offset s source (last.begun s found) part.0 (sym part.1 ∙ got))

no_source : (offset : ℕ) (source : Source) → slice_get {X = Source} [] offset ≡ Some source → ⊥
no_source zero source e = cc
no_source (suc offset) source e = cc

-- where there are no segments no offset is the text's
pub no_origin : (offset : ℕ) (ss : List Segment) (source : Source) (origin : Option Origin) → BeginsAtFirst ss → BeginsAfter offset ss → slice_get (sources_of ss) offset ≡ Some source → origin ≡ Some (origin_of source)
no_origin offset ss source origin first behind e =
    absurd (no_source offset source (subst (λ (l : List Segment). slice_get (sources_of l) offset ≡ Some source) (none_behind offset ss first behind) e))

-- ---- files

-- the bytes of a file that was read from the list of files
pub file_at : (fs : List SourceFile) (i : ℕ) (f : SourceFile) → f ≡ get_or fs i f → i < length fs → get_or (map bytes_of fs) i [] ≡ bytes_of f
file_at [] i f is less = absurd (omega arith)
file_at (g ∷ gs) zero f is less = ap bytes_of (sym is)
file_at (g ∷ gs) (suc i) f is less = file_at gs i f is (omega arith)

-- how many bytes there are with one file more
pub sizes_push : (fs : List SourceFile) (f : SourceFile) → sum_by length (map bytes_of (fs ++ f ∷ [])) ≡ sum_by length (map bytes_of fs) + length (bytes_of f)
sizes_push fs f = ap (sum_by length) (map-append bytes_of fs (f ∷ [])) ∙ sum_by_push length (map bytes_of fs) (bytes_of f)

-- what lies in the files still does with one file more
inside_more : (files : List (List ℕ)) (f : List ℕ) (s : Segment) → IsSegmentInside files s → IsSegmentInside (files ++ f ∷ []) s
inside_more files f s h =
    let longer : length (files ++ f ∷ []) ≡ length files + 1 = length_push files f in
    let within : s.spot.file < length files = h.0 in
    (omega arith, rw (get_or_append_left files (f ∷ []) [] s.spot.file within) h.1)

pub inside_spot_more : (files : List (List ℕ)) (f : List ℕ) (s : Spot) → IsInside files s → IsInside (files ++ f ∷ []) s
inside_spot_more files f s h =
    let longer : length (files ++ f ∷ []) ≡ length files + 1 = length_push files f in
    let within : s.file < length files = h.0 in
    (omega arith, rw (get_or_append_left files (f ∷ []) [] s.file within) h.1)

pub all_inside_more : (fs : List SourceFile) (f : SourceFile) (ss : List Segment) → All (IsSegmentInside (map bytes_of fs)) ss → All (IsSegmentInside (map bytes_of (fs ++ f ∷ []))) ss
all_inside_more fs f ss h =
    subst (λ (files : List (List ℕ)). All (IsSegmentInside files) ss) (sym (map-append bytes_of fs (f ∷ [])))
    (All-weaker (IsSegmentInside (map bytes_of fs)) _ (inside_more (map bytes_of fs) (bytes_of f)) ss h)

-- ---- segments that are made longer

pub joined_inside : (files : List (List ℕ)) (last s : Segment) (n : ℕ) (spot : Spot) → IsJoined last n spot s → IsReached files n spot form.Copied → IsSegmentInside files s
joined_inside files last s n spot j h =
    rw (j.copied, j.begins, j.size, j.file) (h.0, (let place = j.place in omega (arith, h.1)))

pub all_inside_set : (files : List (List ℕ)) (ss : List Segment) (i : ℕ) (last s : Segment) (n : ℕ) (spot : Spot) → IsJoined last n spot s → IsReached files n spot form.Copied
    → All (IsSegmentInside files) ss → All (IsSegmentInside files) (set ss i s)
all_inside_set files ss i last s n spot j h all = All-set (IsSegmentInside files) ss i s (joined_inside files last s n spot j h) all

-- ---- where bytes come from

-- one list behind another
pub from_append : (files : List (List ℕ)) (xs ys : List Source) (bs cs : List ℕ) → AreFrom files xs bs → AreFrom files ys cs → AreFrom files (xs ++ ys) (bs ++ cs)
from_append files [] ys [] cs h k = k
from_append files [] ys (b ∷ bs) cs h k = absurd h
from_append files (x ∷ xs) ys [] cs h k = absurd h
from_append files (x ∷ xs) ys (b ∷ bs) cs h k = (h.0, from_append files xs ys bs cs h.1 k)

-- a file more leaves them so
has_file : (files : List (List ℕ)) (k p b : ℕ) → slice_get (get_or files k []) p ≡ Some b → k < length files
has_file [] k p b e = absurd cc
has_file (f ∷ fs) zero p b e = omega arith
has_file (f ∷ fs) (suc k) p b e =
    let less = has_file fs k p b e in
    omega arith

from_more_one : (files : List (List ℕ)) (f : List ℕ) (s : Source) (b : ℕ) → IsFrom files s b → IsFrom (files ++ f ∷ []) s b
from_more_one files f (Copied s) b h = rw (get_or_append_left files (f ∷ []) [] s.file (has_file files s.file s.place b h)) h
from_more_one files f (Made s) b h = inside_spot_more files f s h
from_more_one files f (Expanded s number) b h = inside_spot_more files f s h

from_more : (files : List (List ℕ)) (f : List ℕ) (ss : List Source) (bs : List ℕ) → AreFrom files ss bs → AreFrom (files ++ f ∷ []) ss bs
from_more files f [] [] h = tt
from_more files f [] (b ∷ bs) h = absurd h
from_more files f (s ∷ ss) [] h = absurd h
from_more files f (s ∷ ss) (b ∷ bs) h = (from_more_one files f s b h.0, from_more files f ss bs h.1)

pub all_from_more : (fs : List SourceFile) (f : SourceFile) (ss : List Source) (bs : List ℕ) → AreFrom (map bytes_of fs) ss bs → AreFrom (map bytes_of (fs ++ f ∷ [])) ss bs
all_from_more fs f ss bs h = subst (λ (files : List (List ℕ)). AreFrom files ss bs) (sym (map-append bytes_of fs (f ∷ []))) (from_more (map bytes_of fs) (bytes_of f) ss bs h)

-- bytes that stand for what is at a spot, and those of an expansion
pub made_from : (files : List (List ℕ)) (s : Spot) (bs : List ℕ) → IsInside files s → AreFrom files (sources_in form.Made s (length bs)) bs
made_from files s [] h = tt
made_from files s (b ∷ bs) h = (h, made_from files s bs h)

pub expanded_from : (files : List (List ℕ)) (s : Spot) (number : ℕ) (bs : List ℕ) → IsInside files s → AreFrom files (sources_in (form.Expanded number) s (length bs)) bs
expanded_from files s number [] h = tt
expanded_from files s number (b ∷ bs) h = (h, expanded_from files s number bs h)

-- bytes that are copied
get_drop : (xs : List ℕ) (p x : ℕ) (r : List ℕ) → drop p xs ≡ x ∷ r → slice_get xs p ≡ Some x
get_drop [] zero x r e = absurd cc
get_drop [] (suc p) x r e = absurd cc
get_drop (y ∷ ys) zero x r e = cc
get_drop (y ∷ ys) (suc p) x r e = get_drop ys p x r e

drop_next : (xs : List ℕ) (p x : ℕ) (r : List ℕ) → drop p xs ≡ x ∷ r → drop (suc p) xs ≡ r
drop_next [] zero x r e = absurd cc
drop_next [] (suc p) x r e = absurd cc
drop_next (y ∷ ys) zero x r e = cc
drop_next (y ∷ ys) (suc p) x r e = drop_next ys p x r e

copied_are : (files : List (List ℕ)) (file place : ℕ) (bs rest : List ℕ) → drop place (get_or files file []) ≡ bs ++ rest → AreFrom files (copied_from file place (length bs)) bs
copied_are files file place [] rest e = tt
copied_are files file place (b ∷ bs) rest e =
    (get_drop (get_or files file []) place b (bs ++ rest) e, copied_are files file (suc place) bs rest (drop_next (get_or files file []) place b (bs ++ rest) e))

pub copied_are_from : (fs : List SourceFile) (f : SourceFile) (s : Spot) (bs : List ℕ) (n : ℕ) → f ≡ get_or fs s.file f → s.file < length fs → bs ≡ take n (drop s.place (bytes_of f))
    → AreFrom (map bytes_of fs) (sources_in form.Copied s (length bs)) bs
copied_are_from fs f s bs n is less part =
    let whole : drop s.place (get_or (map bytes_of fs) s.file []) ≡ bs ++ drop n (drop s.place (bytes_of f)) =
    ap (drop s.place) (file_at fs s.file f is less) ∙ sym (take-append-drop n (drop s.place (bytes_of f))) ∙ ap (λ (l : List ℕ). l ++ drop n (drop s.place (bytes_of f))) (sym part) in
    copied_are (map bytes_of fs) s.file s.place bs _ whole

-- ---- segments with one more, or with a longer last one

pub sources_push : (ss : List Segment) (s : Segment) → sources_of (ss ++ s ∷ []) ≡ sources_of ss ++ sources_in s.form s.spot s.size
sources_push [] s = append-nil (sources_in s.form s.spot s.size)
sources_push (t ∷ ts) s =
    ap (λ (l : List Source). sources_in t.form t.spot t.size ++ l) (sources_push ts s) ∙ sym (append_assoc (sources_in t.form t.spot t.size) (sources_of ts) (sources_in s.form s.spot s.size))

copied_split : (file place n k : ℕ) → copied_from file place (n + k) ≡ copied_from file place n ++ copied_from file (place + n) k
copied_split file place zero k =
    let same : place + 0 ≡ place = omega arith in
    let none : 0 + k ≡ k = omega arith in
    rw (same, none) refl
copied_split file place (suc n) k =
    let more : suc n + k ≡ suc (n + k) = omega arith in
    let next : place + suc n ≡ suc place + n = omega arith in
    rw (more, next) (ap (λ (l : List Source). Copied (record { file = file; place = place }) ∷ l) (copied_split file (suc place) n k))

joined_sources : (last s : Segment) (n : ℕ) (spot : Spot) → IsJoined last n spot s → sources_in s.form s.spot s.size ≡ sources_in last.form last.spot last.size ++ sources_in form.Copied spot n
joined_sources last s n spot j =
    rw (j.copied, j.was, j.begins, j.size, ← j.file, ← j.place) (copied_split last.spot.file last.spot.place last.size n)

pub sources_set_last : (ss : List Segment) (i : ℕ) (last s : Segment) (n : ℕ) (spot : Spot) → last ≡ get_or ss i last → i + 1 ≡ length ss → IsJoined last n spot s
    → sources_of (set ss i s) ≡ sources_of ss ++ sources_in form.Copied spot n
sources_set_last [] i last s n spot is end j = absurd (omega arith)
sources_set_last (t ∷ []) zero last s n spot is end j =
    append-nil (sources_in s.form s.spot s.size) ∙ joined_sources last s n spot j
    ∙ ap (λ (x : Segment). sources_in x.form x.spot x.size ++ sources_in form.Copied spot n) is
    ∙ ap (λ (l : List Source). l ++ sources_in form.Copied spot n) (sym (append-nil (sources_in t.form t.spot t.size)))
sources_set_last (t ∷ u ∷ us) zero last s n spot is end j = absurd (omega arith)
sources_set_last (t ∷ ts) (suc i) last s n spot is end j =
    let less : i + 1 ≡ length ts = omega arith in
    ap (λ (l : List Source). sources_in t.form t.spot t.size ++ l) (sources_set_last ts i last s n spot is less j)
    ∙ sym (append_assoc (sources_in t.form t.spot t.size) (sources_of ts) (sources_in form.Copied spot n))

-- ---- the facts of what is made, after a segment was put behind the others

pub pushed_inside : (files : List (List ℕ)) (ss new : List Segment) (s : Segment) → new ≡ ss ++ s ∷ [] → IsSegmentInside files s → All (IsSegmentInside files) ss → All (IsSegmentInside files) new
pushed_inside files ss new s e h all = subst (λ (l : List Segment). All (IsSegmentInside files) l) (sym e) (All-push (IsSegmentInside files) ss s all h)

pub pushed_begins : (ss new : List Segment) (s : Segment) → new ≡ ss ++ s ∷ [] → s.offset ≡ sum_by size_of ss → BeginsAtFirst ss → BeginsAtFirst new
pushed_begins ss new s e at first = subst (λ (l : List Segment). BeginsAtFirst l) (sym e) (begins_push ss s first at)

pub pushed_covered : (ss new : List Segment) (s : Segment) (n m : ℕ) → new ≡ ss ++ s ∷ [] → m ≡ n + s.size → sum_by size_of ss ≡ n → sum_by size_of new ≡ m
pushed_covered ss new s n m e more covered =
    let sizes : sum_by size_of (ss ++ s ∷ []) ≡ sum_by size_of ss + s.size = sum_by_push size_of ss s in
    rw e (omega arith)

pub pushed_mapped : (files : List (List ℕ)) (ss new : List Segment) (s : Segment) (text bs all : List ℕ) → new ≡ ss ++ s ∷ [] → all ≡ text ++ bs → AreFrom files (sources_of ss) text
    → AreFrom files (sources_in s.form s.spot s.size) bs → AreFrom files (sources_of new) all
pushed_mapped files ss new s text bs all e f old more = rw (e, f, sources_push ss s) (from_append files (sources_of ss) (sources_in s.form s.spot s.size) text bs old more)

-- ---- the same, after the last segment was made longer

pub longer_covered : (ss : List Segment) (i : ℕ) (last s : Segment) (n : ℕ) (spot : Spot) → last ≡ get_or ss i last → i < length ss → IsJoined last n spot s
    → sum_by size_of (set ss i s) ≡ sum_by size_of ss + n
longer_covered ss i last s n spot is less j =
    let sums : sum_by size_of (set ss i s) + size_of (get_or ss i last) ≡ sum_by size_of ss + size_of s = sum_by-set size_of ss i s last less in
    let same : size_of last ≡ size_of (get_or ss i last) = ap size_of is in
    let size : size_of s ≡ size_of last + n = j.size in
    omega arith

pub longer_mapped : (files : List (List ℕ)) (ss : List Segment) (i : ℕ) (last s : Segment) (spot : Spot) (text bs all : List ℕ) → last ≡ get_or ss i last → i + 1 ≡ length ss
    → IsJoined last (length bs) spot s → all ≡ text ++ bs → AreFrom files (sources_of ss) text → AreFrom files (sources_in form.Copied spot (length bs)) bs
    → AreFrom files (sources_of (set ss i s)) all
longer_mapped files ss i last s spot text bs all is end j f old more =
    rw (f, sources_set_last ss i last s (length bs) spot is end j) (from_append files (sources_of ss) (sources_in form.Copied spot (length bs)) text bs old more)

-- ---- the same, where a file was opened, and where it could not be

pub opened_worked : (fs new : List SourceFile) (f : SourceFile) (work size n : ℕ) → new ≡ fs ++ f ∷ [] → size ≡ length (bytes_of f) → size < work → sum_by length (map bytes_of fs) + work ≤ n
    → sum_by length (map bytes_of new) + (work - (size + 1)) ≤ n
opened_worked fs new f work size n e is less old =
    let sizes : sum_by length (map bytes_of (fs ++ f ∷ [])) ≡ sum_by length (map bytes_of fs) + length (bytes_of f) = sizes_push fs f in
    rw e (omega arith)

pub opened_inside : (fs new : List SourceFile) (f : SourceFile) (ss : List Segment) → new ≡ fs ++ f ∷ [] → All (IsSegmentInside (map bytes_of fs)) ss → All (IsSegmentInside (map bytes_of new)) ss
opened_inside fs new f ss e h = subst (λ (l : List SourceFile). All (IsSegmentInside (map bytes_of l)) ss) (sym e) (all_inside_more fs f ss h)

pub opened_mapped : (fs new : List SourceFile) (f : SourceFile) (ss : List Source) (bs : List ℕ) → new ≡ fs ++ f ∷ [] → AreFrom (map bytes_of fs) ss bs → AreFrom (map bytes_of new) ss bs
opened_mapped fs new f ss bs e h = subst (λ (l : List SourceFile). AreFrom (map bytes_of l) ss bs) (sym e) (all_from_more fs f ss bs h)

pub kept_worked : (fs new : List SourceFile) (work n : ℕ) → new ≡ fs → sum_by length (map bytes_of fs) + work ≤ n → sum_by length (map bytes_of new) + work ≤ n
kept_worked fs new work n e h = subst (λ (l : List SourceFile). sum_by length (map bytes_of l) + work ≤ n) (sym e) h

pub kept_inside : (fs new : List SourceFile) (ss : List Segment) → new ≡ fs → All (IsSegmentInside (map bytes_of fs)) ss → All (IsSegmentInside (map bytes_of new)) ss
kept_inside fs new ss e h = subst (λ (l : List SourceFile). All (IsSegmentInside (map bytes_of l)) ss) (sym e) h

pub kept_mapped : (fs new : List SourceFile) (ss : List Source) (bs : List ℕ) → new ≡ fs → AreFrom (map bytes_of fs) ss bs → AreFrom (map bytes_of new) ss bs
kept_mapped fs new ss bs e h = subst (λ (l : List SourceFile). AreFrom (map bytes_of l) ss bs) (sym e) h
