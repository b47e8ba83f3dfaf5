-- Lemmas on what is left out at the end of a dump.
use Rattle.std.proofs.Common.{◌≡◌, ◌∙◌, ◌⊎◌, inl, inr, ℕ, Bool, true, List, [], ◌∷◌, ◌++◌, Option, Some, None, codes, ap, sym, subst, append_assoc, append-nil}
use Rattle.std.specs.Prelude.{Result, Ok, Err, OnOk, MatchResult}
use Rattle.std.specs.Io.KnownBytes.{Keeps, append_known}
use Rattle.std.proofs.KnownBytes.{Keeps-trans, append_known-kept}
use Rattle.vs_program_words.specs.declared.words.Subcommand.{Subcommand}
use Rattle.vs_program_words.specs.declared.words.Subcommand.TheVariants.{Run, RunCertified, Check, Certify, Race, Elab, Preprocess}
use Rattle.vs_program.specs.Ends.{IsFinished, IsOpen}
use Rattle.vs_program.specs.passes.Kept.{IsEndless}

-- the line that is left out of a run which goes to the greatest moment
abbrev last_line : List ℕ
last_line = codes "#4611686018427387903" ++ 10 ∷ []

-- nothing is left out but of such a run
pub is_open : (s : Subcommand) (cuts : Bool) (cut : List ℕ) → (cuts ≡ true → IsEndless s) → (cut ≡ []) ⊎ ((cuts ≡ true) × (cut ≡ last_line)) → IsOpen s cut
is_open (Run q) cuts cut endless (inl none) = inl none
is_open (Run q) cuts cut endless (inr some) = inr (endless some.0, some.1)
is_open (RunCertified q) cuts cut endless (inl none) = inl none
is_open (RunCertified q) cuts cut endless (inr some) = inr (endless some.0, some.1)
is_open (Check top rules) cuts cut endless (inl none) = none
is_open (Check top rules) cuts cut endless (inr some) = absurd (endless some.0)
is_open (Certify top grain rules) cuts cut endless (inl none) = none
is_open (Certify top grain rules) cuts cut endless (inr some) = absurd (endless some.0)
is_open (Race q) cuts cut endless (inl none) = none
is_open (Race q) cuts cut endless (inr some) = absurd (endless some.0)
is_open (Elab top) cuts cut endless (inl none) = none
is_open (Elab top) cuts cut endless (inr some) = absurd (endless some.0)
is_open Preprocess cuts cut endless (inl none) = none
is_open Preprocess cuts cut endless (inr some) = absurd (endless some.0)

-- where a line may be left out, it is left out or isn't
pub where_cut : (a b : Option (List ℕ)) (cuts : Bool) (line : List ℕ) → cuts ≡ true → ((cut : List ℕ) × Keeps a (append_known b cut) × ((cut ≡ []) ⊎ (cut ≡ line)))
    → (cut : List ℕ) × Keeps a (append_known b cut) × ((cut ≡ []) ⊎ ((cuts ≡ true) × (cut ≡ line)))
where_cut a b cuts line asked h = (h.0, h.1, kind h.2)
  where
    kind : (h.0 ≡ []) ⊎ (h.0 ≡ line) → (h.0 ≡ []) ⊎ ((cuts ≡ true) × (h.0 ≡ line))
    kind (inl none) = inl none
    kind (inr is) = inr (asked, is)

-- what is left out stays left out where the rest is kept
pub cut_kept : (a b c : Option (List ℕ)) (cut : List ℕ) → Keeps a (append_known b cut) → Keeps b c → Keeps a (append_known c cut)
cut_kept a b c cut before after = Keeps-trans a (append_known b cut) (append_known c cut) before (append_known-kept b c cut after)

-- and so is what was lost in front of it
pub cut_lost : (a b c : Option (List ℕ)) (cut lost : List ℕ) → Keeps a (append_known b cut) → Keeps b (append_known c lost) → Keeps a (append_known c (lost ++ cut))
cut_lost None b c cut lost before after = tt
cut_lost (Some a) None c cut lost before after = absurd before
cut_lost (Some a) (Some b) None cut lost before after = absurd after
cut_lost (Some a) (Some b) (Some c) cut lost before after = sym (append_assoc c lost cut) ∙ ap (λ l. l ++ cut) after ∙ before

-- where nothing is left out, all is there
pub nothing_cut : (a : Option (List ℕ)) → Keeps a (append_known a [])
nothing_cut None = tt
nothing_cut (Some bytes) = append-nil bytes

-- what a call did is written, but for what is left out, or a write failed
pub finished : {T E : Type 0} (s : Subcommand) (text mid held new dump dump_mid dump_held dump_new : Option (List ℕ)) (done status : ℕ) (r : Result T E)
    → ((cut : List ℕ) × Keeps text (append_known mid cut) × IsOpen s cut) → ((cut : List ℕ) × Keeps dump (append_known dump_mid cut) × IsOpen s cut)
    → OnOk r (Keeps mid held × Keeps dump_mid dump_held) → new ≡ held → dump_new ≡ dump_held
    → ((lost : List ℕ) × Keeps mid (append_known new lost)) → ((lost : List ℕ) × Keeps dump_mid (append_known dump_new lost))
    → MatchResult r (λ _. status ≡ done) (λ _. status ≡ 3) → IsFinished s text new dump dump_new done status
finished s text mid held new dump dump_mid dump_held dump_new done status (Ok x) cut dump_cut whole is dump_is lost dump_lost told = inl (
  cut.0,
  dump_cut.0,
  cut_kept text mid new cut.0 cut.1 (subst (Keeps mid) (sym is) whole.0),
  cut_kept dump dump_mid dump_new dump_cut.0 dump_cut.1 (subst (Keeps dump_mid) (sym dump_is) whole.1),
  cut.2,
  dump_cut.2,
  told,
)
finished s text mid held new dump dump_mid dump_held dump_new done status (Err e) cut dump_cut whole is dump_is lost dump_lost told = inr (
  lost.0 ++ cut.0,
  dump_lost.0 ++ dump_cut.0,
  cut_lost text mid new cut.0 lost.0 cut.1 lost.1,
  cut_lost dump dump_mid dump_new dump_cut.0 dump_lost.0 dump_cut.1 dump_lost.1,
  told,
)
