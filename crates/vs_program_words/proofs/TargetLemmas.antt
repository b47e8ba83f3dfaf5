-- Lemmas on what a call leaves to its source.
use Rattle.std.proofs.Common.{◌≡◌, ◌∙◌, ℕ, Bool, true, false, List, [], ◌∷◌, ap, refl, subst, sym, true≢false}
use Rattle.std.specs.Prelude.{Option, Some, None, MatchOption, IfErr, IfOk, Result, Ok, Err}
use Rattle.vs_program_words.specs.declared.words.Call as asked
use Rattle.vs_program_words.specs.declared.words.Subcommand.{Subcommand}
use Rattle.vs_syntax.specs.declared.tree.Source.{Source}
use Rattle.vs_program_words.specs.Tops.{top_modules}
use Rattle.vs_program_words.specs.FromSource.{GivesTop, IsOf, IsTarget, WantsTop, found, given, given_top, unread}
use Rattle.vs_program_words.specs.Targets.{Fails, FailsBy, IsAt, IsMeant, IsSourceOf, MeansTop, by_none, by_source, by_words, top_of}
use Rattle.vs_program_words.specs.declared.target.Target.{Target}
use Rattle.vs_program_words.specs.declared.target.TargetFault.{TargetFault}
use Rattle.vs_program_words.specs.declared.target.TargetFault.TheVariants as fault

-- a source that gives no top fails the call which leaves it to it
pub wants_top : (source : Source) (c : asked.Call) (f : TargetFault) → c.finds_top ≡ true → WantsTop source f → FailsBy source c f
wants_top source c (fault.Top names) finds wants = (finds, wants)
wants_top source c (fault.Until tick) finds wants = absurd wants
wants_top source c fault.Memory finds wants = tt

-- and one that the text is fails it by the text
pub fails_of : (text : List ℕ) (c : asked.Call) (source : Source) (f : TargetFault) → IsSourceOf text source → FailsBy source c f → Fails text c f
fails_of text c source (fault.Top names) is fails = (source, is, fails)
fails_of text c source (fault.Until tick) is fails = (source, is, fails)
fails_of text c source fault.Memory is fails = tt

-- what holds of a value or of a fault where something else does
pub found_of : (text : List ℕ) (c : asked.Call) (source : Source) (r : Result Target TargetFault) → IsSourceOf text source
    → IfOk r (IsOf source c.finds_top c.unit c.subcommand) → IfOk r (IsTarget text c)
found_of text c source (Ok t) is of = found source is of
found_of text c source (Err f) is of = tt

pub failed_of : (text : List ℕ) (c : asked.Call) (source : Source) (r : Result Target TargetFault) → IsSourceOf text source → IfErr r (FailsBy source c)
    → IfErr r (Fails text c)
failed_of text c source (Ok t) is fails = tt
failed_of text c source (Err f) is fails = fails_of text c source f is fails

-- a top that a source gives, and one that it needn't give
pub gives_found : (source : Source) (finds : Bool) (top : List ℕ) → finds ≡ true → top_modules source ≡ top ∷ [] → GivesTop source finds (Some top)
gives_found source true top asked is = is
gives_found source false top asked is = absurd (true≢false (sym asked))

pub gives_none : (source : Source) (finds : Bool) → finds ≡ false → GivesTop source finds None
gives_none source false asked = refl
gives_none source true asked = absurd (true≢false asked)

-- the top that a call means
module _ (c : asked.Call) (top : List ℕ) where
  abbrev Chosen : Option (List ℕ) → Type 0
  Chosen o = MatchOption o (top ≡ top_of c.subcommand) (λ name. top ≡ name)

  means_top : (source : Source) (finds : Bool) (o : Option (List ℕ)) → Chosen o → GivesTop source finds o → MeansTop source finds (top_of c.subcommand) top
  means_top source false o chosen gives = subst Chosen gives chosen
  means_top source true None chosen gives = absurd gives
  means_top source true (Some name) chosen gives = gives ∙ ap (λ (t : List ℕ). t ∷ []) (sym chosen)

  -- what a call means by what its source gives it
  pub meant_of : (text : List ℕ) (t : Target) (s : Subcommand) → Chosen (given_top t) → IsAt c.subcommand s top t.until.count → IsTarget text c t → IsMeant text c s
  meant_of text t s chosen at (given finds unit none until) =
      by_words finds unit (subst (λ (u : ℕ). IsAt c.subcommand s (top_of c.subcommand) u) until
      (subst (λ (x : List ℕ). IsAt c.subcommand s x t.until.count) (subst Chosen none chosen) at))
  meant_of text t s chosen at (found source is of) = by_source (record {
    source = source;
    read = is;
    top = top;
    until = t.until.count;
    named = means_top source c.finds_top (given_top t) chosen of.top;
    timed = of.until;
    is = at;
  })
  meant_of text t s chosen at (unread none top_none until) =
      by_none none (subst (λ (u : ℕ). IsAt c.subcommand s (top_of c.subcommand) u) until
      (subst (λ (x : List ℕ). IsAt c.subcommand s x t.until.count) (subst Chosen top_none chosen) at))
