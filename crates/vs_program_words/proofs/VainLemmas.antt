-- Lemmas on words that ask for nothing.
use Rattle.std.proofs.Common.{List, ℕ, sym, subst, inr}
use Rattle.vs_program_words.specs.Asks.{GivesNoOrder, GivesNoUntil, IsNoPolicy, IsNoUntil, LooseFails, WordsGive, by_policy, by_until}

-- words with a text that is no moment, or no order, ask for nothing by the table in which the top and the moment may be left out
pub no_until : (words : List (List ℕ)) (text : List ℕ) → WordsGive words (GivesNoUntil text) → LooseFails words
no_until words text given = inr (record { taken = given.taken; unread = by_until (subst IsNoUntil (sym given.gives.0) given.gives.1) })

pub no_order : (words : List (List ℕ)) (text : List ℕ) → WordsGive words (GivesNoOrder text) → LooseFails words
no_order words text given = inr (record { taken = given.taken; unread = by_policy (subst IsNoPolicy (sym given.gives.0) given.gives.1) })
