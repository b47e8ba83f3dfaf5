-- Lemmas on the tables of options: what a parse gives and refuses is known of them.
use Rattle.std.proofs.Common.{◌≡◌, ◌∙◌, Bool, true, false, refl, ap}
use Rattle.std.specs.Prelude.{◌&&◌}
use Rattle.clap.specs.Words.{App, is_simple, is_simple_and_free}
use Rattle.clap.proofs.OnLiterals.{clap_on_literals}
use Rattle.vs_program_words.specs.Options.{AreOptions, Words, options_of}

options_simple : (strict : Bool) (orders texts grains rules : Words) → is_simple_and_free (options_of strict orders texts grains rules) ≡ true
unfolding clap_on_literals
options_simple true orders texts grains rules = refl
options_simple false orders texts grains rules = refl

pub are_simple_and_free : {strict : Bool} (a : App) → AreOptions strict a → is_simple_and_free a ≡ true
are_simple_and_free {strict = strict} a o = ap is_simple_and_free o.options ∙ options_simple strict o.orders o.texts o.grains o.rules

pub are_simple : {strict : Bool} (a : App) → AreOptions strict a → is_simple a ≡ true
are_simple {strict = strict} a o = first (is_simple a) _ (are_simple_and_free {strict = strict} a o)
  where
    first : (x y : Bool) → (x && y) ≡ true → x ≡ true
    first true y h = refl
    first false y h = absurd cc
