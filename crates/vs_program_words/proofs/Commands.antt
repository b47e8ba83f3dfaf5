-- Lemmas on commands that are made of arguments and subcommands.
use Rattle.std.proofs.Common.{arith, suc, ◌≡◌, ◌∙◌, ◌&&◌, ap, not, refl, sym, Bool, true, false, List, [], ◌∷◌, map}
use Rattle.std.specs.Prelude.{All, IfOk, IsOkAnd, Result, Ok, Err, fold}
use Rattle.std.specs.declared.alloc.AllocError.{AllocError}
use Rattle.clap.specs.Built.{AddsArg, AddsInTurn}
use Rattle.clap.specs.Words.{App, Shape, app_of, rule_of, shape_of, with_rule, with_subcommand}
use Rattle.clap.specs.declared.builder.arg.Arg.{Arg}
use Rattle.clap.specs.declared.builder.command.Command.{Command}

-- a command that was given arguments, of which none holds everywhere, has their rules
pub in_turn : (old : Command) (args : List Arg) (new : Command) → All (λ a. a.global ≡ false) args → AddsInTurn AddsArg old args new
    → app_of new ≡ fold with_rule (app_of old) (map rule_of args)
in_turn old [] new local same = ap app_of (sym same)
in_turn old (a ∷ rest) new local steps =
    in_turn steps.0 rest new (λ k d h. local (suc k) d (omega arith)) steps.2 ∙ ap (λ (x : App). fold with_rule x (map rule_of rest)) (steps.1.shape (local 0 a (omega arith)))

-- a plain command has no option that holds everywhere
pub no_globals : (x y g z : Bool) → (x && (y && (not g && z))) ≡ true → g ≡ false
no_globals true true false z h = refl
no_globals true true true z h = absurd cc
no_globals true false g z h = absurd cc
no_globals false y g z h = absurd cc

-- a command of a plain shape is plain
pub plain_of : (made : Result Command AllocError) (o : Shape) → o.is_plain ≡ true → IfOk made (λ s. shape_of s ≡ o) → IfOk made (λ s. (shape_of s).is_plain ≡ true)
plain_of (Ok s) o plain same = ap (λ (x : Shape). x.is_plain) same ∙ plain
plain_of (Err e) o plain same = tt

-- a command with one more subcommand, of a known shape
pub added : (made : Result Command AllocError) (old new : App) (o : Shape) → IfOk made (λ s. shape_of s ≡ o)
    → IsOkAnd made (λ s. new ≡ with_subcommand old (shape_of s)) → new ≡ with_subcommand old o
added (Ok s) old new o same h = h ∙ ap (with_subcommand old) same
added (Err e) old new o same h = absurd h
