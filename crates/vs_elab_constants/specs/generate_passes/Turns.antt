-- What the functions on turns of generate loops answer.
use Rattle.std.specs.Prelude.{◌≡◌, ℕ, ◌+◌, ◌<◌, ◌≤◌, Bool, true, false, ◌&&◌, List, [], ◌∷◌, Option, Some, None, if◌then◌else◌}
use Rattle.vs_syntax.specs.declared.tree.LoopHeader.{LoopHeader}
use Rattle.vs_scopes.specs.vs_widths.specs.declared.constants.Const.{Const}
use Rattle.vs_scopes.specs.vs_widths.specs.Environment.{Environment}
use Rattle.vs_scopes.specs.vs_widths.specs.Findings.{Finding, Has, Lacks}
use Rattle.vs_scopes.specs.vs_widths.specs.Constants.{constant_finding}
use Rattle.vs_widths.specs.Expressions.{meant}
use Rattle.vs_syntax.specs.declared.tree.Expr.{Expr}
use Rattle.vs_scopes.specs.declared.faults.Reason.{Reason}
use Rattle.vs_scopes.specs.declared.faults.Reason.TheVariants.{Endless}
use Rattle.vs_scopes.specs.vs_widths.specs.declared.faults.WidthReason.{WidthReason}
use Rattle.vs_scopes.specs.Parameters.{any_fault}
use Rattle.vs_scopes.specs.scopes_passes.Sizes.{width_faults}
use Rattle.vs_scopes.specs.Generate.{holds, condition_fault, genvar_value, genvar_fault, Turns, turns, faulty, endless, one_more}

-- why a loop has no turns
abbrev pub turn_fault : Turns → Reason → Bool
turn_fault (turns cs) r = false
turn_fault (faulty faults) r = width_faults faults r
turn_fault endless Endless = true
turn_fault endless r = false

-- a fault of one turn, where names are bound so in it: one of the condition, or of the next value where that holds
abbrev pub expression_fault : Environment → LoopHeader → WidthReason → Bool
expression_fault inner h w =
    if any_fault (condition_fault inner h.condition) then condition_fault inner h.condition w
    else holds inner h.condition && genvar_fault inner h.step w

abbrev pub step_fault : Environment → LoopHeader → Reason → Bool
step_fault inner h = width_faults (expression_fault inner h)

-- the next value of the genvar, where the condition holds in a turn
abbrev pub next_value : Environment → LoopHeader → Option Const
next_value inner h = if holds inner h.condition then Some (genvar_value inner h.step) else None

-- turns behind those of these values
abbrev pub with_turns : List Const → Turns → Turns
with_turns [] t = t
with_turns (c ∷ cs) t = one_more c (with_turns cs t)

-- whether a size was found
abbrev pub is_found : Finding → Bool
is_found (Has width signed) = true
is_found (Lacks faults) = false

-- the value that an expression, which is a constant, gives a genvar
pub record IsGenvarValue (env : Environment) (e : Expr) (c : Const) : Type 0 where
  pub found : is_found (constant_finding (meant env e)) ≡ true
  pub value : c ≡ genvar_value env e

-- how many turns there are behind so many and as many more, where a design may have as many (profile)
abbrev pub CountsTurns : ℕ → ℕ → Option ℕ → Type 0
CountsTurns before more None = 65536 < before + more
CountsTurns before more (Some n) = (n ≡ before + more) × (n ≤ 65536)
