-- The values of the parameters of a module.
use Rattle.std.specs.Prelude.{ℕ, zero, suc, Bool, true, false, ◌||◌, max, take, length, List, [], ◌∷◌, ◌++◌, Option, None, Some, map, if◌then◌else◌}
use Rattle.std.specs.List.{flat_map, list_any}
use Rattle.std.specs.Map.{update}
use Rattle.std.specs.Str.{bytes_eq}
use Rattle.vs_syntax.specs.declared.tree.Expr.{Expr}
use Rattle.vs_syntax.specs.declared.tree.Range.{Range}
use Rattle.vs_syntax.specs.declared.tree.ParameterForm.{ParameterForm}
use Rattle.vs_syntax.specs.declared.tree.ParameterForm.TheVariants.{Integer, Vector}
use Rattle.vs_widths.specs.declared.bindings.Binding.{Binding}
use Rattle.vs_widths.specs.declared.bindings.Binding.TheVariants as b
use Rattle.vs_widths.specs.declared.constants.Const.{Const}
use Rattle.vs_widths.specs.declared.faults.WidthReason.{WidthReason}
use Rattle.vs_widths.specs.declared.faults.WidthReason.TheVariants.{TooWide, Unknown, NotConstant, WrongKind}
use Rattle.vs_widths.specs.Environment.{Environment}
use Rattle.vs_widths.specs.Findings.{Finding, Has, Lacks, has_width_fault}
use Rattle.vs_widths.specs.Meants.{Meant, own}
use Rattle.vs_widths.specs.Selects.{size_found}
use Rattle.vs_widths.specs.Constants.{constant_finding, constant_in}
use Rattle.vs_scopes.specs.vs_widths.specs.Expressions.{meant}
use Rattle.vs_scopes.specs.Ranges.{Sized, sized_as}
pub use Rattle.vs_scopes.specs.Overrides.{Parameter, said, header_parameters, item_parameter, parameters_in, piece_parameters, parameters_among, parameters_of, overridable}
pub use Rattle.vs_scopes.specs.Overrides.{Given, first_end, other_ends, given_from, overriding, given_to, do_not_fit, is_override_mismatch}

-- ---- values

-- what a parameter takes of its value: the size, with the sign too or signed whatever it is; or neither, for it has its own (clause 12.2)
pub data Takes : Type 0 where
  the_size : Bool → Takes
  neither : Sized → Takes

abbrev pub vector_takes : Environment → Bool → Option Range → Takes
vector_takes env signed None = the_size signed
vector_takes env signed (Some r) = neither (sized_as env signed 0 (Some r))

-- what a parameter takes of its value by what is said of it, where names are bound so (clause 12.2; 32: profile)
abbrev pub takes_by : Environment → Option ParameterForm → Takes
takes_by env None = the_size false
takes_by env (Some Integer) = neither (sized_as env true 31 None)
takes_by env (Some (Vector f)) = vector_takes env f.signed f.range

-- the sign that was found
abbrev pub sign_found : Finding → Bool
sign_found (Has width signed) = signed
sign_found (Lacks faults) = false

-- The constant that an expression gives a parameter: with a size of its own it is given the value as in an assignment; bits of it are selected by
-- its range, where it has one (clauses 4.10, 5.4.1 and 12.2).
abbrev pub constant_by : Takes → Meant → Const
constant_by (the_size signed) m = constant_in None (signed || sign_found m.finding) (own m [] 0)
constant_by (neither z) m =
    constant_in z.bounds z.shape.signed (take z.shape.width (m.at [] 0 (max z.shape.width (size_found m.finding)) (sign_found m.finding)))

-- a fault of what is said of a parameter
abbrev pub takes_fault : WidthReason → Takes → Bool
takes_fault w (the_size signed) = false
takes_fault w (neither z) = z.faults w

-- what the value of a parameter means: it is an expression of the module, where names are bound so, or of the scope around it
abbrev pub given_meant : Environment → Environment → Given → Meant
given_meant around env (p, None) = meant env p.value
given_meant around env (p, Some e) = meant around e

-- the constant that a parameter is
abbrev pub constant_given : Environment → Environment → Given → Const
constant_given around env g = constant_by (takes_by env g.0.form) (given_meant around env g)

-- a fault of a parameter in its module: one of what is said of it, or one of its value that nothing overrides
abbrev pub own_fault : WidthReason → Environment → Given → Bool
own_fault w env (p, None) = takes_fault w (takes_by env p.form) || has_width_fault w (constant_finding (meant env p.value))
own_fault w env (p, Some e) = takes_fault w (takes_by env p.form)

-- a fault of what overrides a parameter, in the scope around
abbrev pub outer_fault : WidthReason → Environment → Given → Bool
outer_fault w around (p, None) = false
outer_fault w around (p, Some e) = has_width_fault w (constant_finding (meant around e))

-- whether any fault stands
abbrev pub any_fault : (WidthReason → Bool) → Bool
any_fault faults = faults TooWide || faults Unknown || faults NotConstant || faults WrongKind

-- ---- what names are bound to

-- what names are bound to with this one to this constant
abbrev pub with_constant : Environment → List ℕ → Const → Environment
with_constant env n c = update bytes_eq env n (Some (b.Constant c))

-- what names are bound to with those of parameters bound by f, of equal ones the first
abbrev pub with_given : (Given → Binding) → List Given → Environment → Environment
with_given f [] env n = env n
with_given f (g ∷ gs) env n = if bytes_eq n g.0.name then Some (f g) else with_given f gs env n

-- what a parameter's name is bound to where names are bound so: the constant that it is, or nothing yet where it has a fault
abbrev pub bound_given : Environment → Environment → Given → Binding
bound_given around env g =
    if any_fault (λ w. own_fault w env g || outer_fault w around g) then b.Pending else b.Constant (constant_given around env g)

-- What names are bound to after so many rounds: first no parameter has a value, and in each round those get theirs whose values and ranges name
-- such parameters alone as have one (clause 12.2; in which order they stand doesn't matter: profile).
abbrev pub known_after : ℕ → Environment → Environment → List Given → Environment
known_after zero around env gs = with_given (λ g. b.Pending) gs env
known_after (suc n) around env gs = with_given (bound_given around (known_after n around env gs)) gs env

-- What names are bound to in a module behind its parameters: in as many rounds as there are parameters each has its value that doesn't need itself.
abbrev pub known_in_module : Environment → Environment → List Given → Environment
known_in_module around env gs = known_after (length gs) around env gs

-- the constants that parameters are, each by its name
abbrev pub constants_of : Environment → Environment → List Given → List (List ℕ × Const)
constants_of around env gs = map (λ (g : Given). (g.0.name, constant_given around (known_in_module around env gs) g)) gs

-- What a parameter's name is bound to where those are told apart that wait for a value: nothing yet where it isn't a constant itself, or names one of
-- those; and something that has no value where it has another fault, its own or that of what overrides it.
abbrev pub blamed_given : Environment → Environment → Given → Binding
blamed_given around env g =
    if own_fault NotConstant env g then b.Pending
    else if any_fault (λ w. own_fault w env g || outer_fault w around g) then b.Other
    else b.Constant (constant_given around env g)

-- what names are bound to so after so many rounds, and in a module behind its parameters
abbrev pub blamed_after : ℕ → Environment → Environment → List Given → Environment
blamed_after zero around env gs = with_given (λ g. b.Pending) gs env
blamed_after (suc n) around env gs = with_given (blamed_given around (blamed_after n around env gs)) gs env

abbrev pub blamed_in_module : Environment → Environment → List Given → Environment
blamed_in_module around env gs = blamed_after (length gs) around env gs

-- What names are bound to where a fault of a parameter is looked for: a parameter is no faulty constant because it names one that has another fault.
abbrev pub known_for : WidthReason → Environment → Environment → List Given → Environment
known_for NotConstant around env gs = blamed_in_module around env gs
known_for w around env gs = known_in_module around env gs

-- a fault of one of these parameters in their module
abbrev pub own_faults : WidthReason → Environment → Environment → List Given → Bool
own_faults w around env gs = list_any (own_fault w (known_for w around env gs)) gs

-- a fault of one of the expressions that override these
abbrev pub outer_faults : WidthReason → Environment → List Given → Bool
outer_faults w around gs = list_any (outer_fault w around) gs
