-- Faults that stand in the scope of a statement itself: no fault further inside.
use Rattle.std.proofs.Common.{ℕ, sym, subst}
use Rattle.vs_elab_statements.specs.vs_scopes.specs.declared.faults.BodyFault.{BodyFault}
use Rattle.vs_elab_statements.specs.vs_scopes.specs.declared.faults.BodyFault.TheVariants as b
use Rattle.vs_elab_statements.specs.declared.faults.StatementFault.{StatementFault}
use Rattle.vs_elab_statements.specs.passes.Faults.{as_statement_fault, IsBelow}
use Rattle.vs_elab_statements.specs.forms_passes.Forms.{TakesOneNot}

-- too many statements
pub overfull_below : (n first : ℕ) (e : StatementFault) → TakesOneNot first e → IsBelow n e
overfull_below n first e h = subst (IsBelow n) (sym h.0) tt

-- a part of a statement
pub refused_below : (n : ℕ) (f : BodyFault) → IsBelow n (as_statement_fault f)
refused_below n b.Memory = tt
refused_below n (b.Refused r) = tt
