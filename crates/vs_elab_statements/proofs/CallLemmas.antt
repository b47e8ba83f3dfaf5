-- Calls of system tasks that print.
use Rattle.std.proofs.Common.{◌≡◌, ℕ, ◌+◌, ◌<◌, ◌≤◌, true, false, ◌||◌, true≢false, List, [], ◌∷◌, ◌++◌, Option, None, Result, length, take, get_or, refl, ap, sym, subst, ◌∙◌}
use Rattle.std.specs.List.{list_any, AllZip}
use Rattle.std.proofs.lemmas.List.{take_all}
use Rattle.std.proofs.lemmas.Slice.Zip.{all_zipped_more, AllZip-long}
use Rattle.vs_syntax.specs.declared.tree.Expr.{Expr}
use Rattle.vs_syntax.specs.declared.tree.Argument.{Argument}
use Rattle.vs_syntax.specs.declared.tree.Argument.TheVariants as given
use Rattle.vs_syntax.specs.declared.tree.PrintTask.{PrintTask}
use Rattle.vs_syntax.specs.declared.tree.PrintArguments.{PrintArguments}
use Rattle.vs_design.specs.declared.statement.FormatArg.{FormatArg}
use Rattle.vs_design.specs.declared.statement.Call.{Call}
use Rattle.vs_design.specs.declared.statement.CallKind.{CallKind}
use Rattle.vs_scopes.specs.vs_strobe.specs.declared.fault.FormatReason.{FormatReason}
use Rattle.vs_scopes.specs.vs_strobe.specs.declared.fault.FormatReason.TheVariants.{BadDirective, TooFewArguments, TooManyArguments}
use Rattle.vs_scopes.specs.vs_strobe.specs.Pieces.{format_fault}
use Rattle.vs_scopes.specs.vs_widths.specs.Environment.{Environment}
use Rattle.vs_scopes.specs.declared.faults.Reason.{Reason}
use Rattle.vs_scopes.specs.declared.faults.Reason.TheVariants.{Width, Format}
use Rattle.vs_scopes.specs.declared.faults.BodyFault.{BodyFault}
use Rattle.vs_scopes.specs.Printed.{Path, printed}
use Rattle.vs_scopes.specs.scopes_passes.Answers.{Elaborates, Refuses}
use Rattle.vs_scopes.proofs.AnswerLemmas.{refused_by, answered_by}
use Rattle.vs_scopes.proofs.Folds.{any_push, any_at}
use Rattle.vs_design.specs.vs_logic4.proofs.Basics.{take_push}
use Rattle.vs_elab_statements.specs.Surroundings.{Surroundings}
use Rattle.vs_elab_statements.specs.Statements.{call_kind, print_text, print_values, operand_fault, argument_fault, print_fault, IsArgument, IsCall, is_wrong}
use Rattle.vs_elab_statements.specs.passes.Bodies.{format_faults, call_fault, MakesCall}

-- ---- arguments

-- arguments that have no fault, as those of a design
pub record ArgumentsAre (env : Environment) (xs : List Argument) (ys : List FormatArg) : Type 0 where
  pub sound : (r : Reason) → list_any (argument_fault r env) xs ≡ false
  pub means : AllZip (IsArgument env) xs ys

pub arguments_none : (env : Environment) (ys : List FormatArg) → ys ≡ [] → ArgumentsAre env [] ys
arguments_none env ys h = subst (ArgumentsAre env []) (sym h) (record { sound = λ r. refl; means = tt })

pub arguments_more : (env : Environment) (xs : List Argument) (i : ℕ) (x : Argument) (ys zs : List FormatArg) (y : FormatArg) → i < length xs → x ≡ get_or xs i x → zs ≡ ys ++ y ∷ [] → ArgumentsAre env (take i xs) ys →
    ((r : Reason) → argument_fault r env x ≡ false) × IsArgument env x y → ArgumentsAre env (take (i + 1) xs) zs
arguments_more env xs i x ys zs y h k e p q =
    let done : ArgumentsAre env (take i xs ++ x ∷ []) (ys ++ y ∷ []) = record {
      sound = λ r. any_push (argument_fault r env) (take i xs) x (p.sound r) (q.0 r);
      means = all_zipped_more (IsArgument env) (take i xs) ys x y p.means q.1;
    } in
    subst (λ z. ArgumentsAre env z zs) (sym (take_push xs i x h k)) (subst (ArgumentsAre env (take i xs ++ x ∷ [])) (sym e) done)

pub arguments_all : (env : Environment) (xs : List Argument) (i : ℕ) (ys : List FormatArg) → length xs ≤ i → ArgumentsAre env (take i xs) ys → ((r : Reason) → list_any (argument_fault r env) xs ≡ false) × AllZip (IsArgument env) xs ys
arguments_all env xs i ys h p = let q = subst (λ z. ArgumentsAre env z ys) (take_all i xs h) p in (q.sound, q.means)

pub argument_refused : (env : Environment) (xs : List Argument) (i : ℕ) (x : Argument) (f : BodyFault) → i < length xs → x ≡ get_or xs i x → Refuses (λ r. argument_fault r env x) f → Refuses (λ r. list_any (argument_fault r env) xs) f
argument_refused env xs i x f h k g = refused_by (λ r. argument_fault r env x) (λ r. list_any (argument_fault r env) xs) f (λ r u. any_at (argument_fault r env) xs i x h k u) g

-- ---- formats

-- what is wrong with a format is one of the three faults, or nothing
right_format : (f : FormatReason) (found : Option FormatReason) → found ≡ None → is_wrong f found ≡ false
right_format f found h = ap (is_wrong f) h ∙ by f
  where
    by : (f : FormatReason) → is_wrong f None ≡ false
    by BadDirective = refl
    by TooFewArguments = refl
    by TooManyArguments = refl

-- ---- calls

-- a reason that no expression has is none of an argument
no_value : (env : Environment) (r : Reason) → ((e : Expr) → operand_fault r env e ≡ false) → (xs : List Argument) → list_any (argument_fault r env) xs ≡ false
no_value env r h [] = refl
no_value env r h (given.Value e ∷ xs) = ap (λ b. b || list_any (argument_fault r env) xs) (h e) ∙ no_value env r h xs
no_value env r h (given.Time ∷ xs) = no_value env r h xs

module _ (env : Surroundings) (p : Path) (kind : CallKind) (text : List ℕ) (xs : List Argument) where
  -- a fault of an argument is one of the call
  pub values_refused : (f : BodyFault) → Refuses (λ r. list_any (argument_fault r env.names) xs) f → Refuses (call_fault env.names text xs) f
  values_refused f h = refused_by (λ r. list_any (argument_fault r env.names) xs) (call_fault env.names text xs) f by h
    where
      by : (r : Reason) → list_any (argument_fault r env.names) xs ≡ true → call_fault env.names text xs r ≡ true
      by (Width w) u = u
      by r u = absurd (true≢false (sym u ∙ no_value env.names r (λ e. refl) xs))

  -- a fault of the format is one of the call
  pub format_refused : (n : ℕ) (f : BodyFault) → n ≡ length xs → Refuses (format_faults (format_fault text n)) f → Refuses (call_fault env.names text xs) f
  format_refused n f e h = refused_by (format_faults (format_fault text n)) (call_fault env.names text xs) f by h
    where
      by : (r : Reason) → format_faults (format_fault text n) r ≡ true → call_fault env.names text xs r ≡ true
      by (Format g) u = ap (λ k. is_wrong g (format_fault text k)) (sym e) ∙ u
      by _ u = absurd (true≢false (sym u))

  -- a call without a fault
  pub call_made : (c : Call) (ys : List FormatArg) → ((r : Reason) → list_any (argument_fault r env.names) xs ≡ false) × AllZip (IsArgument env.names) xs ys → format_fault text (length ys) ≡ None →
      c.kind ≡ kind → c.text.items ≡ text → c.args.items ≡ ys → c.path.items ≡ printed p → c.ratio ≡ env.ratio → ((r : Reason) → call_fault env.names text xs r ≡ false) × MakesCall env p kind text xs c
  call_made c ys h fits k t a q n = (
    by,
    record {
      kind_is = k;
      text_is = t;
      args = subst (AllZip (IsArgument env.names) xs) (sym a) h.1;
      fits = ap (λ z. format_fault z (length c.args.items)) t ∙ ap (λ z. format_fault text (length z)) a ∙ fits;
      path = q;
      ratio = n;
    },
  )
    where
      many : length ys ≡ length xs
      many = AllZip-long (IsArgument env.names) xs ys h.1

      by : (r : Reason) → call_fault env.names text xs r ≡ false
      by (Width w) = h.0 (Width w)
      by (Format f) = right_format f (format_fault text (length xs)) (ap (format_fault text) (sym many) ∙ fits)
      by _ = refl

-- a call of a text and its arguments, as that of what stands behind the task
pub call_is : (env : Surroundings) (p : Path) (task : PrintTask) (all : PrintArguments) (kind : CallKind) (text : List ℕ) (xs : List Argument) (r : Result Call BodyFault) → kind ≡ call_kind task → text ≡ print_text all → xs ≡ print_values all →
    Elaborates (call_fault env.names text xs) (MakesCall env p kind text xs) r → Elaborates (λ r. print_fault r env.names all) (IsCall env.names env.ratio p task all) r
call_is env p task all kind text xs r i j k h =
    answered_by (call_fault env.names (print_text all) (print_values all)) (λ r. print_fault r env.names all) (MakesCall env p (call_kind task) (print_text all) (print_values all)) (IsCall env.names env.ratio p task all) r
    (λ c u m. (sound u, record { kind = m.kind_is; text = m.text_is; args = m.args; fits = m.fits; path = m.path; ratio_is = m.ratio })) wrong
    (subst (λ z. Elaborates (call_fault env.names (print_text all) z) (MakesCall env p (call_kind task) (print_text all) z) r) k
    (subst (λ z. Elaborates (call_fault env.names z xs) (MakesCall env p (call_kind task) z xs) r) j (subst (λ z. Elaborates (call_fault env.names text xs) (MakesCall env p z text xs) r) i h)))
  where
    sound : ((q : Reason) → call_fault env.names (print_text all) (print_values all) q ≡ false) → (q : Reason) → print_fault q env.names all ≡ false
    sound u (Width w) = u (Width w)
    sound u (Format f) = u (Format f)
    sound u _ = refl

    wrong : (q : Reason) → call_fault env.names (print_text all) (print_values all) q ≡ true → print_fault q env.names all ≡ true
    wrong (Width w) u = u
    wrong (Format f) u = u
    wrong _ u = u
