-- A command of clap that grows by arguments, or by subcommands.
use Rattle.std.proofs.Common.{◌≡◌, ◌∙◌, ◌||◌, ap, ap₂, false, arith, fold, map, refl, subst, sym, zero, suc, List, [], ◌∷◌}
use Rattle.std.specs.Prelude.{Err, IfOk, IsOkAnd, Ok, Result, ⊤}
use Rattle.std.specs.List.{All}
use Rattle.clap.specs.Built.{AddsArg, AddsInTurn, AddsSubcommand}
use Rattle.clap.specs.Words.{App, Rule, Text, app_of, rule_of, shape_of, with_rule, with_subcommand}
use Rattle.clap.specs.declared.builder.arg.Arg.{Arg}
use Rattle.clap.specs.declared.builder.command.Command.{Command}
use Rattle.smap_arguments.specs.CommandLine.{IsLocalArgument, IsLocalCommand, with_rules}

pub with_arguments : (app : App) (old new : Command) (arguments : List Arg) → IsLocalCommand app old → All (λ a. a.global ≡ false) arguments
    → AddsInTurn AddsArg old arguments new → IsLocalCommand (fold with_rule app (map rule_of arguments)) new
with_arguments app old new [] local plain added = subst (IsLocalCommand app) added local
with_arguments app old new (a ∷ rest) local plain added =
    let grown : IsLocalCommand (with_rule app (rule_of a)) added.0 = (
      added.1.shape (plain 0 a (omega arith)) ∙ ap (λ o. with_rule o (rule_of a)) local.0,
      added.1.globals ∙ ap₂ (λ x y. x || y) local.1 (plain 0 a (omega arith)),
    ) in
    with_arguments (with_rule app (rule_of a)) added.0 new rest grown (λ k d low. plain (suc k) d (omega arith)) added.2

-- one more subcommand, where it could be made
pub with_made : {E : Type 0} (app : App) (made : Result Command E) (above : App) (old new : Command) → IfOk made (IsLocalCommand app) → app_of old ≡ above
    → IsOkAnd made (λ command. AddsSubcommand old command new) → app_of new ≡ with_subcommand above app.top
with_made app (Ok command) above old new local is added =
    added.shape local.1 ∙ (ap (λ a. with_subcommand a (shape_of command)) is ∙ ap (λ (a : App). with_subcommand above a.top) local.0)
with_made app (Err e) above old new local is added = absurd added

-- clap's arguments are the ones described, and none holds in subcommands too
abbrev pub AreLocal : List Rule → List Arg → Type 0
AreLocal [] [] = ⊤
AreLocal [] (a ∷ rest) = ⊥
AreLocal (rule ∷ rules) [] = ⊥
AreLocal (rule ∷ rules) (a ∷ rest) = IsLocalArgument rule a × AreLocal rules rest

their_rules : (rules : List Rule) (arguments : List Arg) → AreLocal rules arguments → map rule_of arguments ≡ rules
their_rules [] [] are = refl
their_rules [] (a ∷ rest) are = absurd are
their_rules (rule ∷ rules) [] are = absurd are
their_rules (rule ∷ rules) (a ∷ rest) are = λ i. are.0.0 i ∷ their_rules rules rest are.1 i

each_local : (rules : List Rule) (arguments : List Arg) → AreLocal rules arguments → All (λ a. a.global ≡ false) arguments
each_local [] [] are k d low = absurd (omega (arith, low))
each_local [] (a ∷ rest) are k d low = absurd are
each_local (rule ∷ rules) [] are k d low = absurd are
each_local (rule ∷ rules) (a ∷ rest) are zero d low = are.0.1
each_local (rule ∷ rules) (a ∷ rest) are (suc k) d low = each_local rules rest are.1 k d (omega (arith, low))

module _ (rules : List Rule) (given arguments : List Arg) (is : arguments ≡ given) (are : AreLocal rules given) where
  -- so none of the same arguments holds in subcommands too
  pub all_local : All (λ a. a.global ≡ false) arguments
  all_local = subst (All (λ (a : Arg). a.global ≡ false)) (sym is) (each_local rules given are)

  -- and a command with them is the one described
  pub described_by : {E : Type 0} (name : Text) (made : Result Command E) → IfOk made (IsLocalCommand (with_rules name (map rule_of arguments)))
      → IfOk made (IsLocalCommand (with_rules name rules))
  described_by name made local = subst (λ l. IfOk made (IsLocalCommand (with_rules name l))) (ap (map rule_of) is ∙ their_rules rules given are) local
