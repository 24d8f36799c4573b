use Rattle.std.proofs.Common.{◌≡◌, ◌∙◌, ap, rules, false}
use Rattle.std.proofs.lemmas.Result.{IfOk-weaker}
use Rattle.clap.specs.Words.{app_of, new_app}
use Rattle.clap.specs.Simple.{app_of_fields}
use Rattle.clap.specs.declared.builder.command.Command.TheViews.{out-Command}
use Rattle.smap_arguments.proofs.Growth.{with_arguments}
use Rattle.smap_arguments.proofs.line.described.Goals as goal

pub returns : goal.returns
returns c =
    let is : app_of c.after_help.result ≡ new_app c.args.name.now =
    ap app_of_fields c.after_help.ensures ∙ (ap app_of_fields c.about.ensures ∙ c.new.ensures.app) in
    let local : (out-Command c.after_help.result).has_globals ≡ false = search rules in
    IfOk-weaker c.args-2.result _ _ (λ command added. with_arguments (new_app c.args.name.now) c.after_help.result command
    c.args.arguments.items (is, local) c.requires added) c.args-2.ensures
