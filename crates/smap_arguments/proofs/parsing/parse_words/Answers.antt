use Rattle.clap.specs.Words.{kind_of}
use Rattle.smap_arguments.specs.Arguments.{texts}
use Rattle.smap_arguments.specs.Spread.{read_arguments}
use Rattle.smap_arguments.proofs.Asked.{failed_usage}
use Rattle.smap_arguments.proofs.SpreadLaws.{parsed}
use Rattle.smap_arguments.proofs.parsing.parse_words.Goals as goal

pub returns-in-Ok-clause-asked : goal.returns-in-Ok-clause-asked
returns-in-Ok-clause-asked c =
    (parsed (read_arguments (texts c.args.arguments.now)) c.in-Ok.read c.in-Ok.ensures).0

pub returns-in-Ok-clause-refused : goal.returns-in-Ok-clause-refused
returns-in-Ok-clause-refused c =
    (parsed (read_arguments (texts c.args.arguments.now)) c.in-Ok.read c.in-Ok.ensures).2

pub returns-in-Err-clause-refused : goal.returns-in-Err-clause-refused
returns-in-Err-clause-refused c =
    failed_usage (read_arguments (texts c.args.arguments.now)) (kind_of c.in-Err.error) c.usage_of.result c.in-Err.ensures c.usage_of.ensures
