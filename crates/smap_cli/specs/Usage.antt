-- What is reported where the arguments give no command.
use Rattle.std.specs.Prelude.{string_bytes}
use Rattle.smap_replies.specs.Outcome.{Report, answer, misuse, out_of_memory}
use Rattle.smap_arguments.specs.declared.usage.Usage.{Usage}
use Rattle.smap_arguments.specs.declared.usage.Usage.TheVariants.{Help, Words, Memory}

-- help is what was asked for; other arguments are a mistake
abbrev pub report_of_usage : Usage → Report
report_of_usage (Help text) = answer (string_bytes text)
report_of_usage (Words text) = misuse (string_bytes text)
report_of_usage Memory = out_of_memory
