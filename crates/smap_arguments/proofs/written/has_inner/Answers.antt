use Rattle.std.proofs.Common.{◌∙◌, ◌||◌, ap₂, codes, refl, sym}
use Rattle.clap.specs.Words.{found_of, rows_of}
use Rattle.smap_arguments.proofs.Numbers.{number_given}
use Rattle.smap_arguments.proofs.written.has_inner.Goals as goal

pub returns-else-is_some : goal.returns-else-is_some
returns-else-is_some c =
    let no_source = number_given (rows_of (found_of c.args.matches.now)) (codes "SOURCE") c.source_in.result c.source_in.ensures
    ∙ (sym c.is_some.ensures ∙ c.if-is_some.false) in
    c.has_text_in.ensures ∙ sym (ap₂ (λ source inner. source || inner) no_source refl)
