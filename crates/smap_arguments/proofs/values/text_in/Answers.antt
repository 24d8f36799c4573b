use Rattle.std.proofs.Common.{◌∙◌, Some, ap, sym}
use Rattle.std.specs.Prelude.{option_map}
use Rattle.std.proofs.lemmas.Result.{IfOk-weaker}
use Rattle.clap.specs.Words.{found_of, rows_of}
use Rattle.clap.proofs.WalkLemmas.{first_value-rows}
use Rattle.smap_arguments.proofs.Texts.{first_of_value, some_text}
use Rattle.smap_arguments.proofs.values.text_in.Goals as goal

pub unwrap-requires : goal.unwrap-requires
unwrap-requires c =
    let first = first_of_value c.args.name.now (rows_of (found_of c.args.matches.now)) c.requires in
    some_text c.get_str.result first.0 (c.get_str.ensures ∙ (first_value-rows (found_of c.args.matches.now) c.args.name.now ∙ first.1))

pub returns : goal.returns
returns c =
    let given = sym (first_value-rows (found_of c.args.matches.now) c.args.name.now)
    ∙ (sym c.get_str.ensures ∙ ap (option_map (λ s. s.now)) c.unwrap.ensures) in
    IfOk-weaker c.from_str.result _ _ (λ path is. given ∙ ap (λ text. Some text) (sym is)) c.from_str.ensures.ok
