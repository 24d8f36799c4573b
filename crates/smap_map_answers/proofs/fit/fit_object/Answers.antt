use Rattle.std.proofs.Common.{◌++◌, ◌∷◌, [], List, ℕ, ap, ◌∙◌}
use Rattle.std.specs.Prelude.{option_copied}
use Rattle.serde_json.specs.Written.{compact_text, has_float}
use Rattle.smap_map_answers.proofs.JsonLaws.{fit_has_none}
use Rattle.smap_map_answers.proofs.fit.fit_object.Goals as goal

pub returns : goal.returns
returns c =
    let value = c.in_ok-value.ensures in
    let text = c.in_ok-text.ensures.text (ap has_float value ∙ fit_has_none c.args.map.now c.args.generated.now c.args.fit (option_copied c.args.why)) in
    c.in_ok-line.ensures ∙ ap (λ (t : List ℕ). t ++ 10 ∷ []) (text ∙ ap compact_text value)
