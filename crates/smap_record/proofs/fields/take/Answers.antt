use Rattle.std.proofs.Common.{option_map, sym, ap, ◌∙◌}
use Rattle.std.specs.Prelude.{option_and_then}
use Rattle.serde_json.specs.Find.{get_member}
use Rattle.serde_json.specs.View.{view, members_view}
use Rattle.serde_json.proofs.Views.{view-lookup}
use Rattle.smap_record.specs.Json.{not_null}
use Rattle.smap_record.proofs.FieldLaws.{kept}
use Rattle.smap_record.proofs.fields.take.Goals as goal

pub returns-in-Some-clause-value : goal.returns-in-Some-clause-value
returns-in-Some-clause-value c =
    c.not_null.ensures
    ∙ ap (λ found. option_and_then not_null (option_map view found)) (sym c.in-Some.is ∙ c.remove.ensures.value)
    ∙ ap (option_and_then not_null) (view-lookup c.args.key.now c.args.members.now.entries)

pub returns-in-Some-clause-others : goal.returns-in-Some-clause-others
returns-in-Some-clause-others c other apart =
    ap (λ entries. get_member other (members_view entries)) c.remove.ensures.entries ∙ kept other c.args.key.now apart c.args.members.now.entries

pub returns-in-None-clause-value : goal.returns-in-None-clause-value
returns-in-None-clause-value c =
    ap (λ found. option_and_then not_null (option_map view found)) (sym c.in-None.is ∙ c.remove.ensures.value)
    ∙ ap (option_and_then not_null) (view-lookup c.args.key.now c.args.members.now.entries)
