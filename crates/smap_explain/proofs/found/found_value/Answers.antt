use Rattle.std.proofs.Common.{◌≡◌, length, sym, ap, arith, ◌∙◌}
use Rattle.serde_json.specs.View.{view}
use Rattle.smap_explain.specs.Found.{list, value_found}
use Rattle.smap_explain.proofs.SectionLaws.{list_found}
use Rattle.smap_explain.proofs.found.found_value.Goals as goal

pub returns-in-Array : goal.returns-in-Array
returns-in-Array c =
    let count : c.len.result ≡ length c.in-Array.items.items = omega arith in
    ap list count ∙ sym (list_found c.in-Array.items) ∙ sym (ap (λ value. value_found (view value)) c.in-Array.is)
