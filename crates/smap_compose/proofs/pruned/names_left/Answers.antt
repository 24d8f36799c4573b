use Rattle.std.proofs.Common.{map, refl}
use Rattle.std.specs.Prelude.{bytes_eq}
use Rattle.std.specs.Ordering.{eq_by_cmp}
use Rattle.std.proofs.lemmas.Result.{IfOk-weaker}
use Rattle.smap_compose.specs.Private.Left.{AreLeft, is_marked}
use Rattle.smap_compose.specs.Private.Listing.{lent_text}
use Rattle.smap_compose.proofs.KeyLaws.{names_by_keys}
use Rattle.smap_compose.proofs.SameLaws.{text_order}
use Rattle.smap_compose.proofs.pruned.names_left.Goals as goal

pub returns : goal.returns
returns c =
    let names = c.args.names.now in
    IfOk-weaker c.places_left.result
    (λ left. AreLeft (eq_by_cmp text_order) (is_marked c.args.used.now) names left.places.items left.stays.items)
    (λ left. AreLeft bytes_eq (is_marked c.args.used.now) (map lent_text names) left.places.items left.stays.items)
    (λ left. names_by_keys (is_marked c.args.used.now) left.places.items left.stays.items names (map lent_text names) refl)
    c.places_left.ensures.left
