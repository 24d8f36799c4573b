use Rattle.std.proofs.Common.{◌≡◌, option_copied, refl, string_bytes}
use Rattle.std.proofs.lemmas.Result.{err_from_is_err_and}
use Rattle.smap_text_answers.proofs.TraceLaws.{puts_after, puts_read, puts_refused, puts_unread}
use Rattle.smap_text_answers.proofs.trace.with_map.Goals as goal

pub returns-in_ok-refused_url-in-Err : goal.returns-in_ok-refused_url-in-Err
returns-in_ok-refused_url-in-Err g c =
    let url_is : string_bytes c.in_ok-owned.owned ≡ c.args.url.now = c.in_ok-owned.ensures.ok in
    let refused = rw url_is at c.in-Err.ensures.refused in
    puts_after _ _ _ _ _ _ _ _ _ c.in_ok-table.was
    (puts_read _ _ _ _ _ _ _ _ _ (rw c.standing_named-standing.ensures at c.in_ok-map.ensures.read.0) (puts_refused _ _ _ _ _ _ _ _ refl refused c.in_ok-refused_url-in-Err.ensures))

pub returns-in_err-map : goal.returns-in_err-map
returns-in_err-map g c =
    let p = err_from_is_err_and c.from_residual-in_err-map.result c.from_residual-in_err-map.ensures.1 in
    let maps = c.args.maps.now in
    let base = option_copied maps.base in
    rw (p.1, p.2) (puts_after c.args.paths base maps.interval c.args.table c.in_ok-table.table c.args.url.now c.args.path.now c.args.bytes.items _ c.in_ok-table.was
    (puts_unread c.args.paths base maps.interval c.in_ok-table.table c.args.url.now c.args.path.now c.args.bytes.items _ _ refl (rw c.standing_named-standing.ensures at c.in_err-map.ensures.refused)))
