use Rattle.std.proofs.lemmas.Result.{err_from_is_err_and}
use Rattle.smap_replies.proofs.StandingLaws.{read_so, refused_so}
use Rattle.smap_replies.proofs.standing.read_by_path.Goals as goal

pub returns-clause-read : goal.returns-clause-read
returns-clause-read c =
    read_so c.args.interval c.args.url.now c.args.bytes.items _ _ c.in_ok-map.ensures.read c.in_ok-name_sources_by_path.ensures.named

pub returns-in_err-map-clause-refused : goal.returns-in_err-map-clause-refused
returns-in_err-map-clause-refused c =
    let p = err_from_is_err_and c.from_residual.result c.from_residual.ensures.1 in
    rw (p.1, p.2) (refused_so c.args.interval c.args.url.now c.args.bytes.items _ c.in_err-map.ensures.refused)
