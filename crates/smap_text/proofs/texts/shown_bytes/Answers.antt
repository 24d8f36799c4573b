use Rattle.smap_text.proofs.ShownLineLaws.{shown_is}
use Rattle.smap_text.proofs.texts.shown_bytes.Goals as goal

pub returns-clause-bytes : goal.returns-clause-bytes
returns-clause-bytes c =
    let floor = c.floor_char_boundary.ensures in
    shown_is c.args.line.now c.floor_char_boundary.result (record { boundary = floor.boundary; within = floor.bound; last = floor.nearest })

pub returns-clause-front : goal.returns-clause-front
returns-clause-front c =
    let floor = c.floor_char_boundary.ensures in
    record { boundary = floor.boundary; within = floor.bound; last = floor.nearest }
