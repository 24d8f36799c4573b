use Rattle.smap_trace.proofs.frame_rewriter.put_frame.Goals as goal

pub returns : goal.returns
returns g c =
    let is = rw (c.as_bytes.ensures.value, c.print_place.ensures c.args.replacement.now.name.now, c.end_of_line.ensures) at c.pieces_of-pieces.ensures in
    rw is at c.put_all.ensures
