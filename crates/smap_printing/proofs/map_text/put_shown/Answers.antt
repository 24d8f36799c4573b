use Rattle.smap_printing.proofs.map_text.put_shown.Goals as goal

pub put_shown_bytes-requires : goal.put_shown_bytes-requires
put_shown_bytes-requires g c = λ is. rw c.as_bytes.ensures.value (c.requires is)

pub returns : goal.returns
returns g c = rw c.as_bytes.ensures.value at c.put_shown_bytes.ensures
