use Rattle.smap_replies.proofs.map.read_chosen.Goals as goal

pub returns-clause-read : goal.returns-clause-read
returns-clause-read g c = rw (c.as_ref.ensures.value, c.deref.ensures) at c.read_map_explained.ensures.read

pub returns-clause-refused : goal.returns-clause-refused
returns-clause-refused g c = rw (c.as_ref.ensures.value, c.deref.ensures) at c.read_map_explained.ensures.refused
