use Rattle.smap_text_answers.proofs.named_locator.put_alone.Goals as goal

pub returns : goal.returns
returns g c = rw (c.outcome_at-found.ensures, c.as_bytes-url.ensures.value) at c.put_place_line.ensures
