use Rattle.smap_piecewise.proofs.laws.rewriting_places_comes_to_the_whole.Goals as goal

pub returns : goal.returns
returns c = λ urls maps most_bytes before after summary all. (all.written, all.counted)
