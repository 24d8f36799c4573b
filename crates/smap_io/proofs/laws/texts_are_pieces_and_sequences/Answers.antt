use Rattle.smap_io.proofs.TurnLaws.{cut_text}
use Rattle.smap_io.proofs.laws.texts_are_pieces_and_sequences.Goals as goal

pub returns : goal.returns
returns c = cut_text
