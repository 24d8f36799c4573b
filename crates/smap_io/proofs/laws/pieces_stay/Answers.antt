use Rattle.smap_io.specs.Sequences.{most_sequences}
use Rattle.smap_io.proofs.TurnLaws.{pieces_kept}
use Rattle.smap_io.proofs.laws.pieces_stay.Goals as goal

pub returns : goal.returns
returns c = λ turns last are few. pieces_kept turns last most_sequences are few
