use Rattle.smap_anywhere.proofs.TextPartsLaws.{parts_whole}
use Rattle.smap_anywhere.proofs.laws.parts_are_the_text.Goals as goal

pub returns : goal.returns
returns c = λ known within text. parts_whole known within text
