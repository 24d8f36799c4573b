use Rattle.std.proofs.Common.{ap, ◌∙◌}
use Rattle.std.proofs.lemmas.Grind.{flat_map-append}
use Rattle.smap_anywhere.specs.ChunkParts.{parts_in}
use Rattle.smap_anywhere.proofs.TextPartsLaws.{parts_apart}
use Rattle.smap_anywhere.specs.Replaced.{part_text, parts_text}
use Rattle.smap_anywhere.proofs.laws.parts_are_rewritten_apart.Goals as goal

pub returns : goal.returns
returns c = λ known maps first rest whole.
    ap (parts_text maps) (parts_apart known first rest whole) ∙ flat_map-append (part_text maps) (parts_in known first) (parts_in known rest)
