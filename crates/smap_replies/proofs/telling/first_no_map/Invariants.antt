use Rattle.smap_replies.specs.Telling.{IsNoMapTold, IsPassedOver, file_seen}
use Rattle.smap_replies.proofs.TellingLaws.{IsToldFrom}
use Rattle.smap_replies.proofs.telling.first_no_map.Given as goal

abbrev pub invariant-loop-file : goal.invariant-loop-file
invariant-loop-file g l = let Reads = g.F.FileReader.gives l.reader in
    IsToldFrom file_seen (IsPassedOver Reads) (IsNoMapTold Reads) l.files l.file-index
