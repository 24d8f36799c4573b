use Rattle.smap_replies.specs.Telling.{IsCauseTold, IsCauseUnknown, file_seen}
use Rattle.smap_replies.proofs.TellingLaws.{IsToldFrom}
use Rattle.smap_replies.proofs.telling.first_cause.Given as goal

abbrev pub invariant-loop-file : goal.invariant-loop-file
invariant-loop-file g l = let Causes = g.F.FileReader.causes l.reader in
    IsToldFrom file_seen (IsCauseUnknown Causes) (IsCauseTold Causes) l.files l.file-index
