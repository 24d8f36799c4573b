use Rattle.std.proofs.Common.{◌≡◌, map, option_map, take}
use Rattle.smap_record.specs.Sources.{StatedSource}
use Rattle.smap_fit.specs.Lines.{lines_in}
use Rattle.smap_fit.specs.Private.Texts.{kept_lines}
use Rattle.smap_fit.proofs.contents.Contents.of.Given as goal

-- the sources so far are kept
abbrev pub invariant-loop-i : goal.invariant-loop-i
invariant-loop-i l =
    map kept_lines l.sources.items ≡ map (λ (source : StatedSource). option_map lines_in source.content) (take l.i l.map_file.stated.sources)
