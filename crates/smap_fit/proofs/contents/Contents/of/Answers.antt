use Rattle.std.proofs.Common.{◌<◌, ap, arith, length, map, option_map, sym, ◌∙◌, Vec, Global}
use Rattle.std.specs.Prelude.{Option}
use Rattle.std.proofs.lemmas.List.{take_all}
use Rattle.smap_mappings.specs.Laws.Lists.{none_past}
use Rattle.smap_record.specs.Sources.{StatedSource, source_of}
use Rattle.smap_record.proofs.EachLaws.{map_next}
use Rattle.smap_fit.specs.Lines.{lines_in}
use Rattle.smap_fit.specs.Private.Texts.{kept_lines}
use Rattle.smap_fit.specs.declared.text_lines.TextLines.{TextLines}
use Rattle.smap_fit.proofs.contents.Contents.of.Goals as goal
use Rattle.smap_fit.proofs.contents.Contents.of.Goals.{in-Some+in_ok-lines_of+in_ok-push, in_default-source}

pub loop-i-preserved : goal.loop-i-preserved
loop-i-preserved c =
    let sources = c.args.map_file.now.stated.sources in
    let inside : c.loop-i.i < length sources = omega (arith, c.loop-i-test.true, c.in-Ok.ensures, c.sources.ensures) in
    elim c.match-source.branch [
      | in-Some+in_ok-lines_of+in_ok-push w ↦
          ap (λ (v : Vec (Option TextLines) Global). map kept_lines v.items) w.sources-is
          ∙ ap (map kept_lines) w.in_ok-push.ensures.items
          ∙ map_next kept_lines (λ (s : StatedSource). option_map lines_in s.content) sources c.loop-i.sources.items c.loop-i.i
          (source_of w.in-Some.source.now) w.in_ok-lines_of.field-0 c.loop-i.invariant (sym w.in-Some.ensures) w.in_ok-lines_of.ensures
      | in_default-source w ↦ absurd (none_past sources c.loop-i.i (sym w.in_default-source.ensures) inside)
    ]

pub returns : goal.returns
returns c =
    let sources = c.args.map_file.now.stated.sources in
    let all = take_all c.loop-i.i sources (omega (arith, c.loop-i-test.false, c.in-Ok.ensures, c.sources.ensures)) in
    c.loop-i.invariant ∙ ap (map (λ (s : StatedSource). option_map lines_in s.content)) all
