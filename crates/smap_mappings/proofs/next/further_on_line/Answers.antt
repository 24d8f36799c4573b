use Rattle.std.proofs.Common.{◌<◌, length, arith}
use Rattle.smap_mappings.proofs.CheckLaws.{all_after}
use Rattle.smap_mappings.proofs.CountLaws.{none_past}
use Rattle.smap_mappings.proofs.StepLaws.{on_line_of}
use Rattle.smap_mappings.proofs.next.further_on_line.Goals as goal
use Rattle.smap_mappings.proofs.next.further_on_line.Goals.{then-at-bytes-via-then-at-bytes, then-at-bytes-via-else-at-bytes+then-at-cursor}

pub returns-then-at-bytes-clause-none : goal.returns-then-at-bytes-clause-none
returns-then-at-bytes-clause-none c j after mapping there =
    let text = c.args.bytes.now in
    let at = c.skip_separators-at.result in
    let here = c.skip_separators-at.ensures.after j after in
    elim c.then-at-bytes.branch [
      | then-at-bytes-via-then-at-bytes w ↦ absurd (none_past text j mapping (all_after text j at here (omega arith)) there)
      | then-at-bytes-via-else-at-bytes+then-at-cursor w ↦
          let within : at.place < length text = omega arith in
          let same = on_line_of text j at mapping here within (c.skip_separators-at.ensures.stops within) there in
          let down = c.skip_separators-at.ensures.down in
          omega arith
    ]
