use Rattle.std.proofs.Common.{[], rules, sym, ◌∙◌, append-nil}
use Rattle.smap_lines.specs.Laws.Put.{puts_none}
use Rattle.smap_printing.proofs.PutLaws.{put_whole}
use Rattle.smap_printing.proofs.answerer.PositionAnswerer.put_gathered.Goals as goal

pub returns : goal.returns
returns g c =
    let same = sym (c.hand_on.ensures.same.same ∙ c.put_line.ensures.same) in
    let line = c.put_line.ensures.puts c.args.output.now [] ([], puts_none c.args.output.now, sym c.new.ensures) in
    let handed = rw append-nil at (c.hand_on.ensures.same.puts c.args.output.now _ line) in
    put_whole _ _ c.args.output.now _ _ c.hand_on.new.self.text _ _ (search rules) c.hand_on.ensures.empty handed
