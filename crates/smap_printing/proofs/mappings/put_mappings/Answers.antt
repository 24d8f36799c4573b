use Rattle.std.proofs.Common.{[], rules, sym, ◌∙◌, append-nil}
use Rattle.smap_lines.specs.Laws.Put.{puts_none}
use Rattle.smap_printing.specs.Private.GatheredLine.{gathers_both}
use Rattle.smap_printing.proofs.PutLaws.{put_whole}
use Rattle.smap_printing.proofs.mappings.put_mappings.Goals as goal

pub returns : goal.returns
returns g c =
    let both = gathers_both g.W.ByteSink.seen _ _ _ _ _ c.gather_asked.ensures c.put_debug_id.ensures in
    let same = sym (c.hand_on.ensures.same.same ∙ both.same) in
    let lines = both.puts c.args.output.now [] ([], puts_none c.args.output.now, sym c.new.ensures) in
    let handed = rw append-nil at (c.hand_on.ensures.same.puts c.args.output.now _ lines) in
    put_whole _ _ c.args.output.now _ _ c.hand_on.new.self.text _ _ (search rules) c.hand_on.ensures.empty handed
