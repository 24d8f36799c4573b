use Rattle.std.proofs.Common.{◌≡◌, ◌∙◌}
use Rattle.smap_pairs.specs.Chunks.{staying_bytes}
use Rattle.smap_pairs.specs.Laws.StayingBytes.{cuts_staying, staying_ends, staying_some, staying_within}
use Rattle.smap_pairs.proofs.ChunkLaws.{staying_is}
use Rattle.smap_pairs.proofs.chunk.staying_bytes.Goals as goal

pub returns : goal.returns
returns c =
    let text = c.args.text.now in
    let is : c.behind_line_end.result ≡ staying_bytes text =
    c.behind_line_end.ensures ∙ staying_is text c.bytes_before_end.result c.bytes_before_end.ensures.bytes in
    record {
      bytes = is;
      within = rw is (staying_within text);
      some = rw is (staying_some text);
      cuts = rw is (cuts_staying text);
      behind = rw is (staying_ends text);
    }
