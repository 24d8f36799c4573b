use Rattle.std.proofs.Common.{◌≡◌, [], ap, arith, drop, map, sym, ◌∙◌}
use Rattle.std.proofs.lemmas.List.{drop_all}
use Rattle.smap_pairs.specs.Bytes.{is_edge_byte}
use Rattle.smap_pairs.specs.FrameUrl.{as_in_path}
use Rattle.smap_pairs.specs.Private.PathReading.{is_path_read, path_read}
use Rattle.smap_pairs.specs.Signs.{text_of}
use Rattle.smap_pairs.proofs.PathLaws.{path_reads}
use Rattle.smap_pairs.proofs.frame_url.is_path.Goals as goal

pub returns : goal.returns
returns c =
    let url = c.args.url.now in
    let all : drop c.loop-seen.seen-index url ≡ [] = drop_all c.loop-seen.seen-index url (omega arith) in
    c.is_path.ensures
    ∙ sym (ap is_path_read (c.loop-seen.invariant ∙ ap (λ l. path_read is_edge_byte c.loop-seen.reader (map as_in_path (text_of l))) all))
    ∙ path_reads is_edge_byte (map as_in_path (text_of url))
