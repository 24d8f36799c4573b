use Rattle.std.proofs.Common.{◌≡◌, drop, map}
use Rattle.smap_pairs.specs.Bytes.{is_edge_byte}
use Rattle.smap_pairs.specs.FrameUrl.{as_in_path}
use Rattle.smap_pairs.specs.Private.PathReading.{first_begins, path_read}
use Rattle.smap_pairs.specs.Signs.{text_of}
use Rattle.smap_pairs.specs.declared.path.PathReader.TheVariants.{First}
use Rattle.smap_pairs.proofs.frame_url.is_path.Given as goal

abbrev pub invariant-loop-seen : goal.invariant-loop-seen
invariant-loop-seen l =
    path_read is_edge_byte (First first_begins) (map as_in_path (text_of l.fn.url))
    ≡ path_read is_edge_byte l.reader (map as_in_path (text_of (drop l.seen-index l.fn.url)))
