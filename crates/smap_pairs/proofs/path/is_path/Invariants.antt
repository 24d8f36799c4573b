use Rattle.std.proofs.Common.{◌≡◌, drop}
use Rattle.smap_pairs.specs.Path.{is_strange}
use Rattle.smap_pairs.specs.Private.PathReading.{first_begins, path_read}
use Rattle.smap_pairs.specs.declared.path.PathReader.TheVariants.{First}
use Rattle.smap_pairs.specs.Signs.{signs}
use Rattle.smap_pairs.proofs.path.is_path.Given as goal

abbrev pub invariant-loop-seen : goal.invariant-loop-seen
invariant-loop-seen l = path_read is_strange (First first_begins) (signs l.fn.url) ≡ path_read is_strange l.reader (signs (drop l.seen-index l.fn.url))
