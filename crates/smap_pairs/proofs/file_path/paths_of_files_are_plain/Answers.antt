use Rattle.smap_pairs.specs.Laws.FilePaths.{by_parts}
use Rattle.smap_pairs.proofs.file_path.paths_of_files_are_plain.Goals as goal

pub returns : goal.returns
returns c = by_parts
