use Rattle.smap_locations.proofs.FolderLaws.{found_in_folder}
use Rattle.smap_locations.proofs.laws.paths_stay_in_their_folders.Goals as goal

pub returns : goal.returns
returns c folders url path = found_in_folder folders url path
