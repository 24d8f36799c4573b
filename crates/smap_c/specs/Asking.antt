-- For which URLs maps are asked for, and where a folder has them.
use Rattle.std.specs.Prelude.{ℕ, List, [], ◌∷◌, None, Option, if◌then◌else◌}
use Rattle.smap_locations.specs.ListLine.{is_folder}
use Rattle.smap_locations.specs.Locations.{LocationsSeen, path_for}
use Rattle.smap_piecewise.specs.Location.{is_location}
use Rattle.smap_resolve.specs.ByPath.{is_path}

abbrev pub location_status : (url : List ℕ) → ℕ
location_status url = if is_location url then 0 else 1

abbrev pub path_status : (url : List ℕ) → ℕ
path_status url = if is_path url then 0 else 1

-- one folder for a prefix
abbrev pub one_folder : (prefix folder : List ℕ) → LocationsSeen
one_folder prefix folder = record { files = []; folders = (prefix, folder) ∷ []; patterns = [] }

-- what it has for a URL
abbrev pub folder_path : (prefix folder url : List ℕ) → Option (List ℕ)
folder_path prefix folder url =
    if is_folder prefix then path_for (one_folder prefix folder) url else None
