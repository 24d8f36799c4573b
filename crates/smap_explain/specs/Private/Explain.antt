-- What a section states of its mappings, as it is seen.
use Rattle.smap_explain.specs.Explain.{StatedMappings, stated}
use Rattle.smap_explain.specs.declared.explaining.Mappings.{Mappings}

abbrev pub mappings_seen : Mappings → StatedMappings
mappings_seen mappings = stated mappings.text.now mappings.sources mappings.names
