use Rattle.std.proofs.Common.{string_bytes}
use Rattle.smap_locations.specs.Laws.ByText.{found_seen}
use Rattle.smap_locations.proofs.named.NamedPaths.path_under.Goals as goal

pub returns : goal.returns
returns c = found_seen string_bytes c.self.inside.paths c.args.self.now c.self.view_is (λ path. path.now) c.get.result c.args.url.now c.get.ensures
