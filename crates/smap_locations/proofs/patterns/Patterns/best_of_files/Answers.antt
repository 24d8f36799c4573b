use Rattle.std.proofs.Common.{◌≡◌}
use Rattle.std.proofs.lemmas.Bool.Decides.{Decides-eqb}
use Rattle.std.proofs.lemmas.Slice.Eq.{slice_eq-Decides}
use Rattle.smap_locations.proofs.BestLaws.{files_of_one, files_of_two}
use Rattle.smap_locations.proofs.patterns.Patterns.best_of_files.Goals as goal

pub returns-then-eq : goal.returns-then-eq
returns-then-eq c =
    let same : c.args.short.now ≡ c.args.url.now = (slice_eq-Decides Decides-eqb c.args.short.now c.args.url.now c.eq.result c.eq.ensures).0 c.if-eq.true in
    files_of_one c.args.self.now c.args.url.now c.args.short.now c.better_at_end-best.result same c.better_at_end-best.ensures

pub returns-else-eq : goal.returns-else-eq
returns-else-eq c =
    files_of_two c.args.self.now c.args.url.now c.args.short.now c.better_at_end-best.result c.better_at_end.result c.better_at_end-best.ensures
    c.better_at_end.ensures
