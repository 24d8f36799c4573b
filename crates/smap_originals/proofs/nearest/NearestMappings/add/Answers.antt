use Rattle.std.proofs.Common.{sym, ap, ◌∙◌}
use Rattle.smap_originals.specs.Generated.{is_nearer}
use Rattle.smap_originals.proofs.NearestLaws.{at_column, begun, further_found, kept_column, nearer_found}
use Rattle.smap_originals.proofs.nearest.NearestMappings.add.Goals as goal

pub returns-in-Some : goal.returns-in-Some
returns-in-Some c = λ mappings nearest.
    let direction = c.args.direction in
    let best = c.in-Some.best in
    let are = at_column direction mappings c.args.self.now best nearest c.in-Some.is in
    let far = ap (is_nearer direction best) (sym c.requires.column) ∙ sym c.is_nearer.ensures ∙ c.if-is_nearer.true in
    kept_column direction _ c.args.self.now best c.in-Some.is (further_found direction c.args.mapping mappings best _ are far)

pub returns-in_ok-begin-in-Some-2 : goal.returns-in_ok-begin-in-Some-2
returns-in_ok-begin-in-Some-2 c = λ mappings nearest.
    let direction = c.args.direction in
    let best = c.in-Some-2.best in
    let are = at_column direction mappings c.args.self.now best nearest c.in-Some-2.is in
    let near = ap (λ a. is_nearer direction a best) (sym c.requires.column) ∙ sym c.if-is_nearer-2.ensures in
    begun direction c.args.mapping _ c.args.column c.begin.new.self c.requires.column c.in_ok-begin-in-Some-2.ensures
    (nearer_found direction c.args.mapping mappings best _ are near)
