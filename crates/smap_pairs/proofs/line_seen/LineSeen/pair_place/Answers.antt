use Rattle.std.proofs.Common.{ap, sym, take, ◌∙◌}
use Rattle.std.proofs.lemmas.List.{take-map}
use Rattle.smap_pairs.specs.declared.seen.SeenByte.{SeenByte}
use Rattle.smap_pairs.proofs.line_seen.LineSeen.pair_place.Goals as goal

pub note-requires : goal.note-requires
note-requires g c =
    let pair = c.args.pair.now in
    let seen = c.args.self.now.seen.now in
    sym (take-map (λ (one : SeenByte). one.byte) pair.start seen) ∙ ap (take pair.start) c.requires.seen.bytes
