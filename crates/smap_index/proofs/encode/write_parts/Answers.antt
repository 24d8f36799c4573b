use Rattle.std.proofs.Common.{[], ◌∷◌, ◌++◌}
use Rattle.smap_index.specs.Parts.{joined}
use Rattle.smap_index.proofs.JoinedLaws.{front_next}
use Rattle.smap_index.proofs.encode.write_parts.Goals as goal

pub loop-mapping-preserved : goal.loop-mapping-preserved
loop-mapping-preserved c =
    let so_far = c.loop-mapping.invariant.written in
    let m = c.in-Some.mapping in
    record {
      can = tt;
      finite = tt;
      written = (
        so_far.0 ++ m ∷ [],
        front_next so_far.0 c.loop-mapping.mapping-iterator (joined c.args.parts.now) m _ so_far.1
            c.in-Some.ensures.steps,
        c.in_ok-push.ensures so_far.0 so_far.2,
      );
    }
