use Rattle.smap_piecewise.proofs.RewritingLaws.{either, frames_in_order, places_in_order}
use Rattle.smap_piecewise.proofs.rewriting.Rewriting.give.Goals as goal

pub invariant_of-self-in-Frames : goal.invariant_of-self-in-Frames
invariant_of-self-in-Frames c =
    let take = c.take-in-Frames in
    frames_in_order c.self.inside c.self.invariant c.args.bytes.now take.new.self c.in-Frames.frames c.in-Frames.is take.new.given
    (either take.result _ _ _ _ take.ensures.given take.ensures.taken take.ensures.few take.ensures.refused)

pub invariant_of-self-in-Places : goal.invariant_of-self-in-Places
invariant_of-self-in-Places c =
    let take = c.take-in-Places in
    places_in_order c.self.inside c.self.invariant c.args.bytes.now take.new.self c.in-Places.places c.in-Places.is take.new.given
    (either take.result _ _ _ _ take.ensures.given take.ensures.taken take.ensures.few take.ensures.refused)
