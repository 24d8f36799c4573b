use Rattle.std.proofs.Common.{refl, sym, ◌∙◌, append-nil}
use Rattle.smap_printing.proofs.PutLaws.{put_held}
use Rattle.smap_printing.proofs.gathered_line.GatheredLine.hand_on.Goals as goal

pub returns-then-is_ok-clause-same : goal.returns-then-is_ok-clause-same
returns-then-is_ok-clause-same g c = record {
  same = refl;
  puts = λ start front before.
      let works = sym c.is_ok.ensures.value ∙ c.if-is_ok.true in
      let put = rw c.bytes.ensures at c.put-self.ensures in
      rw (append-nil front, c.clear.ensures) (put_held g.W.ByteSink.seen start _ _ c.args.self.now.text front _ _ works put before);
}

pub returns-else-is_ok-clause-same : goal.returns-else-is_ok-clause-same
returns-else-is_ok-clause-same g c = record {
  same = refl;
  puts = λ start front before. rw append-nil before;
}
