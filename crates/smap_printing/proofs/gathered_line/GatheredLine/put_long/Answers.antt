use Rattle.std.proofs.Common.{◌≡◌, rules, sym, ◌∙◌, [], append-nil}
use Rattle.smap_printing.proofs.PutLaws.{put_behind, put_none}
use Rattle.smap_printing.proofs.gathered_line.GatheredLine.put_long.Goals as goal

pub returns-then-is_ok : goal.returns-then-is_ok
returns-then-is_ok g c = record {
  same = c.hand_on.ensures.same.same;
  puts = λ start front before.
      let works = sym c.is_ok.ensures.value ∙ c.if-is_ok.true in
      let empty : c.hand_on.new.self.text ≡ [] = search rules in
      let handed = rw (empty, append-nil front) at (c.hand_on.ensures.same.puts start front before) in
      rw empty (put_behind g.W.ByteSink.seen start _ _ front c.args.bytes.now _ _ works c.put-self.ensures handed);
}

pub returns-else-is_ok : goal.returns-else-is_ok
returns-else-is_ok g c = record {
  same = c.hand_on.ensures.same.same;
  puts = λ start front before.
      let handed = rw (append-nil front) at (c.hand_on.ensures.same.puts start front before) in
      put_none g.W.ByteSink.seen start _ _ front c.args.bytes.now _ (sym c.is_ok.ensures.value ∙ c.if-is_ok.false) handed;
}
