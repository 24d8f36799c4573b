use Rattle.std.proofs.Common.{◌≡◌, ◌++◌, rules, refl}
use Rattle.smap_printing.proofs.PutLaws.{put_short}
use Rattle.smap_printing.proofs.gathered_line.GatheredLineOutput.put.Goals as goal

pub returns-else-not-add : goal.returns-else-not-add
returns-else-not-add g c =
    let added : c.add.new.self ≡ c.args.self.now.text ++ c.args.bytes.now = search rules in
    record {
      same = refl;
      puts = λ start front before. rw added (put_short g.W.ByteSink.seen start _ _ front _ _ before);
    }
