use Rattle.std.proofs.Common.{◌≡◌, ◌++◌, decimal, rules, refl}
use Rattle.smap_printing.proofs.PutLaws.{put_short}
use Rattle.smap_printing.proofs.gathered_line.GatheredLineOutput.put_decimal.Goals as goal

pub returns-else-not-add_number : goal.returns-else-not-add_number
returns-else-not-add_number g c =
    let added : c.add_number.new.self ≡ c.args.self.now.text ++ decimal c.args.number = search rules in
    record {
      same = refl;
      puts = λ start front before. rw added (put_short g.W.ByteSink.seen start _ _ front _ _ before);
    }
