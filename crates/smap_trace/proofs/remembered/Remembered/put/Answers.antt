use Rattle.smap_trace.proofs.RememberedLaws.{right_put}
use Rattle.smap_trace.proofs.remembered.Remembered.put.Goals as goal

pub returns-in-Some : goal.returns-in-Some
returns-in-Some c maps is right = right_put maps c.args.self.now.urls.items c.args.self.now.places.items c.args.index c.args.place is right
