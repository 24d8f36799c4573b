use Rattle.std.proofs.Common.{[], refl}
use Rattle.smap_compose.proofs.WalkLaws.{yields_ended, yields_whole}
use Rattle.smap_compose.proofs.walk.Walk.new.Goals as goal

pub returns : goal.returns
returns c = record {
  ordered = c.mappings-left.ensures.ordered;
  front = [];
  whole = yields_whole _ c.next-next.new.self c.next-next.result (rw c.mappings-left.ensures.list at c.next-next.ensures.steps);
  before = refl;
  ended = yields_ended _ c.next-next.new.self c.next-next.result c.next-next.ensures.steps;
  within = c.mappings-left.ensures.within;
}
