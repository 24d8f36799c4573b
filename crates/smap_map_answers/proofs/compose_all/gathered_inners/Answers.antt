use Rattle.std.specs.Prelude.{map, option_map, string_bytes}
use Rattle.smap_replies.specs.Arguments.{argument_of}
use Rattle.smap_map_answers.proofs.InnersLaws.{inners_gathered}
use Rattle.smap_map_answers.proofs.compose_all.gathered_inners.Goals as goal

pub returns-clause-gathered : goal.returns-clause-gathered
returns-clause-gathered g c =
    inners_gathered (g.F.FileReader.gives c.args.reader.now) c.args.outer.now.stated.sources (map argument_of c.args.asked.now.inners.items)
    (option_map string_bytes c.args.asked.now.list) c.in_ok-named.named _ (rw (c.deref.ensures.value, c.as_deref.ensures.value, c.in_ok-outer.ensures.made.0) at c.in_ok-named.ensures)
    (rw c.in_ok-outer.ensures.made.0 at c.read_inners.ensures.reads)
