use Rattle.std.proofs.Common.{arith}
use Rattle.smap_map_answers.proofs.NamesLaws.{all_gathered, one_further}
use Rattle.smap_map_answers.proofs.outer_map.names_of.Goals as goal

pub loop-i-preserved : goal.loop-i-preserved
loop-i-preserved c =
    one_further c.args.map.now.stated.sources c.loop-i.names c.add_name.new.names c.loop-i.i _ (rw c.source.ensures at c.source_name.ensures) c.in_ok-add_name.ensures
    c.loop-i.invariant

pub returns : goal.returns
returns c =
    all_gathered c.args.map.now.stated.sources c.loop-i.names c.loop-i.i (omega (arith, c.requires, c.loop-i-test.false)) c.loop-i.invariant
