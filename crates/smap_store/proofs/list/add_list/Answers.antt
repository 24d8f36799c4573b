use Rattle.std.proofs.Common.{length, take, sym, subst, ℕ, arith}
use Rattle.std.proofs.lemmas.Iterator.Consumers.{YieldsList-turn, YieldsList-end}
use Rattle.std.proofs.lemmas.Iterator.Splits.{YieldsList-from_lines}
use Rattle.std.proofs.lemmas.List.{length_push}
use Rattle.std.specs.Str.Lines.{lines}
use Rattle.smap_store.specs.MapList.{AreTaken}
use Rattle.smap_store.proofs.ListLaws.{all_taken, more_taken, refused_here}
use Rattle.smap_store.proofs.list.add_list.Goals as goal

pub returns-in-Err : goal.returns-in-Err
returns-in-Err c =
    let turn = YieldsList-turn (YieldsList-from_lines c.args.text.now cc) c.loop-line.yielded _ c.loop-line.yielded_by _ _ c.in-Some.line c.in-Some.is
    c.next.ensures.steps in
    refused_here c.args.exact.now (lines c.args.text.now) (length c.loop-line.yielded) c.in-Some.line.now c.args.locations.now c.loop-line.locations
    c.add_line.new.locations turn c.loop-line.invariant.taken c.in-Err.fault c.loop-line.number c.loop-line.invariant.number c.in-Err.ensures.kept
    c.in-Err.ensures.refused

pub loop-line-preserved : goal.loop-line-preserved
loop-line-preserved c =
    let turn = YieldsList-turn (YieldsList-from_lines c.args.text.now cc) c.loop-line.yielded _ c.loop-line.yielded_by _ _ c.in-Some.line c.in-Some.is
    c.next.ensures.steps in
    let longer = length_push c.loop-line.yielded c.in-Some.line in
    let P : ℕ → Type 0 = λ n. AreTaken c.args.exact.now (take n (lines c.args.text.now)) c.args.locations.now c.add_line.new.locations in
    let more = more_taken c.args.exact.now (lines c.args.text.now) (length c.loop-line.yielded) c.in-Some.line.now c.args.locations.now c.loop-line.locations
    c.add_line.new.locations turn c.loop-line.invariant.taken in
    record {
      number = omega (arith, longer, c.loop-line.invariant.number);
      taken = subst P (sym longer) (more c.in_default.ensures.taken);
    }

pub returns : goal.returns
returns c =
    let end = YieldsList-end (YieldsList-from_lines c.args.text.now cc) c.loop-line.yielded _ c.loop-line.yielded_by _ _ c.in-None.is c.next.ensures.steps in
    all_taken c.args.exact.now (lines c.args.text.now) (length c.loop-line.yielded) c.args.locations.now c.loop-line.locations end.1 c.loop-line.invariant.taken
