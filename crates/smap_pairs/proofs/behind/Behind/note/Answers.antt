use Rattle.std.proofs.Common.{◌≡◌, ◌+◌, ℕ, arith, false, length, subst, sym}
use Rattle.smap_pairs.specs.Private.Rest.{IsNoting}
use Rattle.smap_pairs.specs.declared.seen.SeenByte.{SeenByte}
use Rattle.smap_pairs.proofs.NotingLaws.{behind_noted, none_from_end, none_too_low, noting_more, queries_few}
use Rattle.smap_pairs.proofs.behind.Behind.note.Goals as goal

abbrev no_byte : SeenByte
no_byte = record { size = 0; byte = 0; counts = 0; is_edge = false }

pub returns-in_default-clause-noted : goal.returns-in_default-clause-noted
returns-in_default-clause-noted c =
    behind_noted c.args.before.now c.args.piece c.loop-rest.self c.loop-rest.rest.at c.loop-rest.invariant.noted c.loop-rest.invariant.rest.within
    (none_from_end c.args.before.now c.args.piece c.loop-rest.rest.at c.in_default.ensures)

pub returns-clause-noted : goal.returns-clause-noted
returns-clause-noted c =
    behind_noted c.args.before.now c.args.piece c.loop-rest.self c.loop-rest.rest.at c.loop-rest.invariant.noted c.loop-rest.invariant.rest.within
    (none_too_low c.args.before.now c.args.piece c.loop-rest.rest.at (omega (arith, c.loop-rest-test.false, c.lowest-low.ensures)))

pub loop-rest-preserved : goal.loop-rest-preserved
loop-rest-preserved c =
    let before = c.args.before.now in
    let was = c.loop-rest.invariant in
    let with = c.in-Some.with in
    let next : with.at + 1 ≡ c.loop-rest.rest.at = c.in-Some.ensures.0 in
    let P : ℕ → Type 0 = IsNoting before c.args.piece c.loop-rest.self in
    record {
      rest = c.in-Some.ensures.1;
      noted = noting_more before c.args.piece c.loop-rest.self c.put.new.self with no_byte (subst P (sym next) was.noted) c.in-Some.ensures.1
          (omega (arith, next, was.rest.within)) (omega (arith, next, c.loop-rest-test.true, c.lowest-low.ensures))
          c.in_ok-put.ensures.end c.in_ok-put.ensures.folders c.in_ok-put.ensures.queries;
      few = queries_few c.loop-rest.self.queries.items c.put.new.self.queries.items _ with.at (length before) c.in_ok-put.ensures.queries
          (omega (arith, next, was.few));
      keeps_room = (
        omega (arith, was.keeps_room.0, c.put.ensures.keeps_room.0),
        omega (arith, was.keeps_room.1, c.put.ensures.keeps_room.1),
      );
    }
