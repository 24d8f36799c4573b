use Rattle.std.proofs.Common.{◌≡◌, ◌++◌, ◌-◌, List, ℕ, length, take, drop, arith, append_assoc}
use Rattle.std.proofs.lemmas.List.{take-append-drop, take_rest}
use Rattle.std.proofs.lemmas.Grind.{common_steps}
use Rattle.smap_io.proofs.transfer.write_all.Goals as goal

-- what was written and what is left are the bytes again once some more of these are written
moved_on : (front rest bytes : List ℕ) (n : ℕ) → bytes ≡ front ++ rest → bytes ≡ front ++ take n rest ++ take (length rest - n) (drop n rest)
moved_on front rest bytes n is = rw (append_assoc, take_rest, take-append-drop) is

pub loop-rest-preserved : goal.loop-rest-preserved
loop-rest-preserved g c =
    let took = c.loop-rest.invariant.took in
    record {
      took = (
        took.0 ++ take c.in_ok-count.count c.loop-rest.rest.now,
        moved_on took.0 c.loop-rest.rest.now c.args.bytes.now c.in_ok-count.count took.1,
        grind (arith, common_steps),
      );
      no_failure = grind (arith, common_steps);
      cleared = grind (arith, common_steps);
    }
