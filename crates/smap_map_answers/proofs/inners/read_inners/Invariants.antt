use Rattle.std.proofs.Common.{◌≡◌, [], drop, length}
use Rattle.std.specs.Prelude.{List, Option, Result}
use Rattle.smap_record.specs.Record.{MapRecord}
use Rattle.smap_map_answers.specs.ComposeAll.{ReadsInners}
use Rattle.smap_replies.specs.Outcome.{Report}
use Rattle.smap_map_answers.specs.Private.Inners.{inners_stated}
use Rattle.smap_map_answers.proofs.inners.read_inners.Given as goal

-- what the sources that are left come to after those so far, all of them come to; each so far has its place
abbrev pub invariant-loop-i : goal.invariant-loop-i
invariant-loop-i g l =
    let Reads = g.F.FileReader.gives l.fn.reader in
    let sources = l.fn.outer.map.now.stated.sources in
    record {
      many : length l.inners.items ≡ l.i;
      reads : (result : Result (List (Option MapRecord)) Report) → ReadsInners Reads l.named (drop l.i sources) (inners_stated l.inners.items) result
          → ReadsInners Reads l.named sources [] result;
    }
