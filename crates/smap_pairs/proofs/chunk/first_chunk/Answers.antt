use Rattle.std.proofs.Common.{◌+◌, arith, ap, false, sym, ◌∙◌}
use Rattle.smap_pairs.specs.Chunks.{chunk_of_long}
use Rattle.smap_pairs.specs.Laws.Chunks.{first_within}
use Rattle.smap_pairs.proofs.ChunkLaws.{IsFirst, first_ended, first_long, first_open}
use Rattle.smap_pairs.proofs.chunk.first_chunk.Goals as goal

ended : (c : goal.Then-line-front) → IsFirst c.args.text.now (record { bytes = c.line_bytes-line.result + 1; is_broken = false })
ended c = first_ended c.args.text.now c.min.result c.line_bytes-line.result c.min.ensures c.line_bytes-line.ensures.line c.if-line-front.true

pub returns-then-line-front-clause-chunk : goal.returns-then-line-front-clause-chunk
returns-then-line-front-clause-chunk c = (ended c).here

pub returns-then-line-front-clause-decided : goal.returns-then-line-front-clause-decided
returns-then-line-front-clause-decided c last = (ended c).stays

long : (c : goal.After-chunk_of_long) → IsFirst c.args.text.now c.chunk_of_long.result
long c =
    first_long c.args.text.now c.min.result c.chunk_of_long.result c.min.ensures (omega arith) c.if-text-gt-MOST_LINE_BYTES.true
    (c.chunk_of_long.ensures ∙ ap chunk_of_long c.split_at.ensures.front)

pub returns-then-text-gt-MOST_LINE_BYTES-clause-chunk : goal.returns-then-text-gt-MOST_LINE_BYTES-clause-chunk
returns-then-text-gt-MOST_LINE_BYTES-clause-chunk c = (long c).here

pub returns-then-text-gt-MOST_LINE_BYTES-clause-within : goal.returns-then-text-gt-MOST_LINE_BYTES-clause-within
returns-then-text-gt-MOST_LINE_BYTES-clause-within c = let is = (long c).here in rw is (first_within c.args.text.now (omega arith))

pub returns-then-text-gt-MOST_LINE_BYTES-clause-decided : goal.returns-then-text-gt-MOST_LINE_BYTES-clause-decided
returns-then-text-gt-MOST_LINE_BYTES-clause-decided c last = (long c).stays

pub returns-then-not-is_empty-clause-chunk : goal.returns-then-not-is_empty-clause-chunk
returns-then-not-is_empty-clause-chunk c =
    sym (first_open c.args.text.now c.min.result c.min.ensures (omega arith) c.if-text-gt-MOST_LINE_BYTES.false).first

pub returns-clause-open : goal.returns-clause-open
returns-clause-open c last =
    (c.if-text-gt-MOST_LINE_BYTES.false, (first_open c.args.text.now c.min.result c.min.ensures (omega arith) c.if-text-gt-MOST_LINE_BYTES.false).none)
