use Rattle.std.proofs.Common.{◌≡◌, ◌<◌, ◌+◌, ap, arith, length, rules}
use Rattle.std.specs.Prelude.{option_copied}
use Rattle.std.specs.Str.{chars}
use Rattle.smap_text.specs.Lines.{lines_behind, lines_of}
use Rattle.smap_c.proofs.LineLaws.{IsPut, more_left, put_each, put_last, put_next, put_none}
use Rattle.smap_c.proofs.lines.put_lines.Goals as goal

pub loop-number-init : goal.loop-number-init
loop-number-init c = (search rules, put_none c.args.content.now c.args.rest.now c.args.lines.now c.requires.end)

pub loop-number-preserved : goal.loop-number-preserved
loop-number-preserved c =
    let so_far = c.loop-number.invariant.1 in
    let behind = lines_behind (option_copied c.split_line.result.1) in
    let put : IsPut c.args.content.now c.loop-number.rest.now c.split_line.result.0.now behind c.line_bytes.result = record {
      first = c.split_line.ensures.lines;
      front = c.split_line.ensures.front;
      start = c.line_bytes.ensures.start;
      kept = c.line_bytes.ensures.front;
      cut = c.line_bytes.ensures.cut;
    } in
    let within : c.loop-number.number < length c.loop-number.lines = omega (arith, so_far.places) in (
      search rules,
      put_next c.args.content.now c.args.rest.now c.loop-number.number c.loop-number.rest.now c.args.lines.now c.loop-number.lines so_far
          c.split_line.result.0.now behind c.line_bytes.result put c.in-Some.next.now c.utf8.content
          (ap (λ o. lines_behind (option_copied o)) c.in-Some.is) (rw c.in-Some.is at c.split_line.ensures.rest)
          (rw c.in-Some.is at c.split_line.ensures.begins) within,
    )

pub returns-in-None-clause-count : goal.returns-in-None-clause-count
returns-in-None-clause-count c =
    let so_far = c.loop-number.invariant.1 in
    let behind = lines_behind (option_copied c.split_line.result.1) in
    let put : IsPut c.args.content.now c.loop-number.rest.now c.split_line.result.0.now behind c.line_bytes.result = record {
      first = c.split_line.ensures.lines;
      front = c.split_line.ensures.front;
      start = c.line_bytes.ensures.start;
      kept = c.line_bytes.ensures.front;
      cut = c.line_bytes.ensures.cut;
    } in
    let all : length (lines_of (chars c.args.rest.now)) ≡ c.loop-number.number + 1 =
    put_last c.args.content.now c.args.rest.now c.loop-number.number c.loop-number.rest.now c.args.lines.now c.loop-number.lines so_far
    c.split_line.result.0.now behind c.line_bytes.result put (ap (λ o. lines_behind (option_copied o)) c.in-None.is) in
    omega (arith, all)

pub returns-in-None-clause-each : goal.returns-in-None-clause-each
returns-in-None-clause-each c first k is below =
    let so_far = c.loop-number.invariant.1 in
    let behind = lines_behind (option_copied c.split_line.result.1) in
    let put : IsPut c.args.content.now c.loop-number.rest.now c.split_line.result.0.now behind c.line_bytes.result = record {
      first = c.split_line.ensures.lines;
      front = c.split_line.ensures.front;
      start = c.line_bytes.ensures.start;
      kept = c.line_bytes.ensures.front;
      cut = c.line_bytes.ensures.cut;
    } in
    let within : c.loop-number.number < length c.loop-number.lines = omega (arith, so_far.places) in
    put_each c.args.content.now c.args.rest.now c.loop-number.number c.loop-number.rest.now c.args.lines.now c.loop-number.lines so_far
    c.split_line.result.0.now behind c.line_bytes.result put within first is k below

pub returns-clause-count : goal.returns-clause-count
returns-clause-count c =
    let more = more_left c.args.content.now c.args.rest.now c.loop-number.number c.loop-number.rest.now c.args.lines.now c.loop-number.lines
    c.loop-number.invariant.1 in
    omega (arith, more)

pub returns-clause-each : goal.returns-clause-each
returns-clause-each c first k is below = c.loop-number.invariant.1.each first is k (omega arith)
