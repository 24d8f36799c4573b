use Rattle.std.proofs.Common.{◌≡◌, ◌<◌, ◌+◌, ◌-◌, ◌∷◌, [], ap, length, subst, sym, ◌∙◌, arith}
use Rattle.std.specs.Str.{chars}
use Rattle.std.proofs.lemmas.List.{length-drop}
use Rattle.std.proofs.lemmas.Slice.{between_from_start}
use Rattle.smap_text.specs.Begins.{BeginsAt}
use Rattle.smap_text.specs.Lines.{lines_of}
use Rattle.smap_text.proofs.LineLaws.{end_read, first_and_rest, first_read, second_begins}
use Rattle.smap_text.proofs.lines.split_line.Goals as goal

pub range-line-requires-clause-end_boundary : goal.range-line-requires-clause-end_boundary
range-line-requires-clause-end_boundary c =
    (first_read c.args.text.now c.as_bytes-bytes.result.now c.line_bytes-end.result c.utf8.text c.as_bytes-bytes.ensures.value c.line_bytes-end.ensures.bytes).boundary

pub range_from-requires : goal.range_from-requires
range_from-requires c =
    let some : 0 < c.end_bytes.result = omega arith in
    λ _. ((end_read c.args.text.now c.as_bytes-bytes.result.now c.line_bytes-end.result c.end_bytes.result c.utf8.text
    c.as_bytes-bytes.ensures.value c.line_bytes-end.ensures.bytes c.end_bytes.ensures).after some).0

pub returns-in-0-clause-lines : goal.returns-in-0-clause-lines
returns-in-0-clause-lines c =
    let read = end_read c.args.text.now c.as_bytes-bytes.result.now c.line_bytes-end.result c.end_bytes.result c.utf8.text
    c.as_bytes-bytes.ensures.value c.line_bytes-end.ensures.bytes c.end_bytes.ensures in
    first_and_rest _ _ _ read.first (read.last c.in-0.is)
    ∙ ap (λ l. chars l ∷ []) (sym (c.range-line.ensures.value ∙ between_from_start c.args.text.now c.line_bytes-end.result))

pub returns-in_default-clause-lines : goal.returns-in_default-clause-lines
returns-in_default-clause-lines c =
    let some : 0 < c.end_bytes.result = omega arith in
    let read = end_read c.args.text.now c.as_bytes-bytes.result.now c.line_bytes-end.result c.end_bytes.result c.utf8.text
    c.as_bytes-bytes.ensures.value c.line_bytes-end.ensures.bytes c.end_bytes.ensures in
    first_and_rest _ _ _ read.first ((read.after some).1 ∙ ap (λ l. lines_of (chars l)) (sym c.range_from.ensures.value))
    ∙ ap (λ l. chars l ∷ lines_of (chars c.range_from.result.now)) (sym (c.range-line.ensures.value ∙ between_from_start c.args.text.now c.line_bytes-end.result))

pub returns-in_default-clause-begins : goal.returns-in_default-clause-begins
returns-in_default-clause-begins c =
    let some : 0 < c.end_bytes.result = omega arith in
    let text = c.args.text.now in
    let behind = c.line_bytes-end.result + c.end_bytes.result in
    let read = end_read text c.as_bytes-bytes.result.now c.line_bytes-end.result c.end_bytes.result c.utf8.text
    c.as_bytes-bytes.ensures.value c.line_bytes-end.ensures.bytes c.end_bytes.ensures in
    let at : length text - length c.range_from.result.now ≡ behind =
    omega (arith, ap length c.range_from.ensures.value, length-drop behind text, (read.after some).0.0) in
    subst (BeginsAt text 1) (sym at) (second_begins read some)
