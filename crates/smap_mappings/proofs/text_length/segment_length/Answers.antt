use Rattle.std.proofs.Common.{◌≡◌, ◌+◌, ap, sym, ◌∙◌, length, Some, None, rules}
use Rattle.smap_mappings.specs.Canonical.{shortest_spelling}
use Rattle.smap_mappings.specs.Private.OneMore.{spelled}
use Rattle.smap_mappings.proofs.WritingLaws.{fields_are, four_lengths, five_lengths}
use Rattle.smap_mappings.proofs.text_length.segment_length.Goals as goal

pub returns-in-Some-name-clause-length : goal.returns-in-Some-name-clause-length
returns-in-Some-name-clause-length c =
    let segment = c.args.segment.now in
    let origin = c.in-Some.origin in
    let a : c.spelling_length-column.result ≡ length (shortest_spelling segment.column) = search rules in
    let b : c.spelling_length.result ≡ length (shortest_spelling origin.source) = search rules in
    let d : c.spelling_length-2.result ≡ length (shortest_spelling origin.line) = search rules in
    let e : c.spelling_length-3.result ≡ length (shortest_spelling origin.column) = search rules in
    let f : c.spelling_length-in-Some-name.result ≡ length (shortest_spelling c.in-Some-name.name) = search rules in
    (λ i. a i + b i + d i + e i + f i)
    ∙ sym (ap (λ fields. length (spelled fields)) (fields_are segment origin (Some c.in-Some-name.name) c.in-Some.is c.in-Some-name.is)
    ∙ five_lengths segment.column origin.source origin.line origin.column c.in-Some-name.name)

pub returns-in-None-clause-length : goal.returns-in-None-clause-length
returns-in-None-clause-length c =
    let segment = c.args.segment.now in
    let origin = c.in-Some.origin in
    let a : c.spelling_length-column.result ≡ length (shortest_spelling segment.column) = search rules in
    let b : c.spelling_length.result ≡ length (shortest_spelling origin.source) = search rules in
    let d : c.spelling_length-2.result ≡ length (shortest_spelling origin.line) = search rules in
    let e : c.spelling_length-3.result ≡ length (shortest_spelling origin.column) = search rules in
    (λ i. a i + b i + d i + e i)
    ∙ sym (ap (λ fields. length (spelled fields)) (fields_are segment origin None c.in-Some.is c.in-None.is)
    ∙ four_lengths segment.column origin.source origin.line origin.column)
