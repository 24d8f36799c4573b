use Rattle.std.proofs.Common.{◌≡◌, ◌++◌, ℕ, List, ap, sym, ◌∙◌, subst, Some, None, rules}
use Rattle.std.specs.Prelude.{OnOk}
use Rattle.smap_mappings.specs.Canonical.{shortest_spelling}
use Rattle.smap_mappings.specs.Private.OneMore.{spelled}
use Rattle.smap_mappings.proofs.WritingLaws.{fields_are, four_written, five_written}
use Rattle.smap_mappings.proofs.text_writer.write_segment.Goals as goal
use Rattle.smap_mappings.proofs.text_writer.write_segment.Goals.{In_ok-write_vlq-4}

-- the first four fields are written
four : (c : In_ok-write_vlq-4) → c.write_vlq-4.new.out.items
    ≡ c.args.out.now.items ++ shortest_spelling c.args.segment.now.column ++ shortest_spelling c.in-Some.origin.source
    ++ shortest_spelling c.in-Some.origin.line ++ shortest_spelling c.in-Some.origin.column
four c =
    let origin = c.in-Some.origin in
    let first : c.write_vlq.new.out.items ≡ c.args.out.now.items ++ shortest_spelling c.args.segment.now.column = search rules in
    let second : c.write_vlq-2.new.out.items ≡ c.write_vlq.new.out.items ++ shortest_spelling origin.source = search rules in
    let third : c.write_vlq-3.new.out.items ≡ c.write_vlq-2.new.out.items ++ shortest_spelling origin.line = search rules in
    let fourth : c.write_vlq-4.new.out.items ≡ c.write_vlq-3.new.out.items ++ shortest_spelling origin.column = search rules in
    fourth ∙ ap (λ out. out ++ shortest_spelling origin.column)
    (third ∙ ap (λ out. out ++ shortest_spelling origin.line) (second ∙ ap (λ out. out ++ shortest_spelling origin.source) first))

pub returns-in-Some-name : goal.returns-in-Some-name
returns-in-Some-name c =
    let segment = c.args.segment.now in
    let origin = c.in-Some.origin in
    let P : List ℕ → Type 0 = λ bytes. OnOk c.write_vlq-in-Some-name.result (c.write_vlq-in-Some-name.new.out.items ≡ bytes) in
    let last : P (c.write_vlq-4.new.out.items ++ shortest_spelling c.in-Some-name.name) = search rules in
    subst P
    (ap (λ out. out ++ shortest_spelling c.in-Some-name.name) (four (goal.at.returns-in-Some-name c).In_ok-write_vlq-4)
    ∙ five_written segment.column origin.source origin.line origin.column c.in-Some-name.name c.args.out.now.items
    ∙ ap (λ fields. c.args.out.now.items ++ spelled fields) (sym (fields_are segment origin (Some c.in-Some-name.name) c.in-Some.is c.in-Some-name.is)))
    last

pub returns-in-None : goal.returns-in-None
returns-in-None c =
    let segment = c.args.segment.now in
    let origin = c.in-Some.origin in
    four (goal.at.returns-in-None c).In_ok-write_vlq-4
    ∙ four_written segment.column origin.source origin.line origin.column c.args.out.now.items
    ∙ ap (λ fields. c.args.out.now.items ++ spelled fields) (sym (fields_are segment origin None c.in-Some.is c.in-None.is))
