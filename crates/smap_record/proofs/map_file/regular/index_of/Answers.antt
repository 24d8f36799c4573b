use Rattle.std.proofs.Common.{◌≡◌, ◌∷◌, [], List, None, true, ap, ◌∙◌}
use Rattle.std.proofs.lemmas.Option.{MatchOption-at_none}
use Rattle.smap_index.specs.Faults.{build_fault, is_interval, part_fault}
use Rattle.smap_index.specs.Marked.{MarkedContents, MarksContents}
use Rattle.smap_index.specs.Parts.{whole_text}
use Rattle.smap_index.specs.declared.part.Part.{Part}
use Rattle.smap_record.proofs.WrittenMappings.{no_build_fault}
use Rattle.smap_record.proofs.map_file.regular.index_of.Goals as goal

-- an index is built of a text that has no fault
no_fault : (given : MarkedContents) (parts : List Part) (marks : MarksContents) → parts ≡ whole_text given.text ∷ [] → marks ≡ given.marks
    → part_fault (whole_text given.text ∷ []) ≡ None → is_interval given.marks.k ≡ true → build_fault parts marks.k ≡ None
no_fault given parts marks same marks_are sound interval =
    ap (λ parts. build_fault parts marks.k) same
    ∙ ap (λ (marks : MarksContents). build_fault (whole_text given.text ∷ []) marks.k) marks_are
    ∙ no_build_fault given.text sound given.marks.k interval

pub no_memory-requires : goal.no_memory-requires
no_memory-requires c =
    let same = c.in_ok-parts.ensures.items ∙ ap (λ part. part ∷ []) c.part.ensures ∙ ap (λ text. whole_text text ∷ []) c.into_fields-text.ensures.text in
    MatchOption-at_none _ _
    (no_fault c.args.marked _ _ same c.into_fields-text.ensures.marks c.requires.sound c.requires.interval)
    c.in-Err.ensures.index

pub returns-in-Ok : goal.returns-in-Ok
returns-in-Ok c =
    let marks_are = c.into_fields-text.ensures.marks in
    let same = c.in_ok-parts.ensures.items ∙ ap (λ part. part ∷ []) c.part.ensures ∙ ap (λ text. whole_text text ∷ []) c.into_fields-text.ensures.text in
    let built = MatchOption-at_none _ _ (no_fault c.args.marked _ _ same marks_are c.requires.sound c.requires.interval) c.in-Ok.ensures.index in
    record { parts = built.parts_are ∙ same; interval = built.k_is ∙ ap (λ (marks : MarksContents). marks.k) marks_are }
