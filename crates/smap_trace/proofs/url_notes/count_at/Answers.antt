use Rattle.std.proofs.Common.{ap, rules, ◌∙◌}
use Rattle.smap_trace.specs.NotesSeen.{naming_seen, note_seen}
use Rattle.smap_trace.specs.Private.Noting.{with_naming}
use Rattle.smap_trace.proofs.NoteSteps.{index_is, one_set}
use Rattle.smap_trace.proofs.url_notes.count_at.Goals as goal

pub returns : goal.returns
returns c =
    let naming = naming_seen c.args.naming.now in
    one_set note_seen naming c.args.notes.now.items c.args.place c.count.new.note c.index_mut.result.now
    (index_is note_seen naming c.args.notes.now.items c.args.place c.requires) (search rules)
    (c.count.ensures ∙ ap (λ note. with_naming naming (note_seen note)) c.index_mut.ensures.value)
