use Rattle.std.proofs.Common.{◌≡◌, ◌≤◌, ◌<◌, None, Some, ap, arith, length, map, sym, ◌∙◌}
use Rattle.std.proofs.lemmas.List.{length-map}
use Rattle.std.specs.Prelude.{position}
use Rattle.smap_trace.specs.NotesSeen.{naming_seen, note_seen}
use Rattle.smap_trace.specs.Private.Noting.{is_of}
use Rattle.smap_trace.proofs.NoteSteps.{added, noted_none, noted_one, noting_first, noting_full, noting_one, when_enough}
use Rattle.smap_trace.proofs.url_notes.UrlNotes.note_one.Goals as goal

pub returns-in-Some : goal.returns-in-Some
returns-in-Some c =
    let naming = naming_seen c.args.naming.now in
    let items = c.args.self.now.notes.items in
    let at : position (λ note. is_of naming.url (note_seen note)) items ≡ Some c.in-Some.place =
    ap (position (λ note. is_of naming.url (note_seen note))) (sym c.deref.ensures.value) ∙ sym c.place_of.ensures ∙ c.in-Some.is in
    when_enough c.args.self.now.is_short _
    (c.count_at.ensures ∙ sym (noting_one naming (map note_seen items) (noted_one note_seen naming items c.in-Some.place at)))

pub returns-then-len-lt-MOST_URLS : goal.returns-then-len-lt-MOST_URLS
returns-then-len-lt-MOST_URLS c =
    let naming = naming_seen c.args.naming.now in
    let items = c.args.self.now.notes.items in
    let at : position (λ note. is_of naming.url (note_seen note)) items ≡ None =
    ap (position (λ note. is_of naming.url (note_seen note))) (sym c.deref.ensures.value) ∙ sym c.place_of.ensures ∙ c.in_default.is in
    let few : length (map note_seen items) < 100 = omega (arith, length-map items note_seen, c.len.ensures) in
    added naming (map note_seen items) _ c.add.new.self.is_short c.args.self.now.is_short c.add.ensures
    (noting_first naming (map note_seen items) (noted_none note_seen naming items at) few)

pub returns-else-len-lt-MOST_URLS : goal.returns-else-len-lt-MOST_URLS
returns-else-len-lt-MOST_URLS c =
    let naming = naming_seen c.args.naming.now in
    let items = c.args.self.now.notes.items in
    let at : position (λ note. is_of naming.url (note_seen note)) items ≡ None =
    ap (position (λ note. is_of naming.url (note_seen note))) (sym c.deref.ensures.value) ∙ sym c.place_of.ensures ∙ c.in_default.is in
    let many : 100 ≤ length (map note_seen items) = omega (arith, length-map items note_seen, c.len.ensures) in
    when_enough c.args.self.now.is_short _ (sym (noting_full naming (map note_seen items) (noted_none note_seen naming items at) many))
