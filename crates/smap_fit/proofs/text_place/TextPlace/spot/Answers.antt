use Rattle.std.proofs.Common.{sym, ◌∙◌}
use Rattle.std.specs.Str.{chars}
use Rattle.smap_fit.specs.Private.Texts.{line_texts}
use Rattle.smap_fit.proofs.PlaceLaws.{kept, no_line, no_text, on_line, text_on}
use Rattle.smap_fit.proofs.text_place.TextPlace.spot.Goals as goal

pub returns-in_default-clause-standing : goal.returns-in_default-clause-standing
returns-in_default-clause-standing c = no_line (line_texts c.args.text.now) c.args.line c.args.column c.in_default.ensures

pub returns-in_default-clause-text : goal.returns-in_default-clause-text
returns-in_default-clause-text c = no_text (line_texts c.args.text.now) c.args.line c.args.column c.in_default.ensures

pub standing-requires : goal.standing-requires
standing-requires c = c.reach.ensures.column

pub returns-clause-place : goal.returns-clause-place
returns-clause-place c =
    let lines = line_texts c.args.text.now in
    let characters = chars c.in-Some.characters.now in
    let left = c.reach.ensures.left lines (sym c.in-Some.ensures) c.requires in
    let there = c.standing.new.self in
    kept lines c.reach.new.self.line c.args.line there.column there.before there.left.now characters c.reach.ensures.line
    c.in-Some.ensures (c.standing.ensures.left characters left)

pub returns-clause-standing : goal.returns-clause-standing
returns-clause-standing c =
    let lines = line_texts c.args.text.now in
    let characters = chars c.in-Some.characters.now in
    let left = c.reach.ensures.left lines (sym c.in-Some.ensures) c.requires in
    c.standing.ensures.standing characters left ∙ on_line lines c.args.line c.args.column characters c.in-Some.ensures

pub returns-clause-text : goal.returns-clause-text
returns-clause-text c =
    let lines = line_texts c.args.text.now in
    let characters = chars c.in-Some.characters.now in
    let left = c.reach.ensures.left lines (sym c.in-Some.ensures) c.requires in
    c.standing.ensures.text characters left ∙ text_on lines c.args.line c.args.column characters c.in-Some.ensures
