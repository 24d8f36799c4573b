use Rattle.std.proofs.Common.{◌∷◌, ◌++◌, [], ap, ◌∙◌}
use Rattle.smap_declarations.specs.Private.Found.{named}
use Rattle.smap_declarations.specs.declared.name_list.Entry.{Entry}
use Rattle.smap_declarations.proofs.EntryLaws.{entries_grow, one_more}
use Rattle.smap_declarations.proofs.name_list.NameList.push.Goals as goal

pub invariant_of-self-2 : goal.invariant_of-self-2
invariant_of-self-2 c =
    let found = c.args.found.now in
    let entry : Entry = record {
      key = c.key_of.result;
      start = c.in_ok-start.start;
      length = c.in_ok-start.length;
      place = found.place;
      until = found.until;
      given = found.given;
    } in
    entries_grow c.self.inside.names.items c.stand.new.names.items c.self.inside.entries.items c.push.new.self.items entry found.name.now
    c.stand.ensures.grows c.self.invariant c.key_of.ensures c.in_ok-start.ensures.stands c.in_ok-push.ensures.items

pub returns : goal.returns
returns c =
    one_more c.self.inside.names.items c.stand.new.names.items c.self.inside.entries.items c.push.new.self.items
    c.key_of.result c.in_ok-start.start c.in_ok-start.length c.args.found.now.name.now c.args.found.now.place c.args.found.now.until c.args.found.now.given
    c.stand.ensures.grows c.self.invariant c.in_ok-start.ensures.stands.1 c.in_ok-push.ensures.items
    ∙ ap (λ l. l ++ named c.args.found.now ∷ []) c.self.view_is
