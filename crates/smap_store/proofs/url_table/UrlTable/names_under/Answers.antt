use Rattle.std.proofs.Common.{sym}
use Rattle.smap_store.proofs.NamesLaws.{undeclared}
use Rattle.smap_store.proofs.url_table.UrlTable.names_under.Goals as goal

pub returns-then-has_no_names : goal.returns-then-has_no_names
returns-then-has_no_names c =
    let none = c.has_no_names.ensures c.if-has_no_names.true in
    sym (undeclared c.args.cut c.args.self.now c.args.url.now none.0 none.1)
