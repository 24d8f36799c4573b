use Rattle.std.proofs.Common.{subst, sym}
use Rattle.std.specs.Prelude.{Ok, length, option_copied}
use Rattle.std.proofs.lemmas.List.{length-map}
use Rattle.smap_replies.specs.Arguments.{argument_of}
use Rattle.smap_replies.specs.Outcome.{or_reported}
use Rattle.smap_text_answers.specs.Sources.{ReadsList}
use Rattle.smap_text_answers.proofs.sources.sources_of.Goals as goal

pub returns-in-Some : goal.returns-in-Some
returns-in-Some g c =
    let Reads = g.F.FileReader.gives c.args.maps.now.files.now in
    let read = subst (λ n. ReadsList Reads c.args.anywhere n (option_copied c.args.list) c.in_ok-exact.exact c.in_ok-locations.locations (or_reported c.with_list.result))
    (sym (length-map c.args.arguments.now argument_of))
    (subst (λ l. ReadsList Reads c.args.anywhere (length c.args.arguments.now) (option_copied l) c.in_ok-exact.exact c.in_ok-locations.locations (or_reported c.with_list.result))
    (sym c.in-Some.is) c.with_list.ensures) in (
      Ok c.in_ok-locations.locations,
      rw c.in_ok-locations.was at c.rules_of.ensures,
      (
        Ok c.in_ok-exact.exact,
        rw c.in_ok-exact.was at c.table_of.ensures,
        read,
      ),
    )
