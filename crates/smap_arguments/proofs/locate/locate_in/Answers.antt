use Rattle.std.proofs.Common.{◌≡◌, ◌&&◌, arith, false, inl, inr, is_some, rules}
use Rattle.std.proofs.lemmas.Grind.{common_steps}
use Rattle.std.specs.Prelude.{string_bytes}
use Rattle.clap.specs.Words.{found_of, rows_of}
use Rattle.smap_arguments.specs.Refusals.{HasBaseOrPaths, ReportsBaseAndPaths, ReportsContextAlone}
use Rattle.smap_arguments.proofs.locate.locate_in.Goals as goal

pub returns-then-paths-clause-refused : goal.returns-then-paths-clause-refused
returns-then-paths-clause-refused c =
    let rows = rows_of (found_of c.args.matches.now) in
    let reported : ReportsBaseAndPaths rows (string_bytes c.in_ok-from_str.field-0) = search rules in
    inr (c.in_ok-maps.maps.items, (c.in_ok-maps.ensures.given, c.in_ok-maps.ensures.some), inl reported)

pub returns-then-not-is_json-clause-refused : goal.returns-then-not-is_json-clause-refused
returns-then-not-is_json-clause-refused c =
    let rows = rows_of (found_of c.args.matches.now) in
    let paths = c.flag_in-paths.result in
    let not_both : (is_some c.args.base && paths) ≡ false = first_of (search rules, grind (arith, common_steps)) in
    let may : HasBaseOrPaths rows = (c.args.base, paths, c.requires.given, c.flag_in-paths.ensures, not_both) in
    let reported : ReportsContextAlone rows (string_bytes c.in_ok-from_str-2.field-0) = search (rules, may) in
    inr (c.in_ok-maps.maps.items, (c.in_ok-maps.ensures.given, c.in_ok-maps.ensures.some), inr reported)
