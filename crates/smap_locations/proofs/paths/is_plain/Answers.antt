use Rattle.std.proofs.Common.{◌≡◌, ◌&&◌, ◌==◌, true, ap, sym, ◌∙◌, rules, tests}
use Rattle.std.specs.List.{list_all, slice_split}
use Rattle.std.proofs.lemmas.Iterator.{YieldsList-from_slice}
use Rattle.std.proofs.lemmas.Iterator.Search.{all_from_yields_List}
use Rattle.std.proofs.lemmas.Iterator.Splits.{YieldsList-from_slice_split}
use Rattle.smap_locations.specs.Paths.{is_plain_byte, is_plain_piece}
use Rattle.smap_locations.specs.Patterns.{path_byte}
use Rattle.smap_locations.proofs.SlashLaws.{plain_is}
use Rattle.smap_locations.proofs.paths.is_plain.Goals as goal

pub returns-then-all : goal.returns-then-all
returns-then-all c =
    let rest = c.args.rest.now in
    let f = path_byte c.args.has_backslashes in
    let pieces : c.all-then-all.result ≡ list_all is_plain_piece (slice_split (λ byte. f byte == 47) rest) =
    all_from_yields_List is_plain_piece _ _ c.all-then-all.result c.all-then-all.ensures.ran
    (YieldsList-from_slice_split _ (λ byte. f byte == 47) rest c.split.ensures.rest c.split.ensures.done c.split.ensures.closure
    (λ x b q k. search (rules, tests)))
    (λ x b q k. search (rules, tests)) in
    let bytes : list_all (λ byte. is_plain_byte (f byte)) rest ≡ true =
    sym (all_from_yields_List (λ byte. is_plain_byte (f byte)) _ _ c.all.result c.all.ensures.ran (YieldsList-from_slice rest c.iter.ensures.rest)
    (λ x b q k. search (rules, tests)))
    ∙ c.if-all.true in
    pieces ∙ ap (λ b. b && list_all is_plain_piece (slice_split (λ byte. f byte == 47) rest)) (sym bytes) ∙ plain_is c.args.has_backslashes rest

pub returns-else-all : goal.returns-else-all
returns-else-all c =
    let rest = c.args.rest.now in
    let f = path_byte c.args.has_backslashes in
    let bytes : c.all.result ≡ list_all (λ byte. is_plain_byte (f byte)) rest =
    all_from_yields_List (λ byte. is_plain_byte (f byte)) _ _ c.all.result c.all.ensures.ran (YieldsList-from_slice rest c.iter.ensures.rest)
    (λ x b q k. search (rules, tests)) in
    c.if-all.false ∙ ap (λ b. b && list_all is_plain_piece (slice_split (λ byte. f byte == 47) rest)) (sym c.if-all.false ∙ bytes)
    ∙ plain_is c.args.has_backslashes rest
