use Rattle.std.proofs.Common.{◌≡◌, None, codes, inr, length, rules}
use Rattle.std.proofs.lemmas.List.{nil_from_length}
use Rattle.clap.specs.Words.{first_of, found_of, rows_of}
use Rattle.smap_arguments.proofs.Cuts.{no_pairs}
use Rattle.smap_arguments.proofs.Texts.{is_none}
use Rattle.smap_arguments.proofs.pairs.maps_in.Goals as goal

pub returns-then-not-has_text_in-clause-refused : goal.returns-then-not-has_text_in-clause-refused
returns-then-not-has_text_in-clause-refused c =
    let maps = c.in_ok-maps.maps.items in
    let empty : length maps ≡ 0 = search rules in
    let none : first_of (codes "LIST") (rows_of (found_of c.args.matches.now)) ≡ None = is_none _ (search rules) in
    inr (c.in_ok-no_maps_text.ensures, no_pairs _ maps c.in_ok-maps.ensures.given (nil_from_length maps empty), none)
