use Rattle.std.proofs.Common.{◌≡◌, ◌++◌, ap, length, map, rules, ◌∙◌}
use Rattle.smap_pairs.specs.Known.{is_among}
use Rattle.smap_anywhere.specs.MapsSeen.{MapsSeen}
use Rattle.smap_anywhere.proofs.LengthLaws.{text_among}
use Rattle.smap_anywhere.proofs.MapUrlsLaws.{name_among}
use Rattle.smap_anywhere.proofs.map_urls.MapUrls.new.Goals as goal

pub invariant_of-result : goal.invariant_of-result
invariant_of-result c =
    let maps : MapsSeen = record { table = c.args.table.now; locations = c.args.locations.now } in
    let all : c.deref-2.result.now ≡ map (λ pair. length pair.0) maps.table ++ map (λ pair. length pair.0) maps.locations.files = search rules in
    let folders : c.deref-3.result.now ≡ map (λ pair. length pair.0) maps.locations.folders = search rules in
    record {
      of_names = λ url on. c.in_ok-names.ensures (length url) (name_among maps c.deref-2.result.now all url on);
      of_prefixes = λ text on. c.in_ok-prefixes.ensures (length text)
          (ap (λ l. is_among l (length text)) folders ∙ text_among maps.locations.folders text on);
      front_is = c.front_of_urls.ensures;
    }
