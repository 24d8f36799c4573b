use Rattle.std.proofs.Common.{◌≡◌, ◌++◌, map}
use Rattle.smap_record.specs.Sources.{source_of}
use Rattle.smap_compose.specs.LeftOut.{content_where}
use Rattle.smap_compose.specs.Private.Listing.{lent_source}
use Rattle.smap_compose.proofs.listing.owned_sources.Given as goal

-- the sources so far are owned
abbrev pub invariant-loop-source : goal.invariant-loop-source
invariant-loop-source l = record {
  sources : l.yielded ++ l.source-iterator.rest.items ≡ l.fn.sources.items;
  owned : map source_of l.owned.items ≡ map (content_where l.without_contents) (map lent_source l.yielded);
}
