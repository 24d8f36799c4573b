-- The URLs of a table are such as are sought: a frame's stands within its line, and all begin with what they have in common.
use Rattle.std.specs.Prelude.{ℕ, ◌||◌, Bool, true, false, IfSome, List, None, Option, Some}
use Rattle.std.proofs.Common.{ap}
use Rattle.smap_anywhere.specs.Laws.FrameUrl.{frame_url_within}
use Rattle.smap_anywhere.specs.Laws.MapFront.{front_known}
use Rattle.smap_anywhere.specs.MapsSeen.{MapsSeen}
use Rattle.smap_anywhere.specs.MapUrls.{urls_known}
use Rattle.smap_pairs.specs.Known.{AllBegin, IsFrameUrlWithin, IsFrontKnown}
use Rattle.smap_piecewise.specs.TableUrls.{table_urls}
use Rattle.smap_piecewise.specs.declared.table_urls.TableUrls.{TableUrls}

-- where no maps are asked for
without_asking : (maps : MapsSeen) (front : Option (List ℕ)) → IfSome front (AllBegin (urls_known maps)) → IfSome front (AllBegin (table_urls false maps))
without_asking maps None is = tt
without_asking maps (Some front) is = record {
  some = is.some;
  plain = is.plain;
  own = is.own;
  names = is.names;
  named = is.named;
  prefixes = is.prefixes;
  patterns = λ url. ap (λ b. b || false) (is.patterns url);
}

fronts_of : (maps : MapsSeen) (asks : Bool) → IsFrontKnown (table_urls asks maps)
fronts_of maps true = tt
fronts_of maps false = without_asking maps (urls_known maps).front (front_known maps)

pub table_within : (known : TableUrls) (line : List ℕ) → IsFrameUrlWithin (table_urls known.asks known.urls) line
table_within known line = frame_url_within line

pub table_fronts : (known : TableUrls) → IsFrontKnown (table_urls known.asks known.urls)
table_fronts known = fronts_of known.urls known.asks
