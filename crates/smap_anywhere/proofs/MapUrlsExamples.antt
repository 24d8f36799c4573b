-- Worked examples of the URLs of maps: each holds by computing both sides.
use Rattle.std.proofs.Common.{◌≡◌, true, false, [], ◌∷◌, Some, None, codes, map, refl}
use Rattle.std.specs.Str.{chars, is_utf8}
use lib.Utf8.{encode}
use Rattle.smap_pairs.specs.Known.{UrlsKnown}
use Rattle.smap_pairs.specs.declared.known.NamedBy.TheVariants.{Any, Argument, List as ByList}
use Rattle.smap_anywhere.specs.MapUrls.{urls_known}
use Rattle.smap_anywhere.specs.MapsSeen.{MapsSeen}
use Rattle.smap_record.specs.Record.{MapRecord}
use Rattle.smap_trace.specs.FrameOf.{frame_of}

-- a URL of an argument, those of a list, two folders and two patterns
module _ (stated : MapRecord) where
  abbrev maps : MapsSeen
  maps = record {
    table = (codes "a:/x.js", stated) ∷ (codes "a:/q.js?1", stated) ∷ (codes "a:/\".js", stated) ∷ [];
    locations = record {
      files = (codes "b:/x.js", codes "x.map") ∷ (codes "b:/q.js?1", codes "q.map") ∷ [];
      folders = (codes "c:/d/", codes "maps/") ∷ (codes "c:/?/", codes "maps/") ∷ [];
      patterns = ([], codes "all.map") ∷ (codes "p.js", codes "p.map") ∷ (codes "/dist/", codes "maps/") ∷ [];
    };
  }

  abbrev known : UrlsKnown
  known = urls_known maps

  -- an argument has its URL alone; a list also those with a query; a folder those with a plain path; a pattern none
  own : map known.has_own (codes "a:/x.js" ∷ codes "a:/x.js?2" ∷ codes "b:/x.js?2" ∷ codes "c:/d/e/y.js?2" ∷ codes "c:/d/../y.js" ∷ codes "e:/p.js" ∷ [])
      ≡ true ∷ false ∷ true ∷ true ∷ false ∷ false ∷ []
  unfolding is_utf8 chars encode
  own = refl

  names : map known.is_name (codes "a:/x.js" ∷ codes "b:/x.js" ∷ codes "b:/x.js?2" ∷ codes "a:/\".js" ∷ codes "c:/d/" ∷ [])
      ≡ true ∷ true ∷ false ∷ true ∷ false ∷ []
  names = refl

  -- by both, by an argument, and by a list that has any query behind it
  named : map (λ by. map (known.is_named by) (codes "a:/x.js" ∷ codes "a:/q.js?1" ∷ codes "a:/\".js" ∷ codes "b:/x.js" ∷ codes "b:/q.js?1" ∷ [])) (Any ∷ Argument ∷ ByList ∷ [])
      ≡ (true ∷ true ∷ false ∷ true ∷ true ∷ []) ∷ (true ∷ true ∷ false ∷ false ∷ false ∷ []) ∷ (false ∷ false ∷ false ∷ true ∷ false ∷ []) ∷ []
  named = refl

  prefixes : map known.is_prefix (codes "c:/d/" ∷ codes "c:/d" ∷ codes "c:/?/" ∷ codes "a:/x.js" ∷ []) ≡ true ∷ false ∷ false ∷ false ∷ []
  prefixes = refl

  -- not a time of day, and not by a folder that has no file
  patterns : map known.has_pattern (codes "e:/p.js" ∷ codes "e:/p.js?2" ∷ codes "/dist/y.js" ∷ codes "/dist/../y.js" ∷ codes "12:30" ∷ codes "a:/x.js" ∷ [])
      ≡ true ∷ true ∷ true ∷ false ∷ false ∷ false ∷ []
  unfolding is_utf8 chars encode
  patterns = refl

  frames : map known.frame_url (codes "at f (a:/x.js:1:2)" ∷ codes "f@a:/x.js:1:2" ∷ codes "a:/x.js:1:2" ∷ []) ≡ Some (6, 13) ∷ Some (2, 9) ∷ None ∷ []
  unfolding frame_of
  frames = refl
