-- Of private contracts only: a place that waits is handed out.
use Rattle.std.specs.Prelude.{◌≡◌, ◌∷◌}
use Rattle.smap_pairs.specs.declared.line_places.Span.{Span}
use Rattle.smap_anywhere.specs.FoundUrls.{FinderSeen, found_at}
use Rattle.smap_anywhere.specs.declared.url_finder.FoundUrl.{FoundUrl}

-- the first one that waited was found, and waits no more
pub record HandsOut (old new : FinderSeen) (found : FoundUrl) : Type 0 where
  pub span : Span
  pub waited : old.waiting ≡ span ∷ new.waiting
  pub is : found ≡ found_at old.begin span
  pub left : new ≡ record old { waiting = new.waiting; next = found.next }
