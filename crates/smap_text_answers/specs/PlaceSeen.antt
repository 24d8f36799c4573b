-- What contracts see of a place that was read.
use Rattle.smap_text_answers.specs.UrlPlace.{UrlPlace}
use Rattle.smap_printing.specs.declared.places.AskedPlace.{AskedPlace}

abbrev pub place_seen : AskedPlace → UrlPlace
place_seen place = record { url = place.url.now; position = place.position }
