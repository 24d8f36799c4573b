-- Bytes that wait to be written.
use Rattle.std.specs.Prelude.{◌≡◌, ℕ, List, ◌++◌, Option}
use Rattle.smap_io.specs.Device.{Takes}

-- a front of these bytes was written, and the rest waits
abbrev pub HandsOn : (old new : Option (List ℕ)) (bytes waiting : List ℕ) → Type 0
HandsOn old new bytes waiting = (front : List ℕ) × Takes old new front × (bytes ≡ front ++ waiting)

-- how many bytes wait at most
abbrev pub most_gathered : ℕ
most_gathered = 65536
