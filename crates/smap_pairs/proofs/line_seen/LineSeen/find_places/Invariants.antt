use Rattle.std.proofs.Common.{◌≡◌, ◌≤◌, ◌+◌, ◌++◌, ℕ, length, vec_capacity}
use Rattle.std.specs.List.{filter_map, slice_get}
use Rattle.smap_pairs.specs.Behind.{KeepsRoom}
use Rattle.smap_pairs.specs.LinePlaces.{frame_in, place_of}
use Rattle.smap_pairs.specs.Pairs.{AreInOrder}
use Rattle.smap_pairs.specs.VirtualLines.{line_of_byte}
use Rattle.smap_pairs.proofs.line_seen.LineSeen.find_places.Given as goal

-- the places of the pairs so far were found, at most one for each; both lines, with their frames, are not behind the pairs that are left; and the room is there
abbrev pub invariant-loop-pair : goal.invariant-loop-pair
invariant-loop-pair g l =
    let known = g.K.KnownUrls.known l.known in
    let frame = frame_in known l.self.text.now l.self.seen.now l.self.pairs.now in
    let place = place_of known l.self.text.now l.self.seen.now l.self.pairs.now in
    record {
      places : filter_map place l.self.pairs.now ≡ l.places.items ++ filter_map place l.rest;
      order : (piece : ℕ) × AreInOrder piece (length l.self.text.now) l.rest
          × ((byte : ℕ) → piece ≤ byte → l.string.index ≤ line_of_byte l.self.strings.now byte)
          × ((byte : ℕ) → piece ≤ byte → l.line.index ≤ line_of_byte l.self.lines.now byte);
      string : l.string.place ≡ frame (slice_get l.self.strings.now l.string.index);
      line : l.line.place ≡ frame (slice_get l.self.lines.now l.line.index);
      few : length l.places.items + length l.rest ≤ length l.self.pairs.now;
      keeps_room : KeepsRoom l.fn.behind l.behind;
      halves : vec_capacity l.fn.halves ≤ vec_capacity l.halves;
      capacity : vec_capacity l.fn.places ≤ vec_capacity l.places;
    }

abbrev pub decreases-loop-pair : goal.decreases-loop-pair
decreases-loop-pair g l = length l.rest
