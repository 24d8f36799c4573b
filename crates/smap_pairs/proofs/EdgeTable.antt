-- The table in `src/bytes.rt` holds, at each byte, whether it is an edge.
use Rattle.std.proofs.Common.{◌≡◌, ℕ, ◌<◌, false, get_or, map, refl, sym, zero-add, ◌∙◌, ap}
use Rattle.std.specs.List.{range_with_len}
use Rattle.std.proofs.lemmas.List.FromFn.{get_or-map-range_with_len}
use Rattle.smap_pairs.specs.Bytes.{is_edge_byte}
use Rattle.smap_pairs.specs.declared.bytes.TheConstants.{EDGES}

all_edges : map (λ byte. get_or EDGES byte false) (range_with_len 0 256) ≡ map is_edge_byte (range_with_len 0 256)
all_edges = refl

pub edge_is : (byte : ℕ) → byte < 256 → get_or EDGES byte false ≡ is_edge_byte byte
edge_is byte below =
    sym (get_or-map-range_with_len (λ byte. get_or EDGES byte false) 0 256 byte byte false below (zero-add byte))
    ∙ ap (λ values. get_or values byte false) all_edges ∙ get_or-map-range_with_len is_edge_byte 0 256 byte byte false below (zero-add byte)
