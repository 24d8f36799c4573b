-- How the fields of `Inners` are seen, and what they keep to.
use Rattle.std.specs.Prelude.{◌<◌, ◌^◌, length, option_map}
use Rattle.smap_c.specs.Inners.{Places, maps_held}
use Rattle.smap_c.specs.declared.inners.Inners.TheInside.{Inside}

abbrev pub places_seen : Inside → Places
places_seen inside = record {
  whole = option_map (λ whole. whole.value) inside.whole;
  leads = inside.leads.items;
  asked = inside.asked;
  maps = maps_held inside.maps.items;
}

-- each place has a number of 32 bits
pub record AreFew (inside : Inside) : Type 0 where
  pub few : length inside.maps.items < 2 ^ 32
