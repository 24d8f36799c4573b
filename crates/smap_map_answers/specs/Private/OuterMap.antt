-- What an outer map keeps to.
use Rattle.std.specs.Borrow.{Bor}
use Rattle.std.specs.BTreeMap.{BTreeMap, get_by}
use Rattle.std.specs.Cmp.Lexicographic.{slice_cmp}
use Rattle.std.specs.List.{list_any}
use Rattle.std.specs.Ordering.{nat_cmp}
use Rattle.std.specs.Prelude.{◌≡◌, ℕ, Bool, List, is_some, length}
use Rattle.smap_record.specs.Sources.{StatedSource}
use Rattle.smap_map_answers.specs.ComposeAll.{is_called}
use Rattle.smap_map_answers.specs.declared.outer_map.OuterMap.{OuterMap}

-- names, as the keys of a map
abbrev pub Names : Type 0
Names = BTreeMap (Bor (List ℕ)) (Unit {0})

-- this is one of them
abbrev pub is_among : Names → (name : List ℕ) → Bool
is_among names name = is_some (get_by (λ there. slice_cmp nat_cmp name there.now) names)

-- they are those of the sources
abbrev pub AreNamesOf : List StatedSource → Names → Type 0
AreNamesOf sources names = (name : List ℕ) → is_among names name ≡ list_any (is_called name) sources

pub record IsOuter (outer : OuterMap) : Type 0 where
  pub counted : outer.count ≡ length outer.map.now.stated.sources
  pub named : AreNamesOf outer.map.now.stated.sources outer.names
