-- What the fields of values in order stand for: a number for each text, and what has the number, in the order of use.
use Rattle.std.specs.Prelude.{◌≡◌, ℕ, ◌<◌, ◌≤◌, ◌-◌, ◌^◌, List, [], ◌∷◌, None, length, map, nat_eq}
use Rattle.std.specs.BTreeMap.{is_at}
use Rattle.std.specs.Cmp.Lexicographic.{slice_cmp}
use Rattle.std.specs.Map.{lookup}
use Rattle.std.specs.Ordering.{nat_cmp}
use Rattle.smap_locations.specs.ByText.{value_under}
use Rattle.smap_kept.specs.declared.in_order.InOrder.TheInside.{Inside}
use Rattle.smap_kept.specs.declared.in_order.Named.{Named}

module _ {V : Type 0} where
  -- the values under their texts
  abbrev pub in_order : List (ℕ × Named V) → List (List ℕ × V)
  in_order entries = map (λ e. (e.1.text.items, e.1.value)) entries

  -- the numbers under their texts
  abbrev pub numbers_of : List (ℕ × Named V) → List (List ℕ × ℕ)
  numbers_of entries = map (λ e. (e.1.text.items, e.0)) entries

  -- each text and each number once, and no number as large as the next
  abbrev pub IsOnce : (next : ℕ) → List (ℕ × Named V) → Type 0
  IsOnce next [] = Unit {0}
  IsOnce next (e ∷ entries) =
      (e.0 < next) × (value_under e.1.text.items (numbers_of entries) ≡ None) × (lookup (nat_eq e.0) entries ≡ None) × IsOnce next entries

  -- each text has its number
  pub record IsNumbered (all : Inside V) : Type 0 where
    pub numbers : (text : List ℕ) → lookup (is_at (λ k. slice_cmp nat_cmp text k.items)) all.numbers.entries ≡ value_under text (numbers_of all.entries.entries)
    pub once : IsOnce all.next all.entries.entries
    pub few : length all.entries.entries ≤ all.next
    pub wide : all.entries.cap ≡ 2 ^ 64 - 1
