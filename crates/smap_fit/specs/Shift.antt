-- Which shift of all mappings alike makes a map fit a text best.
use Rattle.std.specs.Prelude.{◌≡◌, ℕ, ◌+◌, ◌-◌, ◌/◌, ◌%◌, ◌<◌, ◌≤◌, ◌==◌, ◌||◌, Bool, List, Option, Some, None, count_by, if◌then◌else◌, nat_le}
use Rattle.std.specs.Option.{option_map_or}
use Rattle.smap_mappings.specs.declared.mapping.Mapping.{Mapping}
use Rattle.smap_fit.specs.Fresh.{fresh}
use Rattle.smap_fit.specs.Standing.{is_inside, is_past, standing_in}
use Rattle.smap_fit.specs.declared.shift.BestShift.{BestShift}
use Rattle.smap_fit.specs.declared.shift.Move.{Move}
use Rattle.smap_fit.specs.declared.shift.Move.TheVariants.{On, Back}
use Rattle.smap_fit.specs.declared.shift.Shift.{Shift}
use Rattle.smap_fit.specs.declared.standing.Standing.{Standing}
use Rattle.smap_fit.specs.declared.standing.Standing.TheVariants.{PastText}

-- a line or a column so many further on or back, where a map can have it
abbrev pub moved : Move → ℕ → Option ℕ
moved (On by) number = if nat_le by (4294967295 - number) then Some (number + by) else None
moved (Back by) number = if nat_le by number then Some (number - by) else None

-- how a mapping that is moved so stands in a text of these lines: past it where no map can have the place
abbrev pub shifted_standing : (lines : List (List ℕ)) → Shift → Mapping → Standing
shifted_standing lines shift mapping =
    option_map_or (λ line. option_map_or (λ column. standing_in lines line column) (moved shift.columns mapping.column) PastText)
    (moved shift.lines mapping.line) PastText

abbrev pub is_misfit : Standing → Bool
is_misfit standing = is_past standing || is_inside standing

-- how many fresh mappings, all moved so, stand past a text of these lines or inside a word of it
abbrev pub shifted_misfits : (lines : List (List ℕ)) → List Mapping → Shift → ℕ
shifted_misfits lines mappings shift = count_by (λ mapping. is_misfit (shifted_standing lines shift mapping)) (fresh mappings)

-- ---- the best

-- none, one on, one back, two on, two back, and so on
abbrev pub move_at : (number : ℕ) → Move
move_at number = if number % 2 == 1 then On (number / 2 + 1) else Back (number / 2)

-- the shifts that are tried: lines from three back to three on, first with no column moved, and then with up to two
abbrev pub shift_at : (number : ℕ) → Shift
shift_at number = record { lines = move_at (number % 7); columns = move_at (number / 7) }

abbrev pub tried : ℕ
tried = 35

-- of those that are tried none leaves fewer mappings that do not fit, and none before it as few
pub record IsBest (lines : List (List ℕ)) (mappings : List Mapping) (best : BestShift) : Type 0 where
  pub number : ℕ
  pub among : number < tried
  pub is : best.shift ≡ shift_at number
  pub misfits : best.misfits ≡ shifted_misfits lines mappings best.shift
  pub first : (k : ℕ) → k < number → best.misfits < shifted_misfits lines mappings (shift_at k)
  pub least : (k : ℕ) → k < tried → best.misfits ≤ shifted_misfits lines mappings (shift_at k)
