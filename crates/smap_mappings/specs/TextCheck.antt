-- A text that is being checked, segment after segment (ECMA-426, Mappings structure).
use Rattle.std.specs.Prelude.{◌≡◌, ℕ, ◌+◌, ◌<◌, ◌≤◌, List, Some, slice_get}
use Rattle.smap_mappings.specs.Mappings.{mappings_of}
use Rattle.smap_mappings.specs.State.{mapping_at, IsNext}
use Rattle.smap_mappings.specs.declared.cursor.Cursor.{Cursor}
use Rattle.smap_mappings.specs.declared.kind.Kind.{Kind}
use Rattle.smap_mappings.specs.declared.mapping.Mapping.{Mapping}

-- what callers see of it: the text, how many sources and names there are, how many of its segments were checked, none of
-- which has a fault, and the state after them
pub record TextCheckContents : Type 0 where
  pub text : List ℕ
  pub sources : ℕ
  pub names : ℕ
  pub segments : ℕ
  pub at : Cursor

-- the check has come one segment further, which has this much
pub record IsCheckedOn (old : TextCheckContents) (kind : Kind) (new : TextCheckContents) : Type 0 where
  pub stays : new ≡ record old { segments = old.segments + 1; at = new.at }
  pub next : IsNext old.text old.segments (mapping_at kind new.at) new.at

-- the segments of the text from number j up to number n stand on this line
abbrev pub AreOnLine : List ℕ → ℕ → ℕ → ℕ → Type 0
AreOnLine text line j n =
    (i : ℕ) (mapping : Mapping) → j ≤ i → i < n → slice_get (mappings_of text) i ≡ Some mapping → mapping.line ≡ line
