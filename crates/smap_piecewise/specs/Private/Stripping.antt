-- Of private contracts only: bytes of a text are handed on without control sequences.
use Rattle.std.specs.Prelude.{◌≡◌, ◌≤◌, ℕ, ◌+◌, Bool, true, List, [], ◌++◌, length}
use Rattle.smap_io.specs.Sequences.{kept}
use Rattle.smap_piecewise.specs.declared.stripping.Stripping.{Stripping}

-- some were, behind what was there, and what is still to come is as it was; where the text has ended, nothing comes
pub record PassesOn (is_ended : Bool) (old new : Stripping) (given_old given_new : List ℕ) : Type 0 where
  pub more : List ℕ
  pub given : given_new ≡ given_old ++ more
  pub few : length more + length new.held ≤ length old.held
  pub same : (later : List ℕ) → (is_ended ≡ true → later ≡ []) → kept (old.held ++ later) 0 old.most ≡ more ++ kept (new.held ++ later) 0 new.most
