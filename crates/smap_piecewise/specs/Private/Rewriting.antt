-- Of private contracts only: how the fields of a rewriting are seen, and what they keep to.
use Rattle.std.specs.Prelude.{◌≡◌, ◌<◌, ◌≤◌, ℕ, ◌+◌, ◌^◌, true, [], length}
use Rattle.smap_piecewise.specs.Private.Work.{IsWorkSound, IsWorkWithin, work_seen}
use Rattle.smap_piecewise.specs.Rewriting.{RewritingNow}
use Rattle.smap_piecewise.specs.Stripping.{held_of}
use Rattle.smap_piecewise.specs.Work.{is_over, output_of}
use Rattle.smap_piecewise.specs.declared.rewriting.Rewriting.TheInside.{Inside}

abbrev pub rewriting_seen : Inside → RewritingNow
rewriting_seen inside = record {
  work = work_seen inside.work;
  limit = inside.limit;
  stripping = inside.stripping;
  asks = inside.asks;
  is_ended = inside.is_ended;
  most_bytes = inside.bound.most_bytes;
  taken = inside.bound.taken;
}

-- what is counted, and the bytes that are not done, are no more than were given, which are no more than may be; the output has no more
-- bytes than it may; and the work ends where the text does, and all of that was handed on
pub record IsInOrder (inside : Inside) : Type 0 where
  pub sound : IsWorkSound inside.work
  pub size : ℕ
  pub within : IsWorkWithin size (work_seen inside.work)
  pub few : size + length (held_of inside.stripping) ≤ inside.bound.taken
  pub taken : inside.bound.taken ≤ inside.bound.most_bytes
  pub countable : inside.bound.most_bytes < 2 ^ 63
  pub written : length (output_of (work_seen inside.work)) ≤ inside.limit
  pub over : is_over (work_seen inside.work) ≡ true → (inside.is_ended ≡ true) × (held_of inside.stripping ≡ [])
