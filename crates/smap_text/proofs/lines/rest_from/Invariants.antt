use denote.Text.{Utf8}
use denote.Shadow.{shadow}
use Rattle.smap_text.specs.Rest.{IsEndFrom}
use Rattle.smap_text.proofs.lines.rest_from.Given as goal

-- so many lines are passed
abbrev pub invariant-loop-passed : goal.invariant-loop-passed
invariant-loop-passed l = shadow (Utf8 l.rest) × IsEndFrom l.text l._passed l.rest
