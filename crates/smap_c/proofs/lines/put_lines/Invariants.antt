use denote.Text.{Utf8}
use denote.Shadow.{shadow}
use Rattle.smap_c.proofs.LineLaws.{ArePut}
use Rattle.smap_c.proofs.lines.put_lines.Given as goal

-- the first lines are put
abbrev pub invariant-loop-number : goal.invariant-loop-number
invariant-loop-number l = shadow (Utf8 l.rest) × ArePut l.content l.initial.rest l.number l.rest l.initial.lines l.lines
