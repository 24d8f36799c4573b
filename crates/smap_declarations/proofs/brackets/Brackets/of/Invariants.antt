use Rattle.std.proofs.Common.{◌≡◌, drop}
use Rattle.smap_declarations.specs.Private.Open.{behind_brackets, behind_ends}
use Rattle.smap_declarations.proofs.brackets.Brackets.of.Given as goal

abbrev pub invariant-loop-at : goal.invariant-loop-at
invariant-loop-at l = record {
  ends : l.ends ≡ behind_ends (drop l.at l.text);
  brackets : l.brackets ≡ behind_brackets (drop l.at l.text);
}
