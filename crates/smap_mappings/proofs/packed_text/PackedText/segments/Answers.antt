use Rattle.std.proofs.Common.{arith, ap, length}
use Rattle.std.specs.Prelude.{string_bytes}
use Rattle.smap_mappings.proofs.CountLaws.{few_segments}
use Rattle.smap_mappings.proofs.packed_text.PackedText.segments.Goals as goal

pub returns-clause-bound : goal.returns-clause-bound
returns-clause-bound c = omega (arith, c.self.invariant.segments_are, few_segments (string_bytes c.self.inside.text), ap length c.self.view_is)
