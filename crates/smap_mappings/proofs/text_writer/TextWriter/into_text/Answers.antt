use Rattle.std.proofs.Common.{sym, subst, ap, ◌∙◌}
use Rattle.std.specs.Prelude.{is_ok}
use Rattle.std.proofs.lemmas.Bool.{both_ways}
use Rattle.std.specs.Str.{IsAscii}
use Rattle.std.proofs.lemmas.Str.{IsUtf8-from_ascii}
use Rattle.smap_mappings.proofs.WritingLaws.{canonical_is_ascii}
use Rattle.smap_mappings.proofs.CanonicalLaws.{canonical_decodes, canonical_is_accepted}
use Rattle.smap_mappings.specs.Writing.{WrittenText}
use Rattle.smap_mappings.proofs.text_writer.TextWriter.into_text.Goals as goal

pub unreachable-requires : goal.unreachable-requires
unreachable-requires c =
    let list = c.requires.state.0 in
    let written = ap (λ (text : WrittenText). text.bytes) c.self.view_is ∙ c.requires.state.1.bytes in
    let ascii = subst IsAscii (sym written) (canonical_is_ascii list) in
    let ok = c.from_utf8.ensures.succeeds (IsUtf8-from_ascii _ ascii) in
    both_ways _ (ap is_ok c.in-Err.is) ok

pub returns-clause-decodes : goal.returns-clause-decodes
returns-clause-decodes c list none = canonical_decodes list none

pub returns-clause-accepted : goal.returns-clause-accepted
returns-clause-accepted c list none sources names within = canonical_is_accepted list none sources names within
