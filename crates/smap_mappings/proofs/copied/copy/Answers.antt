use Rattle.std.proofs.Common.{◌≡◌, subst, sym, ap, ◌∙◌}
use Rattle.std.specs.Prelude.{is_ok}
use Rattle.std.specs.Str.{IsAscii}
use Rattle.std.proofs.lemmas.Bool.{both_ways}
use Rattle.std.proofs.lemmas.Str.{IsUtf8-from_ascii}
use Rattle.smap_mappings.specs.Mappings.{mappings_of}
use Rattle.smap_mappings.specs.Canonical.{canonical_text}
use Rattle.smap_mappings.proofs.WritingLaws.{canonical_is_ascii}
use Rattle.smap_mappings.proofs.AsItStandsLaws.{copied_is_canonical}
use Rattle.smap_mappings.proofs.copied.copy.Goals as goal

pub unreachable-requires : goal.unreachable-requires
unreachable-requires c =
    let text = c.args.bytes.now in
    let copied : c.extend_from_slice.new.self.items ≡ canonical_text (mappings_of text) =
    copied_is_canonical text c.line_ends_begin-end.result c.requires.packed c.requires.canonical c.line_ends_begin-end.ensures.cut
    c.in_ok-copied.ensures.items c.in_ok-extend_from_slice.ensures.items in
    let ascii = subst IsAscii (sym copied) (canonical_is_ascii (mappings_of text)) in
    let ok = c.from_utf8.ensures.succeeds (IsUtf8-from_ascii _ ascii) in
    both_ways _ (ap is_ok c.in-Err.is) ok

pub returns : goal.returns
returns c =
    let text = c.args.bytes.now in
    let copied : c.extend_from_slice.new.self.items ≡ canonical_text (mappings_of text) =
    copied_is_canonical text c.line_ends_begin-end.result c.requires.packed c.requires.canonical c.line_ends_begin-end.ensures.cut
    c.in_ok-copied.ensures.items c.in_ok-extend_from_slice.ensures.items in
    ap (λ vec. vec.items) c.in-Ok.ensures.ok ∙ copied
