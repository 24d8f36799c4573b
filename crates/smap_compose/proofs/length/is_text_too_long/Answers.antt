use Rattle.std.proofs.Common.{length, refl, sym}
use Rattle.smap_mappings.specs.Canonical.{canonical_text}
use Rattle.smap_mappings.specs.Encode.{is_text_too_long}
use Rattle.smap_compose.proofs.GivenLaws.{none_where}
use Rattle.smap_compose.proofs.LengthLaws.{short_text}
use Rattle.smap_compose.proofs.length.is_text_too_long.Goals as goal

pub returns-then-have_few_bytes : goal.returns-then-have_few_bytes
returns-then-have_few_bytes c =
    let list = c.args.mappings.now in
    let order = ((c.lists_in_order_have_no_fault.ensures.exact list).0 c.requires).0 in
    sym (short_text list (length list) c.last_line.result order refl c.last_line.ensures (c.have_few_bytes.ensures c.if-have_few_bytes.true))

pub returns : goal.returns
returns c =
    let list = c.args.mappings.now in
    none_where (is_text_too_long list) (length (canonical_text list)) c.bytes.result c.is_none.result (c.bytes.ensures list c.text_length.ensures)
    c.is_none.ensures
