use Rattle.std.proofs.Common.{List, ℕ, length, map, ap, sym, ◌∙◌, option_copied, None}
use Rattle.std.specs.List.{range_with_len}
use Rattle.smap_index.specs.Parts.{joined}
use Rattle.smap_fit.specs.Private.Counted.{counted_row}
use Rattle.smap_fit.specs.Rows.{rows_of}
use Rattle.smap_fit.proofs.RowLaws.{bare_rows, full_rows}
use Rattle.smap_fit.proofs.rows.table_by_index.Goals as goal

pub returns-in-None-clause-rows : goal.returns-in-None-clause-rows
returns-in-None-clause-rows c =
    c.in_ok-counted_rows-in-None.ensures
    ∙ ap (λ (l : List ℕ). map (counted_row l None) (range_with_len 0 (length l))) c.deref.ensures.value
    ∙ bare_rows (joined c.args.map.now.stated.parts) (length c.args.map.now.stated.sources) c.in_ok-segments.segments.items c.in_ok-segments.ensures
    ∙ ap (λ o. rows_of (joined c.args.map.now.stated.parts) (option_copied o) (length c.args.map.now.stated.sources)) (sym c.in-None.is)

pub returns-clause-rows : goal.returns-clause-rows
returns-clause-rows c =
    (rw (c.deref-in-Some.ensures.value, c.deref-in-Some-2.ensures.value) at c.in_ok-counted_rows-in-Some.ensures)
    ∙ full_rows (joined c.args.map.now.stated.parts) (length c.args.map.now.stated.sources) c.in_ok-segments.segments.items c.in-Some.text.now
    c.in_ok-bytes-in-Some.bytes.sources.items c.in_ok-bytes-in-Some.bytes.unmapped c.in_ok-segments.ensures c.in_ok-bytes-in-Some.ensures
    ∙ ap (λ o. rows_of (joined c.args.map.now.stated.parts) (option_copied o) (length c.args.map.now.stated.sources)) (sym c.in-Some.is)
