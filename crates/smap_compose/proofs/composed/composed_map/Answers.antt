use Rattle.std.proofs.Common.{◌≡◌, ℕ, List, false, length, map, option_map, string_bytes, inr, sym, ap, subst, ◌∙◌, arith}
use Rattle.std.specs.List.{All}
use Rattle.std.proofs.lemmas.List.{length-map}
use Rattle.smap_mappings.specs.Encode.{is_text_too_long}
use Rattle.smap_mappings.specs.Within.{IsWithin}
use Rattle.smap_mappings.specs.declared.mapping.Mapping.{Mapping}
use Rattle.smap_record.specs.Sources.{source_of}
use Rattle.smap_compose.specs.LeftOut.{content_where, contents_where}
use Rattle.smap_compose.specs.Private.Listing.{lent_source, lent_text}
use Rattle.smap_compose.specs.Private.Parts.{parts_seen}
use Rattle.smap_compose.proofs.GivenLaws.{made_where, same_mappings, too_long}
use Rattle.smap_compose.proofs.composed.composed_map.Goals as goal

pub is_text_too_long-requires : goal.is_text_too_long-requires
is_text_too_long-requires c = rw c.deref.ensures.value c.requires.no_fault

pub returns-then-is_text_too_long : goal.returns-then-is_text_too_long
returns-then-is_text_too_long c =
    let left = parts_seen c.args.parts in
    inr (too_long (contents_where c.args.without_contents left)
    (ap is_text_too_long (same_mappings c.args.without_contents left ∙ sym c.deref.ensures.value) ∙ sym c.is_text_too_long.ensures ∙ c.if-is_text_too_long.true))

pub invariant_of-result : goal.invariant_of-result
invariant_of-result c =
    let list : List Mapping = c.args.parts.mappings.items in
    let listing = c.args.parts.listing in
    let sources = c.in_ok-owned_sources.field-0.items in
    let names = c.in_ok-owned_names.field-0.items in
    let many_sources : length sources ≡ length listing.sources.items =
    sym (length-map sources source_of) ∙ ap length c.in_ok-owned_sources.ensures
    ∙ length-map (map lent_source listing.sources.items) (content_where c.args.without_contents) ∙ length-map listing.sources.items lent_source in
    let many_names : length names ≡ length listing.names.items =
    sym (length-map names string_bytes) ∙ ap length c.in_ok-owned_names.ensures ∙ length-map c.deref-2.result.now lent_text
    ∙ ap length c.deref-2.ensures.value in
    let P : ℕ → Type 0 = λ many. All (IsWithin many (length listing.names.items)) list in
    let Q : ℕ → Type 0 = λ many. All (IsWithin (length sources) many) list in
    record {
      short = ap is_text_too_long (sym c.deref.ensures.value) ∙ sym c.is_text_too_long.ensures ∙ c.if-is_text_too_long.false;
      no_fault = c.requires.no_fault;
      within = subst Q (sym many_names) (subst P (sym many_sources) c.requires.within);
      few_sources = omega (arith, many_sources, c.requires.few_sources);
      few_names = omega (arith, many_names, c.requires.few_names);
    }

pub returns : goal.returns
returns c =
    let list : List Mapping = c.args.parts.mappings.items in
    let short : is_text_too_long list ≡ false =
    ap is_text_too_long (sym c.deref.ensures.value) ∙ sym c.is_text_too_long.ensures ∙ c.if-is_text_too_long.false in
    made_where c.args.without_contents (parts_seen c.args.parts) (map source_of c.in_ok-owned_sources.field-0.items)
    (map string_bytes c.in_ok-owned_names.field-0.items) (option_map string_bytes c.in_ok-copied_text.field-0)
    short c.in_ok-owned_sources.ensures
    (c.in_ok-owned_names.ensures ∙ ap (map lent_text) c.deref-2.ensures.value) c.in_ok-copied_text.ensures
