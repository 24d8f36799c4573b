use Rattle.std.proofs.Common.{◌≡◌, ◌∙◌, None, ap, codes, inl, inr, is_some, length, not, rules, sym}
use Rattle.std.specs.Prelude.{option_map, string_bytes}
use Rattle.std.proofs.lemmas.Bool.{eqb-false}
use Rattle.std.proofs.lemmas.List.{nil_from_length}
use Rattle.clap.specs.Words.{first_of, found_of, rows_of}
use Rattle.smap_arguments.specs.Arguments.{HasMaps}
use Rattle.smap_arguments.proofs.Cuts.{no_pairs}
use Rattle.smap_arguments.proofs.Texts.{some_mapped}
use Rattle.smap_arguments.proofs.written.compose_in.Goals.{else-is_empty-via-then-is_empty+else-is_none, else-is_empty-via-else-is_empty}
use Rattle.smap_arguments.proofs.written.compose_in.Goals as goal

pub one_inner_in-requires-clause-alone : goal.one_inner_in-requires-clause-alone
one_inner_in-requires-clause-alone c =
    let inners = c.in_ok-inners.inners.items in
    let empty : length inners ≡ 0 = search rules in
    let none : c.in_ok-list.list ≡ None = search rules in (
      no_pairs _ inners c.in_ok-inners.ensures.given (nil_from_length inners empty),
      c.in_ok-list.ensures ∙ ap (option_map string_bytes) none,
    )

pub returns-then-has_inner-clause-refused : goal.returns-then-has_inner-clause-refused
returns-then-has_inner-clause-refused c =
    let rows = rows_of (found_of c.args.matches.now) in
    let inners = c.in_ok-inners.inners in
    let has : HasMaps inners.items (first_of (codes "LIST") rows) = elim c.else-is_empty.branch [
      | else-is_empty-via-then-is_empty+else-is_none w ↦
          inr (ap is_some c.in_ok-list.ensures ∙ (some_mapped string_bytes c.in_ok-list.list ∙ (w.is_none.ensures ∙ ap not w.if-is_none.false)))
      | else-is_empty-via-else-is_empty w ↦
          inl (λ none. eqb-false inners.len 0 (sym c.is_empty.ensures ∙ w.if-is_empty.false) (inners.ok.0 ∙ ap length none))
    ] in
    inr (inl (c.in_ok-from_str.ensures.ok, sym c.has_inner.ensures ∙ c.if-has_inner.true, (inners.items, c.in_ok-inners.ensures.given, has)))
