use Rattle.std.proofs.Common.{ap, sym, subst, ◌∙◌, List}
use Rattle.std.specs.List.Sorted.{IsPermutation}
use Rattle.std.proofs.lemmas.List.Sorted.{IsPermutation-map}
use Rattle.smap_record.specs.FileText.{without_mark}
use Rattle.smap_declarations.specs.Declarations.{Named, named_from}
use Rattle.smap_declarations.specs.Private.Found.{all_named, named}
use Rattle.smap_declarations.specs.Private.Order.{IsInOrder}
use Rattle.smap_declarations.specs.Walk.{origin, start}
use Rattle.smap_declarations.proofs.declarations.Declarations.of_text.Goals as goal

pub invariant_of-result : goal.invariant_of-result
invariant_of-result c =
    let list_is = c.in_ok-list.ensures ∙ ap all_named c.deref.ensures.value in
    subst IsInOrder (sym list_is) c.sort.ensures.ordered

pub returns-clause-all : goal.returns-clause-all
returns-clause-all c =
    let list_is = c.in_ok-list.ensures ∙ ap all_named c.deref.ensures.value in
    let text_is = ap without_mark c.as_bytes.ensures.value in
    let found_is = c.in_ok-found.ensures ∙ ap (named_from c.args.map.now.stated start origin) (c.without_mark.ensures ∙ text_is) in
    let P : List Named → Type 0 = λ all. IsPermutation all c.in_ok-list.list in
    let Q : List Named → Type 0 = λ kept. IsPermutation (all_named c.in_ok-found.found.items) kept in
    subst P found_is (subst Q (sym list_is)
    (IsPermutation-map named c.in_ok-found.found.items c.sort.new.found.items c.sort.ensures.permutation))
