use Rattle.std.proofs.Common.{◌≡◌, ◌&&◌, Result, true, false, inr, sym, ap, subst, ◌∙◌}
use Rattle.std.proofs.lemmas.Bool.{and_parts}
use Rattle.std.proofs.lemmas.Result.{IfOk-weaker}
use Rattle.smap_mappings.specs.Encode.{is_text_too_long}
use Rattle.smap_mappings.specs.Exact.{GivesOr}
use Rattle.smap_compose.specs.Composition.{Composition}
use Rattle.smap_compose.specs.LeftOut.{contents_where, left_of, pruned_where}
use Rattle.smap_compose.specs.Pruned.{AnswersAlike}
use Rattle.smap_compose.specs.Private.Parts.{parts_seen}
use Rattle.smap_compose.specs.declared.refusal.ComposeRefusal.{ComposeRefusal}
use Rattle.smap_compose.specs.declared.refusal.ComposeRefusal.TheVariants.{Memory}
use Rattle.smap_compose.proofs.GivenLaws.{given_is_whole, given_where, left_alike, parts_within, same_mappings, too_long}
use Rattle.smap_compose.proofs.composing.left_of.Goals as goal

pub is_refused_whole-requires : goal.is_refused_whole-requires
is_refused_whole-requires c = rw c.deref.ensures.value c.requires.no_fault

pub returns-then-is_refused_whole-clause-composed : goal.returns-then-is_refused_whole-clause-composed
returns-then-is_refused_whole-clause-composed c =
    let whole = parts_seen c.args.whole in
    let refused : (c.args.left_out.unused && is_text_too_long c.deref.result.now) ≡ true = sym c.is_refused_whole.ensures ∙ c.if-is_refused_whole.true in
    inr (ap (left_of c.args.left_out) (too_long whole (ap is_text_too_long (sym c.deref.ensures.value) ∙ (and_parts _ _ refused).1)))

pub returns-clause-composed : goal.returns-clause-composed
returns-clause-composed c =
    let whole = parts_seen c.args.whole in
    let kept : (c.args.left_out.unused && is_text_too_long whole.mappings) ≡ false =
    ap (λ list. c.args.left_out.unused && is_text_too_long list) (sym c.deref.ensures.value) ∙ sym c.is_refused_whole.ensures ∙ c.if-is_refused_whole.false in
    subst (λ (stated : Result Composition ComposeRefusal). GivesOr Memory (λ composed. composed) c.composed_map.result stated)
    (given_where c.args.left_out whole (parts_seen c.in_ok-left.left) kept c.in_ok-left.ensures.left) c.composed_map.ensures

pub returns-clause-mappings : goal.returns-clause-mappings
returns-clause-mappings c whole_stays =
    let left = parts_seen c.in_ok-left.left in
    let made = contents_where c.args.left_out.contents left in
    let is : left ≡ parts_seen c.args.whole =
    c.in_ok-left.ensures.left ∙ ap (λ left_out. pruned_where left_out (parts_seen c.args.whole)) whole_stays in
    IfOk-weaker c.composed_map.result (λ (composed : Composition). made ≡ composed)
    (λ (composed : Composition). composed.mappings ≡ c.args.whole.mappings.items)
    (λ composed given.
    ap (λ (w : Composition). w.mappings) (sym given) ∙ same_mappings c.args.left_out.contents left ∙ ap (λ (w : Composition). w.mappings) is)
    (given_is_whole made c.composed_map.result c.composed_map.ensures)

pub returns-clause-named : goal.returns-clause-named
returns-clause-named c contents_stay =
    let left = parts_seen c.in_ok-left.left in
    let whole = parts_seen c.args.whole in
    let made = contents_where c.args.left_out.contents left in
    let is : made ≡ left = ap (λ left_out. contents_where left_out left) contents_stay in
    IfOk-weaker c.composed_map.result (λ (composed : Composition). made ≡ composed) (AnswersAlike whole)
    (λ composed given. subst (AnswersAlike whole) (sym is ∙ given)
    (left_alike c.args.left_out.unused whole left c.in_ok-left.ensures.left
    (λ line column. c.pruned_maps_answer_alike.ensures whole line column (parts_within c.args.whole c.requires))))
    (given_is_whole made c.composed_map.result c.composed_map.ensures)
