use Rattle.std.proofs.Common.{◌≡◌, List, None, ap, sym, subst, ◌∙◌, refl, arith, take, get_or}
use Rattle.std.specs.List.{last_or}
use Rattle.std.proofs.lemmas.List.{take_all}
use Rattle.smap_mappings.specs.Encode.{mapping_fault, list_fault}
use Rattle.smap_mappings.specs.Writing.{IsLengthOf}
use Rattle.smap_mappings.specs.declared.mapping.Mapping.{Mapping}
use Rattle.smap_mappings.specs.declared.last_values.LastValues.{LastValues}
use Rattle.smap_mappings.proofs.EncodeLaws.{nowhere, one_more_taken, refused_here, passed_here, none_at_all, reported}
use Rattle.smap_mappings.proofs.canonical.text_length.Goals as goal
use Rattle.smap_mappings.proofs.canonical.text_length.Goals.{After-last}

pub loop-i-init : goal.loop-i-init
unfolding list_fault
loop-i-init c = record { found = c.new-length.ensures; faultless = refl }

-- the last mapping so far
last_is : (c : After-last) → c.last.result.now ≡ last_or None (take c.loop-i.i c.args.list.now)
last_is c = c.last.ensures ∙ ap (λ (last : LastValues). last.mapping) c.loop-i.invariant.found.last.are

pub returns-in-Some : goal.returns-in-Some
returns-in-Some c =
    refused_here c.args.list.now c.loop-i.i nowhere (omega arith) c.in-Some.refusal c.loop-i.invariant.faultless
    (ap (λ earlier. mapping_fault c.loop-i.i earlier (get_or c.args.list.now c.loop-i.i nowhere))
    (sym (last_is (goal.at.returns-in-Some c).After-last)) ∙ sym c.mapping_fault.ensures ∙ c.in-Some.is)

pub loop-i-preserved : goal.loop-i-preserved
loop-i-preserved c =
    let P : List Mapping → Type 0 = λ list. IsLengthOf list c.add.new.self in
    record {
      found = subst P (one_more_taken c.args.list.now c.loop-i.i nowhere (omega arith)) (c.add.ensures _ c.loop-i.invariant.found);
      faultless =
          c.loop-i.invariant.faultless
          ∙ passed_here c.args.list.now c.loop-i.i nowhere (omega arith)
          (ap (λ earlier. mapping_fault c.loop-i.i earlier (get_or c.args.list.now c.loop-i.i nowhere))
          (sym (last_is (goal.at.loop-i-preserved c).After-last)) ∙ sym c.mapping_fault.ensures ∙ c.in_default.is);
    }

pub returns : goal.returns
returns c =
    let list = c.args.list.now in
    let all = take_all c.loop-i.i list (omega arith) in
    let none = none_at_all list c.loop-i.i (omega arith) c.loop-i.invariant.faultless in
    let P : List Mapping → Type 0 = λ list. IsLengthOf list c.loop-i.length in
    rw c.ok_or.ensures.value (reported list c.bytes.result none (c.bytes.ensures list (subst P all c.loop-i.invariant.found)))
