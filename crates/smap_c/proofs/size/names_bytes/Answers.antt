use Rattle.std.proofs.Common.{◌≡◌, ◌∙◌, ℕ, Bor, List, None, Some, ap, arith, length, option_map, slice_get, sym, take}
use Rattle.std.specs.List.{sum_by}
use Rattle.smap_c.specs.Size.{counted}
use Rattle.smap_c.proofs.SizeLaws.{all_summed, counted_more}
use Rattle.smap_c.proofs.size.names_bytes.Goals as goal

pub returns-in_default : goal.returns-in_default
returns-in_default c =
    let names = c.args.file.now.stated.names in
    let none : slice_get names c.loop-index.index ≡ None = sym c.name.ensures ∙ ap (option_map (λ (name : Bor (List ℕ)). name.now)) c.in_default.is in
    c.loop-index.invariant ∙ ap counted (all_summed length names c.loop-index.index 33554432 none (omega arith))

pub loop-index-preserved : goal.loop-index-preserved
loop-index-preserved c =
    let names = c.args.file.now.stated.names in
    let some : slice_get names c.loop-index.index ≡ Some c.in-Some.name.now =
    sym c.name.ensures ∙ ap (option_map (λ (name : Bor (List ℕ)). name.now)) c.in-Some.is in
    c.saturating_add-bytes.ensures ∙ counted_more length names c.loop-index.index c.in-Some.name.now c.loop-index.bytes some c.loop-index.invariant

pub returns : goal.returns
returns c =
    let all : c.loop-index.index ≡ 33554432 = omega arith in
    c.loop-index.invariant ∙ ap (λ n. counted (sum_by length (take n c.args.file.now.stated.names))) all
