-- A step of the pass over a text.
use Rattle.std.proofs.Common.{◌≡◌, ◌+◌, ◌≤◌, ℕ, Bool, true, false, cond, List, ◌∷◌, ◌++◌, refl, ap, arith}
use Rattle.std.specs.Prelude.{nat_lt, option_to_list}
use Rattle.smap_record.specs.Record.{MapRecord}
use Rattle.smap_declarations.specs.Declarations.{name_here, named_from}
use Rattle.smap_declarations.specs.Walk.{before_after, ends_line, place_after, units_at}
use Rattle.smap_declarations.specs.declared.walk.Before.{Before}
use Rattle.smap_declarations.specs.declared.walk.DeclarationPlace.{DeclarationPlace}

pub first_named : (stated : MapRecord) (before : Before) (place : DeclarationPlace) (c : ℕ) (text : List ℕ)
    → named_from stated before place (c ∷ text)
    ≡ option_to_list (name_here stated before place c (c ∷ text))
    ++ named_from stated (before_after before c (c ∷ text)) (place_after place c text) text
unfolding named_from
first_named stated before place c text = refl

-- ---- places

at_most_two : (c : ℕ) (a b d : Bool) → cond a 1 (cond b 0 (cond d 1 2)) ≤ 2
at_most_two c true b d = omega arith
at_most_two c false true d = omega arith
at_most_two c false false true = omega arith
at_most_two c false false false = omega arith

ended : DeclarationPlace → DeclarationPlace
ended place = record { line = place.line + 1; column = 0 }

passed : DeclarationPlace → (units : ℕ) → DeclarationPlace
passed place units = record { line = place.line; column = place.column + units }

either : (place : DeclarationPlace) (units : ℕ) → units ≤ 2 → (b : Bool) (after : DeclarationPlace) → after ≡ cond b (ended place) (passed place units)
    → (after.line ≤ place.line + 1) × (after.column ≤ place.column + 2)
unfolding ended passed
either place units few true after is = let line = ap (λ (p : DeclarationPlace). p.line) is in let column = ap (λ (p : DeclarationPlace). p.column) is in (omega arith, omega arith)
either place units few false after is = let line = ap (λ (p : DeclarationPlace). p.line) is in let column = ap (λ (p : DeclarationPlace). p.column) is in (omega arith, omega arith)

pub further : (place : DeclarationPlace) (c : ℕ) (text : List ℕ) → ((place_after place c text).line ≤ place.line + 1) × ((place_after place c text).column ≤ place.column + 2)
unfolding place_after ended passed
further place c text = either place (units_at c) (at_most_two c (nat_lt c 0x80) (nat_lt c 0xC0) (nat_lt c 0xF0)) (ends_line c text) (place_after place c text) refl
