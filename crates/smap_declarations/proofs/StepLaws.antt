-- A step of the pass over a text, with the names whose bodies have not ended.
use Rattle.std.proofs.Common.{◌≡◌, ◌-◌, ℕ, List, ◌∷◌, ◌++◌, Option, sym, ap, ap₂, append_assoc, ◌∙◌, arith}
use Rattle.std.specs.Prelude.{option_map, option_to_list}
use Rattle.smap_record.specs.Record.{MapRecord}
use Rattle.smap_declarations.specs.Bodies.{body_end, end_from}
use Rattle.smap_declarations.specs.Declarations.{Named, name_in, named_from}
use Rattle.smap_declarations.specs.Private.Found.{named_until}
use Rattle.smap_declarations.specs.Private.Passing.{IsPastWord}
use Rattle.smap_declarations.specs.Private.Waiting.{AreWaiting, ended_from}
use Rattle.smap_declarations.specs.Walk.{place_after}
use Rattle.smap_declarations.specs.declared.bodies.Waiting.{Waiting}
use Rattle.smap_declarations.specs.declared.naming.Found.{Found}
use Rattle.smap_declarations.specs.declared.walk.Before.{Before}
use Rattle.smap_declarations.specs.declared.walk.DeclarationPlace.{DeclarationPlace}
use Rattle.smap_declarations.proofs.WaitingLaws.{ends_alike}

-- what was found here, with the end of its body
pub found_here : (level : ℕ) (place : DeclarationPlace) (rest : List ℕ) (name : Option Found) (named : Option Named)
    → option_map (named_until (body_end place rest)) name ≡ named
    → option_to_list (option_map (named_until (end_from (level - level) place rest)) name) ≡ option_to_list named
found_here level place rest name named is =
    let none : level - level ≡ 0 = omega arith in
    ap (λ d. option_to_list (option_map (named_until (end_from d place rest)) name)) none ∙ ap option_to_list is

-- a word is passed, or its first byte
pub word_step : (stated : MapRecord) (before before' : Before) (place place' : DeclarationPlace) (rest rest' : List ℕ) (level count : ℕ)
    (ws ws' : List Waiting) (all all' total : List Named) → IsPastWord before place rest before' place' rest' → AreWaiting level count ws'
    → ended_from level place rest ws' all' ≡ ended_from level place rest ws all ++ option_to_list (name_in stated before place rest)
    → ended_from level place rest ws all ++ named_from stated before place rest ≡ total
    → ended_from level place' rest' ws' all' ++ named_from stated before' place' rest' ≡ total
word_step stated before before' place place' rest rest' level count ws ws' all all' total past order pushed so_far =
    ap (λ l. l ++ named_from stated before' place' rest')
    (ends_alike (λ around. end_from (level - around) place' rest') (λ around. end_from (level - around) place rest) level count ws' all' order
    (λ around less. sym (past.ends (level - around))) ∙ pushed)
    ∙ append_assoc (ended_from level place rest ws all) (option_to_list (name_in stated before place rest)) (named_from stated before' place' rest')
    ∙ ap (λ l. ended_from level place rest ws all ++ l) (sym (past.names stated))
    ∙ so_far

-- another byte is passed
pub byte_step : (place place' : DeclarationPlace) (c : ℕ) (behind rest rest' : List ℕ) (level level' : ℕ) (ws ws' : List Waiting) (all all' : List Named)
    → rest ≡ c ∷ behind → place' ≡ place_after place c behind → rest' ≡ behind
    → ((text : List ℕ) → ended_from level' (place_after place c text) text ws' all' ≡ ended_from level place (c ∷ text) ws all)
    → ended_from level' place' rest' ws' all' ≡ ended_from level place rest ws all
byte_step place place' c behind rest rest' level level' ws ws' all all' rest_is place_is left ended =
    ap₂ (λ (p : DeclarationPlace) (r : List ℕ). ended_from level' p r ws' all') place_is left
    ∙ ended behind
    ∙ ap (λ r. ended_from level place r ws all) (sym rest_is)
