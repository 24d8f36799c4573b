use Rattle.std.proofs.Common.{◌≡◌, ◌≤◌, ◌∙◌, ℕ, List, Option, None, Some, IfSome, IsUtf8, false, is_some, length, ap, sym, subst, inr, arith}
use Rattle.smap_codes.specs.declared.code.Code.TheVariants.{A4}
use Rattle.smap_record.specs.Limits.{most_file_bytes}
use Rattle.smap_record.specs.MapFile.{Map}
use Rattle.smap_c.specs.Codes.{code_number}
use Rattle.smap_c.specs.Names.{IsUnnamed, is_fitting}
use Rattle.smap_c.specs.declared.names.NamedFunctions.{NamedFunctions}
use Rattle.smap_c.proofs.names.smap_names_new.Goals as goal

-- a map that can't be that of the text, which is the text of these bytes
misfit : (map : Map) (held : Option Map) (bytes text : List ℕ) (made : Option NamedFunctions) (number : ℕ) → Some map ≡ held → text ≡ bytes
    → IsUtf8 bytes → length bytes ≤ most_file_bytes → made ≡ None → is_some made ≡ is_fitting map text → number ≡ code_number A4
    → IfSome held (λ held. ◌≡◌ {A = ℕ} 1 1 → IsUnnamed held bytes number)
misfit map held bytes text made number some same utf8 small none fits is =
    let not : is_fitting map bytes ≡ false = sym (fits ∙ ap (λ t. is_fitting map t) same) ∙ ap is_some none in
    subst (λ (one : Option Map). IfSome one (λ held. ◌≡◌ {A = ℕ} 1 1 → IsUnnamed held bytes number)) some (λ one. inr (is, small, utf8, not))

pub returns-in-Ok-None-clause-refused : goal.returns-in-Ok-None-clause-refused
returns-in-Ok-None-clause-refused c =
    misfit c.lend.result.now c.args.map.now.held c.args.generated.now c.in-Ok.text.now c.in-Ok-None.field-0 c.code_number-in-Ok-None.result
    c.lend.ensures.value c.in-Ok.ensures.cases.0 c.in-Ok.ensures.cases.1 (omega arith) c.in-Ok-None.field-0-is c.in-Ok-None.ensures.fits
    c.code_number-in-Ok-None.ensures.number
