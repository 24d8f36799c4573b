use Rattle.std.proofs.Common.{◌≡◌, ◌+◌, ◌∙◌, ap, refl}
use denote.Enum.Declared.{tag_of}
use Rattle.smap_codes.specs.Codes.{all_codes, called}
use Rattle.smap_codes.specs.contracts.code.Code.{the_type}
use Rattle.smap_codes.specs.declared.code.Code.{Code}
use Rattle.smap_codes.specs.declared.code.Code.TheVariants.{M1, M2, M3, M4, M5, M6, M7, M8, M9, M10, M11, M12, M13, M14, M15, M16, M17, M18}
use Rattle.smap_codes.specs.declared.code.Code.TheVariants.{F1, F2, F3, F4, F5, F6, F7, F8, F9, F10, F11}
use Rattle.smap_codes.specs.declared.code.Code.TheVariants.{B1, B2, B3, B4, B5}
use Rattle.smap_codes.specs.declared.code.Code.TheVariants.{O1, O2, C1, C2, C3, C4, E1, E2, E3, E4, U1, U2}
use Rattle.smap_codes.specs.declared.code.Code.TheVariants.{A1, A2, A3, A4, P1, P2, X1, X2, X3, X4, X5, X6}
use Rattle.smap_codes.specs.declared.code.Code.TheVariants.{TextTooLong, NotUtf8, Device, Memory, Usage, Refused}
use Rattle.smap_c.specs.Codes.{code_at, code_number}
use Rattle.smap_c.proofs.CodeLaws.{numbers_have_codes}
use Rattle.smap_c.proofs.codes.code_number.Goals as goal

-- its tag is its place, from 0
tag_is_place : (code : Code) → tag_of the_type code + 1 ≡ code_number code
unfolding code_number all_codes called
tag_is_place M1 = refl
tag_is_place M2 = refl
tag_is_place M3 = refl
tag_is_place M4 = refl
tag_is_place M5 = refl
tag_is_place M6 = refl
tag_is_place M7 = refl
tag_is_place M8 = refl
tag_is_place M9 = refl
tag_is_place M10 = refl
tag_is_place M11 = refl
tag_is_place M12 = refl
tag_is_place M13 = refl
tag_is_place M14 = refl
tag_is_place M15 = refl
tag_is_place M16 = refl
tag_is_place M17 = refl
tag_is_place M18 = refl
tag_is_place F1 = refl
tag_is_place F2 = refl
tag_is_place F3 = refl
tag_is_place F4 = refl
tag_is_place F5 = refl
tag_is_place F6 = refl
tag_is_place F7 = refl
tag_is_place F8 = refl
tag_is_place F9 = refl
tag_is_place F10 = refl
tag_is_place F11 = refl
tag_is_place B1 = refl
tag_is_place B2 = refl
tag_is_place B3 = refl
tag_is_place B4 = refl
tag_is_place B5 = refl
tag_is_place O1 = refl
tag_is_place O2 = refl
tag_is_place C1 = refl
tag_is_place C2 = refl
tag_is_place C3 = refl
tag_is_place C4 = refl
tag_is_place E1 = refl
tag_is_place E2 = refl
tag_is_place E3 = refl
tag_is_place E4 = refl
tag_is_place U1 = refl
tag_is_place U2 = refl
tag_is_place A1 = refl
tag_is_place A2 = refl
tag_is_place A3 = refl
tag_is_place A4 = refl
tag_is_place P1 = refl
tag_is_place P2 = refl
tag_is_place X1 = refl
tag_is_place X2 = refl
tag_is_place X3 = refl
tag_is_place X4 = refl
tag_is_place X5 = refl
tag_is_place X6 = refl
tag_is_place TextTooLong = refl
tag_is_place NotUtf8 = refl
tag_is_place Device = refl
tag_is_place Memory = refl
tag_is_place Usage = refl
tag_is_place Refused = refl

pub returns-clause-number : goal.returns-clause-number
returns-clause-number c = tag_is_place c.args.code

pub returns-clause-reads_back : goal.returns-clause-reads_back
returns-clause-reads_back c = ap code_at (tag_is_place c.args.code) ∙ numbers_have_codes c.args.code
