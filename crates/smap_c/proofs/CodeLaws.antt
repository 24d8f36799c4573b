-- The number of each code is its place.
use Rattle.std.proofs.Common.{◌≡◌, Some, refl}
use Rattle.smap_codes.specs.Codes.{all_codes, called}
use Rattle.smap_codes.specs.declared.code.Code.{Code}
use Rattle.smap_codes.specs.declared.code.Code.TheVariants.{M1, M2, M3, M4, M5, M6, M7, M8, M9, M10, M11, M12, M13, M14, M15, M16, M17, M18}
use Rattle.smap_codes.specs.declared.code.Code.TheVariants.{F1, F2, F3, F4, F5, F6, F7, F8, F9, F10, F11}
use Rattle.smap_codes.specs.declared.code.Code.TheVariants.{B1, B2, B3, B4, B5}
use Rattle.smap_codes.specs.declared.code.Code.TheVariants.{O1, O2, C1, C2, C3, C4, E1, E2, E3, E4, U1, U2}
use Rattle.smap_codes.specs.declared.code.Code.TheVariants.{A1, A2, A3, A4, P1, P2, X1, X2, X3, X4, X5, X6}
use Rattle.smap_codes.specs.declared.code.Code.TheVariants.{TextTooLong, NotUtf8, Device, Memory, Usage, Refused}
use Rattle.smap_c.specs.Codes.{code_at, code_number}

-- each code stands at its number
pub numbers_have_codes : (code : Code) → code_at (code_number code) ≡ Some code
unfolding code_number all_codes called
numbers_have_codes M1 = refl
numbers_have_codes M2 = refl
numbers_have_codes M3 = refl
numbers_have_codes M4 = refl
numbers_have_codes M5 = refl
numbers_have_codes M6 = refl
numbers_have_codes M7 = refl
numbers_have_codes M8 = refl
numbers_have_codes M9 = refl
numbers_have_codes M10 = refl
numbers_have_codes M11 = refl
numbers_have_codes M12 = refl
numbers_have_codes M13 = refl
numbers_have_codes M14 = refl
numbers_have_codes M15 = refl
numbers_have_codes M16 = refl
numbers_have_codes M17 = refl
numbers_have_codes M18 = refl
numbers_have_codes F1 = refl
numbers_have_codes F2 = refl
numbers_have_codes F3 = refl
numbers_have_codes F4 = refl
numbers_have_codes F5 = refl
numbers_have_codes F6 = refl
numbers_have_codes F7 = refl
numbers_have_codes F8 = refl
numbers_have_codes F9 = refl
numbers_have_codes F10 = refl
numbers_have_codes F11 = refl
numbers_have_codes B1 = refl
numbers_have_codes B2 = refl
numbers_have_codes B3 = refl
numbers_have_codes B4 = refl
numbers_have_codes B5 = refl
numbers_have_codes O1 = refl
numbers_have_codes O2 = refl
numbers_have_codes C1 = refl
numbers_have_codes C2 = refl
numbers_have_codes C3 = refl
numbers_have_codes C4 = refl
numbers_have_codes E1 = refl
numbers_have_codes E2 = refl
numbers_have_codes E3 = refl
numbers_have_codes E4 = refl
numbers_have_codes U1 = refl
numbers_have_codes U2 = refl
numbers_have_codes A1 = refl
numbers_have_codes A2 = refl
numbers_have_codes A3 = refl
numbers_have_codes A4 = refl
numbers_have_codes P1 = refl
numbers_have_codes P2 = refl
numbers_have_codes X1 = refl
numbers_have_codes X2 = refl
numbers_have_codes X3 = refl
numbers_have_codes X4 = refl
numbers_have_codes X5 = refl
numbers_have_codes X6 = refl
numbers_have_codes TextTooLong = refl
numbers_have_codes NotUtf8 = refl
numbers_have_codes Device = refl
numbers_have_codes Memory = refl
numbers_have_codes Usage = refl
numbers_have_codes Refused = refl
