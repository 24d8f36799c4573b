-- A list that is read back.
use Rattle.std.proofs.Common.{◌≡◌, List, [], ◌∷◌, ◌++◌, ap, reverse, ◌∙◌}
use Rattle.std.proofs.lemmas.List.{reverse-append}

pub reversed : {X : Type 0} (line before : List X) (last : X) → line ≡ before ++ last ∷ [] → reverse line ≡ last ∷ reverse before
reversed line before last is = ap reverse is ∙ reverse-append before (last ∷ [])
