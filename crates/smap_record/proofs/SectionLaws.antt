-- What is seen of a list is as long as it.
use Rattle.std.proofs.Common.{◌≡◌, List, length, map}
use Rattle.std.proofs.lemmas.List.{length-map}

pub same_length : {A B : Type 0} (seen : A → B) (list : List A) → length (map seen list) ≡ length list
same_length seen list = length-map list seen
