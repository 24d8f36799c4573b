-- What a sink took, one piece after another.
use Rattle.std.proofs.Common.{ℕ, List, [], ◌++◌, Option, Result, Ok, Err, sym, ap, ◌∙◌, append_assoc, append-nil}
use Rattle.std.specs.Result.{OnOk}
use Rattle.smap_io.specs.Device.{Takes, TakesFront}
use Rattle.smap_lines.specs.Gathered.{HandsOn}
use Rattle.smap_lines.specs.Laws.Put.{takes_both}

-- two facts of one result
pub on_both : {T E : Type 0} (P Q : Type 0) (r : Result T E) → OnOk r P → OnOk r Q → OnOk r (P × Q)
on_both P Q (Ok x) p q = (p, q)
on_both P Q (Err e) p q = tt

-- a front of some bytes is one of these and more
pub front_of_more : (old new : Option (List ℕ)) (bytes more : List ℕ) → TakesFront old new bytes → TakesFront old new (bytes ++ more)
front_of_more old new bytes more took = (took.0, took.1 ++ more, ap (λ l. l ++ more) took.2 ∙ append_assoc took.0 took.1 more, took.3)

-- all of some bytes, and then a front of more
pub front_after : (old mid new : Option (List ℕ)) (bytes more : List ℕ) → Takes old mid bytes → TakesFront mid new more → TakesFront old new (bytes ++ more)
front_after old mid new bytes more first took = (
  bytes ++ took.0,
  took.1,
  ap (λ l. bytes ++ l) took.2 ∙ sym (append_assoc bytes took.0 took.1),
  takes_both old mid new bytes took.0 first took.3,
)

-- all of both
pub all_after : (old mid new : Option (List ℕ)) (bytes more : List ℕ) → Takes old mid bytes → Takes mid new more → HandsOn old new (bytes ++ more) []
all_after old mid new bytes more first second = (bytes ++ more, takes_both old mid new bytes more first second, sym (append-nil (bytes ++ more)))
