use Rattle.std.proofs.Common.{◌≡◌, length, refl, subst, sym}
use Rattle.std.specs.Prelude.{List, ℕ, nat_lt}
use Rattle.std.proofs.lemmas.Str.{encodes-chars}
use Rattle.smap_text.specs.ShownLine.{shown_bytes}
use Rattle.smap_printing.proofs.context_form.is_cut.Goals as goal

pub returns : goal.returns
returns c =
    let cut : nat_lt c.shown_bytes.result (length c.args.line.now) ≡ nat_lt (shown_bytes c.args.line.now) (length c.args.line.now) =
    rw c.shown_bytes.ensures.bytes refl in
    subst (λ (bytes : List ℕ). nat_lt c.shown_bytes.result (length c.args.line.now) ≡ nat_lt (shown_bytes bytes) (length bytes))
    (sym (encodes-chars c.args.line.now c.utf8.line)) cut
