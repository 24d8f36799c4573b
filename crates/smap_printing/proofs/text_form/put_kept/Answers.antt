use Rattle.std.proofs.Common.{◌≡◌, ℕ, List, Option, Some, subst, sym, ap, ◌∙◌}
use Rattle.std.specs.Prelude.{IfSome}
use Rattle.smap_printing.specs.Lookup.{source_text}
use Rattle.smap_printing.specs.Private.Plain.{IsPlain}
use Rattle.smap_printing.proofs.EscapeLaws.{plain_text}
use Rattle.smap_printing.proofs.text_form.put_kept.Goals as goal

-- a name that is kept is how its source prints
kept_text : (name_of kept : Option (List ℕ)) (text : List ℕ) (index : ℕ) → kept ≡ Some text → IfSome kept (λ name. name_of ≡ Some name)
    → IfSome name_of IsPlain → text ≡ source_text name_of index
kept_text name_of kept text index is known plain =
    let same : name_of ≡ Some text = subst (λ (o : Option (List ℕ)). IfSome o (λ name. name_of ≡ Some name)) is known in
    plain_text text (subst (λ (o : Option (List ℕ)). IfSome o IsPlain) same plain)
    ∙ sym (ap (λ (o : Option (List ℕ)). source_text o index) same)

pub returns-in-Some : goal.returns-in-Some
returns-in-Some g c =
    subst (λ l. g.O.Output.Puts c.args.output.now c.put_piece.new.self l)
    (kept_text _ _ _ c.args.source.now.index c.in-Some.is c.requires.name c.requires.plain) c.put_piece.ensures
