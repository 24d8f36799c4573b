-- What is printed of mappings, one after another.
use Rattle.std.proofs.Common.{◌≡◌, ◌<◌, ◌==◌, ◌++◌, [], ◌∷◌, ℕ, Bool, true, false, List, Option, Some, None, Result, Ok, Err, append_assoc, subst, cond, flat_map, inl, inr, refl, sym, ap, ◌∙◌, arith}
use Rattle.std.specs.Prelude.{filter, OnErr, OnOk}
use Rattle.smap_io.specs.Device.{Takes, TakesFront}
use Rattle.smap_io.specs.declared.device.DeviceFault.{DeviceFault}
use Rattle.smap_lines.specs.Gathered.{HandsOn}
use Rattle.smap_lines.specs.Laws.Put.{takes_both}
use Rattle.std.proofs.lemmas.Bool.{cond-false, ltb-true}
use Rattle.smap_mappings.specs.Order.{IsAtOrBefore, IsInOrder}
use Rattle.smap_mappings.specs.declared.mapping.Mapping.{Mapping}
use Rattle.smap_command.specs.declared.options.Form.{Form}
use Rattle.smap_record.specs.Record.{MapRecord}
use Rattle.smap_printing.specs.Mappings.{is_on_line, printed_mapping, printed_mappings}
use Rattle.smap_printing.specs.Private.Past.{is_past_line}

-- the next one stands past each line that the first stands past
next_past : (line : ℕ) (a b : Mapping) → line < a.line → IsAtOrBefore a b → line < b.line
next_past line a b past (inl below) = omega (arith, past, below)
next_past line a b past (inr same) = omega (arith, past, same.0)

other_line : (line n : ℕ) → line < n → (n == line) ≡ false
other_line line n past = grind arith

-- none of the mappings from one on that stands past a line stands on it
none_on_line : (line : ℕ) (mapping : Mapping) (rest : List Mapping) → line < mapping.line → IsInOrder (mapping ∷ rest)
    → filter (is_on_line (Some line)) (mapping ∷ rest) ≡ []
none_on_line line mapping [] past order = cond-false (mapping.line == line) (mapping ∷ []) [] (other_line line mapping.line past)
none_on_line line mapping (next ∷ rest) past order =
    cond-false (mapping.line == line) (mapping ∷ filter (is_on_line (Some line)) (next ∷ rest)) (filter (is_on_line (Some line)) (next ∷ rest))
    (other_line line mapping.line past)
    ∙ none_on_line line next rest (next_past line mapping next past order.0) order.1

module _ (form : Form) (line : Option ℕ) (stated : MapRecord) where
  first_of : (t : Bool) (mapping : Mapping) (rest : List Mapping) →
      flat_map (printed_mapping form stated) (cond t (mapping ∷ rest) rest)
      ≡ cond t (printed_mapping form stated mapping) [] ++ flat_map (printed_mapping form stated) rest
  first_of true mapping rest = refl
  first_of false mapping rest = refl

  -- what is printed of one mapping and those after it
  pub printed_first : (mapping : Mapping) (rest : List Mapping) →
      printed_mappings form line stated (mapping ∷ rest)
      ≡ cond (is_on_line line mapping) (printed_mapping form stated mapping) [] ++ printed_mappings form line stated rest
  printed_first mapping rest = first_of (is_on_line line mapping) mapping (filter (is_on_line line) rest)

  -- nothing is printed of mappings in order from one on that stands past the line
  pub none_past : (line_is : Option ℕ) (mapping : Mapping) (rest : List Mapping) → is_past_line line_is mapping ≡ true → IsInOrder (mapping ∷ rest)
      → printed_mappings form line_is stated (mapping ∷ rest) ≡ []
  none_past None mapping rest past order = cc
  none_past (Some n) mapping rest past order = ap (flat_map (printed_mapping form stated)) (none_on_line n mapping rest (ltb-true n mapping.line past) order)

-- ---- what was put where nothing waited

-- what then waits is written too
pub written_on : (old mid new : Option (List ℕ)) (bytes waiting : List ℕ) (written : Result Unit DeviceFault) → HandsOn old mid bytes waiting
    → OnOk written (Takes mid new waiting) → OnOk written (Takes old new bytes)
written_on old mid new bytes waiting (Ok done) put all =
    subst (λ l. Takes old new l) (sym put.2) (takes_both old mid new put.0 waiting put.1 all)
written_on old mid new bytes waiting (Err fault) put all = tt

-- or a front of it
pub front_on : (old mid new : Option (List ℕ)) (bytes waiting : List ℕ) (written : Result Unit DeviceFault) → HandsOn old mid bytes waiting
    → OnErr written (TakesFront mid new waiting) → OnErr written (TakesFront old new bytes)
front_on old mid new bytes waiting (Ok done) put took = tt
front_on old mid new bytes waiting (Err fault) put took = (
  put.0 ++ took.0,
  took.1,
  put.2 ∙ ap (λ l. put.0 ++ l) took.2 ∙ sym (append_assoc put.0 took.0 took.1),
  takes_both old mid new put.0 took.0 put.1 took.3,
)
