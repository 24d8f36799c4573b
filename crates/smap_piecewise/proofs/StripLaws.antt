-- Bytes of a text that are handed on without control sequences.
use Rattle.std.proofs.Common.{◌≡◌, ◌≤◌, ◌+◌, ◌-◌, ◌∙◌, ◌⊎◌, inl, inr, get_or, ℕ, Bool, true, false, List, [], ◌∷◌, ◌++◌, length, take, drop, sym, ap, refl, arith, append-nil, append_assoc, length-append}
use Rattle.std.proofs.Common.{length-drop, length-take-le}
use Rattle.smap_io.specs.Sequences.{kept, kept_byte, sequence_length}
use Rattle.smap_io.specs.Private.Front.{IsFront}
use Rattle.smap_io.specs.Private.Given.{Tells}
use Rattle.smap_io.specs.declared.front.Front.{Front}
use Rattle.smap_io.specs.declared.front.Front.TheVariants.{Byte, Open, Sequence}
use Rattle.smap_io.specs.declared.telling.Told.{Told}
use Rattle.smap_piecewise.specs.Private.Stripping.{PassesOn}
use Rattle.smap_piecewise.specs.declared.stripping.Stripping.{Stripping}

-- bytes more, of which it was told what they are
module _ (is_ended : Bool) (old now new : Stripping) (given_old given given_new : List ℕ) (before : PassesOn is_ended old now given_old given) (more : List ℕ)
    (given_is : given_new ≡ given ++ more) (few : length more + length new.held ≤ length now.held)
    (same : (later : List ℕ) → (is_ended ≡ true → later ≡ []) → kept (now.held ++ later) 0 now.most ≡ more ++ kept (new.held ++ later) 0 new.most) where
  pub passes_more : PassesOn is_ended old new given_old given_new
  passes_more = record {
    more = before.more ++ more;
    given = given_is ∙ ap (λ g. g ++ more) before.given ∙ append_assoc given_old before.more more;
    few = omega (arith, few, before.few, length-append before.more more);
    same = λ later ends. before.same later ends ∙ ap (λ t. before.more ++ t) (same later ends)
        ∙ sym (append_assoc before.more more (kept (new.held ++ later) 0 new.most));
  }

pub passes_told : (old now new : Stripping) (given_old given given_new : List ℕ) → PassesOn false old now given_old given → (room : List ℕ) (told : Told)
    → Tells now.held now.most room told → given_new ≡ given ++ take told.count room → new.held ≡ drop (length now.held - told.left) now.held → new.most ≡ told.most
    → PassesOn false old new given_old given_new
passes_told old now new given_old given given_new before room told tells given_is held most =
    let size : length (take told.count room) ≡ told.count = length-take-le told.count room tells.fits in
    let left : length new.held ≡ told.left = ap length held ∙ length-drop (length now.held - told.left) now.held ∙ omega (arith, tells.within) in
    passes_more false old now new given_old given given_new before (take told.count room) given_is (omega (arith, size, left, tells.few))
    (λ later ends. tells.given later
    ∙ (λ i. take told.count room ++ kept (sym held i ++ later) 0 (sym most i)))

-- a byte that stays, at the end
open_first : (first : ℕ) (rest : List ℕ) (most : ℕ) → sequence_length (first ∷ rest) ≡ 0 → kept (first ∷ rest) 0 most ≡ first ∷ kept rest 0 most
unfolding kept
open_first first rest most none = ap (λ n. kept_byte first n most (λ gone most. kept rest gone most)) none

pub passes_first : (old now new : Stripping) (given_old given given_new : List ℕ) → PassesOn true old now given_old given → (first : ℕ) (rest : List ℕ)
    → now.held ≡ first ∷ rest → kept now.held 0 now.most ≡ first ∷ kept rest 0 now.most → given_new ≡ given ++ first ∷ [] → new.held ≡ rest → new.most ≡ now.most
    → PassesOn true old new given_old given_new
passes_first old now new given_old given given_new before first rest parts stays given_is held most =
    let size : length now.held ≡ 1 + length rest = ap length parts ∙ omega arith in
    passes_more true old now new given_old given given_new before (first ∷ []) given_is (omega (arith, size, ap length held))
    (λ later ends.
    ap (λ l. kept (now.held ++ l) 0 now.most) (ends refl) ∙ ap (λ t. kept t 0 now.most) (append-nil now.held) ∙ stays
    ∙ (λ i. first ∷ kept (sym held i) 0 (sym most i)) ∙ ap (λ t. first ∷ kept t 0 new.most) (sym (append-nil new.held))
    ∙ ap (λ l. first ∷ kept (new.held ++ l) 0 new.most) (sym (ends refl)))

stays_open : (held : List ℕ) (first : ℕ) (rest : List ℕ) (most : ℕ) → held ≡ first ∷ rest → sequence_length held ≡ 0 → kept held 0 most ≡ first ∷ kept rest 0 most
stays_open held first rest most parts none =
    ap (λ t. kept t 0 most) parts ∙ open_first first rest most (ap sequence_length (sym parts) ∙ none)

pub stays_there : (held : List ℕ) (first : ℕ) (rest : List ℕ) (most : ℕ) (front : Front) → held ≡ first ∷ rest → IsFront held most front
    → ((front ≡ Open) ⊎ ((byte : ℕ) × (front ≡ Byte byte))) → kept held 0 most ≡ first ∷ kept rest 0 most
stays_there held first rest most Open parts is either = stays_open held first rest most parts is.1
stays_there held first rest most (Byte byte) parts is either =
    let same : byte ∷ is.0 ≡ first ∷ rest = sym is.1 ∙ parts in
    ap (λ t. kept t 0 most) (sym (append-nil held)) ∙ is.2 [] ∙ ap (λ t. byte ∷ kept t 0 most) (append-nil is.0)
    ∙ (λ i. get_or (same i) 0 0 ∷ kept (drop 1 (same i)) 0 most)
stays_there held first rest most (Sequence count) parts is (inl other) = absurd (cc)
stays_there held first rest most (Sequence count) parts is (inr other) = absurd (cc (other.1))
