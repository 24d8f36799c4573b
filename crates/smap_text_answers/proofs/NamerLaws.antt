-- Which file is beside the map of a URL.
use Rattle.std.specs.Prelude.{◌≡◌, ◌&&◌, ◌-◌, ℕ, Bool, true, false, List, ◌∷◌, IfOk, MatchOption, Option, Some, None, Result, Ok, Err}
use Rattle.std.specs.Prelude.{if◌then◌else◌, is_none, length, not, option_copied, take}
use Rattle.std.proofs.Common.{ap, arith, refl, subst, sym, ◌∙◌}
use Rattle.std.proofs.lemmas.Str.Pattern.{ends_text}
use Rattle.std.specs.Bool.{nat_eq}
use Rattle.std.specs.List.{ends_with}
use Rattle.std.specs.Str.{IsCharBoundary, bytes_eq}
use Rattle.std.specs.Str.Pattern.{FindsTextSuffix, StripsSuffix}
use Rattle.smap_locations.specs.ListLine.{is_rule}
use Rattle.smap_record.specs.Record.{MapRecord}
use Rattle.smap_replies.specs.Files.{MayRead}
use Rattle.smap_replies.specs.Map.{text_refusal}
use Rattle.smap_text_answers.specs.Generated.{fits_text, is_generated}
use Rattle.smap_text_answers.specs.Names.{ListsFile, argument_path}
use Rattle.smap_text_answers.specs.Private.Listing.{IsListed, came_of, said_of}
use Rattle.smap_text_answers.specs.declared.namer.Listing.{Listing}
use Rattle.smap_text_answers.specs.declared.namer.Listing.TheVariants.{Listed, Unlisted}
use denote.Ref.{Bor}

-- an argument names the file of a URL
module _ (arguments rest : List (List ℕ × List ℕ)) (named path url : List ℕ) (is : arguments ≡ (named, path) ∷ rest) where
  pub path_here : (bytes_eq named url && not (is_rule named path)) ≡ true → argument_path arguments url ≡ Some path
  path_here test =
      subst (λ l. argument_path l url ≡ Some path) (sym is) (ap (λ b. if b then Some path else argument_path rest url) test)

  -- or not
  pub path_past : (bytes_eq named url && not (is_rule named path)) ≡ false → argument_path arguments url ≡ argument_path rest url
  path_past test =
      subst (λ l. argument_path l url ≡ argument_path rest url) (sym is) (ap (λ b. if b then Some path else argument_path rest url) test)

-- a text without its end
pub stripped : (p s : List ℕ) (r : Option (Bor (List ℕ))) → MatchOption r (FindsTextSuffix p s None) (λ x. StripsSuffix (FindsTextSuffix p) s x.now)
    → option_copied r ≡ (if ends_with nat_eq s p then Some (take (length s - length p) s) else None)
stripped p s None none = ap (λ b. if b then Some (take (length s - length p) s) else None) (ends_text false p s none)
stripped p s (Some x) (n, found, x_is, many) =
    let boundary : IsCharBoundary s (length s - n) = subst (λ k. IsCharBoundary s (length s - k)) (sym found.0) found.2 in
    let ends : true ≡ ends_with nat_eq s p = ends_text true p s (n, found, omega arith, boundary) in
    ap (λ t. Some t) x_is ∙ ap (λ k. Some (take (length s - k) s)) found.0 ∙ ap (λ b. if b then Some (take (length s - length p) s) else None) ends

-- bytes that are a text are the generated one, if the map fits them
pub generated_is : (stated : MapRecord) (bytes text : List ℕ) (fit : Bool) → Some text ≡ (if is_none (text_refusal bytes) then Some bytes else None)
    → fit ≡ fits_text stated text → (bytes ≡ text) × (is_generated stated text ≡ fit)
generated_is stated bytes text fit whole is =
    let both = whole_text (text_refusal bytes) bytes text whole in
    let accepted : is_none (text_refusal text) ≡ true = ap (λ t. is_none (text_refusal t)) both.1 ∙ both.0 in
    (sym both.1, ap (λ b. b && fits_text stated text) accepted ∙ sym is)
  where
    whole_text : {C : Type 0} (refused : Option C) (bytes text : List ℕ) → Some text ≡ (if is_none refused then Some bytes else None)
        → (is_none refused ≡ true) × (text ≡ bytes)
    whole_text None bytes text is = (refl, cc)
    whole_text (Some code) bytes text is = absurd (cc)

-- what is listed of the file beside a map
module _ (Reads : MayRead) (number : ℕ) (path file : List ℕ) (stated : MapRecord) (text : List ℕ) (read : Reads number file (Ok text))
    (is : is_generated stated text ≡ true) where
  listed : (listing : Listing) → IsListed stated text listing → ListsFile Reads number path file stated (came_of listing) (said_of listing)
  listed (Unlisted said) never = absurd never
  listed (Listed loaded) all = (text, read, is, all.0, all.1, refl)

  pub listed_so : {E : Type 0} (result : Result Listing E) → IfOk result (IsListed stated text)
      → IfOk result (λ listing. ListsFile Reads number path file stated (came_of listing) (said_of listing))
  listed_so (Err failure) all = tt
  listed_so (Ok listing) all = listed listing all
