-- A text that clap reads for an argument.
use Rattle.std.proofs.Common.{◌≡◌, ◌∙◌, ◌<◌, ℕ, false, List, [], ◌∷◌, Option, Some, None, refl, sym, ap, arith, find, is_some, length, map}
use Rattle.std.specs.Borrow.{Bor}
use Rattle.std.specs.Option.{IsSome}
use Rattle.std.specs.Prelude.{option_and_then, option_map, slice_get}
use Rattle.std.specs.Str.{bytes_eq}
use Rattle.clap.specs.Values.{read_as}
use Rattle.clap.specs.Walk.{row_text}
use Rattle.clap.specs.Words.{Row, Text, all_of}
use Rattle.clap.specs.declared.builder.value_parser.Reading.{Reading}
use Rattle.clap.specs.declared.builder.value_parser.ValueParser.TheVariants as parser
use Rattle.smap_arguments.specs.Arguments.{GivesText, HasValue}

-- it has been found
pub some_text : (o : Option (Bor (List ℕ))) (text : List ℕ) → option_map (λ s. s.now) o ≡ Some text → IsSome o
some_text None text is = cc
some_text (Some s) text is = refl

-- a text that is made of another is there where that is
pub some_mapped : {A B : Type 0} (f : A → B) (o : Option A) → is_some (option_map f o) ≡ is_some o
some_mapped f None = refl
some_mapped f (Some x) = refl

pub is_none : {A : Type 0} (o : Option A) → is_some o ≡ false → o ≡ None
is_none None not_some = refl
is_none (Some x) not_some = cc

-- an argument with a value has a first one
pub first_of_value : (name : Text) (rows : List Row) → HasValue parser.String rows name → (text : Text) × GivesText rows name text
first_of_value name rows has = go (find (λ r. bytes_eq r.id name) rows) has.1
  where
    first : (how : Reading) (o : Option Text) → option_map (read_as how) o ≡ Some has.0 → (text : Text) × (o ≡ Some text)
    first how None is = cc
    first how (Some value) is = (value, refl)

    go : (o : Option Row) → option_and_then row_text o ≡ Some has.0 → (text : Text) × (option_and_then (λ r. slice_get r.values 0) o ≡ Some text)
    go None is = cc
    go (Some r) is = first r.reading (slice_get r.values 0) is

-- and it has all of them
pub all_of_value : (name : Text) (rows : List Row) → HasValue parser.String rows name
    → (first : Text) × (others : List Text) × (all_of name rows ≡ Some (first ∷ others))
all_of_value name rows has = go (find (λ r. bytes_eq r.id name) rows) has.1
  where
    values : (how : Reading) (l : List Text) → option_map (read_as how) (slice_get l 0) ≡ Some has.0 → (first : Text) × (others : List Text) × (l ≡ first ∷ others)
    values how [] is = cc
    values how (first ∷ others) is = (first, others, refl)

    go : (o : Option Row) → option_and_then row_text o ≡ Some has.0 → (first : Text) × (others : List Text) × (option_map (λ r. r.values) o ≡ Some (first ∷ others))
    go None is = cc
    go (Some r) is = let found = values r.reading r.values is in (found.0, found.1, (λ i. Some (found.2 i)))

-- what the getter of all texts gives
pub some_texts : (o : Option (Bor (List (Bor (List ℕ))))) (arguments : List Text) → option_map (λ s. map (λ v. v.now) s.now) o ≡ Some arguments → IsSome o
some_texts None arguments is = cc
some_texts (Some s) arguments is = refl

-- of which there is one at least
pub some_given : (all : List (Bor (List ℕ))) (first : Text) (others : List Text) → Some (map (λ v. v.now) all) ≡ Some (first ∷ others) → 0 < length all
some_given [] first others is = cc
some_given (v ∷ all) first others is = omega arith

-- a first text and the others, which are copied
pub given_first : (all rest : List (Bor (List ℕ))) (first : Bor (List ℕ)) (text : Text) (others : List Text) → all ≡ first ∷ rest → text ≡ first.now
    → others ≡ map (λ v. v.now) rest → Some (map (λ v. v.now) all) ≡ Some (text ∷ others)
given_first all rest first text others is same copied = ap (λ l. Some (map (λ (v : Bor (List ℕ)). v.now) l)) is ∙ (λ i. Some (sym same i ∷ sym copied i))
