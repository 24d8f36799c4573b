-- A position that is one word.
use Rattle.std.proofs.Common.{◌≡◌, ◌∙◌, ◌<◌, ◌+◌, ℕ, Bool, true, false, List, [], ◌∷◌, ◌++◌, length, drop, Option, Some, None, refl, sym, ap, subst}
use Rattle.std.proofs.Common.{◌≤◌, ◌&&◌, ap₂, cond, not, add-one, append-nil, arith, append_assoc, drop-cons, get_or, inr}
use Rattle.std.proofs.Math.Dec.{eqb-zero-suc}
use native.Mathlib.Numerals.{unary_clauses}
use Rattle.std.proofs.lemmas.List.{drop_all, get_or-map, length-map, map-append}
use Rattle.std.specs.Prelude.{◌==◌, suc, Err, IfErr, IfOk, IfSome, Ok, Result, String, string_bytes}
use Rattle.clap.specs.Faults.{fault_of}
use Rattle.clap.specs.Kinds.{IsAmong, Kinds}
use Rattle.clap.specs.Words.{Row, Text, kind_of}
use Rattle.clap.specs.declared.error.Error.{Error}
use Rattle.clap.specs.declared.error.kind.ErrorKind.{ErrorKind}
use Rattle.smap_command.specs.Limits.{most_bytes}
use Rattle.smap_command.specs.Runnable.{IsRunnable}
use Rattle.smap_command.specs.declared.command.Command.{Command}
use Rattle.smap_command.specs.declared.command.Command.TheVariants.{Raw, Rewrite}
use Rattle.smap_arguments.specs.Arguments.{ArgumentsAskFor, NamedAsksFor, texts}
use Rattle.smap_arguments.specs.CommandLine.{whole_name}
use Rattle.smap_arguments.specs.Line.{asks_generated, is_lookup, line_of}
use Rattle.smap_arguments.specs.Refusals.{IsRead, IsRefusalOf, ReportsRead}
use Rattle.smap_arguments.specs.Spread.{IsPushed, behind_colon, is_colon, is_faultless, numbers_behind, numbers_of, or_numbers, position_of}
use Rattle.smap_arguments.specs.Spread.{read_arguments, spread, spread_at, spread_behind, spread_words}
use Rattle.smap_arguments.specs.declared.usage.Usage.{Usage}
use Rattle.smap_arguments.specs.declared.usage.Usage.TheVariants.{Help, Words, Memory}

-- ---- whether clap finds a fault

has_fault : (kinds : Kinds) (kind : ErrorKind) → IsAmong kind kinds → is_faultless kinds ≡ false
has_fault [] kind among = absurd among
has_fault (other ∷ kinds) kind among = refl

-- ---- the arguments that are read

module _ (arguments : List Text) where
  -- those of no `lookup` are read as they are
  pub read_other : is_lookup arguments ≡ false → arguments ≡ read_arguments arguments
  read_other other = sym (ap (λ b. cond (b && not (is_faultless (fault_of (line_of arguments) arguments))) (spread arguments) arguments) other)

  -- so are those in which clap finds no fault
  read_faultless : fault_of (line_of arguments) arguments ≡ [] → arguments ≡ read_arguments arguments
  read_faultless none =
      go (is_lookup arguments) ∙ sym (ap (λ kinds. cond (is_lookup arguments && not (is_faultless kinds)) (spread arguments) arguments) none)
    where
      go : (b : Bool) → arguments ≡ cond (b && false) (spread arguments) arguments
      go true = refl
      go false = refl

  pub read_at_once : (read : Result Command Usage) → IsRead arguments (Ok read) → IsRead (read_arguments arguments) (Ok read)
  read_at_once (Ok command) is = subst (λ w. ArgumentsAskFor w command) (read_faultless is.0) is
  read_at_once (Err (Help text)) is = is
  read_at_once (Err (Words text)) is = subst (λ w. ReportsRead w (string_bytes text)) (read_faultless is.0) is
  read_at_once (Err Memory) is = is

  -- where clap finds a fault in those of `lookup`, a position in them is two words
  pub read_spread : (error : Error) → IsRead arguments (Err error) → is_lookup arguments ≡ true → spread arguments ≡ read_arguments arguments
  read_spread error is lookup =
      sym (ap₂ (λ a b. cond (a && not b) (spread arguments) arguments) lookup (has_fault (fault_of (line_of arguments) arguments) (kind_of error) is))

-- a command that is asked for can be run
can_run : (name : Text) (rows : List Row) (command : Command) → NamedAsksFor name rows command → IsRunnable command
can_run name rows (Raw line column interval) asked = asked.3.1
can_run name rows (Rewrite maps base interval hide_ignored options) asked = (few options.cache_bytes asked.5.2.1, asked.5.3.1)
  where
    few : (given : Option ℕ) → IfSome given (λ bytes. (0 ≤ bytes) × (bytes ≤ most_bytes)) → IfSome given (λ bytes. bytes ≤ most_bytes)
    few None is = tt
    few (Some bytes) is = is.1
can_run name rows other asked = tt

-- what `parse` gives where clap finds no fault in the words
pub parsed : (words : List Text) (read : Result Command Usage) → IsRead words (Ok read)
    → IfOk read (ArgumentsAskFor words) × IfOk read IsRunnable × IfErr read (IsRefusalOf words)
parsed words (Ok command) is = (is, can_run (whole_name (asks_generated words) is.1.0) is.1.1 command is.1.3, tt)
parsed words (Err (Help text)) is = absurd is
parsed words (Err (Words text)) is = (tt, tt, inr is)
parsed words (Err Memory) is = (tt, tt, tt)

-- ---- the numbers that a text ends with

-- behind its first `:`, or nowhere
abbrev pub numbers_next : Option Text → Option (Text × Text)
numbers_next None = None
numbers_next (Some rest) = or_numbers (numbers_of rest) (numbers_behind rest)

-- how many bytes are left, where some text is
abbrev pub left_bytes : Option Text → ℕ
left_bytes None = 0
left_bytes (Some rest) = length rest + 1

one_on : (n m : ℕ) → (1 + n == suc m) ≡ (n == m)
one_on n m = grind arith

-- what stands behind a place, where it is counted with the byte before the text
rest_on : (n : ℕ) (text : Text) → cond (1 + n == suc (length text)) None (Some (drop (1 + n) text)) ≡ cond (n == length text) None (Some (drop (n + 1) text))
rest_on n text = ap₂ (λ b k. cond b None (Some (drop k text))) (one_on n (length text)) (omega arith)

module _ (byte : ℕ) (text : Text) where
  colon_or_not : (b : Bool) → is_colon byte ≡ b → numbers_behind text ≡ numbers_next (behind_colon text)
      → numbers_behind (byte ∷ text) ≡ numbers_next (behind_colon (byte ∷ text))
  unfolding numbers_behind
  colon_or_not true is later = rw is (ap (λ b. numbers_next (cond b None (Some text))) (sym (eqb-zero-suc (length text))))
  colon_or_not false is later = rw is (simp unary_clauses (later ∙ ap numbers_next (sym (rest_on _ text))))

pub numbers_from : (text : Text) → numbers_behind text ≡ numbers_next (behind_colon text)
unfolding numbers_behind
numbers_from [] = refl
numbers_from (byte ∷ text) = colon_or_not byte text (is_colon byte) refl (numbers_from text)

-- where a text is no number, the search goes on behind its first `:`
pub numbers_on : (text : Text) → numbers_of text ≡ None → or_numbers (numbers_of text) (numbers_behind text) ≡ numbers_next (behind_colon text)
numbers_on text none = ap (λ n. or_numbers n (numbers_behind text)) none ∙ numbers_from text

-- ---- a word that is pushed

module _ {A : Type 0} (old : List (String A)) (word : String A) where
  pub texts_pushed : texts (old ++ word ∷ []) ≡ texts old ++ string_bytes word ∷ []
  texts_pushed = map-append (λ text. string_bytes text) old (word ∷ [])

pub texts_with : {A : Type 0} (old new : List (String A)) (word : String A) (text : Text) → new ≡ old ++ word ∷ [] → string_bytes word ≡ text
    → texts new ≡ texts old ++ text ∷ []
texts_with old new word text is same = ap texts is ∙ (texts_pushed old word ∙ ap (λ w. texts old ++ w ∷ []) same)

-- as it is
pub pushed_as_is : (is_generated : Bool) (old new : List Text) (word : Text) → new ≡ old ++ word ∷ [] → IsPushed is_generated old new word true true
pushed_as_is is_generated old new word is words = ap (λ l. l ++ words) is ∙ append_assoc old (word ∷ []) words

module _ (is_generated : Bool) (old new : List Text) (word : Text) where
  spread_one : (found : Option (Text × Text)) → position_of is_generated word ≡ found → (words : List Text)
      → spread_words is_generated (word ∷ words) ≡ spread_at found word words (spread_words is_generated words)
  unfolding spread_words
  spread_one found is words = ap (λ p. spread_at p word words (spread_words is_generated words)) is

  pub pushed_no_position : position_of is_generated word ≡ None → new ≡ old ++ word ∷ [] → IsPushed is_generated old new word false false
  pushed_no_position none is words =
      ap (λ l. l ++ spread_words is_generated words) is ∙ (append_assoc old (word ∷ []) (spread_words is_generated words) ∙ ap (λ l. old ++ l) (sym (spread_one None none words)))

  pub pushed_position : (line column : Text) → position_of is_generated word ≡ Some (line, column) → new ≡ (old ++ line ∷ []) ++ column ∷ []
      → IsPushed is_generated old new word false true
  pushed_position line column found is words =
      ap (λ l. l ++ words) is
      ∙ (append_assoc (old ++ line ∷ []) (column ∷ []) words
      ∙ (append_assoc old (line ∷ []) (column ∷ words) ∙ ap (λ l. old ++ l) (sym (spread_one (Some (line, column)) found words))))

-- ---- the words, one by one

-- the words so far are all, as far as the first i were passed
abbrev pub ArePassed : (is_generated : Bool) → (all : List Text) → (is_spread : Bool) → (i : ℕ) → (program : Text) (words : List Text) → Type 0
ArePassed is_generated all is_spread i program words = all ++ spread_behind is_generated is_spread (drop i words) ≡ program ∷ spread_words is_generated words

passed_on : (is_generated : Bool) (all new : List Text) (was_spread is_spread : Bool) (i : ℕ) (program : Text) (words : List Text) → i < length words
    → ArePassed is_generated all was_spread i program words → IsPushed is_generated all new (get_or words i []) was_spread is_spread
    → ArePassed is_generated new is_spread (i + 1) program words
passed_on is_generated all new was_spread is_spread i program words within is pushed =
    let next : drop i words ≡ get_or words i [] ∷ drop (i + 1) words =
    drop-cons words i [] within ∙ ap (λ n. get_or words i [] ∷ drop n words) (sym (add-one i)) in
    pushed (drop (i + 1) words) ∙ (ap (λ l. all ++ spread_behind is_generated was_spread l) (sym next) ∙ is)

pub word_passed : {A : Type 0} (is_generated : Bool) (all new : List Text) (was_spread is_spread : Bool) (i : ℕ) (program : Text) (words : List (String A)) (word : String A)
    (text : Text) → i < length words → word ≡ get_or words i word → text ≡ string_bytes word
    → ArePassed is_generated all was_spread i program (texts words) → IsPushed is_generated all new text was_spread is_spread
    → ArePassed is_generated new is_spread (i + 1) program (texts words)
word_passed is_generated all new was_spread is_spread i program words word text within here same is pushed =
    let at : text ≡ get_or (texts words) i [] =
    same ∙ (ap (λ w. string_bytes w) here ∙ sym (get_or-map (λ w. string_bytes w) words i word [] within)) in
    passed_on is_generated all new was_spread is_spread i program (texts words) (rw length-map within) is
    (subst (λ w. IsPushed is_generated all new w was_spread is_spread) at pushed)

pub passed_all : (is_generated : Bool) (all : List Text) (is_spread : Bool) (i : ℕ) (program : Text) (words : List Text) → length words ≤ i
    → ArePassed is_generated all is_spread i program words → all ≡ program ∷ spread_words is_generated words
unfolding spread_words
passed_all is_generated all is_spread i program words past is =
    sym (append-nil all) ∙ (ap (λ l. all ++ l) (sym (nothing is_spread)) ∙ (ap (λ l. all ++ spread_behind is_generated is_spread l) (sym (drop_all i words past)) ∙ is))
  where
    nothing : (b : Bool) → spread_behind is_generated b [] ≡ []
    nothing true = refl
    nothing false = refl
