-- What the rows of a walk hold where clap finds no fault in the arguments.
use Rattle.std.proofs.Common.{◌≡◌, ◌++◌, ◌&&◌, ℕ, Bool, zero, suc, true, false, refl, sym, ap, subst, List, [], ◌∷◌, length, drop, not, fold, find}
use Rattle.std.proofs.Common.{Option, Some, None, codes, cond, is_some}
use Rattle.std.specs.Prelude.{⊤, encode_utf8, option_and_then, slice_get}
use Rattle.std.proofs.lemmas.Slice.Eq.{bytes_eq-Decides}
use Rattle.std.specs.Option.{IsSome, option_map_or}
use Rattle.std.specs.Str.{bytes_eq, chars}
use Rattle.clap.specs.ValueTests.{accepts}
use Rattle.clap.specs.Walk.{Held, Names, Outcome, Row, Rule, Step, Text, Waiting, Walk, after_flag, after_step, arg_by_id, arg_by_index, arg_by_long}
use Rattle.clap.specs.Walk.{arg_by_short, at_row, attached_value, bundle_met, bundle_step, default_rows, has_row, is_pending, long_met, long_or_other}
use Rattle.clap.specs.Walk.{more_values, one_of, option_met, option_word, plain_word, positional_held, reacted, reading_by, row_text, settled}
use Rattle.clap.specs.Walk.{settled_rows, short_met, short_or_plain, subcommand_met, subcommand_or_other, takes_several, takes_values, to_positional}
use Rattle.clap.specs.Walk.{used, used_by_id, walk, walked, walked_from, with_default, with_values, without, word_met}
use Rattle.clap.specs.Walk as w
use Rattle.clap.specs.Simple.{Shape, new_rule, filled, help_rule, with_index}
use Rattle.clap.specs.Kinds.{Kinds, or_else, values_kinds}
use Rattle.clap.specs.declared.builder.action.ArgAction.TheVariants.{Append, SetTrue}
use Rattle.clap.specs.Faults.{values_fault, bundle_step_fault, flags_fault, flag_word_fault, long_fault, option_fault, other_fault, positional_fault}
use Rattle.clap.specs.Faults.{react_fault, repeat_fault, set_fault, stray_fault, bundle_fault, settle_fault, short_fault, step_fault, turn_fault}
use Rattle.clap.specs.Faults.{use_fault, walk_fault, word_fault}
use Rattle.clap.specs.Lexer.{short_of, long_of}
use Rattle.clap.specs.Takes.{is_given}
use Rattle.clap.specs.Facts.{explicit_source}
use Rattle.clap.specs.Values.{Accepts, read_as, reading_of, refused_kind}
use Rattle.clap.proofs.ValueTestLemmas.{accepts-Accepts}
use Rattle.clap.specs.declared.builder.value_parser.ValueParser.{ValueParser}
use Rattle.clap.specs.declared.error.kind.ErrorKind.TheVariants.{DisplayHelp, OutOfMemory}
use Rattle.clap.specs.declared.parser.matches.ValueSource.TheVariants.{CommandLine, DefaultValue}
use Rattle.clap.specs.declared.error.kind.ErrorKind.TheVariants as kind
use Rattle.clap.specs.declared.parser.matches.ValueSource.{ValueSource}

-- ---- steps that found no fault

pub first_none : (a b : Kinds) → or_else a b ≡ [] → a ≡ []
first_none [] b none = refl
first_none (k ∷ ks) b none = none

pub second_none : (a b : Kinds) → or_else a b ≡ [] → b ≡ []
second_none [] b none = none
second_none (k ∷ ks) b none = cc

-- ---- rows

module _ (parser_at : Text → ValueParser) where
  -- the first value passed the parser of the argument
  abbrev IsAccepted : Text → List Text → Type 0
  IsAccepted id [] = ⊥
  IsAccepted id (v ∷ vs) = accepts false (parser_at id) v ≡ true

  -- the row has a first value, which passed the parser of its argument, and is read as that parser says
  abbrev pub IsReadRow : Row → Type 0
  IsReadRow r = IsAccepted r.id r.values × (r.reading ≡ reading_of (parser_at r.id))

  abbrev pub AreReadRows : List Row → Type 0
  AreReadRows [] = ⊤
  AreReadRows (r ∷ rs) = IsReadRow r × AreReadRows rs

  joined : (xs ys : List Row) → AreReadRows xs → AreReadRows ys → AreReadRows (xs ++ ys)
  joined [] ys left right = right
  joined (x ∷ xs) ys left right = (left.0, joined xs ys left.1 right)

  at_row_keeps : (id : Text) (change : Row → List Row) (missing rows : List Row) → ((r : Row) → IsReadRow r → AreReadRows (change r)) → AreReadRows missing
      → AreReadRows rows → AreReadRows (at_row id change missing rows)
  at_row_keeps id change missing [] keeps none good = none
  at_row_keeps id change missing (r ∷ rs) keeps none good = go (bytes_eq r.id id) (at_row_keeps id change missing rs keeps none good.1)
    where
      go : (b : Bool) → AreReadRows (at_row id change missing rs) → AreReadRows (cond b (change r ++ rs) (r ∷ at_row id change missing rs))
      go true rest = joined (change r) rs (keeps r good.0) good.1
      go false rest = (good.0, rest)

  pub without_keeps : (id : Text) (rows : List Row) → AreReadRows rows → AreReadRows (without id rows)
  without_keeps id rows good = at_row_keeps id (λ _. []) [] rows (λ r old. tt) tt good

  more_accepted : (id : Text) (old more : List Text) → IsAccepted id old → IsAccepted id (old ++ more)
  more_accepted id [] more old = absurd old
  more_accepted id (v ∷ vs) more old = old

  with_values_keeps : (id : Text) (source : ValueSource) (values : List Text) (rows : List Row) → IsAccepted id values → AreReadRows rows
      → AreReadRows (with_values id (reading_of (parser_at id)) source values rows)
  with_values_keeps id source values rows accepted good =
      at_row_keeps id (more_values source values)
      (record { id = id; values = values; count = None; source = Some source; reading = reading_of (parser_at id) } ∷ [])
      rows (λ r old. ((more_accepted r.id r.values values old.0, old.1), tt)) ((accepted, refl), tt) good

  -- ---- one use

  -- after a use of the argument in which no fault is found the rows are still read
  abbrev pub Keeps : Rule → Type 0
  Keeps a = (again : Bool) (values : List Text) (rows : List Row) → use_fault again a values rows ≡ [] → AreReadRows rows → AreReadRows (used a values rows)

  accepted_values : (id v : Text) (vs : List Text) → values_kinds false (parser_at id) (v ∷ vs) ≡ [] → IsAccepted id (v ∷ vs)
  accepted_values id v vs none = go (accepts false (parser_at id) v) (first_none _ (values_kinds false (parser_at id) vs) none)
    where
      go : (b : Bool) → cond b [] (refused_kind (parser_at id) ∷ []) ≡ [] → b ≡ true
      go true none = refl
      go false none = cc

  -- a positional argument of one value
  pub value_keeps : (i : ℕ) (id : Text) (required : Bool)
      → Keeps (with_index i (filled (record (new_rule id) { required = required; parser = Some (parser_at id) })))
  value_keeps i id required again [] rows none good = cc
  value_keeps i id required again (v ∷ vs) rows none good = go (second_none _ (set_fault again a (v ∷ vs) rows) none)
    where
      a : Rule
      a = with_index i (filled (record (new_rule id) { required = required; parser = Some (parser_at id) }))

      go : set_fault again a (v ∷ vs) rows ≡ [] → AreReadRows (used a (v ∷ vs) rows)
      go none = with_values_keeps id CommandLine (v ∷ vs) (without id rows)
          (accepted_values id v vs (second_none (repeat_fault again id rows) _ none)) (without_keeps id rows good)

  -- a positional argument of one value or more
  pub more_values_keeps : (i : ℕ) (id : Text) (required : Bool)
      → Keeps (with_index i (filled (record (new_rule id) { required = required; action = Some Append; parser = Some (parser_at id) })))
  more_values_keeps i id required again [] rows none good = cc
  more_values_keeps i id required again (v ∷ vs) rows none good = go (second_none _ (values_fault a (v ∷ vs)) none)
    where
      a : Rule
      a = with_index i (filled (record (new_rule id) { required = required; action = Some Append; parser = Some (parser_at id) }))

      go : values_fault a (v ∷ vs) ≡ [] → AreReadRows (used a (v ∷ vs) rows)
      go none = with_values_keeps id CommandLine (v ∷ vs) rows (accepted_values id v vs none) good

  -- an option of one value
  pub long_option_keeps : (i : ℕ) (id long : Text) → Keeps (with_index i (filled (record (new_rule id) { long = Some long; parser = Some (parser_at id) })))
  long_option_keeps i id long again [] rows none good = cc
  long_option_keeps i id long again (v ∷ vs) rows none good = go (second_none _ (set_fault again a (v ∷ vs) rows) none)
    where
      a : Rule
      a = with_index i (filled (record (new_rule id) { long = Some long; parser = Some (parser_at id) }))

      go : set_fault again a (v ∷ vs) rows ≡ [] → AreReadRows (used a (v ∷ vs) rows)
      go none = with_values_keeps id CommandLine (v ∷ vs) (without id rows)
          (accepted_values id v vs (second_none (repeat_fault again id rows) _ none)) (without_keeps id rows good)

  -- the same, where the help has another name for its value
  pub named_option_keeps : (i : ℕ) (id long : Text)
      → Keeps (with_index i (filled (record (new_rule id) { long = Some long; value_names = 1; parser = Some (parser_at id) })))
  named_option_keeps i id long again [] rows none good = cc
  named_option_keeps i id long again (v ∷ vs) rows none good = go (second_none _ (set_fault again a (v ∷ vs) rows) none)
    where
      a : Rule
      a = with_index i (filled (record (new_rule id) { long = Some long; value_names = 1; parser = Some (parser_at id) }))

      go : set_fault again a (v ∷ vs) rows ≡ [] → AreReadRows (used a (v ∷ vs) rows)
      go none = with_values_keeps id CommandLine (v ∷ vs) (without id rows)
          (accepted_values id v vs (second_none (repeat_fault again id rows) _ none)) (without_keeps id rows good)

  -- an option of one value that may be given more than once
  pub more_option_keeps : (i : ℕ) (id long : Text)
      → Keeps (with_index i (filled (record (new_rule id) { long = Some long; action = Some Append; parser = Some (parser_at id) })))
  more_option_keeps i id long again [] rows none good = cc
  more_option_keeps i id long again (v ∷ vs) rows none good = go (second_none _ (values_fault a (v ∷ vs)) none)
    where
      a : Rule
      a = with_index i (filled (record (new_rule id) { long = Some long; action = Some Append; parser = Some (parser_at id) }))

      go : values_fault a (v ∷ vs) ≡ [] → AreReadRows (used a (v ∷ vs) rows)
      go none = with_values_keeps id CommandLine (v ∷ vs) rows (accepted_values id v vs none) good

  -- a flag
  abbrev pub flag_at : (i : ℕ) (id long : Text) → Rule
  flag_at i id long = with_index i (filled (record (new_rule id) { long = Some long; action = Some SetTrue; parser = Some (parser_at id) }))

  flag_value_keeps : (i : ℕ) (id long : Text) (again : Bool) (v : Text) (vs : List Text) (rows : List Row)
      → set_fault again (flag_at i id long) (v ∷ vs) rows ≡ [] → AreReadRows rows
      → AreReadRows (with_values id (reading_of (parser_at id)) CommandLine (v ∷ vs) (without id rows))
  flag_value_keeps i id long again v vs rows none good = with_values_keeps id CommandLine (v ∷ vs) (without id rows)
      (accepted_values id v vs (second_none (repeat_fault again id rows) _ none)) (without_keeps id rows good)

  pub flag_keeps : (i : ℕ) (id long : Text) → Keeps (flag_at i id long)
  flag_keeps i id long again [] rows none good = flag_value_keeps i id long again (codes "true") [] rows none good
  flag_keeps i id long again (v ∷ vs) rows none good =
      flag_value_keeps i id long again v vs rows (second_none _ (set_fault again (flag_at i id long) (v ∷ vs) rows) none) good

  pub help_keeps : Keeps (filled help_rule)
  help_keeps again values rows none good = good

  -- a flag that is not given is false
  pub flag_default_keeps : (i : ℕ) (id long : Text) → accepts false (parser_at id) (codes "false") ≡ true → (rows : List Row) → AreReadRows rows
      → AreReadRows (with_default rows (flag_at i id long))
  flag_default_keeps i id long accepted rows good = go (has_row id rows)
    where
      go : (b : Bool) → AreReadRows (cond b rows (with_values id (reading_of (parser_at id)) DefaultValue (codes "false" ∷ []) rows))
      go true = good
      go false = with_values_keeps id DefaultValue (codes "false" ∷ []) rows accepted good

  pub no_default_keeps : (rows : List Row) (a : Rule) → a.defaults ≡ [] → AreReadRows rows → AreReadRows (with_default rows a)
  no_default_keeps rows a none good = go (has_row a.id rows) a.defaults none
    where
      go : (b : Bool) (defaults : List Text) → defaults ≡ [] → AreReadRows (cond b rows (default_rows a.id (reading_by a) defaults rows))
      go true defaults none = good
      go false [] none = good
      go false (v ∷ vs) none = cc

  -- ---- what a getter finds

  found_row : (id : Text) (rows : List Row) (r : Row) → AreReadRows rows → find (λ x. bytes_eq x.id id) rows ≡ Some r → IsReadRow r × (r.id ≡ id)
  found_row id [] r good is = cc
  found_row id (x ∷ xs) r good is = go (bytes_eq x.id id) refl is (λ is. found_row id xs r good.1 is)
    where
      go : (b : Bool) → bytes_eq x.id id ≡ b → cond b (Some x) (find (λ y. bytes_eq y.id id) xs) ≡ Some r
          → (find (λ y. bytes_eq y.id id) xs ≡ Some r → IsReadRow r × (r.id ≡ id)) → IsReadRow r × (r.id ≡ id)
      go true same is later =
          let here : x ≡ r = cc in
          subst (λ y. IsReadRow y × (y.id ≡ id)) here (good.0, (bytes_eq-Decides x.id id).0 same)
      go false same is later = later is

  module _ (id : Text) (rows : List Row) (good : AreReadRows rows) where
    -- this is a text that passed the parser of the argument
    abbrev Read : Option Text → Type 0
    Read o = (text : Text) × (o ≡ Some (read_as (reading_of (parser_at id)) text)) × Accepts false (parser_at id) text

    read : (r : Row) (values : List Text) → r.values ≡ values → IsAccepted id values → r.reading ≡ reading_of (parser_at id) → Read (row_text r)
    read r [] is accepted how = absurd accepted
    read r (v ∷ vs) is accepted how = (v, rw (is, how) refl, accepts-Accepts false (parser_at id) v accepted)

    -- the row of the argument has one
    row_value : (r : Row) → find (λ r. bytes_eq r.id id) rows ≡ Some r → Read (one_of id rows)
    row_value r is =
        let found = found_row id rows r good is in
        let accepted = subst (λ key. IsAccepted key r.values) found.1 found.0.0 in
        let how = subst (λ key. r.reading ≡ reading_of (parser_at key)) found.1 found.0.1 in
        subst Read (sym (ap (option_and_then row_text) is)) (read r r.values refl accepted how)

    -- so has an argument that is given
    pub given_value : is_given id rows ≡ true → Read (one_of id rows)
    given_value given = go (find (λ r. bytes_eq r.id id) rows) refl given
      where
        go : (o : Option Row) → find (λ r. bytes_eq r.id id) rows ≡ o → option_map_or (λ r. explicit_source r.source) o false ≡ true → Read (one_of id rows)
        go None is given = cc
        go (Some r) is given = row_value r is

    -- and one of which the rows have a text
    pub text_value : IsSome (one_of id rows) → Read (one_of id rows)
    text_value some = go (find (λ r. bytes_eq r.id id) rows) refl some
      where
        go : (o : Option Row) → find (λ r. bytes_eq r.id id) rows ≡ o → IsSome (option_and_then row_text o) → Read (one_of id rows)
        go None is some = cc
        go (Some r) is some = row_value r is

  -- ---- the walk over the arguments

  module _ (c : List Rule) (again : Bool) (each : (p : Rule → Bool) (a : Rule) → find p c ≡ Some a → Keeps a) where
    settle_at : (p : Option (Text × List Text)) (rows : List Row)
        → option_map_or (λ q. option_map_or (λ a. use_fault again a q.1 rows) (arg_by_id c q.0) []) p [] ≡ []
        → AreReadRows rows → AreReadRows (settled_rows c p rows)
    settle_at None rows none good = good
    settle_at (Some p) rows none good = go (arg_by_id c p.0) refl none
      where
        go : (o : Option Rule) → arg_by_id c p.0 ≡ o → option_map_or (λ a. use_fault again a p.1 rows) o [] ≡ [] → AreReadRows (used_by_id o p.1 rows)
        go None is none = good
        go (Some a) is none = each (λ a. bytes_eq a.id p.0) a is again p.1 rows none good

    pub settle_keeps : (h : Held) → settle_fault c again h ≡ [] → AreReadRows h.rows → AreReadRows (settled c h).rows
    settle_keeps h none good = settle_at h.pending h.rows none good

    react_keeps : (a : Rule) (values : List Text) (h : Held) → Keeps a → react_fault c again a values h ≡ [] → AreReadRows h.rows
        → AreReadRows (reacted c a values h).rows
    react_keeps a values h keeps none good =
        keeps again values (settled c h).rows (second_none _ _ none) (settle_keeps h (first_none _ (use_fault again a values (settled c h).rows) none) good)

    option_keeps : (a : Rule) (v : Option Text) (h : Held) → Keeps a → option_fault c again a v h ≡ [] → AreReadRows h.rows
        → AreReadRows (option_met c a v h).0.rows
    option_keeps a (Some v) h keeps none good = react_keeps a (v ∷ []) h keeps none good
    option_keeps a None h keeps none good = settle_keeps h none good

    long_keeps : (o : Option Rule) (v : Option Text) (h : Held) → ((a : Rule) → o ≡ Some a → Keeps a) → long_fault c again o v h ≡ [] → AreReadRows h.rows
        → AreReadRows (long_met c o v h).0.rows
    long_keeps None v h keeps none good = good
    long_keeps (Some a) v h keeps none good = go (takes_values a) v none
      where
        go : (b : Bool) (v : Option Text) → cond b (option_fault c again a v h) (cond (is_some v) (kind.TooManyValues ∷ []) (react_fault c again a [] h)) ≡ []
            → AreReadRows (cond b (option_met c a v h) (w.flag_met c a v h)).0.rows
        go true v none = option_keeps a v h (keeps a refl) none good
        go false (Some v) none = good
        go false None none = react_keeps a [] h (keeps a refl) none good

    short_keeps : (o : Option Rule) (rest : Text) (h : Held) (fault : Held → Kinds) (next : Held → Held × Outcome) → ((a : Rule) → o ≡ Some a → Keeps a)
        → ((g : Held) → fault g ≡ [] → AreReadRows g.rows → AreReadRows (next g).0.rows)
        → short_fault c again o rest h fault ≡ [] → AreReadRows h.rows → AreReadRows (short_met c o rest h next).0.rows
    short_keeps None rest h fault next keeps more none good = good
    short_keeps (Some a) rest h fault next keeps more none good = go (takes_values a) none
      where
        go : (b : Bool) → cond b (option_fault c again a (attached_value rest) h) (or_else (react_fault c again a [] h) (fault (reacted c a [] h))) ≡ []
            → AreReadRows (cond b (option_met c a (attached_value rest) h) (next (reacted c a [] h))).0.rows
        go true none = option_keeps a (attached_value rest) h (keeps a refl) none good
        go false none = more (reacted c a [] h) (second_none (react_fault c again a [] h) _ none)
            (react_keeps a [] h (keeps a refl) (first_none _ (fault (reacted c a [] h)) none) good)

    bundle_step_keeps : (o : Option ℕ) (flags : Text) (skip : ℕ) (so_far : Outcome) (h : Held) (fault : Text → ℕ → Held → Kinds)
        (next : Text → ℕ → Outcome → Held → Held × Outcome)
        → ((t : Text) (n : ℕ) (x : Outcome) (g : Held) → fault t n g ≡ [] → AreReadRows g.rows → AreReadRows (next t n x g).0.rows)
        → bundle_step_fault c again o flags skip h fault ≡ [] → AreReadRows h.rows → AreReadRows (bundle_step c o flags skip so_far h next).0.rows
    bundle_step_keeps None flags skip so_far h fault next more none good = good
    bundle_step_keeps (Some x) flags zero so_far h fault next more none good =
        let rest = drop (length (encode_utf8 x)) flags in
        short_keeps (arg_by_short c x) rest h (fault rest 0) (next rest 0 w.done)
        (λ a is. each (λ b. not (is_some b.index) && w.has_short b x) a is) (λ g. more rest 0 w.done g) none good
    bundle_step_keeps (Some x) flags (suc skip) so_far h fault next more none good = more (drop (length (encode_utf8 x)) flags) skip so_far h none good

    bundle_keeps : (k : ℕ) (flags : Text) (skip : ℕ) (so_far : Outcome) (h : Held) → flags_fault c again k flags skip h ≡ [] → AreReadRows h.rows
        → AreReadRows (bundle_met c k flags skip so_far h).0.rows
    unfolding flags_fault bundle_met
    bundle_keeps zero flags skip so_far h none good = good
    bundle_keeps (suc k) flags skip so_far h none good =
        bundle_step_keeps (slice_get (chars flags) 0) flags skip so_far h (flags_fault c again k) (bundle_met c k) (λ t n x g. bundle_keeps k t n x g) none good

    option_word_keeps : (o : Option Rule) (id word : Text) (h : Held) → AreReadRows h.rows → AreReadRows (option_word o id word h).0.rows
    option_word_keeps None id word h good = good
    option_word_keeps (Some a) id word h good = good

    plain_keeps : (waiting : Waiting) (word : Text) (h : Held) → AreReadRows h.rows → AreReadRows (plain_word c waiting word h).0.rows
    plain_keeps w.idle word h good = good
    plain_keeps (w.option id) word h good = option_word_keeps (arg_by_id c id) id word h good
    plain_keeps w.positional word h good = good

    after_flag_keeps : (waiting : Waiting) (word : Text) (h : Held) (o : Outcome) → AreReadRows h.rows → AreReadRows (after_flag c waiting word h o).0.rows
    after_flag_keeps waiting word h w.done good = good
    after_flag_keeps waiting word h (w.waits id) good = good
    after_flag_keeps waiting word h w.plain good = plain_keeps waiting word h good
    after_flag_keeps waiting word h w.refused good = plain_keeps waiting word h good

    short_word_keeps : (waiting : Waiting) (word : Text) (o : Option Text) (h : Held)
        → option_map_or (λ flags. bundle_fault c again flags h) o [] ≡ [] → AreReadRows h.rows
        → AreReadRows (short_or_plain c waiting word o h).0.rows
    short_word_keeps waiting word None h none good = plain_keeps waiting word h good
    short_word_keeps waiting word (Some flags) h none good =
        after_flag_keeps waiting word _ (w.bundle c flags h).1 (bundle_keeps (length flags) flags h.skip w.plain (record h { skip = 0 }) none good)

    flag_word_keeps : (waiting : Waiting) (word : Text) (o : Option (Text × Option Text)) (h : Held) → flag_word_fault c again o word h ≡ []
        → AreReadRows h.rows
        → AreReadRows (long_or_other c waiting word o h).0.rows
    flag_word_keeps waiting word (Some p) h none good =
        after_flag_keeps waiting word _ (long_met c (arg_by_long c p.0) p.1 h).1
        (long_keeps (arg_by_long c p.0) p.1 h (λ a is. each (λ b. not (is_some b.index) && w.has_long b p.0) a is) none good)
    flag_word_keeps waiting word None h none good = short_word_keeps waiting word (short_of word) h none good

  module _ (s : Shape) (names : Names) (each : (p : Rule → Bool) (a : Rule) → find p s.rules ≡ Some a → Keeps a) where
    other_keeps : (o : Option Text) (waiting : Waiting) (position : ℕ) (word : Text) (h : Held) → other_fault s o word h ≡ [] → AreReadRows h.rows
        → AreReadRows (subcommand_or_other s.rules o waiting position word h).0.rows
    other_keeps (Some name) waiting position word h none good = good
    other_keeps None waiting position word h none good = go (bytes_eq word (45 ∷ 45 ∷ [])) none
      where
        go : (b : Bool) → cond b [] (flag_word_fault s.rules s.args_override_self (long_of word) word h) ≡ []
            → AreReadRows (cond b (h, w.trailing position) (long_or_other s.rules waiting word (long_of word) h)).0.rows
        go true none = good
        go false none = flag_word_keeps s.rules s.args_override_self each waiting word (long_of word) h none good

    word_keeps : (is_trailing : Bool) (waiting : Waiting) (position : ℕ) (word : Text) (h : Held)
        → word_fault s names is_trailing waiting word h ≡ [] → AreReadRows h.rows
        → AreReadRows (word_met s.rules names is_trailing waiting position word h).0.rows
    word_keeps true waiting position word h none good = good
    word_keeps false waiting position word h none good = other_keeps (subcommand_met names waiting word) waiting position word h none good

    positional_keeps : (a : Rule) (word : Text) (h : Held) → positional_fault s.rules s.args_override_self a h ≡ [] → AreReadRows h.rows
        → AreReadRows (positional_held s.rules a word h).rows
    positional_keeps a word h none good = go (is_pending a h.pending && takes_several a) none
      where
        go : (b : Bool) → cond b [] (settle_fault s.rules s.args_override_self h) ≡ [] → AreReadRows (w.pushed a.id word (cond b h (settled s.rules h))).rows
        go true none = good
        go false none = settle_keeps s.rules s.args_override_self each h none good

    step_keeps : (word : Text) (v : Walk) (h : Held) (step : Step) → step_fault s v.position h step ≡ [] → AreReadRows h.rows
        → AreReadRows (after_step s.rules word v h step).held.rows
    step_keeps word v h (w.next waiting) none good = good
    step_keeps word v h (w.trailing position) none good = good
    step_keeps word v h (w.subcommand name) none good = good
    step_keeps word v h w.value none good = go (arg_by_index s.rules v.position) none
      where
        go : (o : Option Rule) → option_map_or (λ a. positional_fault s.rules s.args_override_self a h) o (stray_fault s) ≡ []
            → AreReadRows (to_positional s.rules o word v h).held.rows
        go None none = good
        go (Some a) none = positional_keeps a word h none good

    turn_keeps : (v : Walk) (word : Text) → turn_fault s names v word ≡ [] → AreReadRows v.held.rows → AreReadRows (walked s.rules names v word).held.rows
    unfolding walked
    turn_keeps v word none good = go v.stopped none
      where
        met : Held × Step
        met = word_met s.rules names v.is_trailing v.waiting v.position word v.held

        go : (o : Option (Text × List Text))
            → cond (is_some o) [] (or_else (word_fault s names v.is_trailing v.waiting word v.held) (step_fault s v.position met.0 met.1)) ≡ []
            → AreReadRows (walked_from s.rules names o v word).held.rows
        go (Some p) none = good
        go None none = step_keeps word v met.0 met.1 (second_none _ _ none)
            (word_keeps v.is_trailing v.waiting v.position word v.held (first_none _ (step_fault s v.position met.0 met.1) none) good)

    pub walk_keeps : (words : List Text) (v : Walk) → walk_fault s names v words ≡ [] → AreReadRows v.held.rows
        → AreReadRows (fold (walked s.rules names) v words).held.rows
    unfolding walk_fault
    walk_keeps [] v none good = good
    walk_keeps (word ∷ rest) v none good =
        walk_keeps rest (walked s.rules names v word) (second_none (turn_fault s names v word) _ none)
        (turn_keeps v word (first_none _ (walk_fault s names (walked s.rules names v word) rest) none) good)
