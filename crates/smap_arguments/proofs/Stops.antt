-- A walk in which clap finds no fault stops at no request for help.
use Rattle.std.proofs.Common.{◌≡◌, ◌&&◌, ℕ, Bool, true, false, refl, sym, subst, List, [], ◌∷◌, not, fold, Option, Some, None, codes, cond, is_some}
use Rattle.std.specs.Prelude.{⊤}
use Rattle.std.specs.Str.{bytes_eq}
use Rattle.clap.specs.Walk.{Held, Names, Outcome, Rule, Step, Text, Waiting, Walk, after_flag, after_step, arg_by_index, arg_by_long, long_met}
use Rattle.clap.specs.Walk.{long_or_other, plain_word, short_or_plain, subcommand_met, subcommand_or_other, to_positional, walk, walked, walked_from}
use Rattle.clap.specs.Walk.{word_met}
use Rattle.clap.specs.Walk as w
use Rattle.clap.specs.Simple.{Shape}
use Rattle.clap.specs.Kinds.{or_else}
use Rattle.clap.specs.Faults.{other_fault, step_fault, turn_fault, walk_fault, word_fault}
use Rattle.clap.specs.Lexer.{short_of, long_of}
use Rattle.clap.specs.declared.error.kind.ErrorKind.TheVariants as kind
use Rattle.smap_arguments.proofs.Rows.{first_none, second_none}

-- the walk stopped at no request for help
abbrev pub IsNoHelp : Option (Text × List Text) → Type 0
IsNoHelp None = ⊤
IsNoHelp (Some p) = bytes_eq p.0 (codes "help") ≡ false

abbrev NamesNoHelp : Step → Type 0
NamesNoHelp (w.subcommand name) = bytes_eq name (codes "help") ≡ false
NamesNoHelp _ = ⊤

plain_names : (c : List Rule) (waiting : Waiting) (word : Text) (h : Held) → NamesNoHelp (plain_word c waiting word h).1
plain_names c w.idle word h = tt
plain_names c (w.option id) word h = tt
plain_names c w.positional word h = tt

after_flag_names : (c : List Rule) (waiting : Waiting) (word : Text) (h : Held) (o : Outcome) → NamesNoHelp (after_flag c waiting word h o).1
after_flag_names c waiting word h w.done = tt
after_flag_names c waiting word h (w.waits id) = tt
after_flag_names c waiting word h w.plain = plain_names c waiting word h
after_flag_names c waiting word h w.refused = plain_names c waiting word h

short_names : (c : List Rule) (waiting : Waiting) (word : Text) (o : Option Text) (h : Held) → NamesNoHelp (short_or_plain c waiting word o h).1
short_names c waiting word None h = plain_names c waiting word h
short_names c waiting word (Some flags) h = after_flag_names c waiting word (w.bundle c flags h).0 (w.bundle c flags h).1

long_names : (c : List Rule) (waiting : Waiting) (word : Text) (o : Option (Text × Option Text)) (h : Held) → NamesNoHelp (long_or_other c waiting word o h).1
long_names c waiting word (Some p) h = after_flag_names c waiting word (long_met c (arg_by_long c p.0) p.1 h).0 (long_met c (arg_by_long c p.0) p.1 h).1
long_names c waiting word None h = short_names c waiting word (short_of word) h

module _ (s : Shape) (names : Names) (helps : s.disable_help_subcommand ≡ false) where
  other_names : (o : Option Text) (waiting : Waiting) (position : ℕ) (word : Text) (h : Held) → other_fault s o word h ≡ []
      → NamesNoHelp (subcommand_or_other s.rules o waiting position word h).1
  other_names (Some name) waiting position word h none = go (bytes_eq name (codes "help")) s.disable_help_subcommand helps none
    where
      go : (b d : Bool) → d ≡ false → cond (b && not d) (kind.DisplayHelp ∷ kind.InvalidSubcommand ∷ []) [] ≡ [] → b ≡ false
      go false d off none = refl
      go true false off none = cc
      go true true off none = cc
  other_names None waiting position word h none = go (bytes_eq word (45 ∷ 45 ∷ []))
    where
      go : (b : Bool) → NamesNoHelp (cond b (h, w.trailing position) (long_or_other s.rules waiting word (long_of word) h)).1
      go true = tt
      go false = long_names s.rules waiting word (long_of word) h

  word_names : (is_trailing : Bool) (waiting : Waiting) (position : ℕ) (word : Text) (h : Held) → word_fault s names is_trailing waiting word h ≡ []
      → NamesNoHelp (word_met s.rules names is_trailing waiting position word h).1
  word_names true waiting position word h none = tt
  word_names false waiting position word h none = other_names (subcommand_met names waiting word) waiting position word h none

  step_names : (word : Text) (v : Walk) (h : Held) (step : Step) → v.stopped ≡ None → NamesNoHelp step → IsNoHelp (after_step s.rules word v h step).stopped
  step_names word v h (w.next waiting) going named = subst IsNoHelp (sym going) tt
  step_names word v h (w.trailing position) going named = subst IsNoHelp (sym going) tt
  step_names word v h (w.subcommand name) going named = named
  step_names word v h w.value going named = go (arg_by_index s.rules v.position)
    where
      go : (o : Option Rule) → IsNoHelp (to_positional s.rules o word v h).stopped
      go None = subst IsNoHelp (sym going) tt
      go (Some a) = tt

  turn_names : (v : Walk) (word : Text) → turn_fault s names v word ≡ [] → IsNoHelp v.stopped → IsNoHelp (walked s.rules names v word).stopped
  unfolding walked
  turn_names v word none before = go v.stopped refl none before
    where
      met : Held × Step
      met = word_met s.rules names v.is_trailing v.waiting v.position word v.held

      go : (o : Option (Text × List Text)) → v.stopped ≡ o
          → cond (is_some o) [] (or_else (word_fault s names v.is_trailing v.waiting word v.held) (step_fault s v.position met.0 met.1)) ≡ []
          → IsNoHelp o → IsNoHelp (walked_from s.rules names o v word).stopped
      go (Some p) is none before = before
      go None is none before = step_names word v met.0 met.1 is
          (word_names v.is_trailing v.waiting v.position word v.held (first_none _ (step_fault s v.position met.0 met.1) none))

  pub walk_names : (words : List Text) (v : Walk) → walk_fault s names v words ≡ [] → IsNoHelp v.stopped
      → IsNoHelp (fold (walked s.rules names) v words).stopped
  unfolding walk_fault
  walk_names [] v none before = before
  walk_names (word ∷ rest) v none before =
      walk_names rest (walked s.rules names v word) (second_none (turn_fault s names v word) _ none)
      (turn_names v word (first_none _ (walk_fault s names (walked s.rules names v word) rest) none) before)
