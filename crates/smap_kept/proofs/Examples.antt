-- The definitions on small examples.
use Rattle.std.proofs.Common.{◌≡◌, ℕ, false, [], ◌∷◌, Some, None, codes, refl}
use Rattle.smap_kept.specs.Bounded.{bytes_of}
use Rattle.smap_kept.specs.Kept.{KeptSeen, answer, asked_for, forgotten, with_value, with_none}
use Rattle.smap_kept.specs.OwnUrls.{mark}
use Rattle.smap_kept.specs.declared.answer.KeptAnswer.TheVariants.{Known, NoneKnown, Wanted}
use Rattle.smap_kept.specs.declared.answer.NoValue.TheVariants.{Failed, Missing}
use Rattle.smap_kept.specs.declared.bounded.Counted.{Counted}

-- two values of 3 bytes, and one URL that had none until 5; there is room for one URL more that stands for itself
abbrev value : ℕ → Counted ℕ
value n = record { value = n; bytes = 3 }

abbrev kept : KeptSeen ℕ
kept = record {
  values = (codes "a:/f?1", value 1) ∷ (codes "a:/f", value 2) ∷ [];
  nones = (codes "a:/g", record { value = record { why = Failed; until = Some 5 }; bytes = 0 }) ∷ [];
  most = 280;
  own = record { urls = (codes "a:/f?1", mark) ∷ []; most = 270; are_all = false };
  asked = 0;
  hits = 0;
  dropped = 0;
}

-- the URL under which something was put has its own, and others what they have without their query
own : answer 0 kept (codes "a:/f?1") ≡ Known 1
own = refl

cut : answer 0 kept (codes "a:/f?2#x") ≡ Known 2
cut = refl

failed : answer 4 kept (codes "a:/g?v") ≡ NoneKnown Failed
failed = refl

past : answer 5 kept (codes "a:/g") ≡ Wanted
past = refl

-- what it has without its query is no answer for it, also where its own was forgotten
forgotten_is_wanted : answer 0 (forgotten (codes "a:/f?1") kept) (codes "a:/f?1") ≡ Wanted
forgotten_is_wanted = refl

-- so has one that is put, and one for which there is no room any more
abbrev third : KeptSeen ℕ
third = with_value (codes "a:/f?3") (value 3) (with_value (codes "a:/f?2") (value 2) kept)

all_own : answer 0 (forgotten (codes "a:/f?3") third) (codes "a:/f?3") ≡ Wanted
all_own = refl

-- and then all have
any_own : answer 0 (with_value (codes "a:/f") (value 2) third) (codes "a:/f?4") ≡ Wanted
any_own = refl

-- 137 and 135 bytes
bytes_of_two : bytes_of kept.values ≡ 272
bytes_of_two = refl

-- the last of three does not fit
third_goes : (with_value (codes "a:/h") (value 3) kept).values ≡ (codes "a:/h", value 3) ∷ (codes "a:/f?1", value 1) ∷ []
third_goes = refl

one_dropped : (with_value (codes "a:/h") (value 3) kept).dropped ≡ 1
one_dropped = refl

-- what was asked for stays
asked_stays : (with_value (codes "a:/h") (value 3) (asked_for 0 kept (codes "a:/f?2"))).values ≡ (codes "a:/h", value 3) ∷ (codes "a:/f", value 2) ∷ []
asked_stays = refl

-- one that is too large stands alone
alone : (with_value (codes "a:/h") (record { value = 3; bytes = 999 }) kept).values ≡ (codes "a:/h", record { value = 3; bytes = 999 }) ∷ []
alone = refl

-- that there is none takes the value away
taken : answer 9 (with_none (codes "a:/f") (record { value = record { why = Missing; until = None }; bytes = 0 }) kept) (codes "a:/f") ≡ NoneKnown Missing
taken = refl
