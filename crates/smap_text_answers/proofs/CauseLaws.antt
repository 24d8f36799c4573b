-- Why a URL has no map, by what reading its file again comes to.
use Rattle.std.specs.Prelude.{◌≡◌, ◌⊎◌, ℕ, Bool, List, Option}
use Rattle.std.proofs.Common.{inl, inr, subst, sym}
use Rattle.url.specs.Parts.{Parts}
use Rattle.smap_record.specs.Record.{MapRecord}
use Rattle.smap_replies.specs.Files.{MayRead}
use Rattle.smap_trace.specs.declared.maps.NoMap.{NoMap}
use Rattle.smap_trace.specs.declared.maps.NoMap.TheVariants.{Unnamed, Unread, Refused, Memory}
use Rattle.smap_text_answers.specs.Loader.{FailsBy, IsUsable}
use Rattle.smap_text_answers.specs.Private.Causes.{SaysWhy}
use Rattle.smap_text_answers.specs.Told.{Said}
use Rattle.smap_text_answers.specs.UrlLines.{IsCause, late_text}

module _ (Reads : MayRead) (paths : Bool) (base : Option Parts) (k number : ℕ) (fit : Option ℕ) (url path text : List ℕ) where
  -- it gives none
  pub said_cause : (why : NoMap) → FailsBy Reads paths base k number fit why url path → SaysWhy why path text → IsCause Reads paths base k number fit url path text
  unfolding IsCause
  said_cause Unnamed fails says = inr (inr (inl (fails, says)))
  said_cause Unread unread says = inl (unread, says)
  said_cause (Refused refusal) (bytes, read, refused) says = inr (inl (bytes, refusal, read, refused, says))
  said_cause Memory fails says = absurd says

  -- or one now
  pub late_cause : (stated : MapRecord) (file_bytes : ℕ) (said : Said) → IsUsable Reads paths base k number fit url path stated file_bytes said → text ≡ late_text path
      → IsCause Reads paths base k number fit url path text
  unfolding IsCause
  late_cause stated file_bytes said usable is = inr (inr (inr ((stated, file_bytes, said, usable), is)))

-- it is reported so, or that there was no memory to do that
pub fails_told : (Reads : MayRead) (paths : Bool) (base : Option Parts) (k number : ℕ) (fit : Option ℕ) (url path : List ℕ) (why told : NoMap)
    → FailsBy Reads paths base k number fit why url path → (told ≡ why) ⊎ (told ≡ Memory) → FailsBy Reads paths base k number fit told url path
fails_told Reads paths base k number fit url path why told fails (inl same) = subst (λ w. FailsBy Reads paths base k number fit w url path) (sym same) fails
fails_told Reads paths base k number fit url path why told fails (inr memory) = subst (λ w. FailsBy Reads paths base k number fit w url path) (sym memory) tt
