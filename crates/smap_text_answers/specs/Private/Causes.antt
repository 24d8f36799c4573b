-- What is said of a file that gives no map when it is read again.
use Rattle.std.specs.Prelude.{◌≡◌, List, ℕ}
use Rattle.smap_replies.specs.declared.files.UnreadCause.{UnreadCause}
use Rattle.smap_trace.specs.declared.maps.NoMap.{NoMap}
use Rattle.smap_trace.specs.declared.maps.NoMap.TheVariants.{Unnamed, Unread, Refused, Memory}
use Rattle.smap_text_answers.specs.UrlLines.{misfit_text, refused_text, unread_text}

-- this, by why there is none: nothing, where memory ran out
abbrev pub SaysWhy : NoMap → (path text : List ℕ) → Type 0
SaysWhy Unnamed path text = text ≡ misfit_text path
SaysWhy Unread path text = (cause : UnreadCause) × (text ≡ unread_text path cause)
SaysWhy (Refused refusal) path text = text ≡ refused_text path refusal
SaysWhy Memory path text = ⊥
