-- What is known of why a map is refused, as numbers: the value of the faulty segment that is wrong, what it may be, and the
-- column of the segment.
use Rattle.std.specs.Prelude.{◌≡◌, ℕ, ◌-◌, ◌++◌, ℤ, pos, List, Option, None, Some, codes}
use Rattle.smap_explain.specs.Explain.{IsExplained}
use Rattle.smap_explain.specs.declared.explanation.Explanation.{Explanation}
use Rattle.smap_explain.specs.declared.explanation.Explanation.TheVariants as explained
use Rattle.smap_explain.specs.declared.explanation.Measure.{Measure}
use Rattle.smap_explain.specs.declared.explanation.SegmentFacts.{SegmentFacts}
use Rattle.smap_record.specs.declared.refusal.MapRefusal.{MapRefusal}
use Rattle.smap_verdicts.specs.Keys.{explanation_text}
use Rattle.smap_verdicts.specs.Refusal.{refusal_text}
use Rattle.smap_c.specs.Look.{flag_of}
use Rattle.smap_c.specs.declared.reason.Reason.{Reason}

-- nothing is known
abbrev pub no_reason : Reason
no_reason = record {
  value = pos 0;
  least = pos 0;
  most = pos 0;
  generated_column = 0;
  has_value = 0;
  has_least = 0;
  has_most = 0;
  has_column = 0;
}

abbrev pub signed_or_0 : Option ℤ → ℤ
signed_or_0 None = pos 0
signed_or_0 (Some number) = number

-- a column that counted from 1
abbrev pub column_from_0 : Option ℕ → ℕ
column_from_0 None = 0
column_from_0 (Some column) = column - 1

-- the value that is wrong, with the least and the most that it may be
abbrev pub measure_reason : Option Measure → Reason
measure_reason None = no_reason
measure_reason (Some measure) = record no_reason {
  value = measure.value;
  least = signed_or_0 measure.least;
  most = signed_or_0 measure.most;
  has_value = 1;
  has_least = flag_of measure.least;
  has_most = flag_of measure.most;
}

abbrev pub segment_reason : SegmentFacts → Reason
segment_reason facts = record (measure_reason facts.measure) {
  generated_column = column_from_0 facts.column;
  has_column = flag_of facts.column;
}

abbrev pub reason_of : Explanation → Reason
reason_of explained.Nothing = no_reason
reason_of explained.TooLarge = no_reason
reason_of (explained.NotJson facts) = no_reason
reason_of (explained.NotObject found) = no_reason
reason_of (explained.Key facts) = no_reason
reason_of (explained.Segment facts) = segment_reason facts
reason_of (explained.Build facts) = no_reason

-- the line of a refusal, and below it what is known
abbrev pub reported_text : MapRefusal → Explanation → List ℕ
reported_text why explanation = refusal_text why ++ (codes "\n" ++ explanation_text explanation)

-- this is said of the file of these bytes, which is refused so: the numbers of what is known of it, and the text
pub record IsReasonReported (bytes : List ℕ) (why : MapRefusal) (reason : Reason) (text : Option (List ℕ)) : Type 0 where
  pub explanation : Explanation
  pub known : IsExplained bytes why explanation
  pub numbers : reason ≡ reason_of explanation
  pub lines : text ≡ Some (reported_text why explanation)
