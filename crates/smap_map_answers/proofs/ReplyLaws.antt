-- That a map does not fit is reported.
use Rattle.std.proofs.Common.{◌≡◌, ◌&&◌, not, false, ℕ, List, Option, subst, sym, ap, ◌∙◌}
use Rattle.std.proofs.lemmas.Bool.{cond-false}
use Rattle.smap_command.specs.Options.{is_json}
use Rattle.smap_command.specs.declared.options.FitOptions.{FitOptions}
use Rattle.smap_fit.specs.Fit.{fit_in, fits}
use Rattle.smap_fit.specs.declared.fit.Fit.{Fit}
use Rattle.smap_index.specs.Parts.{joined}
use Rattle.smap_record.specs.Record.{MapRecord}
use Rattle.smap_replies.specs.Outcome.{answer, refused_answer}
use Rattle.smap_map_answers.specs.Fit.{IsFitReported, IsWhyTold, fit_line}

pub misfit_reported : (options : FitOptions) (map generated text : List ℕ) (stated : MapRecord) (fit : Fit) (why : Option (List ℕ)) (line : List ℕ)
    → fit ≡ fit_in text stated.sources (joined stated.parts) → IsWhyTold (options.explain && not (fits fit)) text stated fit why
    → line ≡ fit_line (is_json options.form) map generated fit why → fits fit ≡ false
    → IsFitReported options map generated text stated (refused_answer line)
misfit_reported options map generated text stated fit why line is told said misfits =
    let whole = fit_in text stated.sources (joined stated.parts) in
    record {
      why = why;
      told = subst (λ f. IsWhyTold (options.explain && not (fits f)) text stated f why) is told;
      said = ap refused_answer (said ∙ ap (λ f. fit_line (is_json options.form) map generated f why) is)
          ∙ sym (cond-false (fits whole) (answer (fit_line (is_json options.form) map generated whole why))
          (refused_answer (fit_line (is_json options.form) map generated whole why)) (ap fits (sym is) ∙ misfits));
    }
