use Rattle.std.proofs.Common.{◌∙◌, ◌++◌, subst, sym}
use Rattle.std.proofs.lemmas.Bool.{cond-false, cond-true}
use Rattle.smap_io.specs.Sequences.{kept, without_sequences}
use Rattle.smap_c.specs.Private.Rewriting.{EndsRewriting}
use Rattle.smap_c.proofs.rewriting.rewrite_text.Goals as goal

pub returns-then-options : goal.returns-then-options
returns-then-options c =
    let options = c.args.options.now in
    let text = c.args.text.now in
    let read = (λ i. kept (c.new-stripped.ensures.none i ++ (c.new-stripped.ensures.over i).left.now) 0 (c.new-stripped.ensures.all i))
    ∙ sym (cond-true options.strip_ansi (without_sequences text) text c.if-options.true) in
    subst (λ read. EndsRewriting options c.args.table.now read c.rewrite_read.new.output.bytes.items c.rewrite_read.result) read c.rewrite_read.ensures

pub returns-else-options : goal.returns-else-options
returns-else-options c =
    let options = c.args.options.now in
    let text = c.args.text.now in
    let read = sym (cond-false options.strip_ansi (without_sequences text) text c.if-options.false) in
    subst (λ read. EndsRewriting options c.args.table.now read c.rewrite_read-else-options.new.output.bytes.items c.rewrite_read-else-options.result) read
    c.rewrite_read-else-options.ensures
