use Rattle.std.proofs.Common.{refl}
use Rattle.smap_lines.specs.Editing.{devices_seen}
use Rattle.smap_lines.specs.Laws.RunEnds.{ends_wider}
use Rattle.smap_text_answers.specs.Request.{request_seen}
use Rattle.smap_text_answers.specs.StoreRun.{store_of}
use Rattle.smap_text_answers.proofs.StoreLaws.{front_from, looked_from, text_from}
use Rattle.smap_text_answers.proofs.text_over_store.RewritingStoreWork.run.Goals as goal

pub returns-clause-ends : goal.returns-clause-ends
returns-clause-ends g c =
    let made = c.rewrite_text in
    let sources = c.args.sources.now in
    let reads = g.Q.FileReader.gives c.args.self.now.request.now.maps.now.files.now in
    let old = store_of sources c.args.cache.now c.args.loader.now in
    let new = store_of sources made.new.cache made.new.loader in
    let before = devices_seen (g.R.ByteSource.seen c.args.input.now) (g.W.ByteSink.seen c.args.output.now) in
    let after = devices_seen (g.R.ByteSource.seen made.new.input) (g.W.ByteSink.seen made.new.output) in
    ends_wider made.result
    (λ counts is. text_from g.F.FileReader.gives g.F.FileReader.causes g.E.ByteSink.seen _ old new refl reads (request_seen c.args.self.now.request.now) sources before after counts _ _ _ is)
    (λ fault is. front_from g.F.FileReader.gives g.F.FileReader.causes g.E.ByteSink.seen _ old new refl reads (request_seen c.args.self.now.request.now) sources before after fault is) made.ensures.ends

pub returns-clause-looked : goal.returns-clause-looked
returns-clause-looked g c = (looked_from g.F.FileReader.gives g.F.FileReader.causes g.E.ByteSink.seen _ _ _ refl c.rewrite_text.ensures.looked).0

pub returns-clause-same_errors : goal.returns-clause-same_errors
returns-clause-same_errors g c = (looked_from g.F.FileReader.gives g.F.FileReader.causes g.E.ByteSink.seen _ _ _ refl c.rewrite_text.ensures.looked).1.errors

pub returns-clause-same_told : goal.returns-clause-same_told
returns-clause-same_told g c = (looked_from g.F.FileReader.gives g.F.FileReader.causes g.E.ByteSink.seen _ _ _ refl c.rewrite_text.ensures.looked).1.told
